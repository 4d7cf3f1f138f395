-- Laws of a run of the greedy rule: the nodes that it takes, said without recursion, and the set that it then has.
use mathlib.Core.Path.{◌≡◌, refl, sym, ap, ◌∙◌}
use mathlib.Core.Bool.{true, or-false}
use mathlib.Core.List.{List, [], ◌∷◌}
use Prim.Native.Nat.{ℕ, zero, suc, ◌≤◌, ◌<◌}
use native.Mathlib.Omega.{arith}
use lib.ListN.{length, take, get_or}
use Rattle.laws.specs.Lists.{has}
use Rattle.model.specs.File.{Tree, Demand}
use Rattle.model.specs.Rules.{is_set}
use Rattle.model.specs.Plan.{plan_total}
use Rattle.model.specs.Greedy.{with_node, with_nodes, stops, takes, taken_from, greedy_nodes, greedy_set, greedy_total}
use Rattle.model.specs.Laws.{Takes, Rests, RunFrom, GreedyRun}
use Rattle.model.proofs.Plans.{plan_least}
use Rattle.model.proofs.Ascending.{empty_is_set}
use Rattle.model.proofs.WithNode.{with_node_is_set, length_with_nodes, has_with_nodes}
use Rattle.model.proofs.GreedySteps.{step_cases, only_takes, takes_not_rests}

module _ (t : Tree) (d : Demand) where
  -- ---- the nodes taken from any set

  -- a fact of them, by the first step
  taken_cases {ℓ} : (P : List ℕ → Type ℓ) (k : List ℕ) (b : ℕ) → (Rests t d k → P [])
      → ((v : ℕ) → Takes t d k v → P (v ∷ taken_from t d (with_node v k) b)) → P (taken_from t d k (suc b))
  unfolding taken_from
  taken_cases P k b = step_cases t d (λ s. P (elim s as (λ _. List ℕ) [ stops ↦ [] | takes v ↦ v ∷ taken_from t d (with_node v k) b ])) k

  taken_none : (k : List ℕ) (b : ℕ) → Rests t d k → taken_from t d k b ≡ []
  unfolding taken_from
  taken_none k zero p = refl
  taken_none k (suc b) p = taken_cases (λ g. g ≡ []) k b (λ _. refl) (λ v q. absurd (takes_not_rests t d q p))

  taken_cons : (k : List ℕ) (v b : ℕ) → Takes t d k v → taken_from t d k (suc b) ≡ v ∷ taken_from t d (with_node v k) b
  taken_cons k v b p =
      taken_cases (λ g. g ≡ v ∷ taken_from t d (with_node v k) b) k b (λ q. absurd (takes_not_rests t d p q)) (λ w q. rw (only_takes t d q p))

  taken_prefix : (k : List ℕ) (b j : ℕ) → j ≤ b → take j (taken_from t d k b) ≡ taken_from t d k j
  unfolding taken_from
  taken_prefix k zero zero l = refl
  taken_prefix k zero (suc j) l = absurd (omega arith)
  taken_prefix k (suc b) zero l = refl
  taken_prefix k (suc b) (suc j) l =
      taken_cases (λ g. take (suc j) g ≡ taken_from t d k (suc j)) k b (λ p. sym (taken_none k (suc j) p))
      (λ v p. rw (taken_cons k v j p) (ap (λ g. v ∷ g) (taken_prefix (with_node v k) b j (omega arith))))

  taken_is_set : (k : List ℕ) (b : ℕ) → is_set t k ≡ true → is_set t (with_nodes k (taken_from t d k b)) ≡ true
  unfolding taken_from with_nodes
  taken_is_set k zero h = h
  taken_is_set k (suc b) h =
      taken_cases (λ g. is_set t (with_nodes k g) ≡ true) k b (λ _. h)
      (λ v p. taken_is_set (with_node v k) b (with_node_is_set t v k p.site.0 p.site.1 p.is_open p.outside h))

  -- ---- runs from any set

  run_none : {k : List ℕ} {b : ℕ} → (0 < b → Rests t d k) → RunFrom t d k b []
  unfolding with_nodes
  run_none h = record { within = omega arith; steps = λ j l. absurd (omega arith); stop = h }

  run_cons : {k g : List ℕ} {v b : ℕ} → Takes t d k v → RunFrom t d (with_node v k) b g → RunFrom t d k (suc b) (v ∷ g)
  unfolding with_nodes
  run_cons {k = k} {g = g} {v = v} p r =
      record {
        within = omega arith;
        steps = λ j. elim j as (λ i. i < length (v ∷ g) → Takes t d (with_nodes k (take i (v ∷ g))) (get_or (v ∷ g) i 0)) [ zero ↦ λ _. p | suc i ↦ λ l. r.steps i (omega arith) ];
        stop = λ l. r.stop (omega arith);
      }

  run_rest : {k g : List ℕ} {v b : ℕ} → RunFrom t d k (suc b) (v ∷ g) → RunFrom t d (with_node v k) b g
  unfolding with_nodes
  run_rest r = record { within = omega arith; steps = λ j l. r.steps (suc j) (omega arith); stop = λ l. r.stop (omega arith) }

  taken_runs : (k : List ℕ) (b : ℕ) → RunFrom t d k b (taken_from t d k b)
  unfolding taken_from
  taken_runs k zero = run_none (λ h. absurd (omega arith))
  taken_runs k (suc b) =
      taken_cases (RunFrom t d k (suc b)) k b (λ p. run_none (λ _. p)) (λ v p. run_cons p (taken_runs (with_node v k) b))

  only_run : (k : List ℕ) (b : ℕ) (g : List ℕ) → RunFrom t d k b g → g ≡ taken_from t d k b
  unfolding taken_from with_nodes
  only_run k zero [] r = refl
  only_run k zero (v ∷ g) r = absurd (omega arith)
  only_run k (suc b) [] r = rw (taken_none k (suc b) (r.stop (omega arith)))
  only_run k (suc b) (v ∷ g) r =
      rw (taken_cons k v b (r.steps 0 (omega arith))) (ap (λ l. v ∷ l) (only_run (with_node v k) b g (run_rest r)))

  -- ---- the greedy rule: from the empty set

  pub greedy_runs : (b : ℕ) → GreedyRun t d b (greedy_nodes t d b)
  greedy_runs = taken_runs []

  pub only_greedy : (b : ℕ) (g : List ℕ) → GreedyRun t d b g → g ≡ greedy_nodes t d b
  only_greedy = only_run []

  pub greedy_prefix_lem : (b j : ℕ) → j ≤ b → take j (greedy_nodes t d b) ≡ greedy_nodes t d j
  greedy_prefix_lem = taken_prefix []

  -- the set has just the nodes taken
  pub greedy_set_has_lem : (b u : ℕ) → has (greedy_set t d b) u ≡ has (greedy_nodes t d b) u
  unfolding has
  greedy_set_has_lem b u = has_with_nodes [] (greedy_nodes t d b) u ∙ or-false _

  pub greedy_is_set_lem : (b : ℕ) → is_set t (greedy_set t d b) ≡ true
  greedy_is_set_lem b = taken_is_set [] b (empty_is_set t)

  pub greedy_within_lem : (b : ℕ) → length (greedy_set t d b) ≤ b
  greedy_within_lem b = omega (arith, length_with_nodes [] (greedy_nodes t d b), (greedy_runs b).within)

  pub greedy_no_less_lem : (b : ℕ) → plan_total t d b ≤ greedy_total t d b
  greedy_no_less_lem b = plan_least t d b (greedy_set t d b) (greedy_is_set_lem b) (greedy_within_lem b)
