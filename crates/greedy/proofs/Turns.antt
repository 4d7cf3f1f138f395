-- A run of the greedy rule, step by step: what the next step adds to the nodes, the set and the total.
use mathlib.Core.Path.{◌≡◌, refl, sym, ap, ◌∙◌}
use mathlib.Core.List.{List, [], ◌∷◌, ◌++◌}
use Prim.Native.Nat.{ℕ, suc, ◌-◌, ◌≤◌, ◌<◌}
use native.Mathlib.Decide.{dec_lt}
use native.Mathlib.Omega.{arith}
use lib.ListN.{length, take, get_or, get_or-eq_default}
use lib.Seq.{take_all, take-suc}
use Rattle.laws.specs.FirstGreatest.{FirstGreatest}
use Rattle.model.specs.File.{Tree, Demand}
use Rattle.model.specs.Bill.{whole, cachable, total}
use Rattle.model.specs.Greedy.{with_node, with_nodes, taken_from, greedy_nodes, greedy_set, greedy_total}
use Rattle.model.specs.Preorder.{Preorder}
use Rattle.model.specs.Laws.{Takes, Rests}
use Rattle.model.proofs.GreedySteps.{only_takes, takes_not_rests}
use Rattle.model.proofs.GreedyRuns.{greedy_runs, greedy_prefix_lem}
use Rattle.greedy.specs.Savings.{is_passed_over, saving}
use Rattle.greedy.proofs.Saved.{saving_within_total}
use Rattle.greedy.proofs.Steps.{search_takes, search_total, search_rests}

with_nodes_snoc : (k vs : List ℕ) (v : ℕ) → with_nodes k (vs ++ (v ∷ [])) ≡ with_node v (with_nodes k vs)
unfolding with_nodes
with_nodes_snoc k [] v = refl
with_nodes_snoc k (u ∷ us) v = with_nodes_snoc (with_node u k) us v

module _ (t : Tree) (d : Demand) where
  pub greedy_begins : greedy_set t d 0 ≡ []
  unfolding taken_from with_nodes
  greedy_begins = refl

  module _ (k b : ℕ) (h : b < k) where
    -- the nodes of the whole run
    abbrev g : List ℕ
    g = greedy_nodes t d k

    set_after : (j : ℕ) → j ≤ k → greedy_set t d j ≡ with_nodes [] (take j g)
    set_after j l = ap (with_nodes []) (sym (greedy_prefix_lem t d k j l))

    step_long : {x : ℕ} → Takes t d (greedy_set t d b) x → b < length g
    step_long p =
        elim (dec_lt b (length g)) [
          | yes l ↦ l
          | no l ↦
              let all : with_nodes [] g ≡ greedy_set t d b = ap (with_nodes []) (sym (take_all b g (omega arith))) ∙ sym (set_after b (omega arith)) in
              absurd (takes_not_rests t d p (rw all at ((greedy_runs t d k).stop (omega arith))))
        ]

    step_here : b < length g → Takes t d (greedy_set t d b) (get_or g b 0)
    step_here l = rw (set_after b (omega arith)) ((greedy_runs t d k).steps b l)

    -- a node is taken: it is the next of the run, and the set has it besides
    step_taken : {x : ℕ} → Takes t d (greedy_set t d b) x → (x ≡ get_or g b 0) × (greedy_set t d (suc b) ≡ with_node x (greedy_set t d b))
    step_taken {x} p =
        let l = step_long p in
        let e : x ≡ get_or g b 0 = only_takes t d p (step_here l) in
        (e, rw (set_after (suc b) (omega arith), take-suc g b 0 l, with_nodes_snoc [] (take b g) (get_or g b 0), ← e, ← set_after b (omega arith)))

    -- no node lowers the total: the run has ended, and every later step finds the same set
    run_rested : Rests t d (greedy_set t d b) → (j : ℕ) → b ≤ j → j < k → (0 ≡ get_or g j 0) × (greedy_set t d (suc j) ≡ greedy_set t d b)
    run_rested p j from to =
        let short : length g ≤ b = elim (dec_lt b (length g)) [
          | yes l ↦ absurd (takes_not_rests t d (step_here l) p)
          | no l ↦ omega arith
        ] in (
          sym (get_or-eq_default g 0 (omega arith)),
          rw (set_after (suc j) (omega arith), set_after b (omega arith), take_all (suc j) g (omega arith), take_all b g short),
        )

    -- ---- by a search

    module _ (pre : Preorder t) (part : (c : ℕ) → cachable d c ≤ whole d c) {site most : ℕ}
        (found : FirstGreatest (is_passed_over t (greedy_set t d b)) (saving t d (greedy_set t d b)) t.count site most) where
      -- where no site saves
      pub found_none : most ≡ 0 → (j : ℕ) → b ≤ j → j < k → (0 ≡ get_or g j 0) × (greedy_total t d (suc j) ≡ greedy_total t d b)
      found_none e j from to =
          let rested = run_rested (search_rests t d pre part (greedy_set t d b) site most found e) j from to in
          (rested.0, ap (total t d) rested.1)

      module _ (saves : 0 < most) where
        takes_found : Takes t d (greedy_set t d b) site
        takes_found = search_takes t d pre part (greedy_set t d b) site most found saves

        pub found_node : site ≡ get_or g b 0
        found_node = (step_taken takes_found).0

        pub found_set : greedy_set t d (suc b) ≡ with_node site (greedy_set t d b)
        found_set = (step_taken takes_found).1

        pub found_within : most ≤ greedy_total t d b
        found_within = let e = (found.held saves).2 in omega (arith, saving_within_total t d pre part (greedy_set t d b) site)

        pub found_total : greedy_total t d (suc b) ≡ greedy_total t d b - most
        found_total = ap (total t d) found_set ∙ search_total t d pre part (greedy_set t d b) site most found saves
