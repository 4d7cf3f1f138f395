-- The loop over the budget: the words, the total and both buffers after b steps.
use mathlib.Core.Path.{◌≡◌, refl, sym, ap, ◌∙◌}
use mathlib.Core.List.{List, [], ◌∷◌, ◌++◌, map}
use Prim.Native.Nat.{ℕ, zero, suc, ◌+◌, ◌*◌, ◌-◌, ◌≤◌, ◌<◌}
use native.Mathlib.Nat.{add-zero}
use native.Mathlib.Numerals.{add-one}
use native.Mathlib.Omega.{arith}
use lib.ListN.{length, take, drop, set, get_or, replicate}
use lib.Seq.{sets}
use Rattle.laws.specs.Lists.{range}
use Rattle.laws.specs.FirstGreatest.{FirstGreatest}
use Rattle.laws.specs.Fronts.{FrontOnly}
use Rattle.laws.proofs.Lists.{entries_padded, length_of_range}
use Rattle.laws.proofs.Fronts.{front_only_then}
use Rattle.laws.proofs.Stores.{length_part, sets_front, sets_part, loop_begins, loop_turns}
use Rattle.model.specs.File.{Tree, Demand, tree_of, demand_of, budget_of, most_budget}
use Rattle.model.specs.Bill.{total}
use Rattle.model.specs.Greedy.{with_node, greedy_nodes, greedy_set, greedy_total}
use Rattle.model.specs.Calls.{greedy_totals, greedy_row}
use Rattle.model.specs.Accepted.{Sound}
use Rattle.model.proofs.Accepted.{accepted_header}
use Rattle.model.proofs.GreedyRuns.{greedy_runs}
use Rattle.model.proofs.Written.{length_greedy_totals, length_greedy_row}
use Rattle.node_words.specs.Words.{node_words, NodeRoom, Measured}
use Rattle.node_words.proofs.Words.{room_sound, room_some, room_kept}
use Rattle.std.specs.Prelude.{Some, None}
use Rattle.greedy.specs.declared.Found.{Found}
use Rattle.greedy.specs.Savings.{is_closed, is_passed_over, saving}
use Rattle.greedy.specs.Words.{serving_distance_word, mark_word, marked_sites, saving_from, Wrote, DistancesStored, Current, Gathers, Prepared, Free, Finds, SiteTaken}
use Rattle.greedy.specs.Run.{GreedyRoom, Filled, GreedyWritten}
use Rattle.greedy.proofs.EmptySet.{serving_distance_none}
use Rattle.greedy.proofs.Words.{marks_kept, marked_none, stored_kept}
use Rattle.greedy.proofs.BestSite.{none_saves, search_finds_site}
use Rattle.greedy.proofs.Steps.{not_passed}
use Rattle.greedy.proofs.Turns.{greedy_begins, found_none, found_node, found_set, found_within, found_total}

-- ---- before the first step

module _ {file : List ℕ} {n : ℕ} {s r p q l : List ℕ} (room : NodeRoom file n s) (measured : Measured (tree_of file) r n) (front : FrontOnly (node_words * n) s r)
    (served : Wrote n serving_distance_word (λ _. 0) n r p) (cleared : Wrote n mark_word (λ _. 0) n p q) (reached : Gathers file n q l) where
  none_marked : marked_sites n l ≡ []
  none_marked = marks_kept n (λ e. omega arith) reached ∙ marked_none n q cleared.held

  pub prepared : Prepared file n s l
  prepared =
      let first : DistancesStored file n r = record { room = room_kept room front; distances = measured.first } in
      record {
        current = record {
          stored = stored_kept (λ e. omega arith) (stored_kept (λ e. omega arith) (stored_kept (λ e. omega arith) first served) cleared) reached;
          served = λ v h. rw none_marked
              (reached.others v serving_distance_word (omega arith) (λ e. omega arith)
              ∙ cleared.others v serving_distance_word (omega arith) (λ e. omega arith)
              ∙ served.held v h
              ∙ sym (serving_distance_none (tree_of file) (demand_of file) (room_sound room) v));
          reached = λ v h. rw none_marked (reached.held v h);
        };
        marks = none_marked;
        front = front_only_then (node_words * n) front (front_only_then (node_words * n) served.front (front_only_then (node_words * n) cleared.front reached.front));
      }

-- ---- the set and its total

-- after b steps the sites taken are marked, the words say what holds with them, and the total is theirs
pub record Standing (file : List ℕ) (n : ℕ) (words : List ℕ) (sum b : ℕ) : Type 0 where
  pub current : Current file n words
  pub marks : marked_sites n words ≡ greedy_set (tree_of file) (demand_of file) b
  pub total : sum ≡ greedy_total (tree_of file) (demand_of file) b

pub standing_first : {file : List ℕ} {n : ℕ} {words : List ℕ} {sum : ℕ} → Current file n words → marked_sites n words ≡ []
    → sum ≡ total (tree_of file) (demand_of file) [] → Standing file n words sum 0
standing_first {file} now marks e =
    let none = greedy_begins (tree_of file) (demand_of file) in
    record { current = now; marks = rw none marks; total = rw none e }

module _ {file : List ℕ} {n k : ℕ} {s : List ℕ} {sum b : ℕ} (st : Standing file n s sum b) (h : b < k) where
  abbrev t : Tree
  t = tree_of file

  abbrev d : Demand
  d = demand_of file

  ok : Sound t d
  ok = room_sound st.current.stored.room

  found : {site most : ℕ} → FirstGreatest (is_closed t) (saving_from s) n site most
      → FirstGreatest (is_passed_over t (greedy_set t d b)) (saving t d (greedy_set t d b)) t.count site most
  found first = rw (st.marks, st.current.stored.room.count) at (search_finds_site st.current first)

  -- where no site saves, every later step leaves the total and takes no node
  pub step_rests : Finds t s n None → (j : ℕ) → b ≤ j → j < k → (0 ≡ get_or (greedy_nodes t d k) j 0) × (sum ≡ greedy_total t d (suc j))
  step_rests none j from to =
      let rests = found_none t d k b h ok.preorder ok.part (found (none_saves t s (room_some st.current.stored.room) none)) refl j from to in
      (rests.0, st.total ∙ sym rests.1)

  module _ {x : Found} (finds : Finds t s n (Some x)) where
    pub step_free : Free n x.site s
    step_free =
        let outside = search_finds_site st.current finds.1 in
        let here = outside.held finds.0 in
        record { site = here.0; below = outside.below; outside = (not_passed t (marked_sites n s) x.site here.1).1 }

    pub step_node : x.site ≡ get_or (greedy_nodes t d k) b 0
    step_node = found_node t d k b h ok.preorder ok.part (found finds.1) finds.0

    pub step_within : x.saving.0 ≤ sum
    step_within = omega (arith, st.total, found_within t d k b h ok.preorder ok.part (found finds.1) finds.0)

    pub step_total : {left : ℕ} → left ≡ sum - x.saving.0 → left ≡ greedy_total t d (suc b)
    step_total e = omega (arith, st.total, found_total t d k b h ok.preorder ok.part (found finds.1) finds.0)

    pub step_stands : {l : List ℕ} {left : ℕ} → SiteTaken file n x.site s l → left ≡ sum - x.saving.0 → Standing file n l left (b + 1)
    step_stands done e =
        rw (add-one b)
        (record {
          current = done.current;
          marks = done.marks ∙ ap (with_node x.site) st.marks ∙ sym (found_set t d k b h ok.preorder ok.part (found finds.1) finds.0);
          total = step_total e;
        })

-- ---- both buffers

-- the totals up to that after step b, and the nodes of b steps, 0 where none was taken
pub record Written (file : List ℕ) (k b : ℕ) (totals nodes totals' nodes' : List ℕ) : Type 0 where
  pub totals_written : totals' ≡ sets totals 0 (map (greedy_total (tree_of file) (demand_of file)) (range 0 (suc b)))
  pub nodes_written : nodes' ≡ sets nodes 0 (map (λ j. get_or (greedy_nodes (tree_of file) (demand_of file) k) j 0) (range 0 b))

module _ {file : List ℕ} {k : ℕ} {totals nodes : List ℕ} where
  pub written_first : {sum : ℕ} {first : List ℕ} → sum ≡ total (tree_of file) (demand_of file) [] → first ≡ set totals 0 sum
      → Written file k 0 totals nodes first nodes
  written_first es ef =
      record {
        totals_written = ef ∙ loop_turns totals 0 _ 0 (loop_begins totals 0 _) refl (es ∙ ap (total (tree_of file) (demand_of file)) (sym (greedy_begins (tree_of file) (demand_of file))));
        nodes_written = loop_begins nodes 0 _;
      }

  pub written_next : {b x y : ℕ} {totals' nodes' totals'' nodes'' : List ℕ} → Written file k b totals nodes totals' nodes'
      → x ≡ greedy_total (tree_of file) (demand_of file) (suc b) → y ≡ get_or (greedy_nodes (tree_of file) (demand_of file) k) b 0
      → totals'' ≡ set totals' (b + 1) x → nodes'' ≡ set nodes' b y → Written file k (b + 1) totals nodes totals'' nodes''
  written_next {b = b} w ex ey et en =
      record {
        totals_written = et ∙ rw (add-one b, ← add-one (suc b)) (loop_turns totals 0 _ (suc b) w.totals_written (omega arith) ex);
        nodes_written = en ∙ loop_turns nodes 0 _ b w.nodes_written (omega arith) ey;
      }

  -- where the total stays and no node is taken, i steps more
  written_more : {b sum : ℕ} {totals' nodes' : List ℕ} → Written file k b totals nodes totals' nodes'
      → ((j : ℕ) → b ≤ j → j < k → (0 ≡ get_or (greedy_nodes (tree_of file) (demand_of file) k) j 0) × (sum ≡ greedy_total (tree_of file) (demand_of file) (suc j)))
      → (i : ℕ) → b + i ≤ k
      → Written file k (b + i) totals nodes (sets totals' (b + 1) (map (λ _. sum) (range 0 i))) (sets nodes' b (map (λ _. 0) (range 0 i)))
  written_more {b = b} {sum = sum} {totals' = totals'} {nodes' = nodes'} w same zero h =
      rw (add-zero b, ← loop_begins totals' (b + 1) (λ _. sum), ← loop_begins nodes' b (λ _. 0)) w
  written_more {b = b} {sum = sum} {totals' = totals'} {nodes' = nodes'} w same (suc i) h =
      let here = same (b + i) (omega arith) (omega arith) in
      let next : b + suc i ≡ b + i + 1 = omega arith in
      rw (next, ← add-one i)
      (written_next (written_more w same i (omega arith)) here.1 here.0
      (sym (loop_turns totals' (b + 1) (λ _. sum) i refl (omega arith) refl)) (sym (loop_turns nodes' b (λ _. 0) i refl refl refl)))

  pub written_rest : {b sum : ℕ} {totals' nodes' totals'' nodes'' : List ℕ} → Written file k b totals nodes totals' nodes'
      → ((j : ℕ) → b ≤ j → j < k → (0 ≡ get_or (greedy_nodes (tree_of file) (demand_of file) k) j 0) × (sum ≡ greedy_total (tree_of file) (demand_of file) (suc j)))
      → b ≤ k → Filled b k sum totals' nodes' totals'' nodes'' → Written file k k totals nodes totals'' nodes''
  written_rest {b = b} w same h filled =
      let all : b + (k - b) ≡ k = omega arith in
      rw (filled.totals_filled, filled.nodes_filled) (rw all at (written_more w same (k - b) (omega arith)))

-- ---- the steps that are left where none saves

copies : (n x i : ℕ) → replicate n x ≡ map (λ _. x) (range i n)
unfolding range
copies zero x i = refl
copies (suc n) x i = ap (λ l. x ∷ l) (copies n x (suc i))

-- a part of j entries that is filled is a run of stores
pub part_filled : (l xs : List ℕ) (i j x : ℕ) → i + j ≤ length l → xs ≡ replicate (length (take j (drop i l))) x
    → take i l ++ (xs ++ drop j (drop i l)) ≡ sets l i (map (λ _. x) (range 0 j))
part_filled l xs i j x h e =
    let long = length_part l i j h in
    ap (λ p. take i l ++ (p ++ drop j (drop i l))) (e ∙ rw long (copies j x 0))
    ∙ sets_part l i (map (λ _. x) (range 0 j)) j (length_of_range (λ _. x) 0 j) h

-- ---- after the last step

module _ (file : List ℕ) where
  row_by_entries : greedy_row file ≡ map (λ j. get_or (greedy_nodes (tree_of file) (demand_of file) (budget_of file)) j 0) (range 0 (budget_of file))
  unfolding greedy_row
  row_by_entries =
      let k = budget_of file in
      sym (entries_padded (greedy_nodes (tree_of file) (demand_of file) k) k (greedy_runs (tree_of file) (demand_of file) k).within)

pub budget_small : {file : List ℕ} {n k : ℕ} {words totals nodes : List ℕ} → GreedyRoom file n k words totals nodes → k ≤ most_budget
budget_small {file} given = omega (arith, given.budget, (accepted_header file given.room.accepted).budget)

pub run_ends : {file : List ℕ} {n k b : ℕ} {words totals nodes words' totals' nodes' : List ℕ} → GreedyRoom file n k words totals nodes
    → FrontOnly (node_words * n) words words' → Written file k b totals nodes totals' nodes' → b ≡ k → GreedyWritten file n words totals nodes words' totals' nodes'
unfolding greedy_totals
run_ends {file} {totals = totals} {nodes = nodes} given front w all =
    let written = rw (all, given.budget) at w in
    record {
      front = front;
      totals_after = written.totals_written ∙ sets_front totals (greedy_totals file) (omega (arith, length_greedy_totals file, given.totals_long, given.budget));
      nodes_after = written.nodes_written
          ∙ ap (sets nodes 0) (sym (row_by_entries file))
          ∙ sets_front nodes (greedy_row file) (omega (arith, length_greedy_row file, given.nodes_long, given.budget));
    }
