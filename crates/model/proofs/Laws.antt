-- The laws of specs/Laws hold of every accepted file.
use mathlib.Core.Path.{◌≡◌, refl}
use mathlib.Core.Bool.{true}
use mathlib.Core.List.{List}
use Prim.Native.Nat.{ℕ}
use native.Mathlib.Nat.{mul-le-mul}
use Rattle.model.specs.File.{tree_of, demand_of}
use Rattle.model.specs.Tree.{at_or_below}
use Rattle.model.specs.Rules.{file_verdict, accepted}
use Rattle.model.specs.Bill.{link_load}
use Rattle.model.specs.Laws.{Lawful}
use Rattle.model.proofs.Verdicts.{is_passed_lem}
use Rattle.model.proofs.Accepted.{share_holds, accepted_sound}
use Rattle.model.proofs.Amounts.{ratio_within, bytes_within}
use Rattle.model.proofs.Nearest.{distance_grows, cost_is}
use Rattle.model.proofs.Loads.{links_total_lem}
use Rattle.model.proofs.BillLaws.{serving_serves, only_serving, cost_least_lem, cost_reached_lem, load_said_lem}
use Rattle.model.proofs.Bounds.{total_bound}
use Rattle.model.proofs.Words.{row_said_lem}
use Rattle.model.proofs.Ascending.{set_said_lem, set_ascends}
use Rattle.model.proofs.Sets.{all_sets_lem}
use Rattle.model.proofs.Order.{rank_said_lem, rank_irreflexive_lem, rank_transitive_lem, rank_total_lem, ties_said_lem}
use Rattle.model.proofs.Plans.{plan_ranks_first, only_plan}
use Rattle.model.proofs.Lower.{lower_first_lem, plan_lowest_lem}
use Rattle.model.proofs.WithNode.{has_with_node}
use Rattle.model.proofs.GreedyRuns.{greedy_runs, greedy_prefix_lem, only_greedy, greedy_is_set_lem, greedy_within_lem, greedy_no_less_lem, greedy_set_has_lem}

pub lawful : (file : List ℕ) → accepted file ≡ true → Lawful (tree_of file) (demand_of file)
unfolding accepted link_load at_or_below
lawful file fits =
    let t = tree_of file in
    let d = demand_of file in
    let passes = is_passed_lem (file_verdict file) fits in
    let ok = accepted_sound file passes in
    let pre = ok.preorder in
    let holds = share_holds file passes in
    record {
      distances_grow = distance_grows t pre;
      least_at_serving = λ k. cost_is t pre k d;
      loads_add_up = λ k. links_total_lem t d pre k ok.server ok.part;
      set_said = set_said_lem t;
      all_sets_exact = all_sets_lem t;
      rank_said = rank_said_lem t d;
      rank_irreflexive = rank_irreflexive_lem t d;
      rank_transitive = rank_transitive_lem t d;
      rank_total = λ k l g h. rank_total_lem t d k l (set_ascends t k g) (set_ascends t l h);
      plan_first = plan_ranks_first t d;
      plan_only = only_plan t d;
      totals_small = total_bound t d ok;
      greedy_total_is = λ b. refl;
      greedy_set_has = greedy_set_has_lem t d;
      greedy_is_set = greedy_is_set_lem t d;
      greedy_within = greedy_within_lem t d;
      greedy_no_less = greedy_no_less_lem t d;
      ties_said = ties_said_lem t;
      lower_first = lower_first_lem t pre;
      plan_lowest = λ b k u v lower. plan_lowest_lem t pre k u v lower d b;
      with_node_has = has_with_node;
      greedy_said = greedy_runs t d;
      greedy_prefix = greedy_prefix_lem t d;
      greedy_only = only_greedy t d;
      serving_said = serving_serves t pre;
      serving_only = only_serving t pre;
      cost_least = λ k. cost_least_lem t pre k d;
      cost_reached = λ k. cost_reached_lem t pre k d;
      load_said = λ k v z. load_said_lem t pre k v z d;
      server_load = λ k. refl;
      ratio_price_exact = λ c v p e b. mul-le-mul (ratio_within c _ p e (holds c)) (distance_grows t pre v c b);
      bytes_price_exact = λ c v x e b. mul-le-mul (bytes_within c _ x e (holds c)) (distance_grows t pre v c b);
      ratio_load_exact = λ c p e. ratio_within c _ p e (holds c);
      bytes_load_exact = λ c x e. bytes_within c _ x e (holds c);
      row_said = row_said_lem t pre;
    }
