-- `serve`: the nodes before v have their serving distances.
use Rattle.model.specs.File.{tree_of}
use Rattle.greedy.specs.Savings.{serving_distance}
use Rattle.greedy.specs.Words.{serving_distance_word, marked_sites, Wrote, DistancesStored}
use Rattle.greedy.proofs.serve.Given as goal

abbrev pub invariant-loop-v : goal.invariant-loop-v
invariant-loop-v l = DistancesStored l.file l.n l.initial.words × Wrote l.n serving_distance_word (serving_distance (tree_of l.file) (marked_sites l.n l.initial.words)) l.v l.initial.words l.words
