-- `take_site`: the words of each node with one site more.
use Rattle.greedy.proofs.TakeSite.{marked_distances, marked_served, site_taken}
use Rattle.greedy.proofs.take_site.Goals as goal

pub serve-requires : goal.serve-requires
serve-requires c = record {
  distances_stored = (marked_distances c.requires.0 c.requires.1 c.relieve.ensures c.put.ensures, c.requires.1.site, c.requires.1.below);
  served_to = marked_served c.requires.0 c.requires.1 c.relieve.ensures c.put.ensures;
}

pub returns : goal.returns
returns c = site_taken c.requires.0 c.requires.1 c.relieve.ensures c.put.ensures c.serve.ensures
