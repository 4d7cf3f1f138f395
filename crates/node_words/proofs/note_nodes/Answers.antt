-- `note_nodes`: stores the four words of each node, and changes nothing behind them.
use Rattle.laws.proofs.Fronts.{front_only_then}
use Rattle.node_words.proofs.Words.{room_kept}
use Rattle.node_words.proofs.Links.{node_words_hold}
use Rattle.node_words.proofs.note_nodes.Goals as goal

pub returns : goal.returns
returns c = let room = room_kept c.requires c.measure.ensures.front_only in record {
  node_words = node_words_hold _ room c.measure.ensures.measured c.link.ensures.links_only c.link.ensures.linked;
  front_only = front_only_then _ c.measure.ensures.front_only c.link.ensures.links_only.front;
}
