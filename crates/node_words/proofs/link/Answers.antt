-- `link`: stores the first child and the next sibling of each node.
use Rattle.node_words.proofs.Words.{room_kept}
use Rattle.node_words.proofs.Links.{links_only_none, linked_last}
use Rattle.node_words.proofs.link.Goals as goal

pub loop-v-init : goal.loop-v-init
loop-v-init c = let room = room_kept c.requires c.clear.ensures.links_only.front in
    (room, linked_last _ room c.clear.ensures.unlinked, links_only_none _ _)
