-- `line`: the line of node x with a serving node at depth a, which is word 0 or behind the one that is being stored.
use native.Mathlib.Omega.{arith}
use Rattle.table.proofs.Beside.{first_word, line_after}
use Rattle.table.proofs.Around.line.Goals as goal

pub returns-then-x-eq0 : goal.returns-then-x-eq0
returns-then-x-eq0 c = λ l e. first_word c.args.self.now.before.now c.args.self.now.behind.now c.requires (omega arith) l

pub returns : goal.returns
returns c = λ l e. line_after c.args.self.now.before.now c.args.self.now.behind.now c.requires (omega arith) l e c.line_at.ensures c.entries.ensures
