-- `tally::counting::Both::four`: so many steps of the walk.
use Prim.Native.Nat.{◌+◌}
use Rattle.tally.specs.Joined.{Walk}
use Rattle.tally.proofs.counting.Both.four.Given as goal

abbrev pub invariant-loop-k : goal.invariant-loop-k
invariant-loop-k l = Walk l.self.table.now l.self.entries.now l.at.held l.rises (l.at.own + l.k) (l.at.others + l.k)
