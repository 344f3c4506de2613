-- `tally::counting::Both::walk`: what is counted so far and what is left to count are the whole (`Walk`).
use Prim.Native.Nat.{◌+◌, ◌-◌}
use Rattle.tally.specs.Joined.{Walk}
use Rattle.tally.proofs.counting.Both.walk.Given as goal

abbrev pub invariant-loop-at : goal.invariant-loop-at
invariant-loop-at l = Walk l.self.table.now l.self.entries.now l.at.held l.at.rises l.at.own l.at.others

abbrev pub decreases-loop-at : goal.decreases-loop-at
decreases-loop-at l = (l.self.used - l.at.own) + (l.self.all - l.at.others)
