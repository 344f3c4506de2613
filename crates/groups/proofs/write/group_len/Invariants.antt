-- `groups::write::group_len`: kept by the loop is `Laying`.
use lib.ListN.{length}
use Rattle.groups.proofs.Layings.{Laying}
use Rattle.groups.proofs.write.group_len.Given as goal

abbrev pub invariant-loop-left : goal.invariant-loop-left
invariant-loop-left l = Laying l.entries l.left l.total l.before l.step

abbrev pub decreases-loop-left : goal.decreases-loop-left
decreases-loop-left l = length l.left
