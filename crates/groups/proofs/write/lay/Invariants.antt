-- `groups::write::lay`: kept by the loop are `Laying`, how many bytes are left, and what the buffer is with them.
use mathlib.Core.Path.{◌≡◌}
use Prim.Native.Nat.{◌+◌}
use lib.ListN.{length}
use Rattle.rules.specs.meaning.Groups.{group_bytes, fields_from}
use Rattle.rules.specs.meaning.Put.{put}
use Rattle.groups.proofs.Layings.{Laying}
use Rattle.groups.proofs.write.lay.Given as goal

abbrev pub invariant-loop-left : goal.invariant-loop-left
invariant-loop-left l = record {
  laying : Laying l.entries l.left l.place l.before l.step;
  laid : put l.out l.place (fields_from (l.before + l.step) l.left) ≡ put l.fn.out 0 (group_bytes l.entries);
}

abbrev pub decreases-loop-left : goal.decreases-loop-left
decreases-loop-left l = length l.left
