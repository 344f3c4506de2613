-- `members::bytes::eight`: the byte holds the answers so far (`Packed`).
use Rattle.members.proofs.Packing.{Packed}
use Rattle.members.proofs.bytes.eight.Given as goal

abbrev pub invariant-loop-i : goal.invariant-loop-i
invariant-loop-i l = Packed l.table l.ids l.from l.i l.byte
