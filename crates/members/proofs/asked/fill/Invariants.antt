-- `members::asked::fill`: the bytes so far, with those still to be put, are all of them (`Filled`).
use Rattle.members.proofs.Packing.{Filled}
use Rattle.members.proofs.asked.fill.Given as goal

abbrev pub invariant-loop-i : goal.invariant-loop-i
invariant-loop-i l = Filled l.table l.ids l.initial.answers l.i l.answers
