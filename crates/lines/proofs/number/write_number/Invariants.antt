-- `lines::number::write_number`. Kept by the loop: the digits of the rest and then the buffer from the place on are what is to stand there in
-- the end, and the buffer before the place is as it was.
use mathlib.Core.Path.{◌≡◌}
use mathlib.Core.List.{◌++◌}
use Prim.Native.Nat.{◌+◌, ◌^◌, ◌≤◌, ◌<◌}
use lib.ListN.{length, take, drop}
use Rattle.rules.specs.meaning.Number.{digits}
use Rattle.lines.proofs.number.write_number.Given as goal

abbrev pub invariant-loop-rest : goal.invariant-loop-rest
invariant-loop-rest l =
    (digits l.rest ++ drop l.i l.out ≡ digits l.n ++ drop (l.place + length (digits l.n)) l.initial.out) × (take l.i l.out ≡ take l.i l.initial.out) × (l.i ≡ l.place + length (digits l.rest)) × (length l.out ≡ length l.initial.out) × (l.rest < 2 ^ 64) × (l.i ≤ length l.initial.out)

abbrev pub decreases-loop-rest : goal.decreases-loop-rest
decreases-loop-rest l = l.rest
