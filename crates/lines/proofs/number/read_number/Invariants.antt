-- `lines::number::read_number`: `Kept` of `Digits` goes through the loop.
use mathlib.Core.Path.{◌≡◌}
use Prim.Native.Nat.{◌^◌, ◌<◌}
use Rattle.lines.proofs.Digits.{Kept}
use Rattle.lines.proofs.number.read_number.Given as goal

abbrev pub invariant-loop-c : goal.invariant-loop-c
invariant-loop-c l = record { counted : l.count ≡ l.c-index; fits : l.v < 2 ^ 64; kept : Kept l.line l.place l.v l.c-index }
