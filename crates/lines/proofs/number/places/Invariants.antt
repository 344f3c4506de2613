-- `lines::number::places`. Kept by the loop: the digits counted, and those of the rest, make the digits of the number.
use mathlib.Core.Path.{◌≡◌}
use Prim.Native.Nat.{◌+◌, ◌^◌, ◌<◌}
use lib.ListN.{length}
use Rattle.rules.specs.meaning.Number.{digits}
use Rattle.lines.proofs.number.places.Given as goal

abbrev pub invariant-loop-rest : goal.invariant-loop-rest
invariant-loop-rest l = (l.k + length (digits l.rest) ≡ length (digits l.n) + 1) × (l.rest < 2 ^ 64)

abbrev pub decreases-loop-rest : goal.decreases-loop-rest
decreases-loop-rest l = l.rest
