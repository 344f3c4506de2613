-- `rounds::union::walk`. Kept by the loop: what is laid and what those that are left come to is the whole.
use Prim.Native.Nat.{◌-◌}
use mathlib.Core.Path.{◌≡◌}
use lib.ListN.{length}
use Rattle.rounds.specs.Unions.{Laid}
use Rattle.rounds.proofs.union.walk.Given as goal

abbrev pub invariant-loop-at : goal.invariant-loop-at
invariant-loop-at l = Laid l.one l.other l.out l.at.one l.at.other l.at.laid × (length l.out ≡ length l.initial.out)

abbrev pub decreases-loop-at : goal.decreases-loop-at
decreases-loop-at l = l.places - l.at.laid
