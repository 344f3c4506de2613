-- `merging::within::Places::fill`: nothing is left of the source (`finished`).
use native.Mathlib.Omega.{arith}
use Rattle.merging.proofs.Inside.{finished}
use Rattle.merging.proofs.within.Places.fill.Goals as goal

pub returns : goal.returns
returns g c = finished c.loop-left.invariant (omega arith)
