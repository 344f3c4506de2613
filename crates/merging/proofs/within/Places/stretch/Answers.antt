-- `merging::within::Places::stretch`: what the four tests say of the two tables (`stretched`).
use Prim.Native.Nat.{◌-◌}
use native.Mathlib.Omega.{arith}
use Rattle.tally.proofs.Joint.{four_alike}
use Rattle.merging.proofs.Inside.{stretched}
use Rattle.merging.proofs.within.Places.stretch.Goals as goal

pub returns : goal.returns
returns g c = λ h.
    let left = c.args.left in
    stretched c.requires.1 (left.own - 4) (left.others - 4) (omega arith) (omega arith) (four_alike _ _ (left.own - 4) (left.others - 4) c.alike.ensures h)
