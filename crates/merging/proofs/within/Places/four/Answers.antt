-- `merging::within::Places::four`: so many turns over common ids (`common`).
use Prim.Native.Nat.{◌-◌}
use native.Mathlib.Omega.{arith}
use mathlib.Core.Path.{◌≡◌, refl}
use Rattle.merging.proofs.Inside.{turned_to, common}
use Rattle.merging.proofs.within.Places.four.Goals as goal

pub loop-preserved : goal.loop-preserved
loop-preserved g c =
    let v = c.loop.invariant in
    let k = c.loop.counter in
    let left = c.loop.left in
    let e = c.less-left.ensures in
    let i : c.args.left.own - 1 - k ≡ left.own - 1 = turned_to left.own k _ v.own in
    let j : c.args.left.others - 1 - k ≡ left.others - 1 = turned_to left.others k _ v.others in
    record {
      own = omega arith;
      others = omega arith;
      place = omega arith;
      filling = rw (c.put.ensures, e.0, e.1, e.2) (common v.filling (left.place - 1) (omega arith) _ _ (omega arith) (omega arith) (rw (i, j) at (c.requires.1.1 k (omega arith))) refl (rw (e.0, e.1) at c.join-length.ensures));
    }
