-- `parcels::clear_slots`: free slots in place of the first ones.
use Rattle.std.proofs.Common.{◌≡◌, length, take, arith, length-take}
use Rattle.parcels.proofs.TurnLaws.{clear_front}
use Rattle.parcels.proofs.clear_slots.Goals as goal

pub returns : goal.returns
returns c =
    let ys = c.args.slots.now in
    let end = c.smaller-end.result in
    let filled : length (take end ys) ≡ end = omega (arith, length-take end ys) in
    rw (c.fill.ensures.after (λ y h. h)) (rw (c.no_parcel.ensures, filled) (clear_front ys c.args.count end c.smaller-end.ensures))
