-- `merging::within::Places::one`: the table's part is lent on (`lent_on`), and comes back a turn further (`came_back`).
use native.Mathlib.Omega.{arith}
use mathlib.Core.Path.{refl}
use Rattle.merging.proofs.Inside.{source_id, source_length, lent_on, came_back}
use Rattle.merging.proofs.within.Places.one.Goals as goal

pub returns-clause-filling : goal.returns-clause-filling
returns-clause-filling g c =
    let f = c.requires.1 in
    let e = c.turn.ensures in
    came_back f _ refl c.turn.new.table _ _ _ e.place_lt_place.1 (e.by_index _ _ (lent_on f _ refl) (source_id f (omega arith)) (source_length f (omega arith)))
