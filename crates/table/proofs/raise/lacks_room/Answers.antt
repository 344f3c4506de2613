-- An id that stands has its place, and an id that does not needs one where it is given a length.
use Rattle.std.proofs.Common.{◌≡◌, arith}
use Rattle.rules.specs.meaning.Lengths.{join}
use Rattle.rules.specs.meaning.Table.{length_of}
use Rattle.table.proofs.Raising.{room_here, room_new}
use Rattle.table.proofs.raise.lacks_room.Goals as goal

pub returns-in-Some : goal.returns-in-Some
returns-in-Some c =
    let e = c.args.id in
    let t = c.args.table.now in
    room_here t e (join (length_of t e) c.args.length) c.requires (λ z. absurd (omega (arith, z, c.in-Some.ensures.above_zero)))

pub returns-else-length-ne0 : goal.returns-else-length-ne0
returns-else-length-ne0 c =
    let none : length_of c.args.table.now c.args.id ≡ 0 = c.in-None.ensures in
    let zero : join (length_of c.args.table.now c.args.id) 0 ≡ 0 = omega (arith, none) in
    rw c.if-length-ne0.false (room_here _ _ _ c.requires (λ z. zero))

pub returns-then-length-ne0 : goal.returns-then-length-ne0
returns-then-length-ne0 c =
    let none : length_of c.args.table.now c.args.id ≡ 0 = c.in-None.ensures in
    room_new c.args.table.now c.args.id _ c.held.result none (omega (arith, none)) c.held.ensures
