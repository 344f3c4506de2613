-- `groups::write::lay`: `room` says that the buffer keeps its length, so that it has room for the group; a turn's bytes are among the group's.
use Prim.Native.Nat.{◌≤◌}
use native.Mathlib.Omega.{arith}
use lib.ListN.{length}
use Rattle.rules.specs.meaning.Groups.{group_bytes}
use Rattle.rules.proofs.laws.group.Leb.{leb_some}
use Rattle.groups.proofs.Layings.{less_of, laying_none, laying_turn, laying_more, laying_end, laid_more, laid_end, laid_group, rest_is}
use Rattle.groups.proofs.write.lay.Goals as goal

pub loop-left-init : goal.loop-left-init
loop-left-init c = record {
  laying = laying_none _ _ c.requires.0 (omega (arith, c.write_leb-place.ensures.0));
  laid = laid_group _ _ _ _ c.requires.1 c.write_leb-place.ensures.0 c.write_leb-place.ensures.1;
}

pub overflow_sub-id : goal.overflow_sub-id
overflow_sub-id c = omega (arith, (laying_turn _ _ _ _ _ c.loop-left.invariant.laying c.in-len2-up.len_at_least).low)

pub overflow_sub-id-in-len2-up : goal.overflow_sub-id-in-len2-up
overflow_sub-id-in-len2-up c = omega (arith, (laying_turn _ _ _ _ _ c.loop-left.invariant.laying c.in-len2-up.len_at_least).low)

pub write_gap-middle-requires : goal.write_gap-middle-requires
write_gap-middle-requires c =
    omega (arith, (laying_turn _ _ _ _ _ c.loop-left.invariant.laying c.in-len2-up.len_at_least).split, leb_some (less_of c.loop-left.left.now))

pub overflow_sub-length : goal.overflow_sub-length
overflow_sub-length c = (laying_turn _ _ _ _ _ c.loop-left.invariant.laying c.in-len2-up.len_at_least).some

pub write_leb-place-requires-in-len2-up : goal.write_leb-place-requires-in-len2-up
write_leb-place-requires-in-len2-up c =
    omega (arith, (laying_turn _ _ _ _ _ c.loop-left.invariant.laying c.in-len2-up.len_at_least).split, c.write_gap-middle.ensures.0)

pub loop-left-preserved : goal.loop-left-preserved
loop-left-preserved c =
    let l = c.loop-left in
    let room : length (group_bytes c.args.entries.now) ≤ length l.out = omega arith in
    let written = c.write_leb-place-in-len2-up.ensures in
    record {
      laying = laying_more _ _ _ _ _ l.invariant.laying _ _ c.in-len2-up.len_at_least (rest_is l.left.now) (omega (arith, c.write_gap-middle.ensures.0, written.0));
      laid = laid_more _ _ _ _ _ l.invariant.laying _ _ l.invariant.laid _ _ _ _ _ c.in-len2-up.len_at_least (rest_is l.left.now) room c.write_gap-middle.ensures c.write_gap-middle.auto.out written.0 written.1;
    }

pub returns : goal.returns
returns c =
    let l = c.loop-left in
    (laying_end _ _ _ _ _ l.invariant.laying c.in_default.len_below, laid_end _ _ _ _ _ l.invariant.laying _ _ l.invariant.laid c.in_default.len_below)
