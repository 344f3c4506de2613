-- `groups::write::group_len`: what a turn measures is among the group's bytes, and these are few.
use native.Mathlib.Omega.{arith}
use Rattle.rules.proofs.laws.group.Groups.{never_past_961}
use Rattle.groups.proofs.Layings.{laying_none, laying_turn, laying_more, laying_end, rest_is}
use Rattle.groups.proofs.write.group_len.Goals as goal

pub loop-left-init : goal.loop-left-init
loop-left-init c = laying_none _ _ c.requires c.width-total.ensures.0

pub overflow_sub-id : goal.overflow_sub-id
overflow_sub-id c = omega (arith, (laying_turn _ _ _ _ _ c.loop-left.invariant c.in-len2-up.len_at_least).low)

pub overflow_sub-id-in-len2-up : goal.overflow_sub-id-in-len2-up
overflow_sub-id-in-len2-up c = omega (arith, (laying_turn _ _ _ _ _ c.loop-left.invariant c.in-len2-up.len_at_least).low)

pub overflow_sub-length : goal.overflow_sub-length
overflow_sub-length c = (laying_turn _ _ _ _ _ c.loop-left.invariant c.in-len2-up.len_at_least).some

pub overflow_add-total-in-len2-up : goal.overflow_add-total-in-len2-up
overflow_add-total-in-len2-up c =
    omega (arith, (laying_turn _ _ _ _ _ c.loop-left.invariant c.in-len2-up.len_at_least).split, never_past_961 _ c.requires, c.width.ensures, c.width-in-len2-up.ensures)

pub loop-left-preserved : goal.loop-left-preserved
loop-left-preserved c =
    laying_more _ _ _ _ _ c.loop-left.invariant _ _ c.in-len2-up.len_at_least (rest_is c.loop-left.left.now) (omega (arith, c.width.ensures, c.width-in-len2-up.ensures))

pub returns : goal.returns
returns c = laying_end _ _ _ _ _ c.loop-left.invariant c.in_default.len_below
