-- `groups::write::write_gap`: both bytes of a short one, and else as any number is written.
use native.Mathlib.Omega.{arith}
use lib.ListN.{length-set}
use Rattle.rules.proofs.laws.group.Leb.{leb_some}
use Rattle.groups.proofs.Gaps.{short_gap, long_gap}
use Rattle.groups.proofs.write.write_gap.Goals as goal

pub bounds-out-place-then-n-lt16384 : goal.bounds-out-place-then-n-lt16384
bounds-out-place-then-n-lt16384 c = simp length-set (omega (arith, leb_some c.args.n, c.requires))

pub returns-then-n-lt16384 : goal.returns-then-n-lt16384
returns-then-n-lt16384 c = rw (c.from.ensures, c.from-then-n-lt16384.ensures) (short_gap _ _ _ c.requires c.if-n-lt16384.true)

pub returns-else-n-lt16384 : goal.returns-else-n-lt16384
returns-else-n-lt16384 c = long_gap _ _ _ c.requires _ _ c.write_leb.ensures.0 c.write_leb.ensures.1
