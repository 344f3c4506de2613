-- `groups::write::write_group`: no group, a buffer that it does not fit, or the group laid.
use mathlib.Core.Path.{sym}
use borrow.Author.Tests.{leb-true, leb-false}
use Rattle.groups.proofs.Answers.{written_none, written_short, written_all}
use Rattle.groups.proofs.write.write_group.Goals as goal

pub returns-then-not-is_group : goal.returns-then-not-is_group
returns-then-not-is_group c = written_none _ _ (sym c.if-not-is_group.ensures)

pub returns-then-not-fits : goal.returns-then-not-fits
returns-then-not-fits c = written_short _ _ (sym c.if-not-is_group.ensures) (leb-false _ _ (sym c.if-not-fits.ensures))

pub returns-else-not-fits : goal.returns-else-not-fits
returns-else-not-fits c =
    written_all _ _ (sym c.if-not-is_group.ensures) _ _ (leb-true _ _ (sym c.if-not-fits.ensures)) c.lay.ensures.0 c.lay.ensures.1
