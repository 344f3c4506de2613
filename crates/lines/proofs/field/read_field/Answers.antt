-- `lines::field::read_field`: a number that is not used, a name that does not stand there, or the number behind it.
use mathlib.Core.Path.{sym, ◌∙◌}
use Rattle.rules.proofs.laws.line.Places.{text_says}
use Rattle.lines.proofs.Fields.{field_off, field_none, field_on}
use Rattle.lines.proofs.field.read_field.Goals as goal

pub returns-then-not-used : goal.returns-then-not-used
returns-then-not-used c = field_off _ _ _ _ c.if-not-used.true c.requires

pub returns-in_err-next : goal.returns-in_err-next
returns-in_err-next c = c.from_residual.ensures ∙ field_none _ _ _ _ c.if-not-used.false c.in_err-next.ensures

pub read_number-requires : goal.read_number-requires
read_number-requires c = (text_says _ _ _ _ _ (sym c.in_ok-next.ensures)).1

pub returns : goal.returns
returns c = field_on _ _ _ _ _ _ _ c.if-not-used.false c.in_ok-next.ensures c.read_number.ensures
