-- `report::said::write_said`: where there was no step, there is nothing to say.
use Rattle.std.proofs.Common.{refl}
use Rattle.report.proofs.Left.{laid_nothing}
use Rattle.report.proofs.said.write_said.Goals as goal

pub returns-in-None : goal.returns-in-None
returns-in-None c = laid_nothing (rw (c.in-Ok.is, c.in-None.is) refl)
