-- `report::ends::say_ending`: written, or measured.
use native.Mathlib.Omega.{arith}
use Rattle.report.proofs.Saying.{said_laid, said_empty}
use Rattle.report.proofs.ends.say_ending.Goals as goal

pub write_ending-requires : goal.write_ending-requires
write_ending-requires c = (c.requires.0, c.requires.1.room (omega arith))

pub returns-then-out-gt0 : goal.returns-then-out-gt0
returns-then-out-gt0 c = said_laid c.write_ending.ensures

pub write_ending-long-requires : goal.write_ending-long-requires
write_ending-long-requires c = (c.requires.0, omega (arith, c.requires.1.short))

pub returns : goal.returns
returns c = said_empty (omega arith) (omega (arith, c.write_ending-long.ensures.behind))
