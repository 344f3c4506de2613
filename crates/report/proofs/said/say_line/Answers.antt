-- `report::said::say_line`: written, or measured.
use native.Mathlib.Omega.{arith}
use Rattle.report.proofs.Saying.{said_laid, said_empty}
use Rattle.report.proofs.said.say_line.Goals as goal

pub write_said-requires : goal.write_said-requires
write_said-requires c = c.requires.room (omega arith)

pub returns-then-out-gt0 : goal.returns-then-out-gt0
returns-then-out-gt0 c = said_laid c.write_said.ensures

pub write_said-long-requires : goal.write_said-long-requires
write_said-long-requires c = omega (arith, c.requires.short)

pub returns : goal.returns
returns c = said_empty (omega arith) (omega (arith, c.write_said-long.ensures.behind))
