-- `cases_report::show::checksum`: the sum stays below the number that it is taken by.
use Rattle.std.proofs.Common.{◌<◌}
use Rattle.cases_report.proofs.show.checksum.Given as goal

abbrev pub invariant-loop-b : goal.invariant-loop-b
invariant-loop-b l = l.s < 1000003
