-- `cases_lines::each_line`: a line begins no later than it ends, and there are no more lines than bytes.
use Rattle.std.proofs.Common.{◌+◌, ◌≤◌}
use Rattle.cases_lines.proofs.each_line.Given as goal

abbrev pub invariant-loop-i : goal.invariant-loop-i
invariant-loop-i g l = (l.start ≤ l.i) × (1 ≤ l.number) × (l.number ≤ l.i + 1)
