-- `cases_table::show_entries`: at most one entry is counted for each place.
use Rattle.std.proofs.Common.{◌≤◌}
use Rattle.cases_table.proofs.show_entries.Given as goal

abbrev pub invariant-loop-place : goal.invariant-loop-place
invariant-loop-place g l = l.held ≤ l.place
