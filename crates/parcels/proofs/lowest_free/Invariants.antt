-- `parcels::lowest_free`: no slot is free before the one to which the search has come.
use Rattle.std.proofs.Common.{◌≤◌}
use Rattle.rules.specs.meaning.Parcels.{lowest_free}
use Rattle.parcels.proofs.lowest_free.Given as goal

abbrev pub invariant-loop-at : goal.invariant-loop-at
invariant-loop-at l = l.at ≤ lowest_free l.slots
