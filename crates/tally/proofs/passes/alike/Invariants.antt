-- `tally::passes::alike`: the first so many are the same (`same_upto`).
use mathlib.Core.Path.{◌≡◌}
use Rattle.tally.proofs.Joint.{same_upto}
use Rattle.tally.proofs.passes.alike.Given as goal

abbrev pub invariant-loop-k : goal.invariant-loop-k
invariant-loop-k l = l.same ≡ same_upto l.table l.entries l.own l.others l.k
