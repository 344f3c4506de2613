-- `merging::beside::fill_by`: the merge has come so far (`Joining`), until nothing is left of the source (`filled_words`).
use mathlib.Core.Path.{◌≡◌}
use lib.ListN.{length, get_or}
use Rattle.merging.specs.Walks.{Joining}
use Rattle.merging.proofs.beside.fill_by.Given as goal

abbrev pub invariant-loop-left : goal.invariant-loop-left
invariant-loop-left g l = Joining l.initial.table l.entries (λ q. get_or l.table q 0) l.left.own l.left.others l.left.place × (length l.table ≡ length l.initial.table)

abbrev pub decreases-loop-left : goal.decreases-loop-left
decreases-loop-left g l = l.left.place
