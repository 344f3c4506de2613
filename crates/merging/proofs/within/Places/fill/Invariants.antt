-- `merging::within::Places::fill`: the merge has come so far (`Filling`), until nothing is left of the source (`finished`).
use Rattle.merging.specs.Walks.{Filling}
use Rattle.merging.proofs.within.Places.fill.Given as goal

abbrev pub ghost-onward : goal.ghost-onward
ghost-onward g a = g.before

abbrev pub invariant-loop-left : goal.invariant-loop-left
invariant-loop-left g l = Filling g.before l.self.to l.self.from l.self.wide l.words l.left.own l.left.others l.left.place

abbrev pub decreases-loop-left : goal.decreases-loop-left
decreases-loop-left g l = l.left.place
