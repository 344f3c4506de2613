-- `merging::within::Places::onward`: the words as they were at first.
use Rattle.merging.proofs.within.Places.onward.Given as goal

abbrev pub ghost-one : goal.ghost-one
ghost-one g a = g.before

abbrev pub ghost-stretch : goal.ghost-stretch
ghost-stretch g a = g.before

abbrev pub ghost-four : goal.ghost-four
ghost-four g a = g.before

abbrev pub ghost-eight : goal.ghost-eight
ghost-eight g a = g.before
