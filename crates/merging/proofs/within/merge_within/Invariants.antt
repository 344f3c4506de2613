-- `merging::within::merge_within`: the words as they are at first.
use Rattle.merging.proofs.within.merge_within.Given as goal

abbrev pub ghost-fill : goal.ghost-fill
ghost-fill a = a.words.now
