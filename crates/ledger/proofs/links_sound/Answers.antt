-- By what a loop over the links of a run does at its beginning, in a turn and at its end.
use Rattle.std.proofs.Common.{true, arith}
use Rattle.rules.specs.meaning.Links.{linked, judged, links_sound}
use Rattle.links.specs.Turns.{begins, none_done, one_done, all_done}
use Rattle.ledger.proofs.links_sound.Goals as goal

pub loop-link-init-derived : goal.loop-link-init-derived
loop-link-init-derived c = (begins (linked c.args.sites) _ (cc), tt)

pub loop-link-init : goal.loop-link-init
loop-link-init c = none_done (judged c.args.ledger.now.pairs) (linked c.args.sites) true _ (cc) (omega arith)

pub loop-link-preserved : goal.loop-link-preserved
loop-link-preserved c =
    rw c.pair_sound-good.ensures
    (one_done (judged c.args.ledger.now.pairs) (linked c.args.sites) true c.loop-link.good c.loop-link.link-iterator c.next.new.self c.in-Some.link c.loop-link.invariant c.loop-link.iterator.0 c.in-Some.ensures.steps)

pub returns : goal.returns
unfolding links_sound
returns c = all_done (judged c.args.ledger.now.pairs) (linked c.args.sites) true _ c.loop-link.link-iterator c.next.new.self c.loop-link.invariant c.loop-link.iterator.0 c.in-None.ensures.steps
