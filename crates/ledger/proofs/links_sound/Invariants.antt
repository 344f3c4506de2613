-- `good` is the judgement of the links that the iterator has given.
use Rattle.std.proofs.Common.{true}
use Rattle.rules.specs.meaning.Links.{linked, judged}
use Rattle.links.specs.Turns.{Done}
use Rattle.ledger.proofs.links_sound.Given as goal

abbrev pub invariant-loop-link : goal.invariant-loop-link
invariant-loop-link l = Done (judged l.ledger.pairs) (linked l.sites) true l.good l.link-iterator
