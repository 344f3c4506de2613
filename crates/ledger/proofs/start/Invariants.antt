-- The entries are those in which the links that the iterator has given have begun. The counts stay as they are.
use Rattle.std.proofs.Common.{◌≡◌, cond}
use Rattle.rules.specs.meaning.Links.{linked, begun}
use Rattle.links.specs.Turns.{Done}
use Rattle.ledger.proofs.start.Given as goal

abbrev pub invariant-loop-link : goal.invariant-loop-link
invariant-loop-link l = record {
  entries : Done (begun l.first) (linked (cond l.wanted l.sites 0)) l.initial.ledger.pairs l.ledger.pairs l.link-iterator;
  counts : l.ledger.counts ≡ l.initial.ledger.counts;
}
