-- By what a loop over the links of a run does at its beginning, in a turn and at its end.
use Rattle.std.proofs.Common.{◌≡◌, List, cond, refl, ◌∙◌, arith}
use Rattle.rules.specs.meaning.Links.{begun, linked, links_begun}
use Rattle.rules.specs.meaning.Ledgers.{no_counts}
use Rattle.rules.specs.declared.Pair.{Pair}
use Rattle.rules.specs.declared.Ledger.{Ledger}
use Rattle.rules.specs.declared.Counts.{Counts}
use Rattle.links.specs.Turns.{begins, none_done, one_done, all_done}
use Rattle.ledger.specs.Starts.{started_if_law}
use Rattle.ledger.proofs.start.Goals as goal

pub loop-link-init-derived : goal.loop-link-init-derived
loop-link-init-derived c = (begins (linked (cond c.args.wanted c.args.sites 0)) _ (cc), tt)

pub loop-link-init : goal.loop-link-init
loop-link-init c = record {
  entries = none_done (begun c.args.first) (linked (cond c.args.wanted c.args.sites 0)) c.args.ledger.now.pairs _ (cc) (omega arith);
  counts = refl;
}

pub loop-link-preserved : goal.loop-link-preserved
loop-link-preserved c = record {
  entries =
      rw c.start_pair-pair.ensures
      (one_done (begun c.args.first) (linked (cond c.args.wanted c.args.sites 0)) c.args.ledger.now.pairs c.loop-link.ledger.pairs c.loop-link.link-iterator c.next.new.self c.in-Some.link c.loop-link.invariant.entries c.loop-link.iterator.0 c.in-Some.ensures.steps);
  counts = c.loop-link.invariant.counts;
}

ledger_is : (l : Ledger) (c : Counts) (ps : List Pair) → l.counts ≡ c → l.pairs ≡ ps → l ≡ record { counts = c; pairs = ps }
ledger_is l c ps e d = λ i. record { counts = e i; pairs = d i }

pub returns : goal.returns
unfolding links_begun
returns c =
    let a = c.args in
    ledger_is c.loop-link.ledger (cond a.wanted no_counts a.ledger.now.counts) (links_begun (cond a.wanted a.sites 0) a.first a.ledger.now.pairs)
    (c.loop-link.invariant.counts ∙ c.emptied-ledger.ensures)
    (all_done (begun a.first) (linked (cond a.wanted a.sites 0)) a.ledger.now.pairs _ c.loop-link.link-iterator c.next.new.self c.loop-link.invariant.entries c.loop-link.iterator.0 c.in-None.ensures.steps)
    ∙ started_if_law a.wanted a.sites a.first a.ledger.now
