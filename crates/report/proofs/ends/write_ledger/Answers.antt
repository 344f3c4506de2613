-- `report::ends::write_ledger`: five lines.
use native.Mathlib.Omega.{arith}
use mathlib.Core.Path.{sym}
use Rattle.report.proofs.Left.{laid_as, laid_then}
use Rattle.report.proofs.Words.{ledger_pieces, ledger_long}
use Rattle.report.proofs.ends.write_ledger.Goals as goal

pub returns : goal.returns
returns c = let s = c.args in
    let long = ledger_long s.counts s.waiting in
    let lost = laid_then c.write_count-e.ensures c.write_count.ensures (omega (arith, long)) in
    let absorbed = laid_then c.write_count-d.ensures lost (omega (arith, long)) in
    let copied = laid_then c.write_count-b.ensures absorbed (omega (arith, long)) in
    laid_as (sym (ledger_pieces s.counts s.waiting)) (laid_then c.write_count-a.ensures copied (omega (arith, long)))
