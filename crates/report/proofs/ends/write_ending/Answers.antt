-- `report::ends::write_ending`: the ledger, and the sites behind it.
use Rattle.std.proofs.Common.{arith, sym, ap}
use Rattle.rules.specs.meaning.Reports.{ledger_lines}
use Rattle.report.proofs.Left.{laid_as, laid_then}
use Rattle.report.proofs.Counted.{end_pieces, end_long}
use Rattle.report.proofs.ends.write_ending.Goals as goal

pub returns : goal.returns
returns c = let s = c.args in
    let ledger = laid_as (ap (ledger_lines s.counts) c.count_waiting.ensures) c.write_ledger-next.ensures in
    laid_as (sym (end_pieces s.words s.slots s.counts)) (laid_then ledger c.write_sites.ensures (omega (arith, end_long s.words s.slots s.counts)))
