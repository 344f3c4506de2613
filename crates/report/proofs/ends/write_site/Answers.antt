-- `report::ends::write_site`: two pairs, and the last pair.
use Rattle.std.proofs.Common.{arith, sym, ap}
use Rattle.rules.specs.meaning.Text.{ascii}
use Rattle.rules.specs.meaning.Reports.{count_line}
use Rattle.report.proofs.Left.{laid_as, laid_then}
use Rattle.report.proofs.Words.{pair}
use Rattle.report.proofs.Counted.{site_pieces, site_long}
use Rattle.report.proofs.ends.write_site.Goals as goal

pub returns : goal.returns
returns c = let s = c.args in
    let long = site_long s.site s.table.now in
    let shown = laid_as (ap (count_line (ascii " shown=")) c.shown-listed.ensures) c.write_count.ensures in
    let held_on = laid_then (laid_as (ap (pair (ascii " held=")) c.held-entries.ensures) c.write_pair-b.ensures) shown (omega (arith, long)) in
    laid_as (sym (site_pieces s.site s.table.now)) (laid_then c.write_pair-a.ensures held_on (omega (arith, long)))
