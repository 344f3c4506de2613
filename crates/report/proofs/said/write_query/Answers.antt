-- `report::said::write_query`: four pairs, and the last pair.
use Rattle.std.proofs.Common.{rules, arith, ◌≡◌, cond, sym, ap}
use Rattle.rules.specs.meaning.Lengths.{listed}
use Rattle.rules.specs.meaning.Text.{ascii}
use Rattle.rules.specs.meaning.Reports.{count_line}
use Rattle.report.proofs.Left.{laid_as, laid_then}
use Rattle.report.proofs.Words.{query_pieces, query_long}
use Rattle.report.proofs.said.write_query.Goals as goal

pub returns : goal.returns
returns c = let s = c.args in
    let long = query_long s.line s.site s.id s.held in
    let listed_as : c.from-present.result ≡ cond (listed s.held) 1 0 = search rules in
    let present = laid_as (ap (count_line (ascii " present=")) listed_as) c.write_count.ensures in
    let length_on = laid_then c.write_pair-e.ensures present (omega (arith, long)) in
    let id_on = laid_then c.write_pair-d.ensures length_on (omega (arith, long)) in
    let node_on = laid_then c.write_pair-b.ensures id_on (omega (arith, long)) in
    laid_as (sym (query_pieces s.line s.site s.id s.held)) (laid_then c.write_pair-a.ensures node_on (omega (arith, long)))
