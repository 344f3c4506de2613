-- `report::said::write_refused`: a pair, and the last pair.
use native.Mathlib.Omega.{arith}
use mathlib.Core.Path.{sym}
use Rattle.report.proofs.Left.{laid_as, laid_then}
use Rattle.report.proofs.Words.{refused_pieces, refused_long}
use Rattle.report.proofs.said.write_refused.Goals as goal

pub returns : goal.returns
returns c = let s = c.args in
    laid_as (sym (refused_pieces s.line s.refusal)) (laid_then c.write_pair-a.ensures c.write_count.ensures (omega (arith, refused_long s.line s.refusal)))
