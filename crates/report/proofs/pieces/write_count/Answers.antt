-- `report::pieces::write_count`: the pair, and the line's end.
use native.Mathlib.Omega.{arith}
use mathlib.Core.Path.{sym}
use Rattle.report.proofs.Left.{laid_as, laid_then}
use Rattle.report.proofs.Words.{count_pieces, count_long}
use Rattle.report.proofs.pieces.write_count.Goals as goal

pub returns : goal.returns
returns c = let s = c.args in
    laid_as (sym (count_pieces s.name.now s.n)) (laid_then c.write_pair-next.ensures c.write_end.ensures (omega (arith, count_long s.name.now s.n)))
