-- `report::pieces::write_pair`: the name, and the digits behind it.
use native.Mathlib.Omega.{arith}
use lib.ListN.{length-append}
use Rattle.rules.specs.meaning.Number.{digits}
use Rattle.report.proofs.Left.{laid_then, laid_by}
use Rattle.report.proofs.pieces.write_pair.Goals as goal

pub returns : goal.returns
returns c = let s = c.args in
    laid_then (laid_by c.write_text-next.ensures) (laid_by c.write_number.ensures) (omega (arith, length-append s.name.now (digits s.n)))
