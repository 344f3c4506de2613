-- `report::too_short`: the bound is enough, or the report is measured.
use Rattle.std.proofs.Common.{arith, ◌*◌, ◌+◌, length, sym, ◌∙◌, le-ltb}
use Rattle.rules.specs.meaning.Reports.{report_of}
use Rattle.rules.proofs.laws.report.Fits.{report_fits}
use Rattle.report.proofs.too_short.Goals as goal

pub returns-else-room-input : goal.returns-else-room-input
returns-else-room-input c = let s = c.args in
    le-ltb s.room (22 * length s.input.now + 256) c.if-room-input.false
    ∙ sym (le-ltb s.room (length (report_of s.input.now)) (omega (arith, report_fits s.input.now c.requires)))
