-- `report::printed`: nothing, the one line, or the report.
use native.Mathlib.Omega.{arith}
use Prim.Native.Nat.{◌≤◌}
use lib.ListN.{length}
use Rattle.rules.specs.meaning.Reports.{report_of}
use Rattle.rules.proofs.laws.report.Fits.{report_fits}
use Rattle.report.proofs.Left.{laid_by}
use Rattle.report.proofs.Saying.{laid_fits}
use Rattle.report.proofs.Answers.{printed_none, printed_over, printed_all}
use Rattle.report.proofs.printed.Goals as goal

pub returns-then-out-lt-REPORT_MAX : goal.returns-then-out-lt-REPORT_MAX
returns-then-out-lt-REPORT_MAX c = let s = c.args in printed_none s.input.now s.out.now (omega arith)

pub returns-then-input-gt-INPUT_MAX : goal.returns-then-input-gt-INPUT_MAX
returns-then-input-gt-INPUT_MAX c = let s = c.args in printed_over s.input.now s.out.now _ _ (omega arith) (omega arith) (laid_by c.write_text.ensures)

pub say_report-requires : goal.say_report-requires
say_report-requires c = (omega arith, λ _. omega (arith, report_fits c.args.input.now (omega arith)))

pub returns : goal.returns
returns c = let s = c.args in
    let fits : length (report_of s.input.now) ≤ length s.out.now = omega (arith, report_fits s.input.now (omega arith)) in
    printed_all s.input.now s.out.now _ _ (omega arith) (omega arith) (laid_fits _ _ _ fits c.say_report.auto.out c.say_report.ensures)
