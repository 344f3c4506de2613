-- `report::report`: the two refusals, and the report.
use native.Mathlib.Omega.{arith}
use Prim.Native.Nat.{◌≤◌}
use mathlib.Core.Path.{sym, ◌∙◌}
use lib.ListN.{length}
use borrow.Author.Tests.{ltb-true, ltb-false}
use Rattle.rules.specs.meaning.Reports.{report_of}
use Rattle.report.proofs.Answers.{told_over, told_short, told_done}
use Rattle.report.proofs.Saying.{laid_fits}
use Rattle.report.proofs.report.Goals as goal

pub returns-then-input-gt-INPUT_MAX : goal.returns-then-input-gt-INPUT_MAX
returns-then-input-gt-INPUT_MAX c = let s = c.args in told_over s.input.now s.out.now c.if-input-gt-INPUT_MAX.true

pub returns-then-too_short : goal.returns-then-too_short
returns-then-too_short c = let s = c.args in told_short s.input.now s.out.now (omega arith) (ltb-true _ _ (sym c.too_short.ensures ∙ c.if-too_short.true))

pub say_report-requires : goal.say_report-requires
say_report-requires c = (omega arith, λ _. ltb-false _ _ (sym c.too_short.ensures ∙ c.if-too_short.false))

pub returns : goal.returns
returns c = let s = c.args in
    let fits : length (report_of s.input.now) ≤ length s.out.now = ltb-false _ _ (sym c.too_short.ensures ∙ c.if-too_short.false) in
    told_done s.input.now s.out.now _ _ (omega arith) fits (laid_fits _ _ _ fits c.say_report.auto.out c.say_report.ensures)
