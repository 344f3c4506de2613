-- `lines::number::read_number`: a turn of the loop, and each way out. `halt` says why the loop stopped.
use native.Mathlib.Omega.{arith}
use mathlib.Core.Path.{◌≡◌, ◌∙◌}
use Prim.Native.Nat.{◌+◌}
use lib.ListN.{drop}
use Rattle.std.specs.Prelude.{◌&&◌, leb}
use Rattle.std.proofs.lemmas.Bool.Decides.{nat_tests}
use Rattle.std.proofs.lemmas.Grind.{common_steps}
use Rattle.rules.specs.meaning.Text.{front}
use Rattle.rules.specs.meaning.Number.{digit_run, most_digits}
use Rattle.lines.proofs.Digits.{part_byte, run_more, refuse_over, halt_other, halt_end, run_judged}
use Rattle.lines.proofs.number.read_number.Goals as goal
use Rattle.lines.proofs.number.read_number.Goals.{else-loop-c-test, then-loop-c-test+then-not-is_ascii_digit}

pub returns-in_err-checked_mul : goal.returns-in_err-checked_mul
returns-in_err-checked_mul c = let l = c.loop-c in
    c.from_residual.ensures
    ∙ refuse_over _ _ l.v l.c-index (omega arith) _ (part_byte _ c.args.place _ (omega arith)) _ c.is_ascii_digit.ensures.value l.invariant.kept c.if-not-is_ascii_digit.false (omega arith)

pub returns-in_err-v : goal.returns-in_err-v
returns-in_err-v c = let l = c.loop-c in
    c.from_residual-in_err-v.ensures
    ∙ refuse_over _ _ l.v l.c-index (omega arith) _ (part_byte _ c.args.place _ (omega arith)) _ c.is_ascii_digit.ensures.value l.invariant.kept c.if-not-is_ascii_digit.false (omega arith)

pub loop-c-preserved : goal.loop-c-preserved
loop-c-preserved c = let l = c.loop-c in
    let r = run_more _ _ l.v l.c-index (omega arith) _ (part_byte _ c.args.place _ (omega arith)) _ c.is_ascii_digit.ensures.value l.invariant.kept c.if-not-is_ascii_digit.false in
    let v = c.in_ok-v.ensures in
    let t = c.in_ok-checked_mul.ensures in
    record { counted = omega arith; fits = omega (arith, v.0, v.1); kept = rw (v.1, t.1) r }

pub returns : goal.returns
returns c = let l = c.loop-c in
    let tests : c.contains.result ≡ (leb 1 l.count && leb l.count most_digits) = grind (arith, common_steps, nat_tests) in
    let halt : digit_run l.v (drop (c.args.place + l.c-index) c.args.line.now) ≡ front l.v (drop (c.args.place + l.c-index) c.args.line.now) =
    elim c.loop-c-test.branch [
      | else-loop-c-test w ↦ halt_end c.args.line.now c.args.place l.v l.c-index (omega arith)
      | then-loop-c-test+then-not-is_ascii_digit w ↦ halt_other c.args.line.now c.args.place l.v l.c-index (omega arith) _ (part_byte _ c.args.place _ (omega arith)) _ w.is_ascii_digit.ensures.value w.if-not-is_ascii_digit.true
    ] in
    c.then_some.ensures ∙ rw tests (run_judged c.args.line.now c.args.place l.v l.c-index l.invariant.kept halt (omega arith) (omega arith) l.count l.invariant.counted)
