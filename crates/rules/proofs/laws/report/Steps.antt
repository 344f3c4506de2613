-- The report of the lines of some steps: it is made of what each step says in its turn, and the end. A text that no step has is refused.
-- Assumes nothing.
use Rattle.std.specs.Prelude.{ℕ, zero, suc, ◌+◌, ◌/◌, ◌%◌, ◌^◌, ◌≡◌, refl, Bool, true, false, ◌&&◌, not, List, [], ◌∷◌, ◌++◌, get_or, ltb, eqb, Option, Some}
use Rattle.std.proofs.Common.{arith, ap, ◌∙◌, ltb-true, ne_eqb}
use Rattle.rules.specs.declared.Step.{Step}
use Rattle.rules.proofs.laws.table.View.{parts}
use Rattle.rules.specs.meaning.Kinds.{numbers}
use Rattle.rules.specs.meaning.States.{State}
use Rattle.rules.specs.meaning.Runs.{after}
use Rattle.rules.specs.meaning.Number.{up_to, digits}
use Rattle.rules.proofs.laws.line.Numbers.{by_test}
use Rattle.rules.specs.meaning.Lines.{leads, lead, to_name, id_name, has_second, has_id, field, text_of}
use Rattle.rules.specs.meaning.StepLines.{line_of, Fits}
use Rattle.rules.proofs.laws.line.Steps.{written_step}
use Rattle.rules.specs.meaning.Calls.{named_after}
use Rattle.rules.specs.meaning.Reports.{report_run, report_start, line_end, end_lines, said_of, report_from, report_of}
use Rattle.rules.proofs.laws.report.Fits.{report_done}
use Rattle.rules.proofs.laws.report.Pieces.{unbroken, all_unbroken, report_text}

-- ---- no line of a step has a line's end in it
unbroken_both : (xs ys : List ℕ) → unbroken xs ≡ true → unbroken ys ≡ true → unbroken (xs ++ ys) ≡ true
unfolding unbroken
unbroken_both [] ys p q = q
unbroken_both (x ∷ xs) ys p q = let a = parts (not (eqb x line_end)) (unbroken xs) p in rw (a.0, unbroken_both xs ys a.1 q)

digit_unbroken : (d : ℕ) → unbroken ((48 + d) ∷ []) ≡ true
unfolding unbroken
digit_unbroken d = rw (ne_eqb (48 + d) line_end (λ z. omega arith))

up_unbroken : (k n : ℕ) → unbroken (up_to k n) ≡ true
unfolding up_to unbroken
up_unbroken zero n = refl
up_unbroken (suc k) n =
    by_test (ltb n 10)
    (λ y. rw y (digit_unbroken n))
    (λ l. rw l (unbroken_both (up_to k (n / 10)) ((48 + n % 10) ∷ []) (up_unbroken k (n / 10)) (digit_unbroken (n % 10))))

pub digits_unbroken : (n : ℕ) → unbroken (digits n) ≡ true
unfolding digits
digits_unbroken n = up_unbroken 20 n

field_unbroken : (b : Bool) (name : List ℕ) (n : ℕ) → unbroken name ≡ true → unbroken (field b name n) ≡ true
unfolding field unbroken
field_unbroken true name n h = unbroken_both name (digits n) h (digits_unbroken n)
field_unbroken false name n h = refl

one_unbroken : (texts : List (List ℕ)) → all_unbroken texts ≡ true → (k : ℕ) → unbroken (get_or texts k []) ≡ true
unfolding all_unbroken unbroken
one_unbroken [] h k = refl
one_unbroken (text ∷ texts) h zero = (parts (unbroken text) _ h).0
one_unbroken (text ∷ texts) h (suc k) = one_unbroken texts (parts (unbroken text) _ h).1 k

lead_unbroken : (kind : ℕ) → unbroken (lead kind) ≡ true
unfolding lead all_unbroken unbroken
lead_unbroken kind = one_unbroken ([] ∷ leads) refl kind

pub line_unbroken : (step : Step) → unbroken (line_of step) ≡ true
unfolding line_of text_of unbroken
line_unbroken step =
    let kind : ℕ = (numbers step).kind in
    let first : ℕ = (numbers step).first in
    let second : ℕ = (numbers step).second in
    let id : ℕ = (numbers step).id in
    unbroken_both (lead kind) _ (lead_unbroken kind)
    (unbroken_both (digits first) _ (digits_unbroken first)
    (unbroken_both (field (has_second kind) to_name second) _ (field_unbroken (has_second kind) to_name second refl) (field_unbroken (has_id kind) id_name id refl)))

-- ---- the lines of some steps, each with its end
unfoldable pub lines_of : List Step → List ℕ
lines_of [] = []
lines_of (step ∷ steps) = line_of step ++ (line_end ∷ lines_of steps)

-- every number of every step fits 64 bits
abbrev pub AllFit : List Step → Type 0
AllFit [] = Unit {0}
AllFit (step ∷ steps) = Fits step × AllFit steps

-- the test of it, which the checker computes for steps that are written out
unfoldable pub fits : Step → Bool
fits step = ltb (numbers step).first (2 ^ 64) && (ltb (numbers step).second (2 ^ 64) && ltb (numbers step).id (2 ^ 64))

unfoldable pub all_fit : List Step → Bool
all_fit [] = true
all_fit (step ∷ steps) = fits step && all_fit steps

step_fits : (step : Step) → fits step ≡ true → Fits step
unfolding fits
step_fits step h =
    let p = parts (ltb (numbers step).first (2 ^ 64)) _ h in
    let q = parts (ltb (numbers step).second (2 ^ 64)) _ p.1 in
    (ltb-true _ _ p.0, ltb-true _ _ q.0, ltb-true _ _ q.1)

pub steps_fit : (steps : List Step) → all_fit steps ≡ true → AllFit steps
unfolding all_fit
steps_fit [] h = tt
steps_fit (step ∷ steps) h = let p = parts (fits step) _ h in (step_fits step p.0, steps_fit steps p.1)

-- what the steps say in their turn, from line n on in a state, and the end
unfoldable pub steps_from : ℕ → State → List Step → List ℕ
steps_from n s [] = end_lines s
steps_from n s (step ∷ steps) = said_of n s (Some step) ++ steps_from (suc n) (after report_run s step) steps

steps_from_law : (n : ℕ) (s : State) (steps : List Step) → AllFit steps → report_from n s [] (lines_of steps) ≡ steps_from n s steps
unfolding lines_of steps_from named_after
steps_from_law n s [] h = report_done n s
steps_from_law n s (step ∷ steps) h =
    report_text n s (line_of step) (lines_of steps) (line_unbroken step)
    ∙ ap (λ (r : Option Step). said_of n s r ++ report_from (suc n) (named_after report_run s r) [] (lines_of steps)) (written_step step h.0)
    ∙ ap (λ (t : List ℕ). said_of n s (Some step) ++ t) (steps_from_law (suc n) (after report_run s step) steps h.1)

-- the report of the lines of some steps is what the steps say, run from fresh
pub report_of_steps : (steps : List Step) → AllFit steps → report_of (lines_of steps) ≡ steps_from 1 report_start steps
unfolding report_of
report_of_steps steps h = steps_from_law 1 report_start steps h
