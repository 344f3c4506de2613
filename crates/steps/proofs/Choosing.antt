-- What refused a step before it was looked at is its refusal; where nothing did, the step's own tests decide. A step that leaves the words; and that what
-- a step comes to is determined by its verdict.
-- Assumes nothing.
use Rattle.std.specs.Prelude.{◌≡◌, ℕ, zero, suc, List, Result, Ok, Err}
use Rattle.std.proofs.Common.{refl, sym, ap, arith}
use Rattle.rules.specs.declared.Refusal.{Refusal}
use Rattle.rules.specs.declared.Run.{Run}
use Rattle.rules.specs.declared.Sight.{Sight}
use Rattle.rules.specs.declared.Step.{Step}
use Rattle.rules.specs.meaning.Operations.{unless_refused}
use Rattle.rules.specs.meaning.Steps.{effect}
use Rattle.rules.proofs.laws.Determined.{numbered, numbers_apart}
use Rattle.steps.specs.declared.verdict.Taken.{Taken}
use Rattle.steps.specs.Verdicts.{Verdict, as_verdict, refused_verdict, step_refusal, step_verdict, step_words, verdict_under, words_under}

module _ (run : Run) (ws : List ℕ) (si : Sight) (step : Step) where
  -- refused before
  pub under_out : (r : ℕ) → (r ≡ 0 → ⊥) → (refused_verdict r si.count ≡ verdict_under r run ws si step) × (ws ≡ words_under r run ws si step)
  unfolding verdict_under words_under
  under_out zero h = absurd (h refl)
  under_out (suc r) h = (refl, refl)

  -- refused by nothing before
  pub under_in : (r : ℕ) → r ≡ 0 → (step_verdict run ws si step ≡ verdict_under r run ws si step) × (step_words run ws si step ≡ words_under r run ws si step)
  unfolding verdict_under words_under
  under_in r h = rw h (refl, refl)

  pub words_out : (r : ℕ) → (r ≡ 0 → ⊥) → words_under r run ws si step ≡ ws
  words_out r h = sym (under_out r h).1

  pub words_in : (r : ℕ) → r ≡ 0 → words_under r run ws si step ≡ step_words run ws si step
  words_in r h = sym (under_in r h).1

pub still_words : (run : Run) (ws : List ℕ) (si : Sight) (step : Step) → (effect run ws si step).gain.words ≡ ws → ws ≡ step_words run ws si step
still_words run ws si step h = rw h (go (step_refusal run ws si step))
  where
    go : (r : ℕ) → ws ≡ unless_refused r ws ws
    go zero = refl
    go (suc r) = refl

taken_of : Verdict → Taken
taken_of v = record { value = v.value; counter = v.counter; at = v.at; parcel = v.parcel; link = v.link; pair = v.pair }

same_taken : (t t' : Taken) (count : ℕ) → as_verdict count (Ok t) ≡ as_verdict count (Ok t') → t ≡ t'
unfolding taken_of
same_taken t t' count e = ap taken_of e

pub verdict_determined : (count : ℕ) (r r' : Result Taken Refusal) → as_verdict count r ≡ as_verdict count r' → r ≡ r'
verdict_determined count (Ok t) (Ok t') e = ap Ok (same_taken t t' count e)
verdict_determined count (Ok t) (Err s) e = absurd (let z : ◌≡◌ {A = ℕ} _ _ = ap (λ (v : Verdict). v.refusal) e in let k = numbered s in omega (arith, z))
verdict_determined count (Err r) (Ok t) e = absurd (let z : ◌≡◌ {A = ℕ} _ _ = ap (λ (v : Verdict). v.refusal) e in let k = numbered r in omega (arith, z))
verdict_determined count (Err r) (Err s) e = ap Err (numbers_apart r s (ap (λ (v : Verdict). v.refusal) e))
