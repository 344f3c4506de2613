-- The lag query: what the judge before its own tests makes of it.
-- Assumes nothing.
use Prim.Native.Nat.{ℕ, zero, suc}
use mathlib.Core.Bool.{cond}
use mathlib.Core.Path.{◌≡◌, refl, sym, ap, ◌∙◌}
use mathlib.Core.List.{List}
use lib.Dec.{eqb}
use borrow.Author.Tests.{ne_eqb}
use Rattle.rules.specs.declared.Run.{Run}
use Rattle.rules.specs.declared.Sight.{Sight}
use Rattle.rules.specs.meaning.Refusals.{first_given}
use Rattle.rules.specs.meaning.Lags.{lag_tests, lag_given, lag_in, last_sent}
use Rattle.rules.specs.meaning.Serials.{lag_of}
use Rattle.judge.specs.Judged.{judgement}
use Rattle.judge.proofs.Judging.{judged_first}
use Rattle.sites.specs.Values.{refused_lag}

module _ (run : Run) (ws : List ℕ) (si : Sight) (f t : ℕ) where
  by_judge : lag_in run ws si f t ≡ lag_given (cond (eqb (judgement run ws si) 0) (first_given (lag_tests run si.books.pair f t)) (judgement run ws si)) si.books.pair
  unfolding lag_in
  by_judge = ap (λ (r : ℕ). lag_given r si.books.pair) (judged_first run ws si (lag_tests run si.books.pair f t))

  -- an answer with a refusal
  as_refused : (r : ℕ) → (r ≡ 0 → ⊥) → refused_lag r ≡ lag_given r si.books.pair
  as_refused zero ne = absurd (ne refl)
  as_refused (suc r) ne = refl

  pub judged_out : (judgement run ws si ≡ 0 → ⊥) → refused_lag (judgement run ws si) ≡ lag_in run ws si f t
  judged_out ne = as_refused (judgement run ws si) ne ∙ sym (by_judge ∙ rw (ne_eqb (judgement run ws si) 0 ne))

  module _ (fine : judgement run ws si ≡ 0) where
    own : lag_in run ws si f t ≡ lag_given (first_given (lag_tests run si.books.pair f t)) si.books.pair
    own = by_judge ∙ rw fine

    pub own_out : (first_given (lag_tests run si.books.pair f t) ≡ 0 → ⊥) → refused_lag (first_given (lag_tests run si.books.pair f t)) ≡ lag_in run ws si f t
    own_out ne = as_refused (first_given (lag_tests run si.books.pair f t)) ne ∙ sym own

    pub lag_told : first_given (lag_tests run si.books.pair f t) ≡ 0 → record { refusal = 0; lag = lag_of si.books.pair.heard (last_sent si.books.pair) } ≡ lag_in run ws si f t
    lag_told z = sym (own ∙ rw z)
