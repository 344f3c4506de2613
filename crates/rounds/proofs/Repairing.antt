-- A repair round, once the judge has spoken: refused for room, or accepted with all tables level.
-- Assumes nothing.
use Prim.Native.Nat.{ℕ, zero, suc, ◌*◌, ◌-◌}
use native.Mathlib.Omega.{arith}
use mathlib.Core.Bool.{Bool, true, false, cond}
use mathlib.Core.Path.{◌≡◌, refl, sym, ◌∙◌}
use mathlib.Core.List.{List}
use lib.Dec.{leb, eqb}
use borrow.Author.Tests.{leb-true, ne_eqb, not-false}
use Rattle.rules.specs.meaning.Operations.{Answer}
use Rattle.rules.specs.declared.Run.{Run}
use Rattle.rules.specs.declared.Sight.{Sight}
use Rattle.rules.specs.meaning.Refusals.{first_given}
use Rattle.rules.specs.meaning.States.{sizes_right}
use Rattle.rules.specs.meaning.Ids.{fit_together}
use Rattle.rules.specs.meaning.Rounds.{all_tables, round_tests, round_refusal}
use Rattle.rules.proofs.laws.table.View.{parts}
use Rattle.rules.proofs.laws.run.Steps.{pass}
use Rattle.rules.proofs.laws.repair.Rounds.{round_many}
use Rattle.judge.specs.Judged.{judgement}
use Rattle.judge.proofs.Judging.{judged_first, judged_ready}
use Rattle.rounds.specs.Values.{Repairable, Evened, answer_seen, words_seen}

module _ (run : Run) (ws : List ℕ) (si : Sight) where
  -- the judge's word comes first
  by_judge : round_refusal run ws si ≡ cond (eqb (judgement run ws si) 0) (first_given (round_tests run ws)) (judgement run ws si)
  unfolding round_refusal
  by_judge = judged_first run ws si (round_tests run ws)

  -- what the contract says of an answer, and of the words that are left
  abbrev Said : Answer → List ℕ → Type 0
  Said r us = (r ≡ answer_seen run ws si) × (us ≡ words_seen run ws si)

  refused_with : (n : ℕ) → (n ≡ 0 → ⊥) → round_refusal run ws si ≡ n → Said (record { refusal = n; value = 0 }) ws
  refused_with zero ne e = absurd (ne refl)
  refused_with (suc n) ne e = (rw e, rw e)

  pub judged_out : (n : ℕ) → n ≡ judgement run ws si → (n ≡ 0 → ⊥) → Said (record { refusal = n; value = 0 }) ws
  judged_out n e ne = refused_with n ne (by_judge ∙ rw (← e, ne_eqb n 0 ne))

  module _ {n : ℕ} (told : n ≡ judgement run ws si) (none : n ≡ 0) where
    fine : judgement run ws si ≡ 0
    fine = sym told ∙ none

    pub repairable : Repairable run ws
    unfolding judgement sizes_right
    repairable =
        let r = judged_ready run ws si fine in
        record { ready = record { sized = r.0; tables = r.1 }; some = leb-true _ _ (parts (leb 1 run.sites) _ (not-false _ (pass 0 _ _ fine).0)).0 }

    own : round_refusal run ws si ≡ first_given (round_tests run ws)
    own = by_judge ∙ rw fine

    module _ {b : Bool} {us : List ℕ} (out : Evened run ws b us) where
      -- "Otherwise it is refused with 8 before any write"
      pub full_out : b ≡ false → Said (record { refusal = 8; value = 0 }) us
      unfolding first_given
      full_out is =
          let full : fit_together run.capacity (all_tables run ws) ≡ false = sym out.0 ∙ is in
          rw (out.1, full) (refused_with 8 (λ z. omega arith) (own ∙ rw full))

      pub taken : b ≡ true → Said (record { refusal = 0; value = 2 * (run.sites - 1) }) us
      unfolding first_given
      taken is =
          let fit : fit_together run.capacity (all_tables run ws) ≡ true = sym out.0 ∙ is in
          let ok : round_refusal run ws si ≡ 0 = own ∙ rw fit in
          rw (out.1, fit) (rw (ok, round_many run), rw ok)
