-- What an accepted list of ids is, and what the public function makes of a verdict.
-- Assumes nothing.
use Prim.Native.Nat.{ℕ, zero, suc, ◌≤◌}
use mathlib.Core.Path.{◌≡◌, refl}
use mathlib.Core.List.{List}
use lib.ListN.{length}
use borrow.Author.Tests.{ltb-false, not-false}
use Rattle.rules.specs.meaning.Table.{SoundTable}
use Rattle.rules.specs.meaning.Operations.{unless_refused}
use Rattle.rules.proofs.laws.run.Steps.{pass}
use Rattle.std.specs.Prelude.{Result, Ok, Err}
use Rattle.rules.specs.declared.Refusal.{Refusal}
use Rattle.rules.specs.meaning.Refusals.{number_of}
use Rattle.rules.proofs.laws.Determined.{answer_determined}
use Rattle.rules.specs.meaning.Put.{put}
use Rattle.rules.specs.meaning.Members.{bytes_for, answers_of, members_refusal, members_after, Answered}

pub accepted : (t : List ℕ) (ids room : ℕ) → members_refusal t ids room ≡ 0 → SoundTable t × (ids ≤ 4096) × (bytes_for ids ≤ room)
unfolding members_refusal
accepted t ids room h =
    let a = pass 0 _ _ h in
    let b = pass 1 _ _ a.1 in
    let c = pass 13 _ _ b.1 in
    let d = pass 12 _ _ c.1 in
    (not-false _ b.0, ltb-false _ _ c.0, ltb-false _ _ d.0)

-- no refusal has the number 0
above_zero : (e : Refusal) → number_of e ≡ 0 → ⊥
above_zero e h = let q : ◌≡◌ {A = Result ℕ Refusal} (Err e) (Ok 0) = answer_determined 0 (Err e) (Ok 0) h refl in cc

module _ (t ids out : List ℕ) where
  pub written : (u : List ℕ) → 0 ≡ members_refusal t (length ids) (length out) → u ≡ put out 0 (answers_of t ids) → Answered t ids out 0 u
  unfolding members_after
  written u e q = record { refusal = e; bytes = rw (← e) q }

  pub untouched : (e : Refusal) → number_of e ≡ members_refusal t (length ids) (length out) → Answered t ids out (number_of e) out
  unfolding members_after
  untouched e q = record { refusal = q; bytes = rw (← q) (kept (number_of e) (above_zero e)) }
    where
      kept : (k : ℕ) → (k ≡ 0 → ⊥) → out ≡ unless_refused k out (put out 0 (answers_of t ids))
      kept zero m = absurd (m refl)
      kept (suc k) m = refl

pub ruleset verdicts = (accepted, written, untouched)
