-- The laws of the inner step: what the judge's word before it means, and that from step to step no slot is free below the number that is handed on.
-- Assumes nothing.
use Prim.Native.Nat.{ℕ, zero, suc, ◌≤◌}
use Rattle.std.proofs.Common.{arith, ne_eqb}
use Rattle.std.specs.Prelude.{◌≡◌, refl, Bool, true, false, length}
use Rattle.std.proofs.Math.Path.{ap}
use Rattle.std.proofs.Math.Bool.{cond}
use mathlib.Core.List.{List, [], ◌++◌}
use Rattle.std.proofs.lemmas.Bool.{not-false}
use Rattle.rules.specs.meaning.Operations.{Answer}
use Rattle.rules.specs.declared.Run.{Run}
use Rattle.rules.specs.declared.Step.{Step}
use Rattle.rules.specs.meaning.Operations.{answer}
use Rattle.rules.specs.meaning.Lengths.{M}
use Rattle.rules.specs.meaning.Parcels.{no_parcel, slots_sound, waiting, lowest_free}
use Rattle.rules.specs.meaning.Links.{no_link}
use Rattle.rules.specs.meaning.Ledgers.{counts_sound}
use Rattle.rules.proofs.laws.run.Slots.{set_lowest}
use Rattle.rules.proofs.laws.table.View.{parts}
use Rattle.rules.specs.meaning.Refusals.{Test, first_given}
use Rattle.rules.specs.meaning.States.{State, width, sizes_right, tables_sound, all_sound, StateSound, sight_with}
use Rattle.rules.specs.meaning.Runs.{judge_tests, refusal_in, refusal_of, value_of, state_by, moved, after, effect_of, Stepped}
use Rattle.rules.proofs.laws.run.Steps.{pass}
use Rattle.rules.specs.meaning.Acts.{judged_of, Clear, answer_under, after_under, Acted, low_taken, low_after}
use Rattle.rules.proofs.laws.run.Rows.{owed}

-- ---- the judge
module _ (run : Run) (s : State) where
  -- where its two tests stand before others and none is given, the state is sound, and none of the others is given
  pub judged_before : (ts : List Test) → first_given (judge_tests run s.words (sight_with no_parcel no_link run s) ++ ts) ≡ 0 → StateSound run s × (first_given ts ≡ 0)
  unfolding all_sound
  judged_before ts h =
      let a = pass 0 _ _ h in
      let b = pass 1 _ _ a.1 in
      let c = parts (tables_sound M (width run) run.sites s.words) _ (not-false _ b.0) in
      let d = parts (slots_sound M run.sites s.slots) _ c.1 in
      let e = parts (counts_sound M (waiting s.slots) s.ledger.counts) _ d.1 in
      ((not-false _ a.0, c.0, d.0, e.0, e.1), b.1)

  -- in a sound state only the others can be given
  pub sound_before : (ts : List Test) → StateSound run s → first_given (judge_tests run s.words (sight_with no_parcel no_link run s) ++ ts) ≡ first_given ts
  unfolding all_sound first_given
  sound_before ts h = rw (h.0, h.1, h.2, h.3, h.4)

  -- a state that is let through is sound, and a sound one is let through
  pub judged_sound : judged_of run s ≡ 0 → StateSound run s
  unfolding judged_of
  judged_sound h = (judged_before [] h).0

  pub sound_passes : StateSound run s → judged_of run s ≡ 0
  unfolding judged_of first_given
  sound_passes h = sound_before [] h

-- so what it lets through may be handed to the inner step
pub judged_clear : (run : Run) (s : State) (low : ℕ) → low ≤ lowest_free s.slots → Clear (judged_of run s) low run s
judged_clear run s low under = (judged_sound run s, under)

-- what it refuses is refused with that number at each step
pub judged_first : (run : Run) (s : State) (step : Step) (r : ℕ) → judged_of run s ≡ suc r → refusal_of run s step ≡ suc r
unfolding judged_of refusal_of refusal_in first_given all_sound
judged_first run s step r h = go (sizes_right run (length s.words) (length s.slots)) refl (all_sound run s.words (sight_with no_parcel no_link run s)) refl
  where
    go : (a : Bool) → sizes_right run (length s.words) (length s.slots) ≡ a → (b : Bool) → all_sound run s.words (sight_with no_parcel no_link run s) ≡ b → refusal_of run s step ≡ suc r
    go true p true q = absurd (omega (arith, rw (p, q) at h))
    go true p false q = rw (p, q) (rw (p, q) at h)
    go false p b q = rw p (rw p at h)

-- ---- the slots

-- an accepted step sets no slot below what it hands on, and hands on nothing above the lowest free slot
module _ (run : Run) (s : State) (low : ℕ) (under : low ≤ lowest_free s.slots) where
  -- a refused one hands on what it had
  refused_low : (step : Step) (r v : ℕ) → low_after low step (answer (suc r) v) ≡ low
  unfolding low_after
  refused_low step r v = ap (λ (b : Bool). cond b (low_taken low step 0) low) (ne_eqb (suc r) 0 (omega arith))

  by_refusal : (step : Step) (r : ℕ) → low_after low step (answer r (value_of run s step)) ≤ lowest_free (state_by r s (moved run s step)).slots
  unfolding low_after
  by_refusal step zero =
      let told = (owed run s step).parcels.low low under in
      set_lowest s.slots (effect_of run s step).post.place (effect_of run s step).post.parcel (low_taken low step (value_of run s step)) told.0 told.1
  by_refusal step (suc r) = rw (refused_low step r (value_of run s step)) under

  pub low_stepped : (step : Step) (r : Answer) (left : State) → Stepped run s step r left → low_after low step r ≤ lowest_free left.slots
  unfolding after
  low_stepped step r left did = rw (did.answer, did.state) (by_refusal step (refusal_of run s step))

  pub low_kept : (refused : ℕ) (step : Step) (r : Answer) (left : State) → Acted refused run s step r left → low_after low step r ≤ lowest_free left.slots
  unfolding answer_under after_under after
  low_kept zero step r left did = rw (did.answer, did.state) (by_refusal step (refusal_of run s step))
  low_kept (suc k) step r left did = rw (did.answer, did.state, refused_low step k 0) under
