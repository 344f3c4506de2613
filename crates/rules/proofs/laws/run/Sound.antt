-- A sound state stays sound: a fresh run is sound, every step keeps it so, the sizes stay, and a step changes no table but its own.
-- Assumes nothing.
use Rattle.std.specs.Prelude.{ℕ, true, ◌≡◌, refl, length}
use Rattle.std.proofs.Common.{arith, length-set}
use Rattle.std.proofs.lemmas.List.{length-replicate}
use Rattle.std.proofs.lemmas.Bool.{not-false}
use Rattle.rules.specs.declared.Run.{Run}
use Rattle.rules.specs.declared.Step.{Step}
use Rattle.rules.specs.meaning.Lengths.{M}
use Rattle.rules.proofs.laws.table.View.{Unused}
use Rattle.rules.proofs.laws.run.Zeros.{zeros_unused, zeros_sound}
use Rattle.rules.specs.meaning.Ledgers.{counts_sound, no_counts}
use Rattle.rules.specs.meaning.States.{State, table_at, sizes_right, sight_of, StateSound}
use Rattle.rules.specs.meaning.Steps.{site_in}
use Rattle.rules.specs.meaning.Runs.{refusal_of, moved, after, fresh_refusal, empty, after_fresh, effect_of}
use Rattle.rules.proofs.laws.run.Slots.{cleared_sound, cleared_length, cleared_waiting}
use Rattle.rules.proofs.laws.run.Ledgers.{balanced_sound}
use Rattle.rules.proofs.laws.run.Links.{begun_sound}
use Rattle.rules.proofs.laws.run.Steps.{pass, after_keeps, accepted_sound}
use Rattle.rules.proofs.laws.run.Rows.{owed}
pub use Rattle.rules.proofs.laws.run.Tables.{words_long}

-- ---- a fresh run
-- no counts balance where nothing waits
empty_sound : (most : ℕ) → counts_sound most 0 no_counts ≡ true
empty_sound most = balanced_sound most 0 no_counts (omega arith)

-- what making a run fresh tests
pub fresh_sizes : (run : Run) (s : State) → fresh_refusal run (length s.words) (length s.slots) ≡ 0 → sizes_right run (length s.words) (length s.slots) ≡ true
unfolding fresh_refusal
fresh_sizes run s h = not-false _ (pass 0 _ _ h).0

empty_state_sound : (run : Run) (first : ℕ) (s : State) → sizes_right run (length s.words) (length s.slots) ≡ true → StateSound run (empty run first s)
empty_state_sound run first s h = (
  rw (length-replicate {A = ℕ} (length s.words) 0, cleared_length s.slots) h,
  rw (words_long run _ _ h) (zeros_sound run.capacity run.sites M),
  cleared_sound M run.sites s.slots,
  rw (cleared_waiting s.slots) (empty_sound M),
  begun_sound run.sites first s.ledger.pairs,
)

-- a run made fresh is sound
pub fresh_sound : (run : Run) (first : ℕ) (s : State) → fresh_refusal run (length s.words) (length s.slots) ≡ 0 → StateSound run (after_fresh run first s)
unfolding after_fresh
fresh_sound run first s h = rw h (empty_state_sound run first s (fresh_sizes run s h))

-- and no place of its tables is in use
pub fresh_unused : (run : Run) (first : ℕ) (s : State) → fresh_refusal run (length s.words) (length s.slots) ≡ 0 → (k : ℕ) → Unused (table_at run (after_fresh run first s).words k)
unfolding after_fresh table_at
fresh_unused run first s h k = rw (h, words_long run _ _ (fresh_sizes run s h)) (zeros_unused run.capacity run.sites k)

-- ---- a step
module _ (run : Run) (s : State) (step : Step) where
  -- the sizes stay, at every step in every state: as many words as before
  pub words_stay_long : length (after run s step).words ≡ length s.words
  words_stay_long = after_keeps run s step (λ u. length u.words ≡ length s.words) refl (λ a. ((owed run s step).tables.gains a).as_many)

  -- as many slots as before
  pub slots_stay_long : length (after run s step).slots ≡ length s.slots
  slots_stay_long = after_keeps run s step (λ u. length u.slots ≡ length s.slots) refl
      (λ a. length-set s.slots (effect_of run s step).post.place (effect_of run s step).post.parcel)

  -- both
  pub sized_stays : (length (after run s step).words ≡ length s.words) × (length (after run s step).slots ≡ length s.slots)
  sized_stays = (words_stay_long, slots_stay_long)

  pub moved_sound : refusal_of run s step ≡ 0 → StateSound run (moved run s step)
  moved_sound a =
      let so = accepted_sound run s step a in
      let kept = (owed run s step).tables.gains a in
      let slots = (owed run s step).parcels.counted a in
      (rw (kept.as_many, length-set s.slots (effect_of run s step).post.place (effect_of run s step).post.parcel) so.0, kept.all_sound_law, slots.0, slots.1, slots.2)

  -- whatever the step, a sound state is followed by a sound one
  pub after_sound : StateSound run s → StateSound run (after run s step)
  after_sound h = after_keeps run s step (StateSound run) h moved_sound

  -- a step changes no table but its own: that of every other site is as it was, in every state
  pub others_stay : (j : ℕ) → (j ≡ site_in run (sight_of run s step) step → ⊥) → table_at run (after run s step).words j ≡ table_at run s.words j
  others_stay j ne = after_keeps run s step (λ u. table_at run u.words j ≡ table_at run s.words j) refl (λ a. ((owed run s step).tables.gains a).others j ne)
