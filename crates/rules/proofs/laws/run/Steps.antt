-- The laws of one step: a refused one changes nothing, no slot but the named one changes, an accepted one was taken in a sound state, and what its own
-- tests say of it.
-- Assumes nothing.
use Prim.Native.Nat.{ℕ, zero, suc, ◌≤◌, ◌<◌}
use Rattle.std.proofs.Common.{suc-ne-zero, arith, sym, ◌∙◌, get_or-set_other}
use Rattle.std.specs.Prelude.{Bool, true, false, ◌||◌, not, ◌≡◌, List, [], ◌∷◌, length, get_or, leb, eqb}
use Rattle.std.proofs.lemmas.Bool.{false≢true}
use Rattle.std.proofs.Math.Path.{refl}
use borrow.Author.Tests.{leb-false, eqb-false, not-false}
use Rattle.rules.specs.declared.Run.{Run}
use Rattle.rules.specs.declared.Parcel.{Parcel}
use Rattle.rules.specs.declared.Step.{Step}
use Rattle.rules.specs.declared.Step.TheVariants.{Add, Remove, Query, Send, Merge, Deliver, Again, Lose}
use Rattle.rules.specs.meaning.Lengths.{M}
use Rattle.rules.specs.meaning.Table.{length_of}
use Rattle.rules.proofs.laws.table.View.{parts}
use Rattle.rules.specs.meaning.Parcels.{no_parcel, is_occupied, slots_sound, waiting, lowest_free}
use Rattle.rules.specs.meaning.Ledgers.{counts_sound}
use Rattle.rules.specs.meaning.States.{State, width, table_at, tables_sound, all_sound, sight_of, StateSound}
use Rattle.rules.specs.meaning.Kinds.{slot_of, numbers}
use Rattle.rules.specs.meaning.Refusals.{Test, ◌when◌, first_given}
use Rattle.rules.specs.meaning.Runs.{refusal_in, refusal_of, answer_of, moved, state_by, after, effect_of}
use Rattle.rules.specs.meaning.Steps.{effect}

-- ---- a refused step
module _ (run : Run) (s : State) (step : Step) where
  -- it writes nothing, counters included
  pub refused_stays : (r : ℕ) → refusal_of run s step ≡ suc r → after run s step ≡ s
  unfolding after
  refused_stays r h = rw h

  -- it answers its number, and 0 as the other result
  pub refused_answer_law : (r : ℕ) → refusal_of run s step ≡ suc r → answer_of run s step ≡ record { refusal = suc r; value = 0 }
  refused_answer_law r h = rw h

  -- what holds of the state before, and of the state that an accepted step makes, holds of the state after
  pub after_keeps : (P : State → Type 0) → P s → (refusal_of run s step ≡ 0 → P (moved run s step)) → P (after run s step)
  unfolding after
  after_keeps P keep move = go (refusal_of run s step) refl
    where
      go : (r : ℕ) → refusal_of run s step ≡ r → P (state_by r s (moved run s step))
      go zero e = move e
      go (suc r) e = keep

  -- an accepted step's state
  pub accepted_moves : refusal_of run s step ≡ 0 → after run s step ≡ moved run s step
  unfolding after
  accepted_moves h = rw h

  -- ---- the slots: every slot but the one that the step's place names stays as it is
  pub only_named_slot : (i : ℕ) → (i ≡ (effect_of run s step).post.place → ⊥) → get_or (after run s step).slots i no_parcel ≡ get_or s.slots i no_parcel
  only_named_slot i ne = after_keeps (λ u. get_or u.slots i no_parcel ≡ get_or s.slots i no_parcel) refl
      (λ a. get_or-set_other s.slots (effect_of run s step).post.place i (effect_of run s step).post.parcel no_parcel ne)

-- where a list of tests gives a number, a test with another number is not given, and the others give it
pub past : (k n : ℕ) (b : Bool) (ts : List Test) → (n ≡ k → ⊥) → first_given ((n when b) ∷ ts) ≡ k → (b ≡ false) × (first_given ts ≡ k)
unfolding first_given
past k n true ts ne h = absurd (ne h)
past k n false ts ne h = (refl, h)

-- so where no test of a list is given, the first is not, and none of the others
pub pass : (n : ℕ) (b : Bool) (ts : List Test) → first_given ((suc n when b) ∷ ts) ≡ 0 → (b ≡ false) × (first_given ts ≡ 0)
pass n b ts h = past 0 (suc n) b ts (suc-ne-zero n) h

-- no tests give no number
pub none_given : (k : ℕ) → 1 ≤ k → first_given [] ≡ k → ⊥
unfolding first_given
none_given k p h = omega arith

-- both parts of an or that does not hold
pub neither : (a b : Bool) → a || b ≡ false → (a ≡ false) × (b ≡ false)
neither true b h = absurd (false≢true (sym h))
neither false b h = (refl, h)

module _ (run : Run) (s : State) (step : Step) where
  -- what the state is, as 2 judges it
  pub sound_all : StateSound run s → all_sound run s.words (sight_of run s step) ≡ true
  unfolding all_sound
  sound_all h = rw (h.1, h.2, h.3, h.4)

  -- in a sound state only the step's own tests can refuse, so neither 1 nor 2 is ever met
  pub sound_judged : StateSound run s → refusal_of run s step ≡ first_given (effect_of run s step).tests
  unfolding refusal_of refusal_in first_given
  sound_judged h = rw (h.0, sound_all h)

  -- an accepted step was taken in a sound state
  pub accepted_sound : refusal_of run s step ≡ 0 → StateSound run s
  unfolding refusal_of refusal_in all_sound
  accepted_sound h =
      let a = pass 0 _ _ h in
      let b = pass 1 _ _ a.1 in
      let c = parts (tables_sound M (width run) run.sites s.words) _ (not-false _ b.0) in
      let d = parts (slots_sound M run.sites s.slots) _ c.1 in
      let e = parts (counts_sound M (waiting s.slots) s.ledger.counts) _ d.1 in
      (not-false _ a.0, c.0, d.0, e.0, e.1)

  -- and none of its own tests refused it
  pub accepted_own : refusal_of run s step ≡ 0 → first_given (effect_of run s step).tests ≡ 0
  accepted_own h = sym (sound_judged (accepted_sound h)) ∙ h

-- ---- what an accepted step's own tests say
module _ (run : Run) (s : State) where
  -- an accepted add: the site is of the run
  pub add_own : (k e : ℕ) → refusal_of run s (Add k e) ≡ 0 → k < run.sites
  unfolding effect
  add_own k e h = leb-false _ _ (pass 2 _ _ (accepted_own run s (Add k e) h)).0

  -- an accepted remove: likewise
  pub remove_own : (k e : ℕ) → refusal_of run s (Remove k e) ≡ 0 → k < run.sites
  unfolding effect
  remove_own k e h = leb-false _ _ (pass 2 _ _ (accepted_own run s (Remove k e) h)).0

  -- an accepted query: likewise
  pub query_own : (k e : ℕ) → refusal_of run s (Query k e) ≡ 0 → k < run.sites
  unfolding effect
  query_own k e h = leb-false _ _ (pass 2 _ _ (accepted_own run s (Query k e) h)).0

  -- an accepted merge: both sites are of the run
  pub merge_own : (f t : ℕ) → refusal_of run s (Merge f t) ≡ 0 → (f < run.sites) × (t < run.sites)
  unfolding effect
  merge_own f t h =
      let a = neither _ _ (pass 2 _ _ (accepted_own run s (Merge f t) h)).0 in
      (leb-false _ _ a.0, leb-false _ _ a.1)

  -- an accepted send: both sites are of the run, the sender holds the id, a slot is free, the sent count is not at the largest, and the sites differ
  pub send_own : (f t e : ℕ) → refusal_of run s (Send f t e) ≡ 0
      → (f < run.sites) × (t < run.sites) × (1 ≤ length_of (table_at run s.words f) e) × (lowest_free s.slots < length s.slots) × (eqb s.ledger.counts.sent M ≡ false)
      × (f ≡ t → ⊥)
  unfolding effect
  send_own f t e h =
      let a = pass 2 _ _ (accepted_own run s (Send f t e) h) in
      let b = pass 3 _ _ a.1 in
      let c = pass 5 _ _ b.1 in
      let d = pass 8 _ _ c.1 in
      let g = pass 9 _ _ d.1 in
      let some : 1 ≤ length_of (table_at run s.words f) e = omega (arith, eqb-false (length_of (table_at run s.words f) e) 0 c.0) in
      let sites = neither _ _ a.0 in
      (leb-false _ _ sites.0, leb-false _ _ sites.1, some, leb-false _ _ d.0, g.0, eqb-false f t b.0)

  -- a slot where something is
  there : (i : ℕ) (p : Parcel) → leb (length s.slots) i || not (is_occupied M run.sites p) ≡ false → (i < length s.slots) × (is_occupied M run.sites p ≡ true)
  there i p h =
      let a = neither _ _ h in
      (leb-false _ _ a.0, not-false _ a.1)

  -- an accepted delivery: the slot is occupied, and the absorbed count is not at the largest
  pub deliver_own : (i : ℕ) → refusal_of run s (Deliver i) ≡ 0
      → (i < length s.slots) × (is_occupied M run.sites (get_or s.slots i no_parcel) ≡ true) × (eqb s.ledger.counts.absorbed M ≡ false)
  unfolding slot_of numbers effect
  deliver_own i h =
      let a = pass 4 _ _ (accepted_own run s (Deliver i) h) in
      let b = pass 7 _ _ (pass 14 _ _ a.1).1 in
      let c = pass 9 _ _ b.1 in
      let d = there i (get_or s.slots i no_parcel) a.0 in
      (d.0, d.1, c.0)

  -- an accepted copy: the slot is occupied, another is free, and the copied count is not at the largest
  pub again_own : (i : ℕ) → refusal_of run s (Again i) ≡ 0
      → (i < length s.slots) × (is_occupied M run.sites (get_or s.slots i no_parcel) ≡ true) × (lowest_free s.slots < length s.slots) × (eqb s.ledger.counts.copied M ≡ false)
  unfolding slot_of numbers effect
  again_own i h =
      let a = pass 4 _ _ (accepted_own run s (Again i) h) in
      let b = pass 8 _ _ a.1 in
      let c = pass 9 _ _ b.1 in
      let d = there i (get_or s.slots i no_parcel) a.0 in
      (d.0, d.1, leb-false _ _ b.0, c.0)

  -- an accepted loss: the slot is occupied, and the lost count is not at the largest
  pub lose_own : (i : ℕ) → refusal_of run s (Lose i) ≡ 0
      → (i < length s.slots) × (is_occupied M run.sites (get_or s.slots i no_parcel) ≡ true) × (eqb s.ledger.counts.lost M ≡ false)
  unfolding slot_of numbers effect
  lose_own i h =
      let a = pass 4 _ _ (accepted_own run s (Lose i) h) in
      let b = pass 9 _ _ a.1 in
      let d = there i (get_or s.slots i no_parcel) a.0 in
      (d.0, d.1, b.0)
