-- What each event owes, operation by operation: the eight steps by what a step owes, a group that is absorbed, and a repair round. The one proof of the laws of a run that goes
-- over the events.
-- Assumes nothing.
use Rattle.std.specs.Prelude.{ℕ, zero, suc, ◌<◌, Bool, true, false, ◌&&◌, ◌≡◌, List, ◌++◌, eqb}
use Rattle.std.proofs.Common.{arith, sym, subst, ◌∙◌, length-set}
use Rattle.std.proofs.Math.Path.{refl}
use borrow.Author.Tests.{leb-false, ltb-true, eqb-true, ne_eqb}
use Rattle.rules.specs.declared.Run.{Run}
use Rattle.rules.specs.declared.Parcel.{Parcel}
use Rattle.rules.specs.declared.Ledger.{Ledger}
use Rattle.rules.specs.declared.Step.{Step}
use Rattle.rules.specs.meaning.Lengths.{M}
use Rattle.rules.specs.meaning.Table.{capacity, held_merged}
use Rattle.rules.specs.meaning.Operations.{accepted, merge_table, merge_refusal}
use Rattle.rules.specs.meaning.Refusals.{first_given}
use Rattle.rules.specs.meaning.States.{State, StateSound, table_at, sight_of}
use Rattle.rules.specs.meaning.Steps.{Gain, entries_of, ids_of, site_in}
use Rattle.rules.specs.meaning.Runs.{refusal_of, moved, state_by, effect_of}
use Rattle.rules.specs.meaning.Groups.{entries_in}
use Rattle.rules.specs.meaning.Events.{Event, takes, absorbs, round, step_in, absorb_tests, absorb_refusal, words_absorbed, outcome, refusal_for, after_event}
use Rattle.rules.specs.meaning.Ids.{distinct}
use Rattle.rules.specs.meaning.Histories.{is_accepted, is_of, serial_put}
use Rattle.rules.proofs.laws.group.Groups.{entries_sound}
use Rattle.rules.proofs.laws.table.Operations.{merge_sound, merge_of, merge_length}
use Rattle.rules.proofs.laws.run.Steps.{past, pass, none_given, sound_judged, accepted_sound}
use Rattle.rules.proofs.laws.run.Tables.{site_sound}
use Rattle.rules.proofs.laws.run.Owed.{Gains, one_gains, one_offered, given_numbered, numbered}
use Rattle.rules.proofs.laws.run.Rows.{owed, put_in, given_by_law, more}
use Rattle.rules.proofs.laws.run.Acts.{judged_before, sound_before}
use Rattle.rules.proofs.laws.run.Sound.{moved_sound}
use Rattle.rules.proofs.laws.run.Rounds.{by_round}
use Rattle.rules.proofs.laws.run.Events.{Parcels, Parcels.by_step, Parcels.untouched, EventOwed, event_keeps}
use Rattle.rules.proofs.laws.history.Pairs.{largest_entries}
use Rattle.rules.proofs.laws.history.Distinct.{among_left}
use Rattle.rules.proofs.laws.history.Held.{held_among, needed_for_all}

-- ---- the eight steps
by_steps : (run : Run) (s : State) (step : Step) → EventOwed run s (takes step)
unfolding outcome refusal_for
by_steps run s step =
    let facts = owed run s step in
    let site = site_in run (sight_of run s step) step in
    let gain = (effect_of run s step).gain in
    let tested : (n : ℕ) → StateSound run s → refusal_for run s (takes step) ≡ n → first_given (effect_of run s step).tests ≡ n = λ n ok e. sym (sound_judged run s step ok) ∙ e in
    record {
      judges = accepted_sound run s step;
      lets_through = λ ok. (
        λ e. omega (arith, given_numbered 3 99 _ facts.tests 0 (tested 1 ok e)),
        λ e. omega (arith, given_numbered 3 99 _ facts.tests 1 (tested 2 ok e)),
      );
      sized = λ a. ((facts.tables.gains a).as_many, length-set s.slots (effect_of run s step).post.place (effect_of run s step).post.parcel);
      sound = moved_sound run s step;
      joined = λ a. one_gains run s site gain (facts.tables.gains a);
      offered = λ a. one_offered run s site gain (facts.tables.gains a);
      crowds = λ ok k h here r.
          let at = eqb-true site k here in
          rw (← at) (facts.tables.crowds ok (rw at h) r);
      parcels = by_step step refl;
    }

-- ---- a group absorbed at a site
module _ (run : Run) (s : State) (k : ℕ) (bytes : List ℕ) where
  abbrev event : Event
  event = absorbs k bytes

  abbrev own : List ℕ
  own = table_at run s.words k

  abbrev entries : List ℕ
  entries = entries_in bytes

  -- in a sound state only its own tests can refuse it
  pub own_tests : StateSound run s → refusal_for run s event ≡ first_given (absorb_tests run s.words k bytes)
  unfolding outcome refusal_for absorb_refusal
  own_tests = sound_before run s (absorb_tests run s.words k bytes)

  -- accepted, it was taken in a sound state
  pub in_sound : refusal_for run s event ≡ 0 → StateSound run s
  unfolding outcome refusal_for absorb_refusal
  in_sound h = (judged_before run s (absorb_tests run s.words k bytes) h).0

  -- the site is of the run, and there is room
  pub site_in_law : refusal_for run s event ≡ 0 → k < run.sites
  site_in_law h = leb-false _ _ (pass 2 _ _ (sym (own_tests (in_sound h)) ∙ h)).0

  pub taken : refusal_for run s event ≡ 0 → merge_refusal own entries ≡ accepted
  unfolding merge_refusal
  taken h =
      let a = pass 2 _ _ (sym (own_tests (in_sound h)) ∙ h) in
      let b = pass 16 _ _ a.1 in
      rw (pass 7 _ _ b.1).0

  abbrev gain : Gain
  gain = record { site = k; given = entries_of entries; offer = ids_of entries; words = words_absorbed run s.words k bytes }

  gained : refusal_for run s event ≡ 0 → Gains run s.words k gain
  gained h =
      let so = in_sound h in
      let inside = site_in_law h in
      let own-ok = site_sound run s so k inside in
      let ok = entries_sound bytes in
      put_in run s so k inside (merge_table own entries) (merge_sound M own entries own-ok ok) (merge_length M own entries own-ok ok) (entries_of entries) (ids_of entries)
      (λ x. rw (largest_entries M entries ok x) (merge_of M own entries own-ok ok (taken h) x))
      (λ x g. among_left (ids_of entries) (ids_of own) x (held_among M entries ok x (rw (largest_entries M entries ok x) at g)))

  absorbed_sound : refusal_for run s event ≡ 0 → StateSound run (outcome run s event).state
  unfolding outcome
  absorbed_sound h =
      let so = in_sound h in
      (rw (gained h).as_many so.0, (gained h).all_sound_law, so.2, so.3, so.4)

  too_many : StateSound run s → k < run.sites → refusal_for run s event ≡ 8 → run.capacity < distinct (ids_of entries ++ ids_of own)
  too_many ok inside r =
      let a = past 8 3 _ _ (omega arith) (sym (own_tests ok) ∙ r) in
      let b = past 8 17 _ _ (omega arith) a.1 in
      let c : capacity own < held_merged own entries = ltb-true _ _ (given_by_law 8 8 _ _ (none_given 8 (omega arith)) b.1) in
      rw (← needed_for_all M own entries (site_sound run s ok k inside) (entries_sound bytes)) (more run s ok k inside _ c)

  by_group : EventOwed run s event
  unfolding outcome numbered
  by_group = record {
    judges = in_sound;
    lets_through = λ ok. (
      λ e. omega (arith, given_numbered 3 99 (absorb_tests run s.words k bytes) refl 0 (sym (own_tests ok) ∙ e)),
      λ e. omega (arith, given_numbered 3 99 (absorb_tests run s.words k bytes) refl 1 (sym (own_tests ok) ∙ e)),
    );
    sized = λ h. ((gained h).as_many, refl);
    sound = absorbed_sound;
    joined = λ h. one_gains run s k gain (gained h);
    offered = λ h. one_offered run s k gain (gained h);
    crowds = λ ok j inside here r.
        let at = eqb-true k j here in
        rw (← at) (too_many ok (rw at inside) r);
    parcels = untouched refl refl refl;
  }

pub event_owed : (run : Run) (s : State) (event : Event) → EventOwed run s event
event_owed run s (takes step) = by_steps run s step
event_owed run s (absorbs k bytes) = by_group run s k bytes
event_owed run s round = by_round run s

-- ---- what is seen of the parcels and the ledger
-- an accepted step makes one state, and a refused one leaves the other
pub by_acceptance : (run : Run) (s : State) (step : Step) (P : Bool → State → Type 0) → (refusal_of run s step ≡ 0 → P true (moved run s step)) → P false s
    → P (is_accepted run s (takes step)) (after_event run s (takes step))
unfolding outcome refusal_for after_event
by_acceptance run s step P took left = go (refusal_of run s step) refl
  where
    go : (r : ℕ) → refusal_of run s step ≡ r → P (eqb r 0) (state_by r s (moved run s step))
    go zero e = took e
    go (suc r) e = subst (λ (t : Bool). P t s) (sym (ne_eqb (suc r) 0 (omega arith))) left

-- what holds of every step, and of what sends nothing and leaves the slots and the ledger, holds of every event. Said of an accepted step of a kind, the serial
-- that it puts, and the slots and the ledger after
pub by_event : (run : Run) (s : State) (kind : Step → Bool) (P : Bool → ℕ → List Parcel → Ledger → Type 0)
    → ((step : Step) → P (is_accepted run s (takes step) && kind step) (effect_of run s step).post.parcel.serial (after_event run s (takes step)).slots (after_event run s (takes step)).ledger)
    → P false 0 s.slots s.ledger → (event : Event)
    → P (is_accepted run s event && is_of kind (step_in event)) (serial_put run s (step_in event)) (after_event run s event).slots (after_event run s event).ledger
by_event run s kind P steps rest event = go (event_owed run s event).parcels
  where
    none : (t : Bool) → t && false ≡ false
    none true = refl
    none false = refl

    go : Parcels run s event → P (is_accepted run s event && is_of kind (step_in event)) (serial_put run s (step_in event)) (after_event run s event).slots (after_event run s event).ledger
    go (by_step step e) = rw e (steps step)
    go (untouched off slots ledger) = rw (
      off,
      none (is_accepted run s event),
      event_keeps run s event (λ u. u.slots ≡ s.slots) refl (λ _. slots),
      event_keeps run s event (λ u. u.ledger ≡ s.ledger) refl (λ _. ledger),
    ) rest
