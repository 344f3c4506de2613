-- A list of events from fresh: the state stays sound, so that refusals 1 and 2 never come; each counter is the number of accepted steps of its
-- kind; and the books balance.
-- Assumes nothing.
use Rattle.std.specs.Prelude.{ℕ, suc, ◌+◌, Bool, ◌&&◌, ◌≡◌, refl, length}
use native.Mathlib.Omega.{arith}
use Rattle.std.proofs.Math.Bool.{true, false, cond}
use Rattle.std.proofs.Common.{ap, ◌∙◌}
use mathlib.Core.List.{List, [], ◌∷◌}
use Rattle.rules.specs.declared.Run.{Run}
use Rattle.rules.specs.declared.Ledger.{Ledger}
use Rattle.rules.specs.declared.Step.{Step}
use Rattle.rules.specs.meaning.Lengths.{M}
use Rattle.rules.specs.meaning.Parcels.{waiting}
use Rattle.rules.specs.meaning.Ledgers.{no_counts}
use Rattle.rules.specs.meaning.Kinds.{is_send, is_again, is_deliver, is_lose}
use Rattle.rules.specs.meaning.States.{State, StateSound}
use Rattle.rules.specs.meaning.Runs.{refusal_of, fresh_refusal, after_fresh, moved}
use Rattle.rules.specs.meaning.Events.{Event, step_in, refusal_for, after_event}
use Rattle.rules.specs.meaning.Histories.{ran, is_accepted, is_of, accepted_of}
use Rattle.rules.proofs.laws.run.Ledgers.{balanced}
use Rattle.rules.proofs.laws.run.Rows.{owed}
use Rattle.rules.proofs.laws.run.Sound.{fresh_sound}
use Rattle.rules.proofs.laws.run.Events.{event_keeps}
use Rattle.rules.proofs.laws.run.Happens.{event_owed, by_acceptance, by_event}

-- ---- one event
module _ (run : Run) (s : State) where
  -- a count of the ledger that rises where an accepted step is of its kind
  counted : (kind : Step → Bool) (count : Ledger → ℕ)
      → ((step : Step) → refusal_of run s step ≡ 0 → count (moved run s step).ledger ≡ cond (kind step) (suc (count s.ledger)) (count s.ledger))
      → (event : Event) → count (after_event run s event).ledger ≡ cond (is_accepted run s event && is_of kind (step_in event)) (suc (count s.ledger)) (count s.ledger)
  counted kind count each = by_event run s kind (λ t n ss l. count l ≡ cond t (suc (count s.ledger)) (count s.ledger))
      (λ step. by_acceptance run s step (λ t u. count u.ledger ≡ cond (t && kind step) (suc (count s.ledger)) (count s.ledger)) (each step) refl) refl

  -- sent is one more exactly for an accepted send
  pub sent_count : (event : Event)
      → (after_event run s event).ledger.counts.sent ≡ cond (is_accepted run s event && is_of is_send (step_in event)) (suc s.ledger.counts.sent) s.ledger.counts.sent
  sent_count = counted is_send (λ l. l.counts.sent) (λ step h. ((owed run s step).parcels.earned h).0)

  -- copied is one more exactly for an accepted copy
  pub copied_count : (event : Event)
      → (after_event run s event).ledger.counts.copied ≡ cond (is_accepted run s event && is_of is_again (step_in event)) (suc s.ledger.counts.copied) s.ledger.counts.copied
  copied_count = counted is_again (λ l. l.counts.copied) (λ step h. ((owed run s step).parcels.earned h).1)

  -- absorbed is one more exactly for an accepted delivery
  pub absorbed_count : (event : Event)
      → (after_event run s event).ledger.counts.absorbed ≡ cond (is_accepted run s event && is_of is_deliver (step_in event)) (suc s.ledger.counts.absorbed) s.ledger.counts.absorbed
  absorbed_count = counted is_deliver (λ l. l.counts.absorbed) (λ step h. ((owed run s step).parcels.earned h).2)

  -- lost is one more exactly for an accepted loss
  pub lost_count : (event : Event)
      → (after_event run s event).ledger.counts.lost ≡ cond (is_accepted run s event && is_of is_lose (step_in event)) (suc s.ledger.counts.lost) s.ledger.counts.lost
  lost_count = counted is_lose (λ l. l.counts.lost) (λ step h. ((owed run s step).parcels.earned h).3)

  -- whatever happens, a sound state is followed by a sound one
  pub event_sound : (event : Event) → StateSound run s → StateSound run (after_event run s event)
  event_sound event h = event_keeps run s event (StateSound run) h (event_owed run s event).sound

  -- and the sizes stay, in every state
  pub event_sized : (event : Event) → (length (after_event run s event).words ≡ length s.words) × (length (after_event run s event).slots ≡ length s.slots)
  event_sized event = event_keeps run s event (λ u. (length u.words ≡ length s.words) × (length u.slots ≡ length s.slots)) (refl, refl) (event_owed run s event).sized

-- ---- what every event keeps, a list of events keeps
pub ran_keeps : (run : Run) (P : State → Type 0) → ((s : State) (event : Event) → P s → P (after_event run s event)) → (s : State) (events : List Event) → P s → P (ran run s events)
unfolding ran
ran_keeps run P keep s [] h = h
ran_keeps run P keep s (event ∷ events) h = ran_keeps run P keep (after_event run s event) events (keep s event h)

module _ (run : Run) (s : State) (events : List Event) where
  -- a sound state stays sound over any list of events
  pub ran_sound : StateSound run s → StateSound run (ran run s events)
  ran_sound h = ran_keeps run (StateSound run) (event_sound run) s events h

  -- "its sizes are the same at all its calls", in every state
  pub ran_sized : (length (ran run s events).words ≡ length s.words) × (length (ran run s events).slots ≡ length s.slots)
  ran_sized = ran_keeps run (λ u. (length u.words ≡ length s.words) × (length u.slots ≡ length s.slots))
      (λ u event h. ((event_sized run u event).0 ∙ h.0, (event_sized run u event).1 ∙ h.1)) s events (refl, refl)

-- ---- a count that an accepted step of one kind raises by 1, and nothing else changes
module _ (run : Run) (kind : Step → Bool) (count : State → ℕ)
    (each : (s : State) (event : Event) → count (after_event run s event) ≡ cond (is_accepted run s event && is_of kind (step_in event)) (suc (count s)) (count s)) where
  ran_counts : (s : State) (events : List Event) → count (ran run s events) ≡ count s + accepted_of kind run s events
  unfolding ran accepted_of
  ran_counts s [] = omega arith
  ran_counts s (event ∷ events) = ran_counts (after_event run s event) events ∙ go (is_accepted run s event && is_of kind (step_in event)) (each s event)
    where
      go : (b : Bool) → count (after_event run s event) ≡ cond b (suc (count s)) (count s)
          → count (after_event run s event) + accepted_of kind run (after_event run s event) events ≡ count s + (cond b 1 0 + accepted_of kind run (after_event run s event) events)
      go true e = omega arith
      go false e = omega arith

-- ---- from fresh
module _ (run : Run) (first : ℕ) (s : State) (fresh : fresh_refusal run (length s.words) (length s.slots) ≡ 0) where
  fresh_counts : (after_fresh run first s).ledger.counts ≡ no_counts
  unfolding after_fresh
  fresh_counts = rw fresh

  -- after any list of events the state is sound
  pub fresh_ran_sound : (events : List Event) → StateSound run (ran run (after_fresh run first s) events)
  fresh_ran_sound events = ran_sound run (after_fresh run first s) events (fresh_sound run first s fresh)

  -- a count that is 0 in a fresh run
  from_zero : (kind : Step → Bool) (count : State → ℕ)
      → ((u : State) (event : Event) → count (after_event run u event) ≡ cond (is_accepted run u event && is_of kind (step_in event)) (suc (count u)) (count u))
      → count (after_fresh run first s) ≡ 0 → (events : List Event) → count (ran run (after_fresh run first s) events) ≡ accepted_of kind run (after_fresh run first s) events
  from_zero kind count each none events = omega (arith, ran_counts run kind count each (after_fresh run first s) events, none)

  -- "From a fresh start each counter is the number of accepted steps of its kind": sent, of the sends
  pub sent_is_counted : (events : List Event) → (ran run (after_fresh run first s) events).ledger.counts.sent ≡ accepted_of is_send run (after_fresh run first s) events
  sent_is_counted = from_zero is_send (λ u. u.ledger.counts.sent) (sent_count run) (ap (λ c. c.sent) fresh_counts)

  -- "From a fresh start each counter is the number of accepted steps of its kind": copied, of the copies
  pub copied_is_counted : (events : List Event) → (ran run (after_fresh run first s) events).ledger.counts.copied ≡ accepted_of is_again run (after_fresh run first s) events
  copied_is_counted = from_zero is_again (λ u. u.ledger.counts.copied) (copied_count run) (ap (λ c. c.copied) fresh_counts)

  -- "From a fresh start each counter is the number of accepted steps of its kind": absorbed, of the deliveries
  pub absorbed_is_counted : (events : List Event) → (ran run (after_fresh run first s) events).ledger.counts.absorbed ≡ accepted_of is_deliver run (after_fresh run first s) events
  absorbed_is_counted = from_zero is_deliver (λ u. u.ledger.counts.absorbed) (absorbed_count run) (ap (λ c. c.absorbed) fresh_counts)

  -- "From a fresh start each counter is the number of accepted steps of its kind": lost, of the losses
  pub lost_is_counted : (events : List Event) → (ran run (after_fresh run first s) events).ledger.counts.lost ≡ accepted_of is_lose run (after_fresh run first s) events
  lost_is_counted = from_zero is_lose (λ u. u.ledger.counts.lost) (lost_count run) (ap (λ c. c.lost) fresh_counts)

  -- "sent + copied = absorbed + lost + waiting", after any list of events
  pub books_balance : (events : List Event)
      → (ran run (after_fresh run first s) events).ledger.counts.sent + (ran run (after_fresh run first s) events).ledger.counts.copied
      ≡ (ran run (after_fresh run first s) events).ledger.counts.absorbed + (ran run (after_fresh run first s) events).ledger.counts.lost + waiting (ran run (after_fresh run first s) events).slots
  books_balance events =
      let u = ran run (after_fresh run first s) events in
      (balanced M (waiting u.slots) u.ledger.counts (fresh_ran_sound events).3).sums

  -- "no refusal is given outside its listed condition": a run that was made fresh keeps its sizes, so nothing in it is refused with 1
  pub never_1 : (before : List Event) (event : Event) → refusal_for run (ran run (after_fresh run first s) before) event ≡ 1 → ⊥
  never_1 before event = ((event_owed run (ran run (after_fresh run first s) before) event).lets_through (fresh_ran_sound before)).0

  -- and it keeps its layout, so nothing in it is refused with 2
  pub never_2 : (before : List Event) (event : Event) → refusal_for run (ran run (after_fresh run first s) before) event ≡ 2 → ⊥
  never_2 before event = ((event_owed run (ran run (after_fresh run first s) before) event).lets_through (fresh_ran_sound before)).1
