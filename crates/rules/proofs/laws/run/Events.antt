-- What an event owes: one record of facts, which each of the operations of a run proves once. The promises of lists of events go by these facts, and do not
-- know which operations there are.
-- Assumes nothing.
use Prim.Native.Nat.{ℕ, zero, suc, ◌≤◌, ◌<◌}
use Rattle.std.specs.Prelude.{true, cond, ◌≡◌, [], ◌++◌, length, None}
use Rattle.std.proofs.Math.Path.{refl}
use Rattle.rules.specs.declared.Run.{Run}
use Rattle.rules.specs.declared.Step.{Step}
use Rattle.rules.specs.meaning.Lengths.{join}
use Rattle.rules.specs.meaning.States.{State, StateSound, table_at}
use Rattle.rules.specs.meaning.Steps.{ids_of}
use Rattle.rules.specs.meaning.Runs.{state_by}
use Rattle.rules.specs.meaning.Events.{Event, takes, step_in, Outcome, outcome, refusal_for, after_event}
use Rattle.rules.specs.meaning.Ids.{among, distinct}
use Rattle.rules.specs.meaning.Histories.{length_in, largest}

-- ---- what an event owes
-- of the parcels and the ledger: it is a step, or it leaves both alone
pub data Parcels (run : Run) (s : State) (event : Event) : Type 0 where
  by_step : (step : Step) → event ≡ takes step → Parcels run s event
  untouched : step_in event ≡ None → (outcome run s event).state.slots ≡ s.slots → (outcome run s event).state.ledger ≡ s.ledger → Parcels run s event

module _ (run : Run) (s : State) (event : Event) where
  abbrev comes : Outcome
  comes = outcome run s event

  pub record EventOwed : Type 0 where
    -- it judges the state before anything else: accepted, the state was sound, and in a sound state it is refused neither with 1 nor with 2
    pub judges : refusal_for run s event ≡ 0 → StateSound run s
    pub lets_through : StateSound run s → (refusal_for run s event ≡ 1 → ⊥) × (refusal_for run s event ≡ 2 → ⊥)
    -- accepted, it leaves a sound state of the same sizes
    pub sized : refusal_for run s event ≡ 0 → (length comes.state.words ≡ length s.words) × (length comes.state.slots ≡ length s.slots)
    pub sound : refusal_for run s event ≡ 0 → StateSound run comes.state
    -- each site then holds the larger of what it held and what it was given, which it was offered, or it held the id before
    pub joined : refusal_for run s event ≡ 0 → (k e : ℕ) → length_in run comes.state k e ≡ join (length_in run s k e) (largest (cond (comes.gaining k) (comes.given k) []) e)
    pub offered : refusal_for run s event ≡ 0 → (k : ℕ) → comes.gaining k ≡ true → (x : ℕ) → 1 ≤ largest (comes.given k) x → among x (comes.offer k ++ ids_of (table_at run s.words k)) ≡ true
    -- refused with 8, the ids that a gaining site holds are, with those that it is offered, more than C different ones
    pub crowds : StateSound run s → (k : ℕ) → k < run.sites → comes.gaining k ≡ true → refusal_for run s event ≡ 8
        → run.capacity < distinct (comes.offer k ++ ids_of (table_at run s.words k))
    pub parcels : Parcels run s event

  -- ---- refused, it changes nothing
  pub refused_event_stays : (r : ℕ) → refusal_for run s event ≡ suc r → after_event run s event ≡ s
  unfolding after_event
  refused_event_stays r h = rw h

  -- accepted, it leaves what comes of it
  pub accepted_event_moves : refusal_for run s event ≡ 0 → after_event run s event ≡ comes.state
  unfolding after_event
  accepted_event_moves h = rw h

  -- what holds of the state before, and of the state that an accepted event makes, holds of the state after
  pub event_keeps : (P : State → Type 0) → P s → (refusal_for run s event ≡ 0 → P comes.state) → P (after_event run s event)
  unfolding after_event
  event_keeps P keep move = go (refusal_for run s event) refl
    where
      go : (r : ℕ) → refusal_for run s event ≡ r → P (state_by r s comes.state)
      go zero e = move e
      go (suc r) e = keep
