-- What the sites of a run are offered: whatever happens, refused events among it, an id that a site holds was offered to it.
-- Assumes nothing.
use Prim.Native.Nat.{ℕ, zero, suc, ◌≤◌, ◌<◌}
use Rattle.std.proofs.Common.{arith, sym, eqb-true}
use Rattle.std.specs.Prelude.{Bool, ◌&&◌, cond, ◌≡◌, length}
use Rattle.std.proofs.Math.Bool.{true, false}
use Rattle.std.proofs.Math.Path.{refl}
use mathlib.Core.List.{List, [], ◌∷◌, ◌++◌, append_assoc, append-nil}
use Rattle.std.proofs.Math.Dec.{eqb}
use Rattle.rules.specs.declared.Run.{Run}
use Rattle.rules.specs.meaning.Lengths.{M}
use Rattle.rules.specs.meaning.Table.{length_of}
use Rattle.rules.specs.meaning.States.{State, table_at, StateSound}
use Rattle.rules.specs.meaning.Steps.{ids_of}
use Rattle.rules.specs.meaning.Runs.{fresh_refusal, after_fresh}
use Rattle.rules.specs.meaning.Events.{Event, outcome, refusal_for, after_event}
use Rattle.rules.proofs.laws.run.Happens.{event_owed}
use Rattle.rules.proofs.laws.run.Sound.{fresh_sound, fresh_unused}
use Rattle.rules.specs.meaning.Ids.{among}
use Rattle.rules.specs.meaning.Histories.{ran, absorbed_in, largest, offered_in, offered}
use Rattle.rules.proofs.laws.run.Tables.{site_sound}
use Rattle.rules.proofs.laws.history.Counting.{event_sound, fresh_ran_sound}
use Rattle.rules.proofs.laws.history.Absorbing.{event_absorbs}
use Rattle.rules.proofs.laws.history.Distinct.{AllAmong, among_left, among_right, among_either}
use Rattle.rules.proofs.laws.history.Held.{ids_unused, held_among, among_held}

-- ---- one event
module _ (run : Run) (s : State) (ok : StateSound run s) where
  -- what a site absorbs by an event was held there before, or is offered to it by the event
  absorbed_offered : (event : Event) (k x : ℕ) → 1 ≤ largest (absorbed_in run s k event) x
      → among x (offered_in run s k event ++ ids_of (table_at run s.words k)) ≡ true
  unfolding absorbed_in offered_in largest
  absorbed_offered event k x = go (eqb (refusal_for run s event) 0) refl ((outcome run s event).gaining k) refl
    where
      go : (a : Bool) → eqb (refusal_for run s event) 0 ≡ a → (b : Bool) → (outcome run s event).gaining k ≡ b → 1 ≤ largest (cond (a && b) ((outcome run s event).given k) []) x
          → among x (cond b ((outcome run s event).offer k) [] ++ ids_of (table_at run s.words k)) ≡ true
      go true q true r p = (event_owed run s event).offered (eqb-true _ _ q) k r x p
      go true q false r p = absurd (omega arith)
      go false q b r p = absurd (omega arith)

  -- an id that a site holds after an event was held there before, or is offered to it by the event
  pub event_ids : (event : Event) (k : ℕ) → k < run.sites → AllAmong (ids_of (table_at run (after_event run s event).words k)) (offered_in run s k event ++ ids_of (table_at run s.words k))
  event_ids event k h x p = go (length_of (table_at run s.words k) x) refl
    where
      some : 1 ≤ length_of (table_at run (after_event run s event).words k) x
      some = among_held M _ (site_sound run (after_event run s event) (event_sound run s event ok) k h) x p

      go : (n : ℕ) → length_of (table_at run s.words k) x ≡ n → among x (offered_in run s k event ++ ids_of (table_at run s.words k)) ≡ true
      go zero q = absorbed_offered event k x (omega (arith, some, event_absorbs run s event k x))
      go (suc n) q = among_right (offered_in run s k event) (ids_of (table_at run s.words k)) x (held_among M _ (site_sound run s ok k h) x (omega arith))

-- ---- a list of events
module _ (run : Run) where
  -- what a site is offered by one list of events, and then by another
  pub offered_append : (s : State) (k : ℕ) (xs ys : List Event) → offered run s k (xs ++ ys) ≡ offered run s k xs ++ offered run (ran run s xs) k ys
  unfolding ran offered
  offered_append s k [] ys = refl
  offered_append s k (x ∷ xs) ys =
      rw (offered_append (after_event run s x) k xs ys) (sym (append_assoc (offered_in run s k x) (offered run (after_event run s x) k xs) (offered run (ran run (after_event run s x) xs) k ys)))

  -- an id that a site holds after a list of events was held there before, or was offered to it on the way
  pub ran_ids : (s : State) (events : List Event) → StateSound run s → (k : ℕ) → k < run.sites
      → AllAmong (ids_of (table_at run (ran run s events).words k)) (offered run s k events ++ ids_of (table_at run s.words k))
  unfolding ran offered
  ran_ids s [] ok k h = λ x p. p
  ran_ids s (event ∷ events) ok k h = go (ran_ids (after_event run s event) events (event_sound run s event ok) k h)
    where
      now : List ℕ
      now = offered_in run s k event

      later : List ℕ
      later = offered run (after_event run s event) k events

      before : List ℕ
      before = ids_of (table_at run s.words k)

      go : AllAmong (ids_of (table_at run (ran run (after_event run s event) events).words k)) (later ++ ids_of (table_at run (after_event run s event).words k))
          → AllAmong (ids_of (table_at run (ran run (after_event run s event) events).words k)) ((now ++ later) ++ before)
      go ih x p = among_either later (ids_of (table_at run (after_event run s event).words k)) ((now ++ later) ++ before)
          (λ y q. among_left (now ++ later) before y (among_right now later y q))
          (λ y q. among_either now before ((now ++ later) ++ before) (λ z r. among_left (now ++ later) before z (among_left now later z r)) (among_right (now ++ later) before) y (event_ids run s ok event k h y q))
          x (ih x p)

-- ---- from a fresh run
module _ (run : Run) (first : ℕ) (s : State) (made : fresh_refusal run (length s.words) (length s.slots) ≡ 0) where
  -- a site of a fresh run holds no id
  fresh_ids : (k : ℕ) → ids_of (table_at run (after_fresh run first s).words k) ≡ []
  fresh_ids k = ids_unused (fresh_unused run first s made k)

  -- the ids that a site holds are among those it was offered
  pub held_ids : (before : List Event) (k : ℕ) → k < run.sites → AllAmong (ids_of (table_at run (ran run (after_fresh run first s) before).words k)) (offered run (after_fresh run first s) k before)
  held_ids before k h = rw (fresh_ids k, append-nil (offered run (after_fresh run first s) k before)) at (ran_ids run (after_fresh run first s) before (fresh_sound run first s made) k h)

  -- every id that has a length at a site of a run was offered to that site, by an add, a delivery, a merge or a group
  pub held_offered : (before : List Event) (k : ℕ) → k < run.sites → (e : ℕ) → 1 ≤ length_of (table_at run (ran run (after_fresh run first s) before).words k) e
      → among e (offered run (after_fresh run first s) k before) ≡ true
  held_offered before k h e some =
      held_ids before k h e (held_among M _ (site_sound run (ran run (after_fresh run first s) before) (fresh_ran_sound run first s made before) k h) e some)
