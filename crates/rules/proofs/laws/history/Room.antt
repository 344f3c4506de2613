-- The room of a run: where a site is offered no more different ids than a table holds, nothing is refused there for lack of room.
-- Assumes nothing.
use Rattle.std.specs.Prelude.{ℕ, ◌≤◌, ◌<◌, true, ◌≡◌, List, [], ◌∷◌, ◌++◌, length}
use Rattle.std.proofs.Common.{le_trans, arith, append_assoc}
use Rattle.rules.specs.declared.Run.{Run}
use Rattle.rules.specs.meaning.States.{State, table_at, StateSound}
use Rattle.rules.specs.meaning.Steps.{ids_of}
use Rattle.rules.specs.meaning.Runs.{fresh_refusal, after_fresh}
use Rattle.rules.specs.meaning.Events.{Event, outcome, refusal_for}
use Rattle.rules.proofs.laws.run.Happens.{event_owed}
use Rattle.rules.proofs.laws.history.Counting.{fresh_ran_sound}
use Rattle.rules.specs.meaning.Ids.{distinct}
use Rattle.rules.specs.meaning.Histories.{ran, offered_in, offered}
use Rattle.rules.proofs.laws.history.Distinct.{among_left, among_right, among_either, distinct_grows, distinct_left}
use Rattle.rules.proofs.laws.history.Offering.{offered_append, held_ids}

-- ---- the promise
module _ (run : Run) (first : ℕ) (s : State) (made : fresh_refusal run (length s.words) (length s.slots) ≡ 0) where
  -- counted up to an event: "a site that is offered .. no more distinct ids than a table holds never refuses one for lack of room"
  pub room_so_far : (before : List Event) (event : Event) (k : ℕ) → k < run.sites → (outcome run (ran run (after_fresh run first s) before) event).gaining k ≡ true
      → distinct (offered run (after_fresh run first s) k (before ++ (event ∷ []))) ≤ run.capacity → refusal_for run (ran run (after_fresh run first s) before) event ≡ 8 → ⊥
  unfolding offered offered_in
  room_so_far before event k h there few r = omega (arith, few, crowd, all)
    where
      now : State
      now = ran run (after_fresh run first s) before

      ok : StateSound run now
      ok = fresh_ran_sound run first s made before

      past_offers : List ℕ
      past_offers = offered run (after_fresh run first s) k before

      this_offer : List ℕ
      this_offer = (outcome run now event).offer k

      holds : List ℕ
      holds = ids_of (table_at run now.words k)

      crowd : run.capacity < distinct (this_offer ++ holds)
      crowd = (event_owed run now event).crowds ok k h there r

      so_far : offered run (after_fresh run first s) k (before ++ (event ∷ [])) ≡ past_offers ++ (this_offer ++ [])
      so_far = rw (offered_append run (after_fresh run first s) k before (event ∷ []), there)

      all : distinct (this_offer ++ holds) ≤ distinct (offered run (after_fresh run first s) k (before ++ (event ∷ [])))
      all = rw so_far (distinct_grows (this_offer ++ holds) (past_offers ++ (this_offer ++ []))
          (among_either this_offer holds (past_offers ++ (this_offer ++ []))
          (λ x p. among_right past_offers (this_offer ++ []) x (among_left this_offer [] x p))
          (λ x p. among_left past_offers (this_offer ++ []) x (held_ids run first s made before k h x p))))

  -- "a site that is offered, over the whole run (by adds, deliveries and merges, refused ones too), no more distinct ids than a table holds
  -- never refuses one for lack of room"
  pub room_suffices : (before : List Event) (event : Event) (rest : List Event) (k : ℕ) → k < run.sites → (outcome run (ran run (after_fresh run first s) before) event).gaining k ≡ true
      → distinct (offered run (after_fresh run first s) k (before ++ (event ∷ rest))) ≤ run.capacity → refusal_for run (ran run (after_fresh run first s) before) event ≡ 8 → ⊥
  room_suffices before event rest k h there few = room_so_far before event k h there (le_trans part few)
    where
      whole : (before ++ (event ∷ [])) ++ rest ≡ before ++ (event ∷ rest)
      whole = append_assoc before (event ∷ []) rest

      part : distinct (offered run (after_fresh run first s) k (before ++ (event ∷ []))) ≤ distinct (offered run (after_fresh run first s) k (before ++ (event ∷ rest)))
      part = rw (← whole, offered_append run (after_fresh run first s) k (before ++ (event ∷ [])) rest) (distinct_left _ _)
