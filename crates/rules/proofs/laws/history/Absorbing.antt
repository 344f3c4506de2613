-- What a site holds is the largest that it has absorbed: one event at a time, over a list of events, and from fresh. So lengths never fall, and
-- two sites that absorbed the same pairs hold equal tables.
-- Assumes nothing.
use Rattle.std.specs.Prelude.{ℕ, zero, suc, ◌≤◌, ◌<◌, true, ◌&&◌, cond, ◌≡◌, refl, List, [], ◌∷◌, length, eqb}
use Rattle.std.proofs.Common.{arith, sym, ◌∙◌, ne_eqb}
use Rattle.rules.specs.declared.Run.{Run}
use Rattle.rules.specs.meaning.Lengths.{M, join}
use Rattle.rules.specs.meaning.Table.{length_of}
use Rattle.rules.proofs.laws.table.Law.{law, of_unused}
use Rattle.rules.specs.meaning.States.{State, table_at}
use Rattle.rules.specs.meaning.Runs.{fresh_refusal, after_fresh}
use Rattle.rules.specs.meaning.Events.{Event, outcome, refusal_for, after_event}
use Rattle.rules.specs.meaning.Histories.{ran, length_in, absorbed_in, absorbed, largest, same_pairs}
use Rattle.rules.proofs.laws.run.Tables.{site_sound, site_length}
use Rattle.rules.proofs.laws.run.Sound.{fresh_unused}
use Rattle.rules.proofs.laws.history.Pairs.{largest_append, same_largest}
use Rattle.rules.proofs.laws.history.Counting.{fresh_ran_sound}
use Rattle.rules.proofs.laws.run.Owed.{nothing_gained}
use Rattle.rules.proofs.laws.run.Events.{refused_event_stays, accepted_event_moves}
use Rattle.rules.proofs.laws.run.Happens.{event_owed}

-- ---- one event in any state, and a list of them
-- "the length held is the largest it has absorbed", one event on: the join of the length before with what the event let the site absorb
pub event_absorbs : (run : Run) (s : State) (event : Event) (k e : ℕ) → length_in run (after_event run s event) k e ≡ join (length_in run s k e) (largest (absorbed_in run s k event) e)
unfolding absorbed_in
event_absorbs run s event k e = go (refusal_for run s event) refl
  where
    go : (r : ℕ) → refusal_for run s event ≡ r
        → length_in run (after_event run s event) k e ≡ join (length_in run s k e) (largest (cond (eqb r 0 && (outcome run s event).gaining k) ((outcome run s event).given k) []) e)
    go zero h = rw (accepted_event_moves run s event h) ((event_owed run s event).joined h k e)
    go (suc r) h = rw (refused_event_stays run s event r h, ne_eqb (suc r) 0 (omega arith)) (nothing_gained (length_in run s k e) e)

-- the same over a list of events, "refused ones among them"
pub ran_absorbs : (run : Run) (s : State) (events : List Event) (k e : ℕ) → length_in run (ran run s events) k e ≡ join (length_in run s k e) (largest (absorbed run s k events) e)
unfolding ran absorbed
ran_absorbs run s [] k e = nothing_gained (length_in run s k e) e
ran_absorbs run s (event ∷ events) k e = omega (
  arith,
  ran_absorbs run (after_event run s event) events k e,
  event_absorbs run s event k e,
  largest_append (absorbed_in run s k event) (absorbed run (after_event run s event) k events) e,
)

-- ---- "It never falls."
-- whatever the state, the event, the site and the id
pub never_falls : (run : Run) (s : State) (event : Event) (k e : ℕ) → length_in run s k e ≤ length_in run (after_event run s event) k e
never_falls run s event k e = omega (arith, event_absorbs run s event k e)

-- nor over a list of events
pub ran_never_falls : (run : Run) (s : State) (events : List Event) (k e : ℕ) → length_in run s k e ≤ length_in run (ran run s events) k e
ran_never_falls run s events k e = omega (arith, ran_absorbs run s events k e)

-- ---- from fresh
module _ (run : Run) (first : ℕ) (s : State) (fresh : fresh_refusal run (length s.words) (length s.slots) ≡ 0) where
  -- a site of a fresh run holds nothing
  fresh_holds : (k e : ℕ) → length_of (table_at run (after_fresh run first s).words k) e ≡ 0
  fresh_holds k e = of_unused (fresh_unused run first s fresh k) e

  -- "For each site and id, the length held is the largest it has absorbed .., or zero if none."
  pub held_is_largest : (events : List Event) (k e : ℕ) → length_of (table_at run (ran run (after_fresh run first s) events).words k) e ≡ largest (absorbed run (after_fresh run first s) k events) e
  held_is_largest events k e = omega (arith, ran_absorbs run (after_fresh run first s) events k e, fresh_holds k e)

  -- "So two sites in one run that absorbed the same set of id and length pairs, in whichever order and however often, hold equal tables."
  pub same_pairs_same_tables : (events : List Event) (j k : ℕ) → j < run.sites → k < run.sites
      → same_pairs (absorbed run (after_fresh run first s) j events) (absorbed run (after_fresh run first s) k events) ≡ true
      → table_at run (ran run (after_fresh run first s) events).words j ≡ table_at run (ran run (after_fresh run first s) events).words k
  same_pairs_same_tables events j k p q same =
      let u = ran run (after_fresh run first s) events in
      let so = fresh_ran_sound run first s fresh events in
      law M (site_sound run u so j p) (site_sound run u so k q) (site_length run u so j p ∙ sym (site_length run u so k q))
      (λ e. held_is_largest events j e ∙ same_largest _ _ same e ∙ sym (held_is_largest events k e))
