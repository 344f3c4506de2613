-- What a repair round owes: it is its merges one after the other, and each of them by what a step owes. No merge brings a length that no site held before.
-- Assumes nothing.
use Prim.Native.Nat.{ℕ, zero, suc, ◌+◌, ◌≤◌, ◌<◌}
use native.Mathlib.Omega.{arith}
use Rattle.std.proofs.Math.Nat.{le_trans}
use Rattle.std.specs.Prelude.{Bool, ◌&&◌, cond, ◌≡◌, length}
use Rattle.std.proofs.Math.Bool.{true, false}
use Rattle.std.proofs.Math.Path.{refl}
use Rattle.std.proofs.Common.{sym, ◌∙◌}
use mathlib.Core.List.{List, [], ◌∷◌, ◌++◌}
use Rattle.std.proofs.Math.Dec.{eqb}
use borrow.Author.Tests.{leb-false, ne_eqb, not-true}
use Rattle.rules.specs.declared.Run.{Run}
use Rattle.rules.specs.declared.Step.{Step}
use Rattle.rules.specs.declared.Step.TheVariants.{Merge}
use Rattle.rules.specs.meaning.Lengths.{M, join}
use Rattle.rules.specs.meaning.Table.{SoundTable, length_of}
use Rattle.rules.specs.meaning.Refusals.{first_given}
use Rattle.rules.specs.meaning.States.{State, StateSound, table_at, sight_of}
use Rattle.rules.specs.meaning.Steps.{entries_of, ids_of, effect, site_in}
use Rattle.rules.specs.meaning.Ids.{among, distinct, ids_of_all, fit_together}
use Rattle.rules.specs.meaning.Runs.{refusal_of, moved, state_by, after, effect_of}
use Rattle.rules.specs.meaning.Rounds.{in_turn, largest_of, all_tables, round_merges, round_tests, round_refusal, after_all, given_in, given_by}
use Rattle.rules.specs.meaning.Events.{round, outcome, refusal_for}
use Rattle.rules.specs.meaning.Histories.{length_in, largest}
use Rattle.rules.specs.meaning.Repairs.{are_sound, entries_of_all}
use Rattle.rules.proofs.laws.table.Order.{Side, Side.below, Side.same, Side.above, side}
use Rattle.rules.proofs.laws.run.Tables.{words_long, site_sound}
use Rattle.rules.proofs.laws.run.Steps.{none_given, accepted_sound, merge_own}
use Rattle.rules.proofs.laws.run.Owed.{one_gains, nothing_gained, given_numbered, numbered}
use Rattle.rules.proofs.laws.run.Rows.{owed, given_by_law}
use Rattle.rules.proofs.laws.run.Sound.{after_sound}
use Rattle.rules.proofs.laws.run.Acts.{judged_before, sound_before}
use Rattle.rules.proofs.laws.run.Events.{Parcels.untouched, EventOwed}
use Rattle.rules.proofs.laws.history.Pairs.{largest_append, largest_entries}
use Rattle.rules.proofs.laws.history.Distinct.{among_left, distinct_left}
use Rattle.rules.proofs.laws.repair.Fits.{largest_first, length_among}

-- ---- steps one after the other
module _ (run : Run) where
  -- after one each site holds the larger of what it held and what it was given
  step_gives : (s : State) (step : Step) (k e : ℕ) → length_in run (after run s step) k e ≡ join (length_in run s k e) (largest (given_in run s k step) e)
  unfolding after given_in
  step_gives s step k e = go (refusal_of run s step) refl
    where
      go : (r : ℕ) → refusal_of run s step ≡ r → length_in run (state_by r s (moved run s step)) k e
          ≡ join (length_in run s k e) (largest (cond (eqb r 0 && eqb (site_in run (sight_of run s step) step) k) (effect_of run s step).gain.given []) e)
      go zero h = one_gains run s (site_in run (sight_of run s step) step) (effect_of run s step).gain ((owed run s step).tables.gains h) k e
      go (suc r) h = rw (ne_eqb (suc r) 0 (omega arith)) (nothing_gained (length_in run s k e) e)

  -- and so after all of them
  pub all_give : (steps : List Step) (s : State) (k e : ℕ) → length_in run (after_all run s steps) k e ≡ join (length_in run s k e) (largest (given_by run s k steps) e)
  unfolding after_all given_by
  all_give [] s k e = nothing_gained (length_in run s k e) e
  all_give (step ∷ steps) s k e = omega (
    arith,
    all_give steps (after run s step) k e,
    step_gives s step k e,
    largest_append (given_in run s k step) (given_by run (after run s step) k steps) e,
  )

  -- a sound state stays sound
  pub all_sound_law : (steps : List Step) (s : State) → StateSound run s → StateSound run (after_all run s steps)
  unfolding after_all
  all_sound_law [] s so = so
  all_sound_law (step ∷ steps) s so = all_sound_law steps (after run s step) (after_sound run s step so)

-- ---- a round has merges alone
data Merges : List Step → Type 0 where
  no_merge : Merges []
  merge_then : (f t : ℕ) {steps : List Step} → Merges steps → Merges (Merge f t ∷ steps)

one_and_other : {xs ys : List Step} → Merges xs → Merges ys → Merges (xs ++ ys)
one_and_other no_merge ys = ys
one_and_other (merge_then f t xs) ys = merge_then f t (one_and_other xs ys)

in_turn_merges : (f t : ℕ → ℕ) (k n : ℕ) → Merges (in_turn (λ (j : ℕ). Merge (f j) (t j)) k n)
unfolding in_turn
in_turn_merges f t k zero = no_merge
in_turn_merges f t k (suc n) = merge_then (f k) (t k) (in_turn_merges f t (suc k) n)

round_has_merges : (run : Run) → Merges (round_merges run)
unfolding round_merges
round_has_merges run = one_and_other (in_turn_merges (λ j. j) (λ j. 0) 1 _) (in_turn_merges (λ j. 0) (λ j. j) 1 _)

-- ---- where no site's length is above some bound, no merge gives one that is
module _ (run : Run) (most : ℕ → ℕ) where
  abbrev Bounded : State → Type 0
  Bounded s = (k : ℕ) → k < run.sites → (x : ℕ) → length_in run s k x ≤ most x

  merge_bounded : (s : State) → Bounded s → (f t k x : ℕ) → largest (given_in run s k (Merge f t)) x ≤ most x
  unfolding given_in site_in effect largest
  merge_bounded s bounded f t k x = go (refusal_of run s (Merge f t)) refl (eqb t k)
    where
      go : (r : ℕ) → refusal_of run s (Merge f t) ≡ r → (b : Bool) → largest (cond (eqb r 0 && b) (entries_of (table_at run s.words f)) []) x ≤ most x
      go zero h true =
          let l = (merge_own run s f t h).0 in
          rw (largest_entries M (table_at run s.words f) (site_sound run s (accepted_sound run s (Merge f t) h) f l) x) (bounded f l x)
      go zero h false = omega arith
      go (suc r) h b = rw (ne_eqb (suc r) 0 (omega arith)) (omega arith)

  merges_bounded : {steps : List Step} → Merges steps → (s : State) → Bounded s → (k x : ℕ) → largest (given_by run s k steps) x ≤ most x
  unfolding given_by largest
  merges_bounded no_merge s bounded k x = omega arith
  merges_bounded (merge_then f t {steps} rest) s bounded k x =
      let next : Bounded (after run s (Merge f t)) = λ j l y. omega (arith, step_gives run s (Merge f t) j y, merge_bounded s bounded f t j y, bounded j l y) in
      omega (
        arith,
        largest_append (given_in run s k (Merge f t)) (given_by run (after run s (Merge f t)) k steps) x,
        merge_bounded s bounded f t k x,
        merges_bounded rest (after run s (Merge f t)) next k x,
      )

-- ---- some tables, one for each number: they are sound where each is, and none has a length above the largest of all
module _ (of : ℕ → List ℕ) where
  abbrev SoundFrom : ℕ → ℕ → Type 0
  SoundFrom k n = (j : ℕ) → k ≤ j → j < k + n → SoundTable (of j)

  pub all_are_sound : (k n : ℕ) → SoundFrom k n → are_sound (in_turn of k n) ≡ true
  unfolding in_turn are_sound
  all_are_sound k zero each = refl
  all_are_sound k (suc n) each = rw (each k (omega arith) (omega arith)) (all_are_sound (suc k) n (λ j p q. each j (omega arith) (omega arith)))

  pub among_all : (k n : ℕ) → SoundFrom k n → (j : ℕ) → k ≤ j → j < k + n → (x : ℕ) → length_of (of j) x ≤ largest (entries_of_all (in_turn of k n)) x
  unfolding in_turn
  among_all k zero each j p q x = absurd (omega arith)
  among_all k (suc n) each j p q x =
      go (side j k) (largest_first (of k) (in_turn of (suc k) n) (each k (omega arith) (omega arith)) x) (among_all (suc k) n (λ i a b. each i (omega arith) (omega arith)) j)
    where
      go : Side j k → largest (entries_of_all (of k ∷ in_turn of (suc k) n)) x ≡ join (length_of (of k) x) (largest (entries_of_all (in_turn of (suc k) n)) x)
          → (suc k ≤ j → j < suc k + n → (y : ℕ) → length_of (of j) y ≤ largest (entries_of_all (in_turn of (suc k) n)) y)
          → length_of (of j) x ≤ largest (entries_of_all (of k ∷ in_turn of (suc k) n)) x
      go (below r) first rest = absurd (omega arith)
      go (same r) first rest = rw r (omega arith)
      go (above r) first rest = omega (arith, rest (omega arith) (omega arith) x)

  -- where none is above a bound, the largest is not
  pub all_below : (k n : ℕ) → SoundFrom k n → (x most : ℕ) → ((j : ℕ) → k ≤ j → j < k + n → length_of (of j) x ≤ most) → largest (entries_of_all (in_turn of k n)) x ≤ most
  unfolding in_turn entries_of_all largest
  all_below k zero each x most bounded = omega arith
  all_below k (suc n) each x most bounded = omega (
    arith,
    largest_first (of k) (in_turn of (suc k) n) (each k (omega arith) (omega arith)) x,
    bounded k (omega arith) (omega arith),
    all_below (suc k) n (λ j p q. each j (omega arith) (omega arith)) x most (λ j p q. bounded j (omega arith) (omega arith)),
  )

  -- it is the largest of their lengths
  pub all_largest : (k n : ℕ) → SoundFrom k n → (x : ℕ) → largest (entries_of_all (in_turn of k n)) x ≡ largest_of (in_turn (λ (j : ℕ). length_of (of j) x) k n)
  unfolding in_turn entries_of_all largest largest_of
  all_largest k zero each x = refl
  all_largest k (suc n) each x = omega (
    arith,
    largest_first (of k) (in_turn of (suc k) n) (each k (omega arith) (omega arith)) x,
    all_largest (suc k) n (λ j p q. each j (omega arith) (omega arith)) x,
  )

-- ---- the round
module _ (run : Run) (s : State) where
  -- in a sound state only its own test can refuse it
  pub round_own : StateSound run s → refusal_for run s round ≡ first_given (round_tests run s.words)
  unfolding outcome refusal_for round_refusal
  round_own = sound_before run s (round_tests run s.words)

  -- accepted, it was taken in a sound state
  pub round_in_sound : refusal_for run s round ≡ 0 → StateSound run s
  unfolding outcome refusal_for round_refusal
  round_in_sound h = (judged_before run s (round_tests run s.words) h).0

  module _ (so : StateSound run s) where
    pub tables_sound_law : are_sound (all_tables run s.words) ≡ true
    tables_sound_law = all_are_sound (table_at run s.words) 0 run.sites (λ j p q. site_sound run s so j (omega arith))

    -- no site holds more than the largest of all
    pub held_bounded : (k : ℕ) → k < run.sites → (x : ℕ) → length_in run s k x ≤ largest (entries_of_all (all_tables run s.words)) x
    held_bounded k l x = among_all (table_at run s.words) 0 run.sites (λ j p q. site_sound run s so j (omega arith)) k (omega arith) (omega arith) x

    -- so no site is given an id that none had
    given_offered : (k x : ℕ) → 1 ≤ largest (given_by run s k (round_merges run)) x → (ids : List ℕ) → among x (ids_of_all (all_tables run s.words) ++ ids) ≡ true
    given_offered k x some ids =
        among_left _ ids x (length_among _ tables_sound_law x (le_trans some (merges_bounded run (largest (entries_of_all (all_tables run s.words))) (round_has_merges run) s held_bounded k x)))

    after_round : StateSound run (after_all run s (round_merges run))
    after_round = all_sound_law run (round_merges run) s so

    as_many : length (after_all run s (round_merges run)).words ≡ length s.words
    as_many = words_long run _ _ after_round.0 ∙ sym (words_long run _ _ so.0)

    too_many : refusal_for run s round ≡ 8 → run.capacity < distinct (ids_of_all (all_tables run s.words))
    unfolding fit_together
    too_many r = leb-false _ _ (not-true _ (given_by_law 8 8 _ _ (none_given 8 (omega arith)) (sym (round_own so) ∙ r)))

  pub by_round : EventOwed run s round
  unfolding outcome numbered
  by_round = record {
    judges = round_in_sound;
    lets_through = λ so. (
      λ e. omega (arith, given_numbered 3 99 (round_tests run s.words) refl 0 (sym (round_own so) ∙ e)),
      λ e. omega (arith, given_numbered 3 99 (round_tests run s.words) refl 1 (sym (round_own so) ∙ e)),
    );
    sized = λ h. (as_many (round_in_sound h), refl);
    sound = λ h.
        let so = round_in_sound h in
        (rw (as_many so) so.0, (after_round so).1, so.2, so.3, so.4);
    joined = λ h k e. all_give run (round_merges run) s k e;
    offered = λ h k here x some. given_offered (round_in_sound h) k x some (ids_of (table_at run s.words k));
    crowds = λ so k l here r. le_trans (too_many so r) (distinct_left (ids_of_all (all_tables run s.words)) (ids_of (table_at run s.words k)));
    parcels = untouched refl refl refl;
  }
