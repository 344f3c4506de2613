-- The laws of the lag query: an accepted one was asked of a link in a sound state, and its answer leads from the last sent to the newest heard; a refused one
-- answers 0.
-- Assumes nothing.
use Rattle.std.specs.Prelude.{ℕ, zero, suc, ◌+◌, ◌%◌, ◌<◌, ◌≤◌, true, ◌≡◌, refl, ◌++◌, length, get_or, pos, nat_abs}
use Rattle.std.proofs.Common.{arith, sym, ◌∙◌}
use Rattle.std.proofs.Math.Path.{ap}
use borrow.Author.Tests.{leb-false, eqb-false, not-false}
use Rattle.rules.specs.declared.Run.{Run}
use Rattle.rules.specs.declared.Pair.{Pair}
use Rattle.rules.specs.meaning.Serials.{serials, largest_serial, half, serial_before, is_ordered, lag_of, wrapped}
use Rattle.rules.specs.meaning.Links.{no_pair, link_between}
use Rattle.rules.specs.meaning.Parcels.{no_parcel}
use Rattle.rules.specs.meaning.Refusals.{first_given}
use Rattle.rules.specs.meaning.States.{State, sight_with}
use Rattle.rules.specs.meaning.Runs.{judge_tests}
use Rattle.rules.specs.meaning.Lags.{last_sent, lag_undefined, lag_tests, lag_given, lag_in, lag_answer}
use Rattle.rules.specs.meaning.Histories.{pair_in}
use Rattle.rules.proofs.laws.Serials.{lag_adds, lag_bounds}
use Rattle.rules.proofs.laws.run.Steps.{pass, neither}
use Rattle.rules.proofs.laws.run.Tables.{few_sites}
use Rattle.rules.proofs.laws.run.Links.{link_of_law}

-- an answer by its refusal
given_refusal : (r : ℕ) (p : Pair) → (lag_given r p).refusal ≡ r
given_refusal zero p = refl
given_refusal (suc r) p = refl

module _ (run : Run) (s : State) (from to : ℕ) where
  -- the entry that the query sees
  abbrev seen_pair : Pair
  seen_pair = get_or s.ledger.pairs (link_between run.sites from to) no_pair

  abbrev given : ℕ
  given = first_given (judge_tests run s.words (sight_with no_parcel (link_between run.sites from to) run s) ++ lag_tests run seen_pair from to)

  answer_refusal : (lag_answer run s from to).refusal ≡ given
  unfolding lag_answer lag_in
  answer_refusal = given_refusal given seen_pair

  -- a refused query answers 0 beside its number
  pub refused_lag_law : (r : ℕ) → (lag_answer run s from to).refusal ≡ suc r → lag_answer run s from to ≡ record { refusal = suc r; lag = pos 0 }
  unfolding lag_answer lag_in
  refused_lag_law r h = ap (λ (k : ℕ). lag_given k seen_pair) (sym answer_refusal ∙ h)

  module _ (ok : (lag_answer run s from to).refusal ≡ 0) where
    none_given : given ≡ 0
    none_given = sym answer_refusal ∙ ok

    -- asked of a link
    pub asked_of_link : seen_pair ≡ pair_in s from to
    asked_of_link =
        let a = pass 0 _ _ none_given in
        let b = pass 1 _ _ a.1 in
        let c = pass 2 _ _ b.1 in
        let sites = neither _ _ c.0 in
        let d = pass 3 _ _ c.1 in
        ap (λ (i : ℕ). get_or s.ledger.pairs i no_pair)
        (link_of_law run.sites from to (few_sites run (length s.words) (length s.slots) (not-false _ a.0)) (leb-false _ _ sites.0) (leb-false _ _ sites.1) (eqb-false from to d.0))

    -- whose two serials have an order
    ordered : is_ordered seen_pair.heard (last_sent seen_pair) ≡ true
    unfolding lag_undefined
    ordered =
        let a = pass 0 _ _ none_given in
        let b = pass 1 _ _ a.1 in
        let c = pass 2 _ _ b.1 in
        let d = pass 3 _ _ c.1 in
        let e = pass 15 _ _ d.1 in
        not-false _ (pass 14 _ _ e.1).0

    answer_lag : (lag_answer run s from to).lag ≡ lag_of seen_pair.heard (last_sent seen_pair)
    unfolding lag_answer lag_in
    answer_lag = ap (λ (k : ℕ). (lag_given k seen_pair).lag) none_given

    -- "a signed number, the newest heard minus the last sent, from −2,147,483,647 to 2,147,483,647"
    pub lag_leads : (pair_in s from to).heard ≤ largest_serial
        → (nat_abs (lag_answer run s from to).lag < half) × ((last_sent (pair_in s from to) + wrapped (lag_answer run s from to).lag) % serials ≡ (pair_in s from to).heard)
    unfolding serial_before
    lag_leads fits = rw (answer_lag, ← asked_of_link) (
      lag_bounds seen_pair.heard (last_sent seen_pair) ordered,
      lag_adds seen_pair.heard (last_sent seen_pair) (rw asked_of_link fits) (omega arith),
    )
