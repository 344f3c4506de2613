-- Serials, links and the lag by example: the order of RFC 1982 at its edges, a run whose serials wrap, what is unsound, and the order of the refusals. The
-- checker computes all of it from the definitions as they stand.
-- Assumes nothing.
use Rattle.std.specs.Prelude.{ℕ, zero, suc, ◌+◌, ◌%◌, ◌<◌, Bool, true, not, ◌≡◌, refl, List, [], ◌∷◌, ◌++◌, length, replicate, eqb, pos, negsuc}
use Rattle.std.proofs.Common.{arith}
use Rattle.rules.specs.declared.Run.{Run}
use Rattle.rules.specs.declared.Parcel.{Parcel}
use Rattle.rules.specs.declared.Pair.{Pair}
use Rattle.rules.specs.meaning.Lags.{Lag}
use Rattle.rules.specs.declared.Step.TheVariants.{Add, Remove, Query, Send, Deliver, Again}
use Rattle.rules.specs.meaning.Lengths.{M, listed, after_add, after_remove}
use Rattle.rules.specs.meaning.Table.{unused, sound_from, length_of, held, push, with_length, raised, held_with}
use Rattle.rules.specs.meaning.Operations.{raise_refusal, raise_table, remove_refusal, remove_table}
use Rattle.rules.specs.meaning.Parcels.{no_parcel, is_free, is_occupied, slots_sound, waiting, lowest_free, cleared}
use Rattle.rules.specs.meaning.Serials.{serials, next_serial, serial_before, is_newer, ahead, is_ordered, lag_of}
use Rattle.rules.specs.meaning.Links.{no_pair, pair_at, start_pair, link_between, pair_sound, over_row, over_rows, links_sound, links_begun, moves_on, heard_pair, incomparable}
use Rattle.rules.specs.meaning.Ledgers.{counts_sound, no_counts, one_more, raised_if}
use Rattle.rules.specs.meaning.Refusals.{first_given}
use Rattle.rules.specs.meaning.Kinds.{slot_of, link_of, numbers}
use Rattle.rules.specs.meaning.States.{State, lent, table_at, with_table, sizes_right, tables_sound, all_sound}
use Rattle.rules.specs.meaning.Steps.{effect}
use Rattle.rules.specs.meaning.Runs.{refusal_in, refusal_of, value_of, after, fresh_refusal, after_fresh}
use Rattle.rules.specs.meaning.Lags.{silent, lag_undefined, lag_in, lag_answer}
use Rattle.rules.specs.meaning.Events.{Event, outcome, refusal_for, after_event}
use Rattle.rules.specs.meaning.Histories.{ran, accepted_of, pair_in, is_send_on, sent_on, serials_from}
use Rattle.rules.proofs.cases.Marked.{all, same, taken, two_sites, counts_of, pair, noise, entries, ledger_with, ledger_of, waiting_for_1, same_pair, same_slots, step_refused, step_taken}
use Rattle.rules.proofs.laws.run.Reads.{SameLinks}
use Rattle.rules.proofs.laws.history.Links.{next_is_counted}
use Rattle.rules.proofs.cases.Sample.{refusals}

-- ---- the order, and the wrapped difference with its sign
pub record OrderCases : Type 0 where
  pub wraps : (next_serial 4294967295 ≡ 0) × (serial_before 0 ≡ 4294967295) × (is_newer 0 4294967295 ≡ true) × (is_newer 4294967295 0 ≡ is_newer 1 2)
  pub edges : (is_newer 2147483648 1 ≡ true) × (is_ordered 2147483648 0 ≡ is_newer 7 7) × (is_newer 2147483648 0 ≡ is_newer 0 2147483648) × (is_newer 0 2147483649 ≡ true)
  pub up : (lag_of 5 3 ≡ pos 2) × (lag_of 0 4294967295 ≡ pos 1) × (lag_of 2147483647 0 ≡ pos 2147483647) × (lag_of 9 9 ≡ pos 0)
  pub down : (lag_of 3 5 ≡ negsuc 1) × (lag_of 4294967295 0 ≡ negsuc 0) × (lag_of 0 2147483647 ≡ negsuc 2147483646)

pub order_cases : OrderCases
unfolding next_serial serial_before is_newer ahead is_ordered lag_of
order_cases = record { wraps = (refl, refl, refl, refl); edges = (refl, refl, refl, refl); up = (refl, refl, refl, refl); down = (refl, refl, refl) }

-- ---- a run of two sites with three slots, begun at the last serial, where noise stood
abbrev run : Run
run = record { sites = 2; capacity = 2 }

abbrev stood : State
stood = lent (replicate 8 5) (replicate 3 (record { site = 9; id = 9; length = 9; sender = 9; serial = 9 })) (ledger_with (counts_of 5 5 5 5) noise)

abbrev begun : State
begun = after_fresh run 4294967295 stood

abbrev sent : ℕ → ℕ → Parcel
sent n serial = record { site = 1; id = 7; length = n; sender = 0; serial = serial }

-- 7 is sent as published and as withdrawn, the second parcel is doubled, and no slot is left; a send of an id that is not held, and one without a slot, use no
-- serial
abbrev goes_out : List Event
goes_out = taken (Add 0 7 ∷ Send 0 1 7 ∷ Send 0 1 9 ∷ Remove 0 7 ∷ Send 0 1 7 ∷ Again 1 ∷ Send 0 1 7 ∷ [])

abbrev out : State
out = ran run begun goes_out

-- the first parcel arrives first, or the second does, and then its copy and the first
abbrev in_turn_law : State
in_turn_law = ran run out (taken (Deliver 0 ∷ []))

abbrev newest_first : State
newest_first = ran run out (taken (Deliver 1 ∷ Deliver 2 ∷ Deliver 0 ∷ []))

unfoldable pub serial_cases : List Bool
serial_cases =
    -- "starts at one first serial"; "fresh, both marks stand"; noise stays where no link is
    same_pair (pair_in begun 0 1) (start_pair 4294967295) ∷ same_pair (pair_in begun 1 0) (start_pair 4294967295) ∷ same_pair (pair_in begun 0 0) noise ∷ same_pair (pair_in begun 2 1) noise
    -- "goes up by one for each accepted send, wrapping"; "A copy made by again keeps its serial"
    ∷ same (refusals run begun goes_out) (0 ∷ 0 ∷ 6 ∷ 0 ∷ 0 ∷ 0 ∷ 9 ∷ [])
    ∷ same_slots out.slots (sent 1 4294967295 ∷ sent 2 0 ∷ sent 2 0 ∷ [])
    ∷ same_pair (pair_in out 0 1) (pair 1 0 0 1) ∷ same_pair (pair_in out 1 0) (start_pair 4294967295)
    ∷ same (sent_on run begun 0 1 goes_out) (serials_from 4294967295 2) ∷ eqb (accepted_of (is_send_on 0 1) run begun goes_out) 2 ∷ eqb (accepted_of (is_send_on 1 0) run begun goes_out) 0
    -- a delivery "moves the newest heard on only if the arriving serial is greater .., or nothing was heard": an older one and the same again do not, though
    -- they are taken in and counted, as is one that raises no length
    ∷ same_pair (pair_in in_turn_law 0 1) (pair 1 4294967295 0 0) ∷ same_pair (pair_in newest_first 0 1) (pair 1 0 0 0) ∷ eqb newest_first.ledger.counts.absorbed 3
    -- a delivery that is not newer than the length held still moves it: serial 3 where 2 was heard, and the id 8 listed already
    ∷ step_taken two_sites (waiting_for_1 8 1 (ledger_with (counts_of 1 0 0 0) (pair 4 2 0 0))) (Deliver 0) 1 (lent (7 ∷ 1 ∷ 8 ∷ 1 ∷ []) (no_parcel ∷ []) (ledger_with (counts_of 1 0 1 0) (pair 4 3 0 0)))
    -- 15 "after 5 and before 8": 8 and 10 would be given too, the parcel stays; with nothing heard there is nothing to compare
    ∷ step_refused two_sites (waiting_for_1 9 1 (ledger_with (counts_of M 1 M 0) (pair 4 2147483651 0 0))) (Deliver 0) 15
    ∷ step_refused two_sites (waiting_for_1 9 1 (ledger_with (counts_of M 1 M 0) (pair 4 2147483651 0 0))) (Deliver 1) 5
    ∷ step_taken two_sites (lent (7 ∷ 1 ∷ 0 ∷ 0 ∷ []) (sent 1 2147483648 ∷ []) (ledger_with (counts_of 1 0 0 0) (pair 9 0 0 7))) (Deliver 0) 1 (lent (7 ∷ 1 ∷ 7 ∷ 1 ∷ []) (no_parcel ∷ []) (ledger_with (counts_of 1 0 1 0) (pair 9 2147483648 0 0)))
    -- "the newest heard is 0 while its mark stands", whatever the mark's number; and nothing else is asked of an entry
    ∷ step_refused two_sites (lent (7 ∷ 1 ∷ 0 ∷ 0 ∷ []) (no_parcel ∷ []) (ledger_with no_counts (pair 0 1 0 2))) (Query 0 7) 2
    ∷ not (step_refused two_sites (lent (7 ∷ 1 ∷ 0 ∷ 0 ∷ []) (no_parcel ∷ []) (ledger_with no_counts (pair 0 1 1 0))) (Query 0 7) 2)
    -- "a free slot has them all 0, an occupied one a sender of the run other than its destination"
    ∷ not (is_free (record { site = 0; id = 0; length = 0; sender = 1; serial = 0 })) ∷ not (is_free (record { site = 0; id = 0; length = 0; sender = 0; serial = 1 }))
    ∷ is_occupied M 2 (sent 1 3) ∷ not (is_occupied M 2 (record { site = 1; id = 7; length = 1; sender = 2; serial = 3 }))
    ∷ not (is_occupied M 2 (record { site = 1; id = 7; length = 1; sender = 1; serial = 3 })) ∷ not (is_occupied M 1 (record { site = 0; id = 7; length = 1; sender = 0; serial = 3 }))
    ∷ []

pub serials_hold : all serial_cases ≡ true
unfolding serial_cases refusals ran accepted_of sent_on serials_from listed after_add after_remove unused sound_from length_of held push with_length raised held_with raise_refusal raise_table remove_refusal remove_table is_free is_occupied slots_sound waiting lowest_free cleared counts_sound one_more raised_if table_at with_table sizes_right tables_sound all_sound slot_of link_of numbers first_given refusal_in effect refusal_of value_of after outcome refusal_for after_event fresh_refusal after_fresh next_serial is_newer ahead is_ordered link_between pair_sound over_row over_rows links_sound links_begun moves_on heard_pair incomparable
serials_hold = refl

-- ---- the lag, of site 0 to site 1 unless another link is named
abbrev with_pair : Pair → State
with_pair p = lent (0 ∷ 0 ∷ 0 ∷ 0 ∷ []) [] (ledger_with no_counts p)

abbrev lag : Pair → Lag
lag p = lag_answer two_sites (with_pair p) 0 1

abbrev refused : ℕ → Lag
refused r = record { refusal = r; lag = pos 0 }

pub record LagCases : Type 0 where
  -- of the run above: one behind, in step, and one that was never heard
  pub behind : lag_answer run in_turn_law 0 1 ≡ record { refusal = 0; lag = negsuc 0 }
  pub in_step : lag_answer run newest_first 0 1 ≡ record { refusal = 0; lag = pos 0 }
  pub unheard : (lag_answer run out 0 1 ≡ refused 16) × (lag_answer run in_turn_law 1 0 ≡ refused 16)
  -- the last sent is next less 1, wrapped; the ends of the range
  pub ends : (lag (pair 0 2147483646 0 0) ≡ record { refusal = 0; lag = pos 2147483647 }) × (lag (pair 2147483648 0 0 0) ≡ record { refusal = 0; lag = negsuc 2147483646 })
  -- 1, 2, 3, 4, 16, 15: each where those behind it would be given too
  pub sizes : lag_answer (record { sites = 2; capacity = 2 }) (lent (7 ∷ 0 ∷ []) [] (ledger_of 1 0 0 0)) 9 9 ≡ refused 1
  pub unsound : lag_answer two_sites (with_pair (pair 2147483649 1 1 1)) 9 9 ≡ refused 2
  pub no_site : (lag_answer two_sites (with_pair (pair 2147483649 0 1 0)) 9 9 ≡ refused 3) × (lag_answer two_sites (with_pair (pair 2147483649 0 1 0)) 0 2 ≡ refused 3)
  pub one_site : lag_answer two_sites (with_pair (pair 2147483649 0 1 0)) 0 0 ≡ refused 4
  pub silent_first : (lag (pair 2147483649 0 1 0) ≡ refused 16) × (lag (pair 2147483649 0 0 3) ≡ refused 16)
  pub unordered : lag (pair 2147483649 0 0 0) ≡ refused 15

pub lag_cases : LagCases
unfolding lag_answer lag_in silent lag_undefined lag_of serial_before ran listed after_add after_remove unused sound_from length_of held push with_length raised held_with raise_refusal raise_table remove_refusal remove_table is_free is_occupied slots_sound waiting lowest_free cleared counts_sound one_more raised_if table_at with_table sizes_right tables_sound all_sound slot_of link_of numbers first_given refusal_in effect refusal_of value_of after outcome refusal_for after_event fresh_refusal after_fresh next_serial is_newer ahead is_ordered link_between pair_sound over_row over_rows links_sound links_begun moves_on heard_pair incomparable
lag_cases = record {
  behind = refl;
  in_step = refl;
  unheard = (refl, refl);
  ends = (refl, refl);
  sizes = refl;
  unsound = refl;
  no_site = (refl, refl);
  one_site = refl;
  silent_first = (refl, refl);
  unordered = refl;
}

-- ---- what the promises suppose is met: of the links by this run, and of the entries that nobody reads by two ledgers that differ in nothing else
made : fresh_refusal run (length stood.words) (length stood.slots) ≡ 0
unfolding fresh_refusal sizes_right first_given
made = refl

pub next_counted : (pair_in out 0 1).next ≡ (4294967295 + accepted_of (is_send_on 0 1) run begun goes_out) % serials
next_counted = next_is_counted run 4294967295 stood made (omega arith) refl 0 1 (omega arith) (omega arith) (λ z. omega (arith, z)) goes_out

-- the entries of `Marked` with calm in place of noise
abbrev calm : Pair → List Pair
calm p = no_pair ∷ p ∷ (replicate 14 no_pair ++ (start_pair 9 ∷ replicate 239 no_pair))

calm_agrees : (p : Pair) (a b : ℕ) → a < 2 → b < 2 → (a ≡ b → ⊥) → pair_at a b (entries p) ≡ pair_at a b (calm p)
calm_agrees p zero zero la lb d = absurd (d refl)
calm_agrees p zero (suc zero) la lb d = refl
calm_agrees p zero (suc (suc b)) la lb d = absurd (omega arith)
calm_agrees p (suc zero) zero la lb d = refl
calm_agrees p (suc zero) (suc zero) la lb d = absurd (d refl)
calm_agrees p (suc zero) (suc (suc b)) la lb d = absurd (omega arith)
calm_agrees p (suc (suc a)) b la lb d = absurd (omega arith)

pub noise_is_not_read : (p : Pair) → SameLinks 2 (entries p) (calm p)
noise_is_not_read p = record { whole = refl; whole' = refl; agree = calm_agrees p }
