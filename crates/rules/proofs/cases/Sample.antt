-- The sample of document 01, step by step: what its sites absorb and are offered, its refusals and values, and what it ends with; and a small
-- run in which two sites absorb the same pairs in another order. The checker computes all of it from the definitions as they stand.
-- Assumes nothing.
use Rattle.std.specs.Prelude.{ℕ, Bool, true, false, ◌&&◌, not, ◌≡◌, refl, List, [], ◌∷◌, replicate, eqb}
use Rattle.std.proofs.lemmas.Bool.{false≢true}
use Rattle.std.proofs.Common.{eqb-true}
use Rattle.rules.specs.declared.Run.{Run}
use Rattle.rules.specs.declared.Step.{Step}
use Rattle.rules.specs.declared.Step.TheVariants.{Add, Remove, Query, Send, Merge, Deliver, Again, Lose}
use Rattle.rules.specs.meaning.Lengths.{listed, after_add, after_remove}
use Rattle.rules.specs.meaning.Table.{unused, sound_from, length_of, held, push, with_length, raised, held_with, merged, new_ids, rises}
use Rattle.rules.proofs.laws.table.View.{parts}
use Rattle.rules.specs.meaning.Operations.{raise_refusal, raise_table, remove_refusal, remove_table, merge_refusal, merge_table}
use Rattle.rules.specs.meaning.Parcels.{no_parcel, is_free, is_occupied, slots_sound, waiting, lowest_free, cleared}
use Rattle.rules.specs.meaning.Ledgers.{counts_sound, one_more, raised_if}
use Rattle.rules.specs.meaning.Refusals.{first_given}
use Rattle.rules.specs.meaning.Serials.{next_serial, is_newer, ahead, is_ordered}
use Rattle.rules.specs.meaning.Links.{pair_at, start_pair, link_between, pair_sound, over_row, over_rows, links_sound, links_begun, moves_on, heard_pair, incomparable}
use Rattle.rules.specs.meaning.Kinds.{slot_of, link_of, is_send, is_again, is_deliver, is_lose, numbers}
use Rattle.rules.specs.meaning.States.{State, lent, table_at, with_table, sizes_right, tables_sound, all_sound}
use Rattle.rules.specs.meaning.Steps.{Entry, entries_of, site_in, ids_of, effect}
use Rattle.rules.specs.meaning.Runs.{refusal_in, refusal_of, value_of, fresh_refusal, after_fresh}
use Rattle.rules.specs.meaning.Events.{Event, outcome, refusal_for, answer_for, after_event}
use Rattle.rules.specs.meaning.Ids.{among, distinct}
use Rattle.rules.specs.meaning.Histories.{ran, accepted_of, absorbed_in, absorbed, largest, occurs, within, same_pairs, offered_in, offered}
use Rattle.rules.proofs.cases.Marked.{all, same, taken, counts_of, ledger_of, parcel, pair, same_counts, same_pair}

-- a pair of an id and a length
abbrev pub entry : ℕ → ℕ → Entry
entry e n = record { id = e; length = n }

-- two lists of pairs are the same, in order
abbrev pub same_pairs_law : List Entry → List Entry → Bool
same_pairs_law [] [] = true
same_pairs_law [] (q ∷ qs) = false
same_pairs_law (p ∷ ps) [] = false
same_pairs_law (p ∷ ps) (q ∷ qs) = eqb p.id q.id && (eqb p.length q.length && same_pairs_law ps qs)

-- the refusal numbers of a list of events, in order, and the other results
unfoldable pub refusals : Run → State → List Event → List ℕ
refusals run s [] = []
refusals run s (event ∷ events) = (answer_for run s event).refusal ∷ refusals run (after_event run s event) events

unfoldable pub values : Run → State → List Event → List ℕ
values run s [] = []
values run s (event ∷ events) = (answer_for run s event).value ∷ values run (after_event run s event) events

-- ---- the sample: "runs 3 sites, C = 8, 8 slots, from fresh"
abbrev pub sample_run : Run
sample_run = record { sites = 3; capacity = 8 }

-- made fresh where other things stood before
abbrev pub sample_start : State
sample_start = after_fresh sample_run 0 (lent (replicate 48 5) (replicate 8 (parcel 1 2 3)) (ledger_of 9 9 9 9))

abbrev pub sample_steps : List Step
sample_steps =
    Add 0 7 ∷ Add 1 7 ∷ Send 1 2 7 ∷ Deliver 0 ∷ Remove 0 7 ∷ Remove 1 7 ∷ Remove 2 7 ∷ Add 1 7 ∷ Send 0 1 7 ∷ Again 0 ∷ Deliver 1 ∷ Lose 0
    ∷ Deliver 0 ∷ Merge 1 2 ∷ Remove 2 7 ∷ Query 1 7 ∷ Query 2 7 ∷ []

abbrev pub sample_events : List Event
sample_events = taken sample_steps

abbrev pub sample_end : State
sample_end = ran sample_run sample_start sample_events

-- what each site absorbs, in order
abbrev pub absorbed0 : List Entry
absorbed0 = entry 7 1 ∷ entry 7 2 ∷ []

abbrev pub absorbed1 : List Entry
absorbed1 = entry 7 1 ∷ entry 7 2 ∷ entry 7 3 ∷ entry 7 2 ∷ []

abbrev pub absorbed2 : List Entry
absorbed2 = entry 7 1 ∷ entry 7 2 ∷ entry 7 3 ∷ entry 7 4 ∷ []

-- what each site is offered: its adds, what is delivered to it, and the ids of the table merged into it. The refused delivery offers nothing,
-- since its slot is free
abbrev pub offered0 : List ℕ
offered0 = 7 ∷ []

abbrev pub offered1 : List ℕ
offered1 = 7 ∷ 7 ∷ 7 ∷ []

abbrev pub offered2 : List ℕ
offered2 = 7 ∷ 7 ∷ []

-- the table {7: n} of the sample
abbrev pub only_seven : ℕ → List ℕ
only_seven n = 7 ∷ n ∷ replicate 14 0

-- the table that a site ends with
abbrev pub end_table : ℕ → List ℕ
end_table k = table_at sample_run sample_end.words k

-- "the length held is the largest it has absorbed", at one site for one id
abbrev pub is_largest : ℕ → ℕ → Bool
is_largest k e = eqb (length_of (end_table k) e) (largest (absorbed sample_run sample_start k sample_events) e)

-- how many accepted steps of a kind the sample has
abbrev pub sample_count : (Step → Bool) → ℕ
sample_count kind = accepted_of kind sample_run sample_start sample_events

unfoldable pub sample_cases : List Bool
sample_cases =
    -- the absorbed pairs of each site
    same_pairs_law (absorbed sample_run sample_start 0 sample_events) absorbed0
    ∷ same_pairs_law (absorbed sample_run sample_start 1 sample_events) absorbed1
    ∷ same_pairs_law (absorbed sample_run sample_start 2 sample_events) absorbed2
    -- the lengths held are the largest of them, and 0 for an id that none absorbed
    ∷ is_largest 0 7 ∷ is_largest 1 7 ∷ is_largest 2 7 ∷ is_largest 0 8 ∷ is_largest 1 8 ∷ is_largest 2 8
    ∷ eqb (largest absorbed0 7) 2 ∷ eqb (largest absorbed1 7) 3 ∷ eqb (largest absorbed2 7) 4 ∷ eqb (largest absorbed2 8) 0
    -- the offered ids of each site, and how many different ones they are
    ∷ same (offered sample_run sample_start 0 sample_events) offered0
    ∷ same (offered sample_run sample_start 1 sample_events) offered1
    ∷ same (offered sample_run sample_start 2 sample_events) offered2
    ∷ eqb (distinct offered0) 1 ∷ eqb (distinct offered1) 1 ∷ eqb (distinct offered2) 1
    -- line=13 refused=5, and no other step is refused
    ∷ same (refusals sample_run sample_start sample_events) (0 ∷ 0 ∷ 0 ∷ 0 ∷ 0 ∷ 0 ∷ 0 ∷ 0 ∷ 0 ∷ 0 ∷ 0 ∷ 0 ∷ 5 ∷ 0 ∷ 0 ∷ 0 ∷ 0 ∷ [])
    -- line=16 length=3 present=1, line=17 length=4 present=0, and the other results before them
    ∷ same (values sample_run sample_start sample_events) (1 ∷ 1 ∷ 0 ∷ 1 ∷ 2 ∷ 2 ∷ 2 ∷ 3 ∷ 0 ∷ 1 ∷ 3 ∷ 0 ∷ 0 ∷ 1 ∷ 4 ∷ 3 ∷ 4 ∷ [])
    ∷ listed 3 ∷ not (listed 4)
    -- sent=2 copied=1 absorbed=2 lost=1 waiting=0, each the number of accepted steps of its kind
    ∷ same_counts sample_end.ledger.counts (counts_of 2 1 2 1) ∷ eqb (waiting sample_end.slots) 0
    ∷ eqb (sample_count is_send) 2 ∷ eqb (sample_count is_again) 1 ∷ eqb (sample_count is_deliver) 2 ∷ eqb (sample_count is_lose) 1
    -- "The report starts each pair at 0": one serial was sent and heard from site 0 to 1 and from 1 to 2, and none from 2 to 0
    ∷ same_pair (pair_at 0 1 sample_end.ledger.pairs) (pair 1 0 0 0) ∷ same_pair (pair_at 1 2 sample_end.ledger.pairs) (pair 1 0 0 0)
    ∷ same_pair (pair_at 2 0 sample_end.ledger.pairs) (start_pair 0)
    -- each site shows 1: the tables it ends with, and their number of entries
    ∷ same (end_table 0) (only_seven 2) ∷ same (end_table 1) (only_seven 3) ∷ same (end_table 2) (only_seven 4)
    ∷ eqb (held (end_table 0)) 1 ∷ eqb (held (end_table 1)) 1 ∷ eqb (held (end_table 2)) 1
    ∷ []

-- document 01's sample run is what the definitions make of its steps: refusals, values, counters, tables, what is absorbed and what is offered
pub sample_holds : all sample_cases ≡ true
unfolding sample_cases refusals values listed after_add after_remove unused sound_from length_of held push with_length raised held_with merged new_ids rises raise_refusal raise_table remove_refusal remove_table merge_refusal merge_table is_free is_occupied slots_sound waiting lowest_free cleared counts_sound one_more raised_if table_at with_table sizes_right tables_sound all_sound slot_of numbers first_given refusal_in effect refusal_of value_of outcome refusal_for after_event fresh_refusal after_fresh link_of link_between pair_sound over_row over_rows links_sound links_begun moves_on heard_pair incomparable next_serial is_newer ahead is_ordered ran accepted_of entries_of site_in absorbed_in absorbed largest occurs within ids_of offered_in offered among distinct
sample_holds = refl

-- ---- "two sites in one run that absorbed the same set of id and length pairs, in whichever order and however often": such a run
abbrev pub pair_run : Run
pair_run = record { sites = 2; capacity = 2 }

abbrev pub pair_start : State
pair_start = after_fresh pair_run 0 (lent (replicate 8 0) (replicate 1 no_parcel) (ledger_of 0 0 0 0))

-- site 0 publishes and withdraws 7; site 1 gets the withdrawal by a merge and the publishing after it, by a late parcel
abbrev pub pair_steps : List Event
pair_steps = taken (Add 0 7 ∷ Send 0 1 7 ∷ Remove 0 7 ∷ Add 1 9 ∷ Merge 0 1 ∷ Deliver 0 ∷ Merge 1 0 ∷ [])

abbrev pub pair_absorbed : ℕ → List Entry
pair_absorbed k = absorbed pair_run pair_start k pair_steps

-- the table that a site ends with
abbrev pub pair_table : ℕ → List ℕ
pair_table k = table_at pair_run (ran pair_run pair_start pair_steps).words k

unfoldable pub pair_cases : List Bool
pair_cases =
    -- the same set of pairs, and the same table
    same_pairs (pair_absorbed 0) (pair_absorbed 1) ∷ same (pair_table 0) (pair_table 1)
    -- the pairs themselves, every step accepted, and the words at the end
    ∷ same_pairs_law (pair_absorbed 0) (entry 7 1 ∷ entry 7 2 ∷ entry 7 2 ∷ entry 9 1 ∷ [])
    ∷ same_pairs_law (pair_absorbed 1) (entry 9 1 ∷ entry 7 2 ∷ entry 7 1 ∷ [])
    ∷ same (refusals pair_run pair_start pair_steps) (0 ∷ 0 ∷ 0 ∷ 0 ∷ 0 ∷ 0 ∷ 0 ∷ [])
    ∷ same (ran pair_run pair_start pair_steps).words (7 ∷ 2 ∷ 9 ∷ 1 ∷ 7 ∷ 2 ∷ 9 ∷ 1 ∷ [])
    ∷ []

-- the two sites absorb these pairs, in another order and not as often, and hold the same table
pub pairs_hold : all pair_cases ≡ true
unfolding pair_cases refusals values listed after_add after_remove unused sound_from length_of held push with_length raised held_with merged new_ids rises raise_refusal raise_table remove_refusal remove_table merge_refusal merge_table is_free is_occupied slots_sound waiting lowest_free cleared counts_sound one_more raised_if table_at with_table sizes_right tables_sound all_sound slot_of numbers first_given refusal_in effect refusal_of value_of outcome refusal_for after_event fresh_refusal after_fresh link_of link_between pair_sound over_row over_rows links_sound links_begun moves_on heard_pair incomparable next_serial is_newer ahead is_ordered ran accepted_of entries_of site_in absorbed_in absorbed largest occurs within ids_of offered_in offered among distinct
pairs_hold = refl

-- a test that two lists of words are the same tells that they are
same_equal : (xs ys : List ℕ) → same xs ys ≡ true → xs ≡ ys
same_equal [] [] h = refl
same_equal [] (y ∷ ys) h = absurd (false≢true h)
same_equal (x ∷ xs) [] h = absurd (false≢true h)
same_equal (x ∷ xs) (y ∷ ys) h =
    let a = parts (eqb x y) _ h in
    let heads : x ≡ y = eqb-true x y a.0 in
    let tails : xs ≡ ys = same_equal xs ys a.1 in
    cc

-- they are the same set of pairs: what demand 3 supposes of two sites can be met
pub pairs_same : same_pairs (pair_absorbed 0) (pair_absorbed 1) ≡ true
unfolding pair_cases
pairs_same = (parts (same_pairs (pair_absorbed 0) (pair_absorbed 1)) _ pairs_hold).0

-- and the two sites "hold equal tables"
pub pairs_tables : pair_table 0 ≡ pair_table 1
unfolding pair_cases
pairs_tables =
    let a = parts (same_pairs (pair_absorbed 0) (pair_absorbed 1)) _ pairs_hold in
    same_equal (pair_table 0) (pair_table 1) (parts (same (pair_table 0) (pair_table 1)) _ a.1).0
