-- The marked examples of document 01, one table of cases under one statement, which the checker computes from the definitions as they
-- stand; and, below them, what a table is and is not. A reader can add a row and see.
-- Assumes nothing.
use Rattle.std.specs.Prelude.{ℕ, Bool, true, false, ◌&&◌, not, ◌≡◌, refl, List, [], ◌∷◌, ◌++◌, replicate, eqb, ltb, Option, Some, None}
use Rattle.rules.specs.meaning.Operations.{Answer}
use Rattle.rules.specs.meaning.Lengths.{M, listed, after_add, after_remove, join}
use Rattle.rules.specs.meaning.Table.{unused, sound_from, sound, length_of, held, shown, count_below, rank, found_of, push, with_length, raised, held_with, merged, new_ids, rises}
use Rattle.rules.specs.declared.Run.{Run}
use Rattle.rules.specs.declared.Parcel.{Parcel}
use Rattle.rules.specs.declared.Pair.{Pair}
use Rattle.rules.specs.declared.Counts.{Counts}
use Rattle.rules.specs.declared.Ledger.{Ledger}
use Rattle.rules.specs.declared.Step.{Step}
use Rattle.rules.specs.declared.Step.TheVariants.{Add, Send, Merge, Deliver, Again, Lose}
use Rattle.rules.specs.meaning.Parcels.{no_parcel, is_free, is_occupied, slots_sound, waiting, lowest_free, cleared}
use Rattle.rules.specs.meaning.Ledgers.{counts_sound, no_counts, one_more, raised_if}
use Rattle.rules.specs.meaning.Refusals.{first_given}
use Rattle.rules.specs.meaning.Serials.{next_serial, is_newer, ahead, is_ordered}
use Rattle.rules.specs.meaning.Links.{start_pair, link_between, pair_sound, over_row, over_rows, links_sound, links_begun, moves_on, heard_pair, incomparable}
use Rattle.rules.specs.meaning.Kinds.{slot_of, link_of, numbers}
use Rattle.rules.specs.meaning.States.{State, lent, table_at, with_table, sizes_right, tables_sound, all_sound}
use Rattle.rules.specs.meaning.Steps.{effect}
use Rattle.rules.specs.meaning.Runs.{refusal_in, refusal_of, value_of, answer_of, after, fresh_refusal, after_fresh}
use Rattle.rules.specs.meaning.Events.{Event, takes, absorbs, absorb_refusal, outcome, refusal_for, answer_for, after_event}
use Rattle.rules.specs.meaning.Put.{put}
use Rattle.rules.specs.meaning.Leb.{leb_up_to, leb128, carried, leb_value, of64, read_leb}
use Rattle.rules.specs.meaning.Groups.{fields_from, group_bytes, entries_from, group_of, entries_in, forms_none}
use Rattle.rules.specs.meaning.Members.{bits_of, bytes_of, answers_of, members_refusal, members_after}
use Rattle.rules.specs.meaning.Operations.{query_answer, raise_refusal, raise_answer, raise_table, add_answer, add_table, absorb_answer, absorb_table, removed_length, remove_refusal, remove_answer, remove_table, merge_refusal, merge_answer, merge_table}

abbrev pub all : List Bool → Bool
all [] = true
all (b ∷ bs) = b && all bs

-- two lists of words are the same
abbrev pub same : List ℕ → List ℕ → Bool
same [] [] = true
same [] (y ∷ ys) = false
same (x ∷ xs) [] = false
same (x ∷ xs) (y ∷ ys) = eqb x y && same xs ys

-- an answer is accepted with a value; an answer is refused with a number, and 0 as the other result
abbrev pub gives : Answer → ℕ → Bool
gives a v = eqb a.refusal 0 && eqb a.value v

abbrev pub refuses : Answer → ℕ → Bool
refuses a r = eqb a.refusal r && eqb a.value 0

abbrev pub is_at : Option ℕ → ℕ → Bool
is_at (Some j) i = eqb j i
is_at None i = false

-- a list of steps, as what happens in a run
abbrev pub taken : List Step → List Event
taken [] = []
taken (step ∷ steps) = takes step ∷ taken steps

-- ---- the tables of the examples
abbrev pub empty : List ℕ
empty = 0 ∷ 0 ∷ 0 ∷ 0 ∷ []

-- {7: n}, with a place to spare
abbrev pub seven : ℕ → List ℕ
seven n = 7 ∷ n ∷ 0 ∷ 0 ∷ []

-- {7: 2, 9: 1} at C = 3 and at C = 2, {7: 1, 8: 3}, and what they merge to
abbrev pub seven_nine : List ℕ
seven_nine = 7 ∷ 2 ∷ 9 ∷ 1 ∷ 0 ∷ 0 ∷ []

abbrev pub seven_nine_full : List ℕ
seven_nine_full = 7 ∷ 2 ∷ 9 ∷ 1 ∷ []

abbrev pub seven_eight : List ℕ
seven_eight = 7 ∷ 1 ∷ 8 ∷ 3 ∷ []

abbrev pub seven_eight_nine : List ℕ
seven_eight_nine = 7 ∷ 2 ∷ 8 ∷ 3 ∷ 9 ∷ 1 ∷ []

-- ---- a run of two sites with one place for each, and one slot
abbrev pub two_sites : Run
two_sites = record { sites = 2; capacity = 1 }

abbrev pub counts_of : ℕ → ℕ → ℕ → ℕ → Counts
counts_of s c a l = record { sent = s; copied = c; absorbed = a; lost = l }

-- the entry of a link
abbrev pub pair : ℕ → ℕ → ℕ → ℕ → Pair
pair n h s u = record { next = n; heard = h; unsent = s; unheard = u }

-- 256 entries, with that of site 0 to site 1, and noise in each other one, which nobody looks at in a run of two sites but that of site 1 to site 0
abbrev pub noise : Pair
noise = pair 5 6 7 8

abbrev pub entries : Pair → List Pair
entries p = noise ∷ p ∷ (replicate 14 noise ++ (start_pair 9 ∷ replicate 239 noise))

abbrev pub ledger_with : Counts → Pair → Ledger
ledger_with c p = record { counts = c; pairs = entries p }

-- the counts, where site 0 has sent site 1 the serial 3, which was not heard
abbrev pub one_sent : Pair
one_sent = pair 4 0 0 1

abbrev pub ledger_of : ℕ → ℕ → ℕ → ℕ → Ledger
ledger_of s c a l = ledger_with (counts_of s c a l) one_sent

-- the same where it was heard
abbrev pub ledger_heard : ℕ → ℕ → ℕ → ℕ → Ledger
ledger_heard s c a l = ledger_with (counts_of s c a l) (pair 4 3 0 0)

-- from site 0, with the serial 3
abbrev pub parcel : ℕ → ℕ → ℕ → Parcel
parcel k e n = record { site = k; id = e; length = n; sender = 0; serial = 3 }

-- nothing anywhere; 7 at site 0; 7 at site 0 and 8 at site 1, each table full
abbrev pub nothing : State
nothing = lent (0 ∷ 0 ∷ 0 ∷ 0 ∷ []) (no_parcel ∷ []) (ledger_with no_counts (start_pair 9))

abbrev pub seven_at_0 : State
seven_at_0 = lent (7 ∷ 1 ∷ 0 ∷ 0 ∷ []) (no_parcel ∷ []) (ledger_with no_counts (start_pair 3))

-- the same with a parcel (1, e, n) waiting, and with the counts
abbrev pub waiting_for_1 : ℕ → ℕ → Ledger → State
waiting_for_1 e n l = lent (7 ∷ 1 ∷ 8 ∷ 1 ∷ []) (parcel 1 e n ∷ []) l

abbrev pub same_parcel : Parcel → Parcel → Bool
same_parcel p q = eqb p.site q.site && (eqb p.id q.id && (eqb p.length q.length && (eqb p.sender q.sender && eqb p.serial q.serial)))

abbrev pub same_slots : List Parcel → List Parcel → Bool
same_slots [] [] = true
same_slots [] (q ∷ qs) = false
same_slots (p ∷ ps) [] = false
same_slots (p ∷ ps) (q ∷ qs) = same_parcel p q && same_slots ps qs

abbrev pub same_counts : Counts → Counts → Bool
same_counts c d = eqb c.sent d.sent && (eqb c.copied d.copied && (eqb c.absorbed d.absorbed && eqb c.lost d.lost))

abbrev pub same_pair : Pair → Pair → Bool
same_pair p q = eqb p.next q.next && (eqb p.heard q.heard && (eqb p.unsent q.unsent && eqb p.unheard q.unheard))

abbrev pub same_entries : List Pair → List Pair → Bool
same_entries [] [] = true
same_entries [] (q ∷ qs) = false
same_entries (p ∷ ps) [] = false
same_entries (p ∷ ps) (q ∷ qs) = same_pair p q && same_entries ps qs

abbrev pub same_ledger : Ledger → Ledger → Bool
same_ledger l m = same_counts l.counts m.counts && same_entries l.pairs m.pairs

abbrev pub same_state : State → State → Bool
same_state s t = same s.words t.words && (same_slots s.slots t.slots && same_ledger s.ledger t.ledger)

-- a step is refused with a number, and leaves the state
abbrev pub step_refused : Run → State → Step → ℕ → Bool
step_refused run s step r = refuses (answer_of run s step) r && same_state (after run s step) s

-- a step is accepted with a value, and leaves another state
abbrev pub step_taken : Run → State → Step → ℕ → State → Bool
step_taken run s step v t = gives (answer_of run s step) v && same_state (after run s step) t

-- the same of anything that happens
abbrev pub event_refused : Run → State → Event → ℕ → Bool
event_refused run s event r = refuses (answer_for run s event) r && same_state (after_event run s event) s

abbrev pub event_taken : Run → State → Event → ℕ → State → Bool
event_taken run s event v t = gives (answer_for run s event) v && same_state (after_event run s event) t

unfoldable pub cases : List Bool
cases =
    -- P1 empty table, query 7: 0
    gives (query_answer empty 7) 0
    -- P2 add 7: 1
    ∷ gives (add_answer empty 7) 1 ∷ same (add_table empty 7) (seven 1)
    -- P3 add 7 at length 1: 1, table the same
    ∷ gives (add_answer (seven 1) 7) 1 ∷ same (add_table (seven 1) 7) (seven 1)
    -- P4 remove at 1: 2, entry kept
    ∷ gives (remove_answer M (seven 1) 7) 2 ∷ same (remove_table M (seven 1) 7) (seven 2)
    -- P5 remove of an id never held: 0, table still empty
    ∷ gives (remove_answer M empty 7) 0 ∷ same (remove_table M empty 7) empty
    -- P6 lengths 3 and 2 merge to 3
    ∷ eqb (join 3 2) 3 ∷ eqb (join 2 3) 3 ∷ same (merge_table (seven 3) (seven 2)) (seven 3) ∷ same (merge_table (seven 2) (seven 3)) (seven 3)
    -- P7 {7:2, 9:1} with {7:1, 8:3} gives {7:2, 8:3, 9:1}
    ∷ same (merge_table seven_nine seven_eight) seven_eight_nine
    -- P8 at M, remove gives 7 and add returns M
    ∷ refuses (remove_answer M (seven M) 7) 7 ∷ same (remove_table M (seven M) 7) (seven M)
    ∷ gives (add_answer (seven M) 7) M ∷ same (add_table (seven M) 7) (seven M)
    -- P9 add at M - 1 gives M
    ∷ gives (add_answer (seven 4294967294) 7) M ∷ same (add_table (seven 4294967294) 7) (seven M)
    -- P10 C = 2 holding 7 and 8: delivering 9 gives 8; delivering 7 is accepted
    ∷ refuses (absorb_answer seven_eight 9 1) 8 ∷ same (absorb_table seven_eight 9 1) seven_eight
    ∷ gives (absorb_answer seven_eight 7 2) 2 ∷ same (absorb_table seven_eight 7 2) (7 ∷ 2 ∷ 8 ∷ 3 ∷ [])
    -- P11 the merge P7 into the first returns 1 with C = 3 and is refused with 8 at C = 2
    ∷ gives (merge_answer seven_nine seven_eight) 1
    ∷ refuses (merge_answer seven_nine_full seven_eight) 8 ∷ same (merge_table seven_nine_full seven_eight) seven_nine_full
    -- P12 asking 7, 8, 9 of P7's result gives the byte 6; 9 ids take two bytes, and later bytes are kept
    ∷ eqb (members_refusal seven_eight_nine 3 1) 0 ∷ same (members_after seven_eight_nine (7 ∷ 8 ∷ 9 ∷ []) (255 ∷ 255 ∷ [])) (6 ∷ 255 ∷ [])
    ∷ same (members_after seven_eight_nine (8 ∷ 8 ∷ 7 ∷ 9 ∷ 0 ∷ 0 ∷ 0 ∷ 8 ∷ 9 ∷ []) (255 ∷ 255 ∷ 255 ∷ [])) (139 ∷ 1 ∷ 255 ∷ [])
    -- a group: {7: 2, 8: 3} are the bytes 2, 7, 1, 0, 2, and they are read back as it
    ∷ same (group_bytes (7 ∷ 2 ∷ 8 ∷ 3 ∷ [])) (2 ∷ 7 ∷ 1 ∷ 0 ∷ 2 ∷ []) ∷ same (entries_in (2 ∷ 7 ∷ 1 ∷ 0 ∷ 2 ∷ [])) (7 ∷ 2 ∷ 8 ∷ 3 ∷ [])
    -- membership's own order of refusals: 1, 2, 14, 13; no ids asked, nothing written
    ∷ eqb (members_refusal (0 ∷ 1 ∷ 1 ∷ []) 4097 0) 1 ∷ eqb (members_refusal (seven 0) 4097 0) 2
    ∷ eqb (members_refusal (seven 1) 4097 0) 14 ∷ eqb (members_refusal (seven 1) 4096 511) 13 ∷ eqb (members_refusal (seven 1) 4096 512) 0
    ∷ eqb (members_refusal (seven 0) 0 0) 2 ∷ same (members_after (seven 1) [] (9 ∷ [])) (9 ∷ [])
    -- what is a sound table: no entry, room to spare, id 0, the length M
    ∷ sound M [] ∷ sound M empty ∷ sound M seven_nine ∷ sound M (0 ∷ 1 ∷ 1 ∷ 1 ∷ []) ∷ sound M (seven M)
    -- and what is none: M + 1, ids that fall, an id twice, an id without a length, an entry after an unused place, an odd word
    ∷ not (sound M (seven 4294967296)) ∷ not (sound M (9 ∷ 1 ∷ 7 ∷ 2 ∷ [])) ∷ not (sound M (7 ∷ 1 ∷ 7 ∷ 2 ∷ []))
    ∷ not (sound M (seven 0)) ∷ not (sound M (0 ∷ 0 ∷ 7 ∷ 2 ∷ [])) ∷ not (sound M (7 ∷ 1 ∷ 0 ∷ [])) ∷ not (sound M (0 ∷ []))
    -- what a table says
    ∷ eqb (held seven_nine) 2 ∷ eqb (shown seven_nine) 1 ∷ eqb (shown seven_eight) 2
    ∷ eqb (count_below (λ (x : ℕ). ltb 0 (length_of seven_nine x)) 10) 2 ∷ eqb (count_below (λ (x : ℕ). listed (length_of seven_nine x)) 10) 1
    ∷ is_at (found_of seven_nine 7) 0 ∷ is_at (found_of seven_nine 9) 1 ∷ not (is_at (found_of seven_nine 8) 1)
    ∷ eqb (rises (seven 1) (seven 1)) 0 ∷ eqb (rises (seven 1) (seven 2)) 1
    -- P10 in a run: a delivery refused with 8 leaves its parcel waiting; one of an id that is held is accepted, counted, and frees its slot
    ∷ step_refused two_sites (waiting_for_1 9 1 (ledger_of 1 0 0 0)) (Deliver 0) 8
    ∷ step_taken two_sites (waiting_for_1 8 2 (ledger_of 1 0 0 0)) (Deliver 0) 2 (lent (7 ∷ 1 ∷ 8 ∷ 2 ∷ []) (no_parcel ∷ []) (ledger_heard 1 0 1 0))
    -- a stale update is absorbed and counted too; a lost one is counted as lost
    ∷ step_taken two_sites (waiting_for_1 8 1 (ledger_of 1 0 0 0)) (Deliver 0) 1 (lent (7 ∷ 1 ∷ 8 ∷ 1 ∷ []) (no_parcel ∷ []) (ledger_heard 1 0 1 0))
    ∷ step_taken two_sites (waiting_for_1 8 1 (ledger_of 1 0 0 0)) (Lose 0) 0 (lent (7 ∷ 1 ∷ 8 ∷ 1 ∷ []) (no_parcel ∷ []) (ledger_of 1 0 0 1))
    -- send puts the sender's length into the lowest free slot; again copies it; merge changes the second site
    ∷ step_taken two_sites seven_at_0 (Send 0 1 7) 0 (lent (7 ∷ 1 ∷ 0 ∷ 0 ∷ []) (parcel 1 7 1 ∷ []) (ledger_of 1 0 0 0))
    ∷ step_taken two_sites (lent (7 ∷ 1 ∷ 0 ∷ 0 ∷ []) (no_parcel ∷ parcel 1 7 1 ∷ no_parcel ∷ []) (ledger_of 1 0 0 0)) (Again 1) 0 (lent (7 ∷ 1 ∷ 0 ∷ 0 ∷ []) (parcel 1 7 1 ∷ parcel 1 7 1 ∷ no_parcel ∷ []) (ledger_of 1 1 0 0))
    ∷ step_taken two_sites seven_at_0 (Merge 0 1) 1 (lent (7 ∷ 1 ∷ 7 ∷ 1 ∷ []) (no_parcel ∷ []) (ledger_with no_counts (start_pair 3)))
    -- a group is joined in whole, {7: 2} at site 1 and {8: 3} there, returns how many lengths rose, and is counted nowhere, so that a full count does not refuse it
    ∷ event_taken two_sites seven_at_0 (absorbs 1 (1 ∷ 7 ∷ 1 ∷ [])) 1 (lent (7 ∷ 1 ∷ 7 ∷ 2 ∷ []) (no_parcel ∷ []) (ledger_with no_counts (start_pair 3)))
    ∷ event_taken two_sites (waiting_for_1 8 1 (ledger_of M 1 M 0)) (absorbs 1 (1 ∷ 8 ∷ 2 ∷ [])) 1 (lent (7 ∷ 1 ∷ 8 ∷ 3 ∷ []) (parcel 1 8 1 ∷ []) (ledger_of M 1 M 0))
    ∷ event_taken two_sites seven_at_0 (absorbs 0 (0 ∷ [])) 0 seven_at_0 ∷ event_refused two_sites seven_at_0 (absorbs 0 (2 ∷ 7 ∷ 1 ∷ 0 ∷ 0 ∷ [])) 8
    -- the order of the refusals: each state would also earn the later number
    ∷ event_refused (record { sites = 2; capacity = 2 }) (lent (7 ∷ 0 ∷ 0 ∷ 0 ∷ []) (no_parcel ∷ []) (ledger_with no_counts noise)) (absorbs 9 []) 1
    ∷ event_refused two_sites (lent (7 ∷ 0 ∷ 0 ∷ 0 ∷ []) (no_parcel ∷ []) (ledger_with no_counts noise)) (absorbs 9 []) 2
    ∷ event_refused two_sites nothing (absorbs 2 []) 3 ∷ event_refused two_sites nothing (absorbs 1 []) 17
    ∷ step_refused (record { sites = 2; capacity = 2 }) (lent (7 ∷ 0 ∷ 0 ∷ 0 ∷ []) (no_parcel ∷ []) (ledger_with no_counts noise)) (Add 9 7) 1
    ∷ step_refused two_sites (lent (7 ∷ 0 ∷ 0 ∷ 0 ∷ []) (no_parcel ∷ []) (ledger_with no_counts noise)) (Add 9 7) 2
    ∷ step_refused two_sites nothing (Send 5 5 7) 3 ∷ step_refused two_sites nothing (Merge 5 5) 3
    ∷ step_refused two_sites nothing (Send 0 0 7) 4
    ∷ step_refused two_sites (waiting_for_1 8 1 (ledger_of 1 0 0 0)) (Send 0 1 9) 6
    ∷ step_refused two_sites (waiting_for_1 8 1 (ledger_of M 0 4294967294 0)) (Send 0 1 7) 9
    ∷ step_refused two_sites (waiting_for_1 8 1 (ledger_of 0 M 4294967294 0)) (Again 0) 9
    ∷ step_refused two_sites (waiting_for_1 9 1 (ledger_of M 1 M 0)) (Deliver 0) 8
    ∷ step_refused two_sites (waiting_for_1 8 1 (ledger_of M 1 M 0)) (Deliver 0) 10
    ∷ step_refused two_sites (waiting_for_1 8 1 (ledger_of M 1 0 M)) (Lose 0) 10
    ∷ step_refused two_sites nothing (Deliver 0) 5 ∷ step_refused two_sites nothing (Lose 1) 5
    ∷ step_refused two_sites seven_at_0 (Add 0 8) 8
    -- a fresh run judges the sizes alone
    ∷ same_state (after_fresh two_sites 9 (waiting_for_1 9 0 (ledger_of 5 5 5 5))) nothing
    ∷ eqb (fresh_refusal (record { sites = 17; capacity = 0 }) 0 0) 1 ∷ eqb (fresh_refusal (record { sites = 16; capacity = 0 }) 0 1024) 0
    ∷ []

pub cases_hold : all cases ≡ true
unfolding cases listed after_add after_remove unused sound_from length_of held shown count_below rank push with_length raised held_with merged new_ids rises raise_refusal raise_answer raise_table removed_length remove_refusal remove_table merge_refusal merge_answer merge_table is_free is_occupied slots_sound waiting lowest_free cleared counts_sound one_more raised_if table_at with_table sizes_right tables_sound all_sound slot_of numbers first_given refusal_in effect refusal_of value_of after fresh_refusal after_fresh link_of link_between pair_sound over_row over_rows links_sound links_begun moves_on heard_pair incomparable next_serial is_newer ahead is_ordered put bits_of bytes_of answers_of members_refusal members_after leb_up_to leb128 carried leb_value of64 read_leb fields_from group_bytes entries_from group_of entries_in forms_none absorb_refusal outcome refusal_for after_event
cases_hold = refl
