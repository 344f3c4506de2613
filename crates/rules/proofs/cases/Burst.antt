-- One burst, computed: an add, a send of it, its delivery, numbers that name no step, a query at the other site, a copy of nothing. Three words stand
-- behind the answers. Then the refusals of the call, where several apply.
-- Assumes nothing.
use Rattle.std.specs.Prelude.{ℕ, ◌≡◌, refl, List, [], ◌∷◌}
use Rattle.rules.specs.declared.Run.{Run}
use Rattle.rules.specs.meaning.Lengths.{listed, after_add, after_remove}
use Rattle.rules.specs.meaning.Table.{unused, sound_from, length_of, held, shown, rank, push, with_length, raised, held_with, merged, new_ids, rises}
use Rattle.rules.specs.meaning.Operations.{raise_refusal, raise_answer, raise_table, removed_length, remove_refusal, remove_table, merge_refusal, merge_answer, merge_table}
use Rattle.rules.specs.meaning.Parcels.{no_parcel, is_free, is_occupied, slots_sound, waiting, lowest_free}
use Rattle.rules.specs.meaning.Ledgers.{no_counts, counts_sound, one_more, raised_if}
use Rattle.rules.specs.meaning.Put.{put}
use Rattle.rules.specs.meaning.Refusals.{first_given}
use Rattle.rules.specs.meaning.Serials.{next_serial, is_newer, ahead, is_ordered}
use Rattle.rules.specs.meaning.Links.{start_pair, link_between, pair_sound, over_row, over_rows, links_sound, links_begun, moves_on, heard_pair, incomparable}
use Rattle.rules.specs.meaning.Kinds.{slot_of, link_of, numbers}
use Rattle.rules.specs.meaning.States.{State, lent, table_at, with_table, sizes_right, tables_sound, all_sound}
use Rattle.rules.specs.meaning.Steps.{effect}
use Rattle.rules.specs.meaning.Runs.{refusal_in, refusal_of, value_of, after}
use Rattle.rules.specs.meaning.Events.{outcome, refusal_for, after_event}
use Rattle.rules.specs.meaning.Histories.{ran}
use Rattle.rules.specs.meaning.Lines.{names_step}
use Rattle.rules.specs.meaning.StepLines.{step_for}
use Rattle.rules.specs.meaning.Calls.{named_answer, named_after}
use Rattle.rules.proofs.cases.Marked.{ledger_with, ledger_of, ledger_heard}
use Rattle.rules.specs.meaning.Bursts.{asks_of, steps_in, answers_to, burst_refusal, Handled}

abbrev sizes : Run
sizes = record { sites = 2; capacity = 1 }

abbrev before : State
before = lent (0 ∷ 0 ∷ 0 ∷ 0 ∷ []) (no_parcel ∷ no_parcel ∷ []) (ledger_with no_counts (start_pair 3))

abbrev asks : List ℕ
asks = 1 ∷ 0 ∷ 0 ∷ 7 ∷ 4 ∷ 0 ∷ 1 ∷ 7 ∷ 6 ∷ 0 ∷ 0 ∷ 0 ∷ 9 ∷ 0 ∷ 0 ∷ 0 ∷ 3 ∷ 1 ∷ 0 ∷ 7 ∷ 7 ∷ 0 ∷ 0 ∷ 0 ∷ []

abbrev given : List ℕ
given = 9 ∷ 9 ∷ 9 ∷ 9 ∷ 9 ∷ 9 ∷ 9 ∷ 9 ∷ 9 ∷ 9 ∷ 9 ∷ 9 ∷ 5 ∷ 6 ∷ 8 ∷ []

abbrev said : List ℕ
said = 0 ∷ 1 ∷ 0 ∷ 0 ∷ 0 ∷ 1 ∷ 11 ∷ 0 ∷ 0 ∷ 1 ∷ 5 ∷ 0 ∷ 5 ∷ 6 ∷ 8 ∷ []

abbrev left : State
left = lent (7 ∷ 1 ∷ 7 ∷ 1 ∷ []) (no_parcel ∷ no_parcel ∷ []) (ledger_heard 1 0 1 0)

pub burst_case : Handled sizes before asks given 0 left said
unfolding asks_of steps_in answers_to burst_refusal put named_answer named_after names_step step_for listed after_add after_remove unused sound_from length_of held shown rank push with_length raised held_with merged new_ids rises raise_refusal raise_answer raise_table removed_length remove_refusal remove_table merge_refusal merge_answer merge_table is_free is_occupied slots_sound waiting lowest_free counts_sound one_more raised_if table_at with_table sizes_right tables_sound all_sound slot_of numbers first_given refusal_in effect refusal_of value_of after outcome refusal_for after_event ran link_of link_between pair_sound over_row over_rows links_sound links_begun moves_on heard_pair incomparable next_serial is_newer ahead is_ordered
burst_case = record { refusal = refl; state = refl; answers = refl }

-- words of another number, and a table that is not sound
abbrev short : State
short = lent (0 ∷ 1 ∷ []) [] (ledger_of 0 0 0 0)

abbrev damaged : State
damaged = lent (0 ∷ 0 ∷ 7 ∷ 0 ∷ []) [] (ledger_of 0 0 0 0)

-- "1 and 2 as for a step, then 11 .., then 13": each where all that come after it apply too
pub burst_refusals : (burst_refusal sizes short 23 0 ≡ 1) × (burst_refusal sizes damaged 23 0 ≡ 2) × (burst_refusal sizes before 23 0 ≡ 11) × (burst_refusal sizes before 24 11 ≡ 13)
    × (burst_refusal sizes before 24 12 ≡ 0) × (burst_refusal sizes before 0 0 ≡ 0)
unfolding burst_refusal unused sound_from is_free is_occupied slots_sound waiting lowest_free counts_sound sizes_right tables_sound all_sound first_given pair_sound over_row over_rows links_sound
burst_refusals = (refl, refl, refl, refl, refl, refl)
