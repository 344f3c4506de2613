-- The room of a run, by example: a run that meets what the promise asks, refused steps and all, and the first refusal past its bound.
-- Assumes nothing.
use Rattle.std.specs.Prelude.{true, ◌≡◌, refl, List, [], ◌∷◌, ◌++◌, length}
use Rattle.std.proofs.Common.{le_refl}
use Rattle.rules.specs.declared.Step.TheVariants.{Add, Send, Merge, Deliver}
use Rattle.rules.specs.meaning.Lengths.{listed, after_add, after_remove}
use Rattle.rules.specs.meaning.Table.{unused, sound_from, length_of, held, push, with_length, raised, held_with, merged, new_ids, rises}
use Rattle.rules.specs.meaning.Operations.{raise_refusal, raise_table, remove_refusal, remove_table, merge_refusal, merge_table}
use Rattle.rules.specs.meaning.Parcels.{is_free, is_occupied, slots_sound, waiting, lowest_free, cleared}
use Rattle.rules.specs.meaning.Ledgers.{counts_sound, one_more, raised_if}
use Rattle.rules.specs.meaning.Refusals.{first_given}
use Rattle.rules.specs.meaning.Serials.{next_serial, is_newer, ahead, is_ordered}
use Rattle.rules.specs.meaning.Links.{link_between, pair_sound, over_row, over_rows, links_sound, links_begun, moves_on, heard_pair, incomparable}
use Rattle.rules.specs.meaning.Kinds.{slot_of, link_of, numbers}
use Rattle.rules.specs.meaning.States.{State, table_at, with_table, sizes_right, tables_sound, all_sound}
use Rattle.rules.specs.meaning.Steps.{site_in, entries_of, ids_of, effect}
use Rattle.rules.specs.meaning.Runs.{refusal_in, refusal_of, value_of, fresh_refusal, after_fresh}
use Rattle.rules.specs.meaning.Leb.{carried, leb_value, of64, read_leb}
use Rattle.rules.specs.meaning.Groups.{entries_from, group_of, entries_in, forms_none}
use Rattle.rules.specs.meaning.Events.{Event, takes, absorbs, absorb_refusal, outcome, refusal_for, after_event}
use Rattle.rules.specs.meaning.Ids.{among, distinct}
use Rattle.rules.specs.meaning.Histories.{ran, offered_in, offered}
use Rattle.rules.proofs.cases.Marked.{taken, two_sites, counts_of, ledger_of, waiting_for_1}
use Rattle.rules.proofs.cases.Sample.{refusals, values}
use Rattle.rules.proofs.laws.history.Room.{room_suffices}

-- two sites with a place each and one slot, in whatever state they stood before the run
abbrev pub stood : State
stood = waiting_for_1 9 0 (ledger_of 5 5 5 5)

-- 7 is added at site 0 and sent to site 1, a second send finds no free slot, the parcel is delivered, site 1 is merged with itself
abbrev pub first_events : List Event
first_events = taken (Add 0 7 ∷ Send 0 1 7 ∷ Send 0 1 7 ∷ Deliver 0 ∷ Merge 1 1 ∷ [])

-- then site 1 takes in site 0; later it is given 7 once more, by an add and by the group {7: 3}; site 0 is offered 8, for which it has no place, by an add and by
-- the group {7: 3, 8: 1}, of which it takes nothing, and bytes that form no group, cut short behind 9
abbrev pub last_events : List Event
last_events = takes (Add 1 7) ∷ absorbs 1 (1 ∷ 7 ∷ 2 ∷ []) ∷ takes (Add 0 8) ∷ absorbs 0 (2 ∷ 7 ∷ 2 ∷ 0 ∷ 0 ∷ []) ∷ absorbs 0 (1 ∷ 9 ∷ []) ∷ []

abbrev pub all_events : List Event
all_events = first_events ++ (takes (Merge 0 1) ∷ last_events)

-- the run is made; its refusals are 9, 4 and, at site 0, 8, 8 and 17; site 1 is offered 7 five times, once by a refused step, and so one id for its one
-- place; site 0 is offered 7 and 8, and not 9; the group's length stands at site 1 at the end, and the ledger has not counted it
pub record RoomMet : Type 0 where
  pub made : fresh_refusal two_sites (length stood.words) (length stood.slots) ≡ 0
  pub refused : refusals two_sites (after_fresh two_sites 0 stood) all_events ≡ 0 ∷ 0 ∷ 9 ∷ 0 ∷ 4 ∷ 0 ∷ 0 ∷ 0 ∷ 8 ∷ 8 ∷ 17 ∷ []
  pub rose : values two_sites (after_fresh two_sites 0 stood) all_events ≡ 1 ∷ 0 ∷ 0 ∷ 1 ∷ 0 ∷ 0 ∷ 1 ∷ 1 ∷ 0 ∷ 0 ∷ 0 ∷ []
  pub gains : (outcome two_sites (ran two_sites (after_fresh two_sites 0 stood) first_events) (takes (Merge 0 1))).gaining 1 ≡ true
  pub offers : offered two_sites (after_fresh two_sites 0 stood) 1 all_events ≡ 7 ∷ 7 ∷ 7 ∷ 7 ∷ 7 ∷ []
  pub one_id : distinct (offered two_sites (after_fresh two_sites 0 stood) 1 all_events) ≡ 1
  pub two_ids : offered two_sites (after_fresh two_sites 0 stood) 0 all_events ≡ 7 ∷ 8 ∷ 7 ∷ 8 ∷ []
  pub words : (ran two_sites (after_fresh two_sites 0 stood) all_events).words ≡ 7 ∷ 1 ∷ 7 ∷ 3 ∷ []
  pub uncounted : (ran two_sites (after_fresh two_sites 0 stood) all_events).ledger.counts ≡ counts_of 1 0 1 0

pub room_met : RoomMet
unfolding refusals values ran site_in effect entries_of ids_of offered_in offered among distinct listed after_add after_remove unused sound_from length_of held push with_length raised held_with merged new_ids rises raise_refusal raise_table remove_refusal remove_table merge_refusal merge_table is_free is_occupied slots_sound waiting lowest_free cleared counts_sound one_more raised_if table_at with_table sizes_right tables_sound all_sound slot_of numbers first_given refusal_in refusal_of value_of outcome refusal_for after_event absorb_refusal carried leb_value of64 read_leb entries_from group_of entries_in forms_none fresh_refusal after_fresh link_of link_between pair_sound over_row over_rows links_sound links_begun moves_on heard_pair incomparable next_serial is_newer ahead is_ordered
room_met = record { made = refl; refused = refl; rose = refl; gains = refl; offers = refl; one_id = refl; two_ids = refl; words = refl; uncounted = refl }

-- so the promise speaks of it
pub room_kept : refusal_for two_sites (ran two_sites (after_fresh two_sites 0 stood) first_events) (takes (Merge 0 1)) ≡ 8 → ⊥
room_kept = room_suffices two_sites 0 stood room_met.made first_events (takes (Merge 0 1)) last_events 1 (le_refl 2) room_met.gains (rw room_met.one_id (le_refl 1))
