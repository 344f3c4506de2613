-- The order of repairs, by example: three sites with two ids in common, and a group, whose ids fit together exactly; and one id more, with which the order
-- matters. The checker computes all of it from the definitions as they stand.
-- Assumes nothing.
use Rattle.std.specs.Prelude.{ℕ, true, false, ◌≡◌, refl, List, [], ◌∷◌, ◌++◌}
use Rattle.rules.specs.declared.Run.{Run}
use Rattle.rules.specs.meaning.Table.{unused, sound_from, length_of, held, push, with_length, raised, merged, new_ids, rises}
use Rattle.rules.specs.meaning.Operations.{accepted, answer, merge_refusal, merge_answer, merge_table}
use Rattle.rules.specs.meaning.Parcels.{no_parcel, is_free, slots_sound, waiting}
use Rattle.rules.specs.meaning.Ledgers.{begun_ledger, counts_sound, raised_if}
use Rattle.rules.specs.meaning.Refusals.{first_given}
use Rattle.rules.specs.meaning.Links.{pair_sound, over_row, over_rows, links_sound}
use Rattle.rules.specs.meaning.States.{State, StateSound, lent, table_at, with_table, sizes_right, tables_sound, all_sound}
use Rattle.rules.specs.meaning.Steps.{entries_of, ids_of, effect}
use Rattle.rules.specs.meaning.Runs.{refusal_in, refusal_of}
use Rattle.rules.specs.meaning.Leb.{leb_value, of64, read_leb}
use Rattle.rules.specs.meaning.Groups.{entries_from, group_of, entries_in, forms_none}
use Rattle.rules.specs.meaning.Events.{absorb_refusal, outcome, refusal_for, after_event}
use Rattle.rules.specs.meaning.Ids.{among, distinct, ids_of_all, fit_together}
use Rattle.rules.specs.meaning.Histories.{ran, occurs, within, same_pairs}
use Rattle.rules.specs.meaning.Repairs.{TableOf, empty_table, are_sound, entries_of_all, taken_in, all_taken, Repair, merging, absorbing, is_proper, are_proper, all_at, operations, has_after, all_brought, at_each, named, fit_everywhere, same_everywhere}
use Rattle.rules.proofs.cases.Sample.{refusals}
use Rattle.rules.proofs.laws.repair.Tables.{any_order}
use Rattle.rules.proofs.laws.repair.Orders.{any_order_everywhere, any_order_at_a_site}

-- ---- one table takes in others
-- three tables of four places, which have 7 and 8 in common, and the group {8: 5, 9: 2}
abbrev pub a : List ℕ
a = 7 ∷ 1 ∷ 8 ∷ 2 ∷ 0 ∷ 0 ∷ 0 ∷ 0 ∷ []

abbrev pub b : List ℕ
b = 7 ∷ 2 ∷ 8 ∷ 1 ∷ 9 ∷ 1 ∷ 0 ∷ 0 ∷ []

abbrev pub d : List ℕ
d = 7 ∷ 3 ∷ 8 ∷ 1 ∷ 10 ∷ 4 ∷ 0 ∷ 0 ∷ []

abbrev pub g : List ℕ
g = 8 ∷ 5 ∷ 9 ∷ 2 ∷ []

-- in one order, and in another with the group twice
abbrev pub order : List (List ℕ)
order = b ∷ d ∷ g ∷ []

abbrev pub other_order : List (List ℕ)
other_order = g ∷ d ∷ b ∷ g ∷ []

-- what every order leaves: each id's largest length, in a table that is then full
abbrev pub full : List ℕ
full = 7 ∷ 3 ∷ 8 ∷ 5 ∷ 9 ∷ 2 ∷ 10 ∷ 4 ∷ []

pub record TakenMet : Type 0 where
  pub tables : TableOf 4 a × TableOf 4 b × TableOf 4 d
  pub sounds : (are_sound order ≡ true) × (are_sound other_order ≡ true)
  pub same_set : same_pairs (entries_of_all order) (entries_of_all other_order) ≡ true
  -- the four ids fit four places, and not three
  pub fits : (fit_together 4 (a ∷ order) ≡ true) × (fit_together 3 (a ∷ order) ≡ false)
  -- an equal one changes nothing, and no length rises; nor does the empty one, from either side; either way; three grouped in either way; any order, or twice
  pub equal : (merge_answer a a ≡ answer accepted 0) × (merge_table a a ≡ a)
  pub empty : (merge_answer a (empty_table 4) ≡ answer accepted 0) × (merge_table a (empty_table 4) ≡ a) × (merge_table (empty_table 4) a ≡ a)
  pub either : (merge_table a d ≡ 7 ∷ 3 ∷ 8 ∷ 2 ∷ 10 ∷ 4 ∷ 0 ∷ 0 ∷ []) × (merge_table d a ≡ 7 ∷ 3 ∷ 8 ∷ 2 ∷ 10 ∷ 4 ∷ 0 ∷ 0 ∷ [])
  pub grouped : (merge_table (merge_table a b) d ≡ 7 ∷ 3 ∷ 8 ∷ 2 ∷ 9 ∷ 1 ∷ 10 ∷ 4 ∷ []) × (merge_table a (merge_table b d) ≡ 7 ∷ 3 ∷ 8 ∷ 2 ∷ 9 ∷ 1 ∷ 10 ∷ 4 ∷ [])
  pub taken : (all_taken a order ≡ true) × (taken_in a order ≡ full)
  pub taken_too : (all_taken a other_order ≡ true) × (taken_in a other_order ≡ full)

pub taken_met : TakenMet
unfolding unused sound_from length_of held with_length raised merged new_ids rises merge_refusal merge_answer merge_table entries_of ids_of occurs within among distinct are_sound entries_of_all ids_of_all fit_together taken_in all_taken
taken_met = record {
  tables = ((refl, refl), (refl, refl), (refl, refl));
  sounds = (refl, refl);
  same_set = refl;
  fits = (refl, refl);
  equal = (refl, refl);
  empty = (refl, refl, refl);
  either = (refl, refl);
  grouped = (refl, refl);
  taken = (refl, refl);
  taken_too = (refl, refl);
}

-- so the promise speaks of it
pub taken_alike : taken_in a order ≡ taken_in a other_order
taken_alike = (any_order 4 a order other_order taken_met.tables.0 taken_met.sounds.0 taken_met.sounds.1 taken_met.same_set taken_met.fits.0).2

-- ---- the same three tables at the sites of a run
abbrev pub three_sites : Run
three_sites = record { sites = 3; capacity = 4 }

abbrev pub stands : State
stands = lent (a ++ (b ++ d)) (no_parcel ∷ []) (begun_ledger 0)

pub stands_sound : StateSound three_sites stands
unfolding sizes_right unused sound_from tables_sound is_free slots_sound waiting counts_sound pair_sound over_row over_rows links_sound
stands_sound = (refl, refl, refl, refl, refl)

-- the bytes of the group, and of {8: 5, 11: 1}, which has one id more
abbrev pub bytes : List ℕ
bytes = 2 ∷ 8 ∷ 4 ∷ 0 ∷ 1 ∷ []

abbrev pub one_more_law : List ℕ
one_more_law = 2 ∷ 8 ∷ 4 ∷ 2 ∷ 0 ∷ []

-- ---- repairs of site 0: from both others and from a group, in two orders, the second time with a merge repeated
abbrev pub at_0 : List ℕ → List Repair
at_0 group = merging 1 0 ∷ merging 2 0 ∷ absorbing 0 group ∷ []

abbrev pub at_0_too : List ℕ → List Repair
at_0_too group = absorbing 0 group ∷ merging 2 0 ∷ merging 1 0 ∷ merging 2 0 ∷ []

-- ---- and of all sites, by two shifts: the first has the group at site 0, takes in everything there and hands it out; the second does so at site 2
abbrev pub first_shift : List Repair
first_shift = absorbing 0 bytes ∷ merging 1 0 ∷ merging 2 0 ∷ merging 0 1 ∷ merging 0 2 ∷ []

abbrev pub second_shift : List Repair
second_shift = merging 0 2 ∷ merging 1 2 ∷ absorbing 2 bytes ∷ merging 2 0 ∷ merging 2 1 ∷ []

pub record RepairsMet : Type 0 where
  -- at site 0: what the promise asks, and that both orders leave the full table there
  pub proper : (are_proper three_sites (at_0 bytes) ≡ true) × (are_proper three_sites (at_0_too bytes) ≡ true)
  pub all_at_0 : (all_at 0 (at_0 bytes) ≡ true) × (all_at 0 (at_0_too bytes) ≡ true)
  pub fits : fit_together 4 (table_at three_sites stands.words 0 ∷ named three_sites stands (at_0 bytes)) ≡ true
  pub same_set : same_pairs (entries_of_all (named three_sites stands (at_0 bytes))) (entries_of_all (named three_sites stands (at_0_too bytes))) ≡ true
  pub words : (ran three_sites stands (operations (at_0 bytes))).words ≡ full ++ (b ++ d)
  pub words_too : (ran three_sites stands (operations (at_0_too bytes))).words ≡ full ++ (b ++ d)
  -- with one id more there is no room for all: the group is refused behind the merges, or a merge behind the group, and what site 0 ends with goes by that
  pub one_too_many : fit_together 4 (table_at three_sites stands.words 0 ∷ named three_sites stands (at_0 one_more_law)) ≡ false
  pub refused : refusals three_sites stands (operations (at_0 one_more_law)) ≡ 0 ∷ 0 ∷ 8 ∷ []
  pub refused_too : refusals three_sites stands (operations (at_0_too one_more_law)) ≡ 0 ∷ 0 ∷ 8 ∷ 0 ∷ []
  pub differs : (ran three_sites stands (operations (at_0 one_more_law))).words ≡ 7 ∷ 3 ∷ 8 ∷ 2 ∷ 9 ∷ 1 ∷ 10 ∷ 4 ∷ (b ++ d)
  pub differs_too : (ran three_sites stands (operations (at_0_too one_more_law))).words ≡ 7 ∷ 3 ∷ 8 ∷ 5 ∷ 10 ∷ 4 ∷ 11 ∷ 1 ∷ (b ++ d)
  -- at all sites: likewise, and every site has the full table
  pub shifts_proper : (are_proper three_sites first_shift ≡ true) × (are_proper three_sites second_shift ≡ true)
  pub shifts_fit : fit_everywhere three_sites stands first_shift ≡ true
  pub shifts_same : same_everywhere three_sites stands first_shift second_shift ≡ true
  pub shifts_words : (ran three_sites stands (operations first_shift)).words ≡ full ++ (full ++ full)
  pub shifts_words_too : (ran three_sites stands (operations second_shift)).words ≡ full ++ (full ++ full)

pub repairs_met : RepairsMet
unfolding refusals ran effect entries_of ids_of among distinct occurs within unused sound_from length_of held push with_length raised merged new_ids merge_refusal merge_table is_free slots_sound waiting counts_sound raised_if table_at with_table sizes_right tables_sound all_sound first_given refusal_in refusal_of outcome refusal_for after_event absorb_refusal leb_value of64 read_leb entries_from group_of entries_in forms_none pair_sound over_row over_rows links_sound entries_of_all ids_of_all fit_together is_proper are_proper all_at operations has_after all_brought at_each fit_everywhere same_everywhere
repairs_met = record {
  proper = (refl, refl);
  all_at_0 = (refl, refl);
  fits = refl;
  same_set = refl;
  words = refl;
  words_too = refl;
  one_too_many = refl;
  refused = refl;
  refused_too = refl;
  differs = refl;
  differs_too = refl;
  shifts_proper = (refl, refl);
  shifts_fit = refl;
  shifts_same = refl;
  shifts_words = refl;
  shifts_words_too = refl;
}

-- so the promises speak of both
pub site_alike : ran three_sites stands (operations (at_0 bytes)) ≡ ran three_sites stands (operations (at_0_too bytes))
site_alike =
    let met = repairs_met in
    (any_order_at_a_site three_sites stands stands_sound 0 refl (at_0 bytes) (at_0_too bytes) met.proper.0 met.proper.1 met.all_at_0.0 met.all_at_0.1 met.fits met.same_set).2

pub shifts_alike : ran three_sites stands (operations first_shift) ≡ ran three_sites stands (operations second_shift)
shifts_alike =
    let met = repairs_met in
    (any_order_everywhere three_sites stands stands_sound refl first_shift second_shift met.shifts_proper.0 met.shifts_proper.1 met.shifts_fit met.shifts_same).2
