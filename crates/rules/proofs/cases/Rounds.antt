-- A repair round by example: three sites whose four ids just fit, one id more that fits each two of the tables and not all three, one site, and the order of the
-- refusals. The checker computes all of it from the definitions as they stand.
-- Assumes nothing.
use Rattle.std.specs.Prelude.{ℕ, ◌≡◌, refl, List, [], ◌∷◌, ◌++◌}
use Rattle.rules.specs.declared.Run.{Run}
use Rattle.rules.specs.declared.Step.TheVariants.{Merge}
use Rattle.rules.specs.meaning.Table.{unused, sound_from, length_of, held, push, with_length, raised, merged, new_ids}
use Rattle.rules.specs.meaning.Operations.{merge_refusal, merge_table, answer}
use Rattle.rules.specs.meaning.Parcels.{no_parcel, is_free, slots_sound, waiting}
use Rattle.rules.specs.meaning.Ledgers.{begun_ledger, counts_sound, raised_if}
use Rattle.rules.specs.meaning.Refusals.{first_given}
use Rattle.rules.specs.meaning.Links.{pair_sound, over_row, over_rows, links_sound}
use Rattle.rules.specs.meaning.States.{State, lent, table_at, with_table, sizes_right, tables_sound, all_sound}
use Rattle.rules.specs.meaning.Steps.{entries_of, ids_of, effect, site_in}
use Rattle.rules.specs.meaning.Ids.{among, distinct, ids_of_all, fit_together}
use Rattle.rules.specs.meaning.Runs.{refusal_in, refusal_of, after}
use Rattle.rules.specs.meaning.Rounds.{in_turn, round_merges, round_refusal, after_all, given_in, given_by}
use Rattle.rules.specs.meaning.Events.{round, outcome, refusal_for, answer_for, after_event}
use Rattle.rules.specs.meaning.Histories.{ran, taking, absorbed_in, offered_in}
use Rattle.rules.proofs.laws.repair.Rounds.{is_its_merges, second_stays}
use Rattle.rules.proofs.cases.Repairs.{a, b, d, three_sites, stands}

-- ---- the tables of the repairs, {7: 1, 8: 2}, {7: 2, 8: 1, 9: 1} and {7: 3, 8: 1, 10: 4}: each id's largest length
abbrev pub largest_lengths : List ℕ
largest_lengths = 7 ∷ 3 ∷ 8 ∷ 2 ∷ 9 ∷ 1 ∷ 10 ∷ 4 ∷ []

-- with {7: 1, 8: 2, 11: 1} in place of the first: any two of the three have four ids or fewer, all of them five
abbrev pub one_id_more : State
one_id_more = lent ((7 ∷ 1 ∷ 8 ∷ 2 ∷ 11 ∷ 1 ∷ 0 ∷ 0 ∷ []) ++ (b ++ d)) (no_parcel ∷ []) (begun_ledger 0)

-- one site, and a table that is none: the length of 9 stands behind an unused place
abbrev pub one_site : Run
one_site = record { sites = 1; capacity = 4 }

abbrev pub alone : State
alone = lent a (no_parcel ∷ []) (begun_ledger 0)

abbrev pub damaged : State
damaged = lent ((7 ∷ 1 ∷ 0 ∷ 0 ∷ 9 ∷ 1 ∷ 0 ∷ 0 ∷ []) ++ (b ++ d)) (no_parcel ∷ []) (begun_ledger 0)

pub record RoundsMet : Type 0 where
  pub merges : round_merges three_sites ≡ Merge 1 0 ∷ Merge 2 0 ∷ Merge 0 1 ∷ Merge 0 2 ∷ []
  pub answered : answer_for three_sites stands round ≡ answer 0 4
  pub words : (after_event three_sites stands round).words ≡ largest_lengths ++ (largest_lengths ++ largest_lengths)
  -- site 1 absorbs what site 0 has by then, and every site is offered what all sites held
  pub absorbs : absorbed_in three_sites stands 1 round ≡ entries_of largest_lengths
  pub offers : offered_in three_sites stands 2 round ≡ 7 ∷ 8 ∷ 7 ∷ 8 ∷ 9 ∷ 7 ∷ 8 ∷ 10 ∷ []
  -- one id more: each two tables would fit, all three do not
  pub each_two_fit : (merge_refusal (table_at three_sites one_id_more.words 0) b ≡ 0) × (merge_refusal (table_at three_sites one_id_more.words 0) d ≡ 0) × (merge_refusal b d ≡ 0)
  pub refused : answer_for three_sites one_id_more round ≡ answer 8 0
  pub unwritten : after_event three_sites one_id_more round ≡ one_id_more
  pub offers_too : offered_in three_sites one_id_more 0 round ≡ 7 ∷ 8 ∷ 11 ∷ 7 ∷ 8 ∷ 9 ∷ 7 ∷ 8 ∷ 10 ∷ []
  -- one site: no merge
  pub single : (answer_for one_site alone round ≡ answer 0 0) × (after_event one_site alone round ≡ alone)
  -- 1 before 2, and 2 before 8
  pub sizes_first : answer_for (record { sites = 4; capacity = 4 }) damaged round ≡ answer 1 0
  pub layout_next : answer_for three_sites damaged round ≡ answer 2 0

pub rounds_met : RoundsMet
unfolding in_turn round_merges round_refusal after_all given_in given_by absorbed_in offered_in refusal_for after_event outcome after refusal_of refusal_in effect site_in entries_of ids_of among distinct ids_of_all fit_together unused sound_from length_of held push with_length raised merged new_ids merge_refusal merge_table is_free slots_sound waiting counts_sound raised_if table_at with_table sizes_right tables_sound all_sound first_given pair_sound over_row over_rows links_sound
rounds_met = record {
  merges = refl;
  answered = refl;
  words = refl;
  absorbs = refl;
  offers = refl;
  each_two_fit = (refl, refl, refl);
  refused = refl;
  unwritten = refl;
  offers_too = refl;
  single = (refl, refl);
  sizes_first = refl;
  layout_next = refl;
}

-- so the promises speak of it: it is its merges, and a second round changes nothing
pub its_merges : after_event three_sites stands round ≡ ran three_sites stands (taking (round_merges three_sites))
unfolding in_turn round_refusal refusal_for outcome ids_of among distinct ids_of_all fit_together unused sound_from is_free slots_sound waiting counts_sound table_at sizes_right tables_sound all_sound first_given pair_sound over_row over_rows links_sound
its_merges = (is_its_merges three_sites stands refl refl).1

pub again_stays : after_event three_sites (after_event three_sites stands round) round ≡ after_event three_sites stands round
unfolding in_turn round_refusal refusal_for outcome ids_of among distinct ids_of_all fit_together unused sound_from is_free slots_sound waiting counts_sound table_at sizes_right tables_sound all_sound first_given pair_sound over_row over_rows links_sound
again_stays = (second_stays three_sites stands refl).1
