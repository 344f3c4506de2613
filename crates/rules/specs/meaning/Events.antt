-- What can happen in a run: one of its eight steps, or an operation that is no step and has no line. For each one record: its refusal, what it returns, the
-- state that it leaves, what it gives to which site, and what it offers.
-- Assumes nothing.
use Rattle.std.specs.Prelude.{ℕ, ◌≡◌, Bool, true, List, [], ◌∷◌, ◌++◌, length, eqb, Option, Some, None}
use Rattle.rules.specs.meaning.Operations.{Answer}
use Rattle.rules.specs.declared.Run.{Run}
use Rattle.rules.specs.declared.Step.{Step}
use Rattle.rules.specs.declared.Sight.{Sight}
use Rattle.rules.specs.meaning.Table.{held_merged, rises}
use Rattle.rules.specs.meaning.Operations.{crowded, merge_table, answer}
use Rattle.rules.specs.meaning.Parcels.{no_parcel}
use Rattle.rules.specs.meaning.Links.{no_link}
use Rattle.rules.specs.meaning.Refusals.{Test, ◌when◌, first_given}
use Rattle.rules.specs.meaning.States.{State, lent, table_at, with_table, sight_of, sight_with}
use Rattle.rules.specs.meaning.Steps.{Entry, entries_of, ids_of, outside, site_in}
use Rattle.rules.specs.meaning.Runs.{judge_tests, refusal_of, value_of, moved, state_by, effect_of}
use Rattle.rules.specs.meaning.Ids.{ids_of_all}
use Rattle.rules.specs.meaning.Rounds.{all_tables, round_merges, round_refusal, after_all, given_by}
use Rattle.rules.specs.meaning.Groups.{entries_in, forms_none}

pub data Event : Type 0 where
  takes : Step → Event
  -- "Absorbing a group's bytes at a site"
  absorbs : ℕ → List ℕ → Event
  -- "One repair round for a run"
  round : Event

-- the step that it is, if it is one
abbrev pub step_in : Event → Option Step
step_in (takes step) = Some step
step_in (absorbs k bytes) = None
step_in round = None

-- ---- absorbing a group's bytes at a site
module _ (run : Run) (ws : List ℕ) (k : ℕ) (bytes : List ℕ) where
  -- its own tests, once 1 and 2 have judged the state: "17, after 7 and before 8", and 8 as for a merge
  abbrev pub absorb_tests : List Test
  absorb_tests = (3 when outside run k) ∷ (17 when forms_none bytes) ∷ (8 when crowded (table_at run ws k) (held_merged (table_at run ws k) (entries_in bytes))) ∷ []

  -- "all or none", through the merge of whole tables
  abbrev pub words_absorbed : List ℕ
  words_absorbed = with_table run ws k (merge_table (table_at run ws k) (entries_in bytes))

  -- "returns how many lengths rose"
  abbrev pub rise_by : ℕ
  rise_by = rises (table_at run ws k) (entries_in bytes)

  -- by what is seen besides the words
  unfoldable pub absorb_refusal : Sight → ℕ
  absorb_refusal si = first_given (judge_tests run ws si ++ absorb_tests)

-- ---- what comes of it
-- its refusal, 0 for none; what it returns, and the state, where it is accepted; which sites are to gain by it, what an accepted one gives to such a site,
-- and what it offers to it, refused or not
pub record Outcome : Type 0 where
  pub refusal : ℕ
  pub value : ℕ
  pub state : State
  pub gaining : ℕ → Bool
  pub given : ℕ → List Entry
  pub offer : ℕ → List ℕ

unfoldable pub outcome : Run → State → Event → Outcome
outcome run s (takes step) = record {
  refusal = refusal_of run s step;
  value = value_of run s step;
  state = moved run s step;
  gaining = λ k. eqb (site_in run (sight_of run s step) step) k;
  given = λ k. (effect_of run s step).gain.given;
  offer = λ k. (effect_of run s step).gain.offer;
}
-- "In demand 3 its entries are offered and absorbed like those of a merged table; the ledger doesn't count them." Bytes that form no group have none
outcome run s (absorbs k bytes) = record {
  refusal = absorb_refusal run s.words k bytes (sight_with no_parcel no_link run s);
  value = rise_by run s.words k bytes;
  state = lent (words_absorbed run s.words k bytes) s.slots s.ledger;
  gaining = λ j. eqb k j;
  given = λ j. entries_of (entries_in bytes);
  offer = λ j. ids_of (entries_in bytes);
}
-- A round is its merges, and every site gains: "Demand 3 counts each inner merge as a merge, from the table as it then stands; a round, refused or not, offers all
-- those ids to every site." "It returns the number of merges", and "Parcels under way and the ledger are untouched"
outcome run s round = record {
  refusal = round_refusal run s.words (sight_with no_parcel no_link run s);
  value = length (round_merges run);
  state = lent (after_all run s (round_merges run)).words s.slots s.ledger;
  gaining = λ k. true;
  given = λ k. given_by run s k (round_merges run);
  offer = λ k. ids_of_all (all_tables run s.words);
}

-- ---- one refusal, one answer and one state for all of them
unfoldable pub refusal_for : Run → State → Event → ℕ
refusal_for run s event = (outcome run s event).refusal

abbrev pub answer_for : Run → State → Event → Answer
answer_for run s event = answer (refusal_for run s event) (outcome run s event).value

-- refused, it writes nothing
unfoldable pub after_event : Run → State → Event → State
after_event run s event = state_by (refusal_for run s event) s (outcome run s event).state

-- the contract of an operation: the answer, and the state that is left
pub record Happened (run : Run) (before : State) (event : Event) (r : Answer) (left : State) : Type 0 where
  pub answer : r ≡ answer_for run before event
  pub state : left ≡ after_event run before event
