-- A burst: many steps of one run in one call, the state judged once. A step is asked for by its four numbers and answered by two, its refusal and
-- its other result. What the numbers ask for, what is answered, when the call is refused, and what is left.
-- Assumes nothing.
use Rattle.std.specs.Prelude.{ℕ, ◌*◌, ◌/◌, ◌%◌, ◌≡◌, not, List, [], ◌∷◌, ◌++◌, length, ltb, eqb, Option, Some, None}
use Rattle.rules.specs.declared.Step.{Step}
use Rattle.rules.specs.declared.Run.{Run}
use Rattle.rules.specs.meaning.Operations.{unless_refused}
use Rattle.rules.specs.meaning.Parcels.{no_parcel}
use Rattle.rules.specs.meaning.Links.{no_link}
use Rattle.rules.specs.meaning.Put.{put}
use Rattle.rules.specs.meaning.Refusals.{◌when◌, first_given}
use Rattle.rules.specs.meaning.States.{State, sight_with}
use Rattle.rules.specs.meaning.Runs.{judge_tests, state_by}
use Rattle.rules.specs.meaning.Events.{Event, takes}
use Rattle.rules.specs.meaning.Histories.{ran}
use Rattle.rules.specs.meaning.StepLines.{step_for}
use Rattle.rules.specs.meaning.Calls.{named_answer, named_after}

-- what the numbers ask for, four to each: a step, or no step
unfoldable pub asks_of : List ℕ → List (Option Step)
asks_of [] = []
asks_of (a ∷ []) = []
asks_of (a ∷ b ∷ []) = []
asks_of (a ∷ b ∷ c ∷ []) = []
asks_of (kind ∷ first ∷ second ∷ id ∷ rest) = step_for kind first second id ∷ asks_of rest

-- the steps among them
unfoldable pub steps_in : List (Option Step) → List Event
steps_in [] = []
steps_in (Some step ∷ asks) = takes step ∷ steps_in asks
steps_in (None ∷ asks) = steps_in asks

-- what each is answered in the state after those before it: 11 where the numbers name no step
unfoldable pub answers_to : Run → State → List (Option Step) → List ℕ
answers_to run s [] = []
answers_to run s (ask ∷ asks) = (named_answer run s ask).refusal ∷ (named_answer run s ask).value ∷ answers_to run (named_after run s ask) asks

-- the refusals of the call: 1 and 2 as for a step, 11 where the words asked are no multiple of four, 13 where there are fewer than two words of
-- answers for each four of them
unfoldable pub burst_refusal : Run → State → ℕ → ℕ → ℕ
burst_refusal run s asked room =
    first_given (judge_tests run s.words (sight_with no_parcel no_link run s) ++ ((11 when not (eqb (asked % 4) 0)) ∷ (13 when ltb room (2 * (asked / 4))) ∷ []))

-- the contract: the refusal, the state that is left, and every word of the answers
pub record Handled (run : Run) (before : State) (asks given : List ℕ) (r : ℕ) (left : State) (said : List ℕ) : Type 0 where
  pub refusal : r ≡ burst_refusal run before (length asks) (length given)
  pub state : left ≡ state_by (burst_refusal run before (length asks) (length given)) before (ran run before (steps_in (asks_of asks)))
  pub answers : said ≡ unless_refused (burst_refusal run before (length asks) (length given)) given (put given 0 (answers_to run before (asks_of asks)))
