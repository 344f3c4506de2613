-- What C calls with the four numbers of a step: the step's answer and state, and 11 where they name none, before anything else is looked at.
-- Assumes nothing.
use Rattle.std.specs.Prelude.{ℕ, ◌≡◌, Option, Some, None}
use Rattle.rules.specs.declared.Step.{Step}
use Rattle.rules.specs.meaning.Operations.{Answer}
use Rattle.rules.specs.declared.Run.{Run}
use Rattle.rules.specs.meaning.Operations.{answer}
use Rattle.rules.specs.meaning.States.{State}
use Rattle.rules.specs.meaning.Runs.{answer_of, after}
use Rattle.rules.specs.meaning.StepLines.{step_for}

unfoldable pub named_answer : Run → State → Option Step → Answer
named_answer run s (Some step) = answer_of run s step
named_answer run s None = answer 11 0

unfoldable pub named_after : Run → State → Option Step → State
named_after run s (Some step) = after run s step
named_after run s None = s

-- the contract of a step by its four numbers: the refusal, the other result and the state that is left
pub record Called (run : Run) (before : State) (kind first second id : ℕ) (r value : ℕ) (left : State) : Type 0 where
  pub refusal : r ≡ (named_answer run before (step_for kind first second id)).refusal
  pub other : value ≡ (named_answer run before (step_for kind first second id)).value
  pub state : left ≡ named_after run before (step_for kind first second id)
