-- A step in a state that is judged already: what the one inner step answers and leaves. It is given a number, 0 or what has refused the step before
-- it is looked at, and a slot number below which no slot is free.
-- Assumes nothing.
use Rattle.std.specs.Prelude.{ℕ, zero, suc, ◌≤◌, min, ◌≡◌, cond, eqb}
use Rattle.rules.specs.meaning.Operations.{Answer}
use Rattle.rules.specs.declared.Run.{Run}
use Rattle.rules.specs.declared.Step.{Step}
use Rattle.rules.specs.meaning.Operations.{answer}
use Rattle.rules.specs.meaning.Parcels.{no_parcel, lowest_free}
use Rattle.rules.specs.meaning.Links.{no_link}
use Rattle.rules.specs.meaning.Refusals.{first_given}
use Rattle.rules.specs.meaning.Kinds.{takes_slot, frees_slot, slot_of}
use Rattle.rules.specs.meaning.States.{State, sight_with, StateSound}
use Rattle.rules.specs.meaning.Runs.{judge_tests, answer_of, after, state_by}

-- what 1 and 2 say of a state: one of them, or 0
unfoldable pub judged_of : Run → State → ℕ
judged_of run s = first_given (judge_tests run s.words (sight_with no_parcel no_link run s))

-- where nothing has refused the step, the state is sound; and below `low` no slot is free
abbrev pub Clear : ℕ → ℕ → Run → State → Type 0
Clear refused low run s = (refused ≡ 0 → StateSound run s) × (low ≤ lowest_free s.slots)

-- a sound state, no slot of which below `low` is free
abbrev pub Standing : ℕ → Run → State → Type 0
Standing low run s = StateSound run s × (low ≤ lowest_free s.slots)

unfoldable pub answer_under : ℕ → Run → State → Step → Answer
answer_under zero run s step = answer_of run s step
answer_under (suc r) run s step = answer (suc r) 0

unfoldable pub after_under : ℕ → Run → State → Step → State
after_under refused run s step = state_by refused s (after run s step)

-- the contract of the inner step: the answer, and the state that is left
pub record Acted (refused : ℕ) (run : Run) (before : State) (step : Step) (r : Answer) (left : State) : Type 0 where
  pub answer : r ≡ answer_under refused run before step
  pub state : left ≡ after_under refused run before step

-- ---- the next step's `low`, from this one's, its answer, and the slot that it sets
unfoldable pub low_taken : ℕ → Step → ℕ → ℕ
low_taken low step v = cond (takes_slot step) v (cond (frees_slot step) (min low (slot_of step)) low)

unfoldable pub low_after : ℕ → Step → Answer → ℕ
low_after low step a = cond (eqb a.refusal 0) (low_taken low step a.value) low
