-- A run: what a step answers and leaves, and how a run is made fresh; and the contracts of both.
-- Assumes nothing.
use Rattle.std.specs.Prelude.{ℕ, zero, suc, ◌≡◌, not, List, [], ◌∷◌, ◌++◌, length, set, replicate}
use Rattle.rules.specs.meaning.Operations.{Answer}
use Rattle.rules.specs.declared.Run.{Run}
use Rattle.rules.specs.declared.Sight.{Sight}
use Rattle.rules.specs.declared.Step.{Step}
use Rattle.rules.specs.meaning.Lengths.{M}
use Rattle.rules.specs.meaning.Operations.{answer}
use Rattle.rules.specs.meaning.Parcels.{cleared}
use Rattle.rules.specs.meaning.Ledgers.{booked_ledger, started_ledger}
use Rattle.rules.specs.meaning.Refusals.{Test, ◌when◌, first_given}
use Rattle.rules.specs.meaning.States.{State, sizes_right, all_sound, sight_of}
use Rattle.rules.specs.meaning.Steps.{Effect, effect}

-- "1 and 2 judge all three", before anything else
abbrev pub judge_tests : Run → List ℕ → Sight → List Test
judge_tests run ws si = (1 when not (sizes_right run (length ws) si.count)) ∷ (2 when not (all_sound run ws si)) ∷ []

unfoldable pub refusal_in : Run → List ℕ → Sight → Step → ℕ
refusal_in run ws si step = first_given (judge_tests run ws si ++ (effect run ws si step).tests)

-- the step's row in a state
abbrev pub effect_of : Run → State → Step → Effect
effect_of run s step = effect run s.words (sight_of run s step) step

-- ---- the three that the contract of `step` cites
unfoldable pub refusal_of : Run → State → Step → ℕ
refusal_of run s step = refusal_in run s.words (sight_of run s step) step

unfoldable pub value_of : Run → State → Step → ℕ
value_of run s step = (effect_of run s step).value

abbrev pub answer_of : Run → State → Step → Answer
answer_of run s step = answer (refusal_of run s step) (value_of run s step)

-- the state of an accepted step
abbrev pub moved : Run → State → Step → State
moved run s step = record {
  words = (effect_of run s step).gain.words;
  slots = set s.slots (effect_of run s step).post.place (effect_of run s step).post.parcel;
  ledger = booked_ledger M (effect_of run s step).post.counter (effect_of run s step).post.link (effect_of run s step).post.pair s.ledger;
}

-- "A refused step .. writes nothing, counters included"
abbrev pub state_by : ℕ → State → State → State
state_by zero before after = after
state_by (suc r) before after = before

unfoldable pub after : Run → State → Step → State
after run s step = state_by (refusal_of run s step) s (moved run s step)

-- ---- "Fresh: every word, slot and counter 0. Making a run fresh refuses with 1 only; it doesn't judge what stood there before." Each link "starts at one
-- first serial, named for all pairs when the run is made fresh"
unfoldable pub fresh_refusal : Run → ℕ → ℕ → ℕ
fresh_refusal run words slots = first_given ((1 when not (sizes_right run words slots)) ∷ [])

abbrev pub empty : Run → ℕ → State → State
empty run first s = record {
  words = replicate (length s.words) 0;
  slots = cleared (length s.slots) s.slots;
  ledger = started_ledger run.sites first s.ledger;
}

unfoldable pub after_fresh : Run → ℕ → State → State
after_fresh run first s = state_by (fresh_refusal run (length s.words) (length s.slots)) s (empty run first s)

-- ---- the contracts of `step` and `fresh`: the answer, and the state that is left
pub record Stepped (run : Run) (before : State) (step : Step) (r : Answer) (left : State) : Type 0 where
  pub answer : r ≡ answer_of run before step
  pub state : left ≡ after run before step

pub record Freshened (run : Run) (first : ℕ) (before : State) (r : ℕ) (left : State) : Type 0 where
  pub refusal : r ≡ fresh_refusal run (length before.words) (length before.slots)
  pub state : left ≡ after_fresh run first before
