-- What the functions of a burst make of one ask and one answer, and of the refusal of the call. For the contracts of private functions only.
-- Assumes nothing.
use Rattle.std.specs.Prelude.{ℕ, zero, suc, ◌+◌, ◌*◌, ◌/◌, ◌%◌, not, List, [], ◌∷◌, get_or, set, ltb, eqb, Option, Some, None}
use Rattle.rules.specs.declared.Step.{Step}
use Rattle.rules.specs.declared.Step.TheVariants.{Query}
use Rattle.rules.specs.meaning.Operations.{Answer}
use Rattle.rules.specs.meaning.Refusals.{◌when◌, first_given}
use Rattle.rules.specs.meaning.StepLines.{step_for}

-- what the four numbers of ask i name
unfoldable pub named_at : List ℕ → ℕ → Option Step
named_at asks i = step_for (get_or asks (4 * i) 0) (get_or asks (4 * i + 1) 0) (get_or asks (4 * i + 2) 0) (get_or asks (4 * i + 3) 0)

-- a step with 0, and 11 where none was named
pub record Ask : Type 0 where
  pub refusal : ℕ
  pub step : Step

unfoldable pub ask_of : Option Step → Ask
ask_of (Some step) = record { refusal = 0; step = step }
ask_of None = record { refusal = 11; step = Query 0 0 }

-- answer i in its two places
abbrev pub noted : ℕ → Answer → List ℕ → List ℕ
noted i a ws = set (set ws (2 * i) a.refusal) (2 * i + 1) a.value

-- the refusal of the call, where the judge has said its number
unfoldable pub number_of : ℕ → ℕ → ℕ → ℕ
number_of zero asks room = first_given ((11 when not (eqb (asks % 4) 0)) ∷ (13 when ltb room (2 * (asks / 4))) ∷ [])
number_of (suc r) asks room = suc r
