-- Step lines as document 01 has them: the four numbers of a step, the line of a step, and the step of a text.
-- Assumes nothing.
use Rattle.std.specs.Prelude.{ℕ, ◌^◌, ◌<◌, cond, List, [], ◌∷◌, get_or, Option, Some, None}
use Rattle.rules.specs.declared.Numbers.{Numbers}
use Rattle.rules.specs.declared.Step.{Step}
use Rattle.rules.specs.declared.Step.TheVariants.{Add, Remove, Query, Send, Merge, Deliver, Again, Lose}
use Rattle.rules.specs.meaning.Kinds.{numbers}
use Rattle.rules.specs.meaning.Lines.{text_of, names_step, numbers_of}

-- ---- "kind (1 add, 2 remove, 3 query, 4 send, 5 merge, 6 deliver, 7 again, 8 lose), first site or slot, second site, id; unused ones 0"
abbrev pub steps : ℕ → ℕ → ℕ → List (Option Step)
steps first second e =
    None
    ∷ Some (Add first e)
    ∷ Some (Remove first e)
    ∷ Some (Query first e)
    ∷ Some (Send first second e)
    ∷ Some (Merge first second)
    ∷ Some (Deliver first)
    ∷ Some (Again first)
    ∷ Some (Lose first)
    ∷ []

-- the step that four numbers name: none for a kind outside 1 to 8, or where an unused number is not 0
unfoldable pub step_for : ℕ → ℕ → ℕ → ℕ → Option Step
step_for kind first second e = cond (names_step kind second e) (get_or (steps first second e) kind None) None

unfoldable pub step_in : Option Numbers → Option Step
step_in (Some n) = step_for n.kind n.first n.second n.id
step_in None = None

-- ---- the two: the line of a step, and the step of a text
unfoldable pub line_of : Step → List ℕ
line_of step = text_of (numbers step).kind (numbers step).first (numbers step).second (numbers step).id

unfoldable pub step_of : List ℕ → Option Step
step_of xs = step_in (numbers_of xs)

-- a step whose numbers fit 64 bits
abbrev pub Fits : Step → Type 0
Fits step = ((numbers step).first < 2 ^ 64) × ((numbers step).second < 2 ^ 64) × ((numbers step).id < 2 ^ 64)
