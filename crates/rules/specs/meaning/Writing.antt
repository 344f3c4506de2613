-- What the writer of step lines writes, and what it answers. "A kind outside 1 to 8, or an unused number that isn't 0, is 11; then too short a
-- buffer is 13. Either way: an empty part, nothing written."
-- Assumes nothing.
use Rattle.std.specs.Prelude.{◌≡◌, not, cond, List, [], ◌∷◌, ℕ, ltb, eqb, length}
use Rattle.rules.specs.meaning.Lines.{text_of, names_step}
use Rattle.rules.specs.meaning.Put.{put}
use Rattle.rules.specs.meaning.Refusals.{◌when◌, first_given}

-- whether four numbers can be written into so much room
unfoldable pub check_of : ℕ → ℕ → ℕ → ℕ → ℕ → ℕ
check_of kind first second i room =
    first_given ((11 when not (names_step kind second i)) ∷ (13 when ltb room (length (text_of kind first second i))) ∷ [])

-- the line where it can be written, else nothing
unfoldable pub text_for : ℕ → ℕ → ℕ → ℕ → ℕ → List ℕ
text_for kind first second i room = cond (eqb (check_of kind first second i room) 0) (text_of kind first second i) []

-- the contract of the writer: how many bytes it filled, and the whole buffer afterwards
pub record Filled (kind first second i : ℕ) (before after : List ℕ) (n : ℕ) : Type 0 where
  pub count : n ≡ length (text_for kind first second i (length before))
  pub bytes : after ≡ put before 0 (text_for kind first second i (length before))
