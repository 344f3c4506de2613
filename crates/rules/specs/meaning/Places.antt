-- Readings from the front of a text, said of places in a line: what is read at a place, and the place behind it.
use Rattle.std.specs.Prelude.{Bool, List, ℕ, ◌-◌, length, drop, Option, Some, None}
use Rattle.rules.specs.meaning.Text.{Front, front, refused, behind}
use Rattle.rules.specs.meaning.Number.{read_number}
use Rattle.rules.specs.meaning.Lines.{kind_of, read_field}

-- what was read of a line of n bytes, with the place behind it for the rest
abbrev pub placed : ℕ → Front → Option (ℕ × ℕ)
placed n (front v rest) = Some (v, (n - length rest))
placed n refused = None

-- the four readers, at a place
unfoldable pub number_at : List ℕ → ℕ → Option (ℕ × ℕ)
number_at line at = placed (length line) (read_number (drop at line))

unfoldable pub text_at : List ℕ → ℕ → List ℕ → Option (ℕ × ℕ)
text_at line at text = placed (length line) (behind text (drop at line))

unfoldable pub field_at : Bool → List ℕ → List ℕ → ℕ → Option (ℕ × ℕ)
field_at used name line at = placed (length line) (read_field used name (drop at line))

unfoldable pub kind_at : List ℕ → Option (ℕ × ℕ)
kind_at line = placed (length line) (kind_of line)
