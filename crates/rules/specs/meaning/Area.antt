-- The four numbers of a line as the reader lays them into an area: "four little-endian 64-bit numbers in the first 32 bytes".
-- Assumes nothing.
use Rattle.std.specs.Prelude.{Bool, true, false, List, [], ◌∷◌, ◌++◌, ℕ, zero, suc, ◌/◌, ◌%◌, ltb, length, Option, Some, None}
use Rattle.rules.specs.declared.Numbers.{Numbers}
use Rattle.rules.specs.meaning.Operations.{unless_refused}
use Rattle.rules.specs.meaning.Lines.{numbers_of}
use Rattle.rules.specs.meaning.Put.{put}
use Rattle.rules.specs.meaning.Refusals.{◌when◌, first_given}

-- a number in k bytes, the lowest first
unfoldable pub little : ℕ → ℕ → List ℕ
little zero n = []
little (suc k) n = (n % 256) ∷ little k (n / 256)

abbrev pub word : ℕ → List ℕ
word n = little 8 n

-- the 32 bytes of what a line says
unfoldable pub laid : Option Numbers → List ℕ
laid (Some n) = word n.kind ++ (word n.first ++ (word n.second ++ word n.id))
laid None = []

unfoldable pub is_no_line : Option Numbers → Bool
is_no_line (Some n) = false
is_no_line None = true

-- "An area under 32 bytes gives 13, then 11 is tried"
unfoldable pub read_refusal : List ℕ → List ℕ → ℕ
read_refusal line area = first_given ((13 when ltb (length area) 32) ∷ (11 when is_no_line (numbers_of line)) ∷ [])

-- "on either the area is untouched"
unfoldable pub area_after : List ℕ → List ℕ → List ℕ
area_after line area = unless_refused (read_refusal line area) area (put area 0 (laid (numbers_of line)))
