-- What the writer's parts ask of words that were judged, and what one of them promises of a buffer. Assumes nothing.
use Rattle.std.specs.Prelude.{◌≡◌, true, List, ◌++◌, ℕ, ◌+◌, ◌≤◌, length}
use Rattle.rules.specs.meaning.Groups.{is_group}
use Rattle.rules.specs.meaning.Leb.{leb128}
use Rattle.rules.specs.meaning.Put.{put}

abbrev pub IsGroup : List ℕ → Type 0
IsGroup es = is_group es ≡ true

-- a number led into a buffer at a place: `r` is the place behind it, and whatever is put there, at least a byte, it is as though the number alone had been put before
abbrev pub Led : List ℕ → ℕ → ℕ → ℕ → List ℕ → Type 0
Led out place n r after = (r ≡ place + length (leb128 n)) × ((more : List ℕ) → 1 ≤ length more → put after r more ≡ put out place (leb128 n ++ more))
