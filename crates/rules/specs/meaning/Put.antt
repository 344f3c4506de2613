-- Bytes put into a lent buffer: from a place on, and every other byte kept. "Behind what a call writes, a lent buffer keeps its values."
-- Assumes nothing.
use Rattle.std.specs.Prelude.{List, ◌++◌, ℕ, ◌+◌, length, take, drop}

-- the buffer with the bytes at the place
unfoldable pub put : List ℕ → ℕ → List ℕ → List ℕ
put out at bytes = take at out ++ (bytes ++ drop (at + length bytes) out)
