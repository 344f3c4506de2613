-- What decoding answers: of one entry, of two numbers, and of a group whose entries go into words. Assumes nothing.
use Rattle.std.specs.Prelude.{◌≡◌, List, ℕ, zero, suc, ◌*◌, ◌≤◌, length, take, drop, Option, Some, None}
use Rattle.rules.specs.meaning.Groups.{most_entries, Group, group, no_group, with_entry, entries_from}
use Rattle.groups.specs.declared.entry.Entry.{Entry}
use Rattle.leb.specs.Places.{leb_at}

-- an entry at a place, with an id from `lo` up: it stands in front of whatever entries follow, however many are to follow. Where none stands there, there is no
-- group
unfoldable pub Enters : List ℕ → ℕ → ℕ → Option Entry → Type 0
Enters bytes at lo (Some e) = ((k : ℕ) → entries_from (suc k) lo (drop at bytes) ≡ with_entry e.id e.length (entries_from k (suc e.id) (drop e.behind bytes))) × (e.behind ≤ length bytes)
Enters bytes at lo None = (k : ℕ) → entries_from (suc k) lo (drop at bytes) ≡ no_group

-- ---- two numbers, one behind the other
abbrev pub then_two : Option (ℕ × ℕ) → (ℕ → ℕ → Option (ℕ × ℕ × ℕ)) → Option (ℕ × ℕ × ℕ)
then_two (Some (n, behind)) f = f n behind
then_two None f = None

-- so many numbers more from a place on: the last two of them, and the place behind
unfoldable pub last_two : ℕ → List ℕ → ℕ → ℕ → ℕ → Option (ℕ × ℕ × ℕ)
last_two zero bytes at first second = Some (first, second, at)
last_two (suc k) bytes at first second = then_two (leb_at bytes at) (λ n behind. last_two k bytes behind second n)

unfoldable pub two_at : List ℕ → ℕ → Option (ℕ × ℕ × ℕ)
two_at bytes at = last_two 2 bytes at 0 0

-- ---- a group in words
-- whether there is a group, and of how many entries; if so, they stand in front of the words
unfoldable pub Decodes : Group → Option ℕ → List ℕ → Type 0
Decodes g (Some n) words = (g ≡ group (take (2 * n) words)) × (n ≤ most_entries)
Decodes g None words = g ≡ no_group
