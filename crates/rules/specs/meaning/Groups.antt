-- Groups: up to 64 entries as one string of bytes. "Bytes: the count; then for each entry the id (first entry) or the gap from the previous id less 1 (later
-- entries), then the length less 1. All are unsigned LEB128 .., but only in the shortest form." Entries are words, id then length, as in a table.
-- Assumes nothing.
use Rattle.std.specs.Prelude.{◌≡◌, Bool, true, false, ◌&&◌, not, cond, List, [], ◌∷◌, ◌++◌, ℕ, zero, suc, ◌+◌, ◌-◌, ◌*◌, ◌/◌, ◌^◌, leb, ltb, eqb, length, Result}
use Rattle.rules.specs.declared.Refusal.{Refusal}
use Rattle.rules.specs.meaning.Lengths.{M}
use Rattle.rules.specs.meaning.Put.{put}
use Rattle.rules.specs.meaning.Refusals.{◌when◌, first_given, number_in, value_in}
use Rattle.rules.specs.meaning.Text.{Front, front, refused}
use Rattle.rules.specs.meaning.Leb.{leb128, read_leb}

-- "groups of 0 to 64 entries"
abbrev pub most_entries : ℕ
most_entries = 64

-- ---- which words form a group
-- entries with ids from `lo` up, "strictly rising" and of 64 bits, and lengths 1 to M
unfoldable pub rising_from : ℕ → List ℕ → Bool
rising_from lo [] = true
rising_from lo (w ∷ []) = false
rising_from lo (e ∷ n ∷ es) = leb lo e && (ltb e (2 ^ 64) && (leb 1 n && (leb n M && rising_from (suc e) es)))

unfoldable pub is_group : List ℕ → Bool
is_group es = leb (length es) (2 * most_entries) && rising_from 0 es

-- ---- its bytes
-- two numbers for each entry: how far its id lies above the least that it could be, and its length less 1. The least is 0 for the first entry, and one more
-- than the id before for the others, so that theirs is "the gap from the previous id less 1"
unfoldable pub fields_from : ℕ → List ℕ → List ℕ
fields_from lo [] = []
fields_from lo (w ∷ []) = []
fields_from lo (e ∷ n ∷ es) = leb128 (e - lo) ++ (leb128 (n - 1) ++ fields_from (suc e) es)

unfoldable pub group_bytes : List ℕ → List ℕ
group_bytes es = leb128 (length es / 2) ++ fields_from 0 es

-- ---- the group of some bytes
pub data Group : Type 0 where
  group : List ℕ → Group
  no_group : Group

-- go on with the number that was read, or there is no group
abbrev pub onward : Front → (ℕ → List ℕ → Group) → Group
onward (front v rest) f = f v rest
onward refused f = no_group

abbrev pub group_if : Bool → Group → Group
group_if true g = g
group_if false g = no_group

-- with an entry in front
abbrev pub with_entry : ℕ → ℕ → Group → Group
with_entry e n (group es) = group (e ∷ n ∷ es)
with_entry e n no_group = no_group

-- so many entries with ids from `lo` up, and no byte behind them
unfoldable pub entries_from : ℕ → ℕ → List ℕ → Group
entries_from zero lo [] = group []
entries_from zero lo (b ∷ bs) = no_group
entries_from (suc k) lo bs =
    onward (read_leb bs) (λ gap r.
    onward (read_leb r) (λ less rest.
    group_if (ltb (lo + gap) (2 ^ 64) && ltb less M) (with_entry (lo + gap) (suc less) (entries_from k (suc (lo + gap)) rest))))

unfoldable pub group_of : List ℕ → Group
group_of bs = onward (read_leb bs) (λ count rest. group_if (leb count most_entries) (entries_from count 0 rest))

-- its entries; none where the bytes form no group
abbrev pub entries_of_group : Group → List ℕ
entries_of_group (group es) = es
entries_of_group no_group = []

abbrev pub is_none : Group → Bool
is_none (group es) = false
is_none no_group = true

unfoldable pub entries_in : List ℕ → List ℕ
entries_in bs = entries_of_group (group_of bs)

-- the bytes form no group
unfoldable pub forms_none : List ℕ → Bool
forms_none bs = is_none (group_of bs)

-- ---- the refusals: "17 .. for bytes or entries that form no group"; "13 .. as in document 01"
unfoldable pub write_refusal : List ℕ → ℕ → ℕ
write_refusal es room = first_given ((17 when not (is_group es)) ∷ (13 when ltb room (length (group_bytes es))) ∷ [])

unfoldable pub read_refusal : List ℕ → ℕ → ℕ
read_refusal bs room = first_given ((17 when forms_none bs) ∷ (13 when ltb room (length (entries_in bs))) ∷ [])

-- what is written: nothing where it is refused
unfoldable pub bytes_written : List ℕ → ℕ → List ℕ
bytes_written es room = cond (eqb (write_refusal es room) 0) (group_bytes es) []

unfoldable pub entries_read : List ℕ → ℕ → List ℕ
entries_read bs room = cond (eqb (read_refusal bs room) 0) (entries_in bs) []

-- what the writer and the reader answer: 0 or the number of the refusal, and how many bytes or entries were written, 0 on a refusal
pub record Grouped : Type 0 where
  pub refusal : ℕ
  pub count : ℕ

abbrev pub as_grouped : Result ℕ Refusal → Grouped
as_grouped r = record { refusal = number_in r; count = value_in 0 r }

-- the contract of the writer: the refusal, how many bytes it wrote, and every byte of the buffer
pub record Written (es before : List ℕ) (r : Grouped) (after : List ℕ) : Type 0 where
  pub refusal : r.refusal ≡ write_refusal es (length before)
  pub count : r.count ≡ length (bytes_written es (length before))
  pub bytes : after ≡ put before 0 (bytes_written es (length before))

-- the contract of the reader: the refusal, how many entries it wrote, and every word that it was lent
pub record Entered (bs before : List ℕ) (r : Grouped) (after : List ℕ) : Type 0 where
  pub refusal : r.refusal ≡ read_refusal bs (length before)
  pub count : r.count ≡ length (entries_read bs (length before)) / 2
  pub words : after ≡ put before 0 (entries_read bs (length before))
