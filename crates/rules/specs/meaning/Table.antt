-- One site's table: a list of words, two to an entry, id then length. "Entries in use come first, ids strictly rising, lengths 1 to M; every
-- word after them is 0. Id 0 is an ordinary id; only length 0 marks an unused place."
-- Each definition goes over the words by pairs, and each computes.
-- Assumes nothing.
use Rattle.std.specs.Prelude.{ℕ, zero, suc, ◌*◌, ◌+◌, ◌/◌, Bool, true, false, ◌&&◌, cond, ◌≡◌, List, [], ◌∷◌, length, get_or, leb, ltb, eqb, Option, Some, None}
use Rattle.rules.specs.meaning.Lengths.{M, listed, join}

-- ---- what is laid out

-- every place is unused: pairs of words, all 0
unfoldable pub unused : List ℕ → Bool
unused [] = true
unused (w ∷ []) = false
unused (zero ∷ zero ∷ t) = unused t
unused (zero ∷ suc n ∷ t) = false
unused (suc e ∷ w ∷ t) = false

-- entries with ids from `lo` up, each above the one before, and lengths up to `most`; then unused places
unfoldable pub sound_from : ℕ → ℕ → List ℕ → Bool
sound_from most lo [] = true
sound_from most lo (w ∷ []) = false
sound_from most lo (e ∷ zero ∷ t) = unused (e ∷ zero ∷ t)
sound_from most lo (e ∷ suc n ∷ t) = leb lo e && (leb (suc n) most && sound_from most (suc e) t)

-- a table as 01 lays it out, with lengths up to `most`
abbrev pub sound : ℕ → List ℕ → Bool
sound most t = sound_from most 0 t

-- what a function of the layer below asks of a table that the layer above has judged
abbrev pub SoundTable : List ℕ → Type 0
SoundTable t = sound M t ≡ true

-- how many entries the table has room for: C
abbrev pub capacity : List ℕ → ℕ
capacity t = length t / 2

-- the id and the length that stand at a place
abbrev pub id_at : List ℕ → ℕ → ℕ
id_at t i = get_or t (2 * i) 0

abbrev pub length_at : List ℕ → ℕ → ℕ
length_at t i = get_or t (2 * i + 1) 0

-- ---- what a table says

-- the paper's s(e): the length that the table has for an id, and 0 where it has no entry
unfoldable pub length_of : List ℕ → ℕ → ℕ
length_of [] x = 0
length_of (w ∷ []) x = 0
length_of (e ∷ n ∷ t) x = cond (eqb e x) n (length_of t x)

-- how many entries are in use
unfoldable pub held : List ℕ → ℕ
held [] = 0
held (w ∷ []) = 0
held (e ∷ zero ∷ t) = 0
held (e ∷ suc n ∷ t) = suc (held t)

-- how many of them are listed: "an entry with an even length is not on offer", and an unused place has length 0
unfoldable pub shown : List ℕ → ℕ
shown [] = 0
shown (w ∷ []) = 0
shown (e ∷ n ∷ t) = cond (listed n) (suc (shown t)) (shown t)

-- how many numbers below a bound pass a test
unfoldable pub count_below : (ℕ → Bool) → ℕ → ℕ
count_below test zero = 0
count_below test (suc b) = cond (test b) (suc (count_below test b)) (count_below test b)

-- how many entries in use have an id below x: the place where x stands, or would
unfoldable pub rank : List ℕ → ℕ → ℕ
rank [] x = 0
rank (w ∷ []) x = 0
rank (e ∷ zero ∷ t) x = 0
rank (e ∷ suc n ∷ t) x = cond (ltb e x) (suc (rank t x)) 0

-- "the place where the id stands or its absence": an id of length 0 stands nowhere
abbrev pub found_by : ℕ → ℕ → Option ℕ
found_by zero i = None
found_by (suc n) i = Some i

abbrev pub found_of : List ℕ → ℕ → Option ℕ
found_of t x = found_by (length_of t x) (rank t x)

-- the length that each outcome of a lookup tells
abbrev pub length_found : List ℕ → Option ℕ → ℕ
length_found t (Some i) = length_at t i
length_found t None = 0

-- ---- a table with another length for one id

-- an entry put in front of the words, the entries in use moved on by one place into the first unused one
unfoldable pub push : ℕ → ℕ → List ℕ → List ℕ
push e n [] = []
push e n (w ∷ []) = w ∷ []
push e n (x ∷ zero ∷ t) = e ∷ n ∷ t
push e n (x ∷ suc m ∷ t) = e ∷ n ∷ push x (suc m) t

-- s{e ↦ n} for a length n above 0: the length replaced where the id stands, else an entry put in where the id belongs
unfoldable pub with_length : List ℕ → ℕ → ℕ → List ℕ
with_length [] e n = []
with_length (w ∷ []) e n = w ∷ []
with_length (x ∷ zero ∷ t) e n = e ∷ n ∷ t
with_length (x ∷ suc m ∷ t) e n = cond (ltb x e) (x ∷ suc m ∷ with_length t e n) (cond (eqb x e) (x ∷ n ∷ t) (e ∷ n ∷ push x (suc m) t))

-- the table after an id's length is raised to n. Raised to 0 means that it was 0: "no entry is made"
unfoldable pub raised : List ℕ → ℕ → ℕ → List ℕ
raised t e zero = t
raised t e (suc n) = with_length t e (suc n)

-- how many entries that takes: one more where an id without an entry is given a length
unfoldable pub held_with : List ℕ → ℕ → ℕ → ℕ
held_with t e zero = held t
held_with t e (suc n) = cond (eqb (length_of t e) 0) (suc (held t)) (held t)

-- ---- a table joined with the entries of another

-- "for each id the larger of the two lengths": each entry of s in turn
unfoldable pub merged : List ℕ → List ℕ → List ℕ
merged t [] = t
merged t (w ∷ []) = t
merged t (e ∷ zero ∷ s) = t
merged t (e ∷ suc n ∷ s) = merged (raised t e (join (length_of t e) (suc n))) s

-- how many entries of s have an id that t has not
unfoldable pub new_ids : List ℕ → List ℕ → ℕ
new_ids t [] = 0
new_ids t (w ∷ []) = 0
new_ids t (e ∷ zero ∷ s) = 0
new_ids t (e ∷ suc n ∷ s) = cond (eqb (length_of t e) 0) (suc (new_ids t s)) (new_ids t s)

-- how many entries of s have a length above the one that t has for the id: the lengths that rise
unfoldable pub rises : List ℕ → List ℕ → ℕ
rises t [] = 0
rises t (w ∷ []) = 0
rises t (e ∷ zero ∷ s) = 0
rises t (e ∷ suc n ∷ s) = cond (ltb (length_of t e) (suc n)) (suc (rises t s)) (rises t s)

-- how many entries the merged table has
abbrev pub held_merged : List ℕ → List ℕ → ℕ
held_merged t s = held t + new_ids t s
