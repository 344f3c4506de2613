-- What the loops of this crate compute, turn by turn: only contracts of its own helpers cite these.
-- Assumes nothing.
use Rattle.std.specs.Prelude.{ℕ, zero, suc, ◌+◌, ◌*◌, ◌≤◌, ◌<◌, Bool, true, ◌&&◌, not, ◌≡◌, List, [], ◌∷◌, length, get_or, drop, set, leb, ltb, eqb}
use Rattle.rules.specs.meaning.Table.{id_at, length_at, length_of, raised}

-- the first k entries: each length 1 to `most`, each id above the one before
unfoldable pub entries_good : ℕ → List ℕ → ℕ → Bool
entries_good most t zero = true
entries_good most t (suc zero) = not (eqb (length_at t 0) 0) && leb (length_at t 0) most
entries_good most t (suc (suc i)) =
    entries_good most t (suc i) && ltb (id_at t i) (id_at t (suc i)) && not (eqb (length_at t (suc i)) 0) && leb (length_at t (suc i)) most

-- every word of a list is 0
unfoldable pub zeros : List ℕ → Bool
zeros [] = true
zeros (w ∷ t) = eqb w 0 && zeros t

-- every word from place n on is 0
abbrev pub all_zero : List ℕ → ℕ → Bool
all_zero t n = zeros (drop n t)

-- the list with the entry (e, n) at place i
abbrev pub entry : List ℕ → ℕ → ℕ → ℕ → List ℕ
entry u i e n = set (set u (2 * i) e) (2 * i + 1) n

-- what halving keeps: of the k entries in use, those before place `base` have ids below x, and those from `base + size` on ids above it
pub record Span (t : List ℕ) (k x base size : ℕ) : Type 0 where
  pub some : 1 ≤ size
  pub room : 2 * (base + size) ≤ length t
  pub start : base ≤ k
  pub below : (j : ℕ) → j < base → id_at t j < x
  pub above : (j : ℕ) → base + size ≤ j → j < k → x < id_at t j

-- of the first `count` words of w, those from word i on stand two words further on in u
pub record Moved (w : List ℕ) (count i : ℕ) (u : List ℕ) : Type 0 where
  pub size : length u ≡ length w
  pub front : (j : ℕ) → j < i → get_or u j 0 ≡ get_or w j 0
  pub moved : (j : ℕ) → i ≤ j → j < count → get_or u (j + 2) 0 ≡ get_or w j 0
  pub back : (j : ℕ) → count + 2 ≤ j → get_or u j 0 ≡ get_or w j 0

-- word w of a table has the length of the id e, and a length put there raises the id to it
pub record LengthWord (t : List ℕ) (e w : ℕ) : Type 0 where
  pub within : w < length t
  pub its : get_or t w 0 ≡ length_of t e
  pub above_zero : 1 ≤ length_of t e
  pub raising : (n : ℕ) → 1 ≤ n → set t w n ≡ raised t e n
