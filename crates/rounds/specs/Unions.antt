-- Entries of two tables side by side, each id once with the larger of its lengths: what the walk that gathers computes. Words of entries in use alone, id then
-- length, with no unused place among them. Only contracts of this crate's own helpers cite it.
-- Assumes nothing.
use Rattle.std.specs.Prelude.{ℕ, ◌*◌, ◌-◌, ◌/◌, ◌≤◌, ◌<◌, cond, ◌≡◌, List, [], ◌∷◌, ◌++◌, length, take, drop, replicate, ltb, Option, MatchOption}
use Rattle.rules.specs.meaning.Lengths.{join}
use Rattle.rules.specs.meaning.Table.{held}

-- an entry and those behind it with some others: `rest` says what those behind it come to
unfoldable pub beside : ℕ → ℕ → List ℕ → (List ℕ → List ℕ) → List ℕ → List ℕ
beside e n t rest [] = e ∷ n ∷ t
beside e n t rest (w ∷ []) = e ∷ n ∷ t
beside e n t rest (x ∷ m ∷ s) = cond (ltb e x) (e ∷ n ∷ rest (x ∷ m ∷ s)) (cond (ltb x e) (x ∷ m ∷ beside e n t rest s) (e ∷ join n m ∷ rest s))

-- the entry with the smaller id comes first, and of a common id the larger length
unfoldable pub united : List ℕ → List ℕ → List ℕ
united [] s = s
united (w ∷ []) s = s
united (e ∷ n ∷ t) s = beside e n t (united t) s

-- the entries in use of a table
abbrev pub in_use : List ℕ → List ℕ
in_use t = take (2 * held t) t

-- so many entries in front of a room
abbrev pub front : ℕ → List ℕ → List ℕ
front n room = take (2 * n) room

-- n entries with unused places behind them, c in all
abbrev pub padded : ℕ → ℕ → List ℕ → List ℕ
padded c n t = t ++ replicate (2 * (c - n)) 0

-- the entries of both stand in front of a room, so many of them; or there are more than its places of w words
abbrev pub Joins : ℕ → Option ℕ → List ℕ → List ℕ → List ℕ → Type 0
Joins w r one other room = MatchOption r (w < length (united one other)) (λ n. (2 * n ≤ w) × (2 * n ≡ length (united one other)) × (front n room ≡ united one other))

-- so many words are whole entries
abbrev pub Whole : ℕ → Type 0
Whole n = n ≡ 2 * (n / 2)

-- the walk, with i entries of a and j of b passed and k laid: what is laid and what those that are left come to is the whole
pub record Laid (a b out : List ℕ) (i j k : ℕ) : Type 0 where
  pub passed_one : 2 * i ≤ length a
  pub passed_other : 2 * j ≤ length b
  pub placed : 2 * k ≤ length out
  pub comes : take (2 * k) out ++ united (drop (2 * i) a) (drop (2 * j) b) ≡ united a b

-- it ends where either has no entry left, or there is no place
abbrev pub Ended : ℕ → ℕ → ℕ → ℕ → ℕ → ℕ → Type 0
Ended ones others places i j k = i < ones → j < others → places ≤ k
