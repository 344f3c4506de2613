-- Counting entry by entry: what is counted so far and what is left to count are the whole.
-- Assumes nothing.
use Prim.Native.Nat.{ℕ, suc, ◌+◌, ◌*◌, ◌≤◌}
use native.Mathlib.Omega.{arith}
use mathlib.Core.Bool.{true, false}
use mathlib.Core.Path.{◌≡◌, refl}
use mathlib.Core.List.{List, [], ◌∷◌}
use lib.ListN.{length, drop, length-drop}
use Rattle.rules.specs.meaning.Lengths.{listed}
use Rattle.rules.specs.meaning.Table.{length_at, shown}
use Rattle.table.proofs.Pairs.{from_place}

-- the entries that are listed
module _ (t : List ℕ) (j : ℕ) (h : 2 * j + 2 ≤ length t) where
  pub shown_more : listed (length_at t j) ≡ true → shown (drop (2 * j) t) ≡ suc (shown (drop (2 * (j + 1)) t))
  unfolding shown
  shown_more odd = rw (from_place t j h, odd)

  pub shown_same : listed (length_at t j) ≡ false → shown (drop (2 * j) t) ≡ shown (drop (2 * (j + 1)) t)
  unfolding shown
  shown_same even = rw (from_place t j h, even)

few : (l : List ℕ) → length l ≤ 1 → shown l ≡ 0
unfolding shown
few [] h = refl
few (w ∷ []) h = refl
few (e ∷ n ∷ l) h = absurd (omega arith)

-- at most one word is left: no entry
pub shown_end : (t : List ℕ) (j : ℕ) → length t ≤ 2 * j + 1 → shown (drop (2 * j) t) ≡ 0
shown_end t j h = few (drop (2 * j) t) (simp length-drop (omega arith))
