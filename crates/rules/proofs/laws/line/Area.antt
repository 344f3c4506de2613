-- The laws of the four numbers in an area of bytes: each can be read back, and the bytes behind them are kept.
-- Assumes nothing.
use Rattle.std.specs.Prelude.{ℕ, zero, suc, ◌+◌, ◌*◌, ◌/◌, ◌^◌, ◌<◌, ◌≡◌, refl, List, [], ◌∷◌, length}
use Rattle.std.proofs.Common.{arith, ap}
use Rattle.rules.specs.meaning.Area.{little, area_after, read_refusal}

pub little_length : (k n : ℕ) → length (little k n) ≡ k
unfolding little
little_length zero n = refl
little_length (suc k) n = ap suc (little_length k (n / 256))

-- the number that bytes are, the lowest first
unfoldable pub number_in : List ℕ → ℕ
number_in [] = 0
number_in (b ∷ bs) = b + 256 * number_in bs

-- "little-endian": a number that fits so many bytes is the number that its bytes are
pub little_read : (k n : ℕ) → n < 256 ^ k → number_in (little k n) ≡ n
unfolding little number_in
little_read zero n h = omega (arith, h)
little_read (suc k) n h = let e = little_read k (n / 256) (omega (arith, h)) in omega (arith, e)

-- "on either the area is untouched"
pub area_refused : (line area : List ℕ) (r : ℕ) → read_refusal line area ≡ suc r → area_after line area ≡ area
unfolding area_after
area_refused line area r h = rw h
