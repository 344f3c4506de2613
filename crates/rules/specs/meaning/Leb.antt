-- Unsigned LEB128, as in the DWARF standard, "but only in the shortest form": seven bits to a byte, the lowest first, and 128 more in each byte but the last.
-- Assumes nothing.
use Rattle.std.specs.Prelude.{cond, List, [], ◌∷◌, ℕ, zero, suc, ◌+◌, ◌-◌, ◌*◌, ◌/◌, ◌%◌, ◌^◌, ltb, eqb}
use Rattle.rules.specs.meaning.Text.{Front, front, refused, pick, next}

-- the bytes of n, at most k of them
unfoldable pub leb_up_to : ℕ → ℕ → List ℕ
leb_up_to zero n = []
leb_up_to (suc k) n = cond (ltb n 128) (n ∷ []) ((128 + n % 128) ∷ leb_up_to k (n / 128))

-- the bytes of a number below 2 ^ 64
unfoldable pub leb128 : ℕ → List ℕ
leb128 n = leb_up_to 10 n

-- what a byte of 128 or more and the number behind it come to. A 0 behind it would add a byte and nothing else: that is padding
unfoldable pub carried : ℕ → ℕ → List ℕ → Front
carried low v rest = pick (eqb v 0) refused (front (low + 128 * v) rest)

-- the number at the front of some bytes, however large, and the rest
unfoldable pub leb_value : List ℕ → Front
leb_value [] = refused
leb_value (b ∷ bs) = pick (ltb b 128) (front b bs) (pick (ltb b 256) (next (leb_value bs) (carried (b - 128))) refused)

-- it has 64 bits
unfoldable pub of64 : ℕ → List ℕ → Front
of64 v rest = pick (ltb v (2 ^ 64)) (front v rest) refused

-- the number below 2 ^ 64 at the front of some bytes, and the rest
unfoldable pub read_leb : List ℕ → Front
read_leb bs = next (leb_value bs) of64
