-- A number, read byte by byte: one law for a byte that has more behind it, one for the last, one for each refusal. Assumes nothing.
use mathlib.Core.Path.{◌≡◌, refl, ap, ◌∙◌}
use mathlib.Core.List.{List, ◌∷◌}
use Prim.Native.Nat.{ℕ, zero, suc, ◌+◌, ◌-◌, ◌*◌, ◌%◌, ◌^◌, ◌≤◌, ◌<◌}
use native.Mathlib.Omega.{arith}
use native.Mathlib.Numerals.{add-one}
use native.Mathlib.Nat.{mul-le-mul_right, pow-le-pow_right, pow-suc}
use borrow.Author.Tests.{lt-ltb, le-ltb, ne_eqb, eq-eqb}
use lib.ListN.{length, get_or, drop, length-drop, drop_of_length-le}
use lib.Seq.{drop-cons}
use Rattle.std.specs.Prelude.{Some, None}
use Rattle.rules.specs.meaning.Text.{Front, front, refused, next}
use Rattle.rules.specs.meaning.Leb.{carried, leb_value, of64, read_leb}
use Rattle.rules.proofs.laws.line.Numbers.{below}
use Rattle.rules.specs.meaning.Places.{placed}
use Rattle.rules.proofs.laws.line.Places.{to_place}
use Rattle.leb.specs.Places.{leb_at, joined, rest_of, rest_at}

-- ---- bytes at the front
value_more : (b : ℕ) (bs : List ℕ) → 128 ≤ b → b < 256 → leb_value (b ∷ bs) ≡ next (leb_value bs) (carried (b - 128))
unfolding leb_value
value_more b bs l h = rw (le-ltb b 128 l, lt-ltb b 256 h)

last_of : (v scale b : ℕ) (bs : List ℕ) → b < 128 → rest_of v scale (b ∷ bs) ≡ joined v scale b bs
unfolding rest_of leb_value
last_of v scale b bs h = rw (lt-ltb b 128 h)

-- a byte and what is behind it are joined to what was in front in one step or in two
join_two : (v scale low : ℕ) (f : Front) → next (next f (carried low)) (joined v scale) ≡ next f (joined (v + low * scale) (scale * 128))
unfolding carried joined
join_two v scale low (front zero rest) = refl
join_two v scale low (front (suc w) rest) =
    let k : v + (low + 128 * suc w) * scale ≡ v + low * scale + suc w * (scale * 128) = omega arith in
    rw (ne_eqb (suc w) 0 (λ z. omega arith), ne_eqb (low + 128 * suc w) 0 (λ z. omega arith), k)
join_two v scale low refused = refl

more_of : (v scale b : ℕ) (bs : List ℕ) → 128 ≤ b → b < 256 → rest_of v scale (b ∷ bs) ≡ rest_of (v + (b - 128) * scale) (scale * 128) bs
unfolding rest_of
more_of v scale b bs l h = rw (value_more b bs l h) (join_two v scale (b - 128) (leb_value bs))

-- behind a scale of 2 ^ 64 nothing keeps 64 bits
join_over : (v scale : ℕ) (f : Front) → 2 ^ 64 ≤ scale → next f (joined v scale) ≡ refused
unfolding joined of64
join_over v scale (front zero rest) h = refl
join_over v scale (front (suc w) rest) h =
    let k : 2 ^ 64 ≤ v + suc w * scale = omega arith in
    rw (ne_eqb (suc w) 0 (λ z. omega arith), le-ltb (v + suc w * scale) (2 ^ 64) k)
join_over v scale refused h = refl

over_of : (v scale : ℕ) (bs : List ℕ) → 2 ^ 64 ≤ scale → rest_of v scale bs ≡ refused
unfolding rest_of
over_of v scale bs h = join_over v scale (leb_value bs) h

first_last : (b : ℕ) (bs : List ℕ) → b < 128 → read_leb (b ∷ bs) ≡ front b bs
unfolding read_leb leb_value of64
first_last b bs h = rw (lt-ltb b 128 h, lt-ltb b (2 ^ 64) (omega arith))

first_more : (b : ℕ) (bs : List ℕ) → 128 ≤ b → b < 256 → read_leb (b ∷ bs) ≡ rest_of (b - 128) 128 bs
unfolding read_leb rest_of carried joined
first_more b bs l h = rw (value_more b bs l h) (go (leb_value bs))
  where
    go : (f : Front) → next (next f (carried (b - 128))) of64 ≡ next f (joined (b - 128) 128)
    go (front zero rest) = refl
    go (front (suc w) rest) =
        let k : b - 128 + 128 * suc w ≡ b - 128 + suc w * 128 = omega arith in
        rw (ne_eqb (suc w) 0 (λ z. omega arith), k)
    go refused = refl

-- ---- scales
-- behind fewer than nine bytes the scale is below the largest one
pub scale_small : (k : ℕ) → k < 8 → 128 ^ suc k ≤ 2 ^ 56
scale_small k h = pow-le-pow_right {n = 128} (omega arith) {i = suc k} {j = 8} (omega arith)

pub scale_more : (k : ℕ) → 128 ^ suc (k + 1) ≡ 128 ^ suc k * 128
scale_more k = rw add-one (pow-suc 128 (suc k))

-- seven bits of a byte, at their scale
pub bits_small : (b scale : ℕ) → b % 128 * scale ≤ 127 * scale
bits_small b scale = let n : b % 128 ≤ 127 = omega arith in mul-le-mul_right scale n

-- ---- at places: what reading on from a place comes to, by the byte that stands there
module _ (bytes : List ℕ) (i v scale : ℕ) where
  pub rest_out : length bytes ≤ i → rest_at bytes i v scale ≡ None
  unfolding rest_at rest_of leb_value
  rest_out h = rw (drop_of_length-le bytes h)

  module _ (here : i < length bytes) where
    at_byte : rest_at bytes i v scale ≡ placed (length bytes) (rest_of v scale (get_or bytes i 0 ∷ drop (i + 1) bytes))
    unfolding rest_at
    at_byte = rw (add-one, drop-cons bytes i 0 here)

    pub rest_more : 128 ≤ get_or bytes i 0 → get_or bytes i 0 < 256 → rest_at bytes i v scale ≡ rest_at bytes (i + 1) (v + (get_or bytes i 0 - 128) * scale) (scale * 128)
    unfolding rest_at
    rest_more l h = at_byte ∙ ap (placed (length bytes)) (more_of v scale (get_or bytes i 0) (drop (i + 1) bytes) l h)

    at_last : get_or bytes i 0 < 128 → rest_at bytes i v scale ≡ placed (length bytes) (joined v scale (get_or bytes i 0) (drop (i + 1) bytes))
    at_last h = at_byte ∙ ap (placed (length bytes)) (last_of v scale (get_or bytes i 0) (drop (i + 1) bytes) h)

    pub rest_padded : get_or bytes i 0 ≡ 0 → rest_at bytes i v scale ≡ None
    unfolding joined
    rest_padded z = at_last (omega arith) ∙ rw (eq-eqb (get_or bytes i 0) 0 z)

    rest_over : (get_or bytes i 0 ≡ 0 → ⊥) → get_or bytes i 0 < 128 → 2 ^ 64 ≤ v + get_or bytes i 0 * scale → rest_at bytes i v scale ≡ None
    unfolding joined of64
    rest_over n h o = at_last h ∙ rw (ne_eqb (get_or bytes i 0) 0 n, le-ltb (v + get_or bytes i 0 * scale) (2 ^ 64) o)

    pub rest_last : (get_or bytes i 0 ≡ 0 → ⊥) → get_or bytes i 0 < 128 → v + get_or bytes i 0 * scale < 2 ^ 64 → rest_at bytes i v scale ≡ Some (v + get_or bytes i 0 * scale, i + 1)
    unfolding joined of64
    rest_last n h f =
        let k : length bytes - length (drop (i + 1) bytes) ≡ i + 1 = omega (arith, length-drop (i + 1) bytes) in
        at_last h ∙ rw (ne_eqb (get_or bytes i 0) 0 n, lt-ltb (v + get_or bytes i 0 * scale) (2 ^ 64) f, k)

-- a tenth byte that is not 1: a 0 is padding, and any other is past 64 bits
pub rest_tenth : (bytes : List ℕ) (i v : ℕ) → i < length bytes → (get_or bytes i 0 ≡ 1 → ⊥) → get_or bytes i 0 < 256 → rest_at bytes i v 9223372036854775808 ≡ None
unfolding rest_at
rest_tenth bytes i v here n h =
    let b = get_or bytes i 0 in
    below b 1 (λ z. rest_padded bytes i v (2 ^ 63) here (omega arith))
    (λ one. below b 128
    (λ l. rest_over bytes i v (2 ^ 63) here (λ z. omega arith) l (omega (arith, n)))
    (λ l. rest_more bytes i v (2 ^ 63) here l h ∙ ap (placed (length bytes)) (over_of (v + (b - 128) * 2 ^ 63) (2 ^ 63 * 128) (drop (i + 1) bytes) (omega arith))))

-- ---- the first byte
module _ (bytes : List ℕ) (at : ℕ) where
  pub leb_out : length bytes ≤ at → leb_at bytes at ≡ None
  unfolding leb_at read_leb leb_value
  leb_out h = rw (drop_of_length-le bytes h)

  module _ (here : at < length bytes) where
    at_first : read_leb (drop at bytes) ≡ read_leb (get_or bytes at 0 ∷ drop (at + 1) bytes)
    at_first = rw (add-one, drop-cons bytes at 0 here)

    pub leb_one : get_or bytes at 0 < 128 → leb_at bytes at ≡ Some (get_or bytes at 0, at + 1)
    unfolding leb_at
    leb_one h = to_place bytes (read_leb (drop at bytes)) (get_or bytes at 0) (at + 1) (at_first ∙ first_last (get_or bytes at 0) (drop (at + 1) bytes) h) (omega arith)

    pub leb_more : 128 ≤ get_or bytes at 0 → get_or bytes at 0 < 256 → leb_at bytes at ≡ rest_at bytes (at + 1) (get_or bytes at 0 - 128) 128
    unfolding leb_at rest_at
    leb_more l h = ap (placed (length bytes)) (at_first ∙ first_more (get_or bytes at 0) (drop (at + 1) bytes) l h)

-- ---- what the three functions use
pub ruleset first_bytes = (leb_out, leb_one, leb_more)

pub ruleset turns = (rest_out, rest_padded, rest_last, rest_more, scale_small, scale_more, bits_small)

pub ruleset tenth_bytes = (rest_out, rest_last, rest_tenth)
