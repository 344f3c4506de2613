-- A number, measured and written byte by byte. Assumes nothing.
use mathlib.Core.Path.{◌≡◌, refl, sym, ap, ◌∙◌}
use mathlib.Core.List.{List, []}
use Prim.Native.Nat.{ℕ, zero, suc, ◌+◌, ◌-◌, ◌*◌, ◌/◌, ◌%◌, ◌^◌, ◌≤◌, ◌<◌}
use native.Mathlib.Omega.{arith}
use native.Mathlib.Numerals.{add-one}
use native.Mathlib.Nat.{pow-suc, le_trans, lt_of_lt_of_le}
use lib.Count.{count_leading_zeros, leading_top}
use lib.Pow.{pow-add, pow_mono}
use lib.ListN.{length, set}
use Rattle.rules.specs.meaning.Leb.{leb128}
use Rattle.rules.specs.meaning.Put.{put}
use Rattle.rules.proofs.laws.Put.{put_nil, put_cons}
use Rattle.rules.proofs.laws.group.Leb.{leb_small, leb_large, leb_within, leb_beyond}

pub one_byte : (n : ℕ) → n < 128 → length (leb128 n) ≡ 1
one_byte n h = ap length (leb_small n h)

pub more_bytes : (n : ℕ) → 128 ≤ n → n < 2 ^ 64 → length (leb128 n) ≡ length (leb128 (n / 128)) + 1
more_bytes n l h = ap length (leb_large n l h) ∙ sym (add-one (length (leb128 (n / 128))))

-- ---- by the highest bit
sevens : (k : ℕ) → 128 ^ k ≡ 2 ^ (7 * k)
sevens zero = refl
sevens (suc k) =
    let m : 7 * suc k ≡ 7 * k + 7 = omega arith in
    pow-suc 128 k ∙ ap (λ (x : ℕ). x * 128) (sevens k) ∙ sym (rw m (pow-add 2 (7 * k) 7))

pub top_bytes : (n top : ℕ) → 2 ^ top ≤ n → n < 2 ^ suc top → n < 2 ^ 64 → length (leb128 n) ≡ top / 7 + 1
top_bytes n top l h s =
    let k = top / 7 in
    let low : 128 ^ k ≤ n = rw (sevens k) (le_trans (pow_mono {i = 7 * k} {j = top} (omega arith)) l) in
    let high : n < 128 ^ suc k = rw (sevens (suc k)) (lt_of_lt_of_le h (pow_mono {i = suc top} {j = 7 * suc k} (omega arith))) in
    omega (arith, leb_within n (suc k) (omega arith) high, leb_beyond n k low s)

-- the zeros in front tell the highest bit, and that the bytes
pub width_law : (n : ℕ) → 128 ≤ n → n < 2 ^ 64 → (count_leading_zeros 64 n ≤ 63) × (length (leb128 n) ≡ (70 - count_leading_zeros 64 n) / 7)
width_law n l h =
    let t = leading_top 64 n (omega arith) h in
    omega (arith, t.1, top_bytes n t.0 t.2 t.3 h)

-- ---- in a buffer
-- one byte put, and those of the rest behind it
pub put_more : (out : List ℕ) (i rest : ℕ) → 128 ≤ rest → rest < 2 ^ 64 → i < length out → put (set out i (128 + rest % 128)) (i + 1) (leb128 (rest / 128)) ≡ put out i (leb128 rest)
put_more out i rest l h here = rw (add-one, leb_large rest l h) (put_cons out i (128 + rest % 128) (leb128 (rest / 128)) here)

pub put_last : (out : List ℕ) (i rest : ℕ) → rest < 128 → i < length out → set out i rest ≡ put out i (leb128 rest)
put_last out i rest h here = rw (leb_small rest h) (sym (put_nil (set out i rest) (suc i)) ∙ put_cons out i rest [] here)

-- what a turn of the writing loop uses
pub ruleset turns = (one_byte, more_bytes, put_more, put_last)
