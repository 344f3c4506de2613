-- Words seen two by two.
use mathlib.Core.Path.{◌≡◌, refl, ap}
use mathlib.Core.List.{List, [], ◌∷◌}
use Prim.Native.Nat.{ℕ, zero, suc, ◌+◌, ◌*◌, ◌/◌, ◌≤◌, ◌<◌}
use native.Mathlib.Omega.{arith}
use lib.ListN.{length, get_or, drop}
use Rattle.std.specs.Simd.{first_chunks}

-- the two words of an entry
abbrev pub id_at : List (List ℕ) → ℕ → ℕ
id_at pairs k = get_or (get_or pairs k []) 0 0

abbrev pub length_at : List (List ℕ) → ℕ → ℕ
length_at pairs k = get_or (get_or pairs k []) 1 0

many : (es : List ℕ) (m : ℕ) → length (first_chunks 2 m es) ≡ m
many es zero = refl
many es (suc m) = ap suc (many (drop 2 es) m)

pub pairs_many : (es : List ℕ) (pairs : List (List ℕ)) → pairs ≡ first_chunks 2 (length es / 2) es → length pairs ≡ length es / 2
pairs_many es pairs e = rw e (many es (length es / 2))

-- they stand one behind the other
pub pair_at : (es : List ℕ) (m k : ℕ) → k < m → 2 * m ≤ length es → drop (2 * k) es ≡ id_at (first_chunks 2 m es) k ∷ length_at (first_chunks 2 m es) k ∷ drop (2 * k + 2) es
pair_at es zero k h r = absurd (omega arith)
pair_at [] (suc m) k h r = absurd (omega arith)
pair_at (x ∷ []) (suc m) k h r = absurd (omega arith)
pair_at (x ∷ y ∷ es) (suc m) zero h r = refl
pair_at (x ∷ y ∷ es) (suc m) (suc k) h r =
    let a : 2 * suc k ≡ suc (suc (2 * k)) = omega arith in
    let b : suc (suc (2 * k)) + 2 ≡ suc (suc (2 * k + 2)) = omega arith in
    rw (a, b) (pair_at es m k (omega arith) (omega arith))
