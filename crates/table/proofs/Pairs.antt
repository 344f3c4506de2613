-- An entry written, two words at place i; and two lists that agree at places.
-- Assumes nothing.
use Prim.Native.Nat.{ℕ, zero, suc, ◌+◌, ◌*◌, ◌≤◌, ◌<◌}
use native.Mathlib.Nat.{eq-or-lt_of_le}
use native.Mathlib.Omega.{arith}
use mathlib.Core.Path.{◌≡◌, refl, ap, ◌∙◌}
use mathlib.Core.Logic.{◌⊎◌, ⊎_elim, inl, inr}
use mathlib.Core.List.{List, ◌∷◌}
use lib.ListN.{length, get_or, set, drop, length-set}
use lib.Seq.{get_or-set_same, get_or-set_other, drop-cons}
use Rattle.rules.specs.meaning.Table.{id_at, length_at}
use Rattle.table.specs.Loops.{entry}

module _ (u : List ℕ) (i x n : ℕ) where
  pub entry_length : length (entry u i x n) ≡ length u
  entry_length = simp length-set

  pub entry_other : (j : ℕ) → (j ≡ 2 * i → ⊥) → (j ≡ 2 * i + 1 → ⊥) → get_or (entry u i x n) j 0 ≡ get_or u j 0
  entry_other j p q = get_or-set_other (set u (2 * i) x) (2 * i + 1) j n 0 q ∙ get_or-set_other u (2 * i) j x 0 p

  pub entry_id : 2 * i + 2 ≤ length u → get_or (entry u i x n) (2 * i) 0 ≡ x
  entry_id h = get_or-set_other (set u (2 * i) x) (2 * i + 1) (2 * i) n 0 (omega arith) ∙ get_or-set_same u (2 * i) x 0 (omega arith)

  pub entry_length_at : 2 * i + 2 ≤ length u → get_or (entry u i x n) (2 * i + 1) 0 ≡ n
  entry_length_at h = get_or-set_same (set u (2 * i) x) (2 * i + 1) n 0 (simp length-set (omega arith))

-- an index is the first or the second of a place
pub place_of : (j : ℕ) → (q : ℕ) × ((j ≡ 2 * q) ⊎ (j ≡ 2 * q + 1))
place_of zero = (0, inl refl)
place_of (suc zero) = (0, inr refl)
place_of (suc (suc j)) = let r = place_of j in (suc r.0, ⊎_elim (λ e. inl (omega arith)) (λ e. inr (omega arith)) r.1)

pub agree_below : (u v : List ℕ) (i : ℕ) → ((q : ℕ) → q < i → (id_at u q ≡ id_at v q) × (length_at u q ≡ length_at v q)) → (j : ℕ) → j < 2 * i → get_or u j 0 ≡ get_or v j 0
agree_below u v i h j p =
    let r = place_of j in
    ⊎_elim (λ e. rw e (h r.0 (omega arith)).0) (λ e. rw e (h r.0 (omega arith)).1) r.1

-- at or after place i: the entry there, and the words after it
pub agree_from : (u v : List ℕ) (i : ℕ) → get_or u (2 * i) 0 ≡ get_or v (2 * i) 0 → get_or u (2 * i + 1) 0 ≡ get_or v (2 * i + 1) 0
    → ((j : ℕ) → 2 * i + 2 ≤ j → get_or u j 0 ≡ get_or v j 0) → (j : ℕ) → 2 * i ≤ j → get_or u j 0 ≡ get_or v j 0
agree_from u v i a b h j p =
    ⊎_elim (λ e. rw (← e) a) (λ l. ⊎_elim (λ e. rw (← e) b) (λ l. h j (omega arith)) (eq-or-lt_of_le (one l))) (eq-or-lt_of_le p)
  where
    one : 2 * i < j → 2 * i + 1 ≤ j
    one l = omega arith

-- the words from place j on: its entry, and the words after it
pub from_place : (l : List ℕ) (j : ℕ) → 2 * j + 2 ≤ length l → drop (2 * j) l ≡ id_at l j ∷ length_at l j ∷ drop (2 * (j + 1)) l
from_place l j h =
    let a : 2 * j + 1 ≡ suc (2 * j) = omega arith in
    let b : 2 * (j + 1) ≡ suc (suc (2 * j)) = omega arith in
    rw (a, b) (drop-cons l (2 * j) 0 (omega arith) ∙ ap (λ (m : List ℕ). id_at l j ∷ m) (drop-cons l (suc (2 * j)) 0 (omega arith)))
