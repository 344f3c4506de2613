-- The walk over the entries of two tables, turn by turn: what is laid and what those that are left come to is the whole; and what it has come to where it ends.
-- Assumes nothing.
use Prim.Native.Nat.{ℕ, zero, suc, ◌+◌, ◌*◌, ◌-◌, ◌/◌, ◌≤◌, ◌<◌}
use native.Mathlib.Numerals.{add-one}
use native.Mathlib.Omega.{arith}
use mathlib.Core.Bool.{Bool, true, false, cond}
use mathlib.Core.Logic.{◌⊎◌, inl, inr}
use mathlib.Core.Path.{◌≡◌, refl, sym, ap, ◌∙◌}
use mathlib.Core.List.{List, [], ◌∷◌, ◌++◌, append_assoc, append-nil}
use lib.ListN.{length, get_or, take, drop, set, length-set, length-append, length-drop}
use lib.Seq.{drop-cons, take_all, take-suc-set, length-take-le}
use lib.Dec.{ltb}
use Rattle.rules.specs.meaning.Lengths.{join}
use Rattle.rounds.specs.Unions.{beside, united, Whole, Laid, Ended}
use Rattle.rounds.proofs.Uniting.{united_first, united_second, united_both}

-- the entry that is next, and those behind it
two_words : (a : List ℕ) (i : ℕ) → 2 * i + 2 ≤ length a → drop (2 * i) a ≡ get_or a (2 * i) 0 ∷ get_or a (2 * i + 1) 0 ∷ drop (2 * (i + 1)) a
two_words a i h =
    let on : 2 * (i + 1) ≡ suc (suc (2 * i)) = omega arith in
    drop-cons a (2 * i) 0 (omega arith) ∙ ap (λ (l : List ℕ). get_or a (2 * i) 0 ∷ l) (rw (on, add-one (2 * i)) (drop-cons a (suc (2 * i)) 0 (omega arith)))

-- an entry laid behind the others
laid_more : (out : List ℕ) (k e n : ℕ) → 2 * k + 2 ≤ length out → take (2 * (k + 1)) (set (set out (2 * k) e) (2 * k + 1) n) ≡ take (2 * k) out ++ (e ∷ n ∷ [])
laid_more out k e n h =
    let on : 2 * (k + 1) ≡ suc (2 * k + 1) = omega arith in
    rw on (take-suc-set (set out (2 * k) e) (2 * k + 1) n (simp length-set (omega arith))
    ∙ (rw (add-one (2 * k), take-suc-set out (2 * k) e (omega arith)) (append_assoc (take (2 * k) out) (e ∷ []) (n ∷ []))))

module _ (a b out : List ℕ) (i j k : ℕ) (so_far : Laid a b out i j k) (place : 2 * k + 2 ≤ length out) where
  -- one entry laid, and what is then left
  one_on : (e n i' j' : ℕ) → 2 * i' ≤ length a → 2 * j' ≤ length b → united (drop (2 * i) a) (drop (2 * j) b) ≡ e ∷ n ∷ united (drop (2 * i') a) (drop (2 * j') b)
      → Laid a b (set (set out (2 * k) e) (2 * k + 1) n) i' j' (k + 1)
  one_on e n i' j' p q next = record {
    passed_one = p;
    passed_other = q;
    placed = simp length-set (omega arith);
    comes = rw (laid_more out k e n place) (append_assoc (take (2 * k) out) (e ∷ n ∷ []) (united (drop (2 * i') a) (drop (2 * j') b)) ∙ (rw (← next) so_far.comes));
  }

  module _ (more-a : 2 * i + 2 ≤ length a) (more-b : 2 * j + 2 ≤ length b) where
    abbrev mine : ℕ
    mine = get_or a (2 * i) 0

    abbrev kept : ℕ
    kept = get_or a (2 * i + 1) 0

    abbrev id : ℕ
    id = get_or b (2 * j) 0

    abbrev long : ℕ
    long = get_or b (2 * j + 1) 0

    both_next : united (drop (2 * i) a) (drop (2 * j) b) ≡ united (mine ∷ kept ∷ drop (2 * (i + 1)) a) (id ∷ long ∷ drop (2 * (j + 1)) b)
    both_next = rw (two_words a i more-a, two_words b j more-b)

    -- the one comes first
    pub lay_one : mine < id → Laid a b (set (set out (2 * k) mine) (2 * k + 1) kept) (i + 1) j (k + 1)
    lay_one h = one_on mine kept (i + 1) j (omega arith) (omega arith)
        (both_next ∙ united_first mine kept id long (drop (2 * (i + 1)) a) (drop (2 * (j + 1)) b) h ∙ (rw (two_words b j more-b)))

    -- the other does
    pub lay_other : id < mine → Laid a b (set (set out (2 * k) id) (2 * k + 1) long) i (j + 1) (k + 1)
    lay_other h = one_on id long i (j + 1) (omega arith) (omega arith)
        (both_next ∙ united_second mine kept id long (drop (2 * (i + 1)) a) (drop (2 * (j + 1)) b) h ∙ (rw (two_words a i more-a)))

    -- both have the id
    pub lay_both : mine ≡ id → Laid a b (set (set out (2 * k) id) (2 * k + 1) (join kept long)) (i + 1) (j + 1) (k + 1)
    lay_both e = one_on id (join kept long) (i + 1) (j + 1) (omega arith) (omega arith)
        (both_next ∙ united_both mine kept id long (drop (2 * (i + 1)) a) (drop (2 * (j + 1)) b) e ∙ (rw e))

-- ---- what is left at the end: entries of one table alone, unless there is no place
-- the rest of a list is all of it from there on
pub to_end : (l : List ℕ) (at : ℕ) → take (length l - at) (drop at l) ≡ drop at l
to_end l at = take_all (length l - at) (drop at l) (simp length-drop (omega arith))

none_first : (b : List ℕ) → united [] b ≡ b
unfolding united
none_first b = refl

united_nil : (a : List ℕ) → Whole (length a) → united a [] ≡ a
unfolding united beside
united_nil [] w = refl
united_nil (x ∷ []) w = absurd (omega arith)
united_nil (e ∷ n ∷ t) w = refl

united_some : (a b : List ℕ) → Whole (length a) → Whole (length b) → 1 ≤ length a → 1 ≤ length b → 1 ≤ length (united a b)
unfolding united beside
united_some [] b w v p q = absurd (omega arith)
united_some (x ∷ []) b w v p q = absurd (omega arith)
united_some (e ∷ n ∷ t) [] w v p q = absurd (omega arith)
united_some (e ∷ n ∷ t) (y ∷ []) w v p q = absurd (omega arith)
united_some (e ∷ n ∷ t) (x ∷ m ∷ s) w v p q = go (ltb e x) (ltb x e)
  where
    go : (b c : Bool) → 1 ≤ length (cond b (e ∷ n ∷ united t (x ∷ m ∷ s)) (cond c (x ∷ m ∷ beside e n t (united t) s) (e ∷ join n m ∷ united t s)))
    go true c = omega arith
    go false true = omega arith
    go false false = omega arith

module _ (a b out : List ℕ) (i j k : ℕ) (so_far : Laid a b out i j k) (whole-a : Whole (length a)) (whole-b : Whole (length b)) (whole_out : Whole (length out))
    (end : Ended (length a / 2) (length b / 2) (length out / 2) i j k) where
  left_a : length (drop (2 * i) a) ≡ 2 * (length a / 2 - i)
  left_a = simp length-drop (omega (arith, so_far.passed_one))

  left_b : length (drop (2 * j) b) ≡ 2 * (length b / 2 - j)
  left_b = simp length-drop (omega (arith, so_far.passed_other))

  -- so long is the whole
  whole_long : length (united a b) ≡ 2 * k + length (united (drop (2 * i) a) (drop (2 * j) b))
  whole_long = omega (arith, simp length-append at (ap length (sym so_far.comes)), length-take-le (2 * k) out so_far.placed)

  nothing : (l : List ℕ) → length l ≡ 0 → l ≡ []
  nothing [] h = refl
  nothing (x ∷ l) h = absurd (omega arith)

  -- of either nothing is left, or of both something
  one_is_left : (length (drop (2 * i) a) ≡ 0) ⊎ (length (drop (2 * j) b) ≡ 0) → united (drop (2 * i) a) (drop (2 * j) b) ≡ drop (2 * i) a ++ drop (2 * j) b
  one_is_left (inl p) = rw (nothing (drop (2 * i) a) p) (none_first (drop (2 * j) b))
  one_is_left (inr q) = rw (nothing (drop (2 * j) b) q) (united_nil (drop (2 * i) a) (omega (arith, left_a)) ∙ sym (append-nil (drop (2 * i) a)))

  which : (m n : ℕ) → length (drop (2 * i) a) ≡ m → length (drop (2 * j) b) ≡ n → (1 ≤ m → 1 ≤ n → ⊥) → (length (drop (2 * i) a) ≡ 0) ⊎ (length (drop (2 * j) b) ≡ 0)
  which zero n p q never = inl p
  which (suc m) zero p q never = inr q
  which (suc m) (suc n) p q never = absurd (never (omega arith) (omega arith))

  joined : length a / 2 - i + (length b / 2 - j) ≤ length out / 2 - k → united (drop (2 * i) a) (drop (2 * j) b) ≡ drop (2 * i) a ++ drop (2 * j) b
  joined fits = one_is_left (which (length (drop (2 * i) a)) (length (drop (2 * j) b)) refl refl
      (λ p q. omega (arith, left_a, left_b, end (omega (arith, left_a)) (omega (arith, left_b)), so_far.placed)))

  -- all laid, with the two rests behind
  pub laid_end : length a / 2 - i + (length b / 2 - j) ≤ length out / 2 - k → (ra rb out' last : List ℕ) → ra ≡ drop (2 * i) a → rb ≡ drop (2 * j) b
      → take (2 * k + length ra) out' ≡ take (2 * k) out ++ ra
      → take (2 * k + 2 * (length a / 2 - i) + length rb) last ≡ take (2 * k + 2 * (length a / 2 - i)) out' ++ rb
      → (2 * (k + (length a / 2 - i) + (length b / 2 - j)) ≡ length (united a b)) × (take (2 * (k + (length a / 2 - i) + (length b / 2 - j))) last ≡ united a b)
  laid_end fits ra rb out' last is-a is_b one other =
      let all : 2 * (k + (length a / 2 - i) + (length b / 2 - j)) ≡ 2 * k + 2 * (length a / 2 - i) + length rb = omega (arith, left_b, ap length is_b) in
      let some : 2 * k + 2 * (length a / 2 - i) ≡ 2 * k + length ra = omega (arith, left_a, ap length is-a) in
      let both = joined fits in (
        omega (arith, whole_long, simp length-append at (ap length both), left_a, left_b),
        rw (all, other, some, one, is-a, is_b, append_assoc (take (2 * k) out) (drop (2 * i) a) (drop (2 * j) b), ← both) so_far.comes,
      )

  -- no place for all
  pub laid_full : length out / 2 - k < length a / 2 - i + (length b / 2 - j) → length out < length (united a b)
  laid_full many = go (length (drop (2 * i) a)) refl (length (drop (2 * j) b)) refl
    where
      by_one : (length (drop (2 * i) a) ≡ 0) ⊎ (length (drop (2 * j) b) ≡ 0) → length out < length (united a b)
      by_one none = omega (arith, whole_long, simp length-append at (ap length (one_is_left none)), left_a, left_b, so_far.placed)

      go : (m : ℕ) → length (drop (2 * i) a) ≡ m → (n : ℕ) → length (drop (2 * j) b) ≡ n → length out < length (united a b)
      go zero p n q = by_one (inl p)
      go (suc m) p zero q = by_one (inr q)
      go (suc m) p (suc n) q = omega (
        arith,
        whole_long,
        end (omega (arith, left_a)) (omega (arith, left_b)),
        united_some (drop (2 * i) a) (drop (2 * j) b) (omega (arith, left_a)) (omega (arith, left_b)) (omega arith) (omega arith),
      )
