-- Words judged pair by pair, and when they are no group before any is looked at.
use mathlib.Core.Path.{◌≡◌, refl, sym, ap, ◌∙◌}
use mathlib.Core.Bool.{Bool, true, false, ◌&&◌, not}
use mathlib.Core.List.{List, [], ◌∷◌}
use Prim.Native.Nat.{ℕ, zero, suc, ◌+◌, ◌-◌, ◌*◌, ◌/◌, ◌%◌, ◌^◌, ◌≤◌, ◌<◌}
use native.Mathlib.Omega.{arith}
use borrow.Author.Tests.{lt-ltb, le-leb, lt-leb, ne_eqb}
use lib.Dec.{leb, ltb, eqb, leb-zero}
use lib.ListN.{length, get_or, take, drop, length-drop, drop_of_length-le}
use lib.Seq.{get_or-take, get_or-drop, length-take-le}
use Rattle.std.specs.Simd.{first_chunks}
use Rattle.groups.proofs.Pairs.{id_at, length_at, pair_at, pairs_many}
use Rattle.rules.specs.meaning.Lengths.{M}
use Rattle.rules.specs.meaning.Groups.{most_entries, rising_from, is_group}
use Rattle.rules.proofs.laws.line.Numbers.{by_test}
use Rattle.rules.proofs.laws.group.Groups.{group_full}

-- ---- tests
and_true : (b : Bool) → b && true ≡ b
and_true true = refl
and_true false = refl

some_length : (n : ℕ) → not (eqb n 0) ≡ leb 1 n
some_length zero = refl
some_length (suc n) = rw (ne_eqb (suc n) 0 (λ z. omega arith), le-leb 1 (suc n) (omega arith))

-- four tests and the rest, however they are grouped
regroup : (a b c d e : Bool) → (a && b && c && d) && e ≡ a && (b && (c && (d && e)))
regroup true true true d e = refl
regroup true true false d e = refl
regroup true false c d e = refl
regroup false b c d e = refl

-- the pairs behind the first one
abbrev pub behind : List (List ℕ) → List (List ℕ)
behind pairs = take (length pairs - 1) (drop 1 pairs)

many_behind : (pairs : List (List ℕ)) → length (behind pairs) ≡ length pairs - 1
many_behind pairs = length-take-le (length pairs - 1) (drop 1 pairs) (omega (arith, length-drop 1 pairs))

behind_at : (pairs : List (List ℕ)) (k : ℕ) → k < length (behind pairs) → get_or (behind pairs) k [] ≡ get_or pairs (k + 1) []
behind_at pairs k h =
    let w : 1 + k ≡ k + 1 = omega arith in
    get_or-take (length pairs - 1) (drop 1 pairs) k [] (omega (arith, many_behind pairs)) ∙ get_or-drop 1 pairs k [] ∙ ap (λ (i : ℕ). get_or pairs i []) w

module _ (es : List ℕ) (pairs : List (List ℕ)) (fits : (i : ℕ) → get_or es i 0 < 2 ^ 64) (paired : pairs ≡ first_chunks 2 (length es / 2) es) where
  module _ (k : ℕ) (more : k < length pairs) where
    stands : drop (2 * k) es ≡ id_at pairs k ∷ length_at pairs k ∷ drop (2 * k + 2) es
    stands = rw paired (pair_at es (length es / 2) k (omega (arith, pairs_many es pairs paired)) (omega arith))

    id_fits : id_at pairs k < 2 ^ 64
    id_fits =
        let e : get_or es (2 * k + 0) 0 ≡ id_at pairs k = sym (get_or-drop (2 * k) es 0 0) ∙ ap (λ (t : List ℕ). get_or t 0 0) stands in
        omega (arith, fits (2 * k + 0))

    rising_at : (lo : ℕ) → rising_from lo (drop (2 * k) es) ≡ leb lo (id_at pairs k) && (not (eqb (length_at pairs k) 0) && (leb (length_at pairs k) M && rising_from (suc (id_at pairs k)) (drop (2 * k + 2) es)))
    unfolding rising_from
    rising_at lo = rw (stands, lt-ltb (id_at pairs k) (2 ^ 64) id_fits, some_length (length_at pairs k))

  -- ---- the first entry, one more, and the end
  pub rising_first : 1 < length es → (not (eqb (get_or es 1 0) 0) && leb (get_or es 1 0) M) && rising_from (suc (get_or es 0 0)) (drop (2 * (0 + 1)) es) ≡ rising_from 0 es
  rising_first h =
      let one : 0 < length pairs = omega (arith, pairs_many es pairs paired) in
      let a : id_at pairs 0 ≡ get_or es 0 0 = ap (λ (t : List ℕ). get_or t 0 0) (sym (stands 0 one)) in
      let b : length_at pairs 0 ≡ get_or es 1 0 = ap (λ (t : List ℕ). get_or t 1 0) (sym (stands 0 one)) in
      rw (← a, ← b)
      (regroup true true (not (eqb (length_at pairs 0) 0)) (leb (length_at pairs 0) M) (rising_from (suc (id_at pairs 0)) (drop 2 es))
      ∙ sym (rising_at 0 one 0 ∙ rw (leb-zero (id_at pairs 0))))

  pub rising_more : (k before : ℕ) (ok all : Bool) → k < length (behind pairs) → ok && rising_from (suc before) (drop (2 * (k + 1)) es) ≡ all
      → (ok && ltb before (id_at (behind pairs) k) && not (eqb (length_at (behind pairs) k) 0) && leb (length_at (behind pairs) k) M) && rising_from (suc (id_at (behind pairs) k)) (drop (2 * (k + 1 + 1)) es) ≡ all
  rising_more k before ok all h inv =
      let i = k + 1 in
      let w : 2 * (k + 1 + 1) ≡ 2 * (k + 1) + 2 = omega arith in
      rw (behind_at pairs k h, w)
      (regroup ok (ltb before (id_at pairs i)) (not (eqb (length_at pairs i) 0)) (leb (length_at pairs i) M) (rising_from (suc (id_at pairs i)) (drop (2 * i + 2) es))
      ∙ ap (λ b. ok && b) (sym (rising_at i (omega (arith, many_behind pairs)) (suc before))) ∙ inv)

  pub rising_end : (k lo : ℕ) (ok all : Bool) → length es % 2 ≡ 0 → length (behind pairs) ≤ k → ok && rising_from lo (drop (2 * (k + 1)) es) ≡ all → ok ≡ all
  unfolding rising_from
  rising_end k lo ok all even h inv =
      let e : length es ≤ 2 * (k + 1) = omega (arith, many_behind pairs, pairs_many es pairs paired) in
      sym (and_true ok) ∙ (rw (drop_of_length-le es e) at inv)

-- ---- by the number of words
pub group_long : (es : List ℕ) → 128 < length es → is_group es ≡ false
unfolding is_group
group_long es h = rw (lt-leb (length es) (2 * most_entries) h)

pub group_odd : (es : List ℕ) → (length es % 2 ≡ 0 → ⊥) → is_group es ≡ false
group_odd es h = by_test (is_group es) (λ t. absurd (h (let k = group_full es t in omega arith))) (λ f. f)

pub group_is : (es : List ℕ) → length es ≤ 128 → is_group es ≡ rising_from 0 es
unfolding is_group
group_is es h = rw (le-leb (length es) (2 * most_entries) h)

pub group_empty : (es : List ℕ) → length es ≡ 0 → is_group es ≡ true
unfolding is_group rising_from
group_empty [] h = refl
group_empty (w ∷ es) h = absurd (omega arith)

pub ruleset judgings = (group_long, group_odd, group_is, group_empty)
