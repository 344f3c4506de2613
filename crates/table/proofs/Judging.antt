-- What the loops of `sound` compute is the definition, whatever number of entries they were given.
-- Assumes nothing.
use Prim.Native.Nat.{ℕ, zero, suc, ◌+◌, ◌*◌, ◌-◌, ◌%◌, ◌≤◌, ◌<◌, suc-le-suc}
use native.Mathlib.Nat.{le_of_suc-le-suc, not-suc-le-zero, eq-or-lt_of_le}
use native.Mathlib.Numerals.{add-one}
use native.Mathlib.Omega.{arith}
use mathlib.Core.Bool.{Bool, true, false, ◌&&◌, not, and_assoc, and-true, false≢true}
use mathlib.Core.Path.{◌≡◌, refl, sym, ◌∙◌}
use mathlib.Core.Logic.{⊎_elim}
use mathlib.Core.List.{List, [], ◌∷◌}
use lib.ListN.{length, get_or, drop, drop_of_length-le}
use lib.Seq.{drop-cons, get_or-drop}
use lib.Bits.{bit_or, or_zero_l, or_add_and, and_le_r}
use lib.Dec.{leb, ltb, eqb}
use borrow.Author.Tests.{lt-ltb, le-leb, eq-eqb, ne_eqb, ltb-true, leb-true, eqb-true, eqb-false, not-true}
use Rattle.rules.specs.meaning.Table.{id_at, length_at, sound, held}
use Rattle.rules.proofs.laws.table.View.{parts}
use Rattle.rules.proofs.laws.table.Places.{Laid, laid_of, sound_laid, rises_by}
use Rattle.table.specs.Loops.{entries_good, zeros}

-- ---- the words after the entries
zeros_at : (l : List ℕ) → zeros l ≡ true → (j : ℕ) → get_or l j 0 ≡ 0
unfolding zeros
zeros_at [] h j = refl
zeros_at (w ∷ l) h zero = eqb-true w 0 (parts (eqb w 0) _ h).0
zeros_at (w ∷ l) h (suc j) = zeros_at l (parts (eqb w 0) _ h).1 j

at_zeros : (l : List ℕ) → ((j : ℕ) → get_or l j 0 ≡ 0) → zeros l ≡ true
unfolding zeros
at_zeros [] h = refl
at_zeros (w ∷ l) h = rw (eq-eqb w 0 (h 0)) (at_zeros l (λ j. h (suc j)))

or_none : (a b : ℕ) → eqb (bit_or a b) 0 ≡ (eqb a 0 && eqb b 0)
or_none zero b = rw (or_zero_l b)
or_none (suc a) b = rw (ne_eqb (suc a) 0 (omega arith)) (ne_eqb (bit_or (suc a) b) 0 (λ q. omega (arith, or_add_and (suc a) b, and_le_r (suc a) b, q)))

zeros_cons : (x : ℕ) (l : List ℕ) → zeros (x ∷ l) ≡ (eqb x 0 && zeros l)
unfolding zeros
zeros_cons x l = refl

-- a turn: the words so far and the words that are left are all the words
pub zero_more : (w : List ℕ) (j any : ℕ) (z : Bool) → j < length w → eqb any 0 && zeros (drop j w) ≡ z
    → eqb (bit_or any (get_or w j 0)) 0 && zeros (drop (j + 1) w) ≡ z
zero_more w j any z h inv =
    rw (or_none any (get_or w j 0), and_assoc, add-one j, ← zeros_cons (get_or w j 0) (drop (suc j) w), ← drop-cons w j 0 h) inv

pub zero_end : (w : List ℕ) (j any : ℕ) (z : Bool) → length w ≤ j → eqb any 0 && zeros (drop j w) ≡ z → eqb any 0 ≡ z
unfolding zeros
zero_end w j any z h inv = sym (and-true (eqb any 0)) ∙ (rw (drop_of_length-le w {i = j} h) at inv)

-- ---- the entries: a turn looks at place i, and at the id before it
pub good_more : (most : ℕ) (t : List ℕ) (i : ℕ) → 1 ≤ i → (good : Bool) (before : ℕ) → before ≡ id_at t (i - 1) → good ≡ entries_good most t i
    → (good && ltb before (id_at t i) && not (eqb (length_at t i) 0) && leb (length_at t i) most) ≡ entries_good most t (i + 1)
unfolding entries_good
good_more most t zero l good before p q = absurd (omega arith)
good_more most t (suc i) l good before p q = let back : suc i - 1 ≡ i = omega arith in rw (add-one (suc i), p, q, back)

module _ (most : ℕ) (t : List ℕ) where
  -- what the test of a length says, and what the tests of a later entry say
  Ranged : ℕ → Type 0
  Ranged i = (1 ≤ length_at t i) × (length_at t i ≤ most)

  Rising : ℕ → Type 0
  Rising i = id_at t i < id_at t (suc i)

  ranged : (i : ℕ) → not (eqb (length_at t i) 0) ≡ true → leb (length_at t i) most ≡ true → Ranged i
  unfolding Ranged
  ranged i p q = (omega (arith, eqb-false (length_at t i) 0 (not-true _ p)), leb-true _ _ q)

  -- every entry that the loop passed is in order
  facts : (k : ℕ) → entries_good most t k ≡ true → ((i : ℕ) → i < k → Ranged i) × ((i : ℕ) → suc i < k → Rising i)
  unfolding entries_good Ranged Rising
  facts zero h = ((λ i p. absurd (not-suc-le-zero p)), (λ i p. absurd (not-suc-le-zero p)))
  facts (suc zero) h =
      let a = parts _ _ h in
      ((λ i p. first i (ranged 0 a.0 a.1) p), (λ i p. absurd (omega arith)))
    where
      first : (i : ℕ) → Ranged 0 → i < 1 → Ranged i
      first zero r p = r
      first (suc i) r p = absurd (omega arith)
  facts (suc (suc k)) h =
      let a = parts _ _ h in
      let b = parts _ _ a.0 in
      let d = parts _ _ b.0 in
      let ih = facts (suc k) d.0 in
      let here : Ranged (suc k) = ranged (suc k) b.1 a.1 in
      let rising : Rising k = ltb-true _ _ d.1 in (
        (λ i p. ⊎_elim (λ q. rw q here) (λ q. ih.0 i q) (eq-or-lt_of_le (le_of_suc-le-suc p))),
        (λ i p. ⊎_elim (λ q. rw q rising) (λ q. ih.1 i (suc-le-suc q)) (eq-or-lt_of_le (within i p))),
      )
    where
      within : (i : ℕ) → suc i < suc (suc k) → i ≤ k
      within i p = omega arith

  facts_laid : (k : ℕ) → length t % 2 ≡ 0 → 2 * k ≤ length t → entries_good most t k ≡ true → zeros (drop (2 * k) t) ≡ true → Laid most t k
  unfolding Ranged Rising
  facts_laid k even room good tail = record {
    pairs = even;
    room = room;
    rises = rises_by t k (facts k good).1;
    low = λ i p. ((facts k good).0 i p).0;
    high = λ i p. ((facts k good).0 i p).1;
    clear = λ j p.
        let back : 2 * k + (j - 2 * k) ≡ j = omega arith in
        rw back at (sym (get_or-drop (2 * k) t (j - 2 * k) 0) ∙ zeros_at _ tail (j - 2 * k));
  }

  laid_good : (k : ℕ) → Laid most t k → (i : ℕ) → i ≤ k → entries_good most t i ≡ true
  unfolding entries_good
  laid_good k w zero p = refl
  laid_good k w (suc zero) p = rw (ne_eqb (length_at t 0) 0 (omega (arith, w.low 0 p)), le-leb (length_at t 0) most (w.high 0 p))
  laid_good k w (suc (suc i)) p =
      rw (laid_good k w (suc i) (omega arith), lt-ltb (id_at t i) (id_at t (suc i)) (w.rises i (suc i) (omega arith) p), ne_eqb (length_at t (suc i)) 0 (omega (arith, w.low (suc i) p)), le-leb (length_at t (suc i)) most (w.high (suc i) p))

  laid_tail : (k : ℕ) → Laid most t k → zeros (drop (2 * k) t) ≡ true
  laid_tail k w = at_zeros (drop (2 * k) t) (λ j. get_or-drop (2 * k) t j 0 ∙ w.clear (2 * k + j) (omega arith))

  -- for a number of entries that is right where the table is sound, the two loops decide
  pub judged : (k : ℕ) → length t % 2 ≡ 0 → 2 * k ≤ length t → (sound most t ≡ true → held t ≡ k) → (entries_good most t k && zeros (drop (2 * k) t)) ≡ sound most t
  judged k even room right = go (sound most t) refl (entries_good most t k && zeros (drop (2 * k) t)) refl
    where
      go : (b : Bool) → sound most t ≡ b → (a : Bool) → (entries_good most t k && zeros (drop (2 * k) t)) ≡ a → (entries_good most t k && zeros (drop (2 * k) t)) ≡ sound most t
      go true e a e' =
          let w : Laid most t k = rw (right e) at (laid_of most t e) in
          rw (laid_good k w k (omega arith), laid_tail k w) (sym e)
      go false e false e' = e' ∙ sym e
      go false e true e' =
          let q = parts _ _ e' in
          absurd (false≢true (sym e ∙ sound_laid (facts_laid k even room q.0 q.1)))

  -- words that do not pair up are no table
  pub unpaired : (length t % 2 ≡ 0 → ⊥) → false ≡ sound most t
  unpaired odd = go (sound most t) refl
    where
      go : (b : Bool) → sound most t ≡ b → false ≡ sound most t
      go true e = absurd (odd (laid_of most t e).pairs)
      go false e = sym e
