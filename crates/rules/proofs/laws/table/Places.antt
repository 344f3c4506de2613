-- A sound table by its places: what a proof about code reads of a table, and what it shows of one. `Laid` is the interface, and the
-- bridge from the definition and back is crossed here, once.
-- Assumes nothing.
use Rattle.std.specs.Prelude.{ℕ, zero, suc, ◌+◌, ◌*◌, ◌%◌, ◌≤◌, ◌<◌, true, cond, ◌≡◌, refl, ◌⊎◌, List, [], ◌∷◌, length, get_or, ltb, Option, Some, None}
use Rattle.std.proofs.Common.{zero-le, suc-le-suc, le_refl, le_of_suc-le-suc, not-suc-le-zero, eq-or-lt_of_le, arith, sym, ap, ◌∙◌, ⊎_elim, inl, inr, lt-ltb, le-ltb}
use Rattle.rules.specs.meaning.Table.{sound, id_at, length_at, length_of, held, rank, found_by, found_of, length_found}
use Rattle.rules.proofs.laws.table.Order.{Side, Side.below, Side.same, Side.above, side, lt_or_le}
use Rattle.rules.proofs.laws.table.View.{Unused, Unused.none, Unused.pair, Sound, Sound.rest, Sound.used, seen, say}
use Rattle.rules.proofs.laws.table.Law.{of_same, of_other, of_unused, of_below}
use Rattle.rules.proofs.laws.table.Update.{held_unused}

-- k entries in use, and 0 in every word after them. `clear` has no upper end: past the words `get_or` gives 0 too
pub record Laid (most : ℕ) (t : List ℕ) (k : ℕ) : Type 0 where
  pub pairs : length t % 2 ≡ 0
  pub room : 2 * k ≤ length t
  pub rises : (i j : ℕ) → i < j → j < k → id_at t i < id_at t j
  pub low : (i : ℕ) → i < k → 1 ≤ length_at t i
  pub high : (i : ℕ) → i < k → length_at t i ≤ most
  pub clear : (j : ℕ) → 2 * k ≤ j → get_or t j 0 ≡ 0

-- ---- one place on
at_next : (a b : ℕ) (t : List ℕ) (j : ℕ) (k : ℕ) → k ≡ suc (suc j) → get_or (a ∷ b ∷ t) k 0 ≡ get_or t j 0
at_next a b t j k q = rw q

pub id_next : (a b : ℕ) (t : List ℕ) (i : ℕ) → id_at (a ∷ b ∷ t) (suc i) ≡ id_at t i
id_next a b t i = at_next a b t (2 * i) (2 * suc i) (omega arith)

pub length_next : (a b : ℕ) (t : List ℕ) (i : ℕ) → length_at (a ∷ b ∷ t) (suc i) ≡ length_at t i
length_next a b t i = at_next a b t (2 * i + 1) (2 * suc i + 1) (omega arith)

-- ---- from sound
pub at_unused : {t : List ℕ} → Unused t → (j : ℕ) → get_or t j 0 ≡ 0
at_unused none j = refl
at_unused (pair z) zero = refl
at_unused (pair z) (suc zero) = refl
at_unused (pair z) (suc (suc j)) = at_unused z j

pairs_unused : {t : List ℕ} → Unused t → length t % 2 ≡ 0
pairs_unused none = refl
pairs_unused (pair z) = omega (arith, pairs_unused z)

-- with the ids lo or above
record From (most lo : ℕ) (t : List ℕ) (k : ℕ) : Type 0 where
  from : (i : ℕ) → i < k → lo ≤ id_at t i
  laid : Laid most t k

none_laid : {most lo : ℕ} {t : List ℕ} → Unused t → From most lo t 0
none_laid z = record {
  from = λ i h. absurd (not-suc-le-zero h);
  laid = record {
    pairs = pairs_unused z;
    room = zero-le;
    rises = λ i j p h. absurd (not-suc-le-zero h);
    low = λ i h. absurd (not-suc-le-zero h);
    high = λ i h. absurd (not-suc-le-zero h);
    clear = λ j h. at_unused z j;
  };
}

module _ {most lo : ℕ} (e n : ℕ) (t : List ℕ) (k : ℕ) (l : lo ≤ e) (h : suc n ≤ most) (f : From most (suc e) t k) where
  one_from : (i : ℕ) → i < suc k → lo ≤ id_at (e ∷ suc n ∷ t) i
  one_from zero p = l
  one_from (suc i) p = rw (id_next e (suc n) t i) (omega (arith, f.from i (le_of_suc-le-suc p)))

  one_rises : (i j : ℕ) → i < j → j < suc k → id_at (e ∷ suc n ∷ t) i < id_at (e ∷ suc n ∷ t) j
  one_rises i zero p q = absurd (not-suc-le-zero p)
  one_rises zero (suc j) p q = rw (id_next e (suc n) t j) (f.from j (le_of_suc-le-suc q))
  one_rises (suc i) (suc j) p q = rw (id_next e (suc n) t i, id_next e (suc n) t j) (f.laid.rises i j (le_of_suc-le-suc p) (le_of_suc-le-suc q))

  one_low : (i : ℕ) → i < suc k → 1 ≤ length_at (e ∷ suc n ∷ t) i
  one_low zero p = omega arith
  one_low (suc i) p = rw (length_next e (suc n) t i) (f.laid.low i (le_of_suc-le-suc p))

  one_high : (i : ℕ) → i < suc k → length_at (e ∷ suc n ∷ t) i ≤ most
  one_high zero p = h
  one_high (suc i) p = rw (length_next e (suc n) t i) (f.laid.high i (le_of_suc-le-suc p))

  one_clear : (j : ℕ) → 2 * suc k ≤ j → get_or (e ∷ suc n ∷ t) j 0 ≡ 0
  one_clear zero p = absurd (omega arith)
  one_clear (suc zero) p = absurd (omega arith)
  one_clear (suc (suc j)) p = f.laid.clear j (omega arith)

  one_laid : From most lo (e ∷ suc n ∷ t) (suc k)
  one_laid = record {
    from = one_from;
    laid = record {
      pairs = omega (arith, f.laid.pairs);
      room = omega (arith, f.laid.room);
      rises = one_rises;
      low = one_low;
      high = one_high;
      clear = one_clear;
    };
  }

laid_from : {most lo : ℕ} {t : List ℕ} → Sound most lo t → From most lo t (held t)
unfolding held
laid_from (rest none) = none_laid none
laid_from (rest (pair z)) = none_laid (pair z)
laid_from (used {e = e} {n = n} {t = t} l h s) = one_laid e n t (held t) l h (laid_from s)

pub laid_of : (most : ℕ) (t : List ℕ) → sound most t ≡ true → Laid most t (held t)
laid_of most t h = (laid_from (seen {most = most} {lo = 0} h)).laid

pub from_lo : {most lo : ℕ} {t : List ℕ} → Sound most lo t → (i : ℕ) → i < held t → lo ≤ id_at t i
from_lo s i p = (laid_from s).from i p

-- ---- to sound
pub unused_by : (t : List ℕ) → length t % 2 ≡ 0 → ((j : ℕ) → get_or t j 0 ≡ 0) → Unused t
unused_by [] p h = none
unused_by (w ∷ []) p h = absurd (omega arith)
unused_by (zero ∷ zero ∷ t) p h = pair (unused_by t (omega arith) (λ j. h (suc (suc j))))
unused_by (zero ∷ suc n ∷ t) p h = absurd (omega (arith, h 1))
unused_by (suc e ∷ w ∷ t) p h = absurd (omega (arith, h 0))

module _ {most : ℕ} (e n : ℕ) (t : List ℕ) (k : ℕ) (w : Laid most (e ∷ n ∷ t) (suc k)) where
  tail_from : (i : ℕ) → i < k → suc e ≤ id_at t i
  tail_from i h = rw (id_next e n t i) at (w.rises 0 (suc i) (omega arith) (omega arith))

  tail_laid : Laid most t k
  tail_laid = record {
    pairs = omega (arith, w.pairs);
    room = omega (arith, w.room);
    rises = λ i j p q. rw (id_next e n t i, id_next e n t j) at (w.rises (suc i) (suc j) (omega arith) (omega arith));
    low = λ i p. rw (length_next e n t i) at (w.low (suc i) (omega arith));
    high = λ i p. rw (length_next e n t i) at (w.high (suc i) (omega arith));
    clear = λ j p. w.clear (suc (suc j)) (omega arith);
  }

sound_by : {most : ℕ} (lo : ℕ) (t : List ℕ) (k : ℕ) → ((i : ℕ) → i < k → lo ≤ id_at t i) → Laid most t k → Sound most lo t × (held t ≡ k)
unfolding held
sound_by lo t zero f w = let z = unused_by t w.pairs (λ j. w.clear j (omega arith)) in (rest z, held_unused z)
sound_by lo [] (suc k) f w = absurd (omega (arith, w.room))
sound_by lo (x ∷ []) (suc k) f w = absurd (omega (arith, w.room))
sound_by lo (e ∷ zero ∷ t) (suc k) f w = absurd (omega (arith, w.low 0 (omega arith)))
sound_by lo (e ∷ suc n ∷ t) (suc k) f w =
    let r = sound_by (suc e) t k (tail_from e (suc n) t k w) (tail_laid e (suc n) t k w) in
    (used (f 0 (omega arith)) (w.high 0 (omega arith)) r.0, ap suc r.1)

-- the ids rise where each is below the next
pub rises_by : (t : List ℕ) (k : ℕ) → ((i : ℕ) → suc i < k → id_at t i < id_at t (suc i)) → (i j : ℕ) → i < j → j < k → id_at t i < id_at t j
rises_by t k h i zero p q = absurd (not-suc-le-zero p)
rises_by t k h i (suc j) p q =
    ⊎_elim (λ r. rw r (h j q)) (λ r. omega (arith, rises_by t k h i j r (omega arith), h j q)) (eq-or-lt_of_le (le_of_suc-le-suc p))

module _ {most : ℕ} {t : List ℕ} {k : ℕ} (w : Laid most t k) where
  pub sound_laid : sound most t ≡ true
  sound_laid = say (sound_by 0 t k (λ i h. zero-le) w).0

  pub held_laid : held t ≡ k
  held_laid = (sound_by 0 t k (λ i h. zero-le) w).1

-- ---- length_of, rank and room by places
of_at : {most lo : ℕ} {t : List ℕ} → Sound most lo t → (i : ℕ) → i < held t → length_of t (id_at t i) ≡ length_at t i
unfolding held
of_at (rest none) i p = absurd (not-suc-le-zero p)
of_at (rest (pair z)) i p = absurd (not-suc-le-zero p)
of_at (used {e = e} {n = n} {t = t} l h s) zero p = of_same e (suc n) t
of_at (used {e = e} {n = n} {t = t} l h s) (suc i) p =
    let q : i < held t = le_of_suc-le-suc p in
    rw (id_next e (suc n) t i, length_next e (suc n) t i, of_other e (suc n) t (id_at t i) (omega (arith, (laid_from s).from i q))) (of_at s i q)

of_none : {most lo : ℕ} {t : List ℕ} → Sound most lo t → (x : ℕ) → ((i : ℕ) → i < held t → id_at t i ≡ x → ⊥) → length_of t x ≡ 0
unfolding held
of_none (rest z) x h = of_unused z x
of_none (used {e = e} {n = n} {t = t} l m s) x h =
    of_other e (suc n) t x (h 0 (omega arith)) ∙ of_none s x (λ i p q. h (suc i) (omega arith) (id_next e (suc n) t i ∙ q))

rank_at : {most lo : ℕ} {t : List ℕ} → Sound most lo t → (x i : ℕ) → i ≤ held t → ((j : ℕ) → j < i → id_at t j < x)
    → (i < held t → x ≤ id_at t i) → rank t x ≡ i
unfolding held rank
rank_at (rest none) x i p b a = omega arith
rank_at (rest (pair z)) x i p b a = omega arith
rank_at (used {e = e} l h s) x zero p b a = rw (le-ltb e x (a (omega arith)))
rank_at (used {e = e} {n = n} {t = t} l h s) x (suc i) p b a =
    rw (lt-ltb e x (b 0 (omega arith)))
    (ap suc (rank_at s x i (le_of_suc-le-suc p) (λ j q. rw (id_next e (suc n) t j) at (b (suc j) (omega arith))) (λ q. rw (id_next e (suc n) t i) at (a (omega arith)))))

rank_found : {most lo : ℕ} {t : List ℕ} → Sound most lo t → (x : ℕ) → (length_of t x ≡ 0 → ⊥) → (rank t x < held t) × (id_at t (rank t x) ≡ x)
unfolding rank held
rank_found (rest z) x h = absurd (h (of_unused z x))
rank_found {most} {lo} (used {e = e} {n = n} {t = t} l m s) x h = go (side e x) (λ p. rank_found s x p)
  where
    go : Side e x → ((length_of t x ≡ 0 → ⊥) → (rank t x < held t) × (id_at t (rank t x) ≡ x))
        → (rank (e ∷ suc n ∷ t) x < held (e ∷ suc n ∷ t)) × (id_at (e ∷ suc n ∷ t) (rank (e ∷ suc n ∷ t) x) ≡ x)
    go (below p) ih =
        let r = ih (λ z. h (of_other e (suc n) t x (omega arith) ∙ z)) in
        rw (lt-ltb e x p) (suc-le-suc r.0, id_next e (suc n) t (rank t x) ∙ r.1)
    go (same p) ih = rw (le-ltb e x (omega arith)) (omega arith, p)
    go (above p) ih = absurd (h (of_below (used (le_refl e) m s) x p))

-- what rank says: the places before it are below, the others not
rank_says : {most lo : ℕ} {t : List ℕ} → Sound most lo t → (y : ℕ) → (rank t y ≤ held t) × (((q : ℕ) → q < rank t y → id_at t q < y) × ((q : ℕ) → rank t y ≤ q → q < held t → y ≤ id_at t q))
unfolding rank held
rank_says (rest none) y = (omega arith, ((λ q p. absurd (not-suc-le-zero p)), (λ q p r. absurd (not-suc-le-zero r))))
rank_says (rest (pair z)) y = (omega arith, ((λ q p. absurd (not-suc-le-zero p)), (λ q p r. absurd (not-suc-le-zero r))))
rank_says {most} {lo} (used {e = e} {n = n} {t = t} l h s) y = go (lt_or_le e y) (rank_says s y)
  where
    Says : List ℕ → ℕ → ℕ → Type 0
    Says u r k = (r ≤ k) × (((q : ℕ) → q < r → id_at u q < y) × ((q : ℕ) → r ≤ q → q < k → y ≤ id_at u q))

    first : e < y → ((q : ℕ) → q < rank t y → id_at t q < y) → (q : ℕ) → q < suc (rank t y) → id_at (e ∷ suc n ∷ t) q < y
    first p ih zero r = p
    first p ih (suc q) r = rw (id_next e (suc n) t q) (ih q (le_of_suc-le-suc r))

    later : ((q : ℕ) → rank t y ≤ q → q < held t → y ≤ id_at t q) → (q : ℕ) → suc (rank t y) ≤ q → q < suc (held t) → y ≤ id_at (e ∷ suc n ∷ t) q
    later ih zero p r = absurd (not-suc-le-zero p)
    later ih (suc q) p r = rw (id_next e (suc n) t q) (ih q (le_of_suc-le-suc p) (le_of_suc-le-suc r))

    go : (e < y) ⊎ (y ≤ e) → Says t (rank t y) (held t) → Says (e ∷ suc n ∷ t) (cond (ltb e y) (suc (rank t y)) 0) (suc (held t))
    go (inl p) ih = rw (lt-ltb e y p) (suc-le-suc ih.0, (first p ih.1.0, later ih.1.1))
    go (inr p) ih = rw (le-ltb e y p) (zero-le, ((λ q r. absurd (not-suc-le-zero r)), (λ q r m. omega (arith, from_lo (used (le_refl e) h s) q m))))

by_length : (n i : ℕ) → 1 ≤ n → found_by n i ≡ Some i
by_length zero i h = absurd (omega arith)
by_length (suc n) i h = refl

never : (f : Option ℕ) (i : ℕ) → f ≡ None → f ≡ Some i → ⊥
never f i p q = let z : ◌≡◌ {A = ℕ} 0 1 = cc in omega arith

is_place : (i j : ℕ) → Some i ≡ Some j → i ≡ j
is_place i j p = cc

-- as code proofs say it, of a table with k entries
module _ {most : ℕ} {t : List ℕ} {k : ℕ} (w : Laid most t k) where
  view : Sound most 0 t
  view = (sound_by 0 t k (λ i h. zero-le) w).0

  pub length_of_at : (x i : ℕ) → i < k → id_at t i ≡ x → length_of t x ≡ length_at t i
  length_of_at x i p q = rw (← q) (of_at view i (omega (arith, held_laid w)))

  pub length_of_none : (x : ℕ) → ((i : ℕ) → i < k → id_at t i ≡ x → ⊥) → length_of t x ≡ 0
  length_of_none x h = of_none view x (λ i p. h i (omega (arith, held_laid w)))

  pub rank_is : (x i : ℕ) → i ≤ k → ((j : ℕ) → j < i → id_at t j < x) → (i < k → x ≤ id_at t i) → rank t x ≡ i
  rank_is x i p b a = rank_at view x i (omega (arith, held_laid w)) b (λ q. a (omega (arith, held_laid w)))

  -- a length tells whether its place is in use
  pub used_at : (i : ℕ) → (length_at t i ≡ 0 → ⊥) → i < k
  used_at i h = ⊎_elim (λ p. p) (λ p. absurd (h (w.clear (2 * i + 1) (omega arith)))) (lt_or_le i k)

  pub unused_at : (i : ℕ) → length_at t i ≡ 0 → k ≤ i
  unused_at i h = ⊎_elim (λ p. absurd (omega (arith, w.low i p))) (λ p. p) (lt_or_le i k)

  -- where an id stands
  pub found_at : (x i : ℕ) → i < k → id_at t i ≡ x → found_of t x ≡ Some i
  found_at x i p q =
      rw (length_of_at x i p q, rank_is x i (omega arith) (λ j r. omega (arith, w.rises j i r p, q)) (λ r. omega (arith, q)))
      (by_length (length_at t i) i (w.low i p))

  pub found_none : (x : ℕ) → ((i : ℕ) → i < k → id_at t i ≡ x → ⊥) → found_of t x ≡ None
  found_none x h = rw (length_of_none x h)

  pub at_found : (x i : ℕ) → found_of t x ≡ Some i → (i < k) × (id_at t i ≡ x) × (length_of t x ≡ length_at t i)
  at_found x i h = go (length_of t x) refl
    where
      go : (n : ℕ) → length_of t x ≡ n → (i < k) × (id_at t i ≡ x) × (length_of t x ≡ length_at t i)
      go zero e = absurd (never (found_of t x) i (rw e) h)
      go (suc n) e =
          let r = rank_found view x (λ z. omega (arith, z, e)) in
          let same_place : rank t x ≡ i = is_place (rank t x) i (rw e at h) in
          let at : id_at t i ≡ x = rw same_place at r.1 in
          let in_use : i < k = omega (arith, r.0, same_place, held_laid w) in
          (in_use, at, length_of_at x i in_use at)

  pub none_found : (x : ℕ) → found_of t x ≡ None → length_of t x ≡ 0
  none_found x h = go (length_of t x) refl
    where
      go : (n : ℕ) → length_of t x ≡ n → length_of t x ≡ 0
      go zero e = e
      go (suc n) e = absurd (never (found_of t x) (rank t x) h (rw e))

  -- an id with an entry stands at its rank
  pub placed : (x : ℕ) → (length_of t x ≡ 0 → ⊥) → (rank t x < k) × (id_at t (rank t x) ≡ x) × (length_at t (rank t x) ≡ length_of t x)
  placed x h =
      let r = rank_found view x h in
      let p : rank t x < k = omega (arith, r.0, held_laid w) in
      (p, r.1, sym (length_of_at x (rank t x) p r.1))

  pub rank_most : (y : ℕ) → rank t y ≤ k
  rank_most y = omega (arith, (rank_says view y).0, held_laid w)

  pub rank_under : (y q : ℕ) → q < rank t y → id_at t q < y
  rank_under y q p = (rank_says view y).1.0 q p

  pub rank_over : (y q : ℕ) → rank t y ≤ q → q < k → y ≤ id_at t q
  rank_over y q p r = (rank_says view y).1.1 q p (omega (arith, held_laid w))

  pub under_rank : (y q : ℕ) → q < k → id_at t q < y → q < rank t y
  under_rank y q p l = ⊎_elim (λ r. r) (λ r. absurd (omega (arith, rank_over y q r p))) (lt_or_le q (rank t y))

  -- each outcome of a lookup tells the id's length
  pub length_found_law : (x : ℕ) → length_found t (found_of t x) ≡ length_of t x
  length_found_law x = go (length_of t x) refl
    where
      go : (n : ℕ) → length_of t x ≡ n → length_found t (found_of t x) ≡ length_of t x
      go zero e = rw e
      go (suc n) e = let f = placed x (λ z. omega (arith, z, e)) in rw e (f.2 ∙ e)
