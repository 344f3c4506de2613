-- The table after an id's length is raised, by its places: what code that writes it in place shows.
-- Assumes nothing.
use Prim.Native.Nat.{ℕ, zero, suc, ◌+◌, ◌*◌, ◌≤◌, ◌<◌}
use Rattle.std.proofs.Common.{le_refl, le_of_suc-le-suc, not-suc-le-zero, suc-ne-zero, arith, sym, ap, ◌∙◌, lt-ltb, le-ltb, eq-eqb, ne_eqb}
use Rattle.std.specs.Prelude.{true, ◌≡◌, refl, List, ◌∷◌, length, set, eqb, ltb}
use Rattle.std.proofs.Math.Bool.{cond}
use Rattle.rules.specs.meaning.Table.{sound, id_at, length_at, length_of, held, rank, push, with_length, raised, held_with}
use Rattle.rules.proofs.laws.table.Order.{Side, Side.below, Side.same, Side.above, side}
use Rattle.rules.proofs.laws.table.View.{Unused, Unused.none, Unused.pair, Sound, Sound.rest, Sound.used, seen}
use Rattle.rules.proofs.laws.table.Law.{of_same, of_other}
use Rattle.rules.proofs.laws.table.Update.{Roomy, Fitting, with_below, with_at, with_above, raised_with, held_with_law, raised_sound, raised_of, raised_held, suc_cond}
use Rattle.rules.proofs.laws.table.Places.{Laid, from_lo, id_next, laid_of, sound_laid, held_laid, rank_is, placed, length_of_at}

-- ---- an id that stands at place i is given another length there
set_next : (a b : ℕ) (t : List ℕ) (i n : ℕ) → set (a ∷ b ∷ t) (2 * suc i + 1) n ≡ a ∷ b ∷ set t (2 * i + 1) n
set_next a b t i n = let q : 2 * suc i + 1 ≡ suc (suc (2 * i + 1)) = omega arith in rw q

with_set' : {most lo : ℕ} {t : List ℕ} → Sound most lo t → (e n i : ℕ) → i < held t → id_at t i ≡ e → with_length t e n ≡ set t (2 * i + 1) n
unfolding held
with_set' (rest none) e n i p q = absurd (not-suc-le-zero p)
with_set' (rest (pair z)) e n i p q = absurd (not-suc-le-zero p)
with_set' (used {e = x} {n = m} {t = t} l h s) e n zero p q = with_at x m t e n q
with_set' {most} {lo} (used {e = x} {n = m} {t = t} l h s) e n (suc i) p q =
    let q' : id_at t i ≡ e = sym (id_next x (suc m) t i) ∙ q in
    with_below x m t e n (later s i (le_of_suc-le-suc p) q') ∙ ap (λ (l : List ℕ). x ∷ suc m ∷ l) (with_set' s e n i (le_of_suc-le-suc p) q') ∙ sym (set_next x (suc m) t i n)
  where
    later : Sound most (suc x) t → (i : ℕ) → i < held t → id_at t i ≡ e → x < e
    later s i p q = omega (arith, from_lo s i p, q)

-- ---- how many ids stand below y, after e is put in
rank_unused : {t : List ℕ} → Unused t → (y : ℕ) → rank t y ≡ 0
unfolding rank
rank_unused none y = refl
rank_unused (pair z) y = refl

rank_push : {most lo : ℕ} {t : List ℕ} (x m : ℕ) → Sound most lo t → Roomy t → (y : ℕ) → rank (push x (suc m) t) y ≡ cond (ltb x y) (suc (rank t y)) 0
unfolding push rank held
rank_push x m (rest none) r y = absurd (omega arith)
rank_push x m (rest (pair z)) r y = rw (rank_unused z y)
rank_push x m (used {e = e} {n = n} {t = t} l h s) r y = let r' : Roomy t = omega arith in rw (rank_push e n s r' y)

rank_with' : {most lo : ℕ} {t : List ℕ} (e n : ℕ) → Sound most lo t → Roomy t → length_of t e ≡ 0 → (y : ℕ)
    → rank (with_length t e (suc n)) y ≡ cond (ltb e y) (suc (rank t y)) (rank t y)
unfolding with_length rank held
rank_with' e n (rest none) r a y = absurd (omega arith)
rank_with' e n (rest (pair z)) r a y = rw (rank_unused z y)
rank_with' {most} {lo} e n (used {e = x} {n = m} {t = t} l h s) r a y = go (side x e) (λ a'. rank_with' e n s roomy a' y)
  where
    roomy : Roomy t
    roomy = omega arith

    inner : x < e → Side x y → rank (with_length t e (suc n)) y ≡ cond (ltb e y) (suc (rank t y)) (rank t y)
        → cond (ltb x y) (suc (rank (with_length t e (suc n)) y)) 0 ≡ cond (ltb e y) (suc (cond (ltb x y) (suc (rank t y)) 0)) (cond (ltb x y) (suc (rank t y)) 0)
    inner p (below q) ih = rw (lt-ltb x y q, ih) (suc_cond (ltb e y) (suc (rank t y)) (rank t y))
    inner p (same q) ih = rw (le-ltb x y (omega arith), le-ltb e y (omega arith))
    inner p (above q) ih = rw (le-ltb x y (omega arith), le-ltb e y (omega arith))

    outer : e < x → Side e y → cond (ltb e y) (suc (cond (ltb x y) (suc (rank t y)) 0)) 0 ≡ cond (ltb e y) (suc (cond (ltb x y) (suc (rank t y)) 0)) (cond (ltb x y) (suc (rank t y)) 0)
    outer p (below q) = rw (lt-ltb e y q)
    outer p (same q) = rw (le-ltb e y (omega arith), le-ltb x y (omega arith))
    outer p (above q) = rw (le-ltb e y (omega arith), le-ltb x y (omega arith))

    go : Side x e → (length_of t e ≡ 0 → rank (with_length t e (suc n)) y ≡ cond (ltb e y) (suc (rank t y)) (rank t y))
        → rank (with_length (x ∷ suc m ∷ t) e (suc n)) y ≡ cond (ltb e y) (suc (rank (x ∷ suc m ∷ t) y)) (rank (x ∷ suc m ∷ t) y)
    go (below p) ih = rw (with_below x m t e (suc n) p) (inner p (side x y) (ih (sym (of_other x (suc m) t e (omega arith)) ∙ a)))
    go (same p) ih = absurd (suc-ne-zero m (sym (of_same x (suc m) t) ∙ (rw (← p) at a)))
    go (above p) ih = rw (with_above x m t e (suc n) p, rank_push x m s roomy y) (outer p (side e y))

-- ---- the table R after e, which has no entry, is given one
module _ {most : ℕ} {t : List ℕ} {k : ℕ} (w : Laid most t k) (e n : ℕ) (pos : 1 ≤ n) (fits : n ≤ most) (room : 2 * k + 2 ≤ length t) (absent : length_of t e ≡ 0) where
  ok : sound most t ≡ true
  ok = sound_laid w

  roomy : Roomy t
  roomy = omega (arith, held_laid w)

  grown : held_with t e n ≡ suc k
  grown = held_with_law t e n pos ∙ (rw (absent, held_laid w))

  fitting : Fitting t e n
  fitting = omega (arith, grown)

  raised_rank : (y : ℕ) → rank (raised t e n) y ≡ cond (ltb e y) (suc (rank t y)) (rank t y)
  unfolding raised
  raised_rank y = go n pos
    where
      go : (n : ℕ) → 1 ≤ n → rank (raised t e n) y ≡ cond (ltb e y) (suc (rank t y)) (rank t y)
      go zero p = absurd (omega arith)
      go (suc n) p = rank_with' e n (seen {most = most} {lo = 0} ok) roomy absent y

  its_lengths : (y : ℕ) → length_of (raised t e n) y ≡ cond (eqb e y) n (length_of t y)
  its_lengths y = raised_of most t e ok n (omega (arith, absent)) fitting y

  pub raised_laid : Laid most (raised t e n) (suc k)
  raised_laid = rw (raised_held most t e ok n fitting ∙ grown) at (laid_of most (raised t e n) (raised_sound most t e ok n fits))

  -- the entry of t at place q, found in R
  moved : (q : ℕ) → q < k → (id_at t q ≡ e → ⊥) → (r : ℕ) → rank (raised t e n) (id_at t q) ≡ r
      → (id_at (raised t e n) r ≡ id_at t q) × (length_at (raised t e n) r ≡ length_at t q)
  moved q p ne r stands =
      let same_length : length_of (raised t e n) (id_at t q) ≡ length_at t q = its_lengths (id_at t q) ∙ (rw (ne_eqb e (id_at t q) (λ z. ne (sym z))) (length_of_at w (id_at t q) q p refl)) in
      let f = placed raised_laid (id_at t q) (λ z. omega (arith, same_length, z, w.low q p)) in
      (rw stands at f.1, rw stands at (f.2 ∙ same_length))

  own_rank : (q : ℕ) → q < k → rank t (id_at t q) ≡ q
  own_rank q p = rank_is w (id_at t q) q (omega arith) (λ j r. w.rises j q r p) (λ r. le_refl (id_at t q))

  pub raised_below : (q : ℕ) → q < k → id_at t q < e → (id_at (raised t e n) q ≡ id_at t q) × (length_at (raised t e n) q ≡ length_at t q)
  raised_below q p l = moved q p (λ z. omega arith) q (raised_rank (id_at t q) ∙ (rw (le-ltb e (id_at t q) (omega arith)) (own_rank q p)))

  pub raised_above : (q : ℕ) → q < k → e < id_at t q → (id_at (raised t e n) (suc q) ≡ id_at t q) × (length_at (raised t e n) (suc q) ≡ length_at t q)
  raised_above q p l = moved q p (λ z. omega arith) (suc q) (raised_rank (id_at t q) ∙ (rw (lt-ltb e (id_at t q) l) (ap suc (own_rank q p))))

  pub raised_at : (q : ℕ) → q ≤ k → ((j : ℕ) → j < q → id_at t j < e) → (q < k → e ≤ id_at t q) → (id_at (raised t e n) q ≡ e) × (length_at (raised t e n) q ≡ n)
  raised_at q p under over =
      let its : length_of (raised t e n) e ≡ n = its_lengths e ∙ (rw (eq-eqb e e refl)) in
      let f = placed raised_laid e (λ z. omega (arith, its, z)) in
      let stands : rank (raised t e n) e ≡ q = raised_rank e ∙ (rw (le-ltb e e (le_refl e)) (rank_is w e q p under over)) in
      (rw stands at f.1, rw stands at (f.2 ∙ its))

-- an id that has an entry: one word is written
pub raised_set : (most : ℕ) (t : List ℕ) → sound most t ≡ true → (e n i : ℕ) → 1 ≤ n → i < held t → id_at t i ≡ e → raised t e n ≡ set t (2 * i + 1) n
raised_set most t h e n i pos p q = raised_with t e n pos ∙ with_set' (seen {most = most} {lo = 0} h) e n i p q
