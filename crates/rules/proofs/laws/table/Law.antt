-- THE LAW: two sound tables of one size whose lengths agree at every id are the same list. Before it, what `length_of` says of an entry.
-- Assumes nothing.
use Rattle.std.specs.Prelude.{ℕ, suc, ◌≤◌, ◌<◌, Bool, true, false, cond, ◌≡◌, refl, List, ◌∷◌, length, eqb}
use Rattle.std.proofs.Common.{le_refl, le_trans, arith, sym, ap, ◌∙◌, eq-eqb, ne_eqb}
use Rattle.rules.specs.meaning.Table.{sound, length_of}
use Rattle.rules.proofs.laws.table.Order.{Side, Side.below, Side.same, Side.above, side}
use Rattle.rules.proofs.laws.table.View.{Unused, Unused.none, Unused.pair, Sound, Sound.rest, Sound.used, seen, say}

-- ---- length_of, an entry at a time
pub of_same : (e n : ℕ) (t : List ℕ) → length_of (e ∷ n ∷ t) e ≡ n
unfolding length_of
of_same e n t = rw (eq-eqb e e refl)

pub of_other : (e n : ℕ) (t : List ℕ) (x : ℕ) → (e ≡ x → ⊥) → length_of (e ∷ n ∷ t) x ≡ length_of t x
unfolding length_of
of_other e n t x h = rw (ne_eqb e x h)

both_zero : (b : Bool) (y : ℕ) → y ≡ 0 → cond b 0 y ≡ 0
both_zero true y h = refl
both_zero false y h = h

pub of_unused : {t : List ℕ} → Unused t → (x : ℕ) → length_of t x ≡ 0
unfolding length_of
of_unused none x = refl
of_unused (pair z) x = both_zero (eqb 0 x) _ (of_unused z x)

-- an id below every id of the table has no entry
pub of_below : {most lo : ℕ} {t : List ℕ} → Sound most lo t → (x : ℕ) → x < lo → length_of t x ≡ 0
of_below (rest z) x h = of_unused z x
of_below (used {e = e} {n = n} {t = t} l m s) x h = of_other e (suc n) t x (omega arith) ∙ of_below s x (omega arith)

of_most' : {most lo : ℕ} {t : List ℕ} → Sound most lo t → (x : ℕ) → length_of t x ≤ most
of_most' (rest z) x = omega (arith, of_unused z x)
of_most' {most} {lo} (used {e = e} {n = n} {t = t} l h s) x = go (side e x) (of_most' s x)
  where
    go : Side e x → length_of t x ≤ most → length_of (e ∷ suc n ∷ t) x ≤ most
    go (below p) ih = omega (arith, of_other e (suc n) t x (omega arith))
    go (above p) ih = omega (arith, of_other e (suc n) t x (omega arith))
    go (same p) ih = rw (← p) (omega (arith, of_same e (suc n) t))

-- no length is above the largest
pub of_most : (most : ℕ) (t : List ℕ) → sound most t ≡ true → (x : ℕ) → length_of t x ≤ most
of_most most t h x = of_most' (seen {most = most} {lo = 0} h) x

-- ---- THE LAW
same_unused : {t u : List ℕ} → Unused t → Unused u → length t ≡ length u → t ≡ u
same_unused none none q = refl
same_unused none (pair w) q = absurd (omega arith)
same_unused (pair z) none q = absurd (omega arith)
same_unused (pair z) (pair w) q = ap (λ (l : List ℕ). 0 ∷ 0 ∷ l) (same_unused z w (omega arith))

module _ {most : ℕ} (e n : ℕ) (t : List ℕ) (f m : ℕ) (u : List ℕ) (st : Sound most (suc e) t) (su : Sound most (suc f) u)
    (hn : suc n ≤ most) (hm : suc m ≤ most) (agree : (x : ℕ) → length_of (e ∷ suc n ∷ t) x ≡ length_of (f ∷ suc m ∷ u) x) where
  not_below : e < f → ⊥
  not_below p = omega (arith, agree e, of_same e (suc n) t, of_below (used (le_refl f) hm su) e p)

  not_above : f < e → ⊥
  not_above p = omega (arith, agree f, of_same f (suc m) u, of_below (used (le_refl e) hn st) f p)

  tails : e ≡ f → (x : ℕ) → length_of t x ≡ length_of u x
  tails p x = go (side e x)
    where
      other : (e ≡ x → ⊥) → length_of t x ≡ length_of u x
      other h = sym (of_other e (suc n) t x h) ∙ agree x ∙ of_other f (suc m) u x (λ q. h (p ∙ q))

      go : Side e x → length_of t x ≡ length_of u x
      go (below q) = other (omega arith)
      go (above q) = other (omega arith)
      go (same q) = of_below st x (omega arith) ∙ sym (of_below su x (omega arith))

  law_step : (e ≡ f → ((x : ℕ) → length_of t x ≡ length_of u x) → t ≡ u) → e ∷ suc n ∷ t ≡ f ∷ suc m ∷ u
  law_step ih = go (side e f)
    where
      go : Side e f → e ∷ suc n ∷ t ≡ f ∷ suc m ∷ u
      go (below p) = absurd (not_below p)
      go (above p) = absurd (not_above p)
      go (same p) =
          let heads : suc n ≡ suc m = sym (of_same e (suc n) t) ∙ agree e ∙ (rw p (of_same f (suc m) u)) in
          let rests : t ≡ u = ih p (tails p) in
          cc

law_from : {most lo : ℕ} {t u : List ℕ} → Sound most lo t → Sound most lo u → length t ≡ length u
    → ((x : ℕ) → length_of t x ≡ length_of u x) → t ≡ u
law_from (rest z) (rest w) q agree = same_unused z w q
law_from (rest z) (used {e = f} {n = m} {t = u} l h s) q agree = absurd (omega (arith, agree f, of_unused z f, of_same f (suc m) u))
law_from (used {e = e} {n = n} {t = t} l h s) (rest w) q agree = absurd (omega (arith, agree e, of_unused w e, of_same e (suc n) t))
law_from (used {e = e} {n = n} {t = t} l h s) (used {e = f} {n = m} {t = u} l' h' s') q agree =
    law_step e n t f m u s s' h h' agree (λ p a. law_from s (rw p s') (omega arith) a)

-- "So one set has exactly one table": a sound table is determined by its size and its function
pub law : (most : ℕ) {t u : List ℕ} → sound most t ≡ true → sound most u ≡ true → length t ≡ length u
    → ((x : ℕ) → length_of t x ≡ length_of u x) → t ≡ u
law most s s' q agree = law_from {most = most} {lo = 0} (seen s) (seen s') q agree

-- a table that is sound is sound at any larger largest length
wider : {most more lo : ℕ} {t : List ℕ} → most ≤ more → Sound most lo t → Sound more lo t
wider p (rest z) = rest z
wider p (used l h s) = used l (le_trans h p) (wider p s)

pub sound_wider : (most more : ℕ) (t : List ℕ) → most ≤ more → sound most t ≡ true → sound more t ≡ true
sound_wider most more t p h = say (wider p (seen {most = most} {lo = 0} h))
