-- The laws of a table with another length for one id: it stays sound and of one size, its function is s{e ↦ n}, and the number of
-- entries grows by 1 exactly where the id had none.
-- Assumes nothing.
use Prim.Native.Nat.{ℕ, zero, suc, ◌≤◌, ◌<◌, zero-le}
use Rattle.std.proofs.Common.{le_refl, arith, sym, ap, ◌∙◌, ⊎_elim, inl, inr, lt-ltb, le-ltb, eq-eqb, ne_eqb}
use Rattle.std.specs.Prelude.{Bool, true, false, cond, ◌≡◌, ◌⊎◌, List, [], ◌∷◌, length, eqb, ltb}
use Rattle.std.proofs.Math.Path.{refl}
use Rattle.rules.specs.meaning.Table.{sound, capacity, length_of, held, push, with_length, raised, held_with}
use Rattle.rules.proofs.laws.table.Order.{Side, Side.below, Side.same, Side.above, side}
use Rattle.rules.proofs.laws.table.View.{Unused, Unused.none, Unused.pair, Sound, Sound.rest, Sound.used, seen, say}
use Rattle.rules.proofs.laws.table.Law.{of_same, of_other, of_unused, of_below, of_most, law}

-- there is an unused place
abbrev pub Roomy : List ℕ → Type 0
Roomy t = held t < capacity t

-- there is an unused place, or the id has an entry already
abbrev pub Room : List ℕ → ℕ → Type 0
Room t e = Roomy t ⊎ (length_of t e ≡ 0 → ⊥)

-- ---- the number of words stays
pub length_push : (e n : ℕ) (t : List ℕ) → length (push e n t) ≡ length t
unfolding push
length_push e n [] = refl
length_push e n (w ∷ []) = refl
length_push e n (x ∷ zero ∷ t) = refl
length_push e n (x ∷ suc m ∷ t) = ap (λ (k : ℕ). suc (suc k)) (length_push x (suc m) t)

pub length_with : (t : List ℕ) (e n : ℕ) → length (with_length t e n) ≡ length t
unfolding with_length
length_with [] e n = refl
length_with (w ∷ []) e n = refl
length_with (x ∷ zero ∷ t) e n = refl
length_with (x ∷ suc m ∷ t) e n = go (ltb x e) (eqb x e) (length_with t e n)
  where
    go : (b b' : Bool) → length (with_length t e n) ≡ length t
        → length (cond b (x ∷ suc m ∷ with_length t e n) (cond b' (x ∷ n ∷ t) (e ∷ n ∷ push x (suc m) t))) ≡ suc (suc (length t))
    go true b' ih = ap (λ (k : ℕ). suc (suc k)) ih
    go false true ih = refl
    go false false ih = ap (λ (k : ℕ). suc (suc k)) (length_push x (suc m) t)

-- ---- withLength's three cases, as equations
pub with_below : (x m : ℕ) (t : List ℕ) (e n : ℕ) → x < e → with_length (x ∷ suc m ∷ t) e n ≡ x ∷ suc m ∷ with_length t e n
unfolding with_length
with_below x m t e n p = rw (lt-ltb x e p)

pub with_at : (x m : ℕ) (t : List ℕ) (e n : ℕ) → x ≡ e → with_length (x ∷ suc m ∷ t) e n ≡ x ∷ n ∷ t
unfolding with_length
with_at x m t e n p = rw (le-ltb x e (omega arith), eq-eqb x e p)

pub with_above : (x m : ℕ) (t : List ℕ) (e n : ℕ) → e < x → with_length (x ∷ suc m ∷ t) e n ≡ e ∷ n ∷ push x (suc m) t
unfolding with_length
with_above x m t e n p = rw (le-ltb x e (omega arith), ne_eqb x e (omega arith))

pub held_unused : {t : List ℕ} → Unused t → held t ≡ 0
unfolding held
held_unused none = refl
held_unused (pair z) = refl

pub suc_cond : (b : Bool) (x y : ℕ) → suc (cond b x y) ≡ cond b (suc x) (suc y)
suc_cond true x y = refl
suc_cond false x y = refl

-- ---- soundness is kept
sound_push : {most lo : ℕ} {t : List ℕ} (x m : ℕ) → lo ≤ x → suc m ≤ most → Sound most (suc x) t → Sound most lo (push x (suc m) t)
unfolding push
sound_push x m l h (rest none) = rest none
sound_push x m l h (rest (pair z)) = used l h (rest z)
sound_push x m l h (used {e = e} {n = n} l' h' s) = used l h (sound_push e n l' h' s)

sound_with' : {most lo : ℕ} {t : List ℕ} (e n : ℕ) → lo ≤ e → suc n ≤ most → Sound most lo t → Sound most lo (with_length t e (suc n))
unfolding with_length
sound_with' e n l h (rest none) = rest none
sound_with' e n l h (rest (pair z)) = used l h (rest z)
sound_with' {most} {lo} e n l h (used {e = x} {n = m} {t = t} l' h' s) = go (side x e) (λ p. sound_with' e n p h s)
  where
    go : Side x e → (x < e → Sound most (suc x) (with_length t e (suc n))) → Sound most lo (with_length (x ∷ suc m ∷ t) e (suc n))
    go (below p) ih = rw (with_below x m t e (suc n) p) (used l' h' (ih p))
    go (same p) ih = rw (with_at x m t e (suc n) p) (used l' h s)
    go (above p) ih = rw (with_above x m t e (suc n) p) (used l h (sound_push x m p h' s))

-- ---- n at e, and what it was elsewhere
push_of : {most lo : ℕ} {t : List ℕ} (x m : ℕ) → Sound most lo t → Roomy t → (y : ℕ) → length_of (push x m t) y ≡ cond (eqb x y) m (length_of t y)
unfolding push length_of held
push_of x m (rest none) r y = absurd (omega arith)
push_of x m (rest (pair z)) r y = ap (cond (eqb x y) m) (of_unused z y ∙ sym (of_unused (pair z) y))
push_of x m (used {e = e} {n = n} l h s) r y = ap (cond (eqb x y) m) (push_of e (suc n) s (omega arith) y)

swap : (x e y a b c : ℕ) → (x ≡ e → ⊥) → cond (eqb x y) a (cond (eqb e y) b c) ≡ cond (eqb e y) b (cond (eqb x y) a c)
swap x e y a b c h = go (side x y)
  where
    go : Side x y → cond (eqb x y) a (cond (eqb e y) b c) ≡ cond (eqb e y) b (cond (eqb x y) a c)
    go (below p) = rw (ne_eqb x y (omega arith))
    go (above p) = rw (ne_eqb x y (omega arith))
    go (same p) = rw (eq-eqb x y p, ne_eqb e y (λ q. h (p ∙ sym q)))

twice : (b : Bool) (n m z : ℕ) → cond b n z ≡ cond b n (cond b m z)
twice true n m z = refl
twice false n m z = refl

-- room in a table is room in what follows its first entry
room_tail : (x m : ℕ) (t : List ℕ) (e : ℕ) → (x ≡ e → ⊥) → Room (x ∷ suc m ∷ t) e → Room t e
unfolding held
room_tail x m t e h r = ⊎_elim (λ p. inl (omega arith)) (λ q. inr (λ z. q (of_other x (suc m) t e h ∙ z))) r

-- an id below the first has no entry, so room is an unused place
room_push : {most : ℕ} {x m e : ℕ} {t : List ℕ} → suc m ≤ most → Sound most (suc x) t → e < x → Room (x ∷ suc m ∷ t) e → Roomy t
unfolding held
room_push {most} {x} {m} {e} {t} h s p r = ⊎_elim (λ q. omega arith) (λ q. absurd (q (of_below (used (le_refl x) h s) e p))) r

no_room_law : (e : ℕ) → Room [] e → ⊥
unfolding held length_of
no_room_law e r = ⊎_elim (λ p. omega arith) (λ h. h refl) r

with_of' : {most lo : ℕ} {t : List ℕ} (e n : ℕ) → Sound most lo t → Room t e → (y : ℕ) → length_of (with_length t e n) y ≡ cond (eqb e y) n (length_of t y)
unfolding with_length length_of
with_of' e n (rest none) r y = absurd (no_room_law e r)
with_of' e n (rest (pair z)) r y = ap (cond (eqb e y) n) (of_unused z y ∙ sym (of_unused (pair z) y))
with_of' {most} {lo} e n (used {e = x} {n = m} {t = t} l h s) r y = go (side x e) (λ r'. with_of' e n s r' y)
  where
    go : Side x e → (Room t e → length_of (with_length t e n) y ≡ cond (eqb e y) n (length_of t y))
        → length_of (with_length (x ∷ suc m ∷ t) e n) y ≡ cond (eqb e y) n (length_of (x ∷ suc m ∷ t) y)
    go (below p) ih =
        rw (with_below x m t e n p)
        (ap (cond (eqb x y) (suc m)) (ih (room_tail x m t e (omega arith) r)) ∙ swap x e y (suc m) n (length_of t y) (omega arith))
    go (same p) ih = rw (with_at x m t e n p, p) (twice (eqb e y) n (suc m) (length_of t y))
    go (above p) ih = rw (with_above x m t e n p) (ap (cond (eqb e y) n) (push_of x (suc m) s (room_push h s p r) y))

-- ---- the entries in use
push_held : {most lo : ℕ} {t : List ℕ} (x m : ℕ) → Sound most lo t → Roomy t → held (push x (suc m) t) ≡ suc (held t)
unfolding push held
push_held x m (rest none) r = absurd (omega arith)
push_held x m (rest (pair z)) r = ap suc (held_unused z)
push_held x m (used {e = e} {n = n} l h s) r = ap suc (push_held e n s (omega arith))

held_with' : {most lo : ℕ} {t : List ℕ} (e n : ℕ) → Sound most lo t → Room t e
    → held (with_length t e (suc n)) ≡ cond (eqb (length_of t e) 0) (suc (held t)) (held t)
unfolding with_length length_of held
held_with' e n (rest none) r = absurd (no_room_law e r)
held_with' e n (rest (pair z)) r = rw (of_unused (pair z) e) (ap suc (held_unused z))
held_with' {most} {lo} e n (used {e = x} {n = m} {t = t} l h s) r = go (side x e) (λ r'. held_with' e n s r')
  where
    go : Side x e → (Room t e → held (with_length t e (suc n)) ≡ cond (eqb (length_of t e) 0) (suc (held t)) (held t))
        → held (with_length (x ∷ suc m ∷ t) e (suc n)) ≡ cond (eqb (length_of (x ∷ suc m ∷ t) e) 0) (suc (suc (held t))) (suc (held t))
    go (below p) ih =
        rw (with_below x m t e (suc n) p, of_other x (suc m) t e (omega arith))
        (ap suc (ih (room_tail x m t e (omega arith) r)) ∙ suc_cond (eqb (length_of t e) 0) (suc (held t)) (held t))
    go (same p) ih = rw (with_at x m t e (suc n) p, p, of_same e (suc m) t, ne_eqb (suc m) 0 (omega arith))
    go (above p) ih = rw (with_above x m t e (suc n) p, of_below (used (le_refl x) h s) e p) (ap suc (push_held x m s (room_push h s p r)))

-- ---- raised: the same laws at any length, 0 among them
pub raised_with : (t : List ℕ) (e n : ℕ) → 1 ≤ n → raised t e n ≡ with_length t e n
unfolding raised
raised_with t e zero p = absurd (omega arith)
raised_with t e (suc n) p = refl

pub held_with_law : (t : List ℕ) (e n : ℕ) → 1 ≤ n → held_with t e n ≡ cond (eqb (length_of t e) 0) (suc (held t)) (held t)
unfolding held_with
held_with_law t e zero p = absurd (omega arith)
held_with_law t e (suc n) p = refl

pub raised_length : (t : List ℕ) (e n : ℕ) → length (raised t e n) ≡ length t
unfolding raised
raised_length t e zero = refl
raised_length t e (suc n) = length_with t e (suc n)

nothing : (t : List ℕ) (e : ℕ) → length_of t e ≤ 0 → (y : ℕ) → length_of t y ≡ cond (eqb e y) 0 (length_of t y)
nothing t e h y = go (side e y)
  where
    go : Side e y → length_of t y ≡ cond (eqb e y) 0 (length_of t y)
    go (below p) = rw (ne_eqb e y (omega arith))
    go (above p) = rw (ne_eqb e y (omega arith))
    go (same p) = rw (← p, eq-eqb e e refl) (omega arith)

-- the entries that a raise needs are within the room: what its acceptance says
abbrev pub Fitting : List ℕ → ℕ → ℕ → Type 0
Fitting t e n = held_with t e n ≤ capacity t

fitting_room : (t : List ℕ) (e n : ℕ) → Fitting t e (suc n) → Room t e
unfolding held_with
fitting_room t e n f = go (length_of t e) refl f
  where
    go : (k : ℕ) → length_of t e ≡ k → cond (eqb (length_of t e) 0) (suc (held t)) (held t) ≤ capacity t → Room t e
    go zero q f = inl (rw q at f)
    go (suc k) q f = inr (λ z. omega arith)

held_capacity : {most lo : ℕ} {t : List ℕ} → Sound most lo t → held t ≤ capacity t
unfolding held
held_capacity (rest none) = omega arith
held_capacity (rest (pair z)) = omega arith
held_capacity (used l h s) = omega (arith, held_capacity s)

module _ (most : ℕ) (t : List ℕ) (e : ℕ) (ok : sound most t ≡ true) where
  pub raised_sound : (n : ℕ) → n ≤ most → sound most (raised t e n) ≡ true
  unfolding raised
  raised_sound zero h = ok
  raised_sound (suc n) h = say (sound_with' e n (zero-le {n = e}) h (seen {most = most} {lo = 0} ok))

  -- s{e ↦ n}, for a length that does not fall
  pub raised_of : (n : ℕ) → length_of t e ≤ n → Fitting t e n → (y : ℕ) → length_of (raised t e n) y ≡ cond (eqb e y) n (length_of t y)
  unfolding raised
  raised_of zero h f y = nothing t e h y
  raised_of (suc n) h f y = with_of' e (suc n) (seen {most = most} {lo = 0} ok) (fitting_room t e n f) y

  -- one entry more exactly where an id without one is given a length
  pub raised_held : (n : ℕ) → Fitting t e n → held (raised t e n) ≡ held_with t e n
  unfolding raised held_with
  raised_held zero f = refl
  raised_held (suc n) f = held_with' e n (seen {most = most} {lo = 0} ok) (fitting_room t e n f)

  pub held_fits : held t ≤ capacity t
  held_fits = held_capacity (seen {most = most} {lo = 0} ok)

  -- an id that has an entry, and an id whose length stays 0, need no room
  pub fitting_here : (n : ℕ) → (length_of t e ≡ 0 → n ≡ 0) → Fitting t e n
  unfolding held_with
  fitting_here zero h = held_fits
  fitting_here (suc n) h = rw (ne_eqb (length_of t e) 0 (λ z. omega (arith, h z))) held_fits

  -- a length raised to itself changes nothing
  pub raised_same : raised t e (length_of t e) ≡ t
  raised_same = law most (raised_sound (length_of t e) (of_most most t ok e)) ok (raised_length t e (length_of t e)) (λ y. raised_of (length_of t e) (le_refl (length_of t e)) (fitting_here (length_of t e) (λ z. z)) y ∙ go y (side e y))
    where
      go : (y : ℕ) → Side e y → cond (eqb e y) (length_of t e) (length_of t y) ≡ length_of t y
      go y (below p) = rw (ne_eqb e y (omega arith))
      go y (above p) = rw (ne_eqb e y (omega arith))
      go y (same p) = rw (← p, eq-eqb e e refl)
