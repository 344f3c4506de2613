-- The laws of a merge: for each id the larger of the two lengths, in a sound table of the same size; the entries grow by the new ids; and
-- the number of rises is 0 only where nothing changes.
-- Assumes nothing.
use Prim.Native.Nat.{ℕ, zero, suc, ◌+◌, ◌≤◌, max}
use Rattle.std.proofs.Common.{le_refl, suc-ne-zero, ◌∙◌}
use native.Mathlib.Omega.{arith}
use Rattle.std.specs.Prelude.{Bool, true, false, cond, ◌≡◌, List, ◌∷◌, length, eqb, ltb}
use Rattle.std.proofs.Math.Path.{refl, ap}
use borrow.Author.Tests.{lt-ltb, ltb-false, eq-eqb, ne_eqb}
use Rattle.rules.specs.meaning.Table.{sound, capacity, length_of, held, raised, held_with, merged, new_ids, rises, held_merged}
use Rattle.rules.proofs.laws.table.Order.{Side, Side.below, Side.same, Side.above, side}
use Rattle.rules.proofs.laws.table.View.{Unused, Unused.none, Unused.pair, Sound, Sound.rest, Sound.used, seen}
use Rattle.rules.proofs.laws.table.Law.{law, of_same, of_other, of_unused, of_below, of_most}
use Rattle.rules.proofs.laws.table.Update.{Fitting, held_with_law, raised_length, raised_sound, raised_of, raised_held, held_fits, fitting_here}

-- which ids are new goes by t's lengths at the ids of s alone
new_same : {most lo : ℕ} {s : List ℕ} → Sound most lo s → (t u : List ℕ) → ((y : ℕ) → lo ≤ y → length_of u y ≡ length_of t y) → new_ids u s ≡ new_ids t s
unfolding new_ids
new_same (rest none) t u h = refl
new_same (rest (pair z)) t u h = refl
new_same (used {e = e} {n = n} {t = s} l m r) t u h = rw (h e l, new_same r t u (λ y p. h y (omega arith)))

pub record Merged (most : ℕ) (t s R : List ℕ) : Type 0 where
  pub ok : sound most R ≡ true
  pub size : length R ≡ length t
  pub many : held R ≡ held t + new_ids t s
  pub of : (y : ℕ) → length_of R y ≡ max (length_of t y) (length_of s y)

merged_none : {most : ℕ} {t s : List ℕ} → Unused s → sound most t ≡ true → Merged most t s (merged t s)
unfolding merged new_ids
merged_none {most} {t} {s} none h = record { ok = h; size = refl; many = omega arith; of = λ y. omega (arith, of_unused none y) }
merged_none {most} {t} {s} (pair z) h = record { ok = h; size = refl; many = omega arith; of = λ y. omega (arith, of_unused (pair z) y) }

both : (b : Bool) (p a q c : ℕ) → p ≡ cond b (suc a) a → q ≡ cond b (suc c) c → p + c ≡ a + q
both true p a q c f g = omega arith
both false p a q c f g = omega arith

-- one entry (e, suc n) absorbed, then the others
module _ {most : ℕ} (t : List ℕ) (e n : ℕ) (s : List ℕ) (h : sound most t ≡ true) (fit : suc n ≤ most) (r : Sound most (suc e) s)
    (room : held_merged t (e ∷ suc n ∷ s) ≤ capacity t) where
  m : ℕ
  m = max (length_of t e) (suc n)

  t' : List ℕ
  unfolding m
  t' = raised t e m

  m_low : 1 ≤ m
  unfolding m
  m_low = omega arith

  m_above : length_of t e ≤ m
  unfolding m
  m_above = omega arith

  m_high : m ≤ most
  unfolding m
  m_high = omega (arith, of_most most t h e)

  fitting : Fitting t e m
  unfolding new_ids
  fitting = go (length_of t e) refl
    where
      go : (k : ℕ) → length_of t e ≡ k → Fitting t e m
      go zero q =
          let one : new_ids t (e ∷ suc n ∷ s) ≡ suc (new_ids t s) = rw q in
          let grows : held_with t e m ≡ suc (held t) = held_with_law t e m m_low ∙ (rw q) in
          omega (arith, room, one, grows)
      go (suc k) q = fitting_here most t e h m (λ z. absurd (omega arith))

  one_ok : sound most t' ≡ true
  unfolding t'
  one_ok = raised_sound most t e h m m_high

  one_of : (y : ℕ) → length_of t' y ≡ cond (eqb e y) m (length_of t y)
  unfolding t'
  one_of y = raised_of most t e h m m_above fitting y

  one_new : new_ids t' s ≡ new_ids t s
  one_new = new_same r t t' (λ y p. one_of y ∙ (rw (ne_eqb e y (omega arith))))

  one_grows : held t' ≡ cond (eqb (length_of t e) 0) (suc (held t)) (held t)
  unfolding t'
  one_grows = raised_held most t e h m fitting ∙ held_with_law t e m m_low

  one_held : held t' + new_ids t' s ≡ held t + new_ids t (e ∷ suc n ∷ s)
  unfolding new_ids
  one_held = ap (λ (k : ℕ). held t' + k) one_new ∙ both (eqb (length_of t e) 0) (held t') (held t) _ (new_ids t s) one_grows refl

  one_room : held_merged t' s ≤ capacity t'
  unfolding t'
  one_room = omega (arith, one_held, room, raised_length t e m)

  one_merged : (R : List ℕ) → Merged most t' s R → Merged most t (e ∷ suc n ∷ s) R
  unfolding t'
  one_merged R a = record {
    ok = a.ok;
    size = a.size ∙ raised_length t e m;
    many = a.many ∙ one_held;
    of = λ y. a.of y ∙ go y (side e y);
  }
    where
      go : (y : ℕ) → Side e y → max (length_of (raised t e m) y) (length_of s y) ≡ max (length_of t y) (length_of (e ∷ suc n ∷ s) y)
      go y (below p) = rw (one_of y, ne_eqb e y (omega arith), of_other e (suc n) s y (omega arith))
      go y (above p) = rw (one_of y, ne_eqb e y (omega arith), of_other e (suc n) s y (omega arith))
      go y (same p) = rw (← p, one_of e, eq-eqb e e refl, of_same e (suc n) s) (unfold m in omega (arith, of_below r e (le_refl (suc e))))

merged_by : {most lo : ℕ} {s : List ℕ} → Sound most lo s → (t : List ℕ) → sound most t ≡ true → held_merged t s ≤ capacity t → Merged most t s (merged t s)
unfolding merged t' m
merged_by (rest z) t h room = merged_none z h
merged_by (used {e = e} {n = n} {t = s} l f r) t h room =
    one_merged t e n s h f r room _ (merged_by r (t' t e n s h f r room) (one_ok t e n s h f r room) (one_room t e n s h f r room))

pub merged_of : (most : ℕ) (t s : List ℕ) → sound most t ≡ true → sound most s ≡ true → held_merged t s ≤ capacity t → Merged most t s (merged t s)
merged_of most t s h r room = merged_by (seen {most = most} {lo = 0} r) t h room

-- ---- rises
-- an id that is new rises
new_rises' : {most lo : ℕ} {s : List ℕ} → Sound most lo s → (t : List ℕ) → new_ids t s ≤ rises t s
unfolding new_ids rises
new_rises' (rest none) t = omega arith
new_rises' (rest (pair z)) t = omega arith
new_rises' (used {e = e} {n = n} {t = s} l f r) t = go (length_of t e) (new_rises' r t)
  where
    either : (b : Bool) (a c : ℕ) → a ≤ c → a ≤ cond b (suc c) c
    either true a c p = omega arith
    either false a c p = p

    go : (k : ℕ) → new_ids t s ≤ rises t s → cond (eqb k 0) (suc (new_ids t s)) (new_ids t s) ≤ cond (ltb k (suc n)) (suc (rises t s)) (rises t s)
    go zero ih = rw (lt-ltb 0 (suc n) (omega arith)) (omega arith)
    go (suc k) ih = rw (ne_eqb (suc k) 0 (omega arith)) (either (ltb (suc k) (suc n)) _ _ ih)

-- no length of s is above t's where none rises
none_rises' : {most lo : ℕ} {s : List ℕ} → Sound most lo s → (t : List ℕ) → rises t s ≡ 0 → (y : ℕ) → length_of s y ≤ length_of t y
unfolding rises
none_rises' (rest z) t q y = omega (arith, of_unused z y)
none_rises' {most} {lo} (used {e = e} {n = n} {t = s} l f r) t q y = go (ltb (length_of t e) (suc n)) refl (side e y) (λ p. none_rises' r t p y) q
  where
    go : (b : Bool) → ltb (length_of t e) (suc n) ≡ b → Side e y → (rises t s ≡ 0 → length_of s y ≤ length_of t y) → cond (ltb (length_of t e) (suc n)) (suc (rises t s)) (rises t s) ≡ 0
        → length_of (e ∷ suc n ∷ s) y ≤ length_of t y
    go true h d ih q = absurd (suc-ne-zero (rises t s) (rw h at q))
    go false h (below p) ih q = rw (of_other e (suc n) s y (omega arith)) (ih (rw h at q))
    go false h (above p) ih q = rw (of_other e (suc n) s y (omega arith)) (ih (rw h at q))
    go false h (same p) ih q = rw (← p, of_same e (suc n) s) (ltb-false _ _ h)

module _ (most : ℕ) (t s : List ℕ) (h : sound most t ≡ true) (r : sound most s ≡ true) where
  pub new_rises : new_ids t s ≤ rises t s
  new_rises = new_rises' (seen {most = most} {lo = 0} r) t

  -- where no length rises none of s is above that of t
  pub none_rises : rises t s ≡ 0 → (y : ℕ) → length_of s y ≤ length_of t y
  none_rises q y = none_rises' (seen {most = most} {lo = 0} r) t q y

  -- a merge in which no length rises needs no room and changes nothing
  pub still_room : rises t s ≡ 0 → held_merged t s ≤ capacity t
  still_room q = omega (arith, new_rises, held_fits most t 0 h)

  pub still : rises t s ≡ 0 → merged t s ≡ t
  still q =
      let a = merged_of most t s h r (still_room q) in
      law most a.ok h a.size (λ y. omega (arith, a.of y, none_rises q y))
