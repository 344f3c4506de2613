-- The ids of a table: as many different ones as it has entries, and the entries that an operation needs, counted as different ids.
-- Assumes nothing.
use Prim.Native.Nat.{ℕ, zero, suc, ◌+◌, ◌≤◌}
use Rattle.std.proofs.Math.Nat.{le_refl}
use Rattle.std.proofs.Common.{add-zero, arith, sym, ap, ◌∙◌, lt-ltb, ne_eqb}
use Rattle.std.specs.Prelude.{Bool, not, ◌≡◌, refl, length, eqb, ltb}
use Rattle.std.proofs.Math.Bool.{true, false, cond}
use mathlib.Core.List.{List, [], ◌∷◌, ◌++◌}
use Rattle.std.proofs.lemmas.Bool.{eqb-false, not-true}
use Rattle.rules.specs.meaning.Table.{sound, length_of, held, held_with, new_ids, held_merged}
use Rattle.rules.proofs.laws.table.View.{Unused, Unused.none, Unused.pair, Sound, Sound.rest, Sound.used, seen}
use Rattle.rules.specs.meaning.Steps.{ids_of}
use Rattle.rules.specs.meaning.Ids.{among, distinct}
use Rattle.rules.proofs.laws.history.Climbing.{Climbing, among_below, climbing_distinct}
use Rattle.rules.proofs.laws.history.Rising.{risen, risen_climbs, risen_among}
use Rattle.rules.proofs.laws.history.Distinct.{among_append, distinct_right}

-- ---- the ids of a table
-- they are as many as its entries
pub ids_many : (t : List ℕ) → length (ids_of t) ≡ held t
unfolding ids_of held
ids_many [] = refl
ids_many (w ∷ []) = refl
ids_many (e ∷ zero ∷ t) = refl
ids_many (e ∷ suc n ∷ t) = ap suc (ids_many t)

-- an unused table has none
pub ids_unused : {t : List ℕ} → Unused t → ids_of t ≡ []
unfolding ids_of
ids_unused none = refl
ids_unused (pair z) = refl

-- they are the ids whose length is above none, as where a table comes into one that holds nothing
ids_risen : (t : List ℕ) → ids_of t ≡ risen [] t
unfolding ids_of risen length_of
ids_risen [] = refl
ids_risen (w ∷ []) = refl
ids_risen (e ∷ zero ∷ t) = refl
ids_risen (e ∷ suc n ∷ t) = rw (lt-ltb 0 (suc n) (omega arith)) (ap (λ (ids : List ℕ). e ∷ ids) (ids_risen t))

ids_climb : {most lo : ℕ} {t : List ℕ} → Sound most lo t → Climbing lo (ids_of t)
ids_climb {t = t} s = rw (ids_risen t) (risen_climbs s [])

above_none : (n : ℕ) → ltb 0 n ≡ not (eqb n 0)
above_none zero = refl
above_none (suc n) = rw (lt-ltb 0 (suc n) (omega arith), ne_eqb (suc n) 0 (omega arith))

module _ (most : ℕ) (t : List ℕ) (ok : sound most t ≡ true) where
  -- each is above the one before, so there are as many different ids as entries
  pub ids_distinct : distinct (ids_of t) ≡ held t
  ids_distinct = climbing_distinct (ids_climb (seen {most = most} {lo = 0} ok)) ∙ ids_many t

  -- an id is among them exactly where it has a length above 0
  pub ids_among : (x : ℕ) → among x (ids_of t) ≡ not (eqb (length_of t x) 0)
  unfolding length_of
  ids_among x = rw (ids_risen t) (risen_among most [] t ok x) ∙ above_none (length_of t x)

  -- one that has a length is among them
  pub held_among : (x : ℕ) → 1 ≤ length_of t x → among x (ids_of t) ≡ true
  held_among x h = rw (ids_among x, ne_eqb (length_of t x) 0 (omega arith))

  -- and one that is among them has a length
  pub among_held : (x : ℕ) → among x (ids_of t) ≡ true → 1 ≤ length_of t x
  among_held x h = omega (arith, eqb-false (length_of t x) 0 (not-true _ (sym (ids_among x) ∙ h)))

  -- ---- the entries that a step needs, as different ids
  -- a length for one id needs no more entries than there are different ids with that one
  pub needed_for_one : (e n : ℕ) → held_with t e n ≤ distinct (e ∷ ids_of t)
  unfolding held_with distinct
  needed_for_one e zero = rw (← ids_distinct) (distinct_right (e ∷ []) (ids_of t))
  needed_for_one e (suc n) = rw (ids_among e, ids_distinct) (go (eqb (length_of t e) 0))
    where
      go : (b : Bool) → cond b (suc (held t)) (held t) ≤ cond (not b) (held t) (suc (held t))
      go true = le_refl (suc (held t))
      go false = le_refl (held t)

-- the ids that t has not are those that raise the number of different ids
needed_by : {most lo : ℕ} {s : List ℕ} → Sound most lo s → (t : List ℕ) → sound most t ≡ true → held t + new_ids t s ≡ distinct (ids_of s ++ ids_of t)
unfolding new_ids ids_of distinct
needed_by {most} (rest none) t ok = add-zero (held t) ∙ sym (ids_distinct most t ok)
needed_by {most} (rest (pair z)) t ok = add-zero (held t) ∙ sym (ids_distinct most t ok)
needed_by {most} (used {e = e} {n = n} {t = s} l m r) t ok =
    rw (among_append e (ids_of s) (ids_of t), among_below (ids_climb r) e (le_refl (suc e)), ids_among most t ok e) (go (eqb (length_of t e) 0) (needed_by r t ok))
  where
    go : (b : Bool) → held t + new_ids t s ≡ distinct (ids_of s ++ ids_of t)
        → held t + cond b (suc (new_ids t s)) (new_ids t s) ≡ cond (not b) (distinct (ids_of s ++ ids_of t)) (suc (distinct (ids_of s ++ ids_of t)))
    go true ih = omega arith
    go false ih = ih

-- the entries that a merge needs are the different ids of both tables
pub needed_for_all : (most : ℕ) (t s : List ℕ) → sound most t ≡ true → sound most s ≡ true → held_merged t s ≡ distinct (ids_of s ++ ids_of t)
needed_for_all most t s ok other = needed_by (seen {most = most} {lo = 0} other) t ok
