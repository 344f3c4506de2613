-- The laws of the slots: what a sound slot is, what a store does to soundness and to the number that wait, and that the lowest free slot is free.
-- Assumes nothing.
use Rattle.std.specs.Prelude.{ℕ, zero, suc, ◌≤◌, ◌<◌, Bool, true, false, ◌||◌, not, cond, ◌≡◌, refl, List, [], ◌∷◌, length, get_or, set, leb, ltb, eqb}
use Rattle.std.proofs.Common.{not-suc-le-zero, le_of_suc-le-suc, arith, sym, ap, ◌∙◌, leb-true, ltb-true, eqb-true, le-leb, lt-ltb, ne_eqb}
use Rattle.std.proofs.lemmas.Bool.{false≢true, eqb-false, not-true}
use Rattle.rules.specs.declared.Parcel.{Parcel}
use Rattle.rules.proofs.laws.table.View.{parts}
use Rattle.rules.specs.meaning.Parcels.{no_parcel, is_free, is_occupied, slots_sound, waiting, lowest_free, cleared}

-- ---- one slot
-- the parcel of a free slot has length 0
pub free_length : (p : Parcel) → is_free p ≡ true → p.length ≡ 0
unfolding is_free
free_length p h = eqb-true p.length 0 (parts (eqb p.length 0) _ (parts (eqb p.id 0) _ (parts (eqb p.site 0) _ h).1).1).0

-- a free slot is not occupied
pub free_not_occupied : (most sites : ℕ) (p : Parcel) → is_free p ≡ true → is_occupied most sites p ≡ false
unfolding is_occupied
free_not_occupied most sites p h = rw (free_length p h)

-- an occupied slot is not free
pub occupied_not_free : (most sites : ℕ) (p : Parcel) → is_occupied most sites p ≡ true → is_free p ≡ false
occupied_not_free most sites p h = go (is_free p) refl
  where
    go : (b : Bool) → is_free p ≡ b → b ≡ false
    go true q = absurd (false≢true (sym (free_not_occupied most sites p q) ∙ h))
    go false q = refl

-- a length of 1 to the largest, a site of the run and a sender that is another one make an occupied slot
pub occupied_by : (most sites : ℕ) (p : Parcel) → 1 ≤ p.length → p.length ≤ most → p.site < sites → p.sender < sites → (p.sender ≡ p.site → ⊥) → is_occupied most sites p ≡ true
unfolding is_occupied
occupied_by most sites p a b c d e =
    rw (le-leb 1 p.length a, le-leb p.length most b, lt-ltb p.site sites c, lt-ltb p.sender sites d, ne_eqb p.sender p.site e)

-- and an occupied slot has them
pub occupied_has : (most sites : ℕ) (p : Parcel) → is_occupied most sites p ≡ true
    → (1 ≤ p.length) × (p.length ≤ most) × (p.site < sites) × (p.sender < sites) × (p.sender ≡ p.site → ⊥)
unfolding is_occupied
occupied_has most sites p h =
    let a = parts (leb 1 p.length) _ h in
    let b = parts (leb p.length most) _ a.1 in
    let c = parts (ltb p.site sites) _ b.1 in
    let d = parts (ltb p.sender sites) _ c.1 in
    (leb-true 1 p.length a.0, leb-true p.length most b.0, ltb-true p.site sites c.0, ltb-true p.sender sites d.0, eqb-false p.sender p.site (not-true _ d.1))

-- free or occupied, never both
pub one_of_two : (most sites : ℕ) (p : Parcel) → is_free p || is_occupied most sites p ≡ true → is_free p ≡ not (is_occupied most sites p)
one_of_two most sites p h = go (is_free p) refl
  where
    go : (b : Bool) → is_free p ≡ b → is_free p ≡ not (is_occupied most sites p)
    go true q = rw (free_not_occupied most sites p q) q
    go false q =
        let o : is_occupied most sites p ≡ true = rw q at h in
        rw o q

-- ---- each slot of sound ones; past the last, none stands
pub slots_at : (most sites : ℕ) (ss : List Parcel) → slots_sound most sites ss ≡ true → (i : ℕ) → is_free (get_or ss i no_parcel) || is_occupied most sites (get_or ss i no_parcel) ≡ true
unfolding slots_sound is_free
slots_at most sites [] h i = refl
slots_at most sites (p ∷ ps) h zero = (parts (is_free p || is_occupied most sites p) _ h).0
slots_at most sites (p ∷ ps) h (suc i) = slots_at most sites ps (parts (is_free p || is_occupied most sites p) _ h).1 i

-- in a sound state a slot is free exactly where it is not occupied
pub slot_free : (most sites : ℕ) (ss : List Parcel) → slots_sound most sites ss ≡ true → (i : ℕ) → is_free (get_or ss i no_parcel) ≡ not (is_occupied most sites (get_or ss i no_parcel))
slot_free most sites ss h i = one_of_two most sites (get_or ss i no_parcel) (slots_at most sites ss h i)

-- ---- a store
-- a sound parcel stored leaves the slots sound
pub set_slots_sound : (most sites : ℕ) (ss : List Parcel) (i : ℕ) (p : Parcel) → slots_sound most sites ss ≡ true → is_free p || is_occupied most sites p ≡ true
    → slots_sound most sites (set ss i p) ≡ true
unfolding slots_sound
set_slots_sound most sites [] i p h g = refl
set_slots_sound most sites (x ∷ xs) zero p h g = rw (g, (parts (is_free x || is_occupied most sites x) _ h).1)
set_slots_sound most sites (x ∷ xs) (suc i) p h g =
    let a = parts (is_free x || is_occupied most sites x) _ h in
    rw (a.0, set_slots_sound most sites xs i p a.1 g)

-- a free slot taken: one more waits
pub waiting_taken : (ss : List Parcel) (i : ℕ) (p : Parcel) → i < length ss → is_free (get_or ss i no_parcel) ≡ true → is_free p ≡ false
    → waiting (set ss i p) ≡ suc (waiting ss)
unfolding waiting
waiting_taken [] i p l h g = absurd (not-suc-le-zero l)
waiting_taken (x ∷ xs) zero p l h g = rw (h, g)
waiting_taken (x ∷ xs) (suc i) p l h g = go (is_free x) (waiting_taken xs i p (le_of_suc-le-suc l) h g)
  where
    go : (b : Bool) → waiting (set xs i p) ≡ suc (waiting xs)
        → cond b (waiting (set xs i p)) (suc (waiting (set xs i p))) ≡ suc (cond b (waiting xs) (suc (waiting xs)))
    go true e = e
    go false e = ap suc e

-- an occupied slot freed: one fewer waits
pub waiting_freed : (ss : List Parcel) (i : ℕ) (p : Parcel) → i < length ss → is_free (get_or ss i no_parcel) ≡ false → is_free p ≡ true
    → suc (waiting (set ss i p)) ≡ waiting ss
unfolding waiting
waiting_freed [] i p l h g = absurd (not-suc-le-zero l)
waiting_freed (x ∷ xs) zero p l h g = rw (h, g)
waiting_freed (x ∷ xs) (suc i) p l h g = go (is_free x) (waiting_freed xs i p (le_of_suc-le-suc l) h g)
  where
    go : (b : Bool) → suc (waiting (set xs i p)) ≡ waiting xs
        → suc (cond b (waiting (set xs i p)) (suc (waiting (set xs i p)))) ≡ cond b (waiting xs) (suc (waiting xs))
    go true e = e
    go false e = ap suc e

-- ---- the lowest free slot is free, where there is one
pub lowest_free_law : (ss : List Parcel) → lowest_free ss < length ss → is_free (get_or ss (lowest_free ss) no_parcel) ≡ true
unfolding lowest_free
lowest_free_law [] l = absurd (not-suc-le-zero l)
lowest_free_law (x ∷ xs) l = go (is_free x) refl (lowest_free_law xs) l
  where
    go : (b : Bool) → is_free x ≡ b → (lowest_free xs < length xs → is_free (get_or xs (lowest_free xs) no_parcel) ≡ true)
        → cond b 0 (suc (lowest_free xs)) < suc (length xs) → is_free (get_or (x ∷ xs) (cond b 0 (suc (lowest_free xs))) no_parcel) ≡ true
    go true q ih l = q
    go false q ih l = ih (le_of_suc-le-suc l)

-- where none below a number is free, a store at or above it leaves none free below it
pub set_lowest : (ss : List Parcel) (i : ℕ) (p : Parcel) (low : ℕ) → low ≤ i → low ≤ lowest_free ss → low ≤ lowest_free (set ss i p)
unfolding lowest_free
set_lowest ss i p zero a b = omega arith
set_lowest [] i p (suc low) a b = b
set_lowest (x ∷ xs) zero p (suc low) a b = absurd (not-suc-le-zero a)
set_lowest (x ∷ xs) (suc i) p (suc low) a b = go (is_free x) b (set_lowest xs i p low (le_of_suc-le-suc a))
  where
    go : (f : Bool) → suc low ≤ cond f 0 (suc (lowest_free xs)) → (low ≤ lowest_free xs → low ≤ lowest_free (set xs i p)) → suc low ≤ cond f 0 (suc (lowest_free (set xs i p)))
    go true b ih = absurd (not-suc-le-zero b)
    go false b ih = let h = ih (le_of_suc-le-suc b) in omega (arith, h)

-- and no number of a slot is above the number of slots
pub lowest_within : (ss : List Parcel) → lowest_free ss ≤ length ss
unfolding lowest_free
lowest_within [] = omega arith
lowest_within (x ∷ xs) = go (is_free x) (lowest_within xs)
  where
    go : (f : Bool) → lowest_free xs ≤ length xs → cond f 0 (suc (lowest_free xs)) ≤ suc (length xs)
    go true h = omega arith
    go false h = omega (arith, h)

-- ---- slots made free
-- all of them free: sound, as many as before, and none waits
pub cleared_sound : (most sites : ℕ) (ss : List Parcel) → slots_sound most sites (cleared (length ss) ss) ≡ true
unfolding slots_sound cleared is_free
cleared_sound most sites [] = refl
cleared_sound most sites (x ∷ xs) = cleared_sound most sites xs

pub cleared_at : (ss : List Parcel) (i : ℕ) → get_or (cleared (length ss) ss) i no_parcel ≡ no_parcel
unfolding cleared
cleared_at [] i = refl
cleared_at (x ∷ xs) zero = refl
cleared_at (x ∷ xs) (suc i) = cleared_at xs i

pub cleared_length : (ss : List Parcel) → length (cleared (length ss) ss) ≡ length ss
unfolding cleared
cleared_length [] = refl
cleared_length (x ∷ xs) = ap suc (cleared_length xs)

pub cleared_waiting : (ss : List Parcel) → waiting (cleared (length ss) ss) ≡ 0
unfolding waiting cleared is_free
cleared_waiting [] = refl
cleared_waiting (x ∷ xs) = cleared_waiting xs
