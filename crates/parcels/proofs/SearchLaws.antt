-- A search for a free slot that ends at the first one: what its turns come to.
--     found        what a search gives that has come to i, and is to end at `end`
--     find_first   before any slot is seen, from a number on below which none is free.        find_next    one slot seen.        find_last    the search is over
--     lowest_here  the slot i is free: it is the lowest.        lowest_on    it is not: none up to it is
use Rattle.std.specs.Prelude.{◌≡◌, refl, ℕ, zero, suc, ◌+◌, ◌<◌, ◌≤◌, Bool, true, false, cond, List, [], ◌∷◌, ltb, length, drop, get_or}
use Rattle.std.proofs.Common.{sym, ap, ◌∙◌, arith, zero-add, add-one, drop-cons, lt-ltb, le-ltb, ltb-false}
use Rattle.std.proofs.Math.Seq.{drop-length}
use Rattle.rules.specs.declared.Parcel.{Parcel}
use Rattle.rules.specs.meaning.Parcels.{no_parcel, is_free, lowest_free}
use Rattle.rules.proofs.laws.run.Slots.{lowest_within}

abbrev pub found : List Parcel → ℕ → ℕ → ℕ
found ys i end = cond (ltb i end) (i + lowest_free (drop i ys)) end

-- where none is free before i, the search may begin there
pub lowest_from : (ys : List Parcel) (i : ℕ) → i ≤ lowest_free ys → i + lowest_free (drop i ys) ≡ lowest_free ys
unfolding lowest_free
lowest_from ys zero h = zero-add (lowest_free ys)
lowest_from [] (suc i) h = absurd (omega (arith, h))
lowest_from (y ∷ ys) (suc i) h = go (is_free y) h (lowest_from ys i)
  where
    go : (b : Bool) → suc i ≤ cond b 0 (suc (lowest_free ys)) → (i ≤ lowest_free ys → i + lowest_free (drop i ys) ≡ lowest_free ys) → suc i + lowest_free (drop i ys) ≡ cond b 0 (suc (lowest_free ys))
    go true h ih = absurd (omega (arith, h))
    go false h ih = let e = ih (omega (arith, h)) in omega (arith, e)

pub find_first : (ys : List Parcel) (wanted : Bool) (low : ℕ) → low ≤ lowest_free ys → found ys low (cond wanted (length ys) 0) ≡ cond wanted (lowest_free ys) 0
find_first ys false low h = ap (λ (b : Bool). cond b (low + lowest_free (drop low ys)) 0) (le-ltb low 0 (omega arith))
find_first ys true low h = go (ltb low (length ys)) refl
  where
    go : (b : Bool) → ltb low (length ys) ≡ b → cond b (low + lowest_free (drop low ys)) (length ys) ≡ lowest_free ys
    go true e = lowest_from ys low h
    go false e = omega (arith, lowest_within ys, h, ltb-false low (length ys) e)

-- the slot that is seen is free, or it is not
next_by : (f : Bool) (ys : List Parcel) (i l : ℕ) → i < length ys → l ≡ lowest_free (drop (i + 1) ys) → found ys (i + 1) (cond f i (length ys)) ≡ i + cond f 0 (suc l)
unfolding lowest_free
next_by true ys i l h e = ap (λ (b : Bool). cond b ((i + 1) + lowest_free (drop (i + 1) ys)) i) (le-ltb (i + 1) i (omega arith)) ∙ omega arith
next_by false ys i l h e = go (ltb (i + 1) (length ys)) refl
  where
    go : (b : Bool) → ltb (i + 1) (length ys) ≡ b → cond b ((i + 1) + lowest_free (drop (i + 1) ys)) (length ys) ≡ i + suc l
    go true q = omega (arith, e)
    go false q =
        let at : i + 1 ≡ length ys = omega (arith, h, ltb-false (i + 1) (length ys) q) in
        let none : l ≡ 0 = e ∙ ap (λ (k : ℕ). lowest_free (drop k ys)) at ∙ ap lowest_free (drop-length ys) in
        omega (arith, at, none)

pub find_next : (ys : List Parcel) (i : ℕ) → i < length ys → found ys (i + 1) (cond (is_free (get_or ys i no_parcel)) i (length ys)) ≡ found ys i (length ys)
unfolding lowest_free
find_next ys i h =
    next_by (is_free (get_or ys i no_parcel)) ys i (lowest_free (drop (i + 1) ys)) h refl
    ∙ sym (ap (λ (b : Bool). cond b (i + lowest_free (drop i ys)) (length ys)) (lt-ltb i (length ys) h) ∙ rw (drop-cons ys i no_parcel h, add-one i) refl)

pub find_last : (ys : List Parcel) (i end : ℕ) → ltb i end ≡ false → found ys i end ≡ end
find_last ys i end e = ap (λ (b : Bool). cond b (i + lowest_free (drop i ys)) end) e

-- ---- a search that returns at the first free slot
-- past a slot before which none is free
next : (b : Bool) (l i : ℕ) → suc i ≤ cond b 0 (suc l) → (b ≡ false) × (i ≤ l)
next true l i h = absurd (omega (arith, h))
next false l i h = (refl, omega (arith, h))

pub lowest_here : (ys : List Parcel) (i : ℕ) → i < length ys → i ≤ lowest_free ys → is_free (get_or ys i no_parcel) ≡ true → i ≡ lowest_free ys
unfolding lowest_free
lowest_here [] i less h f = absurd (omega (arith, less))
lowest_here (y ∷ ys) zero less h f = rw f
lowest_here (y ∷ ys) (suc i) less h f =
    let p = next (is_free y) (lowest_free ys) i h in
    rw (p.0) (ap suc (lowest_here ys i (omega (arith, less)) p.1 f))

pub lowest_on : (ys : List Parcel) (i : ℕ) → i < length ys → i ≤ lowest_free ys → is_free (get_or ys i no_parcel) ≡ false → i + 1 ≤ lowest_free ys
unfolding lowest_free
lowest_on [] i less h f = absurd (omega (arith, less))
lowest_on (y ∷ ys) zero less h f = rw f (omega arith)
lowest_on (y ∷ ys) (suc i) less h f =
    let p = next (is_free y) (lowest_free ys) i h in
    let ih = lowest_on ys i (omega (arith, less)) p.1 f in
    rw (p.0) (omega (arith, ih))
