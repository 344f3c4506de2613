-- The laws of the pairs that a site absorbs: the largest length among pairs of two lists, of one pair, and of a table's entries; and that it
-- goes by the set of the pairs alone.
-- Assumes nothing.
use Rattle.std.specs.Prelude.{ℕ, zero, suc, ◌≤◌, Bool, true, false, ◌&&◌, cond, ◌≡◌, refl, List, [], ◌∷◌, ◌++◌, eqb}
use Rattle.std.proofs.Common.{le_refl, arith, sym, ◌∙◌, eqb-true, eq-eqb, ne_eqb}
use Rattle.std.proofs.lemmas.Bool.{false≢true}
use Rattle.rules.specs.meaning.Lengths.{join}
use Rattle.rules.specs.meaning.Table.{sound, length_of}
use Rattle.rules.proofs.laws.table.Order.{Side, Side.below, Side.same, Side.above, side}
use Rattle.rules.proofs.laws.table.View.{Unused.none, Unused.pair, Sound, Sound.rest, Sound.used, seen, parts}
use Rattle.rules.proofs.laws.table.Law.{of_same, of_other, of_unused, of_below}
use Rattle.rules.specs.meaning.Steps.{Entry, entry_of, entries_of}
use Rattle.rules.specs.meaning.Histories.{largest, occurs, within, same_pairs}

-- ---- the largest length, a pair at a time
-- a pair of the id in front
pub largest_same : (p : Entry) (ps : List Entry) (x : ℕ) → p.id ≡ x → largest (p ∷ ps) x ≡ join p.length (largest ps x)
unfolding largest
largest_same p ps x h = rw (eq-eqb p.id x h)

-- a pair of another id in front
pub largest_other : (p : Entry) (ps : List Entry) (x : ℕ) → (p.id ≡ x → ⊥) → largest (p ∷ ps) x ≡ largest ps x
unfolding largest
largest_other p ps x h = rw (ne_eqb p.id x h)

-- one list of pairs and then another: the join of the two
pub largest_append : (ps qs : List Entry) (x : ℕ) → largest (ps ++ qs) x ≡ join (largest ps x) (largest qs x)
unfolding largest
largest_append [] qs x = omega arith
largest_append (p ∷ ps) qs x = go (eqb p.id x) (largest_append ps qs x)
  where
    go : (b : Bool) → largest (ps ++ qs) x ≡ join (largest ps x) (largest qs x)
        → cond b (join p.length (largest (ps ++ qs) x)) (largest (ps ++ qs) x) ≡ join (cond b (join p.length (largest ps x)) (largest ps x)) (largest qs x)
    go true ih = omega arith
    go false ih = ih

-- one pair, or none where its length is 0
pub largest_pair : (e n x : ℕ) → largest (entry_of e n) x ≡ cond (eqb e x) n 0
unfolding largest
largest_pair e zero x = go (eqb e x)
  where
    go : (b : Bool) → ◌≡◌ {A = ℕ} 0 (cond b 0 0)
    go true = refl
    go false = refl
largest_pair e (suc n) x = go (eqb e x)
  where
    go : (b : Bool) → cond b (join (suc n) 0) 0 ≡ cond b (suc n) 0
    go true = omega arith
    go false = refl

-- the entries of a table: the length that it has for the id
largest_entries' : {most lo : ℕ} {t : List ℕ} → Sound most lo t → (x : ℕ) → largest (entries_of t) x ≡ length_of t x
unfolding largest entries_of
largest_entries' (rest none) x = sym (of_unused none x)
largest_entries' (rest (pair z)) x = sym (of_unused (pair z) x)
largest_entries' (used {e = e} {n = n} {t = t} l h s) x = go (side e x) (largest_entries' s x)
  where
    other : (e ≡ x → ⊥) → largest (entries_of t) x ≡ length_of t x → largest (entries_of (e ∷ suc n ∷ t)) x ≡ length_of (e ∷ suc n ∷ t) x
    other ne ih = largest_other record { id = e; length = suc n } (entries_of t) x ne ∙ ih ∙ sym (of_other e (suc n) t x ne)

    go : Side e x → largest (entries_of t) x ≡ length_of t x → largest (entries_of (e ∷ suc n ∷ t)) x ≡ length_of (e ∷ suc n ∷ t) x
    go (below p) ih = other (omega arith) ih
    go (above p) ih = other (omega arith) ih
    go (same p) ih =
        let one = largest_same record { id = e; length = suc n } (entries_of t) x p in
        rw (← p) (omega (arith, rw (← p) at one, rw (← p) at ih, of_below s e (le_refl (suc e)), of_same e (suc n) t))

-- the same, of a table that the test calls sound
pub largest_entries : (most : ℕ) (t : List ℕ) → sound most t ≡ true → (x : ℕ) → largest (entries_of t) x ≡ length_of t x
largest_entries most t h x = largest_entries' (seen {most = most} {lo = 0} h) x

-- ---- the same set of pairs has the same largest lengths
-- a pair that occurs is no longer than the largest of its id
occurs_below : (p : Entry) (qs : List Entry) → occurs p qs ≡ true → p.length ≤ largest qs p.id
unfolding occurs largest
occurs_below p [] h = absurd (false≢true h)
occurs_below p (q ∷ qs) h = go (eqb p.id q.id && eqb p.length q.length) refl (occurs_below p qs)
  where
    further : (b : Bool) → p.length ≤ largest qs p.id → p.length ≤ cond b (join q.length (largest qs p.id)) (largest qs p.id)
    further true ih = omega arith
    further false ih = ih

    go : (b : Bool) → eqb p.id q.id && eqb p.length q.length ≡ b → (occurs p qs ≡ true → p.length ≤ largest qs p.id) → p.length ≤ largest (q ∷ qs) p.id
    go true e ih =
        let a = parts (eqb p.id q.id) _ e in
        let one = largest_same q qs p.id (sym (eqb-true _ _ a.0)) in
        omega (arith, one, eqb-true p.length q.length a.1)
    go false e ih = further (eqb q.id p.id) (ih (rw e at h))

-- so pairs that all occur among others have no larger length
within_below : (ps qs : List Entry) → within ps qs ≡ true → (x : ℕ) → largest ps x ≤ largest qs x
unfolding within largest
within_below [] qs h x = omega arith
within_below (p ∷ ps) qs h x = go (side p.id x) (within_below ps qs (parts (occurs p qs) _ h).1 x)
  where
    go : Side p.id x → largest ps x ≤ largest qs x → largest (p ∷ ps) x ≤ largest qs x
    go (below q) ih = omega (arith, largest_other p ps x (omega arith))
    go (above q) ih = omega (arith, largest_other p ps x (omega arith))
    go (same q) ih =
        let own : p.length ≤ largest qs x = rw q at (occurs_below p qs (parts (occurs p qs) _ h).0) in
        omega (arith, largest_same p ps x q, own)

-- "the same set of id and length pairs, in whichever order and however often"
pub same_largest : (ps qs : List Entry) → same_pairs ps qs ≡ true → (x : ℕ) → largest ps x ≡ largest qs x
same_largest ps qs h x =
    let a = parts (within ps qs) _ h in
    omega (arith, within_below ps qs a.0 x, within_below qs ps a.1 x)
