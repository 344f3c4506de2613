-- "a merge reports how many lengths rose": the number that it answers, counted beforehand over the entries that come in, is the number of ids
-- whose length after the merge is above the one before.
-- Assumes nothing.
use Rattle.std.specs.Prelude.{ℕ, zero, suc, ◌≤◌, max, Bool, true, false, cond, ◌≡◌, refl, List, [], ◌∷◌, length, ltb}
use Rattle.std.proofs.Common.{le_refl, arith, sym, ap, subst, ◌∙◌, ⊎_elim, lt-ltb, le-ltb}
use Rattle.rules.specs.declared.Run.{Run}
use Rattle.rules.specs.declared.Step.TheVariants.{Merge}
use Rattle.rules.specs.meaning.Lengths.{M}
use Rattle.rules.specs.meaning.Table.{sound, capacity, length_of, merged, held_merged, rises}
use Rattle.rules.proofs.laws.table.Order.{Side, Side.below, Side.same, Side.above, side, lt_or_le}
use Rattle.rules.proofs.laws.table.View.{Unused.none, Unused.pair, Sound, Sound.rest, Sound.used, seen}
use Rattle.rules.proofs.laws.table.Law.{of_same, of_other, of_unused}
use Rattle.rules.proofs.laws.table.Merge.{merged_of}
use Rattle.rules.specs.meaning.States.{State, table_at}
use Rattle.rules.specs.meaning.Steps.{effect}
use Rattle.rules.specs.meaning.Runs.{refusal_of, value_of, after}
use Rattle.rules.specs.meaning.Ids.{among}
use Rattle.rules.specs.meaning.Histories.{length_in}
use Rattle.rules.proofs.laws.history.Climbing.{Climbing, Climbing.end, Climbing.next, climbing_lower, among_same, among_other, among_below, climbing_one}
use Rattle.rules.proofs.laws.run.Steps.{accepted_sound, merge_own}
use Rattle.rules.proofs.laws.run.Tables.{site_sound}
use Rattle.rules.proofs.laws.history.Figure4.{merge_table_law}

-- ---- the ids that rose
-- the ids of the entries of u whose length is above the one that t has for the id
unfoldable pub risen : List ℕ → List ℕ → List ℕ
risen t [] = []
risen t (w ∷ []) = []
risen t (e ∷ zero ∷ u) = []
risen t (e ∷ suc n ∷ u) = cond (ltb (length_of t e) (suc n)) (e ∷ risen t u) (risen t u)

-- the number that is answered is how many there are
pub risen_count : (t u : List ℕ) → length (risen t u) ≡ rises t u
unfolding risen rises
risen_count t [] = refl
risen_count t (w ∷ []) = refl
risen_count t (e ∷ zero ∷ u) = refl
risen_count t (e ∷ suc n ∷ u) = go (ltb (length_of t e) (suc n)) (risen_count t u)
  where
    go : (b : Bool) → length (risen t u) ≡ rises t u → length (cond b (e ∷ risen t u) (risen t u)) ≡ cond b (suc (rises t u)) (rises t u)
    go true ih = ap suc ih
    go false ih = ih

-- they are the ids of entries, so each is above the one before
pub risen_climbs : {most lo : ℕ} {u : List ℕ} → Sound most lo u → (t : List ℕ) → Climbing lo (risen t u)
unfolding risen
risen_climbs (rest none) t = end
risen_climbs (rest (pair z)) t = end
risen_climbs {most} {lo} (used {e = e} {n = n} {t = u} l m s) t = go (ltb (length_of t e) (suc n)) (risen_climbs s t)
  where
    go : (b : Bool) → Climbing (suc e) (risen t u) → Climbing lo (cond b (e ∷ risen t u) (risen t u))
    go true c = next l c
    go false c =
        let p : lo ≤ suc e = omega arith in
        climbing_lower p c

-- no length is below 0
none_below : (n : ℕ) → false ≡ ltb n 0
none_below n = sym (le-ltb n 0 (omega arith))

risen_among' : {most lo : ℕ} {u : List ℕ} → Sound most lo u → (t : List ℕ) (x : ℕ) → among x (risen t u) ≡ ltb (length_of t x) (length_of u x)
unfolding risen among
risen_among' (rest none) t x = rw (of_unused none x) (none_below (length_of t x))
risen_among' (rest (pair z)) t x = rw (of_unused (pair z) x) (none_below (length_of t x))
risen_among' {most} {lo} (used {e = e} {n = n} {t = u} l m s) t x = go (ltb (length_of t e) (suc n)) refl (side x e) (risen_among' s t x)
  where
    past : (b : Bool) → (x ≡ e → ⊥) → among x (risen t u) ≡ ltb (length_of t x) (length_of u x)
        → among x (cond b (e ∷ risen t u) (risen t u)) ≡ ltb (length_of t x) (length_of (e ∷ suc n ∷ u) x)
    past true ne ih = among_other x e (risen t u) ne ∙ ih ∙ (rw (of_other e (suc n) u x (λ q. ne (sym q))))
    past false ne ih = ih ∙ (rw (of_other e (suc n) u x (λ q. ne (sym q))))

    go : (b : Bool) → ltb (length_of t e) (suc n) ≡ b → Side x e → among x (risen t u) ≡ ltb (length_of t x) (length_of u x)
        → among x (cond b (e ∷ risen t u) (risen t u)) ≡ ltb (length_of t x) (length_of (e ∷ suc n ∷ u) x)
    go b q (below p) ih = past b (omega arith) ih
    go b q (above p) ih = past b (omega arith) ih
    go true q (same p) ih =
        subst (λ (z : ℕ). among z (e ∷ risen t u) ≡ ltb (length_of t z) (length_of (e ∷ suc n ∷ u) z)) (sym p)
        (rw (of_same e (suc n) u, q) (among_same e (risen t u)))
    go false q (same p) ih = rw (p, of_same e (suc n) u, q) (among_below (risen_climbs s t) e (le_refl (suc e)))

module _ (most : ℕ) (t u : List ℕ) (ok : sound most u ≡ true) where
  -- each of them once, in rising order
  pub risen_climbing : Climbing 0 (risen t u)
  risen_climbing = risen_climbs (seen {most = most} {lo = 0} ok) t

  -- and they are exactly the ids with a larger length in u than in t
  pub risen_among : (x : ℕ) → among x (risen t u) ≡ ltb (length_of t x) (length_of u x)
  risen_among x = risen_among' (seen {most = most} {lo = 0} ok) t x

-- the larger of two is above the one exactly where the other is
above_larger : (a b : ℕ) → ltb a (max a b) ≡ ltb a b
above_larger a b = ⊎_elim (λ p. lt-ltb a (max a b) (omega arith) ∙ sym (lt-ltb a b p)) (λ p. le-ltb a (max a b) (omega arith) ∙ sym (le-ltb a b p)) (lt_or_le a b)

-- ---- merge
module _ (most : ℕ) (t s : List ℕ) (ok : sound most t ≡ true) (other : sound most s ≡ true) (room : held_merged t s ≤ capacity t) where
  -- the ids whose entries come in above the length that was held are the ids whose length rose
  pub merged_risen : risen t (merged t s) ≡ risen t s
  merged_risen =
      let m = merged_of most t s ok other room in
      climbing_one (risen_climbing most t (merged t s) m.ok) (risen_climbing most t s other)
      (λ x. risen_among most t (merged t s) m.ok x ∙ (rw (m.of x) (above_larger (length_of t x) (length_of s x))) ∙ sym (risen_among most t s other x))

  -- "a merge reports how many lengths rose": as many as it answers have a larger length in the table after than in the table before
  pub merged_rises : rises t (merged t s) ≡ rises t s
  merged_rises = sym (risen_count t (merged t s)) ∙ ap length merged_risen ∙ risen_count t s

-- ---- merge, in a run
module _ (run : Run) (s : State) (f t : ℕ) (ok : refusal_of run s (Merge f t) ≡ 0) where
  -- "number of ids whose length rose": the value is counted over the second site's table after the step against its table before
  pub merge_value : value_of run s (Merge f t) ≡ rises (table_at run s.words t) (table_at run (after run s (Merge f t)).words t)
  unfolding value_of effect
  merge_value =
      let p = merge_own run s f t ok in
      let m = merge_table_law run s f t ok in
      rw m.0 (sym (merged_rises M (table_at run s.words t) (table_at run s.words f) (site_sound run s (accepted_sound run s (Merge f t) ok) t p.1) (site_sound run s (accepted_sound run s (Merge f t) ok) f p.0) m.1))

  -- what it counts: a list of ids, each once, and they are exactly those with a larger length at the second site after the step than before
  pub merge_counts : (value_of run s (Merge f t) ≡ length (risen (table_at run s.words t) (table_at run (after run s (Merge f t)).words t)))
      × Climbing 0 (risen (table_at run s.words t) (table_at run (after run s (Merge f t)).words t))
      × ((e : ℕ) → among e (risen (table_at run s.words t) (table_at run (after run s (Merge f t)).words t)) ≡ ltb (length_in run s t e) (length_in run (after run s (Merge f t)) t e))
  merge_counts =
      let before = table_at run s.words t in
      let now = table_at run (after run s (Merge f t)).words t in
      let p = merge_own run s f t ok in
      let m = merge_table_law run s f t ok in
      let joined = merged_of M before (table_at run s.words f) (site_sound run s (accepted_sound run s (Merge f t) ok) t p.1) (site_sound run s (accepted_sound run s (Merge f t) ok) f p.0) m.1 in
      let fine : sound M now ≡ true = rw m.0 joined.ok in
      (merge_value ∙ sym (risen_count before now), risen_climbing M before now fine, risen_among M before now fine)
