-- Entries in use alone, seen as what they are made of, and the laws of the walk that unites two such lists: its turns, that ids still rise, and that each id has
-- the larger of its two lengths. Then how such a list and a table go over into each other.
-- Assumes nothing.
use Prim.Native.Nat.{ℕ, zero, suc, ◌*◌, ◌≤◌, ◌<◌}
use native.Mathlib.Nat.{le_refl}
use native.Mathlib.Omega.{arith}
use mathlib.Core.Path.{◌≡◌, refl, sym, ◌∙◌}
use mathlib.Core.List.{List, [], ◌∷◌, ◌++◌}
use lib.ListN.{length, replicate}
use borrow.Author.Tests.{lt-ltb, le-ltb}
use Rattle.rules.specs.meaning.Lengths.{M, join}
use Rattle.rules.specs.meaning.Table.{SoundTable, length_of, held}
use Rattle.rules.proofs.laws.table.Order.{Side, Side.below, Side.same, Side.above, side}
use Rattle.rules.proofs.laws.table.View.{Unused, Unused.none, Unused.pair, Sound, Sound.rest, Sound.used, seen, say}
use Rattle.rules.proofs.laws.table.Law.{of_same, of_other, of_unused, of_below}
use Rattle.rules.proofs.laws.run.Zeros.{all_unused}
use Rattle.rounds.specs.Unions.{beside, united, in_use}

-- entries in use alone: ids from lo up, each above the one before, lengths 1 to M
pub data Packed : ℕ → List ℕ → Type 0 where
  no_entry : {lo : ℕ} → Packed lo []
  entry : {lo e n : ℕ} {t : List ℕ} → lo ≤ e → suc n ≤ M → Packed (suc e) t → Packed lo (e ∷ suc n ∷ t)

-- ---- the turns of the walk
-- the first list's entry has the smaller id
pub united_first : (e n x m : ℕ) (t s : List ℕ) → e < x → united (e ∷ n ∷ t) (x ∷ m ∷ s) ≡ e ∷ n ∷ united t (x ∷ m ∷ s)
unfolding united beside
united_first e n x m t s h = rw (lt-ltb e x h)

-- the second list's has
pub united_second : (e n x m : ℕ) (t s : List ℕ) → x < e → united (e ∷ n ∷ t) (x ∷ m ∷ s) ≡ x ∷ m ∷ united (e ∷ n ∷ t) s
unfolding united beside
united_second e n x m t s h = rw (le-ltb e x (omega arith), lt-ltb x e h)

-- both have the same
pub united_both : (e n x m : ℕ) (t s : List ℕ) → e ≡ x → united (e ∷ n ∷ t) (x ∷ m ∷ s) ≡ e ∷ join n m ∷ united t s
unfolding united beside
united_both e n x m t s h = rw (le-ltb e x (omega arith), le-ltb x e (omega arith))

-- ---- a list of entries in use
-- seen as a table with no unused place
packed_seen : {lo : ℕ} {t : List ℕ} → Packed lo t → Sound M lo t
packed_seen no_entry = rest none
packed_seen (entry l h p) = used l h (packed_seen p)

-- it is a sound table
pub packed_sound : {t : List ℕ} → Packed 0 t → SoundTable t
packed_sound p = say (packed_seen p)

-- its words are the two of each entry
pub packed_held : {lo : ℕ} {t : List ℕ} → Packed lo t → length t ≡ 2 * held t
unfolding held
packed_held no_entry = refl
packed_held (entry l h p) = omega (arith, packed_held p)

-- an id below all of them has no entry
packed_below : {lo : ℕ} {t : List ℕ} → Packed lo t → (x : ℕ) → x < lo → length_of t x ≡ 0
packed_below p x h = of_below (packed_seen p) x h

-- an entry in front whose length is known to be 1 or more
entry_of : {lo e : ℕ} (n : ℕ) {t : List ℕ} → lo ≤ e → 1 ≤ n → n ≤ M → Packed (suc e) t → Packed lo (e ∷ n ∷ t)
entry_of zero l some h p = absurd (omega arith)
entry_of (suc n) l some h p = entry l h p

-- ---- two lists united
-- an entry of the first list put in front, where all ids of the second are above it
with_front : (e n x : ℕ) {w : List ℕ} (v t : List ℕ) → Packed (suc e) w → length_of v x ≡ join (length_of t x) (length_of w x)
    → length_of (e ∷ n ∷ v) x ≡ join (length_of (e ∷ n ∷ t) x) (length_of w x)
with_front e n x {w} v t q ih = go (side e x)
  where
    other : (e ≡ x → ⊥) → length_of (e ∷ n ∷ v) x ≡ join (length_of (e ∷ n ∷ t) x) (length_of w x)
    other ne = rw (of_other e n v x ne, of_other e n t x ne) ih

    go : Side e x → length_of (e ∷ n ∷ v) x ≡ join (length_of (e ∷ n ∷ t) x) (length_of w x)
    go (below r) = other (omega arith)
    go (above r) = other (omega arith)
    go (same r) = rw (← r) (omega (arith, of_same e n v, of_same e n t, packed_below q e (le_refl (suc e))))

-- an entry of both lists put in front, with the larger of its lengths
with_both : (e n m x : ℕ) (v t s : List ℕ) → length_of v x ≡ join (length_of t x) (length_of s x)
    → length_of (e ∷ join n m ∷ v) x ≡ join (length_of (e ∷ n ∷ t) x) (length_of (e ∷ m ∷ s) x)
with_both e n m x v t s ih = go (side e x)
  where
    other : (e ≡ x → ⊥) → length_of (e ∷ join n m ∷ v) x ≡ join (length_of (e ∷ n ∷ t) x) (length_of (e ∷ m ∷ s) x)
    other ne = rw (of_other e (join n m) v x ne, of_other e n t x ne, of_other e m s x ne) ih

    go : Side e x → length_of (e ∷ join n m ∷ v) x ≡ join (length_of (e ∷ n ∷ t) x) (length_of (e ∷ m ∷ s) x)
    go (below r) = other (omega arith)
    go (above r) = other (omega arith)
    go (same r) = rw (← r) (omega (arith, of_same e (join n m) v, of_same e n t, of_same e m s))

-- an entry and those behind it with some others, where the law holds of those behind it
module _ (e n : ℕ) (t : List ℕ) (tail : List ℕ → List ℕ) (fit : suc n ≤ M) (p : Packed (suc e) t) where
  beside_packed : ((s : List ℕ) → Packed (suc e) s → Packed (suc e) (tail s)) → {lo : ℕ} {b : List ℕ} → lo ≤ e → Packed lo b → Packed lo (beside e (suc n) t tail b)
  unfolding beside
  beside_packed ok l no_entry = entry l fit p
  beside_packed ok {lo} l (entry {e = x} {n = m} {t = s} k h q) = go (side e x) (λ r. beside_packed ok r q)
    where
      go : Side e x → (suc x ≤ e → Packed (suc x) (beside e (suc n) t tail s)) → Packed lo (beside e (suc n) t tail (x ∷ suc m ∷ s))
      go (below r) ih = rw (lt-ltb e x r) (entry l fit (ok _ (entry r h q)))
      go (above r) ih = rw (le-ltb e x (omega arith), lt-ltb x e r) (entry k h (ih r))
      go (same r) ih = rw (le-ltb e x (omega arith), le-ltb x e (omega arith)) (entry_of (join (suc n) (suc m)) l (omega arith) (omega arith) (ok _ (rw (← r) at q)))

  beside_of : (x : ℕ) → ((s : List ℕ) → Packed (suc e) s → length_of (tail s) x ≡ join (length_of t x) (length_of s x)) → {lo : ℕ} {b : List ℕ} → Packed lo b
      → length_of (beside e (suc n) t tail b) x ≡ join (length_of (e ∷ suc n ∷ t) x) (length_of b x)
  unfolding beside
  beside_of x ok no_entry = omega (arith, of_unused none x)
  beside_of x ok (entry {e = y} {n = m} {t = s} k h q) = go (side e y) (beside_of x ok q)
    where
      go : Side e y → length_of (beside e (suc n) t tail s) x ≡ join (length_of (e ∷ suc n ∷ t) x) (length_of s x)
          → length_of (beside e (suc n) t tail (y ∷ suc m ∷ s)) x ≡ join (length_of (e ∷ suc n ∷ t) x) (length_of (y ∷ suc m ∷ s) x)
      go (below r) ih =
          let others : Packed (suc e) (y ∷ suc m ∷ s) = entry r h q in
          rw (lt-ltb e y r) (with_front e (suc n) x _ t others (ok _ others))
      go (above r) ih =
          let turned = with_front y (suc m) x {w = e ∷ suc n ∷ t} (beside e (suc n) t tail s) s (entry r fit p) (omega arith) in
          rw (le-ltb e y (omega arith), lt-ltb y e r) (omega arith)
      go (same r) ih = rw (le-ltb e y (omega arith), le-ltb y e (omega arith), ← r) (with_both e (suc n) (suc m) x _ t s (ok _ (rw (← r) at q)))

-- ids still rise and lengths are still 1 to M
pub united_packed : {lo : ℕ} {a b : List ℕ} → Packed lo a → Packed lo b → Packed lo (united a b)
unfolding united
united_packed no_entry q = q
united_packed (entry {e = e} {n = n} {t = t} l h p) q = beside_packed e n t (united t) h p (λ s r. united_packed p r) l q

-- each id has the larger of its two lengths, from whichever ids the two lists go up
united_any : {lo : ℕ} {a : List ℕ} → Packed lo a → {lo' : ℕ} {b : List ℕ} → Packed lo' b → (x : ℕ) → length_of (united a b) x ≡ join (length_of a x) (length_of b x)
unfolding united
united_any no_entry q x = omega (arith, of_unused none x)
united_any (entry {e = e} {n = n} {t = t} l h p) q x = beside_of e n t (united t) h p x (λ s r. united_any p r x) q

-- the same, of two lists that go up from the same id
pub united_of : {lo : ℕ} {a b : List ℕ} → Packed lo a → Packed lo b → (x : ℕ) → length_of (united a b) x ≡ join (length_of a x) (length_of b x)
united_of p q x = united_any p q x

-- ---- a table's entries in use
-- the words of one entry more
one_pair_more : (c : ℕ) → 2 * suc c ≡ suc (suc (2 * c))
one_pair_more c = omega arith

-- the entries in use of a table that goes up from lo
in_use_seen : {lo : ℕ} {t : List ℕ} → Sound M lo t → Packed lo (in_use t)
unfolding held
in_use_seen (rest none) = no_entry
in_use_seen (rest (pair z)) = no_entry
in_use_seen (used {t = t} l h s) = rw (one_pair_more (held t)) (entry l h (in_use_seen s))

-- they are entries in use alone
pub in_use_packed : (t : List ℕ) → SoundTable t → Packed 0 (in_use t)
in_use_packed t ok = in_use_seen (seen {most = M} {lo = 0} ok)

-- the same entry in front of two lists that say the same of an id
same_front : (e n x : ℕ) (v t : List ℕ) → length_of v x ≡ length_of t x → length_of (e ∷ n ∷ v) x ≡ length_of (e ∷ n ∷ t) x
unfolding length_of
same_front e n x v t ih = rw ih

in_use_says : {lo : ℕ} {t : List ℕ} → Sound M lo t → (x : ℕ) → length_of (in_use t) x ≡ length_of t x
unfolding held
in_use_says (rest none) x = refl
in_use_says (rest (pair z)) x = of_unused none x ∙ sym (of_unused (pair z) x)
in_use_says (used {e = e} {n = n} {t = t} l h s) x = rw (one_pair_more (held t)) (same_front e (suc n) x (in_use t) t (in_use_says s x))

-- they say what the table says
pub in_use_of : (t : List ℕ) → SoundTable t → (x : ℕ) → length_of (in_use t) x ≡ length_of t x
in_use_of t ok x = in_use_says (seen {most = M} {lo = 0} ok) x

-- ---- entries in use with unused places behind them
padded_seen : {lo : ℕ} {t : List ℕ} → Packed lo t → {u : List ℕ} → Unused u → Sound M lo (t ++ u)
padded_seen no_entry z = rest z
padded_seen (entry l h p) z = used l h (padded_seen p z)

-- they are a table
pub padded_sound : {t : List ℕ} → Packed 0 t → (m : ℕ) → SoundTable (t ++ replicate (2 * m) 0)
padded_sound p m = say (padded_seen p (all_unused m))

padded_says : {lo : ℕ} {t : List ℕ} → Packed lo t → {u : List ℕ} → Unused u → (x : ℕ) → length_of (t ++ u) x ≡ length_of t x
padded_says no_entry z x = of_unused z x ∙ sym (of_unused none x)
padded_says (entry {e = e} {n = n} {t = t} l h p) {u} z x = same_front e (suc n) x (t ++ u) t (padded_says p z x)

-- and it says what the entries say
pub padded_of : {lo : ℕ} {t : List ℕ} → Packed lo t → (m x : ℕ) → length_of (t ++ replicate (2 * m) 0) x ≡ length_of t x
padded_of p m x = padded_says p (all_unused m) x
