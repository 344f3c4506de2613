-- Lists of ids, each above the one before: none stands twice, and such a list is known by its ids.
-- Assumes nothing.
use Rattle.std.specs.Prelude.{ℕ, suc, ◌≤◌, ◌<◌, true, false, ◌≡◌, refl, List, [], ◌∷◌, length}
use Rattle.std.proofs.Common.{le_refl, le_trans, arith, sym, ◌∙◌, eq-eqb, ne_eqb}
use Rattle.std.proofs.lemmas.Bool.{false≢true}
use Rattle.rules.proofs.laws.table.Order.{Side, Side.below, Side.same, Side.above, side}
use Rattle.rules.specs.meaning.Ids.{among, distinct}

-- the first of them lo or above
pub data Climbing : ℕ → List ℕ → Type 0 where
  end : {lo : ℕ} → Climbing lo []
  next : {lo e : ℕ} {ids : List ℕ} → lo ≤ e → Climbing (suc e) ids → Climbing lo (e ∷ ids)

-- above a lower bound too
pub climbing_lower : {lo low : ℕ} {ids : List ℕ} → low ≤ lo → Climbing lo ids → Climbing low ids
climbing_lower p end = end
climbing_lower p (next l c) = next (le_trans p l) c

-- ---- an id among some, one id at a time
-- the first of them
pub among_same : (x : ℕ) (ids : List ℕ) → among x (x ∷ ids) ≡ true
unfolding among
among_same x ids = rw (eq-eqb x x refl)

-- another than the first
pub among_other : (x y : ℕ) (ids : List ℕ) → (x ≡ y → ⊥) → among x (y ∷ ids) ≡ among x ids
unfolding among
among_other x y ids ne = rw (ne_eqb x y ne)

-- ---- an id below them all is not among them
pub among_below : {lo : ℕ} {ids : List ℕ} → Climbing lo ids → (x : ℕ) → x < lo → among x ids ≡ false
unfolding among
among_below end x h = refl
among_below (next {e = e} {ids = ids} l c) x h = among_other x e ids (omega arith) ∙ among_below c x (omega arith)

-- ---- two of them with the same ids are one list
pub climbing_one : {lo : ℕ} {xs ys : List ℕ} → Climbing lo xs → Climbing lo ys → ((x : ℕ) → among x xs ≡ among x ys) → xs ≡ ys
unfolding among
climbing_one end end h = refl
climbing_one end (next {e = y} {ids = ys} l c) h = absurd (false≢true (h y ∙ among_same y ys))
climbing_one (next {e = x} {ids = xs} l c) end h = absurd (false≢true (sym (h x) ∙ among_same x xs))
climbing_one {lo} (next {e = x} {ids = xs} l c) (next {e = y} {ids = ys} l' c') h = go (side x y) (λ p agree. climbing_one c (rw p c') agree)
  where
    tails : x ≡ y → (z : ℕ) → Side z x → among z xs ≡ among z ys
    tails p z (below q) = among_below c z (omega arith) ∙ sym (among_below c' z (omega arith))
    tails p z (same q) = among_below c z (omega arith) ∙ sym (among_below c' z (omega arith))
    tails p z (above q) = sym (among_other z x xs (omega arith)) ∙ h z ∙ among_other z y ys (omega arith)

    go : Side x y → (x ≡ y → ((z : ℕ) → among z xs ≡ among z ys) → xs ≡ ys) → x ∷ xs ≡ y ∷ ys
    go (below p) ih = absurd (false≢true (sym (among_other x y ys (omega arith) ∙ among_below c' x (omega arith)) ∙ sym (h x) ∙ among_same x xs))
    go (above p) ih = absurd (false≢true (sym (among_other y x xs (omega arith) ∙ among_below c y (omega arith)) ∙ h y ∙ among_same y ys))
    go (same p) ih =
        let rests : xs ≡ ys = ih p (λ z. tails p z (side z x)) in
        cc

-- ---- they are as many different ids as they are
pub climbing_distinct : {lo : ℕ} {ids : List ℕ} → Climbing lo ids → distinct ids ≡ length ids
unfolding distinct
climbing_distinct end = refl
climbing_distinct (next {e = e} l c) = rw (among_below c e (le_refl (suc e)), climbing_distinct c)
