-- Lists of ids: an id among some, and how many different ids there are.
-- Assumes nothing.
use Rattle.std.specs.Prelude.{ℕ, suc, ◌+◌, ◌≤◌, Bool, true, false, ◌||◌, cond, ◌≡◌, refl, List, [], ◌∷◌, ◌++◌, eqb}
use Rattle.std.proofs.Common.{arith, sym, ◌∙◌, eqb-true, eq-eqb, ne_eqb}
use Rattle.std.proofs.Math.Bool.{or-true, or_assoc}
use Rattle.std.proofs.lemmas.Bool.{false≢true, eqb-false}
use Rattle.rules.specs.meaning.Ids.{among, distinct}

-- every id of the one is among the other
abbrev pub AllAmong : List ℕ → List ℕ → Type 0
AllAmong xs ys = (x : ℕ) → among x xs ≡ true → among x ys ≡ true

-- ---- two lists joined: an id is among both together exactly where it is among one of them
pub among_append : (x : ℕ) (xs ys : List ℕ) → among x (xs ++ ys) ≡ among x xs || among x ys
unfolding among
among_append x [] ys = refl
among_append x (y ∷ xs) ys = rw (among_append x xs ys) (sym (or_assoc (eqb x y) (among x xs) (among x ys)))

-- an id that is among the first is among both joined
pub among_left : (xs ys : List ℕ) → AllAmong xs (xs ++ ys)
among_left xs ys x h = rw (among_append x xs ys, h)

-- and so is one that is among the second
pub among_right : (xs ys : List ℕ) → AllAmong ys (xs ++ ys)
among_right xs ys x h = rw (among_append x xs ys, h) (or-true (among x xs))

-- one that is among both joined is among a list that has the ids of each
pub among_either : (xs ys zs : List ℕ) → AllAmong xs zs → AllAmong ys zs → AllAmong (xs ++ ys) zs
among_either xs ys zs p q x h = go (among x xs) refl
  where
    go : (b : Bool) → among x xs ≡ b → among x zs ≡ true
    go true e = p x e
    go false e = q x (rw (among_append x xs ys, e) at h)

-- ---- a list without an id
unfoldable without : ℕ → List ℕ → List ℕ
without x [] = []
without x (y ∷ ys) = cond (eqb x y) (without x ys) (y ∷ without x ys)

-- every other id stays
others_among : (x z : ℕ) → (z ≡ x → ⊥) → (ys : List ℕ) → among z (without x ys) ≡ among z ys
unfolding among without
others_among x z ne [] = refl
others_among x z ne (y ∷ ys) = go (eqb x y) refl (others_among x z ne ys)
  where
    go : (b : Bool) → eqb x y ≡ b → among z (without x ys) ≡ among z ys → among z (cond b (without x ys) (y ∷ without x ys)) ≡ eqb z y || among z ys
    go true e ih = rw (ne_eqb z y (λ q. ne (q ∙ sym (eqb-true x y e)))) ih
    go false e ih = rw ih

-- there is one id less where it was among them
one_less : (x : ℕ) (ys : List ℕ) → distinct ys ≡ cond (among x ys) 1 0 + distinct (without x ys)
unfolding among without distinct
one_less x [] = refl
one_less x (y ∷ ys) = go (eqb x y) refl (one_less x ys)
  where
    here : (b : Bool) (m n : ℕ) → m ≡ cond b 1 0 + n → cond b m (suc m) ≡ 1 + n
    here true m n h = h
    here false m n h = omega arith

    past : (b : Bool) (k m n : ℕ) → m ≡ k + n → cond b m (suc m) ≡ k + cond b n (suc n)
    past true k m n h = h
    past false k m n h = omega arith

    go : (b : Bool) → eqb x y ≡ b → distinct ys ≡ cond (among x ys) 1 0 + distinct (without x ys)
        → distinct (y ∷ ys) ≡ cond (b || among x ys) 1 0 + distinct (cond b (without x ys) (y ∷ without x ys))
    go true e ih = rw (← eqb-true x y e) (here (among x ys) (distinct ys) (distinct (without x ys)) ih)
    go false e ih = rw (others_among x y (λ q. eqb-false x y e (sym q)) ys) (past (among y ys) (cond (among x ys) 1 0) (distinct ys) (distinct (without x ys)) ih)

-- ---- the pigeonhole: where every id of the one list is among the other, the other has as many different ids, or more
pub distinct_grows : (xs ys : List ℕ) → AllAmong xs ys → distinct xs ≤ distinct ys
unfolding among distinct
distinct_grows [] ys h = omega arith
distinct_grows (x ∷ xs) ys h = go (among x xs) refl (distinct_grows xs ys (λ z p. h z (rw p (or-true (eqb z x))))) (distinct_grows xs (without x ys))
  where
    first : among x ys ≡ true
    first = h x (rw (eq-eqb x x refl))

    rest_among : among x xs ≡ false → AllAmong xs (without x ys)
    rest_among e z p =
        let ne : z ≡ x → ⊥ = λ q. false≢true (sym e ∙ (rw (← q) p)) in
        rw (others_among x z ne ys) (h z (rw p (or-true (eqb z x))))

    go : (b : Bool) → among x xs ≡ b → distinct xs ≤ distinct ys → (AllAmong xs (without x ys) → distinct xs ≤ distinct (without x ys)) → cond b (distinct xs) (suc (distinct xs)) ≤ distinct ys
    go true e all fewer = all
    go false e all fewer =
        let one : distinct ys ≡ 1 + distinct (without x ys) = one_less x ys ∙ (rw first) in
        omega (arith, one, fewer (rest_among e))

-- two lists joined have as many different ids as the first, or more
pub distinct_left : (xs ys : List ℕ) → distinct xs ≤ distinct (xs ++ ys)
distinct_left xs ys = distinct_grows xs (xs ++ ys) (among_left xs ys)

-- and as the second
pub distinct_right : (xs ys : List ℕ) → distinct ys ≤ distinct (xs ++ ys)
distinct_right xs ys = distinct_grows ys (xs ++ ys) (among_right xs ys)
