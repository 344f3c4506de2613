-- A sound table, seen as what it is made of: proofs go by cases on this view, and never take a test apart.
-- Assumes nothing.
use Rattle.std.specs.Prelude.{ℕ, zero, suc, ◌≤◌, Bool, true, false, ◌&&◌, ◌≡◌, refl, List, [], ◌∷◌, leb}
use Rattle.std.proofs.lemmas.Bool.{false≢true}
use Rattle.std.proofs.Common.{le-leb, leb-true}
use Rattle.rules.specs.meaning.Table.{unused, sound_from}

pub data Unused : List ℕ → Type 0 where
  none : Unused []
  pair : {t : List ℕ} → Unused t → Unused (0 ∷ 0 ∷ t)

pub data Sound (most : ℕ) : ℕ → List ℕ → Type 0 where
  rest : {lo : ℕ} {t : List ℕ} → Unused t → Sound most lo t
  used : {lo e n : ℕ} {t : List ℕ} → lo ≤ e → suc n ≤ most → Sound most (suc e) t → Sound most lo (e ∷ suc n ∷ t)

-- both parts of a test that holds
pub parts : (a b : Bool) → a && b ≡ true → (a ≡ true) × (b ≡ true)
parts true b h = (refl, h)
parts false b h = absurd (false≢true h)

pub see_unused : (t : List ℕ) → unused t ≡ true → Unused t
unfolding unused
see_unused [] h = none
see_unused (w ∷ []) h = absurd (false≢true h)
see_unused (zero ∷ zero ∷ t) h = pair (see_unused t h)
see_unused (zero ∷ suc n ∷ t) h = absurd (false≢true h)
see_unused (suc e ∷ w ∷ t) h = absurd (false≢true h)

pub say_unused : {t : List ℕ} → Unused t → unused t ≡ true
unfolding unused
say_unused none = refl
say_unused (pair z) = say_unused z

pub see : (most lo : ℕ) (t : List ℕ) → sound_from most lo t ≡ true → Sound most lo t
unfolding sound_from
see most lo [] h = rest none
see most lo (w ∷ []) h = absurd (false≢true h)
see most lo (e ∷ zero ∷ t) h = rest (see_unused (e ∷ zero ∷ t) h)
see most lo (e ∷ suc n ∷ t) h =
    let a = parts (leb lo e) _ h in
    let b = parts (leb (suc n) most) _ a.1 in
    used (leb-true _ _ a.0) (leb-true _ _ b.0) (see most (suc e) t b.1)

pub say : {most lo : ℕ} {t : List ℕ} → Sound most lo t → sound_from most lo t ≡ true
unfolding sound_from unused
say (rest none) = refl
say (rest (pair z)) = say_unused z
say (used l h s) = rw (le-leb _ _ l, le-leb _ _ h) (say s)

pub seen : {most lo : ℕ} {t : List ℕ} → sound_from most lo t ≡ true → Sound most lo t
seen {most} {lo} {t} h = see most lo t h
