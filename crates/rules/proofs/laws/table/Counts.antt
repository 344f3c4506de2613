-- What a sound table counts, said of its lengths alone: `held` is the number of ids that have one, `shown` the number of ids that are listed.
-- Assumes nothing.
use Rattle.std.specs.Prelude.{ℕ, zero, suc, ◌≤◌, ◌<◌, Bool, true, false, cond, ◌≡◌, List, ◌∷◌, ltb}
use Rattle.std.proofs.Common.{arith, sym, ◌∙◌, lt-ltb}
use Rattle.std.proofs.Math.Path.{refl}
use Rattle.rules.specs.meaning.Lengths.{listed}
use Rattle.rules.specs.meaning.Table.{sound, length_of, held, shown, count_below}
use Rattle.rules.proofs.laws.table.Order.{Side, Side.below, Side.same, Side.above, side}
use Rattle.rules.proofs.laws.table.View.{Unused, Unused.none, Unused.pair, Sound, Sound.rest, Sound.used, seen}
use Rattle.rules.proofs.laws.table.Law.{of_same, of_other, of_unused, of_below}

-- ---- counting numbers below a bound
count_none : (f : ℕ → Bool) (b : ℕ) → ((x : ℕ) → f x ≡ false) → count_below f b ≡ 0
unfolding count_below
count_none f zero h = refl
count_none f (suc b) h = rw (h b) (count_none f b h)

count_same : (f g : ℕ → Bool) (b : ℕ) → ((x : ℕ) → x < b → f x ≡ g x) → count_below f b ≡ count_below g b
unfolding count_below
count_same f g zero h = refl
count_same f g (suc b) h = rw (h b (omega arith), count_same f g b (λ x p. h x (omega arith)))

cond_more : (v : Bool) (m n : ℕ) → m ≡ suc n → cond v (suc m) m ≡ suc (cond v (suc n) n)
cond_more true m n q = rw q
cond_more false m n q = q

-- a test that holds at one number more, and is the same elsewhere, counts one more
count_more : (f g : ℕ → Bool) (e b : ℕ) → e < b → f e ≡ true → g e ≡ false → ((x : ℕ) → (e ≡ x → ⊥) → f x ≡ g x) → count_below f b ≡ suc (count_below g b)
unfolding count_below
count_more f g e zero p hf hg other = absurd (omega arith)
count_more f g e (suc b) p hf hg other = go (side e b) (λ l. count_more f g e b l hf hg other)
  where
    go : Side e b → (e < b → count_below f b ≡ suc (count_below g b))
        → cond (f b) (suc (count_below f b)) (count_below f b) ≡ suc (cond (g b) (suc (count_below g b)) (count_below g b))
    go (below l) ih = rw (other b (omega arith)) (cond_more (g b) (count_below f b) (count_below g b) (ih l))
    go (same q) ih = rw (← q, hf, hg, count_same f g e (λ x l. other x (omega arith)))
    go (above l) ih = absurd (omega arith)

-- ---- a count of entries by a test of their lengths is the count of ids by the same test
module _ (test : ℕ → Bool) (none-fails : test 0 ≡ false) where
  -- whether an id passes it, and how many do below a bound
  abbrev passes : List ℕ → ℕ → Bool
  passes t x = test (length_of t x)

  abbrev passing : List ℕ → ℕ → ℕ
  passing t b = count_below (passes t) b

  -- one entry in front of a table whose ids are above its own
  module _ {most : ℕ} (e n : ℕ) (t : List ℕ) (s : Sound most (suc e) t) (b : ℕ) (beyond : (x : ℕ) → b ≤ x → length_of (e ∷ suc n ∷ t) x ≡ 0) where
    inside : e < b
    inside = go (side e b)
      where
        go : Side e b → e < b
        go (below p) = p
        go (same p) = absurd (omega (arith, beyond e (omega arith), of_same e (suc n) t))
        go (above p) = absurd (omega (arith, beyond e (omega arith), of_same e (suc n) t))

    beyond_rest : (x : ℕ) → b ≤ x → length_of t x ≡ 0
    beyond_rest x p = sym (of_other e (suc n) t x (omega (arith, inside))) ∙ beyond x p

    absent : passes t e ≡ false
    absent = rw (of_below s e (omega arith)) none-fails

    other : (x : ℕ) → (e ≡ x → ⊥) → passes (e ∷ suc n ∷ t) x ≡ passes t x
    other x d = rw (of_other e (suc n) t x d)

    one_passes : (v : Bool) → test (suc n) ≡ v → cond v (suc (passing t b)) (passing t b) ≡ passing (e ∷ suc n ∷ t) b
    one_passes true h = sym (count_more (passes (e ∷ suc n ∷ t)) (passes t) e b inside (rw (of_same e (suc n) t) h) absent other)
    one_passes false h = sym (count_same (passes (e ∷ suc n ∷ t)) (passes t) b (λ x l. go x (side e x)))
      where
        go : (x : ℕ) → Side e x → passes (e ∷ suc n ∷ t) x ≡ passes t x
        go x (below p) = other x (omega arith)
        go x (same p) = rw (← p) (rw (of_same e (suc n) t) h ∙ sym absent)
        go x (above p) = other x (omega arith)

  module _ (count : List ℕ → ℕ) (ended : (t : List ℕ) → Unused t → count t ≡ 0)
      (entry : (e n : ℕ) (t : List ℕ) → count (e ∷ suc n ∷ t) ≡ cond (test (suc n)) (suc (count t)) (count t)) where
    counted : {most lo : ℕ} {t : List ℕ} → Sound most lo t → (b : ℕ) → ((x : ℕ) → b ≤ x → length_of t x ≡ 0) → count t ≡ passing t b
    counted (rest {t = t} z) b beyond = ended t z ∙ sym (count_none (passes t) b (λ x. rw (of_unused z x) none-fails))
    counted (used {e = e} {n = n} {t = t} l m s) b beyond =
        entry e n t ∙ rw (counted s b (beyond_rest e n t s b beyond)) (one_passes e n t s b beyond (test (suc n)) refl)

held_ended : (t : List ℕ) → Unused t → held t ≡ 0
unfolding held
held_ended _ none = refl
held_ended _ (pair z) = refl

shown_ended : (t : List ℕ) → Unused t → shown t ≡ 0
unfolding shown listed
shown_ended _ none = refl
shown_ended _ (pair {t = t} z) = shown_ended t z

held_entry : (e n : ℕ) (t : List ℕ) → held (e ∷ suc n ∷ t) ≡ cond (ltb 0 (suc n)) (suc (held t)) (held t)
unfolding held
held_entry e n t = rw (lt-ltb 0 (suc n) (omega arith))

module _ (most : ℕ) (t : List ℕ) (s : sound most t ≡ true) (b : ℕ) (beyond : (x : ℕ) → b ≤ x → length_of t x ≡ 0) where
  pub held_counts : held t ≡ count_below (λ (x : ℕ). ltb 0 (length_of t x)) b
  held_counts = counted (ltb 0) refl held held_ended held_entry (seen {most = most} {lo = 0} s) b beyond

  pub shown_counts : shown t ≡ count_below (λ (x : ℕ). listed (length_of t x)) b
  unfolding shown listed
  shown_counts = counted listed refl shown shown_ended (λ e n r. refl) (seen {most = most} {lo = 0} s) b beyond
