-- What follows for padding in any text: one without it stays as it is, what is left of any other has none, and a piece without a digit is kept.
-- Assumes nothing.
use Rattle.std.specs.Prelude.{◌≡◌, refl, Bool, true, false, not, ◌&&◌, List, [], ◌∷◌, ◌++◌, ℕ, suc, ◌≤◌, eqb, length}
use Rattle.std.proofs.Common.{sym, ◌∙◌, arith, eqb-true, ne_eqb}
use Rattle.std.proofs.Math.Path.{ap}
use Rattle.std.proofs.Math.Bool.{and-false}
use Rattle.std.proofs.lemmas.Bool.{false≢true}
use Rattle.rules.proofs.laws.table.View.{parts}
use Rattle.rules.specs.meaning.Number.{digit_of, is_digit, starts_digit}
use Rattle.rules.specs.meaning.Padding.{is_padding, unpadded_from, unpadded, padded_from, is_padded, short_from, has_short_numbers}
use Rattle.rules.proofs.laws.line.Numbers.{by_test}

-- ---- which byte is padding
-- it is a zero with a digit behind it, and no digit of its number before it
padding_says : (b : Bool) (c : ℕ) (xs : List ℕ) → is_padding b c xs ≡ true → (b ≡ false) × (c ≡ 48) × (starts_digit xs ≡ true)
unfolding is_padding
padding_says true c xs h = absurd (false≢true h)
padding_says false c xs h = let a = parts (eqb c 48) (starts_digit xs) h in (refl, eqb-true c 48 a.0, a.1)

-- a zero is a digit, so no other byte than a digit is padding
zero_digit : (c : ℕ) → c ≡ 48 → is_digit c ≡ true
unfolding digit_of
zero_digit c h = rw h

other_stays : (b : Bool) (c : ℕ) (xs : List ℕ) → is_digit c ≡ false → is_padding b c xs ≡ false
unfolding is_padding
other_stays b c xs h = rw (ne_eqb c 48 (λ z. false≢true (sym h ∙ zero_digit c z)), and-false (not b))

-- ---- the text that is left
module _ (b : Bool) (c : ℕ) (xs : List ℕ) where
  pub dropped : is_padding b c xs ≡ true → unpadded_from b (c ∷ xs) ≡ unpadded xs
  unfolding unpadded_from unpadded
  dropped h = rw h

  pub kept : is_padding b c xs ≡ false → unpadded_from b (c ∷ xs) ≡ c ∷ unpadded_from (is_digit c) xs
  unfolding unpadded_from
  kept h = rw h

  pub other_kept : is_digit c ≡ false → unpadded_from b (c ∷ xs) ≡ c ∷ unpadded xs
  unfolding unpadded
  other_kept h = kept (other_stays b c xs h) ∙ ap (λ (d : Bool). c ∷ unpadded_from d xs) h

-- behind a number it does not matter that a number stands before
pub unpadded_stop : (b : Bool) (xs : List ℕ) → starts_digit xs ≡ false → unpadded_from b xs ≡ unpadded xs
unfolding starts_digit unpadded_from unpadded
unpadded_stop b [] h = refl
unpadded_stop b (c ∷ xs) h = other_kept b c xs h ∙ sym (other_kept false c xs h)

-- it begins with a digit where the text did
pub starts_same : (b : Bool) (xs : List ℕ) → starts_digit (unpadded_from b xs) ≡ starts_digit xs
unfolding starts_digit unpadded_from
starts_same b [] = refl
starts_same b (c ∷ xs) =
    by_test (is_padding b c xs)
    (λ y. let s = padding_says b c xs y in rw y (starts_same false xs ∙ s.2 ∙ sym (zero_digit c s.1)))
    (λ n. rw n)

-- it is no longer
pub unpadded_length : (b : Bool) (xs : List ℕ) → length (unpadded_from b xs) ≤ length xs
unfolding unpadded_from
unpadded_length b [] = omega arith
unpadded_length b (c ∷ xs) =
    by_test (is_padding b c xs)
    (λ y. rw y (let h = unpadded_length false xs in omega arith))
    (λ n. rw n (let h = unpadded_length (is_digit c) xs in omega arith))

-- a text that has no padding stays as it is
pub unpadded_same : (b : Bool) (xs : List ℕ) → padded_from b xs ≡ false → unpadded_from b xs ≡ xs
unfolding unpadded_from padded_from
unpadded_same b [] h = refl
unpadded_same b (c ∷ xs) h =
    by_test (is_padding b c xs)
    (λ y. absurd (false≢true (sym h ∙ rw y)))
    (λ n. rw n (ap (λ (t : List ℕ). c ∷ t) (unpadded_same (is_digit c) xs (rw n at h))))

-- what is left has none: a zero that was kept has behind it what it had
padding_same : (b : Bool) (c : ℕ) (xs : List ℕ) → is_padding b c (unpadded_from (is_digit c) xs) ≡ is_padding b c xs
unfolding is_padding
padding_same b c xs = ap (λ (t : Bool). not b && eqb c 48 && t) (starts_same (is_digit c) xs)

pub unpadded_none : (b : Bool) (xs : List ℕ) → padded_from b (unpadded_from b xs) ≡ false
unfolding unpadded_from padded_from
unpadded_none b [] = refl
unpadded_none b (c ∷ xs) =
    by_test (is_padding b c xs)
    (λ y. let s = padding_says b c xs y in rw (y, s.0) (unpadded_none false xs))
    (λ n. rw (n, padding_same b c xs, n) (unpadded_none (is_digit c) xs))

-- nothing is left of nothing alone
pub unpadded_empty : (xs : List ℕ) → unpadded xs ≡ [] → xs ≡ []
unfolding unpadded unpadded_from starts_digit
unpadded_empty [] h = refl
unpadded_empty (c ∷ xs) h =
    by_test (is_padding false c xs)
    (λ y. absurd (false≢true (sym (ap starts_digit (rw y at h)) ∙ starts_same false xs ∙ (padding_says false c xs y).2)))
    (λ n. absurd (let k : suc (length (unpadded_from (is_digit c) xs)) ≡ 0 = ap length (rw n at h) in omega arith))

-- ---- a piece of text without a digit
unfoldable pub has_no_digit : List ℕ → Bool
has_no_digit [] = true
has_no_digit (c ∷ l) = not (is_digit c) && has_no_digit l

no_digit : (c : ℕ) (l : List ℕ) → has_no_digit (c ∷ l) ≡ true → (is_digit c ≡ false) × (has_no_digit l ≡ true)
unfolding has_no_digit
no_digit c l h = let a = parts (not (is_digit c)) (has_no_digit l) h in (by_test (is_digit c) (λ y. absurd (false≢true (rw y at a.0))) (λ n. n), a.1)

pub text_unpadded : (l xs : List ℕ) → has_no_digit l ≡ true → unpadded (l ++ xs) ≡ l ++ unpadded xs
unfolding unpadded
text_unpadded [] xs h = refl
text_unpadded (c ∷ l) xs h = let n = no_digit c l h in other_kept false c (l ++ xs) n.0 ∙ ap (λ (t : List ℕ). c ∷ t) (text_unpadded l xs n.1)

pub text_short : (l xs : List ℕ) → has_no_digit l ≡ true → has_short_numbers (l ++ xs) ≡ has_short_numbers xs
unfolding has_short_numbers short_from
text_short [] xs h = refl
text_short (c ∷ l) xs h = let n = no_digit c l h in rw n.0 (text_short l xs n.1)

pub text_bare : (l xs : List ℕ) → has_no_digit l ≡ true → is_padded xs ≡ false → is_padded (l ++ xs) ≡ false
unfolding is_padded padded_from
text_bare [] xs h b = b
text_bare (c ∷ l) xs h b = let n = no_digit c l h in rw (other_stays false c (l ++ xs) n.0, n.0) (text_bare l xs n.1 b)

-- and back: where it stands in front of what is left, it stands in front of the text
pub text_shown : (l xs ys : List ℕ) → has_no_digit l ≡ true → unpadded xs ≡ l ++ ys → (r : List ℕ) × (xs ≡ l ++ r) × (unpadded r ≡ ys)
unfolding unpadded starts_digit unpadded_from
text_shown [] xs ys h e = (xs, refl, e)
text_shown (c ∷ l) [] ys h e = absurd (let k : 0 ≡ suc (length (l ++ ys)) = ap length e in omega arith)
text_shown (c ∷ l) (x ∷ xs) ys h e =
    let n = no_digit c l h in
    let x-other : is_digit x ≡ false = sym (starts_same false (x ∷ xs)) ∙ ap starts_digit e ∙ n.0 in
    let k : x ∷ unpadded xs ≡ c ∷ (l ++ ys) = sym (other_kept false x xs x-other) ∙ e in
    let same : x ≡ c = cc in
    let g = text_shown l xs ys n.1 (let t : unpadded xs ≡ l ++ ys = cc in t) in
    (g.0, ap (λ (n : ℕ). n ∷ xs) same ∙ ap (λ (t : List ℕ). c ∷ t) g.1, g.2)
