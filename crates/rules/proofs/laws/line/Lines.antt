-- What follows for step lines: their pieces, read and written, and that a step that is written is read back. Assumes nothing.
use Rattle.std.specs.Prelude.{◌≡◌, refl, Bool, true, false, ◌&&◌, ◌||◌, List, [], ◌∷◌, ◌++◌, ℕ, zero, suc, ◌+◌, ◌-◌, ◌^◌, ◌≤◌, ◌<◌, leb, eqb, length, get_or, None}
use Rattle.std.proofs.Common.{sym, ap, ◌∙◌, append_assoc, append-nil, arith, eqb-true, eq-eqb, leb-true}
use Rattle.rules.proofs.laws.table.View.{parts}
use Rattle.rules.specs.meaning.Text.{Front, front, refused, next, behind}
use Rattle.rules.specs.meaning.Number.{digits, digit_of, starts_digit, read_number}
use Rattle.rules.proofs.laws.line.Numbers.{by_test, read_digits, read_suffix}
use Rattle.rules.specs.declared.Numbers.{Numbers}
use Rattle.rules.specs.meaning.Lines.{leads, lead, to_name, id_name, has_second, has_id, field, text_of, names_step, first_of, kind_of, read_field, ended, numbers_of, four}

-- ---- a fixed piece of text
pub behind_is : (l xs : List ℕ) → behind l (l ++ xs) ≡ front 0 xs
unfolding behind
behind_is [] xs = refl
behind_is (c ∷ l) xs = rw (eq-eqb c c refl) (behind_is l xs)

pub behind_text : (l xs : List ℕ) (v : ℕ) (rest : List ℕ) → behind l xs ≡ front v rest → xs ≡ l ++ rest
unfolding behind
behind_text [] xs v rest e = cc
behind_text (c ∷ l) [] v rest e = absurd (let z : ◌≡◌ {A = ℕ} 0 1 = cc in omega arith)
behind_text (c ∷ l) (x ∷ xs) v rest e =
    by_test (eqb c x)
    (λ q. let h : xs ≡ l ++ rest = behind_text l xs v rest (rw q at e) in let k : c ≡ x = eqb-true c x q in cc)
    (λ q. absurd (let k : refused ≡ front v rest = rw q at e in let z : ◌≡◌ {A = ℕ} 0 1 = cc in omega arith))

-- ---- one reading after another
pub next_says : (f : Front) (g : ℕ → List ℕ → Front) (v : ℕ) (rest : List ℕ) → next f g ≡ front v rest → (w : ℕ) × (r : List ℕ) × (f ≡ front w r) × (g w r ≡ front v rest)
next_says (front w r) g v rest e = (w, r, refl, e)
next_says refused g v rest e = absurd (let z : ◌≡◌ {A = ℕ} 0 1 = cc in omega arith)

pub front_cases : {P : Type 0} (f : Front) → (f ≡ refused → P) → ((v : ℕ) (r : List ℕ) → f ≡ front v r → P) → P
front_cases (front v r) f g = g v r refl
front_cases refused f g = f refl

or_says : (a b : Bool) → (a || b) ≡ true → a ≡ false → b ≡ true
or_says true b e f = absurd (let z : ◌≡◌ {A = ℕ} 0 1 = cc in omega arith)
or_says false b e f = e

pub or_is : (a b : Bool) → (a ≡ false → b ≡ true) → (a || b) ≡ true
or_is true b f = refl
or_is false b f = f refl

-- ---- a further number
pub field_stops : (b : Bool) (n : ℕ) → starts_digit (field b id_name n) ≡ false
unfolding field starts_digit digit_of
field_stops true n = refl
field_stops false n = refl

pub fields_stop : (a b : Bool) (m n : ℕ) → starts_digit (field a to_name m ++ field b id_name n) ≡ false
unfolding field starts_digit digit_of
fields_stop true b m n = refl
fields_stop false true m n = refl
fields_stop false false m n = refl

pub field_read : (b : Bool) (name : List ℕ) (n : ℕ) (rest : List ℕ) → n < 2 ^ 64 → (b ≡ false → n ≡ 0) → starts_digit rest ≡ false → read_field b name (field b name n ++ rest) ≡ front n rest
unfolding read_field field
field_read true name n rest h z stop = rw (append_assoc, behind_is) (read_digits n rest h stop)
field_read false name n rest h z stop = ap (λ (k : ℕ). front k rest) (sym (z refl))

pub field_suffix : (b : Bool) (name xs : List ℕ) (n : ℕ) (rest : List ℕ) → read_field b name xs ≡ front n rest → (p : List ℕ) × (xs ≡ p ++ rest)
unfolding read_field
field_suffix true name xs n rest e =
    let s = next_says (behind name xs) (λ _ r. read_number r) n rest e in
    let q = read_suffix s.1 n rest s.3 in
    (name ++ q.0, behind_text name xs s.0 s.1 s.2 ∙ ap (λ (t : List ℕ). name ++ t) q.1 ∙ sym (append_assoc name q.0 rest))
field_suffix false name xs n rest e = ([], let k : xs ≡ rest = cc in k)

-- ---- the kind
-- what holds of each of the eight
pub by_kind : (P : ℕ → Type 0) → P 1 → P 2 → P 3 → P 4 → P 5 → P 6 → P 7 → P 8 → (k : ℕ) → 1 ≤ k → k ≤ 8 → P k
by_kind P a b c d e f g h zero p q = absurd (omega arith)
by_kind P a b c d e f g h (suc zero) p q = a
by_kind P a b c d e f g h (suc (suc zero)) p q = b
by_kind P a b c d e f g h (suc (suc (suc zero))) p q = c
by_kind P a b c d e f g h (suc (suc (suc (suc zero)))) p q = d
by_kind P a b c d e f g h (suc (suc (suc (suc (suc zero))))) p q = e
by_kind P a b c d e f g h (suc (suc (suc (suc (suc (suc zero)))))) p q = f
by_kind P a b c d e f g h (suc (suc (suc (suc (suc (suc (suc zero))))))) p q = g
by_kind P a b c d e f g h (suc (suc (suc (suc (suc (suc (suc (suc zero)))))))) p q = h
by_kind P a b c d e f g h (suc (suc (suc (suc (suc (suc (suc (suc (suc k))))))))) p q = absurd (omega arith)

pub kind_lead : (k : ℕ) (rest : List ℕ) → 1 ≤ k → k ≤ 8 → kind_of (lead k ++ rest) ≡ front k rest
unfolding kind_of first_of behind lead
kind_lead k rest p q = by_kind (λ (j : ℕ). kind_of (lead j ++ rest) ≡ front j rest) refl refl refl refl refl refl refl refl k p q

first_text : (k : ℕ) (ls : List (List ℕ)) (xs : List ℕ) (j : ℕ) (rest : List ℕ) → first_of k ls xs ≡ front j rest → (k ≤ j) × (j < k + length ls) × (xs ≡ get_or ls (j - k) [] ++ rest)
unfolding first_of
first_text k [] xs j rest e = absurd (let z : ◌≡◌ {A = ℕ} 0 1 = cc in omega arith)
first_text k (l ∷ ls) xs j rest e = go (behind l xs) refl (first_text (k + 1) ls xs j rest)
  where
    go : (f : Front) → behind l xs ≡ f → (first_of (k + 1) ls xs ≡ front j rest → (k + 1 ≤ j) × (j < k + 1 + length ls) × (xs ≡ get_or ls (j - (k + 1)) [] ++ rest)) → (k ≤ j) × (j < k + length (l ∷ ls)) × (xs ≡ get_or (l ∷ ls) (j - k) [] ++ rest)
    go (front v r) q ih =
        let e' : front k r ≡ front j rest = rw q at e in
        let ek : k ≡ j = cc in
        let er : r ≡ rest = cc in
        let z : j - k ≡ 0 = omega arith in
        (omega arith, omega arith, rw z (behind_text l xs v rest (q ∙ ap (λ (t : List ℕ). front v t) er)))
    go refused q ih =
        let h = ih (rw q at e) in
        let n : j - k ≡ suc (j - (k + 1)) = omega arith in
        (omega arith, omega arith, rw n h.2)

pub kind_text : (xs : List ℕ) (k : ℕ) (rest : List ℕ) → kind_of xs ≡ front k rest → (1 ≤ k) × (k ≤ 8) × (xs ≡ lead k ++ rest)
unfolding kind_of lead
kind_text xs k rest e =
    let h = first_text 1 leads xs k rest e in
    let n : suc (k - 1) ≡ k = omega arith in
    (h.0, omega arith, h.2 ∙ ap (λ (j : ℕ). get_or ([] ∷ leads) j [] ++ rest) n)

-- ---- a step from its parts, and where it is refused
module _ (xs : List ℕ) where
  pub no_kind : kind_of xs ≡ refused → numbers_of xs ≡ None
  unfolding numbers_of
  no_kind e1 = rw e1

  module _ (kind : ℕ) (r : List ℕ) (e1 : kind_of xs ≡ front kind r) where
    pub no_first : read_number r ≡ refused → numbers_of xs ≡ None
    unfolding numbers_of
    no_first e2 = rw (e1, e2)

    module _ (first : ℕ) (s : List ℕ) (e2 : read_number r ≡ front first s) where
      pub no_second : read_field (has_second kind) to_name s ≡ refused → numbers_of xs ≡ None
      unfolding numbers_of
      no_second e3 = rw (e1, e2, e3)

      module _ (second : ℕ) (t : List ℕ) (e3 : read_field (has_second kind) to_name s ≡ front second t) where
        pub no_id : read_field (has_id kind) id_name t ≡ refused → numbers_of xs ≡ None
        unfolding numbers_of
        no_id e4 = rw (e1, e2, e3, e4)

        pub at_end : (i : ℕ) (u : List ℕ) → read_field (has_id kind) id_name t ≡ front i u → numbers_of xs ≡ ended kind first second i u
        unfolding numbers_of
        at_end i u e4 = rw (e1, e2, e3, e4)

pub ended_says : (k a b i : ℕ) (u : List ℕ) (k' a' b' i' : ℕ) → ended k a b i u ≡ four k' a' b' i' → (u ≡ []) × (k ≡ k') × (a ≡ a') × (b ≡ b') × (i ≡ i')
ended_says k a b i [] k' a' b' i' e =
    let q : ◌≡◌ {A = Numbers} (record { kind = k; first = a; second = b; id = i }) (record { kind = k'; first = a'; second = b'; id = i' }) = cc in
    (refl, ap (λ (n : Numbers). n.kind) q, ap (λ (n : Numbers). n.first) q, ap (λ (n : Numbers). n.second) q, ap (λ (n : Numbers). n.id) q)
ended_says k a b i (x ∷ u) k' a' b' i' e = absurd (let z : ◌≡◌ {A = ℕ} 0 1 = cc in omega arith)

-- ---- a step that is written is read back
pub step_says : (kind second i : ℕ) → names_step kind second i ≡ true → (1 ≤ kind) × (kind ≤ 8) × (has_second kind ≡ false → second ≡ 0) × (has_id kind ≡ false → i ≡ 0)
unfolding names_step
step_says kind second i e =
    let a = parts (leb 1 kind && leb kind 8 && (has_second kind || eqb second 0)) (has_id kind || eqb i 0) e in
    let b = parts (leb 1 kind && leb kind 8) (has_second kind || eqb second 0) a.0 in
    let d = parts (leb 1 kind) (leb kind 8) b.0 in (
      leb-true 1 kind d.0,
      leb-true kind 8 d.1,
      (λ z. eqb-true second 0 (or_says (has_second kind) (eqb second 0) b.1 z)),
      (λ z. eqb-true i 0 (or_says (has_id kind) (eqb i 0) a.1 z)),
    )

pub written_read : (kind first second i : ℕ) → names_step kind second i ≡ true → first < 2 ^ 64 → second < 2 ^ 64 → i < 2 ^ 64 → numbers_of (text_of kind first second i) ≡ four kind first second i
unfolding text_of starts_digit
written_read kind first second i e hf hs hi =
    let s = step_says kind second i e in
    let r3 = field (has_id kind) id_name i in
    let r2 = field (has_second kind) to_name second ++ r3 in
    at_end (lead kind ++ (digits first ++ r2)) kind (digits first ++ r2) (kind_lead kind (digits first ++ r2) s.0 s.1)
    first r2 (read_digits first r2 hf (fields_stop (has_second kind) (has_id kind) second i))
    second r3 (field_read (has_second kind) to_name second r3 hs s.2 (field_stops (has_id kind) i))
    i [] (ap (read_field (has_id kind) id_name) (sym (append-nil r3)) ∙ field_read (has_id kind) id_name i [] hi s.3 none)
  where
    none : starts_digit [] ≡ false
    none = refl
