-- A text is read as four numbers exactly where it is their line but for padding, and no number of it has more than 20 digits. Assumes nothing.
use Rattle.std.specs.Prelude.{◌≡◌, refl, Bool, true, false, cond, List, [], ◌++◌, ℕ, ◌+◌, ◌^◌, ◌≤◌, ◌<◌, eqb, length, None}
use Rattle.std.proofs.Common.{sym, ap, ◌∙◌, append_assoc, append-nil, arith, eq-eqb, le-leb, length-append}
use Rattle.rules.specs.meaning.Text.{Front, front, next, behind}
use Rattle.rules.specs.meaning.Number.{most_digits, digits, digit_of, starts_digit, read_number}
use Rattle.rules.specs.meaning.Padding.{unpadded_from, unpadded, short_from, has_short_numbers}
use Rattle.rules.proofs.laws.line.Padding.{has_no_digit, unpadded_empty, text_unpadded, text_short, text_shown}
use Rattle.rules.specs.meaning.Lines.{lead, to_name, id_name, has_second, has_id, field, text_of, names_step, kind_of, read_field, ended, numbers_of, four}
use Rattle.rules.proofs.laws.line.PaddedNumbers.{number_unpadded, number_short, number_room, number_fits, number_shown}
use Rattle.rules.proofs.laws.line.Lines.{behind_is, behind_text, next_says, front_cases, or_is, field_stops, fields_stop, by_kind, kind_lead, kind_text, no_kind, no_first, no_second, no_id, at_end, ended_says, step_says}

-- ---- what was taken from the front of a text
-- the text of it without padding, whether its numbers are short, and how many bytes it has at most
pub record Took (xs text rest : List ℕ) (room : ℕ) : Type 0 where
  pub shown : unpadded xs ≡ text ++ unpadded rest
  pub short : has_short_numbers rest ≡ true → has_short_numbers xs ≡ true
  pub within : length xs ≤ room + length rest

-- one piece and the next
took_both : (xs a ys b zs : List ℕ) (m n : ℕ) → Took xs a ys m → Took ys b zs n → Took xs (a ++ b) zs (m + n)
took_both xs a ys b zs m n p q =
    record {
      shown = p.shown ∙ ap (λ (t : List ℕ). a ++ t) q.shown ∙ sym (append_assoc a b (unpadded zs));
      short = λ h. p.short (q.short h);
      within = omega (arith, p.within, q.within);
    }

took_text : (l rest : List ℕ) → has_no_digit l ≡ true → Took (l ++ rest) l rest (length l)
took_text l rest h =
    record {
      shown = text_unpadded l rest h;
      short = λ s. text_short l rest h ∙ s;
      within = omega (arith, length-append l rest);
    }

took_number : (xs : List ℕ) (n : ℕ) (rest : List ℕ) → read_number xs ≡ front n rest → Took xs (digits n) rest most_digits
took_number xs n rest e =
    record {
      shown = number_unpadded xs n rest e;
      short = number_short xs n rest e;
      within = number_room xs n rest e;
    }

unfoldable pub field_room : Bool → List ℕ → ℕ
field_room b name = cond b (length name + most_digits) 0

took_field : (b : Bool) (name xs : List ℕ) (n : ℕ) (rest : List ℕ) → has_no_digit name ≡ true → read_field b name xs ≡ front n rest → Took xs (field b name n) rest (field_room b name)
unfolding read_field field field_room
took_field true name xs n rest h e =
    let s = next_says (behind name xs) (λ _ r. read_number r) n rest e in
    rw (behind_text name xs s.0 s.1 s.2) (took_both (name ++ s.1) name s.1 (digits n) rest (length name) most_digits (took_text name s.1 h) (took_number s.1 n rest s.3))
took_field false name xs n rest h e =
    let k : xs ≡ rest = cc in
    rw k (record { shown = refl; short = λ s. s; within = omega arith })

field_fits : (b : Bool) (name xs : List ℕ) (n : ℕ) (rest : List ℕ) → read_field b name xs ≡ front n rest → (n < 2 ^ 64) × (b ≡ false → n ≡ 0)
unfolding read_field
field_fits true name xs n rest e =
    let s = next_says (behind name xs) (λ _ r. read_number r) n rest e in
    (number_fits s.1 n rest s.3, λ f. absurd (let z : ◌≡◌ {A = ℕ} 0 1 = cc in omega arith))
field_fits false name xs n rest e = let k : 0 ≡ n = cc in (omega arith, λ _. sym k)

-- no name in a line has a digit
lead_plain : (k : ℕ) → 1 ≤ k → k ≤ 8 → has_no_digit (lead k) ≡ true
unfolding has_no_digit lead digit_of
lead_plain k p q = by_kind (λ (j : ℕ). has_no_digit (lead j) ≡ true) refl refl refl refl refl refl refl refl k p q

to_plain : has_no_digit to_name ≡ true
unfolding has_no_digit digit_of
to_plain = refl

id_plain : has_no_digit id_name ≡ true
unfolding has_no_digit digit_of
id_plain = refl

-- ---- a line that is read
step_is : (kind second i : ℕ) → 1 ≤ kind → kind ≤ 8 → (has_second kind ≡ false → second ≡ 0) → (has_id kind ≡ false → i ≡ 0) → names_step kind second i ≡ true
unfolding names_step
step_is kind second i p q hs hi =
    rw (le-leb 1 kind p, le-leb kind 8 q, or_is (has_second kind) (eqb second 0) (λ z. eq-eqb second 0 (hs z)), or_is (has_id kind) (eqb i 0) (λ z. eq-eqb i 0 (hi z)))

-- so many bytes a line of a kind has at most
unfoldable pub line_room : ℕ → ℕ
line_room kind = length (lead kind) + (most_digits + (field_room (has_second kind) to_name + field_room (has_id kind) id_name))

-- what is known of a text that is read as four numbers
pub record Written (xs : List ℕ) (kind first second i : ℕ) : Type 0 where
  pub text : unpadded xs ≡ text_of kind first second i
  pub short : has_short_numbers xs ≡ true
  pub within : length xs ≤ line_room kind
  pub step : names_step kind second i ≡ true
  pub first_fits : first < 2 ^ 64
  pub second_fits : second < 2 ^ 64
  pub id_fits : i < 2 ^ 64

from_parts : (xs : List ℕ) (kind first second i : ℕ) (r s t : List ℕ) → kind_of xs ≡ front kind r → read_number r ≡ front first s → read_field (has_second kind) to_name s ≡ front second t → read_field (has_id kind) id_name t ≡ front i [] → Written xs kind first second i
unfolding text_of line_room unpadded unpadded_from has_short_numbers short_from
from_parts xs kind first second i r s t e1 e2 e3 e4 =
    let p = kind_text xs kind r e1 in
    let second_is = field_fits (has_second kind) to_name s second t e3 in
    let id-is = field_fits (has_id kind) id_name t i [] e4 in
    let took : Took (lead kind ++ r) (text_of kind first second i) [] (line_room kind) =
    took_both _ (lead kind) r _ [] _ _ (took_text (lead kind) r (lead_plain kind p.0 p.1))
    (took_both r (digits first) s _ [] _ _ (took_number r first s e2)
    (took_both s _ t _ [] _ _ (took_field (has_second kind) to_name s second t to_plain e3)
    (took_field (has_id kind) id_name t i [] id_plain e4))) in
    rw p.2
    record {
      text = took.shown ∙ append-nil (text_of kind first second i);
      short = took.short refl;
      within = omega (arith, took.within);
      step = step_is kind second i p.0 p.1 second_is.1 id-is.1;
      first_fits = number_fits r first s e2;
      second_fits = second_is.0;
      id_fits = id-is.0;
    }

pub read_written : (xs : List ℕ) (kind first second i : ℕ) → numbers_of xs ≡ four kind first second i → Written xs kind first second i
read_written xs kind first second i e =
    front_cases (kind_of xs) (λ n. no (no_kind xs n)) (λ k r e1.
    front_cases (read_number r) (λ n. no (no_first xs k r e1 n)) (λ a s e2.
    front_cases (read_field (has_second k) to_name s) (λ n. no (no_second xs k r e1 a s e2 n)) (λ b t e3.
    front_cases (read_field (has_id k) id_name t) (λ n. no (no_id xs k r e1 a s e2 b t e3 n)) (λ j u e4.
    let q = ended_says k a b j u kind first second i (sym (at_end xs k r e1 a s e2 b t e3 j u e4) ∙ e) in
    rw (← q.1, ← q.2, ← q.3, ← q.4) (from_parts xs k a b j r s t e1 e2 e3 (e4 ∙ ap (front j) q.0))))))
  where
    no : numbers_of xs ≡ None → Written xs kind first second i
    no n = absurd (let z : ◌≡◌ {A = ℕ} 0 1 = cc in omega arith)

-- ---- and back: a text that is the line of a step but for padding is read as that step
field_shown : (b : Bool) (name xs : List ℕ) (n : ℕ) (ys : List ℕ) → has_no_digit name ≡ true → n < 2 ^ 64 → (b ≡ false → n ≡ 0) → starts_digit ys ≡ false → unpadded xs ≡ field b name n ++ ys → has_short_numbers xs ≡ true → (r : List ℕ) × (read_field b name xs ≡ front n r) × (unpadded r ≡ ys) × (has_short_numbers r ≡ true)
unfolding read_field field
field_shown true name xs n ys h fits z stop e s =
    let l = text_shown name xs (digits n ++ ys) h (e ∙ append_assoc name (digits n) ys) in
    let g = number_shown l.0 n ys fits stop l.2 (sym (text_short name l.0 h) ∙ ap has_short_numbers (sym l.1) ∙ s) in
    (g.0, ap (λ (f : Front). next f (λ _ r. read_number r)) (ap (behind name) l.1 ∙ behind_is name l.0) ∙ g.1, g.2, g.3)
field_shown false name xs n ys h fits z stop e s = (xs, ap (λ (k : ℕ). front k xs) (sym (z refl)), e, s)

-- the last of four readings leaves nothing
all_read : (xs r s t u : List ℕ) (kind first second i : ℕ) → kind_of xs ≡ front kind r → read_number r ≡ front first s → read_field (has_second kind) to_name s ≡ front second t → read_field (has_id kind) id_name t ≡ front i u → u ≡ [] → numbers_of xs ≡ four kind first second i
all_read xs r s t u kind first second i e1 e2 e3 e4 e5 = at_end xs kind r e1 first s e2 second t e3 i u e4 ∙ ap (ended kind first second i) e5

-- a lead in front, by the text that is left
lead_shown : (xs ys : List ℕ) (kind : ℕ) → 1 ≤ kind → kind ≤ 8 → unpadded xs ≡ lead kind ++ ys → has_short_numbers xs ≡ true → (r : List ℕ) × (kind_of xs ≡ front kind r) × (unpadded r ≡ ys) × (has_short_numbers r ≡ true)
lead_shown xs ys kind p q e s =
    let plain = lead_plain kind p q in
    let l = text_shown (lead kind) xs ys plain e in
    (l.0, ap kind_of l.1 ∙ kind_lead kind l.0 p q, l.2, sym (text_short (lead kind) l.0 plain) ∙ ap has_short_numbers (sym l.1) ∙ s)

-- the id, behind which nothing stands
id_shown : (b : Bool) (xs : List ℕ) (n : ℕ) → n < 2 ^ 64 → (b ≡ false → n ≡ 0) → unpadded xs ≡ field b id_name n → has_short_numbers xs ≡ true → (r : List ℕ) × (read_field b id_name xs ≡ front n r) × (r ≡ [])
unfolding starts_digit
id_shown b xs n fits z e s =
    let g = field_shown b id_name xs n [] id_plain fits z refl (e ∙ sym (append-nil (field b id_name n))) s in
    (g.0, g.1, unpadded_empty g.0 g.2)

pub shown_read : (xs : List ℕ) (kind first second i : ℕ) → names_step kind second i ≡ true → first < 2 ^ 64 → second < 2 ^ 64 → i < 2 ^ 64 → unpadded xs ≡ text_of kind first second i → has_short_numbers xs ≡ true → numbers_of xs ≡ four kind first second i
unfolding text_of
shown_read xs kind first second i names hf hs hi e short =
    let n = step_says kind second i names in
    let r3 = field (has_id kind) id_name i in
    let r2 = field (has_second kind) to_name second ++ r3 in
    let a = lead_shown xs (digits first ++ r2) kind n.0 n.1 e short in
    let b = number_shown a.0 first r2 hf (fields_stop (has_second kind) (has_id kind) second i) a.2 a.3 in
    let c = field_shown (has_second kind) to_name b.0 second r3 to_plain hs n.2 (field_stops (has_id kind) i) b.2 b.3 in
    let d = id_shown (has_id kind) c.0 i hi n.3 c.2 c.3 in
    all_read xs a.0 b.0 c.0 d.0 kind first second i a.1 b.1 c.1 d.1 d.2
