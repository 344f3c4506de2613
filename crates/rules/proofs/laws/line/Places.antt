-- Readings from the front of a text, said of places in a line: what is read at a place, and the place behind it. Assumes nothing.
use Rattle.std.specs.Prelude.{◌≡◌, refl, Bool, List, ◌++◌, ℕ, ◌+◌, ◌-◌, ◌≤◌, length, drop, Some, None}
use Rattle.std.proofs.Common.{sym, ap, ◌∙◌, arith, length-append, length-drop, drop_of_length-le, drop_at, drop-drop}
use Rattle.rules.specs.meaning.Text.{Front, front, refused, behind}
use Rattle.rules.specs.meaning.Number.{read_number}
use Rattle.rules.proofs.laws.line.Numbers.{below, read_suffix}
use Rattle.rules.specs.meaning.Lines.{lead, kind_of, read_field}
use Rattle.rules.proofs.laws.line.Lines.{behind_text, field_suffix, kind_text}
use Rattle.rules.specs.meaning.Places.{placed, number_at, text_at, field_at, kind_at}

-- ---- to a place: what is left is the line from there
pub to_place : (line : List ℕ) (f : Front) (v i : ℕ) → f ≡ front v (drop i line) → i ≤ length line → placed (length line) f ≡ Some (v, i)
to_place line f v i e h = rw e (ap (λ (p : ℕ). Some (v, p)) (let k : length line - length (drop i line) ≡ i = omega (arith, length-drop i line) in k))

pub to_none : (n : ℕ) (f : Front) → f ≡ refused → placed n f ≡ None
to_none n f e = rw e

-- ---- from a place: one law for the four, over what the reading says of the text
rest_is : (line : List ℕ) (at : ℕ) (p r : List ℕ) → drop at line ≡ p ++ r → (r ≡ drop (length line - length r) line) × (length line - length r ≤ length line)
rest_is line at p r e =
    let n : length line - at ≡ length p + length r = sym (length-drop at line) ∙ ap length e ∙ length-append p r in
    let i = length line - length r in
    let q : r ≡ drop (at + length p) line = sym (drop_at p r (length p) refl) ∙ ap (drop (length p)) (sym e) ∙ drop-drop (length p) at line in (
      below at (length line)
          (λ h. let k : at + length p ≡ i = omega arith in q ∙ ap (λ (j : ℕ). drop j line) k)
          (λ h. q ∙ drop_of_length-le line {i = at + length p} (omega arith) ∙ sym (drop_of_length-le line {i = i} (omega arith))),
      omega arith,
    )

pub from_place : (line : List ℕ) (at : ℕ) (f : Front) → ((v : ℕ) (r : List ℕ) → f ≡ front v r → (p : List ℕ) × (drop at line ≡ p ++ r)) → (v i : ℕ) → placed (length line) f ≡ Some (v, i) → (f ≡ front v (drop i line)) × (i ≤ length line)
from_place line at (front w r) says v i e =
    let s = says w r refl in
    let q = rest_is line at s.0 r s.1 in
    let both : ◌≡◌ {A = ℕ × ℕ} (w, length line - length r) (v, i) = cc in
    let ew : w ≡ v = ap (λ (p : ℕ × ℕ). p.0) both in
    let ei : length line - length r ≡ i = ap (λ (p : ℕ × ℕ). p.1) both in
    (ap (λ (k : ℕ). front k r) ew ∙ ap (front v) (q.0 ∙ ap (λ (k : ℕ). drop k line) ei), omega (arith, q.1))
from_place line at refused says v i e = absurd (let z : ◌≡◌ {A = ℕ} 0 1 = cc in omega arith)

pub from_none : (n : ℕ) (f : Front) → placed n f ≡ None → f ≡ refused
from_none n (front v r) e = absurd (let z : ◌≡◌ {A = ℕ} 0 1 = cc in omega arith)
from_none n refused e = refl

pub number_says : (line : List ℕ) (at v i : ℕ) → number_at line at ≡ Some (v, i) → (read_number (drop at line) ≡ front v (drop i line)) × (i ≤ length line)
unfolding number_at
number_says line at v i e = from_place line at (read_number (drop at line)) (λ w r q. read_suffix (drop at line) w r q) v i e

pub text_says : (line : List ℕ) (at : ℕ) (text : List ℕ) (v i : ℕ) → text_at line at text ≡ Some (v, i) → (behind text (drop at line) ≡ front v (drop i line)) × (i ≤ length line)
unfolding text_at
text_says line at text v i e = from_place line at (behind text (drop at line)) (λ w r q. (text, behind_text text (drop at line) w r q)) v i e

pub field_says : (used : Bool) (name line : List ℕ) (at v i : ℕ) → field_at used name line at ≡ Some (v, i) → (read_field used name (drop at line) ≡ front v (drop i line)) × (i ≤ length line)
unfolding field_at
field_says used name line at v i e = from_place line at (read_field used name (drop at line)) (λ w r q. field_suffix used name (drop at line) w r q) v i e

pub kind_says : (line : List ℕ) (v i : ℕ) → kind_at line ≡ Some (v, i) → (kind_of line ≡ front v (drop i line)) × (i ≤ length line)
unfolding kind_at
kind_says line v i e = from_place line 0 (kind_of line) (λ w r q. (lead w, (kind_text line w r q).2)) v i e
