-- Writing a step and reading it back, reading a line and writing it back without padding, how long a line can be, and the eight forms as document 01 lists them.
-- Assumes nothing.
use Prim.Native.Nat.{ℕ, zero, suc, ◌^◌, ◌≤◌, ◌<◌}
use Rattle.std.proofs.Common.{arith, sym, ap, ◌∙◌, length-append, Option, Some, None}
use Rattle.rules.specs.declared.Numbers.{Numbers}
use Rattle.std.specs.Prelude.{◌≡◌, Bool, true, false, length, get_or}
use Rattle.std.proofs.Math.Path.{refl}
use mathlib.Core.List.{List, ◌++◌, append-nil}
use Rattle.rules.specs.declared.Step.{Step}
use Rattle.rules.specs.declared.Step.TheVariants.{Add, Remove, Query, Send, Merge, Deliver, Again, Lose}
use Rattle.rules.specs.meaning.Text.{ascii}
use Rattle.rules.specs.meaning.Number.{up_to, digits}
use Rattle.rules.specs.meaning.Padding.{unpadded, is_padded, has_short_numbers}
use Rattle.rules.proofs.laws.line.Numbers.{by_test, digits_length}
use Rattle.rules.proofs.laws.line.Padding.{unpadded_same, unpadded_none}
use Rattle.rules.specs.meaning.Lines.{lead, to_name, id_name, has_second, has_id, field, text_of, names_step, numbers_of, four}
use Rattle.rules.proofs.laws.line.Lines.{by_kind, written_read, step_says}
use Rattle.rules.proofs.laws.line.PaddedLines.{field_room, line_room, read_written, shown_read}
use Rattle.rules.specs.meaning.Kinds.{numbers}
use Rattle.rules.specs.meaning.StepLines.{steps, step_for, step_in, line_of, step_of, Fits}

-- ---- the eight forms, as document 01 lists them
module _ (n m i : ℕ) where
  pub add_line : line_of (Add n i) ≡ ascii "step=add node=" ++ (digits n ++ (ascii " id=" ++ digits i))
  unfolding line_of numbers text_of field lead
  add_line = refl

  pub remove_line : line_of (Remove n i) ≡ ascii "step=remove node=" ++ (digits n ++ (ascii " id=" ++ digits i))
  unfolding line_of numbers text_of field lead
  remove_line = refl

  pub query_line_law : line_of (Query n i) ≡ ascii "step=query node=" ++ (digits n ++ (ascii " id=" ++ digits i))
  unfolding line_of numbers text_of field lead
  query_line_law = refl

  pub send_line : line_of (Send n m i) ≡ ascii "step=send from=" ++ (digits n ++ (ascii " to=" ++ (digits m ++ (ascii " id=" ++ digits i))))
  unfolding line_of numbers text_of field lead
  send_line = refl

  pub merge_line : line_of (Merge n m) ≡ ascii "step=merge from=" ++ (digits n ++ (ascii " to=" ++ digits m))
  unfolding line_of numbers text_of field lead
  merge_line = simp append-nil

  pub deliver_line : line_of (Deliver n) ≡ ascii "step=deliver slot=" ++ digits n
  unfolding line_of numbers text_of field lead
  deliver_line = simp append-nil

  pub again_line : line_of (Again n) ≡ ascii "step=again slot=" ++ digits n
  unfolding line_of numbers text_of field lead
  again_line = simp append-nil

  pub lose_line : line_of (Lose n) ≡ ascii "step=lose slot=" ++ digits n
  unfolding line_of numbers text_of field lead
  lose_line = simp append-nil

-- the four numbers of a step name it
pub numbers_name : (step : Step) → (names_step (numbers step).kind (numbers step).second (numbers step).id ≡ true)
    × (get_or (steps (numbers step).first (numbers step).second (numbers step).id) (numbers step).kind None ≡ Some step)
unfolding numbers names_step
numbers_name (Add k e) = (refl, refl)
numbers_name (Remove k e) = (refl, refl)
numbers_name (Query k e) = (refl, refl)
numbers_name (Send f t e) = (refl, refl)
numbers_name (Merge f t) = (refl, refl)
numbers_name (Deliver i) = (refl, refl)
numbers_name (Again i) = (refl, refl)
numbers_name (Lose i) = (refl, refl)

-- "A step line written is read back as the same step"
pub written_step : (step : Step) → Fits step → step_of (line_of step) ≡ Some step
unfolding line_of step_of step_in step_for
written_step step h =
    let n = numbers_name step in
    rw (written_read _ (numbers step).first _ _ n.0 h.0 h.1 h.2, n.0) n.1

-- "no two steps have one line"
pub one_step : (a b : Step) → Fits a → Fits b → line_of a ≡ line_of b → a ≡ b
one_step a b p q e =
    let h : Some a ≡ Some b = sym (written_step a p) ∙ ap step_of e ∙ written_step b q in
    cc

-- ---- a line that is read
-- the step that four numbers name has their text, and its numbers fit where they do
module _ (first second e : ℕ) where
  abbrev Same : ℕ → Step → Type 0
  Same kind step = (line_of step ≡ text_of kind first second e) × (first < 2 ^ 64 → second < 2 ^ 64 → e < 2 ^ 64 → Fits step)

  none_is : (kind : ℕ) (step : Step) → None ≡ Some step → Same kind step
  none_is kind step h = absurd (let z : ◌≡◌ {A = ℕ} 0 1 = cc in omega arith)

  named : (kind : ℕ) (step : Step) → names_step kind second e ≡ true → get_or (steps first second e) kind None ≡ Some step → Same kind step
  unfolding line_of numbers
  named zero step y h = none_is zero step h
  named (suc zero) step y h =
      let z : second ≡ 0 = (step_says 1 second e y).2 refl in
      let p : Add first e ≡ step = cc in
      rw (← p, z) (refl, λ a b c. (a, b, c))
  named (suc (suc zero)) step y h =
      let z : second ≡ 0 = (step_says 2 second e y).2 refl in
      let p : Remove first e ≡ step = cc in
      rw (← p, z) (refl, λ a b c. (a, b, c))
  named (suc (suc (suc zero))) step y h =
      let z : second ≡ 0 = (step_says 3 second e y).2 refl in
      let p : Query first e ≡ step = cc in
      rw (← p, z) (refl, λ a b c. (a, b, c))
  named (suc (suc (suc (suc zero)))) step y h =
      let p : Send first second e ≡ step = cc in
      rw (← p) (refl, λ a b c. (a, b, c))
  named (suc (suc (suc (suc (suc zero))))) step y h =
      let z : e ≡ 0 = (step_says 5 second e y).3 refl in
      let p : Merge first second ≡ step = cc in
      rw (← p, z) (refl, λ a b c. (a, b, c))
  named (suc (suc (suc (suc (suc (suc zero)))))) step y h =
      let s = step_says 6 second e y in
      let p : Deliver first ≡ step = cc in
      rw (← p, s.2 refl, s.3 refl) (refl, λ a b c. (a, b, c))
  named (suc (suc (suc (suc (suc (suc (suc zero))))))) step y h =
      let s = step_says 7 second e y in
      let p : Again first ≡ step = cc in
      rw (← p, s.2 refl, s.3 refl) (refl, λ a b c. (a, b, c))
  named (suc (suc (suc (suc (suc (suc (suc (suc zero)))))))) step y h =
      let s = step_says 8 second e y in
      let p : Lose first ≡ step = cc in
      rw (← p, s.2 refl, s.3 refl) (refl, λ a b c. (a, b, c))
  named (suc (suc (suc (suc (suc (suc (suc (suc (suc k))))))))) step y h = none_is (suc (suc (suc (suc (suc (suc (suc (suc (suc k))))))))) step h

  pub named_line : (kind : ℕ) (step : Step) → step_for kind first second e ≡ Some step → Same kind step
  unfolding step_for
  named_line kind step h =
      by_test (names_step kind second e)
      (λ y. named kind step y (rw y at h))
      (λ n. none_is kind step (rw n at h))

-- what a text says, by its two cases
line_cases : {P : Type 0} (l : Option Numbers) → (l ≡ None → P) → ((kind first second e : ℕ) → l ≡ four kind first second e → P) → P
line_cases (Some n) f g = g n.kind n.first n.second n.id refl
line_cases None f g = f refl

-- ---- "The longest line has 83 bytes"
room_within : (kind : ℕ) → 1 ≤ kind → kind ≤ 8 → line_room kind ≤ 83
unfolding line_room field_room lead
room_within kind p q =
    by_kind (λ (k : ℕ). line_room k ≤ 83) (omega arith) (omega arith) (omega arith) (omega arith) (omega arith) (omega arith) (omega arith) (omega arith) kind p q

field_within : (b : Bool) (name : List ℕ) (n : ℕ) → length (field b name n) ≤ field_room b name
unfolding field field_room
field_within true name n = rw (length-append name (digits n)) (omega (arith, digits_length n))
field_within false name n = omega arith

text_within : (kind first second e : ℕ) → length (text_of kind first second e) ≤ line_room kind
unfolding text_of line_room
text_within kind first second e =
    simp (length-append) (omega (arith, digits_length first, field_within (has_second kind) to_name second, field_within (has_id kind) id_name e))

-- no line is longer
pub at_most_83 : (step : Step) → length (line_of step) ≤ 83
unfolding line_of
at_most_83 step =
    let s = step_says (numbers step).kind (numbers step).second (numbers step).id (numbers_name step).0 in
    omega (arith, text_within (numbers step).kind (numbers step).first (numbers step).second (numbers step).id, room_within (numbers step).kind s.0 s.1)

-- and one line has as many: the largest numbers in a send
pub longest_is_83 : length (line_of (Send 18446744073709551615 18446744073709551615 18446744073709551615)) ≡ 83
unfolding line_of numbers text_of lead field digits up_to
longest_is_83 = refl

-- ---- a line that is read
-- what is known of a text and the step that it is read as
pub record Reads (line : List ℕ) (step : Step) : Type 0 where
  pub text : line_of step ≡ unpadded line
  pub fits : Fits step
  pub short : has_short_numbers line ≡ true
  pub within : length line ≤ 83

pub read_step : (line : List ℕ) (step : Step) → step_of line ≡ Some step → Reads line step
unfolding step_of step_in
read_step line step h =
    line_cases (numbers_of line)
    (λ n. absurd (let q : None ≡ Some step = rw n at h in let z : ◌≡◌ {A = ℕ} 0 1 = cc in omega arith))
    (λ kind first second e n.
    let q : step_for kind first second e ≡ Some step = rw n at h in
    let w = read_written line kind first second e n in
    let s = named_line first second e kind step q in
    let k = step_says kind second e w.step in
    record {
      text = s.0 ∙ sym w.text;
      fits = s.1 w.first_fits w.second_fits w.id_fits;
      short = w.short;
      within = omega (arith, w.within, room_within kind k.0 k.1);
    })

-- so a text of more than 83 bytes is no step line
pub read_at_most_83 : (line : List ℕ) (step : Step) → step_of line ≡ Some step → length line ≤ 83
read_at_most_83 line step h = (read_step line step h).within

-- and back: the line of a step with padding, but no number of more than 20 digits, is read as that step
pub padded_step : (line : List ℕ) (step : Step) → unpadded line ≡ line_of step → Fits step → has_short_numbers line ≡ true → step_of line ≡ Some step
unfolding line_of step_of step_in step_for
padded_step line step e h short =
    let n = numbers_name step in
    rw (shown_read line _ (numbers step).first _ _ n.0 h.0 h.1 h.2 e short, n.0) n.1

-- a line that is read has its step's line left, which is read as the same step and has no padding
pub read_again : (line : List ℕ) (step : Step) → step_of line ≡ Some step → (step_of (unpadded line) ≡ Some step) × (is_padded (line_of step) ≡ false)
unfolding is_padded unpadded
read_again line step h =
    let r = read_step line step h in
    (ap step_of (sym r.text) ∙ written_step step r.fits, ap is_padded r.text ∙ unpadded_none false line)

-- a line that has no padding is written back byte for byte
pub read_same : (line : List ℕ) (step : Step) → is_padded line ≡ false → step_of line ≡ Some step → (line_of step ≡ line) × Fits step
unfolding is_padded unpadded
read_same line step n h = let r = read_step line step h in (r.text ∙ unpadded_same false line n, r.fits)

-- two lines are one step exactly where they differ in padding alone
pub one_step_two_lines : (a b : List ℕ) (s t : Step) → step_of a ≡ Some s → step_of b ≡ Some t → (s ≡ t → unpadded a ≡ unpadded b) × (unpadded a ≡ unpadded b → s ≡ t)
one_step_two_lines a b s t p q =
    let x = read_step a s p in
    let y = read_step b t q in
    ((λ e. sym x.text ∙ ap line_of e ∙ y.text), (λ e. one_step s t x.fits y.fits (x.text ∙ e ∙ sym y.text)))
