-- The laws of a report: how it goes on byte by byte, that it fits the room named for it, and that the contract of `report` leaves one result.
-- Assumes nothing.
use Rattle.std.specs.Prelude.{ℕ, zero, suc, ◌+◌, ◌*◌, ◌≤◌, ◌<◌, ◌≡◌, refl, Bool, true, false, cond, List, [], ◌∷◌, ◌++◌, length, eqb, Option, Some, None}
use Rattle.std.proofs.Common.{arith, length-append}
use borrow.Author.Tests.{lt-ltb, le-ltb, eqb-true, eq-eqb, ne_eqb}
use Rattle.rules.specs.declared.Step.{Step}
use Rattle.rules.specs.meaning.States.{State}
use Rattle.rules.specs.meaning.Refusals.{first_given}
use Rattle.rules.specs.meaning.Runs.{refusal_of, value_of}
use Rattle.rules.specs.meaning.Kinds.{numbers, is_query}
use Rattle.rules.proofs.laws.line.Numbers.{below, by_test}
use Rattle.rules.specs.meaning.Lines.{lead, field, text_of}
use Rattle.rules.specs.meaning.StepLines.{line_of, step_of}
use Rattle.rules.specs.meaning.Padding.{unpadded}
use Rattle.rules.proofs.laws.line.Padding.{unpadded_length}
use Rattle.rules.proofs.laws.line.Steps.{read_step}
use Rattle.rules.specs.meaning.Calls.{named_after}
use Rattle.rules.specs.meaning.Reports.{report_run, report_start, line_end, refused_line, end_lines, accepted_line, line_by, said_of, last_piece, report_from, report_of, input_limit, end_room, report_room, report_refusal, report_for, query_line}
use Rattle.rules.proofs.laws.report.Parts.{refusal_within, refused_within, query_within, end_within}

-- ---- how a report goes on, by the next byte of the input
module _ (n : ℕ) (s : State) (line : List ℕ) where
  -- a line is ended: its step is run, and the next line begins
  pub report_line : (c : ℕ) (cs : List ℕ) → c ≡ line_end → report_from n s line (c ∷ cs) ≡ said_of n s (step_of line) ++ report_from (suc n) (named_after report_run s (step_of line)) [] cs
  unfolding report_from
  report_line c cs h = rw (eq-eqb c line_end h)

  -- every other byte is one more of the line
  pub report_byte : (c : ℕ) (cs : List ℕ) → (c ≡ line_end → ⊥) → report_from n s line (c ∷ cs) ≡ report_from n s (line ++ (c ∷ [])) cs
  unfolding report_from
  report_byte c cs h = rw (ne_eqb c line_end h)

-- the input is at its end, and so is its last line
pub report_done : (n : ℕ) (s : State) → report_from n s [] [] ≡ end_lines s
unfolding report_from last_piece
report_done n s = refl

-- or its last piece is not ended
pub report_unended : (n : ℕ) (s : State) (line : List ℕ) → 0 < length line → report_from n s line [] ≡ refused_line n 11 ++ end_lines s
unfolding report_from last_piece
report_unended n s [] h = absurd (omega arith)
report_unended n s (c ∷ cs) h = refl

-- the whole: from line 1 on, in a fresh run
pub report_starts : (input : List ℕ) → report_of input ≡ report_from 1 report_start [] input
unfolding report_of
report_starts input = refl

-- ---- a report fits its room: no byte of the input earns more than 22 bytes
-- the line of a query has at least 20 bytes
query_long : (first second e : ℕ) → 20 ≤ length (text_of 3 first second e)
unfolding text_of lead field
query_long first second e = simp (length-append) (omega arith)

-- an accepted step says nothing, or it is a query, whose own line is long enough
accepted_within : (n : ℕ) (step : Step) (m : ℕ) → n < 100000 → length (accepted_line n step m) ≤ 22 * length (line_of step)
unfolding accepted_line line_of
accepted_within n step m p = go (is_query step) refl
  where
    go : (b : Bool) → is_query step ≡ b → length (cond b (query_line n (numbers step).first (numbers step).id m) []) ≤ 22 * length (line_of step)
    go true q =
        let a = query_within n (numbers step).first (numbers step).id m p in
        rw (eqb-true (numbers step).kind 3 q) (omega (arith, query_long (numbers step).first (numbers step).second (numbers step).id))
    go false q = omega arith

line_by_within : (r n : ℕ) (step : Step) (m : ℕ) → n < 100000 → r ≤ 99 → length (line_by r n step m) ≤ 22 * (length (line_of step) + 1)
line_by_within zero n step m p q = let a = accepted_within n step m p in omega arith
line_by_within (suc r) n step m p q = let a : length (refused_line n (suc r)) ≤ 22 = refused_within n (suc r) p (omega arith) in omega arith

-- what a text says is within 22 bytes for each of its bytes and its end
pub said_within : (n : ℕ) (s : State) (line : List ℕ) → n < 100000 → length (said_of n s (step_of line)) ≤ 22 * (length line + 1)
unfolding said_of unpadded
said_within n s line p = go (step_of line) refl
  where
    no_longer : (step : Step) → step_of line ≡ Some step → length (line_of step) ≤ length line
    no_longer step e = rw (read_step line step e).text (unpadded_length false line)

    go : (r : Option Step) → step_of line ≡ r → length (said_of n s r) ≤ 22 * (length line + 1)
    go (Some step) e = omega (arith, line_by_within (refusal_of report_run s step) n step (value_of report_run s step) p (refusal_within report_run s step), no_longer step e)
    go None e = let a = refused_within n 11 p (omega arith) in omega arith

last_within : (n : ℕ) (line : List ℕ) → n < 100000 → length (last_piece n line) ≤ 22 * length line
unfolding last_piece
last_within n [] p = omega arith
last_within n (c ∷ cs) p = let a = refused_within n 11 p (omega arith) in omega arith

-- the report from line n on: 22 bytes for each byte of the line so far and of the input behind it, and the end
pub report_within : (n : ℕ) (s : State) (line input : List ℕ) → n + length input < 100000 → length (report_from n s line input) ≤ 22 * (length line + length input) + end_room
unfolding report_from
report_within n s line [] p = simp (length-append) (omega (arith, last_within n line (omega arith), end_within s))
report_within n s line (c ∷ cs) p =
    by_test (eqb c line_end)
    (λ ends.
    let said : length (said_of n s (step_of line)) ≤ 22 * (length line + 1) = said_within n s line (omega arith) in
    let rest : length (report_from (suc n) (named_after report_run s (step_of line)) [] cs) ≤ 22 * (0 + length cs) + end_room = report_within (suc n) (named_after report_run s (step_of line)) [] cs (omega arith) in
    rw (ends, length-append) (omega arith))
    (λ more.
    let rest : length (report_from n s (line ++ (c ∷ [])) cs) ≤ 22 * (length (line ++ (c ∷ [])) + length cs) + end_room = report_within n s (line ++ (c ∷ [])) cs (omega arith) in
    let long : length (line ++ (c ∷ [])) ≡ length line + 1 = length-append line (c ∷ []) in
    rw more (omega arith))

-- the report of an input within the limit fits the room that is asked of the buffer
pub report_fits : (input : List ℕ) → length input ≤ input_limit → length (report_of input) ≤ report_room (length input)
unfolding report_of
report_fits input h = let a = report_within 1 report_start [] input (omega arith) in omega arith

-- ---- the two refusals, in their order, and what is told then
module _ (input : List ℕ) (room : ℕ) where
  pub report_over : input_limit < length input → report_refusal input room ≡ 12
  unfolding report_refusal first_given
  report_over h = rw (lt-ltb input_limit (length input) h)

  pub report_short : length input ≤ input_limit → room < length (report_of input) → report_refusal input room ≡ 13
  unfolding report_refusal first_given
  report_short h k = rw (le-ltb input_limit (length input) h, lt-ltb room (length (report_of input)) k)

  pub report_taken : length input ≤ input_limit → length (report_of input) ≤ room → report_refusal input room ≡ 0
  unfolding report_refusal first_given
  report_taken h k = rw (le-ltb input_limit (length input) h, le-ltb room (length (report_of input)) k)

  -- so much room is enough for every report of so long an input
  pub room_taken : length input ≤ input_limit → report_room (length input) ≤ room → report_refusal input room ≡ 0
  room_taken h k = report_taken h (omega (arith, report_fits input h))

  -- a refused call writes nothing
  pub told_refused : (r : ℕ) → report_refusal input room ≡ suc r → report_for input room ≡ []
  unfolding report_for
  told_refused r h = rw (h, ne_eqb (suc r) 0 (λ z. omega arith))

  -- any other writes the whole report
  pub told_taken : report_refusal input room ≡ 0 → report_for input room ≡ report_of input
  unfolding report_for
  told_taken h = rw h

  -- and has the room for it
  pub told_fits : length (report_for input room) ≤ room
  told_fits =
      below input_limit (length input)
      (λ over. rw (told_refused 11 (report_over over)) (omega arith))
      (λ fits. below room (length (report_of input))
      (λ short. rw (told_refused 12 (report_short fits short)) (omega arith))
      (λ wide. rw (told_taken (report_taken fits wide)) wide))
