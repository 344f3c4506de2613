-- A run of digits, read turn by turn: what a turn of the loop keeps, why it stops, and what is answered, in the words of the contract.
use mathlib.Core.Path.{◌≡◌, sym, ◌∙◌}
use mathlib.Core.Bool.{Bool, true, false}
use mathlib.Core.List.{List}
use Prim.Native.Nat.{ℕ, ◌+◌, ◌-◌, ◌*◌, ◌^◌, ◌≤◌, ◌<◌}
use native.Mathlib.Omega.{arith}
use native.Mathlib.Numerals.{add-one}
use borrow.Author.Tests.{ltb-true, lt-ltb}
use lib.ListN.{length, get_or, take, drop, length-drop, drop_of_length-le}
use lib.Seq.{drop-cons}
use Rattle.std.specs.Prelude.{None, ◌&&◌, leb}
use Rattle.std.specs.Bool.{then_some}
use Rattle.std.specs.Char.{is_ascii_digit}
use Rattle.std.proofs.lemmas.List.Edits.{get_or-between}
use Rattle.rules.specs.meaning.Text.{front, refused}
use Rattle.rules.specs.meaning.Number.{most_digits, digit_of, is_digit, starts_digit, digit_run, fair, judged, read_number}
use Rattle.rules.proofs.laws.line.Numbers.{by_test, digit_is, digit_test, run_stop, run_front, run_grows, fair_large}
use Rattle.rules.specs.meaning.Places.{number_at}
use Rattle.rules.proofs.laws.line.Places.{to_none}

run_turn : (line : List ℕ) (v i : ℕ) → i < length line → digit_of (get_or line i 0) < 10 → digit_run v (drop i line) ≡ digit_run (v * 10 + digit_of (get_or line i 0)) (drop (i + 1) line)
unfolding digit_run
run_turn line v i h s = rw (drop-cons line i 0 h, add-one, lt-ltb (digit_of (get_or line i 0)) 10 s)

run_end : (line : List ℕ) (v i : ℕ) → length line ≤ i → digit_run v (drop i line) ≡ front v (drop i line)
unfolding starts_digit
run_end line v i h = run_stop v (drop i line) (rw (drop_of_length-le line h))

run_other : (line : List ℕ) (v i : ℕ) → i < length line → is_digit (get_or line i 0) ≡ false → digit_run v (drop i line) ≡ front v (drop i line)
unfolding starts_digit
run_other line v i h s = run_stop v (drop i line) (rw (drop-cons line i 0 h) s)

-- more digits do not bring a value back under 2 ^ 64
over : (xs ys : List ℕ) (v : ℕ) → digit_run v ys ≡ digit_run 0 xs → 2 ^ 64 ≤ v → read_number xs ≡ refused
unfolding read_number judged
over xs ys v e h =
    let f = run_front 0 xs in
    let g : v ≤ f.0 = run_grows v ys f.0 f.1 (e ∙ f.2) in
    rw (f.2, fair_large (length xs - length f.1) f.0 (omega arith))

-- a byte of the part of the line that is read
pub part_byte : (line : List ℕ) (place k : ℕ) → place + k < length line → get_or (take (length line - place) (drop place line)) k 0 ≡ get_or line (place + k) 0
part_byte line place k h = get_or-between line place (length line) k 0 h

-- what the test of a byte tells
digit_says : (c : ℕ) → is_ascii_digit c ≡ true → (c - 48 ≡ digit_of c) × (digit_of c < 10)
digit_says c t =
    let s : digit_of c < 10 = ltb-true (digit_of c) 10 (digit_test c ∙ t) in
    let is : c ≡ 48 + digit_of c = digit_is c s in
    (omega arith, s)

module _ (line : List ℕ) (place : ℕ) where
  -- what the loop keeps: reading on from the value and the place ends as reading from the first place does
  abbrev pub Kept : ℕ → ℕ → Type 0
  Kept v k = digit_run v (drop (place + k) line) ≡ digit_run 0 (drop place line)

  module _ (v k : ℕ) where
    -- a byte of the line, and the answer of its test
    module _ (h : place + k < length line) (c : ℕ) (is : c ≡ get_or line (place + k) 0) (t : Bool) (e : t ≡ is_ascii_digit c) where
      pub run_more : Kept v k → t ≡ true → Kept (v * 10 + (c - 48)) (k + 1)
      run_more kept y =
          let d = digit_says c (sym e ∙ y) in
          let n : place + (k + 1) ≡ place + k + 1 = omega arith in
          let s : digit_of (get_or line (place + k) 0) < 10 = rw is at d.1 in
          rw (n, d.0, is) (sym (run_turn line v (place + k) h s) ∙ kept)

      pub refuse_over : Kept v k → t ≡ true → 2 ^ 64 ≤ v * 10 + (c - 48) → None ≡ number_at line place
      unfolding number_at
      refuse_over kept y l =
          sym (to_none (length line) (read_number (drop place line)) (over (drop place line) (drop (place + (k + 1)) line) (v * 10 + (c - 48)) (run_more kept y) l))

      pub halt_other : t ≡ false → digit_run v (drop (place + k) line) ≡ front v (drop (place + k) line)
      halt_other n = run_other line v (place + k) h (rw (← is) (digit_test c ∙ sym e ∙ n))

    pub halt_end : length line ≤ place + k → digit_run v (drop (place + k) line) ≡ front v (drop (place + k) line)
    halt_end h = run_end line v (place + k) h

    -- the run is judged by how many digits it has, as its value fits
    pub run_judged : Kept v k → digit_run v (drop (place + k) line) ≡ front v (drop (place + k) line) → place + k ≤ length line → v < 2 ^ 64
        → (count : ℕ) → count ≡ k → then_some (leb 1 count && leb count most_digits) (v, (place + count)) ≡ number_at line place
    unfolding number_at read_number judged fair
    run_judged kept halt h l count same =
        let whole : digit_run 0 (drop place line) ≡ front v (drop (place + k) line) = sym kept ∙ halt in
        let n : length (drop place line) - length (drop (place + k) line) ≡ k = omega (arith, length-drop place line, length-drop (place + k) line) in
        let w : length line - length (drop (place + k) line) ≡ place + k = omega (arith, length-drop (place + k) line) in
        rw (same, whole, n, lt-ltb v (2 ^ 64) l) (by_test (leb 1 k && leb k most_digits) (λ b. rw (b, w)) (λ b. rw b))
