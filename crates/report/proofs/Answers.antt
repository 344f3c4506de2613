-- What `report` and `printed` answer, case by case.
use Prim.Native.Nat.{ℕ, ◌≤◌, ◌<◌}
use native.Mathlib.Omega.{arith}
use mathlib.Core.Path.{◌≡◌, sym, ap, ◌∙◌}
use mathlib.Core.List.{List, [], ◌∷◌, ◌++◌}
use lib.ListN.{length}
use borrow.Author.Tests.{lt-ltb, le-ltb}
use Rattle.std.specs.Prelude.{Ok, Err}
use Rattle.rules.specs.declared.Refusal.TheVariants.{InputLong, ShortBuffer}
use Rattle.rules.specs.meaning.Text.{ascii}
use Rattle.rules.specs.meaning.Put.{put}
use Rattle.rules.proofs.laws.Put.{put_nil}
use Rattle.rules.specs.meaning.Reports.{line_end, input_limit, report_room, report_of, as_reported, Told, printed_of, printed_for, Printed}
use Rattle.rules.proofs.laws.report.Fits.{report_over, report_short, report_taken, told_refused, told_taken}
use Rattle.report.specs.Laid.{Laid}

module _ (input before : List ℕ) where
  -- nothing is told, and nothing written
  none_told : (n : ℕ) (text : List ℕ) → text ≡ [] → (0 ≡ length text) × (before ≡ put before 0 text)
  none_told n text e = (sym (ap length e), sym (put_nil before 0) ∙ ap (put before 0) (sym e))

  pub told_over : input_limit < length input → Told input before (as_reported (Err InputLong)) before
  told_over h =
      let r = report_over input (length before) h in
      let none = none_told 0 _ (told_refused input (length before) 11 r) in
      record { refusal = sym r; written = none.0; bytes = none.1 }

  pub told_short : length input ≤ input_limit → length before < length (report_of input) → Told input before (as_reported (Err ShortBuffer)) before
  told_short h k =
      let r = report_short input (length before) h k in
      let none = none_told 0 _ (told_refused input (length before) 12 r) in
      record { refusal = sym r; written = none.0; bytes = none.1 }

  pub told_done : (n : ℕ) (after : List ℕ) → length input ≤ input_limit → length (report_of input) ≤ length before → Laid before 0 (report_of input) n after → Told input before (as_reported (Ok n)) after
  told_done n after h k w =
      let r = report_taken input (length before) h k in
      let t = told_taken input (length before) r in
      record { refusal = sym r; written = (let z : n ≡ length (report_of input) = omega (arith, w.behind) in z) ∙ sym (ap length t); bytes = w.bytes ∙ ap (put before 0) (sym t) }

  -- ---- what the program prints
  short_prints : length before < report_room input_limit → printed_for input (length before) ≡ []
  unfolding printed_for
  short_prints h = rw (lt-ltb (length before) (report_room input_limit) h)

  over_prints : report_room input_limit ≤ length before → input_limit < length input → printed_for input (length before) ≡ ascii "refused=12" ++ (line_end ∷ [])
  unfolding printed_for printed_of
  over_prints h k = rw (le-ltb (length before) (report_room input_limit) h, lt-ltb input_limit (length input) k)

  all_prints : report_room input_limit ≤ length before → length input ≤ input_limit → printed_for input (length before) ≡ report_of input
  unfolding printed_for printed_of
  all_prints h k = rw (le-ltb (length before) (report_room input_limit) h, le-ltb input_limit (length input) k)

  printed_by : (n : ℕ) (text after : List ℕ) → printed_for input (length before) ≡ text → Laid before 0 text n after → Printed input before n after
  printed_by n text after e w = record { count = (let z : n ≡ length text = omega (arith, w.behind) in z) ∙ sym (ap length e); bytes = w.bytes ∙ ap (put before 0) (sym e) }

  pub printed_none : length before < report_room input_limit → Printed input before 0 before
  printed_none h = let none = none_told 0 _ (short_prints h) in record { count = none.0; bytes = none.1 }

  pub printed_over : (n : ℕ) (after : List ℕ) → report_room input_limit ≤ length before → input_limit < length input → Laid before 0 (ascii "refused=12" ++ (line_end ∷ [])) n after → Printed input before n after
  printed_over n after h k w = printed_by n _ after (over_prints h k) w

  pub printed_all : (n : ℕ) (after : List ℕ) → report_room input_limit ≤ length before → length input ≤ input_limit → Laid before 0 (report_of input) n after → Printed input before n after
  printed_all n after h k w = printed_by n _ after (all_prints h k) w
