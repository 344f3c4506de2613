-- The contract of `printed`: what is printed fits the buffer, so that a caller can take that part of it.
-- Assumes nothing.
use Rattle.std.specs.Prelude.{ℕ, ◌≤◌, List, ◌≡◌, length, take}
use Rattle.std.proofs.Common.{arith, sym, ap, length-take-le, lt-ltb, le-ltb}
use Rattle.rules.proofs.laws.line.Numbers.{below}
use Rattle.rules.proofs.laws.Put.{put_length}
use Rattle.rules.specs.meaning.Reports.{input_limit, report_room, printed_of, printed_for, Printed}
use Rattle.rules.proofs.laws.report.Fits.{report_fits}

-- with room for the largest report
of_fits : (input : List ℕ) → length (printed_of input) ≤ report_room input_limit
unfolding printed_of
of_fits input =
    below input_limit (length input)
    (λ over. rw (lt-ltb input_limit (length input) over) (omega arith))
    (λ fits. rw (le-ltb input_limit (length input) fits) (omega (arith, report_fits input fits)))

for_fits : (input : List ℕ) (room : ℕ) → length (printed_for input room) ≤ room
unfolding printed_for
for_fits input room =
    below room (report_room input_limit)
    (λ short. rw (lt-ltb room (report_room input_limit) short) (omega arith))
    (λ wide. rw (le-ltb room (report_room input_limit) wide) (omega (arith, of_fits input)))

pub printed_fits : {input before : List ℕ} {n : ℕ} {after : List ℕ} → Printed input before n after → n ≤ length after
printed_fits {input} {before} p =
    let l = put_length before 0 (printed_for input (length before)) (omega (arith, for_fits input (length before))) in
    omega (arith, p.count, ap length p.bytes, for_fits input (length before))

pub printed_part : {input before : List ℕ} {n : ℕ} {after : List ℕ} → Printed input before n after → n ≡ length (take n after)
printed_part {input} {before} {n} {after} p = sym (length-take-le n after (printed_fits p))
