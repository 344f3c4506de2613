-- How long the parts of a report are: the digits of a number, the lines, and what stands at the end.
-- Assumes nothing.
use Rattle.std.specs.Prelude.{ℕ, zero, suc, ◌+◌, ◌*◌, ◌/◌, ◌^◌, ◌≤◌, ◌<◌, Bool, true, false, cond, ◌≡◌, refl, List, [], ◌∷◌, length, drop}
use Rattle.std.proofs.Common.{arith, length-append, length-take}
use Rattle.rules.specs.declared.Run.{Run}
use Rattle.rules.specs.declared.Counts.{Counts}
use Rattle.rules.specs.declared.Step.{Step}
use Rattle.rules.specs.meaning.Lengths.{listed}
use Rattle.rules.specs.meaning.Table.{held, shown}
use Rattle.rules.specs.meaning.Parcels.{waiting}
use Rattle.rules.specs.meaning.Refusals.{Test, ◌when◌, first_given}
use Rattle.rules.specs.meaning.States.{State, width, table_at}
use Rattle.rules.specs.meaning.Runs.{effect_of, refusal_in, refusal_of}
use Rattle.rules.specs.meaning.Number.{digits}
use Rattle.rules.proofs.laws.run.Owed.{given_numbered}
use Rattle.rules.proofs.laws.run.Rows.{owed}
use Rattle.rules.proofs.laws.line.Numbers.{below, by_test, one_digit, more_digits, digits_length}
use Rattle.rules.specs.meaning.Reports.{report_run, refused_line, query_line, ledger_lines, site_line, site_lines, ending, end_lines, end_room}

-- ---- a number below 10 ^ k has at most k digits
pub digits_within : (k n : ℕ) → n < 10 ^ suc k → n < 2 ^ 64 → length (digits n) ≤ suc k
digits_within zero n p h = rw (one_digit n (omega arith)) (omega arith)
digits_within (suc k) n p h =
    below n 10
    (λ s. rw (one_digit n s) (omega arith))
    (λ l. rw (more_digits n l h) (let r : length (digits (n / 10)) ≤ suc k = digits_within k (n / 10) (omega arith) (omega arith) in omega arith))

-- ---- the refusal numbers of a step end with 10
-- the first number given is at most what every number of the list is at most
given_within : (most n : ℕ) (b : Bool) (ts : List Test) → n ≤ most → first_given ts ≤ most → first_given ((n when b) ∷ ts) ≤ most
unfolding first_given
given_within most n true ts p q = p
given_within most n false ts p q = q

own_within : (run : Run) (s : State) (step : Step) → first_given (effect_of run s step).tests ≤ 99
own_within run s step = go (first_given (effect_of run s step).tests) refl
  where
    go : (r : ℕ) → first_given (effect_of run s step).tests ≡ r → r ≤ 99
    go zero e = omega arith
    go (suc r) e = (given_numbered 3 99 _ (owed run s step).tests r e).1

pub refusal_within : (run : Run) (s : State) (step : Step) → refusal_of run s step ≤ 99
unfolding refusal_of refusal_in
refusal_within run s step =
    given_within 99 1 _ _ (omega arith) (given_within 99 2 _ _ (omega arith) (own_within run s step))

-- ---- the lines
-- the line of a refusal: 15 bytes around a line number of at most 5 digits and a refusal number of at most 2
pub refused_within : (n r : ℕ) → n < 100000 → r ≤ 99 → length (refused_line n r) ≤ 22
unfolding refused_line
refused_within n r p q =
    let a : length (digits n) ≤ 5 = digits_within 4 n (omega arith) (omega arith) in
    let b : length (digits r) ≤ 2 = digits_within 1 r (omega arith) (omega arith) in
    simp (length-append) (omega arith)

one_or_none : (b : Bool) → length (digits (cond b 1 0)) ≤ 1
one_or_none true = rw (one_digit 1 (omega arith)) (omega arith)
one_or_none false = rw (one_digit 0 (omega arith)) (omega arith)

-- the line of a query
pub query_within : (n k e m : ℕ) → n < 100000 → length (query_line n k e m) ≤ 99
unfolding query_line
query_within n k e m p =
    let a : length (digits n) ≤ 5 = digits_within 4 n (omega arith) (omega arith) in
    simp (length-append) (omega (arith, digits_length k, digits_length e, digits_length m, one_or_none (listed m)))

-- the ledger: 39 bytes around five numbers
pub ledger_within : (l : Counts) (w : ℕ) → length (ledger_lines l w) ≤ 139
unfolding ledger_lines
ledger_within l w =
    simp (length-append) (omega (arith, digits_length l.sent, digits_length l.copied, digits_length l.absorbed, digits_length l.lost, digits_length w))

-- a table has at most one entry for two words, and shows no more
pub held_within : (t : List ℕ) → 2 * held t ≤ length t
unfolding held
held_within [] = omega arith
held_within (w ∷ []) = omega arith
held_within (e ∷ zero ∷ t) = omega arith
held_within (e ∷ suc n ∷ t) = let h = held_within t in omega arith

pub shown_within : (t : List ℕ) → 2 * shown t ≤ length t
unfolding shown
shown_within [] = omega arith
shown_within (w ∷ []) = omega arith
shown_within (e ∷ n ∷ t) = by_test (listed n) (λ odd. rw odd (let h = shown_within t in omega arith)) (λ even. rw even (let h = shown_within t in omega arith))

-- a site's table has at most 16 words, whatever the words are
pub table_within : (ws : List ℕ) (k : ℕ) → length (table_at report_run ws k) ≤ 16
unfolding table_at
table_within ws k = rw (length-take (width report_run) (drop (k * width report_run) ws)) (omega arith)

-- the line of a site: 19 bytes around a site number and two counts, each of one digit
site_within : (k : ℕ) (ws : List ℕ) → k < 10 → length (site_line k (table_at report_run ws k)) ≤ 22
unfolding site_line
site_within k ws p =
    let t = table_at report_run ws k in
    let h : held t < 10 = omega (arith, held_within t, table_within ws k) in
    let l : shown t < 10 = omega (arith, shown_within t, table_within ws k) in
    simp (length-append) (omega (arith, one_digit k p, one_digit (held t) h, one_digit (shown t) l))

sites_within : (n k : ℕ) (ws : List ℕ) → k + n ≤ 10 → length (site_lines n k ws) ≤ 22 * n
unfolding site_lines
sites_within zero k ws p = omega arith
sites_within (suc n) k ws p =
    let rest : length (site_lines n (suc k) ws) ≤ 22 * n = sites_within n (suc k) ws (omega arith) in
    let one : length (site_line k (table_at report_run ws k)) ≤ 22 = site_within k ws (omega arith) in
    simp (length-append) (omega arith)

-- the end of a report: the ledger and the sites, 205 bytes at most
pub end_within : (s : State) → length (end_lines s) ≤ end_room
unfolding ending
end_within s =
    let a : length (site_lines 3 0 s.words) ≤ 22 * 3 = sites_within 3 0 s.words (omega arith) in
    simp (length-append) (omega (arith, ledger_within s.ledger.counts (waiting s.slots)))
