-- Numbers with zeros in front: one that is read is the text of its value with zeros in front, 20 digits at most, and back.
-- Assumes nothing.
use Rattle.std.specs.Prelude.{◌≡◌, refl, Bool, true, false, List, [], ◌∷◌, ◌++◌, ℕ, ◌+◌, ◌-◌, ◌*◌, ◌%◌, ◌^◌, ◌≤◌, ◌<◌, ltb, eqb, length}
use Rattle.std.proofs.Common.{sym, ap, ◌∙◌, append_assoc, arith, ltb-true, lt-ltb, le-ltb, eq-eqb, ne_eqb, length-append}
use Rattle.std.proofs.Math.Bool.{and-false}
use Rattle.std.proofs.lemmas.Bool.{false≢true}
use Rattle.std.proofs.Math.Nat.{pow-le-pow_right}
use Rattle.rules.proofs.laws.table.View.{parts}
use Rattle.rules.specs.meaning.Text.{front}
use Rattle.rules.specs.meaning.Number.{most_digits, digits, digit_of, is_digit, starts_digit, digit_run, judged, read_number}
use Rattle.rules.specs.meaning.Padding.{is_padding, unpadded_from, unpadded, is_padded, short_from, has_short_numbers}
use Rattle.rules.proofs.laws.line.Numbers.{below, by_test, digit_is, digits_small, digits_wide, digits_some, run_digits, run_stop, run_grows, run_short, run_front, run_rest, run_takes, run_tens, fair_yes, fair_says, read_digits, read_says}
use Rattle.rules.proofs.laws.line.Padding.{dropped, kept, unpadded_stop, starts_same, unpadded_same, unpadded_none}

-- ---- a run of digits
-- read on from a number, every digit of it is kept
run_unpadded : (v : ℕ) (xs : List ℕ) (w : ℕ) (rest : List ℕ) → 0 < v → w < 10 ^ most_digits → digit_run v xs ≡ front w rest → digits v ++ unpadded_from true xs ≡ digits w ++ unpadded rest
unfolding digit_run unpadded unpadded_from is_padding starts_digit
run_unpadded v [] w rest p h e = let k : v ≡ w = cc in let r : [] ≡ rest = cc in rw (k, ← r)
run_unpadded v (c ∷ xs) w rest p h e =
    below (digit_of c) 10
    (λ s.
    let d = digit_of c in
    let e' : digit_run (v * 10 + d) xs ≡ front w rest = simp (lt-ltb d 10 s) at e in
    let g : v * 10 + d ≤ w = run_grows (v * 10 + d) xs w rest e' in
    let one : digits (v * 10 + d) ≡ digits v ++ (c ∷ []) =
    digits_wide (v * 10 + d) (omega arith) (omega arith)
    ∙ ap (λ (n : ℕ). digits n ++ ((48 + (v * 10 + d) % 10) ∷ [])) (omega arith)
    ∙ ap (λ (n : ℕ). digits v ++ (n ∷ [])) (let k : 48 + (v * 10 + d) % 10 ≡ c = omega (arith, digit_is c s) in k) in
    rw (lt-ltb d 10 s) (sym (append_assoc (digits v) (c ∷ []) (unpadded_from true xs)) ∙ ap (λ (t : List ℕ). t ++ unpadded_from true xs) (sym one) ∙ run_unpadded (v * 10 + d) xs w rest (omega arith) h e'))
    (λ l.
    let q : front v (c ∷ xs) ≡ front w rest = simp (le-ltb (digit_of c) 10 l) at e in
    let k : v ≡ w = cc in
    let r : c ∷ xs ≡ rest = cc in
    ap (λ (n : ℕ). digits n ++ unpadded_from true (c ∷ xs)) k ∙ ap (λ (t : List ℕ). digits w ++ t) (unpadded_stop true (c ∷ xs) (le-ltb (digit_of c) 10 l)) ∙ ap (λ (t : List ℕ). digits w ++ unpadded t) r)

-- a run is its value's digits with zeros in front, and these are dropped
pub run_shown : (xs : List ℕ) (w : ℕ) (rest : List ℕ) → starts_digit xs ≡ true → w < 10 ^ most_digits → digit_run 0 xs ≡ front w rest → unpadded xs ≡ digits w ++ unpadded rest
unfolding digit_run starts_digit unpadded is_padding
run_shown [] w rest y h e = absurd (false≢true y)
run_shown (c ∷ xs) w rest y h e =
    below 0 d
    (λ pos. kept false c xs (not_zero pos) ∙ ap (λ (t : Bool). c ∷ unpadded_from t xs) y ∙ ap (λ (t : List ℕ). t ++ unpadded_from true xs) (sym one) ∙ run_unpadded d xs w rest pos h e'')
    (λ z.
    let zero : d ≡ 0 = omega arith in
    let e0 : digit_run 0 xs ≡ front w rest = ap (λ (n : ℕ). digit_run n xs) (sym zero) ∙ e'' in
    by_test (starts_digit xs)
    (λ more. dropped false c xs (padding zero more) ∙ run_shown xs w rest more h e0)
    (λ stop.
    let last : front 0 xs ≡ front w rest = sym (run_stop 0 xs stop) ∙ e0 in
    let k : 0 ≡ w = cc in
    let r : xs ≡ rest = cc in
    kept false c xs (only stop) ∙ ap (λ (t : Bool). c ∷ unpadded_from t xs) y ∙ ap (λ (t : List ℕ). c ∷ t) (unpadded_stop true xs stop)
    ∙ ap (λ (t : List ℕ). t ++ unpadded xs) (sym one) ∙ ap (λ (n : ℕ). digits n ++ unpadded xs) (zero ∙ k) ∙ ap (λ (t : List ℕ). digits w ++ unpadded t) r))
  where
    d : ℕ
    d = digit_of c

    s : d < 10
    s = ltb-true d 10 y

    is : c ≡ 48 + d
    is = digit_is c s

    one : digits d ≡ c ∷ []
    one = digits_small d s ∙ ap (λ (n : ℕ). n ∷ []) (sym is)

    e'' : digit_run d xs ≡ front w rest
    e'' = ap (λ (n : ℕ). digit_run n xs) (omega arith) ∙ (let k : digit_run (0 * 10 + d) xs ≡ front w rest = rw y at e in k)

    not_zero : 0 < d → is_padding false c xs ≡ false
    not_zero pos = rw (ne_eqb c 48 (λ z. omega (arith, is)))

    padding : d ≡ 0 → starts_digit xs ≡ true → is_padding false c xs ≡ true
    padding z more = rw (eq-eqb c 48 (omega (arith, is))) more

    only : starts_digit xs ≡ false → is_padding false c xs ≡ false
    only stop = rw stop (and-false (eqb c 48))

-- ---- how many digits a run has
run_is_short : (b v : ℕ) (xs : List ℕ) (w : ℕ) (rest : List ℕ) → digit_run v xs ≡ front w rest → b + (length xs - length rest) ≤ most_digits → has_short_numbers rest ≡ true → short_from b xs ≡ true
unfolding digit_run short_from has_short_numbers
run_is_short b v [] w rest e h s = refl
run_is_short b v (c ∷ xs) w rest e h s =
    by_test (is_digit c)
    (λ y.
    let e' : digit_run (v * 10 + digit_of c) xs ≡ front w rest = rw y at e in
    let g = run_short (v * 10 + digit_of c) xs w rest e' in
    rw (y, lt-ltb b most_digits (omega arith)) (run_is_short (b + 1) (v * 10 + digit_of c) xs w rest e' (omega arith) s))
    (λ n.
    let q : front v (c ∷ xs) ≡ front w rest = rw n at e in
    let r : c ∷ xs ≡ rest = cc in
    let t : short_from 0 (c ∷ xs) ≡ true = ap (short_from 0) r ∙ s in
    rw n (rw n at t))

run_was_short : (b v : ℕ) (xs : List ℕ) (w : ℕ) (rest : List ℕ) → digit_run v xs ≡ front w rest → b ≤ most_digits → short_from b xs ≡ true → (b + (length xs - length rest) ≤ most_digits) × (has_short_numbers rest ≡ true)
unfolding digit_run short_from has_short_numbers
run_was_short b v [] w rest e h s = let r : [] ≡ rest = cc in (omega arith, rw (← r))
run_was_short b v (c ∷ xs) w rest e h s =
    by_test (is_digit c)
    (λ y.
    let e' : digit_run (v * 10 + digit_of c) xs ≡ front w rest = rw y at e in
    let a = parts (ltb b most_digits) (short_from (b + 1) xs) (rw y at s) in
    let m = ltb-true b most_digits a.0 in
    let g = run_short (v * 10 + digit_of c) xs w rest e' in
    let i = run_was_short (b + 1) (v * 10 + digit_of c) xs w rest e' (omega arith) a.1 in
    (omega (arith, i.0), i.1))
    (λ n.
    let q : front v (c ∷ xs) ≡ front w rest = rw n at e in
    let r : c ∷ xs ≡ rest = cc in
    let t : short_from 0 (c ∷ xs) ≡ true = rw n (rw n at s) in
    (omega (arith, ap length r), ap (short_from 0) (sym r) ∙ t))

-- ---- a number that is read
module _ (xs : List ℕ) (v : ℕ) (rest : List ℕ) (e : read_number xs ≡ front v rest) where
  is_run : digit_run 0 xs ≡ front v rest
  is_run = (read_says xs v rest e).0

  is_fair : (0 < length xs - length rest) × (length xs - length rest ≤ most_digits) × (v < 2 ^ 64)
  is_fair = fair_says (length xs - length rest) v (read_says xs v rest e).1

  pub number_fits : v < 2 ^ 64
  number_fits = is_fair.2

  -- it takes 20 bytes at most
  pub number_room : length xs ≤ most_digits + length rest
  number_room = omega (arith, is_fair.1, run_short 0 xs v rest is_run)

  pub number_short : has_short_numbers rest ≡ true → has_short_numbers xs ≡ true
  unfolding has_short_numbers
  number_short s = run_is_short 0 0 xs v rest is_run (omega (arith, is_fair.1)) s

  -- "with no padding": what is left of it is the text of its value
  pub number_unpadded : unpadded xs ≡ digits v ++ unpadded rest
  number_unpadded =
      by_test (starts_digit xs)
      (λ y. run_shown xs v rest y (omega (arith, number_fits)) is_run)
      (λ n.
      let q : front 0 xs ≡ front v rest = sym (run_stop 0 xs n) ∙ is_run in
      let r : xs ≡ rest = cc in
      absurd (omega (arith, is_fair.0, ap length r)))

-- the text of a number has no padding
pub digits_bare : (n : ℕ) (rest : List ℕ) → n < 2 ^ 64 → starts_digit rest ≡ false → is_padded rest ≡ false → is_padded (digits n ++ rest) ≡ false
unfolding is_padded unpadded
digits_bare n rest h stop b =
    let u : unpadded (digits n ++ rest) ≡ digits n ++ rest =
    number_unpadded (digits n ++ rest) n rest (read_digits n rest h stop) ∙ ap (λ (t : List ℕ). digits n ++ t) (unpadded_same false rest b) in
    ap is_padded (sym u) ∙ unpadded_none false (digits n ++ rest)

-- ---- and back: a text that is a number but for padding is read as that number
digits_start : (n : ℕ) (xs : List ℕ) → n < 10 ^ most_digits → starts_digit (digits n ++ xs) ≡ true
digits_start n xs h =
    by_test (starts_digit (digits n ++ xs)) (λ y. y)
    (λ m.
    let q : front 0 (digits n ++ xs) ≡ digit_run n xs = sym (run_stop 0 (digits n ++ xs) m) ∙ run_digits n xs h in
    absurd (omega (arith, run_short n xs 0 (digits n ++ xs) (sym q), length-append (digits n) xs, digits_some n h)))

below_tens : (k w : ℕ) → k ≤ most_digits → w < 10 ^ k → w < 10 ^ most_digits
below_tens k w h l = omega (arith, l, pow-le-pow_right {n = 10} (omega arith) {i = k} {j = most_digits} h)

pub number_shown : (xs : List ℕ) (n : ℕ) (ys : List ℕ) → n < 2 ^ 64 → starts_digit ys ≡ false → unpadded xs ≡ digits n ++ ys → has_short_numbers xs ≡ true → (r : List ℕ) × (read_number xs ≡ front n r) × (unpadded r ≡ ys) × (has_short_numbers r ≡ true)
unfolding read_number judged unpadded has_short_numbers
number_shown xs n ys h stop e s =
    let f = run_front 0 xs in
    let w = f.0 in
    let r = f.1 in
    let count = run_was_short 0 0 xs w r f.2 (omega arith) s in
    let wide : n < 10 ^ most_digits = omega arith in
    let starts : starts_digit xs ≡ true = sym (starts_same false xs) ∙ ap starts_digit e ∙ digits_start n ys wide in
    let fits : w < 10 ^ most_digits = below_tens (0 + (length xs - length r)) w count.0 (run_tens 0 0 xs w r (omega arith) f.2) in
    let both : digits w ++ unpadded r ≡ digits n ++ ys = sym (run_shown xs w r starts fits f.2) ∙ e in
    let same : front w (unpadded r) ≡ front n ys =
    sym (run_digits w (unpadded r) fits ∙ run_stop w (unpadded r) (starts_same false r ∙ run_rest 0 xs w r f.2))
    ∙ ap (digit_run 0) both
    ∙ run_digits n ys wide ∙ run_stop n ys stop in
    let is : w ≡ n = cc in
    let left : unpadded r ≡ ys = cc in
    let some = run_takes 0 xs w r starts f.2 in
    (r, rw (f.2, is, fair_yes (length xs - length r) n (omega arith) (omega (arith, count.0)) h), left, count.1)
