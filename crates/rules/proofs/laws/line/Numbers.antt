-- What follows for decimal numbers. Assumes nothing.
use Rattle.std.specs.Prelude.{◌≡◌, refl, Bool, true, false, ◌&&◌, cond, List, [], ◌∷◌, ◌++◌, ℕ, zero, suc, ◌+◌, ◌-◌, ◌*◌, ◌/◌, ◌%◌, ◌^◌, ◌≤◌, ◌<◌, ltb, leb, length}
use Rattle.std.proofs.Common.{sym, ap, ◌∙◌, append_assoc, arith, ltb-true, ltb-false, leb-true, lt-ltb, le-ltb, le-leb, length-append}
use Rattle.std.proofs.Math.Bool.{and-false}
use Rattle.std.proofs.lemmas.Bool.{false≢true, lt-leb}
use Rattle.rules.proofs.laws.table.View.{parts}
use Rattle.rules.specs.meaning.Text.{front, refused, pick}
use Rattle.rules.specs.meaning.Number.{up_to, most_digits, digits, digit_of, is_digit, starts_digit, digit_run, fair, judged, read_number}

-- the two cases of an order
pub below : {P : Type 0} (a b : ℕ) → (a < b → P) → (b ≤ a → P) → P
below {P} a b f g = go (ltb a b) refl
  where
    go : (t : Bool) → ltb a b ≡ t → P
    go true e = f (ltb-true a b e)
    go false e = g (ltb-false a b e)

-- the two cases of a test
pub by_test : {P : Type 0} (b : Bool) → (b ≡ true → P) → (b ≡ false → P) → P
by_test true f g = f refl
by_test false f g = g refl

-- ---- one digit
pub digit_of_law : (d : ℕ) → d < 10 → digit_of (48 + d) ≡ d
unfolding digit_of
digit_of_law d h = simp (le-leb 48 (48 + d) (omega arith), le-leb (48 + d) 57 (omega arith)) (omega arith)

pub digit_is : (c : ℕ) → digit_of c < 10 → c ≡ 48 + digit_of c
unfolding digit_of
digit_is c h = go (leb 48 c) (leb c 57) refl refl
  where
    go : (s t : Bool) → leb 48 c ≡ s → leb c 57 ≡ t → c ≡ 48 + cond (leb 48 c) (cond (leb c 57) (c - 48) 10) 10
    go true true p q = simp (p, q) (omega (arith, leb-true 48 c p))
    go true false p q = absurd (let k : 10 < 10 = simp (p, q) at h in omega arith)
    go false t p q = absurd (let k : 10 < 10 = simp p at h in omega arith)

-- a digit by its two bounds
pub digit_test : (c : ℕ) → is_digit c ≡ (leb 48 c && leb c 57)
unfolding digit_of
digit_test c =
    by_test (leb 48 c)
    (λ p. by_test (leb c 57)
    (λ q. rw (p, q) (lt-ltb (c - 48) 10 (omega (arith, leb-true c 57 q))))
    (λ q. rw (p, q)))
    (λ p. rw p)

-- ---- the text of a number
up_small : (k n : ℕ) → n < 10 → up_to (suc k) n ≡ (48 + n) ∷ []
unfolding up_to
up_small k n h = rw (lt-ltb n 10 h)

up_large : (k n : ℕ) → 10 ≤ n → up_to (suc k) n ≡ up_to k (n / 10) ++ ((48 + n % 10) ∷ [])
unfolding up_to
up_large k n h = rw (le-ltb n 10 h)

-- more room changes nothing where there is enough
up_enough : (k n : ℕ) → n < 10 ^ suc k → up_to (suc k) n ≡ up_to (suc (suc k)) n
up_enough zero n h = let s : n < 10 = omega arith in up_small 0 n s ∙ sym (up_small 1 n s)
up_enough (suc k) n h =
    below n 10 (λ s. up_small (suc k) n s ∙ sym (up_small (suc (suc k)) n s))
    (λ l. up_large (suc k) n l ∙ ap (λ (t : List ℕ). t ++ ((48 + n % 10) ∷ [])) (up_enough k (n / 10) (omega arith)) ∙ sym (up_large (suc (suc k)) n l))

-- the two laws by which all else is shown
pub digits_small : (n : ℕ) → n < 10 → digits n ≡ (48 + n) ∷ []
unfolding digits
digits_small n h = up_small 19 n h

pub digits_wide : (n : ℕ) → 10 ≤ n → n < 10 ^ most_digits → digits n ≡ digits (n / 10) ++ ((48 + n % 10) ∷ [])
unfolding digits
digits_wide n l h = up_large 19 n l ∙ ap (λ (t : List ℕ). t ++ ((48 + n % 10) ∷ [])) (up_enough 18 (n / 10) (omega arith))

pub digits_large : (n : ℕ) → 10 ≤ n → n < 2 ^ 64 → digits n ≡ digits (n / 10) ++ ((48 + n % 10) ∷ [])
digits_large n l h = digits_wide n l (omega arith)

-- ---- reading
run_digit : (v d : ℕ) (xs : List ℕ) → d < 10 → digit_run v ((48 + d) ∷ xs) ≡ digit_run (v * 10 + d) xs
unfolding digit_run
run_digit v d xs h = simp (digit_of_law d h, lt-ltb d 10 h)

run_up : (k n : ℕ) (xs : List ℕ) → n < 10 ^ suc k → digit_run 0 (up_to (suc k) n ++ xs) ≡ digit_run n xs
run_up zero n xs h = let s : n < 10 = omega arith in rw (up_small 0 n s) (run_digit 0 n xs s ∙ ap (λ (v : ℕ). digit_run v xs) (omega arith))
run_up (suc k) n xs h =
    below n 10 (λ s. rw (up_small (suc k) n s) (run_digit 0 n xs s ∙ ap (λ (v : ℕ). digit_run v xs) (omega arith)))
    (λ l. rw (up_large (suc k) n l, append_assoc) (run_up k (n / 10) ((48 + n % 10) ∷ xs) (omega arith) ∙ run_digit (n / 10) (n % 10) xs (omega arith) ∙ ap (λ (v : ℕ). digit_run v xs) (omega arith)))

pub run_digits : (n : ℕ) (xs : List ℕ) → n < 10 ^ most_digits → digit_run 0 (digits n ++ xs) ≡ digit_run n xs
unfolding digits
run_digits n xs h = run_up 19 n xs h

-- a text that does not begin with a digit ends the run
pub run_stop : (v : ℕ) (xs : List ℕ) → starts_digit xs ≡ false → digit_run v xs ≡ front v xs
unfolding digit_run starts_digit
run_stop v [] h = refl
run_stop v (c ∷ xs) h = rw h

-- a run never lowers the value, and goes on to the right
pub run_grows : (v : ℕ) (xs : List ℕ) (w : ℕ) (rest : List ℕ) → digit_run v xs ≡ front w rest → v ≤ w
unfolding digit_run
run_grows v [] w rest e = let p : v ≡ w = cc in omega arith
run_grows v (c ∷ xs) w rest e =
    below (digit_of c) 10
    (λ s. let g : v * 10 + digit_of c ≤ w = run_grows (v * 10 + digit_of c) xs w rest (simp (lt-ltb (digit_of c) 10 s) at e) in omega arith)
    (λ l. let q : front v (c ∷ xs) ≡ front w rest = simp (le-ltb (digit_of c) 10 l) at e in let p : v ≡ w = cc in omega arith)

-- what is left is no longer than the text
pub run_short : (v : ℕ) (xs : List ℕ) (w : ℕ) (rest : List ℕ) → digit_run v xs ≡ front w rest → length rest ≤ length xs
unfolding digit_run
run_short v [] w rest e = let p : [] ≡ rest = cc in omega (arith, ap length p)
run_short v (c ∷ xs) w rest e =
    below (digit_of c) 10
    (λ s. let g : length rest ≤ length xs = run_short (v * 10 + digit_of c) xs w rest (simp (lt-ltb (digit_of c) 10 s) at e) in omega arith)
    (λ l. let q : front v (c ∷ xs) ≡ front w rest = simp (le-ltb (digit_of c) 10 l) at e in let p : c ∷ xs ≡ rest = cc in omega (arith, ap length p))

pub run_front : (v : ℕ) (xs : List ℕ) → (w : ℕ) × (rest : List ℕ) × (digit_run v xs ≡ front w rest)
unfolding digit_run
run_front v [] = (v, [], refl)
run_front v (c ∷ xs) =
    below (digit_of c) 10
    (λ s. let g = run_front (v * 10 + digit_of c) xs in (g.0, g.1, rw (lt-ltb (digit_of c) 10 s) g.2))
    (λ l. (v, c ∷ xs, rw (le-ltb (digit_of c) 10 l)))

-- what is left does not begin with a digit
pub run_rest : (v : ℕ) (xs : List ℕ) (w : ℕ) (rest : List ℕ) → digit_run v xs ≡ front w rest → starts_digit rest ≡ false
unfolding digit_run starts_digit
run_rest v [] w rest e = let k : [] ≡ rest = cc in rw (← k)
run_rest v (c ∷ xs) w rest e =
    by_test (is_digit c)
    (λ y. run_rest (v * 10 + digit_of c) xs w rest (rw y at e))
    (λ n. let q : front v (c ∷ xs) ≡ front w rest = rw n at e in let k : c ∷ xs ≡ rest = cc in rw (← k) n)

-- a run that begins takes a digit at least
pub run_takes : (v : ℕ) (xs : List ℕ) (w : ℕ) (rest : List ℕ) → starts_digit xs ≡ true → digit_run v xs ≡ front w rest → length rest < length xs
unfolding digit_run starts_digit
run_takes v [] w rest h e = absurd (false≢true h)
run_takes v (c ∷ xs) w rest h e = let g = run_short (v * 10 + digit_of c) xs w rest (rw h at e) in omega arith

-- each digit makes the value less than ten times as large
pub run_tens : (j v : ℕ) (xs : List ℕ) (w : ℕ) (rest : List ℕ) → v < 10 ^ j → digit_run v xs ≡ front w rest → w < 10 ^ (j + (length xs - length rest))
unfolding digit_run
run_tens j v [] w rest h e =
    let k : v ≡ w = cc in
    let n : j ≡ j + (0 - length rest) = omega arith in
    rw (← k, ← n) h
run_tens j v (c ∷ xs) w rest h e =
    below (digit_of c) 10
    (λ s.
    let e' : digit_run (v * 10 + digit_of c) xs ≡ front w rest = simp (lt-ltb (digit_of c) 10 s) at e in
    let n : suc j + (length xs - length rest) ≡ j + (length (c ∷ xs) - length rest) = omega (arith, run_short (v * 10 + digit_of c) xs w rest e') in
    rw (← n) (run_tens (suc j) (v * 10 + digit_of c) xs w rest (omega arith) e'))
    (λ l.
    let q : front v (c ∷ xs) ≡ front w rest = simp (le-ltb (digit_of c) 10 l) at e in
    let k : v ≡ w = cc in
    let r : c ∷ xs ≡ rest = cc in
    let n : j ≡ j + (length (c ∷ xs) - length rest) = omega (arith, ap length r) in
    rw (← k, ← n) h)

-- ---- what makes a run a number
pub fair_yes : (count v : ℕ) → 0 < count → count ≤ most_digits → v < 2 ^ 64 → fair count v ≡ true
unfolding fair
fair_yes count v p q h = rw (le-leb 1 count p, le-leb count most_digits q) (lt-ltb v (2 ^ 64) h)

-- why a run is no number
pub fair_empty : (v : ℕ) → fair 0 v ≡ false
unfolding fair
fair_empty v = refl

pub fair_long : (count v : ℕ) → most_digits < count → fair count v ≡ false
unfolding fair
fair_long count v h = rw (lt-leb count most_digits h, and-false (leb 1 count))

pub fair_large : (count v : ℕ) → 2 ^ 64 ≤ v → fair count v ≡ false
unfolding fair
fair_large count v h = rw (le-ltb v (2 ^ 64) h) (and-false (leb 1 count && leb count most_digits))

pub fair_says : (count v : ℕ) → fair count v ≡ true → (0 < count) × (count ≤ most_digits) × (v < 2 ^ 64)
unfolding fair
fair_says count v e =
    let a = parts (leb 1 count && leb count most_digits) (ltb v (2 ^ 64)) e in
    let b = parts (leb 1 count) (leb count most_digits) a.0 in
    (leb-true 1 count b.0, leb-true count most_digits b.1, ltb-true v (2 ^ 64) a.1)

-- ---- how long the text of a number is
up_length : (k n : ℕ) → length (up_to k n) ≤ k
unfolding up_to
up_length zero n = omega arith
up_length (suc k) n = below n 10 (λ s. rw (lt-ltb n 10 s) (omega arith)) (λ l. rw (le-ltb n 10 l, length-append) (let h = up_length k (n / 10) in omega arith))

pub digits_length : (n : ℕ) → length (digits n) ≤ most_digits
unfolding digits
digits_length n = up_length most_digits n

pub one_digit : (n : ℕ) → n < 10 → length (digits n) ≡ 1
one_digit n h = ap length (digits_small n h)

pub more_digits : (n : ℕ) → 10 ≤ n → n < 2 ^ 64 → length (digits n) ≡ length (digits (n / 10)) + 1
more_digits n l h = ap length (digits_large n l h) ∙ length-append (digits (n / 10)) ((48 + n % 10) ∷ [])

pub digits_some : (n : ℕ) → n < 10 ^ most_digits → 0 < length (digits n)
digits_some n h =
    below n 10 (λ s. rw (digits_small n s) (omega arith)) (λ l. rw (digits_wide n l h, length-append) (omega arith))

-- ---- the number at the front of a text
-- a number that was written is read back, and the rest with it
pub read_digits : (n : ℕ) (rest : List ℕ) → n < 2 ^ 64 → starts_digit rest ≡ false → read_number (digits n ++ rest) ≡ front n rest
unfolding read_number judged
read_digits n rest h stop =
    let k : length (digits n) + length rest - length rest ≡ length (digits n) = omega arith in
    rw (run_digits n rest (omega arith), run_stop n rest stop, length-append, k, fair_yes (length (digits n)) n (digits_some n (omega arith)) (digits_length n) h)

-- what a reading says
pub read_says : (xs : List ℕ) (v : ℕ) (rest : List ℕ) → read_number xs ≡ front v rest → (digit_run 0 xs ≡ front v rest) × (fair (length xs - length rest) v ≡ true)
unfolding read_number judged
read_says xs v rest e = go (fair (length xs - length r) w) refl
  where
    w : ℕ
    w = (run_front 0 xs).0

    r : List ℕ
    r = (run_front 0 xs).1

    is : digit_run 0 xs ≡ front w r
    is = (run_front 0 xs).2

    e' : pick (fair (length xs - length r) w) (front w r) refused ≡ front v rest
    e' = rw is at e

    go : (b : Bool) → fair (length xs - length r) w ≡ b → (digit_run 0 xs ≡ front v rest) × (fair (length xs - length rest) v ≡ true)
    go true q =
        let k : front w r ≡ front v rest = rw q at e' in
        let kw : w ≡ v = cc in
        let kr : r ≡ rest = cc in
        (is ∙ k, rw (← kw, ← kr) q)
    go false q = absurd (let k : refused ≡ front v rest = rw q at e' in let z : ◌≡◌ {A = ℕ} 0 1 = cc in omega arith)

-- what is left is the end of the text, whatever the rule for a number is
run_suffix : (v : ℕ) (xs : List ℕ) (w : ℕ) (rest : List ℕ) → digit_run v xs ≡ front w rest → (p : List ℕ) × (xs ≡ p ++ rest)
unfolding digit_run
run_suffix v [] w rest e = ([], let k : [] ≡ rest = cc in k)
run_suffix v (c ∷ xs) w rest e =
    below (digit_of c) 10
    (λ s. let g = run_suffix (v * 10 + digit_of c) xs w rest (simp (lt-ltb (digit_of c) 10 s) at e) in (c ∷ g.0, ap (λ (t : List ℕ). c ∷ t) g.1))
    (λ l. let q : front v (c ∷ xs) ≡ front w rest = simp (le-ltb (digit_of c) 10 l) at e in ([], let k : c ∷ xs ≡ rest = cc in k))

pub read_suffix : (xs : List ℕ) (v : ℕ) (rest : List ℕ) → read_number xs ≡ front v rest → (p : List ℕ) × (xs ≡ p ++ rest)
read_suffix xs v rest e = run_suffix 0 xs v rest (read_says xs v rest e).0
