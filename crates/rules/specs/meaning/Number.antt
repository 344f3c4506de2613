-- Decimal numbers: as text, and read from the front of a text. Assumes nothing.
use Rattle.std.specs.Prelude.{Bool, false, ◌&&◌, cond, List, [], ◌∷◌, ◌++◌, ℕ, zero, suc, ◌+◌, ◌-◌, ◌*◌, ◌/◌, ◌%◌, ◌^◌, ltb, leb, length}
use Rattle.rules.specs.meaning.Text.{Front, front, refused, pick}

-- the last digits of n, at most k of them, with no zero in front
unfoldable pub up_to : ℕ → ℕ → List ℕ
up_to zero n = []
up_to (suc k) n = cond (ltb n 10) ((48 + n) ∷ []) (up_to k (n / 10) ++ ((48 + n % 10) ∷ []))

-- how many digits the largest number of 64 bits has, and how many a number that is read may have
abbrev pub most_digits : ℕ
most_digits = 20

-- the decimal text of a number below 2 ^ 64
unfoldable pub digits : ℕ → List ℕ
digits n = up_to most_digits n

-- the digit that a byte stands for; 10 where it stands for none
unfoldable pub digit_of : ℕ → ℕ
digit_of c = cond (leb 48 c) (cond (leb c 57) (c - 48) 10) 10

abbrev pub is_digit : ℕ → Bool
is_digit c = ltb (digit_of c) 10

unfoldable pub starts_digit : List ℕ → Bool
starts_digit [] = false
starts_digit (c ∷ xs) = is_digit c

-- the longest run of digits from the front, read on from the value v: the value and the rest
unfoldable pub digit_run : ℕ → List ℕ → Front
digit_run v [] = front v []
digit_run v (c ∷ xs) = pick (is_digit c) (digit_run (v * 10 + digit_of c) xs) (front v (c ∷ xs))

-- what makes a run of digits a number, by how many it has and its value: "up to 20 digits with leading zeros, as long as the value fits 64 bits"
unfoldable pub fair : ℕ → ℕ → Bool
fair count v = leb 1 count && leb count most_digits && ltb v (2 ^ 64)

unfoldable pub judged : List ℕ → Front → Front
judged xs (front v rest) = pick (fair (length xs - length rest) v) (front v rest) refused
judged xs refused = refused

-- the number at the front of a text, and the rest
unfoldable pub read_number : List ℕ → Front
unfolding judged
read_number xs = judged xs (digit_run 0 xs)
