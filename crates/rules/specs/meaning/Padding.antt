-- Zeros in front of the numbers of a text: "a line read and written again has the same step with no padding". Assumes nothing.
use Rattle.std.specs.Prelude.{Bool, true, false, not, ◌&&◌, ◌||◌, cond, List, [], ◌∷◌, ℕ, ◌+◌, ltb, eqb}
use Rattle.rules.specs.meaning.Number.{most_digits, is_digit, starts_digit}

-- a byte is padding where it is a zero, nothing of its number but padding stands before it, and a digit stands behind it: so the last zero of `00` is none
unfoldable pub is_padding : Bool → ℕ → List ℕ → Bool
is_padding inside c xs = not inside && eqb c 48 && starts_digit xs

-- a text without its padding and with every other byte; `inside` tells whether the byte before it is a digit that was kept
unfoldable pub unpadded_from : Bool → List ℕ → List ℕ
unpadded_from inside [] = []
unpadded_from inside (c ∷ xs) = cond (is_padding inside c xs) (unpadded_from false xs) (c ∷ unpadded_from (is_digit c) xs)

unfoldable pub unpadded : List ℕ → List ℕ
unpadded xs = unpadded_from false xs

-- whether a text has padding at all
unfoldable pub padded_from : Bool → List ℕ → Bool
padded_from inside [] = false
padded_from inside (c ∷ xs) = is_padding inside c xs || padded_from (is_digit c) xs

unfoldable pub is_padded : List ℕ → Bool
is_padded xs = padded_from false xs

-- whether no number of a text has more than 20 digits, padding among them; `before` counts those of the number so far
unfoldable pub short_from : ℕ → List ℕ → Bool
short_from before [] = true
short_from before (c ∷ xs) = cond (is_digit c) (ltb before most_digits && short_from (before + 1) xs) (short_from 0 xs)

unfoldable pub has_short_numbers : List ℕ → Bool
has_short_numbers xs = short_from 0 xs
