-- Serials of 32 bits: the next one, their order, which is that of RFC 1982, and the lag of one behind another.
-- Assumes nothing.
use Rattle.std.specs.Prelude.{ℕ, ◌+◌, ◌-◌, ◌%◌, Bool, ◌&&◌, ◌||◌, not, cond, ltb, eqb, ℤ, pos, negsuc}

-- how many serials there are, the largest of them, and half of their number
abbrev pub serials : ℕ
serials = 4294967296

abbrev pub largest_serial : ℕ
largest_serial = 4294967295

abbrev pub half : ℕ
half = 2147483648

-- the serial after another and the one before it, "wrapping after 4,294,967,295"
unfoldable pub next_serial : ℕ → ℕ
next_serial n = (n + 1) % serials

unfoldable pub serial_before : ℕ → ℕ
serial_before n = (n + largest_serial) % serials

-- ---- the order
-- RFC 1982, section 3.2: "s1 is said to be greater than s2 if, and only if, s1 is not equal to s2, and (i1 < i2 and i2 - i1 > 2^(SERIAL_BITS - 1)) or
-- (i1 > i2 and i1 - i2 < 2^(SERIAL_BITS - 1))"
unfoldable pub is_newer : ℕ → ℕ → Bool
is_newer a b = ltb a b && ltb half (b - a) || ltb b a && ltb (a - b) half

-- the wrapped difference: how many serials a is ahead of b, going up
unfoldable pub ahead : ℕ → ℕ → ℕ
ahead a b = (a + (serials - b)) % serials

-- "RFC 1982 leaves a distance of exactly 2,147,483,648 undefined"
unfoldable pub is_ordered : ℕ → ℕ → Bool
is_ordered a b = not (eqb (ahead a b) half)

-- ---- the lag
-- "as a signed number, the newest heard minus the last sent": the wrapped difference with its sign, from half of the serials on below 0
unfoldable pub lag_of : ℕ → ℕ → ℤ
lag_of heard last = cond (ltb (ahead heard last) half) (pos (ahead heard last)) (negsuc (largest_serial - ahead heard last))

-- the serial that a signed number is, wrapped
abbrev pub wrapped : ℤ → ℕ
wrapped (pos n) = n
wrapped (negsuc n) = largest_serial - n
