-- The causal length of one id: the right-hand sides of Figure 4 of Yu and Rostad (2020), at one element e with s(e) = n.
-- Assumes nothing.
use Rattle.std.specs.Prelude.{ℕ, suc, ◌%◌, max, Bool, cond, eqb, ltb}

-- the largest length of today's runs. Every definition that needs a largest length takes it as an argument
abbrev pub M : ℕ
M = 4294967295

-- in(s, e) = odd(s(e)): an odd length is listed; an even one, 0 included, is not
unfoldable pub listed : ℕ → Bool
listed n = eqb (n % 2) 1

-- add(s, e): an even length rises by 1, an odd one stays
unfoldable pub after_add : ℕ → ℕ
after_add n = cond (listed n) n (suc n)

-- remove(s, e): an odd length rises by 1, an even one stays
unfoldable pub after_remove : ℕ → ℕ
after_remove n = cond (listed n) (suc n) n

-- (s ⊔ s')(e) = max(s(e), s'(e)): the larger of the two, and nothing else enters into it
abbrev pub join : ℕ → ℕ → ℕ
join a b = max a b

-- a length that no entry can have, since it is above the largest
abbrev pub runs_out : ℕ → ℕ → Bool
runs_out most n = ltb most n
