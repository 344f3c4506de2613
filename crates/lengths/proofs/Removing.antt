-- A remove of one length by the length and its parity: their sum, refused where it is above the largest.
-- Assumes nothing.
use Rattle.std.proofs.Common.{◌≡◌, ℕ, ◌+◌, ◌%◌, ◌≤◌, ◌<◌, arith, lt-ltb, le-ltb}
use Rattle.rules.specs.meaning.Lengths.{M, after_remove}
use Rattle.rules.specs.meaning.Operations.{removed_length, answer, accepted, out_of_lengths}
use Rattle.rules.proofs.laws.Lengths.{odd_listed, even_listed, remove_listed, remove_unlisted}
use Rattle.rules.proofs.laws.line.Numbers.{below}

module _ (n : ℕ) where
  by_parity : after_remove n ≡ n + n % 2
  by_parity =
      below (n % 2) 1
      (λ even. omega (arith, remove_unlisted n (even_listed n (omega arith))))
      (λ odd. omega (arith, remove_listed n (odd_listed n (omega arith))))

  pub removed_above : M < n + n % 2 → removed_length M n ≡ answer out_of_lengths 0
  unfolding removed_length
  removed_above h = rw (by_parity, lt-ltb M (n + n % 2) h)

  pub removed_within : n + n % 2 ≤ M → removed_length M n ≡ answer accepted (n + n % 2)
  unfolding removed_length
  removed_within h = rw (by_parity, le-ltb M (n + n % 2) h)

pub ruleset removed = (removed_above, removed_within)
