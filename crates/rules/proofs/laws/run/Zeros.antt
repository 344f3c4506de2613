-- Words that are all 0, as in a fresh run: each table among them is unused, so all are sound.
-- Assumes nothing.
use Rattle.std.specs.Prelude.{ℕ, zero, suc, ◌*◌, true, ◌≡◌, List, take, drop, replicate}
use Rattle.std.proofs.Common.{mul_left_comm, arith}
use Rattle.rules.proofs.laws.table.View.{Unused, Unused.none, Unused.pair, Sound.rest, say}
use Rattle.rules.specs.meaning.States.{tables_sound}
use Rattle.rules.proofs.laws.run.Sites.{tables_by}

one_pair_more : (c : ℕ) → 2 * suc c ≡ suc (suc (2 * c))
one_pair_more c = omega arith

pub all_unused : (c : ℕ) → Unused (replicate (2 * c) 0)
all_unused zero = none
all_unused (suc c) = rw (one_pair_more c) (pair (all_unused c))

take_unused : (c : ℕ) {t : List ℕ} → Unused t → Unused (take (2 * c) t)
take_unused zero z = none
take_unused (suc c) none = rw (one_pair_more c) none
take_unused (suc c) (pair z) = rw (one_pair_more c) (pair (take_unused c z))

drop_unused : (c : ℕ) {t : List ℕ} → Unused t → Unused (drop (2 * c) t)
drop_unused zero z = z
drop_unused (suc c) none = rw (one_pair_more c) none
drop_unused (suc c) (pair z) = rw (one_pair_more c) (drop_unused c z)

module _ (c n : ℕ) where
  -- the table of site k among those of n sites with room for c entries each; past the last there are no words
  pub zeros_unused : (k : ℕ) → Unused (take (2 * c) (drop (k * (2 * c)) (replicate (n * (2 * c)) 0)))
  zeros_unused k = rw (mul_left_comm k 2 c, mul_left_comm n 2 c) (take_unused c (drop_unused (k * c) (all_unused (n * c))))

  -- so they are sound, whatever the largest length
  pub zeros_sound : (most : ℕ) → tables_sound most (2 * c) n (replicate (n * (2 * c)) 0) ≡ true
  zeros_sound most = tables_by most (2 * c) n (replicate (n * (2 * c)) 0) (λ k p. say (rest (zeros_unused k)))
