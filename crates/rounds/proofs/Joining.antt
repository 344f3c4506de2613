-- A site's table among the words: its entries in use are no more than it has places.
-- Assumes nothing.
use Prim.Native.Nat.{ℕ, ◌*◌, ◌≤◌, ◌<◌}
use native.Mathlib.Omega.{arith}
use mathlib.Core.Path.{◌≡◌, ap}
use mathlib.Core.List.{List, ◌++◌, append-nil}
use lib.ListN.{length, take, drop, drop_of_length-le}
use lib.Seq.{length-take-le, take_all}
use Rattle.rules.specs.declared.Run.{Run}
use Rattle.rules.specs.meaning.Lengths.{M}
use Rattle.rules.specs.meaning.Table.{held}
use Rattle.rules.specs.meaning.States.{width, table_at}
use Rattle.rules.proofs.laws.table.Update.{held_fits}
use Rattle.steps.specs.Verdicts.{Ready}
use Rattle.steps.proofs.Tables.{site_sound, site_length}

module _ (run : Run) (ws : List ℕ) (ready : Ready run ws) (site : ℕ) (inside : site < run.sites) where
  pub used_few : 2 * held (table_at run ws site) ≤ width run
  used_few = omega (arith, held_fits M (table_at run ws site) 0 (site_sound run ws ready site inside), site_length run ws ready site inside)

  -- their words, in front of what is the table
  pub used_long : (t : List ℕ) (n : ℕ) → t ≡ table_at run ws site → n ≡ held t → length (take (2 * n) t) ≡ 2 * n
  used_long t n is told = length-take-le (2 * n) t (omega (arith, told, ap held is, used_few, ap length is, site_length run ws ready site inside))

-- ---- a room that is lent whole, and what stands in it afterwards
pub lent_whole : (l : List ℕ) → take (length l) l ≡ l
lent_whole l = take_all (length l) l (omega arith)

pub back_whole : (l u : List ℕ) → length u ≡ length (take (length l) l) → u ++ drop (length l) l ≡ u
back_whole l u long = rw (drop_of_length-le l {i = length l} (omega arith)) (append-nil u)
