-- `table::judge::used`: where the table is sound, the number of entries in use stays between `base` and `base + size`. The measure is `size`.
use Prim.Native.Nat.{◌≤◌, ◌*◌, ◌+◌}
use lib.ListN.{length}
use Rattle.rules.specs.meaning.Table.{SoundTable, held}
use Rattle.table.proofs.judge.used.Given as goal

abbrev pub invariant-loop-size : goal.invariant-loop-size
invariant-loop-size l =
    (1 ≤ l.size) × (2 * (l.base + l.size) ≤ length l.words) × (SoundTable l.words → (l.base ≤ held l.words) × (held l.words ≤ l.base + l.size))

abbrev pub decreases-loop-size : goal.decreases-loop-size
decreases-loop-size l = l.size
