-- `table::judge::entries_good`: after i entries the loop has computed `entries_good` of them.
use Prim.Native.Nat.{◌-◌}
use mathlib.Core.Path.{◌≡◌}
use Rattle.rules.specs.meaning.Lengths.{M}
use Rattle.rules.specs.meaning.Table.{id_at}
use Rattle.table.specs.Loops.{entries_good}
use Rattle.table.proofs.judge.entries_good.Given as goal

abbrev pub invariant-loop-i : goal.invariant-loop-i
invariant-loop-i l = (l.before ≡ id_at l.words (l.i - 1)) × (l.good ≡ entries_good M l.words l.i)
