-- `table::find::nearest`: `Span` is what halving keeps, its size a power of two.
use Prim.Native.Nat.{◌^◌}
use Rattle.rules.specs.meaning.Table.{held}
use Rattle.table.specs.Loops.{Span}
use Rattle.table.proofs.find.nearest.Given as goal

abbrev pub invariant-loop-k : goal.invariant-loop-k
invariant-loop-k l = Span l.table (held l.table) l.id l.base (2 ^ l.k)
