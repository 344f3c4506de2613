-- `table::judge::shown`: the entries counted so far and those left to count are all that are listed.
use Prim.Native.Nat.{◌≤◌, ◌+◌, ◌*◌}
use mathlib.Core.Path.{◌≡◌}
use lib.ListN.{drop}
use Rattle.rules.specs.meaning.Table.{shown}
use Rattle.table.proofs.judge.shown.Given as goal

abbrev pub invariant-loop-i : goal.invariant-loop-i
invariant-loop-i l = (l.count ≤ l.i) × (l.count + shown (drop (2 * l.i) l.table) ≡ shown l.table)
