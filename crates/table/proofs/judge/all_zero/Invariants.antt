-- `table::judge::all_zero`: the words so far and the words that are left are all the words.
use mathlib.Core.Path.{◌≡◌}
use lib.ListN.{drop}
use mathlib.Core.Bool.{◌&&◌}
use lib.Dec.{eqb}
use Rattle.table.specs.Loops.{zeros}
use Rattle.table.proofs.judge.all_zero.Given as goal

abbrev pub invariant-loop-w : goal.invariant-loop-w
invariant-loop-w l = eqb l.any 0 && zeros (drop l.w-index l.w-items) ≡ zeros l.w-items
