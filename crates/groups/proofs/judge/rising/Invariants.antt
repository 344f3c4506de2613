-- `groups::judge::rising`: kept by the loop, what was found of the entries passed and what is to be found of the rest are what is to be found of all.
use Prim.Native.Nat.{suc, ◌+◌, ◌*◌}
use mathlib.Core.Path.{◌≡◌}
use mathlib.Core.Bool.{◌&&◌}
use lib.ListN.{drop}
use Rattle.rules.specs.meaning.Groups.{rising_from}
use Rattle.groups.proofs.judge.rising.Given as goal

abbrev pub invariant-loop-id : goal.invariant-loop-id
invariant-loop-id l = l.ok && rising_from (suc l.before) (drop (2 * (l.id-index + 1)) l.entries) ≡ rising_from 0 l.entries
