-- `table::judge::entries_good`: after i entries the loop has computed `entries_good` of them.
use Prim.Native.Nat.{◌-◌, ◌+◌}
use mathlib.Core.Path.{◌≡◌, refl}
use Rattle.rules.specs.meaning.Lengths.{M}
use Rattle.table.specs.Loops.{entries_good}
use Rattle.table.proofs.Judging.{good_more}
use native.Mathlib.Omega.{arith}
use Rattle.table.proofs.judge.entries_good.Goals as goal

pub returns-then-count-eq0 : goal.returns-then-count-eq0
unfolding entries_good
returns-then-count-eq0 c = rw c.if-count-eq0.true

pub loop-i-init : goal.loop-i-init
unfolding entries_good
loop-i-init c = (refl, refl)

pub loop-i-preserved : goal.loop-i-preserved
loop-i-preserved c =
    let l = c.loop-i in
    let back : l.i + 1 - 1 ≡ l.i = omega arith in
    (rw back, good_more M _ l.i (omega arith) l.good l.before l.invariant.0 l.invariant.1)
