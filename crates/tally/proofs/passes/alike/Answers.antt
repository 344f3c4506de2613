-- `tally::passes::alike`: the first so many are the same (`same_upto`), which is what is said of all four (`same_four`).
use Prim.Native.Nat.{◌+◌}
use native.Mathlib.Omega.{arith}
use mathlib.Core.Bool.{◌&&◌}
use mathlib.Core.Path.{◌≡◌, refl, sym, ap, ◌∙◌}
use lib.Dec.{eqb}
use Rattle.rules.specs.meaning.Table.{id_at}
use Rattle.tally.proofs.Joint.{same_upto, same_more, same_four}
use Rattle.tally.proofs.passes.alike.Goals as goal

pub loop-k-init : goal.loop-k-init
unfolding same_upto
loop-k-init c = refl

pub loop-k-preserved : goal.loop-k-preserved
loop-k-preserved c =
    let a = c.args in
    let k = c.loop-k.k in
    ap (λ b. b && eqb (id_at a.table.now (a.own + k)) (id_at a.entries.now (a.others + k))) c.loop-k.invariant ∙ sym (same_more a.table.now a.entries.now a.own a.others k)

pub returns : goal.returns
returns c =
    let a = c.args in
    let all : c.loop-k.k ≡ 4 = omega arith in
    (rw all at c.loop-k.invariant) ∙ same_four a.table.now a.entries.now a.own a.others
