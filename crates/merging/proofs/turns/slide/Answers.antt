-- `merging::turns::slide`: each entry that moves on is a turn of the merge (`moves_on_law`).
use Prim.Native.Nat.{◌-◌}
use native.Mathlib.Omega.{arith}
use mathlib.Core.Path.{ap, ◌∙◌}
use lib.ListN.{length, length-set}
use Rattle.merging.proofs.Joins.{moves_on_law, own_id, own_length, settled, puts}
use Rattle.merging.proofs.turns.slide.Goals as goal

pub loop-left-preserved : goal.loop-left-preserved
loop-left-preserved c =
    let v = c.loop-left.invariant in
    let left = c.loop-left.left in
    let e = c.less-left.ensures in
    let put = c.put.ensures in (
      omega arith,
      omega arith,
      omega arith,
      (ap length put) ∙ (simp length-set v.3),
      (λ t s f₀ ex.
          let f = v.4 t s f₀ ex in
          rw (put, e.0, e.1, e.2)
          (settled f (left.place - 1) (omega arith) _ _ _ (puts c.loop-left.table (left.place - 1) _ _ (omega arith)) (left.own - 1) (left.others - 1) (omega arith) (omega arith) 1 0
          (moves_on_law _ _ _ _ _ _ _ c.if-id-table.true (own_id f (omega arith)) (own_length f (omega arith)) (rw v.2 ex)))),
    )
