-- `merging::within::Places::eight`: each turn's outcome is told by the two ids (`settled`), and the ids that are read ahead are the last ones left (`ahead`).
use Prim.Native.Nat.{◌-◌}
use native.Mathlib.Omega.{arith}
use Rattle.merging.specs.Walks.{part_at}
use Rattle.merging.proofs.Joins.{Settling, outcome, ahead}
use Rattle.merging.proofs.Inside.{own_length, own_before, source_length, source_before, settled}
use Rattle.merging.proofs.within.Places.eight.Goals as goal

pub loop-preserved : goal.loop-preserved
loop-preserved g c =
    let v = c.loop.invariant in
    let f = v.filling in
    let at = c.args.self in
    let left = c.loop.left in
    let now = c.settle-now.result in
    let says = c.settle-now.ensures in
    let e = c.less-left.ensures in
    let o : Settling _ _ _ _ _ _ _ _ _ _ _ _ = record { over = says.id_value; both = says.id_value_2; under = says.id_value_3 } in
    let a = ahead o (part_at g.before at.to at.wide) (part_at g.before at.from at.wide) left.own left.others (omega arith) (omega arith) v.mine v.under v.last v.next in
    record {
      own = omega (arith, says.own_bound);
      others = omega (arith, says.own_bound);
      place = omega arith;
      filling = rw (c.put.ensures, e.0, e.1, e.2)
          (settled f (left.place - 1) (omega arith) _ _ (left.own - 1) (left.others - 1) (omega arith) (omega arith) now.own now.others
          (outcome o _ _ _ _ v.mine (own_length f (omega arith)) v.last (source_length f (omega arith))));
      mine = rw e.0 a.0;
      under = rw e.0 (own_before f (left.own - now.own) (omega (arith, says.own_bound)) (omega arith));
      last = rw e.1 a.1;
      next = rw e.1 (source_before f (left.others - now.others) (omega (arith, says.own_bound)) (omega arith));
    }
