-- `merging::turns::turn`: nothing is left of the table, or the two last ids decide (`settled`).
use Prim.Native.Nat.{◌-◌}
use native.Mathlib.Omega.{arith}
use mathlib.Core.Path.{◌≡◌}
use Rattle.merging.proofs.Joins.{outcome, last_ones, settled, puts, own_id, own_length}
use Rattle.merging.proofs.turns.turn.Goals as goal

pub returns-then-left-eq0-clause-by_index : goal.returns-then-left-eq0-clause-by_index
returns-then-left-eq0-clause-by_index c = λ t s f ex en.
    let left = c.args.left in
    let e = c.less.ensures in
    let none : left.own - 0 ≡ 0 = omega arith in
    rw (c.put.ensures, e.0, none, e.1, e.2)
    (last_ones f (left.place - 1) (omega arith) _ _ _ (puts c.args.table.now (left.place - 1) _ _ (omega arith)) c.if-left-eq0.true (left.others - 1) (omega arith) ex en)

pub returns-clause-by_index : goal.returns-clause-by_index
returns-clause-by_index c = λ t s f ex en.
    let left = c.args.left in
    let e = c.less-2.ensures in
    let now = c.settle-now in
    let says = now.ensures in
    rw (c.put-2.ensures, e.0, e.1, e.2)
    (settled f (left.place - 1) (omega arith) _ _ _ (puts c.args.table.now (left.place - 1) _ _ (omega arith)) (left.own - 1) (left.others - 1) (omega arith) (omega arith) now.result.own now.result.others
    (outcome (record { over = says.id_value; both = says.id_value_2; under = says.id_value_3 }) _ _ _ _ (own_id f (omega arith)) (own_length f (omega arith)) ex en))
