-- `rounds::union::turn`: by the order of the two ids that are next.
use Rattle.std.proofs.Common.{arith}
use Rattle.rounds.proofs.Walking.{lay_one, lay_other, lay_both}
use Rattle.rounds.proofs.union.turn.Goals as goal

pub returns-then-mine-id-clause-laid_2 : goal.returns-then-mine-id-clause-laid_2
returns-then-mine-id-clause-laid_2 c =
    let a = c.args in
    let r = c.requires in
    rw c.lay.ensures (lay_one a.one.now a.other.now a.out.now a.at.one a.at.other a.at.laid r.laid r.one_bound.2 r.one_bound.0 r.one_bound.1 c.if-mine-id.true)

pub returns-then-id-mine-clause-laid_2 : goal.returns-then-id-mine-clause-laid_2
returns-then-id-mine-clause-laid_2 c =
    let a = c.args in
    let r = c.requires in
    rw c.lay-then-id-mine.ensures (lay_other a.one.now a.other.now a.out.now a.at.one a.at.other a.at.laid r.laid r.one_bound.2 r.one_bound.0 r.one_bound.1 c.if-id-mine.true)

pub returns-clause-laid_2 : goal.returns-clause-laid_2
returns-clause-laid_2 c =
    let a = c.args in
    let r = c.requires in
    rw (c.lay-2.ensures, c.join.ensures) (lay_both a.one.now a.other.now a.out.now a.at.one a.at.other a.at.laid r.laid r.one_bound.2 r.one_bound.0 r.one_bound.1 (omega (arith, c.if-id-mine.false, c.if-mine-id.false)))
