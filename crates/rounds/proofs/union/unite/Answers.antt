-- `rounds::union::unite`: the walk, and then what is left of either table.
use Rattle.std.proofs.Common.{◌≡◌, ◌*◌, length, arith}
use Rattle.rounds.specs.Unions.{Whole}
use Rattle.rounds.proofs.Walking.{to_end, laid_end, laid_full}
use Rattle.rounds.proofs.union.unite.Goals as goal

-- there is no place for all
pub returns-then-places-at : goal.returns-then-places-at
returns-then-places-at c =
    let a = c.args in
    let w = c.walk-at in
    let as_long : length w.new.out ≡ length a.out.now = w.auto.out in
    let whole_out : Whole (length w.new.out) = rw as_long c.requires.whole.2 in
    let full = laid_full a.one.now a.other.now w.new.out _ _ _ w.ensures.laid c.requires.whole.0 c.requires.whole.1 whole_out w.ensures.ended c.if-places-at.true in
    rw (← as_long) full

-- all are laid
pub returns : goal.returns
returns c =
    let a = c.args in
    let w = c.walk-at in
    let as_long : length w.new.out ≡ length a.out.now = w.auto.out in
    let whole_out : Whole (length w.new.out) = rw as_long c.requires.whole.2 in
    let all = laid_end a.one.now a.other.now w.new.out _ _ _ w.ensures.laid c.requires.whole.0 c.requires.whole.1 whole_out w.ensures.ended c.if-places-at.false _ _ _ _ (to_end a.one.now (2 * w.result.one)) (to_end a.other.now (2 * w.result.other)) c.append.ensures c.append-2.ensures in
    (omega (arith, c.if-places-at.false, w.ensures.laid.placed, as_long), all.0, all.1)
