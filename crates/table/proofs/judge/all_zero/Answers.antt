-- `table::judge::all_zero`: the words so far and the words that are left are all the words.
use Rattle.std.proofs.Common.{ap, ◌∙◌, drop, take_all, length-drop, arith}
use Rattle.table.specs.Loops.{zeros}
use Rattle.table.proofs.Judging.{zero_more, zero_end}
use Rattle.table.proofs.judge.all_zero.Goals as goal

pub loop-w-preserved : goal.loop-w-preserved
loop-w-preserved c = zero_more _ c.loop-w.w-index c.loop-w.any _ c.loop-w-test.true c.loop-w.invariant

pub returns : goal.returns
returns c =
    let left = drop c.args.from c.args.words.now in
    zero_end _ c.loop-w.w-index c.loop-w.any _ c.loop-w-test.false c.loop-w.invariant
    ∙ ap zeros (take_all _ left (omega (arith, length-drop c.args.from c.args.words.now)))
