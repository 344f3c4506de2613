-- `table::judge::shown`: the entries counted so far and those left to count are all that are listed.
use Rattle.std.proofs.Common.{◌≤◌, ◌+◌, ◌*◌, length, arith}
use Rattle.table.proofs.Counting.{shown_more, shown_same, shown_end}
use Rattle.table.proofs.judge.shown.Goals as goal

pub loop-i-preserved : goal.loop-i-preserved
loop-i-preserved c =
    let t = c.args.table.now in
    let fits : 2 * c.loop-i.i + 2 ≤ length t = omega arith in
    grind (arith, shown_more t c.loop-i.i fits, shown_same t c.loop-i.i fits)

pub returns : goal.returns
returns c = omega (arith, shown_end c.args.table.now c.loop-i.i (omega arith))
