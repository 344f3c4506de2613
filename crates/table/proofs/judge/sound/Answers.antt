-- `table::judge::sound`: the two loops decide, whatever number of entries `used` found (`judged`).
use Rattle.rules.specs.meaning.Lengths.{M}
use Rattle.table.proofs.Judging.{judged, unpaired}
use native.Mathlib.Omega.{arith}
use Rattle.table.proofs.judge.sound.Goals as goal

pub returns-then-words-ne0 : goal.returns-then-words-ne0
returns-then-words-ne0 c = unpaired M _ c.if-words-ne0.true

pub returns : goal.returns
returns c =
    let n = c.used-count in
    rw (c.entries_good.ensures, c.all_zero.ensures) (judged M _ n.result (omega arith) n.ensures.result_in_bounds n.ensures.words_value)
