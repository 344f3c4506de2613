-- `judge::tables_sound`: a turn takes the next table from those that are left, and at the end none is left.
use Rattle.std.proofs.Common.{◌≡◌, ◌+◌, ◌*◌, ◌-◌, take, drop, arith}
use Rattle.rules.specs.meaning.Lengths.{M}
use Rattle.rules.specs.meaning.Table.{sound}
use Rattle.judge.proofs.Judging.{tables_more, tables_end}
use Rattle.judge.proofs.tables_sound.Goals as goal

pub loop-k-preserved : goal.loop-k-preserved
loop-k-preserved c =
    let a = c.args in
    let l = c.loop-k in
    let e : l.k * a.width + a.width - l.k * a.width ≡ a.width = omega arith in
    let judged : c.sound-good.result ≡ sound M (take a.width (drop (l.k * a.width) a.words.now)) = rw e at c.sound-good.ensures in
    tables_more a.width a.sites l.k a.words.now l.good c.sound-good.result _ c.loop-k-test.true judged l.invariant

pub returns : goal.returns
returns c = let a = c.args in let l = c.loop-k in tables_end a.width a.sites l.k a.words.now l.good _ c.loop-k-test.false l.invariant
