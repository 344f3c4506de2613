-- `tally::counting::Both::four`: so many steps of the walk.
use native.Mathlib.Omega.{arith}
use mathlib.Core.Path.{refl}
use Rattle.rules.specs.meaning.Lengths.{M}
use Rattle.rules.proofs.laws.table.Places.{laid_of}
use Rattle.tally.proofs.Joint.{walk_both, moved}
use Rattle.tally.proofs.counting.Both.four.Goals as goal

pub loop-k-preserved : goal.loop-k-preserved
loop-k-preserved c =
    let both = c.args.self in
    let more = c.rise-rises in
    let wt = laid_of M _ both.sound_table in
    let ws = laid_of M _ both.sound_entries in
    moved wt ws (walk_both wt ws _ _ _ _ c.loop-k.invariant (omega arith) (omega arith) (c.requires.same_ids c.loop-k.k c.loop-k-test.true) more.result more.ensures.0 more.ensures.1) _ _ _ _ refl refl (omega arith) (omega arith)
