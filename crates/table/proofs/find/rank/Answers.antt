-- `table::find::rank`: one test tells whether the place where halving ends is before the id's (`span_rank`).
use mathlib.Core.Path.{refl}
use native.Mathlib.Omega.{arith}
use Rattle.rules.specs.meaning.Lengths.{M}
use Rattle.rules.proofs.laws.table.Places.{laid_of, rank_most}
use Rattle.table.proofs.Search.{span_rank}
use Rattle.table.proofs.find.rank.Goals as goal

pub returns : goal.returns
returns c =
    let w = laid_of M _ c.requires.sound_table in
    let e = span_rank w _ _ c.nearest-near.ensures _ refl in
    record { value = e; within = omega (arith, e, rank_most w c.args.id) }
