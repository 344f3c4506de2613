-- `members::asked::fill`: one byte more a turn (`filled_more`).
use Rattle.std.proofs.Common.{arith}
use Rattle.members.proofs.Packing.{eightfold, filled_none, filled_more, filled_all}
use Rattle.members.proofs.asked.fill.Goals as goal

pub loop-i-init : goal.loop-i-init
loop-i-init c = filled_none _ _ _

pub eight-requires : goal.eight-requires
eight-requires c =
    let e = eightfold c.loop-i.i (omega arith) in
    record { sound_table = c.requires.0; first = rw e (omega arith); within = rw e (omega arith) }

pub loop-i-preserved : goal.loop-i-preserved
loop-i-preserved c =
    rw (c.eight.ensures, eightfold c.loop-i.i (omega arith)) (filled_more _ _ _ c.loop-i.i _ (omega arith) c.requires.2 c.loop-i.invariant)

pub returns : goal.returns
returns c = filled_all _ _ _ c.loop-i.i _ (omega arith) c.loop-i.invariant
