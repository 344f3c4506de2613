-- `tally::counting::Both::eight`: the turns by value (`Turns`), eight of them.
use native.Mathlib.Omega.{arith}
use Rattle.rules.specs.meaning.Lengths.{M}
use Rattle.rules.proofs.laws.table.Places.{laid_of}
use Rattle.tally.proofs.Joint.{turns_none, turned, turns_done}
use Rattle.tally.proofs.counting.Both.eight.Goals as goal

pub loop-init : goal.loop-init
loop-init c =
    let both = c.args.self in
    turns_none (laid_of M _ both.sound_table) (laid_of M _ both.sound_entries) c.requires.walk

pub loop-preserved : goal.loop-preserved
loop-preserved c =
    let both = c.args.self in
    let p = c.pass-now in
    turned (laid_of M _ both.sound_table) (laid_of M _ both.sound_entries) _ _ _ _ _ _ _ _ _ c.loop.invariant (omega arith) (omega arith) p.result.own p.result.others p.result.mine p.result.id p.result.rises p.ensures.own_value p.ensures.own_value_2 p.ensures.own_value_3 p.ensures.own_bound.2

pub returns-clause-walk_2 : goal.returns-clause-walk_2
returns-clause-walk_2 c =
    let both = c.args.self in
    turns_done (laid_of M _ both.sound_table) (laid_of M _ both.sound_entries) 8 c.loop.invariant (omega arith)
