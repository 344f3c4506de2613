-- `rounds::hand::hand_out`: a turn puts the table at one site more.
use Rattle.rounds.proofs.Handing.{hand_start, hand_more}
use Rattle.rounds.proofs.hand.hand_out.Goals as goal

pub loop-site-init : goal.loop-site-init
loop-site-init c = let a = c.args in hand_start a.run a.words.now a.all.now c.requires.sized c.requires.all_len

pub loop-site-preserved : goal.loop-site-preserved
loop-site-preserved c =
    let a = c.args in
    let l = c.loop-site in
    let p = c.part_of in
    hand_more a.run a.words.now a.all.now c.requires.sized c.requires.all_len l.site _ _ l.words _ l.invariant c.loop-site-test.true p.ensures.0 p.ensures.1 c.copy.ensures
