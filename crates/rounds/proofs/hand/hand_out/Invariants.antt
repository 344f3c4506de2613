-- `rounds::hand::hand_out`. Kept by the loop: the table stands at every site so far, and what is behind is as it was.
use Rattle.rounds.proofs.Handing.{Handed}
use Rattle.rounds.proofs.hand.hand_out.Given as goal

abbrev pub invariant-loop-site : goal.invariant-loop-site
invariant-loop-site l = Handed l.run l.initial.words l.all l.site l.words
