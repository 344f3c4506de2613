-- `rounds::hand::clear`. Kept by the loop: the words so far are those in front of the place and then unused ones, and the words are as many.
use Rattle.std.proofs.Common.{◌≡◌, ◌-◌, ◌++◌, length, take, replicate}
use Rattle.rounds.proofs.hand.clear.Given as goal

abbrev pub invariant-loop-k : goal.invariant-loop-k
invariant-loop-k l = (take l.k l.all ≡ take l.from l.initial.all ++ replicate (l.k - l.from) 0) × (length l.all ≡ length l.initial.all)
