-- `rounds::hand::copy`. Kept by the loop: the words so far are those that are copied, and the words are as many.
use Rattle.std.proofs.Common.{◌≡◌, length, take}
use Rattle.rounds.proofs.hand.copy.Given as goal

abbrev pub invariant-loop-k : goal.invariant-loop-k
invariant-loop-k l = (take l.k l.to ≡ take l.k l.from) × (length l.to ≡ length l.initial.to)
