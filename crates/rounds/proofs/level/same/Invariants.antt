-- `rounds::level::same`. Kept by the loop: where all words so far were alike, the two tables are the same up to there.
use Rattle.std.proofs.Common.{◌≡◌, true, take}
use Rattle.rounds.proofs.level.same.Given as goal

abbrev pub invariant-loop-k : goal.invariant-loop-k
invariant-loop-k l = l.alike ≡ true → take l.k l.table ≡ take l.k l.other
