-- `rounds::level::level`: every table so far is that of site 0.
use Rattle.std.proofs.Common.{ℕ, ◌≡◌, ◌<◌}
use Rattle.rules.specs.meaning.States.{table_at}
use Rattle.rounds.proofs.level.level.Given as goal

abbrev pub invariant-loop-site : goal.invariant-loop-site
invariant-loop-site l = (k : ℕ) → k < l.site → table_at l.run l.words k ≡ table_at l.run l.words 0
