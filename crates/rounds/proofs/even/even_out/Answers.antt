-- `rounds::even::even_out`: words whose tables are equal already fit one together, and are level.
use Rattle.rounds.proofs.Levelling.{level_out}
use Rattle.rounds.proofs.even.even_out.Goals as goal

pub returns-then-level : goal.returns-then-level
returns-then-level c = level_out c.args.run c.args.words.now c.requires c.level.ensures c.if-level.true
