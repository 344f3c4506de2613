-- `table::judge::held`: what `used` says of a sound table.
use mathlib.Core.Path.{sym}
use Rattle.table.proofs.judge.held.Goals as goal

pub returns : goal.returns
returns c = sym (c.used.ensures.words_value c.requires)
