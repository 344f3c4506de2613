-- `members::one::is_member`: the length that the table has, and whether that is listed.
use mathlib.Core.Path.{ap, ◌∙◌}
use Rattle.rules.specs.meaning.Lengths.{listed}
use Rattle.members.proofs.one.is_member.Goals as goal

pub returns : goal.returns
returns c = c.listed.ensures ∙ ap listed c.query.ensures
