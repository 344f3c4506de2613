-- `steps::posts::is_there`: what an occupied slot has.
use Rattle.std.proofs.Common.{sym, ◌∙◌}
use Rattle.rules.specs.meaning.Lengths.{M}
use Rattle.rules.proofs.laws.run.Slots.{occupied_has}
use Rattle.steps.proofs.posts.is_there.Goals as goal

pub returns-then-slot-seen-clause-site : goal.returns-then-slot-seen-clause-site
returns-then-slot-seen-clause-site c = λ h. (occupied_has M c.args.run.sites c.args.seen.named (sym c.is_occupied.ensures ∙ h)).2
