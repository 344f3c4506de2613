-- By the rule on one length where the id stands, and by a new entry where it does not.
use Rattle.std.proofs.Common.{ap, ◌∙◌}
use Rattle.rules.specs.meaning.Lengths.{after_add}
use Rattle.rules.specs.meaning.Table.{length_of}
use Rattle.rules.proofs.laws.Lengths.{add_above_zero, add_none}
use Rattle.table.proofs.Raising.{raise_here}
use Rattle.table.proofs.raise.add.Goals as goal

pub returns-in_default : goal.returns-in_default
returns-in_default c =
    let one = ap after_add c.in_default.ensures ∙ add_none in
    record { value = rw one c.enter.ensures.value; table_after = rw one c.enter.ensures.table_after }

pub returns : goal.returns
returns c =
    let at = c.in-Some.ensures in
    let r = raise_here _ _ _ c.requires at _ _ (c.after_add-after.ensures ∙ ap after_add at.its) (add_above_zero (length_of c.args.table.now c.args.id)) in
    record { value = r.0; table_after = r.1 }
