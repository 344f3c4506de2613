-- By the rule on one length where the id stands, and nothing where it does not.
use Rattle.std.proofs.Common.{Ok, Err, refl, sym, ap, ◌∙◌, arith}
use Rattle.rules.specs.meaning.Lengths.{M}
use Rattle.rules.specs.meaning.Operations.{removed_length, as_answer}
use Rattle.rules.proofs.laws.Determined.{numbered}
use Rattle.table.proofs.Raising.{its, length_word, none, remove_here, remove_kept, remove_absent}
use Rattle.table.proofs.raise.remove.Goals as goal

pub returns-in_default : goal.returns-in_default
returns-in_default c =
    let r = remove_absent _ _ c.requires (none _ _ c.requires (sym c.in_default.ensures)) in
    record { value = r.0; table_after = r.1 }

pub returns : goal.returns
returns c =
    let at = length_word _ _ _ c.requires (sym c.in-Some.ensures) in
    let told = c.in_ok-unlisted.ensures ∙ ap (removed_length M) at.its in
    record { value = told; table_after = remove_here _ _ _ c.requires at (as_answer (Ok c.in_ok-unlisted.unlisted)) told refl }

pub returns-in_err-unlisted-clause-table_after : goal.returns-in_err-unlisted-clause-table_after
returns-in_err-unlisted-clause-table_after c =
    let refused = Err c.in_err-unlisted.field-0.0 in
    let above = numbered c.in_err-unlisted.field-0.0 in
    remove_kept _ _ (as_answer refused) (c.in_err-unlisted.ensures ∙ ap (removed_length M) (its _ _ _ c.requires (sym c.in-Some.ensures))) (λ z. omega (arith, z))
