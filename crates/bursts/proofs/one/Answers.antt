-- `bursts::one`: below what the next step is told, no slot is free.
use Rattle.std.proofs.Common.{ℕ, ◌≤◌, sym, subst}
use Rattle.rules.specs.meaning.Operations.{as_answer}
use Rattle.rules.specs.meaning.Parcels.{lowest_free}
use Rattle.rules.specs.meaning.States.{lent}
use Rattle.rules.proofs.laws.run.Acts.{low_kept}
use Rattle.bursts.proofs.one.Goals as goal

pub returns-in-Some-clause-under : goal.returns-in-Some-clause-under
returns-in-Some-clause-under c =
    let a = c.args in
    let took = c.act-answer in
    subst (λ (m : ℕ). m ≤ lowest_free took.new.slots) (sym c.low_after.ensures) (low_kept a.run (lent a.words.now a.slots.now a.ledger.now) a.low.now c.requires.under 0 c.in-Some.step (as_answer took.result) _ took.ensures)
