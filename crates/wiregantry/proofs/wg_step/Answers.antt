-- By what the four numbers name: a step, and what it does; or none.
use Rattle.std.proofs.Common.{sym}
use Rattle.rules.specs.meaning.Operations.{as_answer}
use Rattle.rules.specs.meaning.States.{lent}
use Rattle.wiregantry.proofs.Outcomes.{called_none, called}
use Rattle.wiregantry.proofs.wg_step.Goals as goal

pub returns-in_default : goal.returns-in_default
returns-in_default c =
    let a = c.args in
    called_none (record { sites = a.sites; capacity = a.capacity }) (lent a.words.now a.slots.now a.ledger.now) a.kind a.first a.second a.id (sym c.in_default.ensures)

pub returns : goal.returns
returns c =
    let a = c.args in
    let done = called (record { sites = a.sites; capacity = a.capacity }) (lent a.words.now a.slots.now a.ledger.now) a.kind a.first a.second a.id c.in-Some.step (as_answer c.step.result)
    (lent c.step.new.words c.step.new.slots c.step.new.ledger) (sym c.in-Some.ensures) c.step.ensures in
    rw (c.hand_over.ensures.number, c.hand_over.ensures.value) done
