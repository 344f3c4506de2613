-- What the four callees ensure, put together: the judge before the step, and the step.
use Rattle.rules.specs.meaning.States.{lent}
use Rattle.rules.specs.meaning.Operations.{as_answer}
use Rattle.rules.specs.meaning.Refusals.{number_in}
use Rattle.std.proofs.Common.{sym, ◌∙◌}
use Rattle.rules.proofs.laws.run.Acts.{judged_sound}
use Rattle.sites.proofs.Outcomes.{judged_all, scanned_low, judged_step}
use Rattle.sites.proofs.lent.step.Goals as goal

pub act-requires : goal.act-requires
act-requires c =
    let a = c.args in
    let j = judged_all a.run a.words.now a.slots.now a.ledger.now c.scan_slots-scan.result c.see-books.result (number_in c.judge_seen-judged.result) c.scan_slots-scan.ensures c.see-books.ensures c.judge_seen-judged.ensures in
    (λ z. judged_sound a.run (lent a.words.now a.slots.now a.ledger.now) (sym j ∙ z), scanned_low a.run.sites a.slots.now c.scan_slots-scan.result c.scan_slots-scan.ensures)

pub returns : goal.returns
returns c =
    let a = c.args in
    judged_step a.run (lent a.words.now a.slots.now a.ledger.now) a.step (number_in c.judge_seen-judged.result) (as_answer c.act.result) (lent c.act.new.words c.act.new.slots c.act.new.ledger)
    (judged_all a.run a.words.now a.slots.now a.ledger.now c.scan_slots-scan.result c.see-books.result (number_in c.judge_seen-judged.result) c.scan_slots-scan.ensures c.see-books.ensures c.judge_seen-judged.ensures)
    c.act.ensures
