-- `rounds::lent::repair`: what is seen of the slots and of the ledger decides the round.
use Rattle.rules.specs.meaning.Operations.{as_answer}
use Rattle.rounds.proofs.Outcomes.{repaired}
use Rattle.rounds.proofs.lent.repair.Goals as goal

pub returns : goal.returns
returns c =
    let a = c.args in
    repaired a.run a.words.now a.slots.now a.ledger.now c.scan_slots-scan.result c.see-books.result (as_answer c.repair_seen.result) c.repair_seen.new.words c.scan_slots-scan.ensures c.see-books.ensures c.repair_seen.ensures
