-- `intake::lent::absorb`: the slots are scanned, the ledger seen, and the words handed on to `absorb_seen`. All that is used of the three callees is what each ensures; `Outcomes` says what follows.
use Rattle.rules.specs.meaning.Operations.{as_answer}
use Rattle.intake.proofs.Outcomes.{absorbed}
use Rattle.intake.proofs.lent.absorb.Goals as goal

pub returns : goal.returns
returns c =
    let a = c.args in
    absorbed a.run a.words.now a.slots.now a.ledger.now a.site a.bytes.now c.scan_slots-scan.result c.see-books.result (as_answer c.absorb_seen.result) c.absorb_seen.new.words c.scan_slots-scan.ensures c.see-books.ensures c.absorb_seen.ensures
