-- What the nine callees ensure, put together (`took`, `refused`).
use Rattle.std.proofs.lemmas.Result.{err_from_is_err_and}
use Rattle.rules.specs.meaning.Refusals.{number_in}
use Rattle.sites.proofs.Outcomes.{clear_ready, took, refused}
use Rattle.sites.proofs.lent.act.Goals as goal

pub decide-requires : goal.decide-requires
decide-requires c = clear_ready (number_in c.args.refused) c.args.run c.args.words.now c.args.slots.now c.args.ledger.now c.requires.0

pub returns-in_err-taken : goal.returns-in_err-taken
returns-in_err-taken c =
    let a = c.args in
    let p = err_from_is_err_and c.from_residual.result c.from_residual.ensures.1 in
    rw (p.1, p.2) (refused (number_in a.refused) a.run a.words.now a.slots.now a.ledger.now a.step c.slot_of.result c.read_slot-held.result c.needs_slot.result c.lowest_free-free.result c.link_of.result c.see-books.result
    c.requires.0 c.slot_of.ensures c.read_slot-held.ensures c.needs_slot.ensures c.lowest_free-free.ensures c.link_of.ensures c.see-books.ensures
    c.decide.result c.in_err-taken.field-0.0 _ (cc) c.decide.ensures.value c.decide.ensures.words_after)

pub returns : goal.returns
returns c =
    let a = c.args in
    took (number_in a.refused) a.run a.words.now a.slots.now a.ledger.now a.step c.slot_of.result c.read_slot-held.result c.needs_slot.result c.lowest_free-free.result c.link_of.result c.see-books.result
    c.requires.0 c.slot_of.ensures c.read_slot-held.ensures c.needs_slot.ensures c.lowest_free-free.ensures c.link_of.ensures c.see-books.ensures
    c.decide.result c.in_ok-taken.taken _ _ _ (cc) c.decide.ensures.value c.decide.ensures.words_after c.book.ensures.booked c.store_slot.ensures
