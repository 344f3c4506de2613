-- By the sizes (`Beginning`).
use Rattle.std.proofs.Common.{sym}
use Rattle.sites.proofs.Beginning.{begun, not_begun}
use Rattle.sites.proofs.lent.fresh.Goals as goal

pub returns-then-not-sizes_right : goal.returns-then-not-sizes_right
returns-then-not-sizes_right c =
    let a = c.args in not_begun a.run a.first a.words.now a.slots.now a.ledger.now (sym c.if-not-sizes_right.ensures)

pub returns : goal.returns
returns c =
    let a = c.args in
    begun a.run a.first a.words.now a.slots.now a.ledger.now (sym c.if-not-sizes_right.ensures) _ _ _ (c.fill.ensures.after (λ y e. e)) c.clear_slots.ensures c.start.ensures
