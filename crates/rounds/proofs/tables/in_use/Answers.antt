-- `rounds::tables::in_use`: the table is sound, and so its entries in use are no more than it has places.
use Rattle.std.proofs.Common.{sym, ap, arith}
use Rattle.rules.specs.meaning.Table.{held}
use Rattle.steps.proofs.Tables.{site_sound}
use Rattle.rounds.proofs.Joining.{used_few, used_long}
use Rattle.rounds.proofs.tables.in_use.Goals as goal

pub held-requires : goal.held-requires
held-requires c = let a = c.args in rw c.table_at-table.ensures.value (site_sound a.run a.words.now c.requires.ready a.site c.requires.inside)

pub overflow_mul-result : goal.overflow_mul-result
overflow_mul-result c =
    let a = c.args in
    omega (arith, c.held.ensures, ap held c.table_at-table.ensures.value, used_few a.run a.words.now c.requires.ready a.site c.requires.inside, c.requires.ready.sized.small)

pub slice_bounds-result-end : goal.slice_bounds-result-end
slice_bounds-result-end c =
    let a = c.args in
    sym (used_long a.run a.words.now c.requires.ready a.site c.requires.inside _ _ c.table_at-table.ensures.value c.held.ensures)

pub returns-clause-fits : goal.returns-clause-fits
returns-clause-fits c =
    let a = c.args in
    let long = used_long a.run a.words.now c.requires.ready a.site c.requires.inside _ _ c.table_at-table.ensures.value c.held.ensures in
    rw long (omega (arith, c.held.ensures, ap held c.table_at-table.ensures.value, used_few a.run a.words.now c.requires.ready a.site c.requires.inside), omega arith)
