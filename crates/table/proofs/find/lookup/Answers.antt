-- `table::find::lookup`: the id stands at the place where halving ends, or nowhere (`Span` of size 1).
use mathlib.Core.Path.{sym}
use Rattle.rules.specs.meaning.Lengths.{M}
use Rattle.rules.proofs.laws.table.Places.{laid_of, found_none}
use Rattle.table.proofs.Search.{span_found, span_none}
use native.Mathlib.Omega.{arith}
use Rattle.table.proofs.find.lookup.Goals as goal

pub returns-then-table-lt2 : goal.returns-then-table-lt2
returns-then-table-lt2 c =
    let w = laid_of M _ c.requires in
    sym (found_none w _ (λ i p q. omega (arith, w.room, c.if-table-lt2.true)))

pub returns-then-table-near : goal.returns-then-table-near
returns-then-table-near c = span_found (laid_of M _ c.requires) _ _ c.nearest-near.ensures c.if-table-near.true

pub returns-else-table-near : goal.returns-else-table-near
returns-else-table-near c = span_none (laid_of M _ c.requires) _ _ c.nearest-near.ensures c.if-table-near.false
