-- `report::said::write_accepted`: a query, or nothing.
use Rattle.std.proofs.Common.{refl, sym}
use Rattle.report.proofs.Left.{room_as, laid_as, laid_nothing}
use Rattle.report.proofs.Words.{asked_by, not_query}
use Rattle.report.proofs.said.write_accepted.Goals as goal

pub returns-in_default : goal.returns-in_default
returns-in_default c = let s = c.args in laid_nothing (not_query s.line s.step s.value c.in_default.not-Query)

pub write_query-requires : goal.write_query-requires
write_query-requires c = let s = c.args in room_as s.place s.out.now (asked_by 0 s.line s.step _ _ s.value refl c.in-Query.is) c.requires

pub returns : goal.returns
returns c = let s = c.args in laid_as (sym (asked_by 0 s.line s.step _ _ s.value refl c.in-Query.is)) c.write_query.ensures
