-- `lines::kind::read_kind`: too short a line, another lead, or the lead of the only kind that is left.
use mathlib.Core.Path.{ap, ◌∙◌}
use Rattle.rules.specs.meaning.Places.{text_at}
use Rattle.lines.proofs.Leads.{kind_short, kind_found, kind_other}
use Rattle.lines.proofs.kind.read_kind.Goals as goal

pub returns-then-line-lt7 : goal.returns-then-line-lt7
returns-then-line-lt7 c = kind_short _ c.if-line-lt7.true

pub returns-in_err-next : goal.returns-in_err-next
returns-in_err-next c = let k = c.only_kind-kind in
    c.from_residual.ensures ∙ kind_other _ k.result k.ensures.2 (c.in_err-next.ensures ∙ ap (text_at _ 0) c.lead.ensures)

pub returns : goal.returns
returns c = let k = c.only_kind-kind in
    kind_found _ k.result k.ensures.0 k.ensures.1 _ _ (c.in_ok-next.ensures ∙ ap (text_at _ 0) c.lead.ensures)
