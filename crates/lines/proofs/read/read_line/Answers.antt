-- `lines::read::read_line`: `f` and `g` are what was read of the two further numbers.
use mathlib.Core.Path.{◌∙◌}
use Rattle.lines.proofs.Fields.{for_use}
use Rattle.lines.proofs.Readings.{line_kind, line_first, line_second, line_id, line_more, line_step, a_within, b_within, d_within}
use Rattle.lines.proofs.read.read_line.Goals as goal

pub returns-in_err-kind : goal.returns-in_err-kind
returns-in_err-kind c = c.from_residual.ensures ∙ line_kind _ c.in_err-kind.ensures

pub read_number-requires : goal.read_number-requires
read_number-requires c = a_within _ _ _ c.in_ok-kind.ensures

pub returns-in_err-first : goal.returns-in_err-first
returns-in_err-first c = c.from_residual-in_err-first.ensures ∙ line_first _ _ _ c.in_ok-kind.ensures c.in_err-first.ensures

pub read_field-requires : goal.read_field-requires
read_field-requires c = b_within _ _ _ c.in_ok-kind.ensures _ _ c.in_ok-first.ensures

pub returns-in_err-second : goal.returns-in_err-second
returns-in_err-second c =
    c.from_residual-in_err-second.ensures
    ∙ line_second _ _ _ c.in_ok-kind.ensures _ _ c.in_ok-first.ensures (for_use _ _ _ c.in_err-second.ensures c.has_second.ensures)

pub read_field-requires-2 : goal.read_field-requires-2
read_field-requires-2 c =
    let f = for_use _ _ _ c.in_ok-second.ensures c.has_second.ensures in
    d_within _ _ _ c.in_ok-kind.ensures _ _ c.in_ok-first.ensures _ _ f

pub returns-in_err-id : goal.returns-in_err-id
returns-in_err-id c =
    let f = for_use _ _ _ c.in_ok-second.ensures c.has_second.ensures in
    c.from_residual-in_err-id.ensures
    ∙ line_id _ _ _ c.in_ok-kind.ensures _ _ c.in_ok-first.ensures _ _ f (for_use _ _ _ c.in_err-id.ensures c.has_id.ensures)

pub returns-then-e-line : goal.returns-then-e-line
returns-then-e-line c =
    let f = for_use _ _ _ c.in_ok-second.ensures c.has_second.ensures in
    let g = for_use _ _ _ c.in_ok-id.ensures c.has_id.ensures in
    line_more _ _ _ c.in_ok-kind.ensures _ _ c.in_ok-first.ensures _ _ f _ _ g c.if-e-line.true

pub returns : goal.returns
returns c =
    let f = for_use _ _ _ c.in_ok-second.ensures c.has_second.ensures in
    let g = for_use _ _ _ c.in_ok-id.ensures c.has_id.ensures in
    line_step _ _ _ c.in_ok-kind.ensures _ _ c.in_ok-first.ensures _ _ f _ _ g c.if-e-line.false
