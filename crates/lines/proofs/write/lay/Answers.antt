-- `lines::write::lay`: four pieces put one behind the other make the line.
use native.Mathlib.Omega.{arith}
use mathlib.Core.Path.{ap, ◌∙◌}
use Rattle.rules.specs.meaning.Number.{digits}
use Rattle.rules.specs.meaning.Lines.{lead, to_name, id_name, field}
use Rattle.rules.specs.meaning.Put.{put}
use Rattle.lines.proofs.Fields.{used_length}
use Rattle.lines.proofs.Writings.{line_length, put_four, four_line}
use Rattle.lines.proofs.write.lay.Goals as goal

pub returns : goal.returns
returns c = let s = c.args in
    let l = c.write_lead-a in
    let n = c.write_number-b in
    let u = c.has_second in
    let f = c.write_field-d in
    let w = c.has_id in
    let g = c.write_field in
    let whole = four_line s.kind s.first s.second s.id u.result w.result u.ensures w.ensures in
    let total = line_length s.kind s.first s.second s.id in
    let second = used_length to_name s.second u.ensures in
    let third = used_length id_name s.id w.ensures in (
      omega (arith, total, second, third, l.ensures.0, n.ensures.0, f.ensures.0, g.ensures.0),
      put_four s.out.now (lead s.kind) (digits s.first) (field u.result to_name s.second) (field w.result id_name s.id) _ _ _ _ _ _ _
          (omega (arith, c.requires, total, second, third))
          l.ensures.1 l.ensures.0 n.ensures.1 n.ensures.0 f.ensures.1 f.ensures.0 g.ensures.1
          ∙ ap (put s.out.now 0) whole,
    )
