-- `lines::field::write_field`: where the kind uses the number, its digits stand behind its name.
use native.Mathlib.Omega.{arith}
use Rattle.lines.proofs.Fields.{field_yes, put_field}
use Rattle.lines.proofs.field.write_field.Goals as goal

pub returns : goal.returns
returns c = let s = c.args in
    let t = c.write_text-next in
    let w = c.write_number in
    let y = field_yes s.used s.name.now s.n c.if-not-used.false in (
      omega (arith, y, t.ensures.0, w.ensures.0),
      put_field s.used s.name.now s.n s.out.now t.new.out w.new.out s.place t.result c.if-not-used.false
          (omega (arith, y, c.requires)) t.ensures.1 t.ensures.0 w.ensures.1,
    )
