-- `lines::area::write_word`: the bytes of the number stand in their part of the buffer.
use native.Mathlib.Omega.{arith}
use mathlib.Core.Path.{◌∙◌}
use Rattle.rules.proofs.laws.line.Area.{little_length}
use Rattle.lines.proofs.Areas.{word_bytes, put_part}
use Rattle.lines.proofs.area.write_word.Goals as goal

pub returns : goal.returns
returns c = put_part _ _ _ _ _ (c.copy_from_slice.ensures.after ∙ c.to_le_bytes.ensures ∙ word_bytes c.args.n) (omega (arith, little_length 8 c.args.n))
