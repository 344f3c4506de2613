-- `lines::write::write_line`: `fill` says what the front of the buffer holds.
use mathlib.Core.Path.{refl, sym, ap, ◌∙◌}
use lib.ListN.{length}
use Rattle.rules.proofs.laws.line.Writing.{filled_part}
use Rattle.lines.proofs.write.write_line.Goals as goal

pub slice_bounds-result-end : goal.slice_bounds-result-end
slice_bounds-result-end c = c.fill-n.ensures.count ∙ sym (ap length (filled_part _ _ _ _ _ _ _ c.fill-n.ensures))

pub returns : goal.returns
returns c = (filled_part _ _ _ _ _ _ _ c.fill-n.ensures, refl)
