-- `lines::text::write_text`. Kept by the loop: j bytes of the text stand in the buffer.
use mathlib.Core.Path.{◌≡◌}
use lib.Seq.{paste}
use Rattle.lines.proofs.text.write_text.Given as goal

abbrev pub invariant-loop-j : goal.invariant-loop-j
invariant-loop-j l = l.out ≡ paste l.initial.out l.place l.text l.j
