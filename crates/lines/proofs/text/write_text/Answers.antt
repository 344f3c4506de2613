-- `lines::text::write_text`. Kept by the loop: j bytes of the text stand in the buffer.
use native.Mathlib.Omega.{arith}
use Rattle.lines.proofs.Spelling.{text_turn, text_done}
use Rattle.lines.proofs.text.write_text.Goals as goal

pub loop-j-preserved : goal.loop-j-preserved
loop-j-preserved c = let s = c.args in
    text_turn _ s.out.now s.place s.text.now c.loop-j.j c.loop-j.invariant (omega arith) c.loop-j-test.true

pub returns : goal.returns
returns c = (omega arith, text_done _ _ _ _ c.loop-j.j c.loop-j.invariant (omega arith))
