-- `leb::write::write_leb`. Kept by the loop: with the bytes of the rest put from the place on, the buffer is what it is to be in the end.
use Prim.Native.Nat.{◌+◌}
use mathlib.Core.Path.{◌≡◌}
use lib.ListN.{length}
use Rattle.rules.specs.meaning.Leb.{leb128}
use Rattle.rules.specs.meaning.Put.{put}
use Rattle.leb.proofs.write.write_leb.Given as goal

abbrev pub invariant-loop-rest : goal.invariant-loop-rest
invariant-loop-rest l = record {
  goes : put l.out l.i (leb128 l.rest) ≡ put l.initial.out l.place (leb128 l.n);
  many : l.i + length (leb128 l.rest) ≡ l.place + length (leb128 l.n);
}

abbrev pub decreases-loop-rest : goal.decreases-loop-rest
decreases-loop-rest l = l.rest
