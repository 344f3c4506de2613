-- `leb::read::read_on`. Kept by the loop: reading on from the value and the place comes to what reading on from the first byte does.
use Prim.Native.Nat.{suc, ◌+◌, ◌^◌, ◌<◌}
use mathlib.Core.Path.{◌≡◌}
use Rattle.leb.specs.Places.{rest_at}
use Rattle.leb.proofs.read.read_on.Given as goal

abbrev pub invariant-loop-k : goal.invariant-loop-k
invariant-loop-k l = record {
  scaled : l.scale ≡ 128 ^ suc l.k;
  fits : l.value < l.scale;
  goes : rest_at l.bytes (l.from + l.k) l.value l.scale ≡ rest_at l.bytes l.from l.low 128;
}
