-- `groups::bytes::lay_entries`: kept by the loop is `Filling`.
use Prim.Native.Nat.{◌+◌}
use Rattle.groups.proofs.Fillings.{Filling}
use Rattle.groups.proofs.bytes.lay_entries.Given as goal

abbrev pub invariant-loop-k : goal.invariant-loop-k
invariant-loop-k l = Filling l.bytes l.at l.count l.words l.place (l.before + l.step) l.k
