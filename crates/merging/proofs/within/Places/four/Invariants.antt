-- `merging::within::Places::four`: so many turns over common ids (`common`).
use Prim.Native.Nat.{◌+◌}
use mathlib.Core.Path.{◌≡◌}
use Rattle.merging.specs.Walks.{Filling}
use Rattle.merging.proofs.within.Places.four.Given as goal

abbrev pub invariant-loop : goal.invariant-loop
invariant-loop g l = record {
  own : l.left.own + l.counter ≡ l.initial.left.own;
  others : l.left.others + l.counter ≡ l.initial.left.others;
  place : l.left.place + l.counter ≡ l.initial.left.place;
  filling : Filling g.before l.self.to l.self.from l.self.wide l.words l.left.own l.left.others l.left.place;
}
