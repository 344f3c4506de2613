-- `merging::within::Places::eight`: each turn's outcome is told by the two ids (`settled`), and the ids that are read ahead are the last ones left (`ahead`).
use Prim.Native.Nat.{◌+◌, ◌-◌, ◌≤◌}
use mathlib.Core.Path.{◌≡◌}
use Rattle.rules.specs.meaning.Table.{id_at}
use Rattle.merging.specs.Walks.{Filling, part_at}
use Rattle.merging.proofs.within.Places.eight.Given as goal

abbrev pub invariant-loop : goal.invariant-loop
invariant-loop g l = record {
  own : l.initial.left.own ≤ l.left.own + l.counter;
  others : l.initial.left.others ≤ l.left.others + l.counter;
  place : l.left.place + l.counter ≡ l.initial.left.place;
  filling : Filling g.before l.self.to l.self.from l.self.wide l.words l.left.own l.left.others l.left.place;
  mine : l.mine ≡ id_at (part_at g.before l.self.to l.self.wide) (l.left.own - 1);
  under : l.under ≡ id_at (part_at g.before l.self.to l.self.wide) (l.left.own - 2);
  last : l.last ≡ id_at (part_at g.before l.self.from l.self.wide) (l.left.others - 1);
  next : l.next ≡ id_at (part_at g.before l.self.from l.self.wide) (l.left.others - 2);
}
