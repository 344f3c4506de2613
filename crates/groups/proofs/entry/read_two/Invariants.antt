-- `groups::entry::read_two`. Kept by the loop: reading what is left of the two numbers from here on ends as reading both from the first place does.
use Prim.Native.Nat.{◌-◌}
use mathlib.Core.Path.{◌≡◌}
use Rattle.groups.specs.Decoding.{last_two, two_at}
use Rattle.groups.proofs.entry.read_two.Given as goal

abbrev pub invariant-loop : goal.invariant-loop
invariant-loop l = last_two (2 - l.counter) l.bytes l.place l.first l.second ≡ two_at l.bytes l.at
