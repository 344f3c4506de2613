-- Kept by the loop: the asks that are left, from the state and the answers as they are now, come to what all of them come to from the state and the answers
-- that were lent; the state is sound, and no slot below `low` is free.
use Rattle.std.proofs.Common.{◌-◌, ◌≡◌, ◌≤◌, length}
use Rattle.rules.specs.meaning.Parcels.{lowest_free}
use Rattle.rules.specs.meaning.States.{lent, StateSound}
use Rattle.bursts.proofs.Turns.{asks_from, left_by, said_by}
use Rattle.bursts.proofs.burst.Given as goal

abbrev pub invariant-loop-i : goal.invariant-loop-i
invariant-loop-i l = record {
  under : l.low ≤ lowest_free l.slots;
  sound : StateSound l.run (lent l.words l.slots l.ledger);
  left : left_by l.run (lent l.words l.slots l.ledger) (asks_from l.asks l.i (l.n - l.i)) ≡ left_by l.run (lent l.initial.words l.initial.slots l.initial.ledger) (asks_from l.asks 0 l.n);
  said : said_by l.run (lent l.words l.slots l.ledger) (asks_from l.asks l.i (l.n - l.i)) l.i l.answers ≡ said_by l.run (lent l.initial.words l.initial.slots l.initial.ledger) (asks_from l.asks 0 l.n) 0 l.initial.answers;
  long : length l.answers ≡ length l.initial.answers;
}
