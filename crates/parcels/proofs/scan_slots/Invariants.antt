-- `parcels::scan_slots`: what is known so far, and then each slot that is left, make the scan of all slots.
use Rattle.std.proofs.Common.{◌≡◌, ◌≤◌, drop}
use Rattle.rules.specs.meaning.Lengths.{M}
use Rattle.rules.specs.meaning.Parcels.{scan_of}
use Rattle.parcels.proofs.TurnLaws.{after}
use Rattle.parcels.proofs.scan_slots.Given as goal

abbrev pub invariant-loop-at : goal.invariant-loop-at
invariant-loop-at l = record {
  so_far : after M l.sites (drop l.at l.slots) l.at l.s ≡ scan_of M l.sites l.slots;
  counted : l.s.waiting ≤ l.at;
}
