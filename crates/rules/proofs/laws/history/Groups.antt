-- A group absorbed at a site: "all or none", by the paper's join, and it "returns how many lengths rose"; the parcels and the ledger stay.
-- Assumes nothing.
use Rattle.std.specs.Prelude.{ℕ, Bool, ◌≡◌, refl, List, [], eqb}
use native.Mathlib.Omega.{arith}
use Rattle.std.proofs.Math.Bool.{true, false, cond}
use Rattle.std.proofs.Common.{sym, ◌∙◌}
use Rattle.std.proofs.Math.Path.{ap}
use Rattle.rules.specs.declared.Run.{Run}
use Rattle.rules.specs.meaning.Lengths.{M, join}
use Rattle.rules.specs.meaning.Table.{length_of, held_merged, rises}
use Rattle.rules.specs.meaning.Operations.{accepted, room_refusal, merge_refusal, merge_table}
use Rattle.rules.specs.meaning.States.{State, table_at}
use Rattle.rules.specs.meaning.Steps.{entries_of}
use Rattle.rules.specs.meaning.Groups.{entries_in}
use Rattle.rules.specs.meaning.Events.{absorbs, outcome, refusal_for, after_event}
use Rattle.rules.specs.meaning.Histories.{length_in, largest}
use Rattle.rules.proofs.laws.group.Groups.{entries_sound}
use Rattle.rules.proofs.laws.table.Operations.{room_within, merge_accepted, merge_length}
use Rattle.rules.proofs.laws.run.Tables.{site_sound, put_there}
use Rattle.rules.proofs.laws.run.Events.{event_keeps, accepted_event_moves}
use Rattle.rules.proofs.laws.run.Happens.{event_owed, in_sound, site_in_law, taken}
use Rattle.rules.proofs.laws.history.Pairs.{largest_entries}
use Rattle.rules.proofs.laws.history.Rising.{merged_rises}

module _ (run : Run) (s : State) (k : ℕ) (bytes : List ℕ) where
  -- "the ledger doesn't count them": it, the slots and so every counter stay, whether the group is taken or refused
  pub absorb_leaves : ((after_event run s (absorbs k bytes)).slots ≡ s.slots) × ((after_event run s (absorbs k bytes)).ledger ≡ s.ledger)
  unfolding outcome
  absorb_leaves = event_keeps run s (absorbs k bytes) (λ u. (u.slots ≡ s.slots) × (u.ledger ≡ s.ledger)) (refl, refl) (λ _. (refl, refl))

  module _ (ok : refusal_for run s (absorbs k bytes) ≡ 0) where
    -- accepted, each entry is joined in at the site, and every other length stays
    pub absorb_joins : (j e : ℕ) → length_in run (after_event run s (absorbs k bytes)) j e ≡ cond (eqb k j) (join (length_in run s j e) (length_of (entries_in bytes) e)) (length_in run s j e)
    unfolding outcome largest
    absorb_joins j e = rw (accepted_event_moves run s (absorbs k bytes) ok) ((event_owed run s (absorbs k bytes)).joined ok j e ∙ go (eqb k j))
      where
        go : (b : Bool) → join (length_in run s j e) (largest (cond b (entries_of (entries_in bytes)) []) e) ≡ cond b (join (length_in run s j e) (length_of (entries_in bytes) e)) (length_in run s j e)
        go true = ap (join (length_in run s j e)) (largest_entries M (entries_in bytes) (entries_sound bytes) e)
        go false = omega arith

    abbrev own : List ℕ
    own = table_at run s.words k

    -- the table that it leaves there is that of a merge
    absorbed_table : table_at run (after_event run s (absorbs k bytes)).words k ≡ merge_table own (entries_in bytes)
    unfolding outcome
    absorbed_table =
        let so = in_sound run s k bytes ok in
        let inside = site_in_law run s k bytes ok in
        rw (accepted_event_moves run s (absorbs k bytes) ok)
        (put_there run s so k inside (merge_table own (entries_in bytes)) (merge_length M own (entries_in bytes) (site_sound run s so k inside) (entries_sound bytes)))

    fits : refusal_for run s (absorbs k bytes) ≡ 0 → room_refusal own (held_merged own (entries_in bytes)) ≡ accepted
    unfolding merge_refusal
    fits = taken run s k bytes

    -- what it returns is counted over the table that it leaves, against the one before
    pub absorb_rises : (outcome run s (absorbs k bytes)).value ≡ rises own (table_at run (after_event run s (absorbs k bytes)).words k)
    unfolding outcome
    absorb_rises =
        let so = in_sound run s k bytes ok in
        let fine = site_sound run s so k (site_in_law run s k bytes ok) in
        let room = room_within own (held_merged own (entries_in bytes)) (fits ok) in
        rw (absorbed_table, (merge_accepted own (entries_in bytes) room).1) (sym (merged_rises M own (entries_in bytes) fine (entries_sound bytes) room))
