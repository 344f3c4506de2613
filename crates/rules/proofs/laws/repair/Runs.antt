-- Repairs in a run: where what comes to each site fits it, every repair is accepted, and each site ends with the largest of the lengths that came to it; the slots
-- and the ledger stay.
-- Assumes nothing.
use Rattle.std.specs.Prelude.{ℕ, ◌≤◌, ◌<◌, Bool, true, false, cond, ◌≡◌, refl, length, eqb, ltb}
use Rattle.std.proofs.Common.{le_refl, le_trans, arith, ◌∙◌}
use mathlib.Core.List.{List, [], ◌∷◌, ◌++◌}
use Rattle.std.proofs.Math.Seq.{set_out}
use borrow.Author.Tests.{lt-leb, ltb-true, le-ltb, eqb-true, not-true}
use Rattle.rules.specs.declared.Run.{Run}
use Rattle.rules.specs.declared.Step.TheVariants.{Merge}
use Rattle.rules.specs.meaning.Lengths.{join}
use Rattle.rules.specs.meaning.Table.{SoundTable, length_of, held_merged}
use Rattle.rules.specs.meaning.Operations.{accepted, crowded, merge_refusal}
use Rattle.rules.specs.meaning.Parcels.{no_parcel}
use Rattle.rules.specs.meaning.Links.{no_link, no_pair}
use Rattle.rules.specs.meaning.Ledgers.{raised_if}
use Rattle.rules.specs.meaning.Refusals.{first_given}
use Rattle.rules.specs.meaning.States.{State, StateSound, table_at}
use Rattle.rules.specs.meaning.Steps.{effect}
use Rattle.rules.specs.meaning.Runs.{after}
use Rattle.rules.specs.meaning.Groups.{entries_in, forms_none}
use Rattle.rules.specs.meaning.Events.{takes, outcome, refusal_for, after_event}
use Rattle.rules.specs.meaning.Ids.{among, distinct}
use Rattle.rules.specs.meaning.Histories.{ran, is_accepted, length_in, largest}
use Rattle.rules.specs.meaning.Repairs.{entries_of_all, Repair, merging, absorbing, site_of, is_proper, are_proper, operation, operations, all_accepted, brings, having, has_after}
use Rattle.rules.proofs.laws.table.View.{parts}
use Rattle.rules.proofs.laws.table.Operations.{room_within}
use Rattle.rules.proofs.laws.group.Groups.{entries_sound}
use Rattle.rules.proofs.laws.run.Steps.{sound_judged}
use Rattle.rules.proofs.laws.run.Tables.{site_sound, site_length}
use Rattle.rules.proofs.laws.run.Events.{event_keeps}
use Rattle.rules.proofs.laws.run.Happens.{own_tests}
use Rattle.rules.proofs.laws.history.Figure4.{figure4_merge}
use Rattle.rules.proofs.laws.history.Groups.{absorb_leaves, absorb_joins}
use Rattle.rules.proofs.laws.history.Counting.{event_sound}
use Rattle.rules.proofs.laws.repair.Fits.{largest_first, largest_both, joined}
use Rattle.rules.proofs.laws.repair.Having.{having_there, after_grows}

-- ---- one repair
-- the words that it brings
abbrev source : Run → State → Repair → List ℕ
source run s (merging f t) = table_at run s.words f
source run s (absorbing t bytes) = entries_in bytes

-- a proper one is of a site of the run
proper_site : (run : Run) (r : Repair) → is_proper run r ≡ true → site_of r < run.sites
unfolding is_proper
proper_site run (merging f t) h = ltb-true _ _ (parts (ltb t run.sites) _ (parts (ltb f run.sites) _ h).1).0
proper_site run (absorbing t bytes) h = ltb-true _ _ (parts (ltb t run.sites) _ h).0

module _ (run : Run) (s : State) (so : StateSound run s) where
  abbrev own : Repair → List ℕ
  own r = table_at run s.words (site_of r)

  source_sound : (r : Repair) → is_proper run r ≡ true → SoundTable (source run s r)
  unfolding is_proper
  source_sound (merging f t) h = site_sound run s so f (ltb-true _ _ (parts (ltb f run.sites) _ h).0)
  source_sound (absorbing t bytes) h = entries_sound bytes

  roomy : (t u : List ℕ) → merge_refusal t u ≡ accepted → crowded t (held_merged t u) ≡ false
  unfolding merge_refusal
  roomy t u h = le-ltb _ _ (room_within t (held_merged t u) h)

  -- where the site has room it is accepted
  repair_accepted : (r : Repair) → is_proper run r ≡ true → merge_refusal (own r) (source run s r) ≡ accepted → refusal_for run s (operation r) ≡ 0
  unfolding is_proper refusal_for outcome effect first_given
  repair_accepted (merging f t) h room =
      let a = parts (ltb f run.sites) _ h in
      let b = parts (ltb t run.sites) _ a.1 in
      sound_judged run s (Merge f t) so ∙ (rw (lt-leb _ _ (ltb-true f run.sites a.0), lt-leb _ _ (ltb-true t run.sites b.0), not-true (eqb f t) b.1, roomy (own (merging f t)) (table_at run s.words f) room))
  repair_accepted (absorbing t bytes) h room =
      let a = parts (ltb t run.sites) _ h in
      own_tests run s t bytes so ∙ (rw (lt-leb _ _ (ltb-true t run.sites a.0), not-true (forms_none bytes) a.1, roomy (own (absorbing t bytes)) (entries_in bytes) room))

  -- and joins what it brings in at its site
  repair_joins : (r : Repair) → refusal_for run s (operation r) ≡ 0 → (k x : ℕ)
      → length_in run (after_event run s (operation r)) k x ≡ cond (eqb (site_of r) k) (join (length_in run s k x) (length_of (source run s r) x)) (length_in run s k x)
  unfolding refusal_for outcome after_event after
  repair_joins (merging f t) h = figure4_merge run s f t h
  repair_joins (absorbing t bytes) h = absorb_joins run s t bytes h

-- ---- what the sites hold
-- each site of the run holds the largest of what it is said to have
abbrev pub Holds : Run → State → (ℕ → List (List ℕ)) → Type 0
Holds run s has = (k : ℕ) → k < run.sites → (x : ℕ) → length_in run s k x ≡ largest (entries_of_all (has k)) x

module _ (run : Run) (s : State) (so : StateSound run s) (has : ℕ → List (List ℕ)) (holds : Holds run s has) where
  -- what a repair brings is what the first site has, or the group
  source_has : (r : Repair) → is_proper run r ≡ true → (x : ℕ) → length_of (source run s r) x ≡ largest (entries_of_all (brings has r)) x
  unfolding is_proper entries_of_all largest
  source_has (merging f t) h x = holds f (ltb-true _ _ (parts (ltb f run.sites) _ h).0) x
  source_has (absorbing t bytes) h x = omega (arith, largest_first (entries_in bytes) [] (entries_sound bytes) x)

  -- so after it the sites hold the largest of what they then have
  repair_holds : (r : Repair) → is_proper run r ≡ true → refusal_for run s (operation r) ≡ 0 → Holds run (after_event run s (operation r)) (having has r)
  repair_holds r h ok k l x = repair_joins run s so r ok k x ∙ go (eqb (site_of r) k)
    where
      go : (b : Bool) → cond b (join (length_in run s k x) (length_of (source run s r) x)) (length_in run s k x) ≡ largest (entries_of_all (cond b (has k ++ brings has r) (has k))) x
      go true = omega (arith, holds k l x, source_has r h x, largest_both (has k) (brings has r) x)
      go false = holds k l x

  -- and where what the site then has fits, it is accepted
  repair_fits : (ids : List ℕ) → distinct ids ≤ run.capacity → (r : Repair) → is_proper run r ≡ true → ((x : ℕ) → 1 ≤ largest (entries_of_all (having has r (site_of r))) x → among x ids ≡ true)
      → refusal_for run s (operation r) ≡ 0
  repair_fits ids few r h inside =
      let l = proper_site run r h in
      let own = table_at run s.words (site_of r) in
      let both : (x : ℕ) → largest (entries_of_all (having has r (site_of r))) x ≡ join (length_of own x) (length_of (source run s r) x) =
      λ x. rw (having_there has r) (omega (arith, holds (site_of r) l x, source_has r h x, largest_both (has (site_of r)) (brings has r) x)) in
      repair_accepted run s so r h (joined run.capacity ids few own (source run s r) (site_length run s so (site_of r) l, site_sound run s so (site_of r) l)
      (source_sound run s so r h) (λ x p. inside x (omega (arith, both x))) (λ x p. inside x (omega (arith, both x)))).taken

-- ---- some repairs, in order
-- accepted, they leave each site with the largest of what it then has
pub accepted_holds : (run : Run) (repairs : List Repair) (s : State) (has : ℕ → List (List ℕ)) → StateSound run s → Holds run s has → are_proper run repairs ≡ true
    → all_accepted run s (operations repairs) ≡ true → Holds run (ran run s (operations repairs)) (has_after has repairs)
unfolding are_proper all_accepted operations ran has_after
accepted_holds run [] s has so holds proper accepts = holds
accepted_holds run (r ∷ repairs) s has so holds proper accepts =
    let p = parts (is_proper run r) _ proper in
    let a = parts (is_accepted run s (operation r)) _ accepts in
    accepted_holds run repairs (after_event run s (operation r)) (having has r) (event_sound run s (operation r) so) (repair_holds run s so has holds r p.0 (eqb-true _ _ a.0)) p.1 a.1

-- each site of the run has no id but of some
abbrev InsideAll : Run → (ℕ → List ℕ) → (ℕ → List (List ℕ)) → Type 0
InsideAll run ids has = (k : ℕ) → k < run.sites → (x : ℕ) → 1 ≤ largest (entries_of_all (has k)) x → among x (ids k) ≡ true

-- where there is room for those that it has at the end, they are accepted
pub accept_all : (run : Run) (ids : ℕ → List ℕ) → ((k : ℕ) → k < run.sites → distinct (ids k) ≤ run.capacity) → (repairs : List Repair) (s : State) (has : ℕ → List (List ℕ))
    → StateSound run s → Holds run s has → are_proper run repairs ≡ true → InsideAll run ids (has_after has repairs) → all_accepted run s (operations repairs) ≡ true
unfolding are_proper all_accepted operations has_after
accept_all run ids few [] s has so holds proper inside = refl
accept_all run ids few (r ∷ repairs) s has so holds proper inside =
    let p = parts (is_proper run r) _ proper in
    let l = proper_site run r p.0 in
    let ok = repair_fits run s so has holds (ids (site_of r)) (few (site_of r) l) r p.0 (λ x some. inside (site_of r) l x (le_trans some (after_grows repairs (having has r) (site_of r) x))) in
    rw ok (accept_all run ids few repairs (after_event run s (operation r)) (having has r) (event_sound run s (operation r) so) (repair_holds run s so has holds r p.0 ok) p.1 inside)

-- ---- the slots and the ledger stay, in a ledger of 256 entries, as its type has it
repair_leaves : (run : Run) (s : State) → length s.ledger.pairs ≡ 256 → (r : Repair) → ((after_event run s (operation r)).slots ≡ s.slots) × ((after_event run s (operation r)).ledger ≡ s.ledger)
unfolding outcome effect raised_if
repair_leaves run s whole (merging f t) = event_keeps run s (takes (Merge f t)) (λ u. (u.slots ≡ s.slots) × (u.ledger ≡ s.ledger)) (refl, refl)
    (λ _. rw (set_out s.slots (length s.slots) no_parcel (le_refl (length s.slots)), set_out s.ledger.pairs no_link no_pair (omega (arith, whole))) (refl, refl))
repair_leaves run s whole (absorbing t bytes) = absorb_leaves run s t bytes

pub repairs_leave : (run : Run) (repairs : List Repair) (s : State) → length s.ledger.pairs ≡ 256
    → ((ran run s (operations repairs)).slots ≡ s.slots) × ((ran run s (operations repairs)).ledger ≡ s.ledger)
unfolding ran operations
repairs_leave run [] s whole = (refl, refl)
repairs_leave run (r ∷ repairs) s whole =
    let one = repair_leaves run s whole r in
    let rest = repairs_leave run repairs (after_event run s (operation r)) (rw one.1 whole) in
    (rest.0 ∙ one.0, rest.1 ∙ one.1)
