-- What each step owes, row by row: the one proof of the laws of a run that goes over the steps.
-- Assumes nothing.
use Prim.Native.Nat.{ℕ, zero, suc, ◌≤◌, ◌<◌}
use Rattle.std.proofs.Common.{le_refl, le_trans, sym, ◌∙◌}
use native.Mathlib.Omega.{arith}
use Rattle.std.specs.Prelude.{Bool, true, ◌||◌, cond, ◌≡◌, set, eqb}
use Rattle.std.proofs.Math.Bool.{false, or-true}
use Rattle.std.proofs.Math.Path.{refl}
use mathlib.Core.List.{List, [], ◌∷◌, ◌++◌}
use Rattle.std.proofs.Math.ListN.{length, get_or}
use borrow.Author.Tests.{leb-false, lt-leb, ltb-true, eqb-true}
use Rattle.rules.specs.declared.Run.{Run}
use Rattle.rules.specs.declared.Parcel.{Parcel}
use Rattle.rules.specs.declared.Pair.{Pair}
use Rattle.rules.specs.declared.Ledger.{Ledger}
use Rattle.rules.specs.declared.Step.{Step}
use Rattle.rules.specs.declared.Step.TheVariants.{Add, Remove, Query, Send, Merge, Deliver, Again, Lose}
use Rattle.rules.specs.meaning.Lengths.{M, after_add, after_remove, join}
use Rattle.rules.proofs.laws.Lengths.{add_rises, remove_rises, remove_none}
use Rattle.rules.specs.meaning.Table.{sound, capacity, length_of, held_with, held_merged}
use Rattle.rules.proofs.laws.table.Law.{of_most}
use Rattle.rules.specs.meaning.Operations.{add_table, absorb_table, remove_table, merge_table}
use Rattle.rules.proofs.laws.table.Operations.{add_sound, add_of, absorb_sound, absorb_of, raise_length, remove_sound, remove_of, remove_length, merge_sound, merge_of, merge_length}
use Rattle.rules.specs.meaning.Parcels.{no_parcel, is_free, is_occupied, waiting, lowest_free}
use Rattle.rules.specs.meaning.Links.{no_link, no_pair, link_between, pair_sound, sent_pair, heard_pair, links_sound}
use Rattle.rules.specs.meaning.Ledgers.{counts_sound, booked_ledger, raised_if, sent_counter, copied_counter, absorbed_counter, lost_counter}
use Rattle.rules.specs.meaning.Refusals.{Test, ◌when◌, first_given}
use Rattle.rules.specs.meaning.Kinds.{numbers, slot_of, link_of}
use Rattle.rules.specs.meaning.States.{State, StateSound, table_at, with_table, parcel_at}
use Rattle.rules.specs.meaning.Steps.{Entry, entry_of, entries_of, ids_of, outside, effect, site_in}
use Rattle.rules.specs.meaning.Runs.{effect_of, refusal_of, value_of}
use Rattle.rules.specs.meaning.Acts.{low_taken}
use Rattle.rules.specs.meaning.Ids.{among}
use Rattle.rules.specs.meaning.Histories.{largest}
use Rattle.rules.proofs.laws.run.Slots.{occupied_by, occupied_has, occupied_not_free, set_slots_sound, waiting_taken, waiting_freed, lowest_free_law}
use Rattle.rules.proofs.laws.run.Ledgers.{Balanced, balanced, one_more_law, sent_sound, copied_sound, absorbed_sound, lost_sound}
use Rattle.rules.proofs.laws.run.Links.{set_links_sound, link_sound, heard_sound}
use Rattle.rules.proofs.laws.run.Steps.{past, none_given, neither, sound_judged, accepted_sound, add_own, remove_own, merge_own, send_own, deliver_own, again_own, lose_own}
use Rattle.rules.proofs.laws.run.Tables.{few_sites, site_sound, site_capacity, put_there, put_elsewhere, put_as_many, put_sound}
use Rattle.rules.proofs.laws.history.Pairs.{largest_pair, largest_entries}
use Rattle.rules.proofs.laws.history.Figure4.{add_fits, remove_fits, merge_taken, deliver_fits}
use Rattle.rules.proofs.laws.history.Climbing.{among_same}
use Rattle.rules.proofs.laws.history.Distinct.{among_left}
use Rattle.rules.proofs.laws.history.Held.{held_among, needed_for_one, needed_for_all}
use Rattle.rules.proofs.laws.run.Owed.{Gains, given_numbered, numbered, Counted, Owed, still, quiet}

-- ---- what the rows share
-- the test with the number is given, where no later one has it
pub given_by_law : (k n : ℕ) (b : Bool) (ts : List Test) → (first_given ts ≡ k → ⊥) → first_given ((n when b) ∷ ts) ≡ k → b ≡ true
unfolding first_given
given_by_law k n true ts later h = refl
given_by_law k n false ts later h = absurd (later h)

-- a sound table of the same length put in
module _ (run : Run) (s : State) (so : StateSound run s) (k : ℕ) (p : k < run.sites) (t : List ℕ) (ok : sound M t ≡ true) (size : length t ≡ length (table_at run s.words k)) where
  pub put_in : (given : List Entry) (offer : List ℕ)
      → ((e : ℕ) → length_of t e ≡ join (length_of (table_at run s.words k) e) (largest given e))
      → ((x : ℕ) → 1 ≤ largest given x → among x (offer ++ ids_of (table_at run s.words k)) ≡ true)
      → Gains run s.words k record { site = k; given = given; offer = offer; words = with_table run s.words k t }
  put_in given offer of off = record {
    as_many = put_as_many run s so k p t size;
    all_sound_law = put_sound run s so k p t size ok;
    others = put_elsewhere run s so k p t size;
    joined = λ e. rw (put_there run s so k p t size) (of e);
    offered = off;
  }

-- one id's length raised to its join with m is the join with the pair (x, m)
one_joined : (x e n m v : ℕ) → (x ≡ e → v ≡ join n m) → cond (eqb x e) v n ≡ join n (largest (entry_of x m) e)
one_joined x e n m v h = rw (largest_pair x m e) (go (eqb x e) refl)
  where
    go : (b : Bool) → eqb x e ≡ b → cond b v n ≡ join n (cond b m 0)
    go true q = h (eqb-true x e q)
    go false q = omega arith

-- a pair that is given has its id and a length
pair_given : (e n x : ℕ) → 1 ≤ largest (entry_of e n) x → (e ≡ x) × (1 ≤ n)
pair_given e n x h = go (eqb e x) refl (rw (largest_pair e n x) at h)
  where
    go : (b : Bool) → eqb e x ≡ b → 1 ≤ cond b n 0 → (e ≡ x) × (1 ≤ n)
    go true q p = (eqb-true e x q, p)
    go false q p = absurd (omega arith)

-- a remove gives a length only where there was one
removed_held : (n : ℕ) → 1 ≤ after_remove n → 1 ≤ n
removed_held zero h = absurd (omega (arith, remove_none))
removed_held (suc n) h = omega arith

module _ (run : Run) (s : State) where
  books : (step : Step) → refusal_of run s step ≡ 0 → Balanced M (waiting s.slots) s.ledger.counts
  books step a = balanced M (waiting s.slots) s.ledger.counts (accepted_sound run s step a).3

  -- an occupied parcel stored in the lowest free slot
  stored : (step : Step) (p : Parcel) (l : Ledger) → refusal_of run s step ≡ 0 → lowest_free s.slots < length s.slots → is_occupied M run.sites p ≡ true
      → counts_sound M (suc (waiting s.slots)) l.counts ≡ true → links_sound run.sites l.pairs ≡ true → Counted run (set s.slots (lowest_free s.slots) p) l
  stored step p l h free o ok links =
      let so = accepted_sound run s step h in
      let good : is_free p || is_occupied M run.sites p ≡ true = rw o (or-true (is_free p)) in
      let n = waiting_taken s.slots (lowest_free s.slots) p free (lowest_free_law s.slots free) (occupied_not_free M run.sites p o) in
      (set_slots_sound M run.sites s.slots (lowest_free s.slots) p so.2 good, rw n ok, links)

  -- a slot freed where a parcel was
  emptied : (step : Step) (i : ℕ) (l : Ledger) → refusal_of run s step ≡ 0 → i < length s.slots → is_occupied M run.sites (parcel_at s i) ≡ true
      → ((v : ℕ) → suc v ≡ waiting s.slots → counts_sound M v l.counts ≡ true) → links_sound run.sites l.pairs ≡ true → Counted run (set s.slots i no_parcel) l
  unfolding is_free
  emptied step i l h p o ok links =
      let so = accepted_sound run s step h in
      let n = waiting_freed s.slots i no_parcel p (occupied_not_free M run.sites (parcel_at s i) o) refl in
      (set_slots_sound M run.sites s.slots i no_parcel so.2 refl, ok (waiting (set s.slots i no_parcel)) n, links)

  -- the links with a sound entry set, and with what a send and a delivery make of the entry of theirs
  links_kept : (step : Step) (link : ℕ) (p : Pair) → refusal_of run s step ≡ 0 → pair_sound p ≡ true → links_sound run.sites (set s.ledger.pairs link p) ≡ true
  links_kept step link p a ok = set_links_sound run.sites s.ledger.pairs link p (accepted_sound run s step a).4 ok

  entry_sound : (step : Step) (a b : ℕ) → refusal_of run s step ≡ 0 → a < run.sites → b < run.sites → (a ≡ b → ⊥)
      → pair_sound (get_or s.ledger.pairs (link_between run.sites a b) no_pair) ≡ true
  entry_sound step a b h la lb d =
      let so = accepted_sound run s step h in
      link_sound run.sites s.ledger.pairs a b (few_sites run _ _ so.0) la lb d so.4

  -- the lowest free slot is taken
  as_taken : (low : ℕ) → low ≤ lowest_free s.slots → (lowest_free s.slots ≤ lowest_free s.slots) × (lowest_free s.slots ≤ lowest_free s.slots)
  as_taken low under = (le_refl (lowest_free s.slots), le_refl (lowest_free s.slots))

  -- more than a table has room for is more than C
  pub more : StateSound run s → (k : ℕ) → k < run.sites → (n : ℕ) → capacity (table_at run s.words k) < n → run.capacity < n
  more ok k h n p = omega (arith, site_capacity run s ok k h)

  own_tests : StateSound run s → (step : Step) → refusal_of run s step ≡ 8 → first_given (effect_of run s step).tests ≡ 8
  own_tests ok step r = sym (sound_judged run s step ok) ∙ r

  -- ---- the rows
  pub owed : (step : Step) → Owed run s step
  unfolding numbered site_in effect slot_of numbers value_of low_taken raised_if link_of pair_sound
  owed (Add k e) = record {
    tests = refl;
    tables = record {
      gains = λ a.
          let so = accepted_sound run s (Add k e) a in
          let p = add_own run s k e a in
          let t = table_at run s.words k in
          let ok = site_sound run s so k p in
          let n : ℕ = after_add (length_of t e) in
          put_in run s so k p (add_table t e) (add_sound M refl t e ok) (raise_length M t e n ok) (entry_of e n) (e ∷ [])
          (λ x. add_of M refl t e ok (add_fits run s k e a) x ∙ one_joined e x (length_of t x) n n (λ q. rw q (omega (arith, (add_rises (length_of t x)).0))))
          (λ x g. rw (pair_given e n x g).0 (among_same x (ids_of t)));
      crowds = λ ok h r.
          let t = table_at run s.words k in
          let a = past 8 3 _ _ (omega arith) (own_tests ok (Add k e) r) in
          let n : ℕ = after_add (length_of t e) in
          let b : capacity t < held_with t e n = ltb-true _ _ (given_by_law 8 8 _ _ (none_given 8 (omega arith)) a.1) in
          more ok k h _ (le_trans b (needed_for_one M t (site_sound run s ok k h) e n));
    };
    parcels = quiet run s (Add k e) refl refl refl;
  }
  owed (Remove k e) = record {
    tests = refl;
    tables = record {
      gains = λ a.
          let so = accepted_sound run s (Remove k e) a in
          let p = remove_own run s k e a in
          let t = table_at run s.words k in
          let ok = site_sound run s so k p in
          let n : ℕ = after_remove (length_of t e) in
          put_in run s so k p (remove_table M t e) (remove_sound M t e ok) (remove_length M t e ok) (entry_of e n) []
          (λ x. remove_of M t e ok (remove_fits run s k e a) x ∙ one_joined e x (length_of t x) n n (λ q. rw q (omega (arith, (remove_rises (length_of t x)).0))))
          (λ x g. let c = pair_given e n x g in held_among M t ok x (rw c.0 at (removed_held (length_of t e) c.1)));
      crowds = λ ok h r. absurd (omega (arith, given_numbered 3 7 _ refl 7 (own_tests ok (Remove k e) r)));
    };
    parcels = quiet run s (Remove k e) refl refl refl;
  }
  owed (Query k e) = record {
    tests = refl;
    tables = still run s (Query k e) refl refl;
    parcels = quiet run s (Query k e) refl refl refl;
  }
  owed (Send f t e) = record {
    tests = refl;
    tables = still run s (Send f t e) refl refl;
    parcels = record {
      counted = λ a.
          let so = accepted_sound run s (Send f t e) a in
          let own = send_own run s f t e a in
          let table = site_sound run s so f own.0 in
          let link : ℕ = link_between run.sites f t in
          let q = get_or s.ledger.pairs link no_pair in
          let p : Parcel = record { site = t; id = e; length = length_of (table_at run s.words f) e; sender = f; serial = q.next } in
          stored (Send f t e) p (booked_ledger M sent_counter link (sent_pair q) s.ledger) a own.3
          (occupied_by M run.sites p own.2 (of_most M (table_at run s.words f) table e) own.1 own.0 own.5)
          (sent_sound M (waiting s.slots) s.ledger.counts so.3 own.4)
          (links_kept (Send f t e) link (sent_pair q) a (entry_sound (Send f t e) f t a own.0 own.1 own.5));
      earned = λ a. (one_more_law M s.ledger.counts.sent (books (Send f t e) a).sent_fits (send_own run s f t e a).4, refl, refl, refl);
      low = as_taken;
      link = refl;
      pair = refl;
      parcel = refl;
    };
  }
  owed (Again i) = record {
    tests = refl;
    tables = still run s (Again i) refl refl;
    parcels = record {
      counted = λ a.
          let so = accepted_sound run s (Again i) a in
          let own = again_own run s i a in
          stored (Again i) (parcel_at s i) (booked_ledger M copied_counter no_link no_pair s.ledger) a own.2 own.1 (copied_sound M (waiting s.slots) s.ledger.counts so.3 own.3)
          (links_kept (Again i) no_link no_pair a refl);
      earned = λ a. (refl, one_more_law M s.ledger.counts.copied (books (Again i) a).copied_fits (again_own run s i a).3, refl, refl);
      low = as_taken;
      link = refl;
      pair = refl;
      parcel = refl;
    };
  }
  owed (Deliver i) = record {
    tests = refl;
    tables = record {
      gains = λ a.
          let so = accepted_sound run s (Deliver i) a in
          let own = deliver_own run s i a in
          let q = parcel_at s i in
          let o = occupied_has M run.sites q own.1 in
          let t = table_at run s.words q.site in
          let ok = site_sound run s so q.site o.2 in
          let n : ℕ = join (length_of t q.id) q.length in
          put_in run s so q.site o.2 (absorb_table t q.id q.length) (absorb_sound M t q.id q.length o.1 ok) (raise_length M t q.id n ok) (entry_of q.id q.length) _
          (λ x. absorb_of M t q.id q.length o.1 ok (deliver_fits run s i a) x ∙ one_joined q.id x (length_of t x) q.length n (λ z. rw z))
          (λ x g. rw (lt-leb (length s.slots) i own.0, own.1, (pair_given q.id q.length x g).0) (among_same x (ids_of t)));
      crowds = λ ok h r.
          let p = parcel_at s i in
          let t = table_at run s.words p.site in
          let a = past 8 5 _ _ (omega arith) (own_tests ok (Deliver i) r) in
          let later = past 8 15 _ _ (omega arith) a.1 in
          let n : ℕ = join (length_of t p.id) p.length in
          let b : capacity t < held_with t p.id n = ltb-true _ _ (given_by_law 8 8 _ _ (λ q. none_given 8 (omega arith) (past 8 10 _ _ (omega arith) q).1) later.1) in
          rw a.0 (more ok p.site h _ (le_trans b (needed_for_one M t (site_sound run s ok p.site h) p.id n)));
    };
    parcels = record {
      counted = λ a.
          let so = accepted_sound run s (Deliver i) a in
          let own = deliver_own run s i a in
          let q = parcel_at s i in
          let o = occupied_has M run.sites q own.1 in
          let link : ℕ = link_between run.sites q.sender q.site in
          let p = heard_pair q.serial (get_or s.ledger.pairs link no_pair) in
          emptied (Deliver i) i (booked_ledger M absorbed_counter link p s.ledger) a own.0 own.1 (λ v e. absorbed_sound M (waiting s.slots) s.ledger.counts so.3 v e own.2)
          (links_kept (Deliver i) link p a (heard_sound q.serial _ (entry_sound (Deliver i) q.sender q.site a o.3 o.2 o.4)));
      earned = λ a. (refl, refl, one_more_law M s.ledger.counts.absorbed (books (Deliver i) a).absorbed_fits (deliver_own run s i a).2, refl);
      low = λ low under. (omega arith, omega arith);
      link = refl;
      pair = refl;
      parcel = refl;
    };
  }
  owed (Lose i) = record {
    tests = refl;
    tables = still run s (Lose i) refl refl;
    parcels = record {
      counted = λ a.
          let so = accepted_sound run s (Lose i) a in
          let own = lose_own run s i a in
          emptied (Lose i) i (booked_ledger M lost_counter no_link no_pair s.ledger) a own.0 own.1 (λ v e. lost_sound M (waiting s.slots) s.ledger.counts so.3 v e own.2)
          (links_kept (Lose i) no_link no_pair a refl);
      earned = λ a. (refl, refl, refl, one_more_law M s.ledger.counts.lost (books (Lose i) a).lost_fits (lose_own run s i a).2);
      low = λ low under. (omega arith, omega arith);
      link = refl;
      pair = refl;
      parcel = refl;
    };
  }
  owed (Merge f t) = record {
    tests = refl;
    tables = record {
      gains = λ a.
          let so = accepted_sound run s (Merge f t) a in
          let p = merge_own run s f t a in
          let from = table_at run s.words f in
          let to = table_at run s.words t in
          let from-ok = site_sound run s so f p.0 in
          let to-ok = site_sound run s so t p.1 in
          put_in run s so t p.1 (merge_table to from) (merge_sound M to from to-ok from-ok) (merge_length M to from to-ok from-ok) (entries_of from) (cond (outside run f) [] (ids_of from))
          (λ x. rw (largest_entries M from from-ok x) (merge_of M to from to-ok from-ok (merge_taken run s f t a) x))
          (λ x g. rw (lt-leb run.sites f p.0) (among_left (ids_of from) (ids_of to) x (held_among M from from-ok x (rw (largest_entries M from from-ok x) at g))));
      crowds = λ ok h r.
          let to = table_at run s.words t in
          let from = table_at run s.words f in
          let a = past 8 3 _ _ (omega arith) (own_tests ok (Merge f t) r) in
          let b = past 8 4 _ _ (omega arith) a.1 in
          let c : capacity to < held_merged to from = ltb-true _ _ (given_by_law 8 8 _ _ (none_given 8 (omega arith)) b.1) in
          let inside : outside run f ≡ false = (neither _ _ a.0).0 in
          rw (inside, ← needed_for_all M to from (site_sound run s ok t h) (site_sound run s ok f (leb-false _ _ inside))) (more ok t h _ c);
    };
    parcels = quiet run s (Merge f t) refl refl refl;
  }
