-- An id's length raised where the id stands, and where it stands nowhere.
-- Assumes nothing.
use Prim.Native.Nat.{ℕ, zero, suc, ◌+◌, ◌*◌, ◌≤◌, ◌<◌}
use native.Mathlib.Nat.{suc-ne-zero}
use native.Mathlib.Omega.{arith}
use mathlib.Core.Bool.{false}
use mathlib.Core.Path.{◌≡◌, refl, sym, ap, ◌∙◌}
use mathlib.Core.List.{List}
use mathlib.Core.Logic.{◌⊎◌, inl, inr}
use lib.ListN.{length, get_or, set}
use lib.Dec.{leb, ltb}
use borrow.Author.Tests.{lt-ltb, le-ltb, le-leb, lt-leb}
use Rattle.std.specs.Prelude.{Some, None}
use Rattle.rules.specs.meaning.Operations.{Answer}
use Rattle.rules.specs.meaning.Lengths.{M, after_remove}
use Rattle.rules.proofs.laws.Lengths.{remove_none, remove_rises}
use Rattle.rules.specs.meaning.Table.{SoundTable, capacity, length_at, length_of, held, found_of, raised, held_with}
use Rattle.rules.specs.meaning.Operations.{accepted, out_of_room, crowded, answer, unless_refused, length_refusal, raise_answer, raise_table, removed_length, remove_refusal, remove_answer, remove_table}
use Rattle.rules.proofs.laws.table.Order.{lt_or_le}
use Rattle.rules.proofs.laws.table.Update.{held_with_law, fitting_here}
use Rattle.rules.proofs.laws.table.Places.{laid_of, at_found, none_found}
use Rattle.rules.proofs.laws.table.Insert.{raised_set}
use Rattle.rules.proofs.laws.table.Operations.{raise_refused, raise_accepted}
use Rattle.table.specs.Loops.{LengthWord}

-- ---- the id stands at place i
module _ (t : List ℕ) (e i : ℕ) (ok : SoundTable t) (found : found_of t e ≡ Some i) where
  facts : (i < held t) × (get_or t (2 * i) 0 ≡ e) × (length_of t e ≡ length_at t i)
  facts = at_found (laid_of M t ok) e i found

  pub place : 2 * i + 1 < length t
  place = omega (arith, facts.0, (laid_of M t ok).room)

  pub its : length_at t i ≡ length_of t e
  its = sym facts.2

  pub above_zero : 1 ≤ length_of t e
  above_zero = omega (arith, facts.2, (laid_of M t ok).low i facts.0)

  pub length_word : LengthWord t e (2 * i + 1)
  length_word = record {
    within = place;
    its = its;
    above_zero = above_zero;
    raising = λ n pos. sym (raised_set M t ok e n i pos facts.0 facts.1);
  }

pub ruleset found = (place, its)

-- ---- the id's length stands in word w
module _ (t : List ℕ) (e w : ℕ) (ok : SoundTable t) (at : LengthWord t e w) where
  pub raise_here : (m n : ℕ) → m ≡ n → 1 ≤ n → (answer accepted m ≡ raise_answer t e n) × (set t w m ≡ raise_table t e n)
  raise_here m n q pos =
      let r = raise_accepted t e n (fitting_here M t e ok n (λ z. absurd (omega (arith, z, at.above_zero)))) in
      (rw q (sym r.0), rw q (at.raising n pos ∙ sym r.1))

  -- a remove that is accepted, by the answer of the rule on one length
  pub remove_here : (a : Answer) → a ≡ removed_length M (length_of t e) → a.refusal ≡ 0 → set t w a.value ≡ remove_table M t e
  unfolding removed_length remove_table remove_refusal
  remove_here a q z = go (length_refusal M (after_remove (length_of t e))) refl
    where
      go : (r : ℕ) → length_refusal M (after_remove (length_of t e)) ≡ r → set t w a.value ≡ unless_refused (length_refusal M (after_remove (length_of t e))) t (raised t e (after_remove (length_of t e)))
      go zero p =
          let v : a.value ≡ after_remove (length_of t e) = ap (λ (x : Answer). x.value) q ∙ (rw p) in
          rw (p, v) (at.raising (after_remove (length_of t e)) (omega (arith, at.above_zero, remove_rises (length_of t e))))
      go (suc r) p = absurd (suc-ne-zero r (sym (ap (λ (x : Answer). x.refusal) q ∙ (rw p)) ∙ z))

-- and one that is refused
pub remove_kept : (t : List ℕ) (e : ℕ) (a : Answer) → a ≡ removed_length M (length_of t e) → (a.refusal ≡ 0 → ⊥) → t ≡ remove_table M t e
unfolding removed_length remove_table remove_refusal
remove_kept t e a q h = go (length_refusal M (after_remove (length_of t e))) refl
  where
    go : (r : ℕ) → length_refusal M (after_remove (length_of t e)) ≡ r → t ≡ unless_refused (length_refusal M (after_remove (length_of t e))) t (raised t e (after_remove (length_of t e)))
    go zero p = absurd (h (ap (λ (x : Answer). x.refusal) q ∙ (rw p)))
    go (suc r) p = rw p

-- ---- the id stands nowhere
module _ (t : List ℕ) (e : ℕ) (ok : SoundTable t) (found : found_of t e ≡ None) where
  pub none : length_of t e ≡ 0
  none = none_found (laid_of M t ok) e found

-- a length that stays 0 makes no entry
module _ (t : List ℕ) (e : ℕ) (ok : SoundTable t) (none : length_of t e ≡ 0) where
  pub raise_none : (answer accepted 0 ≡ raise_answer t e 0) × (t ≡ raise_table t e 0)
  unfolding raised
  raise_none = let r = raise_accepted t e 0 (fitting_here M t e ok 0 (λ z. refl)) in (sym r.0, sym r.1)

  pub remove_absent : (answer accepted 0 ≡ remove_answer M t e) × (t ≡ remove_table M t e)
  unfolding removed_length remove_table remove_refusal raised
  remove_absent = rw (none, remove_none) (refl, refl)

-- ---- an id without an entry: the entries that it needs are one more
pub enter_full : (t : List ℕ) (e n : ℕ) → length_of t e ≡ 0 → 1 ≤ n → capacity t ≤ held t → (answer out_of_room n ≡ raise_answer t e n) × (t ≡ raise_table t e n)
enter_full t e n z pos full =
    let grows : held_with t e n ≡ suc (held t) = held_with_law t e n pos ∙ (rw z) in
    let r = raise_refused t e n (omega (arith, grows)) in
    (sym r.0, sym r.1)

pub enter_roomy : (t : List ℕ) (e n : ℕ) → length_of t e ≡ 0 → 1 ≤ n → held t < capacity t → (answer accepted n ≡ raise_answer t e n) × (raised t e n ≡ raise_table t e n)
enter_roomy t e n z pos roomy =
    let grows : held_with t e n ≡ suc (held t) = held_with_law t e n pos ∙ (rw z) in
    let r = raise_accepted t e n (omega (arith, grows)) in
    (sym r.0, sym r.1)

-- ---- whether a length needs a place that the table has not
pub room_here : (t : List ℕ) (e n : ℕ) → SoundTable t → (length_of t e ≡ 0 → n ≡ 0) → false ≡ crowded t (held_with t e n)
room_here t e n ok h = sym (le-ltb (capacity t) (held_with t e n) (fitting_here M t e ok n h))

pub room_new : (t : List ℕ) (e n k : ℕ) → length_of t e ≡ 0 → 1 ≤ n → k ≡ held t → leb (capacity t) k ≡ crowded t (held_with t e n)
room_new t e n k z pos q = rw (held_with_law t e n pos, z, q) (go (lt_or_le (capacity t) (suc (held t))))
  where
    go : (capacity t < suc (held t)) ⊎ (suc (held t) ≤ capacity t) → leb (capacity t) (held t) ≡ ltb (capacity t) (suc (held t))
    go (inl p) = rw (lt-ltb (capacity t) (suc (held t)) p, le-leb (capacity t) (held t) (omega arith))
    go (inr p) = rw (le-ltb (capacity t) (suc (held t)) p, lt-leb (capacity t) (held t) (omega arith))
