-- What each operation does to a sound table: when it is refused, that the table stays sound and of one size, what its lengths become
-- (the paper's right-hand sides), and how many entries it then has.
-- Assumes nothing.
use Prim.Native.Nat.{ℕ, zero, suc, ◌+◌, ◌%◌, ◌≤◌, ◌<◌}
use Rattle.std.proofs.Common.{suc-ne-zero, arith, ◌∙◌}
use Rattle.std.specs.Prelude.{Bool, cond, ◌≡◌, List, eqb, ltb}
use Rattle.std.proofs.Math.Bool.{true, false}
use Rattle.std.proofs.Math.Path.{refl}
use Rattle.std.proofs.Math.ListN.{length}
use borrow.Author.Tests.{lt-ltb, le-ltb, ltb-false, ne_eqb}
use Rattle.rules.specs.meaning.Lengths.{M, after_add, after_remove, join, runs_out}
use Rattle.rules.proofs.laws.Lengths.{add_rises, add_fits, remove_rises, remove_none, remove_runs_out, join_upper, join_least}
use Rattle.rules.specs.meaning.Table.{sound, capacity, length_of, held, raised, held_with, merged, new_ids, rises, held_merged}
use Rattle.rules.specs.meaning.Operations.{accepted, out_of_lengths, out_of_room, answer, unless_refused, room_refusal, raise_refusal, raise_answer, raise_table, add_table, absorb_table, remove_refusal, remove_table, merge_refusal, merge_answer, merge_table}
use Rattle.rules.proofs.laws.table.Law.{of_most}
use Rattle.rules.proofs.laws.table.Update.{Fitting, raised_length, raised_sound, raised_of, raised_held, fitting_here}
use Rattle.rules.proofs.laws.table.Merge.{Merged, merged_of}

-- ---- refused for lack of room exactly where more entries are needed than the table has room for
pub room_accepted : (t : List ℕ) (k : ℕ) → k ≤ capacity t → room_refusal t k ≡ accepted
room_accepted t k h = rw (le-ltb (capacity t) k h)

pub room_refused : (t : List ℕ) (k : ℕ) → capacity t < k → room_refusal t k ≡ out_of_room
room_refused t k h = rw (lt-ltb (capacity t) k h)

pub room_within : (t : List ℕ) (k : ℕ) → room_refusal t k ≡ accepted → k ≤ capacity t
room_within t k h = go (ltb (capacity t) k) refl
  where
    go : (b : Bool) → ltb (capacity t) k ≡ b → k ≤ capacity t
    go true e = absurd (suc-ne-zero 7 (rw e at h))
    go false e = ltb-false (capacity t) k e

-- ---- accepted and refused: the answer, and what is left in the table
module _ (t : List ℕ) (e n : ℕ) where
  pub raise_refused : capacity t < held_with t e n → (raise_answer t e n ≡ answer out_of_room n) × (raise_table t e n ≡ t)
  unfolding raise_answer raise_table raise_refusal
  raise_refused h = rw (room_refused t (held_with t e n) h) (refl, refl)

  pub raise_accepted : held_with t e n ≤ capacity t → (raise_answer t e n ≡ answer accepted n) × (raise_table t e n ≡ raised t e n)
  unfolding raise_answer raise_table raise_refusal
  raise_accepted h = rw (room_accepted t (held_with t e n) h) (refl, refl)

module _ (t s : List ℕ) where
  pub merge_refused : capacity t < held_merged t s → (merge_answer t s ≡ answer out_of_room (rises t s)) × (merge_table t s ≡ t)
  unfolding merge_answer merge_table merge_refusal
  merge_refused h = rw (room_refused t (held_merged t s) h) (refl, refl)

  pub merge_accepted : held_merged t s ≤ capacity t → (merge_answer t s ≡ answer accepted (rises t s)) × (merge_table t s ≡ merged t s)
  unfolding merge_answer merge_table merge_refusal
  merge_accepted h = rw (room_accepted t (held_merged t s) h) (refl, refl)

-- ---- what holds of the table before and of the table after holds of what an operation leaves
pub unless_keeps : (P : List ℕ → Type 0) (r : ℕ) {t u : List ℕ} → P t → (r ≡ accepted → P u) → P (unless_refused r t u)
unless_keeps P zero p q = q refl
unless_keeps P (suc r) p q = p

-- ---- an id's length raised to n, which is not below the one that it has
module _ (most : ℕ) (t : List ℕ) (e n : ℕ) (ok : sound most t ≡ true) where
  fitting : raise_refusal t e n ≡ accepted → Fitting t e n
  unfolding raise_refusal
  fitting h = room_within t (held_with t e n) h

  pub raise_sound : n ≤ most → sound most (raise_table t e n) ≡ true
  unfolding raise_table
  raise_sound h = unless_keeps (λ u. sound most u ≡ true) (raise_refusal t e n) ok (λ a. raised_sound most t e ok n h)

  pub raise_length : length (raise_table t e n) ≡ length t
  unfolding raise_table
  raise_length = unless_keeps (λ u. length u ≡ length t) (raise_refusal t e n) refl (λ a. raised_length t e n)

  pub raise_of : length_of t e ≤ n → raise_refusal t e n ≡ accepted → (y : ℕ) → length_of (raise_table t e n) y ≡ cond (eqb e y) n (length_of t y)
  unfolding raise_table
  raise_of h a y = rw a (raised_of most t e ok n h (fitting a) y)

  pub raise_held : raise_refusal t e n ≡ accepted → held (raise_table t e n) ≡ held_with t e n
  unfolding raise_table
  raise_held a = rw a (raised_held most t e ok n (fitting a))

-- ---- add, over an odd largest length: "only a remove can run out of lengths"
module _ (most : ℕ) (odd : most % 2 ≡ 1) (t : List ℕ) (e : ℕ) (ok : sound most t ≡ true) where
  pub add_sound : sound most (add_table t e) ≡ true
  add_sound = raise_sound most t e (after_add (length_of t e)) ok (add_fits most (length_of t e) (of_most most t ok e) odd)

  -- s{e ↦ s(e) + 1} if even(s(e)), s if odd(s(e))
  pub add_of : raise_refusal t e (after_add (length_of t e)) ≡ accepted → (y : ℕ) → length_of (add_table t e) y ≡ cond (eqb e y) (after_add (length_of t e)) (length_of t y)
  add_of a y = raise_of most t e (after_add (length_of t e)) ok (add_rises (length_of t e)).0 a y

-- ---- absorb
module _ (most : ℕ) (t : List ℕ) (e n : ℕ) (fits : n ≤ most) (ok : sound most t ≡ true) where
  pub absorb_sound : sound most (absorb_table t e n) ≡ true
  absorb_sound = raise_sound most t e (join (length_of t e) n) ok (join_least (length_of t e) n most (of_most most t ok e) fits)

  -- the join with the single entry (e, n)
  pub absorb_of : raise_refusal t e (join (length_of t e) n) ≡ accepted → (y : ℕ) → length_of (absorb_table t e n) y ≡ cond (eqb e y) (join (length_of t e) n) (length_of t y)
  absorb_of a y = raise_of most t e (join (length_of t e) n) ok (join_upper (length_of t e) n).0 a y

-- ---- remove
module _ (most : ℕ) (t : List ℕ) (e : ℕ) (ok : sound most t ≡ true) where
  after : ℕ
  after = after_remove (length_of t e)

  within : remove_refusal most t e ≡ accepted → after ≤ most
  unfolding remove_refusal after
  within h = go (runs_out most (after_remove (length_of t e))) refl
    where
      go : (b : Bool) → runs_out most (after_remove (length_of t e)) ≡ b → after_remove (length_of t e) ≤ most
      go true q = absurd (suc-ne-zero 6 (rw q at h))
      go false q = ltb-false most (after_remove (length_of t e)) q

  -- an id without an entry gets none, so a remove needs no room
  pub remove_fitting : Fitting t e (after_remove (length_of t e))
  remove_fitting = fitting_here most t e ok (after_remove (length_of t e)) (λ z. rw z remove_none)

  pub remove_sound : sound most (remove_table most t e) ≡ true
  unfolding remove_table after
  remove_sound = unless_keeps (λ u. sound most u ≡ true) (remove_refusal most t e) ok (λ a. raised_sound most t e ok after (within a))

  pub remove_length : length (remove_table most t e) ≡ length t
  unfolding remove_table
  remove_length = unless_keeps (λ u. length u ≡ length t) (remove_refusal most t e) refl (λ a. raised_length t e (after_remove (length_of t e)))

  -- s if even(s(e)), s{e ↦ s(e) + 1} if odd(s(e))
  pub remove_of : remove_refusal most t e ≡ accepted → (y : ℕ) → length_of (remove_table most t e) y ≡ cond (eqb e y) (after_remove (length_of t e)) (length_of t y)
  unfolding remove_table
  remove_of a y = rw a (raised_of most t e ok (after_remove (length_of t e)) (remove_rises (length_of t e)).0 remove_fitting y)

  pub remove_held : held (remove_table most t e) ≡ held t
  unfolding remove_table held_with
  remove_held = unless_keeps (λ u. held u ≡ held t) (remove_refusal most t e) refl (λ a. raised_held most t e ok (after_remove (length_of t e)) remove_fitting ∙ go (length_of t e) refl)
    where
      go : (k : ℕ) → length_of t e ≡ k → held_with t e (after_remove (length_of t e)) ≡ held t
      go zero q = rw (q, remove_none)
      go (suc k) q = by (after_remove (length_of t e))
        where
          by : (n : ℕ) → held_with t e n ≡ held t
          by zero = refl
          by (suc n) = rw (ne_eqb (length_of t e) 0 (λ z. omega (arith, z, q)))

-- "7: remove at length M", exactly then
pub remove_refusal_law : (t : List ℕ) (e : ℕ) → sound M t ≡ true → remove_refusal M t e ≡ cond (eqb (length_of t e) M) out_of_lengths accepted
unfolding remove_refusal
remove_refusal_law t e ok = rw (remove_runs_out M (length_of t e) (of_most M t ok e) refl)

-- ---- merge
module _ (most : ℕ) (t s : List ℕ) (ok : sound most t ≡ true) (other : sound most s ≡ true) where
  laws : merge_refusal t s ≡ accepted → Merged most t s (merged t s)
  unfolding merge_refusal
  laws a = merged_of most t s ok other (room_within t (held_merged t s) a)

  pub merge_sound : sound most (merge_table t s) ≡ true
  unfolding merge_table
  merge_sound = unless_keeps (λ u. sound most u ≡ true) (merge_refusal t s) ok (λ a. (laws a).ok)

  pub merge_length : length (merge_table t s) ≡ length t
  unfolding merge_table
  merge_length = unless_keeps (λ u. length u ≡ length t) (merge_refusal t s) refl (λ a. (laws a).size)

  -- (s ⊔ s')(e) = max(s(e), s'(e))
  pub merge_of : merge_refusal t s ≡ accepted → (y : ℕ) → length_of (merge_table t s) y ≡ join (length_of t y) (length_of s y)
  unfolding merge_table
  merge_of a y = rw a ((laws a).of y)

  -- held grows by exactly the new ids
  pub merge_held : merge_refusal t s ≡ accepted → held (merge_table t s) ≡ held t + new_ids t s
  unfolding merge_table
  merge_held a = rw a (laws a).many
