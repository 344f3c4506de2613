-- The laws of the counts: what sound ones are, and that one counter raised with the number that wait keeps it sound.
-- Assumes nothing.
use Rattle.std.specs.Prelude.{ℕ, suc, ◌+◌, ◌≤◌, true, false, ◌≡◌, refl, leb, eqb}
use Rattle.std.proofs.Common.{arith}
use borrow.Author.Tests.{leb-true, eqb-true, eqb-false, le-leb, lt-ltb, eq-eqb}
use Rattle.rules.specs.declared.Counts.{Counts}
use Rattle.rules.proofs.laws.table.View.{parts}
use Rattle.rules.specs.meaning.Ledgers.{counts_sound, raised_counts, one_more, raised_if, no_counter, sent_counter, copied_counter, absorbed_counter, lost_counter}

-- what sound counts say: each counter is at most the largest, and the parcels balance
pub record Balanced (most waiting : ℕ) (l : Counts) : Type 0 where
  pub sent_fits : l.sent ≤ most
  pub copied_fits : l.copied ≤ most
  pub absorbed_fits : l.absorbed ≤ most
  pub lost_fits : l.lost ≤ most
  pub sums : l.sent + l.copied ≡ l.absorbed + l.lost + waiting

-- counts that the test calls sound balance
pub balanced : (most waiting : ℕ) (l : Counts) → counts_sound most waiting l ≡ true → Balanced most waiting l
unfolding counts_sound
balanced most waiting l h =
    let a = parts (leb l.sent most) _ h in
    let b = parts (leb l.copied most) _ a.1 in
    let c = parts (leb l.absorbed most) _ b.1 in
    let d = parts (leb l.lost most) _ c.1 in
    record {
      sent_fits = leb-true _ _ a.0;
      copied_fits = leb-true _ _ b.0;
      absorbed_fits = leb-true _ _ c.0;
      lost_fits = leb-true _ _ d.0;
      sums = eqb-true _ _ d.1;
    }

-- and those that balance are called sound
pub balanced_sound : (most waiting : ℕ) (l : Counts) → Balanced most waiting l → counts_sound most waiting l ≡ true
unfolding counts_sound
balanced_sound most waiting l b =
    rw (le-leb l.sent most b.sent_fits, le-leb l.copied most b.copied_fits, le-leb l.absorbed most b.absorbed_fits, le-leb l.lost most b.lost_fits)
    (eq-eqb _ _ b.sums)

-- a counter below the largest is raised by one
pub one_more_law : (most n : ℕ) → n ≤ most → eqb n most ≡ false → one_more most n ≡ suc n
unfolding one_more
one_more_law most n h q = rw (lt-ltb n most (omega (arith, eqb-false n most q)))

-- no counter named: the counts as they are
pub raised_none : (most : ℕ) (l : Counts) → raised_counts most no_counter l ≡ l
unfolding raised_if
raised_none most l = refl

-- the counts with one counter more
module _ (most w : ℕ) (l : Counts) (ok : counts_sound most w l ≡ true) where
  -- sent and copied, with one more that waits
  pub sent_sound : eqb l.sent most ≡ false → counts_sound most (suc w) (raised_counts most sent_counter l) ≡ true
  unfolding raised_if
  sent_sound q =
      let b = balanced most w l ok in
      let z = eqb-false l.sent most q in
      rw (one_more_law most l.sent b.sent_fits q) (balanced_sound most (suc w) _ (omega arith))

  pub copied_sound : eqb l.copied most ≡ false → counts_sound most (suc w) (raised_counts most copied_counter l) ≡ true
  unfolding raised_if
  copied_sound q =
      let b = balanced most w l ok in
      let z = eqb-false l.copied most q in
      rw (one_more_law most l.copied b.copied_fits q) (balanced_sound most (suc w) _ (omega arith))

  -- absorbed and lost, with one fewer that waits
  pub absorbed_sound : (v : ℕ) → suc v ≡ w → eqb l.absorbed most ≡ false → counts_sound most v (raised_counts most absorbed_counter l) ≡ true
  unfolding raised_if
  absorbed_sound v e q =
      let b = balanced most w l ok in
      let z = eqb-false l.absorbed most q in
      rw (one_more_law most l.absorbed b.absorbed_fits q) (balanced_sound most v _ (omega arith))

  pub lost_sound : (v : ℕ) → suc v ≡ w → eqb l.lost most ≡ false → counts_sound most v (raised_counts most lost_counter l) ≡ true
  unfolding raised_if
  lost_sound v e q =
      let b = balanced most w l ok in
      let z = eqb-false l.lost most q in
      rw (one_more_law most l.lost b.lost_fits q) (balanced_sound most v _ (omega arith))
