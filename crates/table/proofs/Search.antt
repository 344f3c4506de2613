-- What halving keeps: the places before `base` have ids below the one sought, those from `base + size` on have ids above it.
-- Assumes nothing.
use Prim.Native.Nat.{ℕ, ◌+◌, ◌*◌, ◌≤◌, ◌<◌, zero-le}
use native.Mathlib.Nat.{not-suc-le-zero, eq-or-lt_of_le}
use native.Mathlib.Omega.{arith}
use mathlib.Core.Bool.{Bool, true, false, ◌&&◌, not}
use mathlib.Core.Path.{◌≡◌, sym}
use mathlib.Core.Logic.{⊎_elim}
use mathlib.Core.List.{List}
use lib.ListN.{length}
use lib.Dec.{leb, ltb, eqb}
use mir.Val.{bool_byte}
use borrow.Author.Tests.{ne_eqb, leb-true, leb-false, ltb-true, ltb-false, eqb-true, eqb-false, not-true}
use Rattle.std.specs.Prelude.{Some, None}
use Rattle.rules.proofs.laws.table.Order.{Side, Side.below, Side.same, Side.above, side}
use Rattle.rules.specs.meaning.Table.{id_at, length_at, rank, found_of}
use Rattle.rules.proofs.laws.table.Places.{Laid, rank_is, used_at, found_at, found_none}
use Rattle.rules.proofs.laws.table.View.{parts}
use Rattle.table.specs.Loops.{Span}

-- a test of a length and a test of an id, failed together
failed : (l : ℕ) (b : Bool) → not (eqb l 0) && b ≡ false → (l ≡ 0 → ⊥) → b ≡ false
failed l b h n = rw (ne_eqb l 0 n) at h

module _ {most : ℕ} {t : List ℕ} {k : ℕ} (w : Laid most t k) (x : ℕ) where
  pub span_start : (size : ℕ) → 1 ≤ size → 2 * size ≤ length t → k ≤ size → Span t k x 0 size
  span_start size some room all = record {
    some = some;
    room = omega arith;
    start = zero-le;
    below = λ j p. absurd (not-suc-le-zero p);
    above = λ j p q. absurd (omega arith);
  }

  module _ (base size mid size' : ℕ) (s : Span t k x base size) (le : base ≤ mid) (lt : mid ≤ base + size') (end : mid + size' ≡ base + size)
      (some' : 1 ≤ size') (less : size' ≤ size) where
    pub span_up : not (eqb (length_at t mid) 0) && leb (id_at t mid) x ≡ true → Span t k x mid size'
    span_up h =
        let p = parts _ _ h in
        let at : mid < k = used_at w mid (eqb-false _ _ (not-true _ p.0)) in
        let id : id_at t mid ≤ x = leb-true _ _ p.1 in
        record {
          some = some';
          room = omega (arith, s.room);
          start = omega arith;
          below = λ j q. omega (arith, w.rises j mid q at, id);
          above = λ j q r. s.above j (omega arith) r;
        }

    pub span_stay : not (eqb (length_at t mid) 0) && leb (id_at t mid) x ≡ false → Span t k x base size'
    span_stay h =
        let past : mid < k → x < id_at t mid = λ q. leb-false _ _ (failed (length_at t mid) _ h (λ z. omega (arith, z, w.low mid q))) in
        record {
          some = some';
          room = omega (arith, s.room);
          start = s.start;
          below = s.below;
          above = λ j q r. ⊎_elim (λ (e : mid ≡ j). rw (← e) (past (omega arith))) (λ (g : mid < j). omega (arith, past (omega arith), w.rises mid j g r))
              (eq-or-lt_of_le (omega arith));
        }

  -- at its end halving has one place left
  module _ (base : ℕ) (s : Span t k x base 1) where
    pub span_found : not (eqb (length_at t base) 0) && eqb (id_at t base) x ≡ true → Some base ≡ found_of t x
    span_found h =
        let p = parts _ _ h in
        sym (found_at w x base (used_at w base (eqb-false _ _ (not-true _ p.0))) (eqb-true _ _ p.1))

    pub span_none : not (eqb (length_at t base) 0) && eqb (id_at t base) x ≡ false → None ≡ found_of t x
    span_none h = sym (found_none w x (λ i. at i (side i base)))
      where
        at : (i : ℕ) → Side i base → i < k → id_at t i ≡ x → ⊥
        at i (below p) q e = omega (arith, s.below i p, e)
        at i (above p) q e = omega (arith, s.above i (omega arith) q, e)
        at i (same p) q e = eqb-false _ _ (failed (length_at t base) _ h (λ z. omega (arith, z, w.low base (omega arith)))) (rw p at e)

    pub span_rank : (b : Bool) → b ≡ (not (eqb (length_at t base) 0) && ltb (id_at t base) x) → base + bool_byte b ≡ rank t x
    span_rank true h =
        let p = parts _ _ (sym h) in
        let at : base < k = used_at w base (eqb-false _ _ (not-true _ p.0)) in
        let id : id_at t base < x = ltb-true _ _ p.1 in
        sym (rank_is w x (base + 1) (omega arith) (λ j q. ⊎_elim (λ e. rw e id) (λ l. s.below j l) (eq-or-lt_of_le (last j q))) (λ q. omega (arith, s.above (base + 1) (omega arith) q)))
      where
        last : (j : ℕ) → j < base + 1 → j ≤ base
        last j q = omega arith
    span_rank false h =
        let z : base + 0 ≡ base = omega arith in
        rw z (sym (rank_is w x base s.start s.below (λ q. ltb-false _ _ (failed (length_at t base) _ (sym h) (λ z. omega (arith, z, w.low base q))))))
