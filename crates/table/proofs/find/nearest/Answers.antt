-- `table::find::nearest`: `Span` is what halving keeps, its size a power of two.
use Prim.Native.Nat.{◌-◌, ◌<◌}
use mathlib.Core.Path.{sym, ◌∙◌}
use Rattle.rules.specs.meaning.Lengths.{M}
use Rattle.rules.proofs.laws.table.Places.{laid_of}
use Rattle.table.proofs.Powers.{one_shifted, bit_shifted, first_up, first_stay, next}
use native.Mathlib.Omega.{arith}
use Rattle.table.proofs.find.nearest.Goals as goal
use Rattle.table.proofs.find.nearest.Goals.{then-reaches, else-reaches}

pub loop-k-init : goal.loop-k-init
loop-k-init c =
    let h = c.halvings-steps.ensures in
    let w = laid_of M _ c.requires.sound_table in
    let r = rw (one_shifted _ h.upper_bound) at c.reaches.ensures in
    elim c.if-reaches.branch [
      | then-reaches v ↦ rw (v.base-is, one_shifted _ h.upper_bound) (first_up w _ _ _ (omega arith) (omega (arith, w.room)) h.result_bound h.n_bound (sym r ∙ v.if-reaches.true))
      | else-reaches v ↦ rw v.base-is (first_stay w _ _ _ (omega arith) (omega (arith, w.room)) h.result_bound h.n_bound (sym r ∙ v.if-reaches.false))
    ]

pub loop-k-preserved : goal.loop-k-preserved
loop-k-preserved c =
    let w = laid_of M _ c.requires.sound_table in
    let g : c.loop-k.k - 1 < 64 = omega arith in
    let r = rw (one_shifted _ g) at c.reaches-up.ensures in
    rw (bit_shifted c.reaches-up.result _ g) (next w _ _ _ c.loop-k-test.true c.loop-k.invariant _ r)
