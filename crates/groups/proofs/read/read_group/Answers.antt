-- `groups::read::read_group`: no group, too few words, or the entries copied.
use mathlib.Core.Path.{◌≡◌, refl}
use Prim.Native.Nat.{ℕ}
use native.Mathlib.Omega.{arith}
use Rattle.std.specs.Option.{ok_or}
use Rattle.std.specs.Prelude.{Option, Some, None, Err}
use Rattle.std.proofs.lemmas.Result.{err_from_is_err_and}
use Rattle.rules.specs.declared.Refusal.{Refusal}
use Rattle.rules.specs.declared.Refusal.TheVariants.{NoGroup}
use Rattle.groups.proofs.Answers.{decoded_none, decoded_long, decoded_all}
use Rattle.groups.proofs.read.read_group.Goals as goal

-- the refusal of a value that is missing
was_none : (o : Option ℕ) (r : Refusal) → Err r ≡ ok_or o NoGroup → (o ≡ None) × (r ≡ NoGroup)
was_none None r e = (refl, cc)
was_none (Some n) r e = cc

pub returns-in_err-count : goal.returns-in_err-count
returns-in_err-count c =
    let p = err_from_is_err_and c.from_residual.result c.from_residual.ensures.1 in
    let w = was_none c.decode.result c.in_err-count.field-0.0 c.in_err-count.ensures.value in
    rw (p.1, p.2, w.1) (decoded_none _ _ _ (rw w.0 at c.decode.ensures))

pub returns-then-entries-many : goal.returns-then-entries-many
returns-then-entries-many c =
    let d = rw c.in_ok-count.ensures.ok_part at c.decode.ensures in
    decoded_long _ _ _ d _ (omega arith) c.if-entries-many.true

pub returns : goal.returns
returns c =
    let d = rw c.in_ok-count.ensures.ok_part at c.decode.ensures in
    decoded_all _ _ _ d _ (omega arith) _ c.if-entries-many.false c.copy_from_slice.ensures.after
