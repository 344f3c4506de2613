-- By the join where the id stands, and by a new entry where it does not.
use Rattle.std.proofs.Common.{◌≡◌, ℕ, ap, ◌∙◌, arith}
use Rattle.rules.specs.meaning.Lengths.{join}
use Rattle.rules.specs.meaning.Table.{length_of}
use Rattle.table.proofs.Raising.{raise_here, raise_none}
use Rattle.table.proofs.raise.absorb.Goals as goal

pub returns-in-Some : goal.returns-in-Some
returns-in-Some c =
    let at = c.in-Some.ensures in
    let n = c.args.length in
    let r = raise_here _ _ _ c.requires at _ _ (c.join-after.ensures ∙ ap (λ (m : ℕ). join m n) at.its) (omega (arith, at.above_zero)) in
    record { value = r.0; table_after = r.1 }

pub returns-in-None : goal.returns-in-None
returns-in-None c =
    let none : length_of c.args.table.now c.args.id ≡ 0 = c.in-None.ensures in
    let zero : join (length_of c.args.table.now c.args.id) c.args.length ≡ 0 = omega (arith, none) in
    let r = raise_none _ _ c.requires none in
    record { value = rw zero r.0; table_after = rw zero r.1 }
