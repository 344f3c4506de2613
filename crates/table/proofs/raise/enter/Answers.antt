-- `table::raise::enter`: every place used, or the entry inserted.
use mathlib.Core.Path.{◌∙◌}
use Rattle.table.proofs.Raising.{enter_full, enter_roomy}
use native.Mathlib.Omega.{arith}
use Rattle.table.proofs.raise.enter.Goals as goal

pub returns-then-table-used : goal.returns-then-table-used
returns-then-table-used c =
    let r = enter_full c.args.table.now c.args.id c.args.length c.requires.id_value.0 c.requires.id_value.1 (omega (arith, c.if-table-used.true, c.held-used.ensures)) in
    record { value = r.0; table_after = r.1 }

pub returns : goal.returns
returns c =
    let r = enter_roomy c.args.table.now c.args.id c.args.length c.requires.id_value.0 c.requires.id_value.1 (omega (arith, c.if-table-used.false, c.held-used.ensures)) in
    record {
      value = r.0;
      table_after = c.insert.ensures ∙ r.1;
    }
