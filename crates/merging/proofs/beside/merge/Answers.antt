-- `merging::beside::merge`: by what it comes to (`Told`).
use Rattle.std.proofs.Common.{Ok, Err, arith, refl, ◌∙◌}
use Rattle.std.proofs.lemmas.Result.{err_from_is_err_and}
use Rattle.rules.specs.meaning.Operations.{as_answer}
use Rattle.merging.proofs.Joins.{joining_start}
use Rattle.merging.proofs.Told.{told_is, none_told, some_told}
use Rattle.merging.proofs.beside.merge.Goals as goal

pub returns-in_err-rose : goal.returns-in_err-rose
returns-in_err-rose c =
    let n = c.count-comes.ensures.held_value in
    let p = err_from_is_err_and c.from_residual.result c.from_residual.ensures.1 in
    record {
      value = rw (p.1, p.2) (told_is c.args.table.now c.args.entries.now (as_answer (Err c.in_err-rose.field-0.0)) _ _ _ refl n.0 n.1 c.in_err-rose.ensures);
      table_after = none_told c.args.table.now c.args.entries.now (as_answer (Err c.in_err-rose.field-0.0)) _ _ _ refl n.0 n.1 c.in_err-rose.ensures c.requires.sound_table c.requires.sound_table_2 refl;
    }

pub fill-requires : goal.fill-requires
fill-requires c =
    let held = c.count-comes.ensures.own_value in
    let n = c.count-comes.ensures.held_value in
    let left = c.from.ensures in
    let some = some_told c.args.table.now c.args.entries.now (as_answer (Ok c.in_ok-rose.rose)) _ _ _ refl n.0 n.1 c.in_ok-rose.ensures (λ z. omega (arith, z)) in
    rw (left.0, left.1, left.2, held.0, held.1, n.0) (joining_start c.args.table.now c.args.entries.now _ c.requires.sound_table c.requires.sound_table_2 (omega (arith, some.0)) (λ q l. refl))

pub returns-then-rose-gt0 : goal.returns-then-rose-gt0
returns-then-rose-gt0 c =
    let n = c.count-comes.ensures.held_value in
    record {
      value = told_is c.args.table.now c.args.entries.now (as_answer (Ok c.in_ok-rose.rose)) _ _ _ refl n.0 n.1 c.in_ok-rose.ensures;
      table_after = c.fill.ensures ∙ (some_told c.args.table.now c.args.entries.now (as_answer (Ok c.in_ok-rose.rose)) _ _ _ refl n.0 n.1 c.in_ok-rose.ensures (λ z. omega (arith, z))).1;
    }

pub returns-else-rose-gt0 : goal.returns-else-rose-gt0
returns-else-rose-gt0 c =
    let n = c.count-comes.ensures.held_value in
    record {
      value = told_is c.args.table.now c.args.entries.now (as_answer (Ok c.in_ok-rose.rose)) _ _ _ refl n.0 n.1 c.in_ok-rose.ensures;
      table_after = none_told c.args.table.now c.args.entries.now (as_answer (Ok c.in_ok-rose.rose)) _ _ _ refl n.0 n.1 c.in_ok-rose.ensures c.requires.sound_table c.requires.sound_table_2 (omega arith);
    }
