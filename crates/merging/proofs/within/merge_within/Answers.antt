-- `merging::within::merge_within`: by what it comes to (`Told`).
use Rattle.std.proofs.Common.{◌≡◌, ◌/◌, Ok, Err, arith, refl, ap, ◌∙◌}
use Rattle.std.proofs.lemmas.Result.{err_from_is_err_and}
use Rattle.rules.specs.meaning.Operations.{as_answer}
use Rattle.rules.specs.meaning.Table.{capacity}
use Rattle.merging.specs.Walks.{part_at, with_part}
use Rattle.merging.proofs.Inside.{part_length, own_part, filling_start}
use Rattle.merging.proofs.Told.{told_is, none_told, some_told}
use Rattle.merging.proofs.within.merge_within.Goals as goal

pub returns-in_err-rose : goal.returns-in_err-rose
returns-in_err-rose c =
    let room : c.args.wide / 2 ≡ capacity (part_at c.args.words.now c.args.to c.args.wide) = rw (part_length c.args.words.now c.args.to c.args.wide c.requires.apart.fits_to) in
    let n = c.survey-comes.ensures.held_value in
    let p = err_from_is_err_and c.from_residual.result c.from_residual.ensures.1 in
    record {
      value = rw (p.1, p.2) (told_is (part_at c.args.words.now c.args.to c.args.wide) (part_at c.args.words.now c.args.from c.args.wide) (as_answer (Err c.in_err-rose.field-0.0)) _ _ _ room n.0 n.1 c.in_err-rose.ensures);
      words_after = own_part c.args.words.now c.args.to c.args.wide ∙ ap (with_part c.args.words.now c.args.to c.args.wide) (none_told (part_at c.args.words.now c.args.to c.args.wide) (part_at c.args.words.now c.args.from c.args.wide) (as_answer (Err c.in_err-rose.field-0.0)) _ _ _ room n.0 n.1 c.in_err-rose.ensures c.requires.sound_table c.requires.sound_table_2 refl);
    }

pub fill-requires : goal.fill-requires
fill-requires c =
    let room : c.args.wide / 2 ≡ capacity (part_at c.args.words.now c.args.to c.args.wide) = rw (part_length c.args.words.now c.args.to c.args.wide c.requires.apart.fits_to) in
    let held = c.survey-comes.ensures.own_value in
    let n = c.survey-comes.ensures.held_value in
    let left = c.from.ensures in
    let some = some_told (part_at c.args.words.now c.args.to c.args.wide) (part_at c.args.words.now c.args.from c.args.wide) (as_answer (Ok c.in_ok-rose.rose)) _ _ _ room n.0 n.1 c.in_ok-rose.ensures (λ z. omega (arith, z)) in
    rw (left.0, left.1, left.2, held.0, held.1, n.0) (filling_start c.args.words.now c.args.to c.args.from c.args.wide c.requires.apart c.requires.sound_table c.requires.sound_table_2 some.0)

pub returns-then-rose-gt0 : goal.returns-then-rose-gt0
returns-then-rose-gt0 c =
    let room : c.args.wide / 2 ≡ capacity (part_at c.args.words.now c.args.to c.args.wide) = rw (part_length c.args.words.now c.args.to c.args.wide c.requires.apart.fits_to) in
    let n = c.survey-comes.ensures.held_value in
    record {
      value = told_is (part_at c.args.words.now c.args.to c.args.wide) (part_at c.args.words.now c.args.from c.args.wide) (as_answer (Ok c.in_ok-rose.rose)) _ _ _ room n.0 n.1 c.in_ok-rose.ensures;
      words_after = c.fill.ensures ∙ ap (with_part c.args.words.now c.args.to c.args.wide) (some_told (part_at c.args.words.now c.args.to c.args.wide) (part_at c.args.words.now c.args.from c.args.wide) (as_answer (Ok c.in_ok-rose.rose)) _ _ _ room n.0 n.1 c.in_ok-rose.ensures (λ z. omega (arith, z))).1;
    }

pub returns-else-rose-gt0 : goal.returns-else-rose-gt0
returns-else-rose-gt0 c =
    let room : c.args.wide / 2 ≡ capacity (part_at c.args.words.now c.args.to c.args.wide) = rw (part_length c.args.words.now c.args.to c.args.wide c.requires.apart.fits_to) in
    let n = c.survey-comes.ensures.held_value in
    record {
      value = told_is (part_at c.args.words.now c.args.to c.args.wide) (part_at c.args.words.now c.args.from c.args.wide) (as_answer (Ok c.in_ok-rose.rose)) _ _ _ room n.0 n.1 c.in_ok-rose.ensures;
      words_after = own_part c.args.words.now c.args.to c.args.wide ∙ ap (with_part c.args.words.now c.args.to c.args.wide) (none_told (part_at c.args.words.now c.args.to c.args.wide) (part_at c.args.words.now c.args.from c.args.wide) (as_answer (Ok c.in_ok-rose.rose)) _ _ _ room n.0 n.1 c.in_ok-rose.ensures c.requires.sound_table c.requires.sound_table_2 (omega arith));
    }
