-- `steps::one::on_table`: the part of the words is the site's table.
use Rattle.std.proofs.Common.{Ok, refl, ap}
use Rattle.std.proofs.lemmas.Result.{err_from_is_err_and}
use Rattle.steps.specs.declared.verdict.Taken.{Taken}
use Rattle.steps.specs.Verdicts.{as_verdict}
use Rattle.steps.proofs.Tables.{part_sound, part_is, put_is}
use Rattle.steps.proofs.one.on_table.Goals as goal

pub change-requires : goal.change-requires
change-requires g c = c.requires.takes _ (part_sound c.args.run c.args.words.now c.requires.ready c.args.site c.if-run-site.false _ _ c.part_of.ensures.0 c.part_of.ensures.1) _ refl

pub returns-in_err-value-clause-inside : goal.returns-in_err-value-clause-inside
returns-in_err-value-clause-inside g c = λ inside.
    let a = c.args in
    let p = err_from_is_err_and c.from_residual.result c.from_residual.ensures.1 in (
      c.change.result,
      c.change.new.arg2,
      record { shown = _; shows = part_is a.run a.words.now a.site _ _ c.part_of.ensures.0 c.part_of.ensures.1; left = _; met = c.change.ensures; leaves = refl },
      rw (p.1, p.2, c.in_err-value.was) refl,
      put_is a.run a.words.now a.site _ _ c.part_of.ensures.0 c.part_of.ensures.1 c.change.new.arg2,
    )

pub returns-clause-inside : goal.returns-clause-inside
returns-clause-inside g c = λ inside.
    let a = c.args in (
      c.change.result,
      c.change.new.arg2,
      record { shown = _; shows = part_is a.run a.words.now a.site _ _ c.part_of.ensures.0 c.part_of.ensures.1; left = _; met = c.change.ensures; leaves = refl },
      rw c.in_ok-value.was (ap (λ (t : Taken). as_verdict a.seen.count (Ok t)) c.tell.ensures),
      put_is a.run a.words.now a.site _ _ c.part_of.ensures.0 c.part_of.ensures.1 c.change.new.arg2,
    )
