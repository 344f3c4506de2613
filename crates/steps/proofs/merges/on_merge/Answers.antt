-- `steps::merges::on_merge`: by its tests in order; the two tables stand apart in the words.
use Rattle.std.proofs.Common.{Ok, Err, ◌≡◌, ◌-◌, ap, arith, refl, ◌∙◌}
use Rattle.std.proofs.lemmas.Result.{err_from_is_err_and}
use Rattle.rules.specs.declared.Step.TheVariants.{Merge}
use Rattle.rules.specs.meaning.Operations.{Answer, as_answer, merge_answer, merge_table}
use Rattle.rules.specs.meaning.States.{width, table_at, with_table}
use Rattle.rules.specs.meaning.Steps.{effect}
use Rattle.steps.specs.declared.verdict.Taken.{Taken}
use Rattle.steps.specs.Verdicts.{table_verdict, as_verdict}
use Rattle.steps.proofs.Merging.{site_part, site_put, sites_apart, merge_step}
use Rattle.steps.proofs.Tables.{site_sound, sites_refused}
use Rattle.steps.proofs.merges.on_merge.Goals as goal

pub returns-in_err-two_sites : goal.returns-in_err-two_sites
unfolding effect
returns-in_err-two_sites c =
    let a = c.args in
    let p = err_from_is_err_and c.from_residual.result c.from_residual.ensures.1 in
    let own = c.in_err-two_sites.ensures in
    let out = sites_refused a.run a.words.now a.seen (Merge a.from a.to) a.from a.to _ refl _ own.0 own.1 in
    record { value = rw (p.1, p.2) out.0; words_after = out.1 }

pub merge_within-requires : goal.merge_within-requires
merge_within-requires c =
    let a = c.args in
    let ws = a.words.now in
    let two = c.in_ok-two_sites.ensures in
    let broad : c.part_of-target.result.end - c.part_of-target.result.start ≡ width a.run = omega (arith, c.part_of-target.ensures) in
    let source = site_part a.run ws a.from _ _ c.part_of-source.ensures.0 broad in
    let target = site_part a.run ws a.to _ _ c.part_of-target.ensures.0 broad in record {
      apart = sites_apart a.run ws c.requires a.from a.to two.0 two.1.0 two.1.1 _ _ _ c.part_of-target.ensures.0 c.part_of-source.ensures.0 broad;
      sound_table = rw target (site_sound a.run ws c.requires a.to two.1.0);
      sound_table_2 = rw source (site_sound a.run ws c.requires a.from two.0);
    }

pub returns-in_err-rose : goal.returns-in_err-rose
returns-in_err-rose c =
    let a = c.args in
    let ws = a.words.now in
    let two = c.in_ok-two_sites.ensures in
    let broad : c.part_of-target.result.end - c.part_of-target.result.start ≡ width a.run = omega (arith, c.part_of-target.ensures) in
    let source = site_part a.run ws a.from _ _ c.part_of-source.ensures.0 broad in
    let target = site_part a.run ws a.to _ _ c.part_of-target.ensures.0 broad in
    let done = merge_step a.run ws a.seen a.from a.to two.0 two.1.0 two.1.1 in
    let said : as_answer c.merge_within.result ≡ merge_answer (table_at a.run ws a.to) (table_at a.run ws a.from) = rw (target, source) at c.merge_within.ensures.value in
    let left : c.merge_within.new.words ≡ with_table a.run ws a.to (merge_table (table_at a.run ws a.to) (table_at a.run ws a.from)) =
    (rw (target, source) at c.merge_within.ensures.words_after) ∙ site_put a.run ws a.to _ _ c.part_of-target.ensures.0 broad (merge_table (table_at a.run ws a.to) (table_at a.run ws a.from)) in
    let p = err_from_is_err_and c.from_residual-in_err-rose.result c.from_residual-in_err-rose.ensures.1 in
    let refused : as_answer (Err c.in_err-rose.field-0.0) ≡ merge_answer (table_at a.run ws a.to) (table_at a.run ws a.from) = rw c.in_err-rose.was at said in
    record {
      value = rw (p.1, p.2) (ap (λ (x : Answer). table_verdict x a.seen.count) refused ∙ done.0);
      words_after = left ∙ done.1;
    }

pub returns : goal.returns
returns c =
    let a = c.args in
    let ws = a.words.now in
    let two = c.in_ok-two_sites.ensures in
    let broad : c.part_of-target.result.end - c.part_of-target.result.start ≡ width a.run = omega (arith, c.part_of-target.ensures) in
    let source = site_part a.run ws a.from _ _ c.part_of-source.ensures.0 broad in
    let target = site_part a.run ws a.to _ _ c.part_of-target.ensures.0 broad in
    let done = merge_step a.run ws a.seen a.from a.to two.0 two.1.0 two.1.1 in
    let said : as_answer c.merge_within.result ≡ merge_answer (table_at a.run ws a.to) (table_at a.run ws a.from) = rw (target, source) at c.merge_within.ensures.value in
    let left : c.merge_within.new.words ≡ with_table a.run ws a.to (merge_table (table_at a.run ws a.to) (table_at a.run ws a.from)) =
    (rw (target, source) at c.merge_within.ensures.words_after) ∙ site_put a.run ws a.to _ _ c.part_of-target.ensures.0 broad (merge_table (table_at a.run ws a.to) (table_at a.run ws a.from)) in
    let rose : as_answer (Ok c.in_ok-rose.rose) ≡ merge_answer (table_at a.run ws a.to) (table_at a.run ws a.from) = rw c.in_ok-rose.was at said in
    record {
      value = ap (λ (t : Taken). as_verdict a.seen.count (Ok t)) c.tell.ensures ∙ ap (λ (x : Answer). table_verdict x a.seen.count) rose ∙ done.0;
      words_after = left ∙ done.1;
    }
