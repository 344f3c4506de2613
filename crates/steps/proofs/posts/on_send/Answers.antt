-- `steps::posts::on_send`: by its tests in order.
use Rattle.std.proofs.Common.{ℕ, List, refl, sym, ◌∙◌, arith}
use Rattle.std.proofs.lemmas.Result.{err_from_is_err_and}
use Rattle.rules.specs.declared.Step.TheVariants.{Send}
use Rattle.rules.specs.meaning.Table.{length_of}
use Rattle.rules.specs.meaning.Steps.{effect}
use Rattle.table.proofs.Raising.{its, above_zero, none}
use Rattle.steps.proofs.Posting.{send_unheld, send_step}
use Rattle.steps.proofs.Tables.{part_sound, told_of, refused_law, sites_refused}
use Rattle.steps.proofs.posts.on_send.Goals as goal

pub returns-in_err-two_sites : goal.returns-in_err-two_sites
unfolding effect
returns-in_err-two_sites c =
    let a = c.args in
    let p = err_from_is_err_and c.from_residual.result c.from_residual.ensures.1 in
    let own = c.in_err-two_sites.ensures in
    rw (p.1, p.2) (sites_refused a.run a.words.now a.seen (Send a.from a.to a.id) a.from a.to _ refl _ own.0 own.1).0

pub returns-in_default : goal.returns-in_default
returns-in_default c =
    let a = c.args in
    let two = c.in_ok-two_sites.ensures in
    let sound = part_sound a.run a.words.now c.requires a.from two.0 _ _ c.part_of.ensures.0 c.part_of.ensures.1 in
    let said = told_of a.run a.words.now a.from _ _ c.part_of.ensures.0 c.part_of.ensures.1 (λ (t : List ℕ). length_of t a.id) (sym (none _ _ sound (sym c.in_default.ensures))) in
    (refused_law _ _ _ _ 5 (send_unheld a.run a.words.now a.seen a.from a.to a.id two.0 two.1.0 two.1.1 (sym said))).0

pub returns : goal.returns
returns c =
    let a = c.args in
    let two = c.in_ok-two_sites.ensures in
    let sound = part_sound a.run a.words.now c.requires a.from two.0 _ _ c.part_of.ensures.0 c.part_of.ensures.1 in
    let found = sym c.in-Some.ensures in
    let some = above_zero _ _ _ sound found in
    let said = told_of a.run a.words.now a.from _ _ c.part_of.ensures.0 c.part_of.ensures.1 (λ (t : List ℕ). length_of t a.id) (its _ _ _ sound found) in
    c.post.ensures ∙ rw c.sent_pair.ensures (send_step a.run a.words.now a.seen a.from a.to a.id two.0 two.1.0 two.1.1 (λ z. omega (arith, z, some, its _ _ _ sound found, said)) _ said)
