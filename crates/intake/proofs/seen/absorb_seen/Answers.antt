-- `intake::seen::absorb_seen`: the judge, its own tests, and the merge into the site's table.
use Prim.Native.Nat.{ℕ, ◌*◌, ◌≤◌}
use native.Mathlib.Omega.{arith}
use mathlib.Core.Bool.{false}
use mathlib.Core.Path.{◌≡◌, refl, sym, ◌∙◌}
use mathlib.Core.List.{List}
use lib.ListN.{length, take}
use lib.Seq.{length-take-le}
use Rattle.std.specs.Prelude.{Ok, Err}
use Rattle.std.proofs.lemmas.Result.{err_from_is_err_and}
use Rattle.rules.specs.meaning.Refusals.{number_of}
use Rattle.rules.specs.meaning.Groups.{entries_in, forms_none, as_grouped}
use Rattle.rules.specs.meaning.Operations.{merge_answer, merge_table}
use Rattle.rules.specs.meaning.Parcels.{no_parcel}
use Rattle.rules.proofs.laws.group.Groups.{entries_sound}
use Rattle.judge.specs.Judged.{seen_as, judgement}
use Rattle.judge.proofs.Judging.{few_words}
use Rattle.steps.specs.Verdicts.{Ready}
use Rattle.steps.proofs.Tables.{part_end, site_sound, part_is, told_of, put_of}
use Rattle.intake.proofs.Absorbing.{some_number, no_group_law, is_group_law, entries_front, entries_within, entries_many, judged_out, ready, outside_out, none_out, taken}
use Rattle.intake.proofs.seen.absorb_seen.Goals as goal

pub returns-in_err-judge_seen : goal.returns-in_err-judge_seen
returns-in_err-judge_seen c =
    let a = c.args in
    let p = err_from_is_err_and c.from_residual.result c.from_residual.ensures.1 in
    let n = c.in_err-judge_seen.field-0.0 in
    let said = judged_out a.run a.words.now a.site a.bytes.now (seen_as a.scan no_parcel a.slots a.books) (number_of n) c.in_err-judge_seen.ensures (some_number n) in
    (rw (p.1, p.2) said.0, said.1)

pub returns-then-run-site : goal.returns-then-run-site
returns-then-run-site c =
    let a = c.args in
    outside_out a.run a.words.now a.site a.bytes.now (seen_as a.scan no_parcel a.slots a.books) (sym c.in_ok-judge_seen.ensures) c.if-run-site.true

pub returns-in_default : goal.returns-in_default
returns-in_default c =
    let a = c.args in
    let n = c.in_default.field-0 in
    let none = no_group_law a.bytes.now _ _ (as_grouped (Err n)) refl c.in_default.ensures (some_number n) in
    none_out a.run a.words.now a.site a.bytes.now (seen_as a.scan no_parcel a.slots a.books) (sym c.in_ok-judge_seen.ensures) c.if-run-site.false none.0

pub part_of-requires : goal.part_of-requires
part_of-requires c =
    let a = c.args in
    let s = seen_as a.scan no_parcel a.slots a.books in
    let fine : judgement a.run a.words.now s ≡ 0 = sym c.in_ok-judge_seen.ensures in
    let through : Ready a.run a.words.now = ready a.run a.words.now a.site a.bytes.now s fine in
    (c.if-run-site.false, (through.sized.few, through.sized.small))

pub overflow_mul-group : goal.overflow_mul-group
overflow_mul-group c =
    let few : 2 * c.in-Ok.count ≤ 128 = entries_many _ _ _ (as_grouped (Ok c.in-Ok.count)) refl c.in-Ok.ensures refl in
    record { fits = omega (arith, few) }

pub offset_bounds-words-part_of : goal.offset_bounds-words-part_of
offset_bounds-words-part_of c =
    let a = c.args in
    let s = seen_as a.scan no_parcel a.slots a.books in
    let fine : judgement a.run a.words.now s ≡ 0 = sym c.in_ok-judge_seen.ensures in
    let through : Ready a.run a.words.now = ready a.run a.words.now a.site a.bytes.now s fine in
    let fits : c.part_of.result.end ≤ length a.words.now = omega (arith, part_end a.run a.words.now through a.site c.if-run-site.false, c.part_of.ensures.1) in
    let short : length a.words.now ≤ 65536 = let sized = through.sized in rw sized.long (few_words a.run.sites a.run.capacity sized.few sized.small) in
    omega (arith, fits, short, c.part_of.ensures)

pub slice_bounds-merge-end : goal.slice_bounds-merge-end
slice_bounds-merge-end c =
    let a = c.args in
    let s = seen_as a.scan no_parcel a.slots a.books in
    let fine : judgement a.run a.words.now s ≡ 0 = sym c.in_ok-judge_seen.ensures in
    let through : Ready a.run a.words.now = ready a.run a.words.now a.site a.bytes.now s fine in
    let fits : c.part_of.result.end ≤ length a.words.now = omega (arith, part_end a.run a.words.now through a.site c.if-run-site.false, c.part_of.ensures.1) in
    omega (arith, fits, c.part_of.ensures)

pub slice_bounds-group-end : goal.slice_bounds-group-end
slice_bounds-group-end c =
    let within : 2 * c.in-Ok.count ≤ length c.read_group.new.entries = entries_within _ _ _ (as_grouped (Ok c.in-Ok.count)) refl c.in-Ok.ensures refl in
    omega (arith, within)

pub slice_bounds-merge-end-2 : goal.slice_bounds-merge-end-2
slice_bounds-merge-end-2 c =
    let within : 2 * c.in-Ok.count ≤ length c.read_group.new.entries = entries_within _ _ _ (as_grouped (Ok c.in-Ok.count)) refl c.in-Ok.ensures refl in
    sym (length-take-le _ _ (omega (arith, within)))

pub merge-requires : goal.merge-requires
merge-requires c =
    let a = c.args in
    let s = seen_as a.scan no_parcel a.slots a.books in
    let fine : judgement a.run a.words.now s ≡ 0 = sym c.in_ok-judge_seen.ensures in
    let through : Ready a.run a.words.now = ready a.run a.words.now a.site a.bytes.now s fine in
    let front : take (2 * c.in-Ok.count) c.read_group.new.entries ≡ entries_in a.bytes.now = entries_front _ _ _ (as_grouped (Ok c.in-Ok.count)) refl c.in-Ok.ensures refl in
    record {
      sound_table = rw (part_is a.run a.words.now a.site _ _ c.part_of.ensures.0 c.part_of.ensures.1) (site_sound a.run a.words.now through a.site c.if-run-site.false);
      sound_table_2 = rw front (entries_sound a.bytes.now);
    }

pub returns : goal.returns
returns c =
    let a = c.args in
    let s = seen_as a.scan no_parcel a.slots a.books in
    let fine : judgement a.run a.words.now s ≡ 0 = sym c.in_ok-judge_seen.ensures in
    let some : forms_none a.bytes.now ≡ false = is_group_law _ _ _ (as_grouped (Ok c.in-Ok.count)) refl c.in-Ok.ensures refl in
    let front : take (2 * c.in-Ok.count) c.read_group.new.entries ≡ entries_in a.bytes.now = entries_front _ _ _ (as_grouped (Ok c.in-Ok.count)) refl c.in-Ok.ensures refl in
    let es = take (2 * c.in-Ok.count) c.read_group.new.entries in
    let done = taken a.run a.words.now a.site a.bytes.now s fine c.if-run-site.false some es front in
    let said = told_of a.run a.words.now a.site _ _ c.part_of.ensures.0 c.part_of.ensures.1 (λ (t : List ℕ). merge_answer t es) c.merge.ensures.value in
    let left = put_of a.run a.words.now a.site _ _ c.part_of.ensures.0 c.part_of.ensures.1 (λ (t : List ℕ). merge_table t es) c.merge.ensures.table_after in
    (said ∙ done.0, left ∙ done.1)
