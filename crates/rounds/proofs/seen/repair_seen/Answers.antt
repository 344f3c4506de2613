-- `rounds::seen::repair_seen`: the judge, and the room.
use Rattle.std.proofs.Common.{refl, arith}
use Rattle.std.proofs.lemmas.Result.{err_from_is_err_and}
use Rattle.rules.specs.meaning.Parcels.{no_parcel}
use Rattle.rules.specs.meaning.Refusals.{number_of}
use Rattle.rules.proofs.laws.Determined.{numbered}
use Rattle.judge.specs.Judged.{seen_as}
use Rattle.rounds.proofs.Repairing.{judged_out, repairable, full_out, taken}
use Rattle.rounds.proofs.seen.repair_seen.Goals as goal

pub returns-in_err-judge_seen : goal.returns-in_err-judge_seen
returns-in_err-judge_seen c =
    let a = c.args in
    let p = err_from_is_err_and c.from_residual.result c.from_residual.ensures.1 in
    let n = c.in_err-judge_seen.field-0.0 in
    let above = numbered n in
    let said = judged_out a.run a.words.now (seen_as a.scan no_parcel a.slots a.books) (number_of n) c.in_err-judge_seen.ensures (λ z. omega (arith, z)) in
    (rw (p.1, p.2) said.0, said.1)

pub even_out-requires : goal.even_out-requires
even_out-requires c =
    let a = c.args in
    repairable a.run a.words.now (seen_as a.scan no_parcel a.slots a.books) c.in_ok-judge_seen.ensures refl

pub overflow_sub-result : goal.overflow_sub-result
overflow_sub-result c =
    let a = c.args in
    let ok = repairable a.run a.words.now (seen_as a.scan no_parcel a.slots a.books) c.in_ok-judge_seen.ensures refl in
    ok.some

pub overflow_mul-result : goal.overflow_mul-result
overflow_mul-result c =
    let a = c.args in
    let ok = repairable a.run a.words.now (seen_as a.scan no_parcel a.slots a.books) c.in_ok-judge_seen.ensures refl in
    omega (arith, ok.ready.sized.few)

pub returns-then-not-even_out : goal.returns-then-not-even_out
returns-then-not-even_out c =
    let a = c.args in
    full_out a.run a.words.now (seen_as a.scan no_parcel a.slots a.books) c.in_ok-judge_seen.ensures refl c.even_out.ensures c.if-not-even_out.true

pub returns : goal.returns
returns c =
    let a = c.args in
    taken a.run a.words.now (seen_as a.scan no_parcel a.slots a.books) c.in_ok-judge_seen.ensures refl c.even_out.ensures c.if-not-even_out.false
