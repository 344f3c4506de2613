-- `sites::lags::lag_seen`: the judge, the query's own tests, the lag.
use Rattle.std.proofs.Common.{sym, ap, ◌∙◌, arith}
use Rattle.std.proofs.lemmas.Result.{err_from_is_err_and}
use lib.IntN.{ℤ}
use mir.Syntax.{w32}
use mir.ValLaws.{to_z-of_z}
use Rattle.rules.specs.meaning.Lags.{Lag}
use Rattle.rules.specs.meaning.Parcels.{no_parcel}
use Rattle.rules.proofs.laws.Determined.{numbered}
use Rattle.judge.specs.Judged.{seen_as}
use Rattle.sites.specs.Values.{refused_lag}
use Rattle.sites.proofs.Lagging.{judged_out, own_out, lag_told}
use borrow.Author.Rules.{sfits_of}
use Rattle.sites.proofs.lags.lag_seen.Goals as goal

-- an accepted answer
abbrev given : ℤ → Lag
given z = record { refusal = 0; lag = z }

pub returns-in_err-judge_seen : goal.returns-in_err-judge_seen
returns-in_err-judge_seen c =
    let a = c.args in
    let p = err_from_is_err_and c.from_residual.result c.from_residual.ensures.1 in
    let above = numbered c.in_err-judge_seen.field-0.0 in
    rw (p.1, p.2) (ap refused_lag c.in_err-judge_seen.ensures ∙ judged_out a.run a.words.now (seen_as a.scan no_parcel a.slots a.books) a.from a.to (λ z. omega (arith, c.in_err-judge_seen.ensures, z)))

pub returns-in_err-lag_refusal : goal.returns-in_err-lag_refusal
returns-in_err-lag_refusal c =
    let a = c.args in
    let p = err_from_is_err_and c.from_residual-in_err-lag_refusal.result c.from_residual-in_err-lag_refusal.ensures.1 in
    let above = numbered c.in_err-lag_refusal.field-0.0 in
    rw (p.1, p.2) (ap refused_lag c.in_err-lag_refusal.ensures
    ∙ own_out a.run a.words.now (seen_as a.scan no_parcel a.slots a.books) a.from a.to (sym c.in_ok-judge_seen.ensures) (λ z. omega (arith, c.in_err-lag_refusal.ensures, z)))

pub returns : goal.returns
returns c =
    let a = c.args in
    ap given (to_z-of_z w32 c.lag_of.result (sfits_of c.lag_of.type_inv) ∙ c.lag_of.ensures)
    ∙ (lag_told a.run a.words.now (seen_as a.scan no_parcel a.slots a.books) a.from a.to (sym c.in_ok-judge_seen.ensures) (sym c.in_ok-lag_refusal.ensures))
