-- From what the callees of `lent` ensure to what `lent` ensures: the one place that knows how the contracts of `act`, `step` and `lag` are put.
-- The callees' results are variables here, each with what its contract says of it.
-- Assumes nothing.
use Prim.Native.Nat.{ℕ, zero, suc, ◌≤◌}
use native.Mathlib.Nat.{le_refl}
use native.Mathlib.Omega.{arith}
use mathlib.Core.Bool.{Bool, cond}
use mathlib.Core.Path.{◌≡◌, refl, sym, ap, ◌∙◌}
use mathlib.Core.List.{List}
use lib.ListN.{length, set, get_or}
use Rattle.rules.specs.meaning.Operations.{Answer, as_answer}
use Rattle.rules.specs.declared.Ledger.{Ledger}
use Rattle.rules.specs.declared.Parcel.{Parcel}
use Rattle.rules.specs.declared.Run.{Run}
use Rattle.rules.specs.declared.Scan.{Scan}
use Rattle.rules.specs.declared.Seen.{Seen}
use Rattle.rules.specs.meaning.Lags.{Lag}
use Rattle.rules.specs.declared.Sight.{Sight}
use Rattle.rules.specs.declared.Step.{Step}
use Rattle.rules.specs.declared.Step.TheVariants.{Add, Remove, Query, Send, Merge, Deliver, Again, Lose}
use Rattle.rules.specs.meaning.Lengths.{M}
use Rattle.rules.specs.meaning.Operations.{unless_refused}
use Rattle.rules.specs.meaning.Links.{no_link, link_between}
use Rattle.rules.specs.meaning.Ledgers.{booked_ledger, seen_of}
use Rattle.rules.specs.meaning.Parcels.{no_parcel, lowest_free, scan_of}
use Rattle.rules.specs.meaning.States.{State, lent, sight_of, StateSound}
use Rattle.rules.specs.meaning.Kinds.{slot_of, link_of, numbers, takes_slot}
use Rattle.rules.specs.meaning.Runs.{refusal_in, refusal_of, value_of, after, Stepped}
use Rattle.rules.specs.declared.Refusal.{Refusal}
use Rattle.rules.proofs.laws.Determined.{numbered}
use Rattle.std.specs.Prelude.{Result, Ok, Err}
use Rattle.steps.specs.declared.verdict.Taken.{Taken}
use Rattle.rules.proofs.laws.run.Steps.{sound_judged}
use Rattle.judge.specs.Judged.{seen_as, judgement}
use Rattle.steps.specs.Verdicts.{Verdict, as_verdict, Ready, step_refusal, step_verdict, step_words, verdict_by, looked_at, verdict_under, words_under, answer_in}
use Rattle.rules.proofs.laws.run.Acts.{judged_first}
use Rattle.rules.specs.meaning.Steps.{effect}
use Rattle.rules.specs.meaning.Lags.{lag_in, lag_answer}
use Rattle.rules.specs.meaning.Acts.{judged_of, answer_under, after_under, Acted}
use Rattle.judge.proofs.Judging.{sized}

module _ (run : Run) (ws : List ℕ) (ss : List Parcel) (l : Ledger) (step : Step) where
  -- the verdict on what is lent, where it is accepted
  by_accepted : (r : ℕ) → refusal_of run (lent ws ss l) step ≡ r → (v : Verdict) → v.refusal ≡ 0 → v ≡ verdict_by (refusal_in run ws (sight_of run (lent ws ss l) step) step) run ws (sight_of run (lent ws ss l) step) step
      → (ws' : List ℕ) → ws' ≡ unless_refused (refusal_in run ws (sight_of run (lent ws ss l) step) step) ws (effect run ws (sight_of run (lent ws ss l) step) step).gain.words
      → Stepped run (lent ws ss l) step (answer_in v) (lent ws' (set ss v.at v.parcel) (booked_ledger M v.counter v.link v.pair l))
  unfolding refusal_of value_of after
  by_accepted zero z v none e ws' f = record {
    answer = rw (e, z) refl;
    state = rw (e, f, z) refl;
  }
  by_accepted (suc r) z v none e ws' f = absurd (let k : v.refusal ≡ suc r = ap (λ (x : Verdict). x.refusal) e ∙ rw z refl in omega arith)

  -- and where it is refused: then nothing of it is stored
  by_refused : (r : ℕ) → refusal_of run (lent ws ss l) step ≡ r → (v : Verdict) → (v.refusal ≡ 0 → ⊥) → v ≡ verdict_by (refusal_in run ws (sight_of run (lent ws ss l) step) step) run ws (sight_of run (lent ws ss l) step) step
      → (ws' : List ℕ) → ws' ≡ unless_refused (refusal_in run ws (sight_of run (lent ws ss l) step) step) ws (effect run ws (sight_of run (lent ws ss l) step) step).gain.words
      → Stepped run (lent ws ss l) step (answer_in v) (lent ws' ss l)
  unfolding refusal_of value_of after
  by_refused zero z v some e ws' f = absurd (some (ap (λ (x : Verdict). x.refusal) e ∙ rw z refl))
  by_refused (suc r) z v some e ws' f = record {
    answer = rw (e, z) refl;
    state = rw (f, z) refl;
  }

-- a step sees as much through what `act` looks at as through a pass over all the slots and all the links
module _ (run : Run) (ws : List ℕ) (ss : List Parcel) (l : Ledger) where
  abbrev seen : Step → ℕ → Sight
  seen step free = looked_at free (get_or ss (slot_of step) no_parcel) (length ss) (seen_of 0 (link_of run.sites (get_or ss (slot_of step) no_parcel) step) l)

  abbrev Same : Step → ℕ → Type 0
  Same step free =
      (step_verdict run ws (seen step free) step ≡ step_verdict run ws (sight_of run (lent ws ss l) step) step)
      × (step_words run ws (seen step free) step ≡ step_words run ws (sight_of run (lent ws ss l) step) step)

  same_sight : (step : Step) (free : ℕ) → free ≡ cond (takes_slot step) (lowest_free ss) 0 → Same step free
  unfolding numbers step_refusal effect
  same_sight (Add k e) free h = (refl, refl)
  same_sight (Remove k e) free h = (refl, refl)
  same_sight (Query k e) free h = (refl, refl)
  same_sight (Send f t e) free h = rw h (refl, refl)
  same_sight (Merge f t) free h = (refl, refl)
  same_sight (Deliver i) free h = (refl, refl)
  same_sight (Again i) free h = rw h (refl, refl)
  same_sight (Lose i) free h = (refl, refl)

-- by what has refused the step before
module _ (run : Run) (ws : List ℕ) (ss : List Parcel) (l : Ledger) (step : Step) (si : Sight) where
  -- what is seen of the state comes to what the state does
  abbrev Shown : Type 0
  Shown = (step_verdict run ws si step ≡ verdict_by (refusal_in run ws (sight_of run (lent ws ss l) step) step) run ws (sight_of run (lent ws ss l) step) step)
      × (step_words run ws si step ≡ unless_refused (refusal_in run ws (sight_of run (lent ws ss l) step) step) ws (effect run ws (sight_of run (lent ws ss l) step) step).gain.words)

  took_by : (before : ℕ) → (before ≡ 0 → Shown) → (t : Taken) → as_verdict (length ss) (Ok t) ≡ verdict_under before run ws si step → (ws' : List ℕ) → ws' ≡ words_under before run ws si step
      → Acted before run (lent ws ss l) step (as_answer (Ok t.value)) (lent ws' (set ss t.at t.parcel) (booked_ledger M t.counter t.link t.pair l))
  unfolding verdict_under words_under answer_under after_under
  took_by zero same t e ws' f =
      let did = by_accepted run ws ss l step (refusal_of run (lent ws ss l) step) refl (as_verdict (length ss) (Ok t)) refl (e ∙ (same refl).0) ws' (f ∙ (same refl).1) in
      record { answer = did.answer; state = did.state }
  took_by (suc r) same t e ws' f = absurd (let k : ◌≡◌ {A = ℕ} 0 (suc r) = ap (λ (v : Verdict). v.refusal) e in omega arith)

  refused_by : (before : ℕ) → (before ≡ 0 → Shown) → (n : Refusal) → as_verdict (length ss) (Err n) ≡ verdict_under before run ws si step → (ws' : List ℕ) → ws' ≡ words_under before run ws si step
      → Acted before run (lent ws ss l) step (as_answer (Err n)) (lent ws' ss l)
  unfolding verdict_under words_under answer_under after_under
  refused_by zero same n e ws' f =
      let did = by_refused run ws ss l step (refusal_of run (lent ws ss l) step) refl (as_verdict (length ss) (Err n)) (λ z. let k = numbered n in omega (arith, z)) (e ∙ (same refl).0) ws' (f ∙ (same refl).1) in
      record { answer = did.answer; state = did.state }
  refused_by (suc r) same n e ws' f = record { answer = ap answer_in e; state = rw f refl }

-- what is sound is ready for `decide`
pub clear_ready : (refused : ℕ) (run : Run) (ws : List ℕ) (ss : List Parcel) (l : Ledger) → (refused ≡ 0 → StateSound run (lent ws ss l)) → refused ≡ 0 → Ready run ws
clear_ready refused run ws ss l clear z = record { sized = sized run (length ws) (length ss) (clear z).0; tables = (clear z).1 }

-- ---- one step, from what its callees ensure
module _ (before : ℕ) (sizes : Run) (ws : List ℕ) (ss : List Parcel) (l : Ledger) (asked : Step) (at : ℕ) (held : Parcel) (wanted : Bool) (free link : ℕ) (books : Seen) (clear : before ≡ 0 → StateSound sizes (lent ws ss l))
    (e₁ : at ≡ slot_of asked) (e₂ : held ≡ get_or ss at no_parcel) (e₃ : wanted ≡ takes_slot asked) (e₄ : free ≡ cond wanted (lowest_free ss) 0)
    (e₅ : link ≡ link_of sizes.sites held asked) (e₆ : books ≡ seen_of 0 link l) where
  own : before ≡ 0 → refusal_in sizes ws (sight_of sizes (lent ws ss l) asked) asked ≡ step_refusal sizes ws (sight_of sizes (lent ws ss l) asked) asked
  unfolding refusal_of step_refusal
  own z = sound_judged sizes (lent ws ss l) asked (clear z)

  same : before ≡ 0 → (step_verdict sizes ws (looked_at free held (length ss) books) asked ≡ verdict_by (refusal_in sizes ws (sight_of sizes (lent ws ss l) asked) asked) sizes ws (sight_of sizes (lent ws ss l) asked) asked)
      × (step_words sizes ws (looked_at free held (length ss) books) asked ≡ unless_refused (refusal_in sizes ws (sight_of sizes (lent ws ss l) asked) asked) ws (effect sizes ws (sight_of sizes (lent ws ss l) asked) asked).gain.words)
  same z = rw (own z, e₆, e₅, e₂, e₁) (same_sight sizes ws ss l asked free (rw e₃ at e₄))

  pub took : (told : Result Taken Refusal) (t : Taken) (ws' : List ℕ) (ss' : List Parcel) (l' : Ledger) → told ≡ Ok t → as_verdict (length ss) told ≡ verdict_under before sizes ws (looked_at free held (length ss) books) asked
      → ws' ≡ words_under before sizes ws (looked_at free held (length ss) books) asked → l' ≡ booked_ledger M t.counter t.link t.pair l → ss' ≡ set ss t.at t.parcel
      → Acted before sizes (lent ws ss l) asked (as_answer (Ok t.value)) (lent ws' ss' l')
  took told t ws' ss' l' is e f g h = rw (g, h) (took_by sizes ws ss l asked (looked_at free held (length ss) books) before same t (rw is at e) ws' f)

  pub refused : (told : Result Taken Refusal) (n : Refusal) (ws' : List ℕ) → told ≡ Err n → as_verdict (length ss) told ≡ verdict_under before sizes ws (looked_at free held (length ss) books) asked
      → ws' ≡ words_under before sizes ws (looked_at free held (length ss) books) asked → Acted before sizes (lent ws ss l) asked (as_answer (Err n)) (lent ws' ss l)
  refused told n ws' is e f = refused_by sizes ws ss l asked (looked_at free held (length ss) books) before same n (rw is at e) ws' f

-- ---- the judge before the step
-- the judge, from what it was handed
pub judged_all : (run : Run) (ws : List ℕ) (ss : List Parcel) (l : Ledger) (scan : Scan) (books : Seen) (judged : ℕ) → scan ≡ scan_of M run.sites ss → books ≡ seen_of run.sites no_link l
    → judged ≡ judgement run ws (seen_as scan no_parcel (length ss) books) → judged ≡ judged_of run (lent ws ss l)
unfolding judged_of judgement
judged_all run ws ss l scan books judged e b f = rw (e, b) at f

-- a scan tells the lowest free slot
pub scanned_low : (sites : ℕ) (ss : List Parcel) (scan : Scan) → scan ≡ scan_of M sites ss → scan.free ≤ lowest_free ss
scanned_low sites ss scan e = rw e (le_refl (lowest_free ss))

-- what the judge refuses, it refuses each step
pub judged_step : (run : Run) (s : State) (step : Step) (judged : ℕ) (r : Answer) (left : State) → judged ≡ judged_of run s → Acted judged run s step r left → Stepped run s step r left
unfolding answer_under after_under after
judged_step run s step zero r left e did = record { answer = did.answer; state = did.state }
judged_step run s step (suc k) r left e did =
    let first : refusal_of run s step ≡ suc k = judged_first run s step k (sym e) in
    record { answer = did.answer ∙ rw first refl; state = did.state ∙ rw first refl }

-- ---- the lag query
pub lagged : (run : Run) (ws : List ℕ) (ss : List Parcel) (l : Ledger) (from to : ℕ) (scan : Scan) (link : ℕ) (books : Seen) (r : Lag) → scan ≡ scan_of M run.sites ss → link ≡ link_between run.sites from to
    → books ≡ seen_of run.sites link l → r ≡ lag_in run ws (seen_as scan no_parcel (length ss) books) from to → r ≡ lag_answer run (lent ws ss l) from to
unfolding lag_answer
lagged run ws ss l from to scan link books r e₁ e₂ e₃ e₄ = rw (e₁, e₃, e₂) at e₄
