-- From what the callees of `absorb` ensure to what `absorb` ensures. The callees' results are variables here, each with what its contract says of it.
use Prim.Native.Nat.{ℕ, zero, suc}
use mathlib.Core.Path.{◌≡◌, refl}
use mathlib.Core.List.{List}
use lib.ListN.{length}
use Rattle.rules.specs.meaning.Operations.{Answer}
use Rattle.rules.specs.declared.Ledger.{Ledger}
use Rattle.rules.specs.declared.Parcel.{Parcel}
use Rattle.rules.specs.declared.Run.{Run}
use Rattle.rules.specs.declared.Scan.{Scan}
use Rattle.rules.specs.declared.Seen.{Seen}
use Rattle.rules.specs.meaning.Lengths.{M}
use Rattle.rules.specs.meaning.Links.{no_link}
use Rattle.rules.specs.meaning.Ledgers.{seen_of}
use Rattle.rules.specs.meaning.Operations.{unless_refused}
use Rattle.rules.specs.meaning.Parcels.{no_parcel, scan_of}
use Rattle.rules.specs.meaning.States.{lent}
use Rattle.rules.specs.meaning.Runs.{state_by}
use Rattle.rules.specs.meaning.Events.{absorbs, words_absorbed, outcome, refusal_for, after_event, Happened}
use Rattle.judge.specs.Judged.{seen_as}
use Rattle.intake.specs.Values.{answer_seen, words_seen}

-- only the words are written
words_only : (r : ℕ) (ws us : List ℕ) (ss : List Parcel) (l : Ledger) → lent (unless_refused r ws us) ss l ≡ state_by r (lent ws ss l) (lent us ss l)
words_only zero ws us ss l = refl
words_only (suc r) ws us ss l = refl

pub absorbed : (run : Run) (ws : List ℕ) (ss : List Parcel) (l : Ledger) (k : ℕ) (bytes : List ℕ) (scan : Scan) (books : Seen) (r : Answer) (ws' : List ℕ) → scan ≡ scan_of M run.sites ss → books ≡ seen_of run.sites no_link l
    → (r ≡ answer_seen run ws k bytes (seen_as scan no_parcel (length ss) books)) × (ws' ≡ words_seen run ws k bytes (seen_as scan no_parcel (length ss) books))
    → Happened run (lent ws ss l) (absorbs k bytes) r (lent ws' ss l)
unfolding outcome refusal_for after_event
absorbed run ws ss l k bytes scan books r ws' e b did = record {
  answer = rw (e, b) at did.0;
  state = rw (did.1, e, b) (words_only (refusal_for run (lent ws ss l) (absorbs k bytes)) ws (words_absorbed run ws k bytes) ss l);
}
