-- From what the callees of `repair` ensure to what `repair` ensures. The callees' results are variables here, each with what its contract says of it; that the words after the round's merges are the levelled words is `Levelling`.
-- Assumes nothing.
use Prim.Native.Nat.{ℕ, zero, suc}
use mathlib.Core.Path.{◌≡◌, refl}
use mathlib.Core.List.{List}
use lib.ListN.{length}
use Rattle.rules.specs.meaning.Operations.{Answer}
use Rattle.rules.specs.declared.Ledger.{Ledger}
use Rattle.rules.specs.declared.Parcel.{Parcel}
use Rattle.rules.specs.declared.Run.{Run}
use Rattle.rules.specs.declared.Scan.{Scan}
use Rattle.rules.specs.declared.Seen.{Seen}
use Rattle.rules.specs.meaning.Lengths.{M}
use Rattle.rules.specs.meaning.Links.{no_link}
use Rattle.rules.specs.meaning.Ledgers.{seen_of}
use Rattle.rules.specs.meaning.Operations.{unless_refused}
use Rattle.rules.specs.meaning.Parcels.{no_parcel, scan_of}
use Rattle.rules.specs.meaning.States.{lent}
use Rattle.rules.specs.meaning.Runs.{state_by}
use Rattle.rules.specs.meaning.Rounds.{round_merges, after_all}
use Rattle.rules.specs.meaning.Events.{round, outcome, refusal_for, after_event, Happened}
use Rattle.judge.specs.Judged.{seen_as}
use Rattle.rounds.specs.Values.{levelled, answer_seen, words_seen}
use Rattle.rounds.proofs.Levelling.{level_words}

-- only the words are written, and an accepted round levels them
words_only : (run : Run) (ws : List ℕ) (ss : List Parcel) (l : Ledger) (r : ℕ) → refusal_for run (lent ws ss l) round ≡ r
    → lent (unless_refused r ws (levelled run ws)) ss l ≡ state_by r (lent ws ss l) (lent (after_all run (lent ws ss l) (round_merges run)).words ss l)
words_only run ws ss l zero e = rw (level_words run (lent ws ss l) e) refl
words_only run ws ss l (suc r) e = refl

pub repaired : (run : Run) (ws : List ℕ) (ss : List Parcel) (l : Ledger) (scan : Scan) (books : Seen) (r : Answer) (ws' : List ℕ) → scan ≡ scan_of M run.sites ss → books ≡ seen_of run.sites no_link l
    → (r ≡ answer_seen run ws (seen_as scan no_parcel (length ss) books)) × (ws' ≡ words_seen run ws (seen_as scan no_parcel (length ss) books))
    → Happened run (lent ws ss l) round r (lent ws' ss l)
unfolding outcome refusal_for after_event
repaired run ws ss l scan books r ws' e b did = record {
  answer = rw (e, b) at did.0;
  state = rw (did.1, e, b) (words_only run ws ss l (refusal_for run (lent ws ss l) round) refl);
}
