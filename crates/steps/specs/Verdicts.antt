-- A step's outcome by value: what the functions of this crate compute from the words and from what the step sees besides them.
-- Assumes nothing.
use Rattle.std.specs.Prelude.{ℕ, zero, suc, ◌≡◌, true, List, [], ◌∷◌, length, eqb, ◌||◌, Result, Ok, Err}
use Rattle.rules.specs.meaning.Operations.{Answer}
use Rattle.rules.specs.declared.Run.{Run}
use Rattle.rules.specs.declared.Parcel.{Parcel}
use Rattle.rules.specs.declared.Pair.{Pair}
use Rattle.rules.specs.declared.Seen.{Seen}
use Rattle.rules.specs.declared.Sight.{Sight}
use Rattle.rules.specs.declared.Step.{Step}
use Rattle.rules.specs.meaning.Lengths.{M}
use Rattle.rules.specs.meaning.Operations.{unless_refused}
use Rattle.rules.specs.meaning.Parcels.{no_parcel}
use Rattle.rules.specs.meaning.Links.{no_link, no_pair}
use Rattle.rules.specs.meaning.Ledgers.{no_counter, absorbed_counter}
use Rattle.rules.specs.meaning.Refusals.{Test, first_given, ◌when◌, number_of}
use Rattle.rules.specs.meaning.States.{width, tables_sound}
use Rattle.rules.specs.meaning.Steps.{Post, puts, frees, no_free_slot, outside, effect}
use Rattle.judge.specs.Judged.{seen_as, Sized}
use Rattle.rules.specs.declared.Refusal.{Refusal}
use Rattle.steps.specs.declared.verdict.Taken.{Taken}

-- what a step comes to: its refusal, 0 for none, what it answers, the counter that it earns, and the slot and the link that it sets
pub record Verdict : Type 0 where
  pub refusal : ℕ
  pub value : ℕ
  pub counter : ℕ
  pub at : ℕ
  pub parcel : Parcel
  pub link : ℕ
  pub pair : Pair

-- nothing to change
abbrev pub refused_verdict : ℕ → ℕ → Verdict
refused_verdict number count = record { refusal = number; value = 0; counter = no_counter; at = count; parcel = no_parcel; link = no_link; pair = no_pair }

-- an accepted step that answers a value: no slot, no counter and no link changes
abbrev pub plain : ℕ → ℕ → Taken
plain value count = record { value = value; counter = no_counter; at = count; parcel = no_parcel; link = no_link; pair = no_pair }

-- the verdict of a call that gives what an accepted step comes to, or its refusal
abbrev pub as_verdict : ℕ → Result Taken Refusal → Verdict
as_verdict count (Ok t) = record { refusal = 0; value = t.value; counter = t.counter; at = t.at; parcel = t.parcel; link = t.link; pair = t.pair }
as_verdict count (Err r) = refused_verdict (number_of r) count

abbrev pub table_verdict : Answer → ℕ → Verdict
table_verdict a count = record { refusal = a.refusal; value = a.value; counter = no_counter; at = count; parcel = no_parcel; link = no_link; pair = no_pair }

-- a verdict by its refusal: where it is accepted the value, and what becomes of the slots and the ledger
abbrev pub verdict : ℕ → ℕ → Post → ℕ → Verdict
verdict zero value post count = record { refusal = 0; value = value; counter = post.counter; at = post.place; parcel = post.parcel; link = post.link; pair = post.pair }
verdict (suc r) value post count = refused_verdict (suc r) count

-- a new parcel in the lowest free slot, and an entry for its link
unfoldable pub posted : Sight → Parcel → ℕ → ℕ → ℕ → Pair → Verdict
posted si p counter counted link pair =
    verdict (first_given ((9 when no_free_slot si) ∷ (10 when eqb counted M) ∷ [])) si.scan.free (puts si p counter link pair) si.count

-- an update that was taken to its site's table: the slot is freed, the update counted and its serial heard where the table took it
abbrev pub delivered : Answer → ℕ → ℕ → ℕ → Pair → Verdict
delivered a slot count link pair = verdict a.refusal a.value (frees slot absorbed_counter link pair) count

-- the tests of a step from one site to another, before its others
abbrev pub sites_tests : Run → ℕ → ℕ → List Test
sites_tests run f t = (3 when (outside run f || outside run t)) ∷ (4 when eqb f t) ∷ []

-- ---- once the state is judged
unfoldable pub step_refusal : Run → List ℕ → Sight → Step → ℕ
step_refusal run ws si step = first_given (effect run ws si step).tests

abbrev pub verdict_by : ℕ → Run → List ℕ → Sight → Step → Verdict
verdict_by r run ws si step = verdict r (effect run ws si step).value (effect run ws si step).post si.count

abbrev pub step_verdict : Run → List ℕ → Sight → Step → Verdict
step_verdict run ws si step = verdict_by (step_refusal run ws si step) run ws si step

abbrev pub step_words : Run → List ℕ → Sight → Step → List ℕ
step_words run ws si step = unless_refused (step_refusal run ws si step) ws (effect run ws si step).gain.words

-- ---- what is seen once the state is judged: of the pass over the slots only the lowest free one, and that where the step puts a parcel there
abbrev pub looked_at : ℕ → Parcel → ℕ → Seen → Sight
looked_at free held slots books = seen_as (record { sound = true; waiting = 0; free = free }) held slots books

-- a step that something has refused with a number before, or with 0 where nothing has
unfoldable pub verdict_under : ℕ → Run → List ℕ → Sight → Step → Verdict
verdict_under zero run ws si step = step_verdict run ws si step
verdict_under (suc r) run ws si step = refused_verdict (suc r) si.count

unfoldable pub words_under : ℕ → Run → List ℕ → Sight → Step → List ℕ
words_under zero run ws si step = step_words run ws si step
words_under (suc r) run ws si step = ws

-- what a verdict answers
abbrev pub answer_in : Verdict → Answer
answer_in v = record { refusal = v.refusal; value = v.value }

-- ---- what the functions below the judge ask of the words: right sizes and sound tables
pub record Ready (run : Run) (ws : List ℕ) : Type 0 where
  pub sized : Sized run (length ws)
  pub tables : tables_sound M (width run) run.sites ws ≡ true
