-- The words of a run that are one table at every site: what an accepted round leaves, and what words whose tables are equal already are.
-- Assumes nothing.
use Prim.Native.Nat.{ℕ, zero, suc, ◌+◌, ◌*◌, ◌≤◌, ◌<◌}
use native.Mathlib.Nat.{zero-mul, suc-mul}
use native.Mathlib.Omega.{arith}
use mathlib.Core.Bool.{Bool, true}
use mathlib.Core.Path.{◌≡◌, refl, sym, ap, ◌∙◌}
use mathlib.Core.List.{List, [], ◌++◌, append_assoc, append-nil}
use lib.ListN.{length, take, drop, length-append}
use lib.Seq.{take_at, drop-append-add}
use borrow.Author.Tests.{le-leb, eq-eqb}
use Rattle.rules.specs.declared.Run.{Run}
use Rattle.rules.specs.meaning.Parcels.{cleared}
use Rattle.rules.specs.meaning.Ledgers.{begun_ledger}
use Rattle.rules.specs.meaning.Refusals.{first_given}
use Rattle.rules.specs.meaning.Ids.{fit_together}
use Rattle.rules.specs.meaning.States.{State, StateSound, lent, width, table_at, sizes_right}
use Rattle.rules.specs.meaning.Runs.{fresh_refusal, after_fresh}
use Rattle.rules.specs.meaning.Rounds.{all_tables, round_merges, after_all}
use Rattle.rules.specs.meaning.Events.{round, outcome, refusal_for, after_event}
use Rattle.rules.proofs.laws.run.Sites.{words_by}
use Rattle.rules.proofs.laws.run.Tables.{words_long, site_length}
use Rattle.rules.proofs.laws.run.Sound.{fresh_sound}
use Rattle.rules.proofs.laws.run.Events.{accepted_event_moves}
use Rattle.rules.proofs.laws.run.Rounds.{all_sound_law, round_in_sound}
use Rattle.rules.proofs.laws.repair.Rounds.{some_site, fitted, table_after, level_fits, level_stays, taken_accepted}
use Rattle.steps.specs.Verdicts.{Ready}
use Rattle.rounds.specs.Values.{Repairable, Evened, copies, gathered, levelled}

-- ---- one table so many times
pub copies_long : (n : ℕ) (t : List ℕ) → length (copies n t) ≡ n * length t
unfolding copies
copies_long zero t = sym (zero-mul (length t))
copies_long (suc n) t = simp length-append (omega (arith, copies_long n t, suc-mul n (length t)))

-- each of them is the table
copies_at : (n : ℕ) (t : List ℕ) (k : ℕ) → k < n → take (length t) (drop (k * length t) (copies n t)) ≡ t
unfolding copies
copies_at zero t k l = absurd (omega arith)
copies_at (suc n) t zero l = rw (zero-mul (length t)) (take_at t (copies n t) (length t) refl)
copies_at (suc n) t (suc k) l =
    let on : suc k * length t ≡ length t + k * length t = omega (arith, suc-mul k (length t)) in
    rw (on, drop-append-add t (copies n t) (k * length t)) (copies_at n t k (omega arith))

-- one more behind them
pub copies_more : (n : ℕ) (t : List ℕ) → copies n t ++ t ≡ copies (suc n) t
unfolding copies
copies_more zero t = sym (append-nil t)
copies_more (suc n) t = append_assoc t (copies n t) t ∙ ap (λ (rest : List ℕ). t ++ rest) (copies_more n t)

-- ---- what an accepted round leaves
module _ (run : Run) (s : State) (ok : refusal_for run s round ≡ 0) where
  so : StateSound run s
  so = round_in_sound run s ok

  left : (after_event run s round).words ≡ (after_all run s (round_merges run)).words
  unfolding outcome
  left = rw (accepted_event_moves run s round ok)

  table : (k : ℕ) → k < run.sites → table_at run (after_all run s (round_merges run)).words k ≡ gathered run s.words
  unfolding gathered
  table k l = rw (← left) (table_after run s so (fitted run s ok) k l)

  wide : length (gathered run s.words) ≡ width run
  wide = rw (← table 0 (some_site run s so)) (site_length run (after_all run s (round_merges run)) (all_sound_law run (round_merges run) s so) 0 (some_site run s so))

  pub level_words : (after_all run s (round_merges run)).words ≡ levelled run s.words
  unfolding levelled table_at
  level_words =
      let many = copies_long run.sites (gathered run s.words) in
      words_by (width run) run.sites _ _ (words_long run _ _ (all_sound_law run (round_merges run) s so).0) (rw (many, wide))
      (λ k l. table k l ∙ (rw (← wide) (sym (copies_at run.sites (gathered run s.words) k l))))

-- ---- words whose tables are equal already: they fit, and are level
module _ (run : Run) (ws : List ℕ) (ok : Repairable run ws) where
  abbrev ready : Ready run ws
  ready = ok.ready

  sizes : (slots : ℕ) → slots ≤ 1024 → sizes_right run (length ws) slots ≡ true
  unfolding sizes_right
  sizes slots few = rw (
    le-leb 1 run.sites ok.some,
    le-leb run.sites 16 ready.sized.few,
    le-leb run.capacity 2048 ready.sized.small,
    le-leb slots 1024 few,
    eq-eqb (length ws) (run.sites * width run) ready.sized.long,
  )

  -- a state with these words, and with the slots and the ledger of a fresh one
  abbrev begun : State
  begun = after_fresh run 0 (lent ws [] (begun_ledger 0))

  begun_sound : StateSound run begun
  unfolding fresh_refusal first_given
  begun_sound = fresh_sound run 0 (lent ws [] (begun_ledger 0)) (rw (sizes 0 (omega arith)))

  no_slots : length begun.slots ≡ 0
  unfolding fresh_refusal first_given after_fresh cleared
  no_slots = rw (sizes 0 (omega arith))

  abbrev with_words : State
  with_words = lent ws begun.slots begun.ledger

  with_sound : StateSound run with_words
  with_sound = (sizes (length begun.slots) (omega (arith, no_slots)), ready.tables, begun_sound.2, begun_sound.3, begun_sound.4)

  module _ (level : (k : ℕ) → k < run.sites → table_at run ws k ≡ table_at run ws 0) where
    level_fit : fit_together run.capacity (all_tables run ws) ≡ true
    level_fit = level_fits run with_words with_sound level

    level_already : levelled run ws ≡ ws
    level_already =
        let ok = taken_accepted run with_words with_sound level_fit in
        sym (level_words run with_words ok) ∙ sym (left run with_words ok) ∙ ap (λ (s : State). s.words) (level_stays run with_words with_sound level)

    level_said : Evened run ws true ws
    level_said = (sym level_fit, rw level_fit (sym level_already))

  pub level_out : {b : Bool} → (b ≡ true → (k : ℕ) → k < run.sites → table_at run ws k ≡ table_at run ws 0) → b ≡ true → Evened run ws b ws
  level_out told is = rw is (level_said (told is))
