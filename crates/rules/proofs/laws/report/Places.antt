-- How a report goes on, said of places in the input: the line so far is the part from its first byte up to the place. And the states of a
-- report, which are sound.
-- Assumes nothing.
use Rattle.std.specs.Prelude.{ℕ, suc, ◌+◌, ◌≤◌, ◌<◌, ◌≡◌, refl, List, [], ◌∷◌, ◌++◌, length, replicate, get_or, take, drop, Option}
use Rattle.rules.specs.declared.Step.{Step}
use Rattle.std.proofs.Common.{le_refl, arith, sym, ap, ◌∙◌, length-append, length-take-le, take-suc, drop-cons}
use Rattle.std.proofs.Math.Seq.{slice, slice_empty, length-slice, drop-length}
use Rattle.std.proofs.lemmas.List.{drop-append-le}
use Rattle.rules.specs.declared.Parcel.{Parcel}
use Rattle.rules.specs.meaning.Table.{unused, sound_from}
use Rattle.rules.specs.meaning.Parcels.{no_parcel, cleared, is_free, is_occupied, slots_sound, waiting}
use Rattle.rules.specs.meaning.Links.{pair_sound, over_row, over_rows, links_sound, links_begun}
use Rattle.rules.specs.meaning.Ledgers.{counts_sound}
use Rattle.rules.specs.meaning.States.{State, sizes_right, tables_sound, StateSound}
use Rattle.rules.specs.meaning.Refusals.{first_given}
use Rattle.rules.specs.meaning.Runs.{fresh_refusal, after_fresh}
use Rattle.rules.proofs.laws.run.Bursts.{named_sound}
use Rattle.rules.specs.meaning.StepLines.{step_of}
use Rattle.rules.specs.meaning.Calls.{named_after}
use Rattle.rules.specs.meaning.Reports.{report_run, report_ledger, report_start, line_end, refused_line, end_lines, said_of, report_from, report_of}
use Rattle.rules.proofs.laws.report.Fits.{report_line, report_byte, report_done, report_unended}

-- one more byte of a part
pub slice_more : (l : List ℕ) (f i : ℕ) → f ≤ i → i < length l → slice f (suc i) l ≡ slice f i l ++ (get_or l i 0 ∷ [])
slice_more l f i p h =
    let long : length (take i l) ≡ i = length-take-le i l (omega arith) in
    ap (drop f) (take-suc l i 0 h) ∙ drop-append-le f (take i l) (get_or l i 0 ∷ []) (omega arith)

-- the line that begins at f, with its bytes before i read
module _ (n : ℕ) (s : State) (input : List ℕ) (f i : ℕ) where
  -- at a line's end its step is run, and the next line begins behind it
  pub report_line_at : i < length input → get_or input i 0 ≡ line_end
      → report_from n s (slice f i input) (drop i input)
      ≡ said_of n s (step_of (slice f i input)) ++ report_from (suc n) (named_after report_run s (step_of (slice f i input))) (slice (suc i) (suc i) input) (drop (suc i) input)
  report_line_at h e =
      rw (drop-cons input i 0 h, slice_empty (suc i) input) (report_line n s (slice f i input) (get_or input i 0) (drop (suc i) input) e)

  -- every other byte is one more of the line
  pub report_byte_at : f ≤ i → i < length input → (get_or input i 0 ≡ line_end → ⊥)
      → report_from n s (slice f i input) (drop i input) ≡ report_from n s (slice f (suc i) input) (drop (suc i) input)
  report_byte_at p h e =
      rw (drop-cons input i 0 h, slice_more input f i p h) (report_byte n s (slice f i input) (get_or input i 0) (drop (suc i) input) e)

-- at the end of the input: every line has its end
pub report_done_at : (n : ℕ) (s : State) (input : List ℕ) → report_from n s (slice (length input) (length input) input) (drop (length input) input) ≡ end_lines s
report_done_at n s input = rw (slice_empty (length input) input, drop-length input) (report_done n s)

-- or the last piece has none
pub report_unended_at : (n : ℕ) (s : State) (input : List ℕ) (f : ℕ) → f < length input
    → report_from n s (slice f (length input) input) (drop (length input) input) ≡ refused_line n 11 ++ end_lines s
report_unended_at n s input f h =
    let some : 0 < length (slice f (length input) input) = omega (arith, length-slice f (length input) input (le_refl (length input))) in
    rw (drop-length input) (report_unended n s (slice f (length input) input) some)

-- at the front nothing is read
pub report_first : (input : List ℕ) → report_of input ≡ report_from 1 report_start (slice 0 0 input) (drop 0 input)
unfolding report_of
report_first input = refl

-- what was told, with what is told next, has the room that the whole has
pub next_fits : (told next rest whole : List ℕ) (room : ℕ) → told ++ (next ++ rest) ≡ whole → length whole ≤ room → length told + length next ≤ room
next_fits told next rest whole room e h =
    let all : length told + length (next ++ rest) ≡ length whole = sym (length-append told (next ++ rest)) ∙ ap length e in
    omega (arith, length-append next rest)

-- ---- the states of a report
all_cleared : (ps : List Parcel) → cleared (length ps) ps ≡ replicate (length ps) no_parcel
unfolding cleared
all_cleared [] = refl
all_cleared (p ∷ ps) = ap (λ (l : List Parcel). no_parcel ∷ l) (all_cleared ps)

-- "from fresh", "each pair at 0": whatever 48 words, 8 slots and counts are made fresh from serial 0 on, the run begins where a report begins
pub start_fresh : (s : State) → length s.words ≡ 48 → length s.slots ≡ 8 → s.ledger.pairs ≡ report_ledger.pairs → after_fresh report_run 0 s ≡ report_start
unfolding fresh_refusal first_given sizes_right after_fresh links_begun over_rows over_row
start_fresh s w k p = rw (all_cleared s.slots, w, k, p)

-- they are sound, so no line of a report tells of 1 or 2
pub start_sound : StateSound report_run report_start
unfolding unused sound_from is_free is_occupied slots_sound waiting counts_sound sizes_right tables_sound links_sound over_rows over_row pair_sound
start_sound = (refl, refl, refl, refl, refl)

pub state_sound : (s : State) (r : Option Step) → StateSound report_run s → StateSound report_run (named_after report_run s r)
state_sound s r h = named_sound report_run s h r
