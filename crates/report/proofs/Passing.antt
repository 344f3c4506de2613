-- The pass over the input: what is known before each line, and how a line keeps it.
-- Assumes nothing.
use Prim.Native.Nat.{ℕ, zero, suc, ◌+◌, ◌-◌, ◌≤◌, ◌<◌}
use native.Mathlib.Omega.{arith}
use native.Mathlib.Numerals.{add-one}
use mathlib.Core.Path.{◌≡◌, refl, sym, ap, subst, ◌∙◌}
use mathlib.Core.List.{List, [], ◌∷◌, ◌++◌, append-nil}
use lib.ListN.{length, take, drop, get_or, length-drop, replicate}
use Rattle.std.proofs.lemmas.List.{get_or-drop}
use Rattle.std.proofs.lemmas.List.{take_rest}
use lib.Seq.{slice, slice_empty, drop-length}
use Rattle.std.specs.Prelude.{Option, None, Result}
use Rattle.rules.specs.declared.Refusal.{Refusal}
use Rattle.rules.specs.declared.Step.{Step}
use Rattle.rules.specs.meaning.Operations.{as_answer}
use Rattle.rules.specs.declared.Parcel.{Parcel}
use Rattle.rules.specs.declared.Counts.{Counts}
use Rattle.rules.specs.meaning.Parcels.{no_parcel}
use Rattle.rules.specs.meaning.Ledgers.{no_counts}
use Rattle.rules.specs.meaning.Links.{start_pair}
use Rattle.rules.specs.meaning.States.{State, lent, StateSound}
use Rattle.rules.specs.meaning.Runs.{after}
use Rattle.rules.specs.meaning.Put.{put}
use Rattle.rules.specs.meaning.StepLines.{step_of}
use Rattle.rules.specs.meaning.Calls.{named_answer, named_after}
use Rattle.rules.specs.meaning.Reports.{report_run, report_start, line_end, input_limit, end_room, refused_line, end_lines, said_of, report_from, report_of}
use Rattle.rules.proofs.laws.report.Fits.{report_done, report_starts, report_fits}
use Rattle.rules.proofs.laws.report.Parts.{end_within}
use Rattle.rules.proofs.laws.report.Places.{report_line_at, report_byte_at, report_unended_at, start_sound, state_sound}
use Rattle.report.specs.Said.{Sayable, Said}
use Rattle.report.specs.Ahead.{Ends, line_told, Next}
use Rattle.report.proofs.Saying.{Still, still_all, still_as, still_next, still_sayable}
use Rattle.report.proofs.Words.{said_none, said_told, said_short}

-- ---- where a line ends
-- the bytes from a place on, as the code takes them
abbrev pub rest_of : List ℕ → ℕ → List ℕ
rest_of input start = take (length input - start) (drop start input)

rest_at : (input : List ℕ) (start k : ℕ) → get_or (rest_of input start) k 0 ≡ get_or input (start + k) 0
rest_at input start k = ap (λ (l : List ℕ). get_or l k 0) (take_rest input start) ∙ get_or-drop start input k 0

rest_long : (input : List ℕ) (start : ℕ) → length (rest_of input start) ≡ length input - start
rest_long input start = ap length (take_rest input start) ∙ length-drop start input

unended_to : (input : List ℕ) (start n : ℕ) → ((k : ℕ) → k < n → get_or (rest_of input start) k 0 ≡ line_end → ⊥) → (i : ℕ) → start ≤ i → i < start + n → get_or input i 0 ≡ line_end → ⊥
unended_to input start n before i from to e =
    let there : start + (i - start) ≡ i = omega arith in
    before (i - start) (omega arith) (rest_at input start (i - start) ∙ ap (λ (k : ℕ). get_or input k 0) there ∙ e)

ends_at : (input : List ℕ) (start n : ℕ) → n < length (rest_of input start) → get_or (rest_of input start) n 0 ≡ line_end → ((k : ℕ) → k < n → get_or (rest_of input start) k 0 ≡ line_end → ⊥) → Ends input start (start + n)
ends_at input start n inside at before = record {
  within = record { begun = omega arith; inside = omega (arith, rest_long input start); unended = unended_to input start n before };
  ends = λ h. sym (rest_at input start n) ∙ at;
}

ends_never : (input : List ℕ) (start : ℕ) → start ≤ length input → ((k : ℕ) → k < length (rest_of input start) → get_or (rest_of input start) k 0 ≡ line_end → ⊥) → Ends input start (length input)
ends_never input start begun none =
    let whole : start + length (rest_of input start) ≡ length input = omega (arith, rest_long input start) in
    record {
      within = record { begun = begun; inside = omega arith; unended = λ i from to e. unended_to input start (length (rest_of input start)) none i from (omega arith) e };
      ends = λ h. absurd (omega arith);
    }

-- ---- what it asks for
-- the bytes from one place up to another, as the code takes them and as the laws of `ReportPlaces` say them
part_is : (input : List ℕ) (start end : ℕ) → start ≤ end → take (end - start) (drop start input) ≡ slice start end input
part_is input zero end h = let z : end - 0 ≡ end = omega arith in ap (λ (k : ℕ). take k input) z
part_is input (suc start) zero h = absurd (omega arith)
part_is [] (suc start) (suc end) h = none (suc end - suc start)
  where
    none : (k : ℕ) → ◌≡◌ {A = List ℕ} (take k []) []
    none zero = refl
    none (suc k) = refl
part_is (c ∷ cs) (suc start) (suc end) h = let z : suc end - suc start ≡ end - start = omega arith in ap (λ (k : ℕ). take k (drop start cs)) z ∙ part_is cs start end (omega arith)

module _ (input : List ℕ) (start : ℕ) where
  -- with k bytes read that end no line, the report is what it was
  read_on : (n : ℕ) (s : State) (k : ℕ) → start + k ≤ length input → ((i : ℕ) → start ≤ i → i < start + k → get_or input i 0 ≡ line_end → ⊥)
      → report_from n s (slice start start input) (drop start input) ≡ report_from n s (slice start (start + k) input) (drop (start + k) input)
  read_on n s zero h none = let z : start + 0 ≡ start = omega arith in rw z
  read_on n s (suc k) h none =
      let z : start + suc k ≡ suc (start + k) = omega arith in
      read_on n s k (omega arith) (λ i a b. none i a (omega arith))
      ∙ report_byte_at n s input start (start + k) (omega arith) (omega arith) (none (start + k) (omega arith) (omega arith))
      ∙ ap (λ (i : ℕ). report_from n s (slice start i input) (drop i input)) (sym z)

  module _ (end : ℕ) (e : Ends input start end) where
    up_to : (n : ℕ) (s : State) → report_from n s [] (drop start input) ≡ report_from n s (slice start end input) (drop end input)
    up_to n s =
        let w = e.within in
        let z : start + (end - start) ≡ end = omega (arith, w.begun) in
        ap (λ (l : List ℕ). report_from n s l (drop start input)) (sym (slice_empty start input))
        ∙ read_on n s (end - start) (omega (arith, w.begun, w.inside)) (λ i a b. w.unended i a (omega (arith, w.begun)))
        ∙ ap (λ (i : ℕ). report_from n s (slice start i input) (drop i input)) z

    -- the line is ended
    next_line : (named : Option Step) → end < length input → named ≡ step_of (take (end - start) (drop start input)) → Next input start named (end + 1)
    next_line named h read = record {
      behind = omega (arith, e.within.begun);
      inside = omega arith;
      report = λ n s. up_to n s ∙ report_line_at n s input start end h (e.ends h) ∙ goes_on n s;
    }
      where
        same : step_of (slice start end input) ≡ named
        same = ap step_of (sym (part_is input start end e.within.begun)) ∙ sym read

        goes_on : (n : ℕ) (s : State)
            → said_of n s (step_of (slice start end input)) ++ report_from (suc n) (named_after report_run s (step_of (slice start end input))) (slice (suc end) (suc end) input) (drop (suc end) input)
            ≡ said_of n s named ++ report_from (suc n) (named_after report_run s named) [] (drop (end + 1) input)
        goes_on n s = rw (same, slice_empty (suc end) input, add-one end)

    -- or the input ends before it
    next_unended : start < length input → end ≡ length input → Next input start None end
    unfolding named_after
    next_unended h at = record {
      behind = omega arith;
      inside = omega arith;
      report = λ n s. up_to n s ∙ ap (λ (i : ℕ). report_from n s (slice start i input) (drop i input)) at ∙ report_unended_at n s input start h ∙ goes_on n s;
    }
      where
        goes_on : (n : ℕ) (s : State) → refused_line n 11 ++ end_lines s ≡ said_of n s None ++ report_from (suc n) s [] (drop end input)
        goes_on n s = rw (said_none n s None refl, at, drop-length input, report_done (suc n) s)

-- ---- by the length of the line at the front
pub next_ended : (input : List ℕ) (start n : ℕ) (named : Option Step) → n < length (rest_of input start) → get_or (rest_of input start) n 0 ≡ line_end → ((k : ℕ) → k < n → get_or (rest_of input start) k 0 ≡ line_end → ⊥)
    → named ≡ step_of (take n (rest_of input start)) → Next input start named (start + n + 1)
next_ended input start n named inside at before read =
    let long : (start + n) - start ≡ n = omega arith in
    let same : take n (rest_of input start) ≡ take ((start + n) - start) (drop start input) = rw (take_rest input start, long) in
    next_line input start (start + n) (ends_at input start n inside at before) named (omega (arith, rest_long input start)) (read ∙ ap step_of same)

pub next_last : (input : List ℕ) (start : ℕ) → start < length input → ((k : ℕ) → k < length (rest_of input start) → get_or (rest_of input start) k 0 ≡ line_end → ⊥) → Next input start None (length input)
next_last input start h none = next_unended input start (length input) (ends_never input start (omega arith) none) h refl

-- ---- the pass
-- line n begins at `start`, the state is s, and what is left of the report goes to `place`; `first` is the buffer as it was lent
pub record Passed (input first out : List ℕ) (s : State) (n start place : ℕ) : Type 0 where
  pub inside : start ≤ length input
  pub count : n ≤ start + 1
  pub sound : StateSound report_run s
  pub left : Still out place (report_from n s [] (drop start input)) (0 + length (report_of input)) (put first 0 (report_of input))

passed_start : (input first : List ℕ) → (0 < length first → length (report_of input) ≤ length first) → Passed input first first report_start 1 0 0
passed_start input first r = record {
  inside = omega arith;
  count = omega arith;
  sound = start_sound;
  left = still_as (report_starts input) (still_all first 0 (report_of input) (λ some. omega (arith, r some)));
}

-- what the code begins with, by the values that it takes for what is free and for no count
pub passed_begun : (input first : List ℕ) → (0 < length first → length (report_of input) ≤ length first) → (none : Parcel) (counts : Counts) → none ≡ no_parcel → counts ≡ no_counts
    → Passed input first first (lent (replicate 48 0) (replicate 8 none) (record { counts = counts; pairs = replicate 256 (start_pair 0) })) 1 0 0
passed_begun input first r none counts e f = rw (e, f) (passed_start input first r)

-- a line, where what was answered and left is what the line asks for
module _ (input first out : List ℕ) (s : State) (n start place : ℕ) (p : Passed input first out s n start place) (names : Option Step) (next : ℕ) (ahead : Next input start names next)
    (a : Result ℕ Refusal) (left : State) (answered : as_answer a ≡ named_answer report_run s names) (after : left ≡ named_after report_run s names) where
  says : (said_of n s names ≡ line_told a n names) × (left ≡ named_after report_run s names)
  says = (said_told n s names a answered, after)

  line_left : Still out place (line_told a n names ++ report_from (n + 1) left [] (drop next input)) (0 + length (report_of input)) (put first 0 (report_of input))
  line_left = still_as (ahead.report n s ∙ rw (says.0, says.1, add-one n)) p.left

  pub line_sayable : length input ≤ input_limit → Sayable 99 out place (line_told a n names)
  line_sayable small =
      still_sayable 99 (line_told a n names) _ line_left
      (subst (λ (t : List ℕ). length t ≤ 99) says.0 (said_short n s names (omega (arith, p.count, p.inside))))
      (omega (arith, report_fits input small))

  pub passed_line : (place' : ℕ) (after : List ℕ) → Said out place (line_told a n names) place' after → length after ≡ length out → Passed input first after left (n + 1) next place'
  passed_line place' after w long = record {
    inside = ahead.inside;
    count = omega (arith, p.count, ahead.behind);
    sound = rw says.1 (state_sound s names p.sound);
    left = still_next (line_told a n names) _ line_left w long;
  }

-- ---- the end of the input: only the end of the report is left
pub passed_end : (input first out : List ℕ) (s : State) (n start place : ℕ) → Passed input first out s n start place → length input ≤ start
    → Still out place (end_lines s) (0 + length (report_of input)) (put first 0 (report_of input))
passed_end input first out s n start place p over =
    let at : start ≡ length input = omega (arith, p.inside) in
    still_as (rw (at, drop-length input) (report_done n s)) p.left

pub end_sayable : {out : List ℕ} {place : ℕ} {wanted : List ℕ} (input : List ℕ) → length input ≤ input_limit → (s : State) → Still out place (end_lines s) (0 + length (report_of input)) wanted → Sayable end_room out place (end_lines s)
end_sayable input small s l =
    still_sayable end_room (end_lines s) [] (still_as (sym (append-nil (end_lines s))) l) (end_within s) (omega (arith, report_fits input small))
