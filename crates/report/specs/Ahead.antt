-- The next line of the input, which begins at a place: where it ends, what it asks for, and how the report goes on behind it.
-- Assumes nothing.
use Rattle.std.specs.Prelude.{ℕ, suc, ◌≤◌, ◌<◌, ◌≡◌, List, [], ◌++◌, length, drop, get_or, ◌≢◌, Option, Some, None, MatchOption, EachIndex, slice_index, Result, Ok, Err}
use Rattle.rules.specs.declared.Step.{Step}
use Rattle.rules.specs.declared.Refusal.{Refusal}
use Rattle.rules.specs.meaning.Refusals.{number_of}
use Rattle.rules.specs.meaning.States.{State}
use Rattle.rules.specs.meaning.Calls.{named_after}
use Rattle.rules.specs.meaning.Reports.{report_run, line_end, refused_line, accepted_line, said_of, report_from}

-- the line that begins at `start` is not ended before `end`
pub record Within (input : List ℕ) (start end : ℕ) : Type 0 where
  pub begun : start ≤ end
  pub inside : end ≤ length input
  pub unended : (i : ℕ) → start ≤ i → i < end → get_or input i 0 ≡ line_end → ⊥

-- it ends there, or the input does
pub record Ends (input : List ℕ) (start end : ℕ) : Type 0 where
  pub within : Within input start end
  pub ends : end < length input → get_or input end 0 ≡ line_end

-- how long the line at the front of a text is, if anything ends it
abbrev pub IsLineLength : List ℕ → Option ℕ → Type 0
IsLineLength rest r = MatchOption r (EachIndex rest (λ k. slice_index rest k ≢ line_end))
    (λ n. (n < length rest) × (slice_index rest n ≡ line_end) × ((k : ℕ) → k < n → slice_index rest k ≢ line_end))

-- what a line says, by what was answered to it: its refusal, or what its step has to say
abbrev pub line_told : Result ℕ Refusal → ℕ → Option Step → List ℕ
line_told (Err refusal) n names = refused_line n (number_of refusal)
line_told (Ok value) n (Some step) = accepted_line n step value
line_told (Ok value) n None = []

-- the report from the line on, whatever its number and the state, is what the line says and the report from the next line on
pub record Next (input : List ℕ) (start : ℕ) (names : Option Step) (next : ℕ) : Type 0 where
  pub behind : start < next
  pub inside : next ≤ length input
  pub report : (n : ℕ) (s : State) → report_from n s [] (drop start input) ≡ said_of n s names ++ report_from (suc n) (named_after report_run s names) [] (drop next input)
