-- The lag query: how far the newest serial heard on a link is from the last one sent there. It writes nothing.
-- Assumes nothing.
use Rattle.std.specs.Prelude.{ℕ, zero, suc, Bool, ◌||◌, not, List, [], ◌∷◌, ◌++◌, eqb, ℤ, pos, Result}
use Rattle.rules.specs.declared.Run.{Run}
use Rattle.rules.specs.declared.Pair.{Pair}
use Rattle.rules.specs.declared.Sight.{Sight}
use Rattle.rules.specs.declared.Refusal.{Refusal}
use Rattle.rules.specs.meaning.Serials.{serial_before, is_ordered, lag_of}
use Rattle.rules.specs.meaning.Parcels.{no_parcel}
use Rattle.rules.specs.meaning.Links.{link_between, stands}
use Rattle.rules.specs.meaning.Refusals.{Test, ◌when◌, first_given, number_in, value_in}
use Rattle.rules.specs.meaning.States.{State, sight_with}
use Rattle.rules.specs.meaning.Steps.{outside}
use Rattle.rules.specs.meaning.Runs.{judge_tests}

-- 16: "nothing sent or nothing heard on that pair"
unfoldable pub silent : Pair → Bool
silent p = stands p.unsent || stands p.unheard

-- the last one sent is the one before the next
abbrev pub last_sent : Pair → ℕ
last_sent p = serial_before p.next

-- 15: the newest heard and the last sent "cannot be ordered"
unfoldable pub lag_undefined : Pair → Bool
lag_undefined p = not (is_ordered p.heard (last_sent p))

-- "15 .. on a query after 1 to 4"; "16, on a query only and before 15"
abbrev pub lag_tests : Run → Pair → ℕ → ℕ → List Test
lag_tests run p from to = (3 when (outside run from || outside run to)) ∷ (4 when eqb from to) ∷ (16 when silent p) ∷ (15 when lag_undefined p) ∷ []

-- what the lag query answers: 0 or the number of its refusal, and the lag, which is 0 on a refusal
pub record Lag : Type 0 where
  pub refusal : ℕ
  pub lag : ℤ

abbrev pub as_lag : Result ℤ Refusal → Lag
as_lag r = record { refusal = number_in r; lag = value_in (pos 0) r }

-- "gives the lag as a signed number, the newest heard minus the last sent"
abbrev pub lag_given : ℕ → Pair → Lag
lag_given zero p = record { refusal = 0; lag = lag_of p.heard (last_sent p) }
lag_given (suc r) p = record { refusal = suc r; lag = pos 0 }

-- by what the query sees besides the words
unfoldable pub lag_in : Run → List ℕ → Sight → ℕ → ℕ → Lag
lag_in run ws si from to = lag_given (first_given (judge_tests run ws si ++ lag_tests run si.books.pair from to)) si.books.pair

-- of the link from one site to another, in a state
unfoldable pub lag_answer : Run → State → ℕ → ℕ → Lag
lag_answer run s from to = lag_in run s.words (sight_with no_parcel (link_between run.sites from to) run s) from to
