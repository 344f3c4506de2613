-- One repair round for a run: the merges that it is, its own test, and what they come to.
-- Assumes nothing.
use Rattle.std.specs.Prelude.{ℕ, zero, suc, ◌-◌, ◌&&◌, not, cond, List, [], ◌∷◌, ◌++◌, eqb}
use Rattle.rules.specs.declared.Run.{Run}
use Rattle.rules.specs.declared.Sight.{Sight}
use Rattle.rules.specs.declared.Step.{Step}
use Rattle.rules.specs.declared.Step.TheVariants.{Merge}
use Rattle.rules.specs.meaning.Lengths.{join}
use Rattle.rules.specs.meaning.Refusals.{Test, ◌when◌, first_given}
use Rattle.rules.specs.meaning.States.{State, table_at, sight_of}
use Rattle.rules.specs.meaning.Steps.{Entry, site_in}
use Rattle.rules.specs.meaning.Ids.{fit_together}
use Rattle.rules.specs.meaning.Runs.{judge_tests, refusal_of, after, effect_of}

-- one for each of n numbers, from k on, in rising order
unfoldable pub in_turn : {A : Type 0} → (ℕ → A) → ℕ → ℕ → List A
in_turn of k zero = []
in_turn of k (suc n) = of k ∷ in_turn of (suc k) n

-- the largest of some lengths, 0 if there are none
unfoldable pub largest_of : List ℕ → ℕ
largest_of [] = 0
largest_of (n ∷ ns) = join n (largest_of ns)

module _ (run : Run) where
  -- "site 0 takes in the others in rising order"
  abbrev pub gathering : List Step
  gathering = in_turn (λ (j : ℕ). Merge j 0) 1 (run.sites - 1)

  -- "then each other site takes in site 0"
  abbrev pub handing_out : List Step
  handing_out = in_turn (λ (j : ℕ). Merge 0 j) 1 (run.sites - 1)

  unfoldable pub round_merges : List Step
  round_merges = gathering ++ handing_out

  -- the tables of all sites, as they stand
  abbrev pub all_tables : List ℕ → List (List ℕ)
  all_tables ws = in_turn (table_at run ws) 0 run.sites

  -- "If the distinct ids at all sites are at most C .. Otherwise it is refused with 8", once 1 and 2 have judged the state
  abbrev pub round_tests : List ℕ → List Test
  round_tests ws = (8 when not (fit_together run.capacity (all_tables ws))) ∷ []

  -- by what is seen besides the words
  unfoldable pub round_refusal : List ℕ → Sight → ℕ
  round_refusal ws si = first_given (judge_tests run ws si ++ round_tests ws)

  -- ---- steps one after the other
  -- the state after them
  unfoldable pub after_all : State → List Step → State
  after_all s [] = s
  after_all s (step ∷ steps) = after_all (after run s step) steps

  -- what one gives to a site, by which it may gain
  unfoldable pub given_in : State → ℕ → Step → List Entry
  given_in s k step = cond (eqb (refusal_of run s step) 0 && eqb (site_in run (sight_of run s step) step) k) (effect_of run s step).gain.given []

  -- and all of them: "from the table as it then stands"
  unfoldable pub given_by : State → ℕ → List Step → List Entry
  given_by s k [] = []
  given_by s k (step ∷ steps) = given_in s k step ++ given_by (after run s step) k steps
