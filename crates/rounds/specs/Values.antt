-- What a repair round answers, and which words it leaves, by what is seen besides the words.
-- Assumes nothing.
use Rattle.std.specs.Prelude.{ℕ, zero, suc, ◌-◌, ◌≤◌, ◌≡◌, Bool, cond, List, [], ◌++◌, length}
use Rattle.rules.specs.meaning.Operations.{Answer}
use Rattle.rules.specs.declared.Run.{Run}
use Rattle.rules.specs.declared.Sight.{Sight}
use Rattle.rules.specs.meaning.Operations.{answer, unless_refused}
use Rattle.rules.specs.meaning.States.{table_at}
use Rattle.rules.specs.meaning.Ids.{fit_together}
use Rattle.rules.specs.meaning.Rounds.{in_turn, all_tables, round_merges, round_refusal}
use Rattle.rules.specs.meaning.Repairs.{taken_in}
use Rattle.steps.specs.Verdicts.{Ready}

-- what the judge leaves to a round: words of the right sizes, sound tables, and one site at least
pub record Repairable (run : Run) (ws : List ℕ) : Type 0 where
  pub ready : Ready run ws
  pub some : 1 ≤ run.sites

-- a table so many times, one after the other
unfoldable pub copies : ℕ → List ℕ → List ℕ
copies zero t = []
copies (suc n) t = t ++ copies n t

module _ (run : Run) (ws : List ℕ) where
  -- the table of site 0 with those of all others taken in
  unfoldable pub gathered : List ℕ
  gathered = taken_in (table_at run ws 0) (in_turn (table_at run ws) 1 (run.sites - 1))

  -- that table at every site
  unfoldable pub levelled : List ℕ
  levelled = copies run.sites gathered

  -- whether all tables fit one together: then the words are level, and else as they were
  abbrev pub Evened : Bool → List ℕ → Type 0
  Evened fits us = (fits ≡ fit_together run.capacity (all_tables run ws)) × (us ≡ cond (fit_together run.capacity (all_tables run ws)) levelled ws)

  module _ (si : Sight) where
    abbrev pub answer_seen : Answer
    answer_seen = answer (round_refusal run ws si) (length (round_merges run))

    abbrev pub words_seen : List ℕ
    words_seen = unless_refused (round_refusal run ws si) ws levelled
