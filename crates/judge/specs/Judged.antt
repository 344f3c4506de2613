-- What the judge tells from the words and from what was seen besides them, and what it then knows of the sizes.
-- Assumes nothing.
use Rattle.std.specs.Prelude.{ℕ, ◌*◌, ◌≤◌, ◌≡◌, List}
use Rattle.rules.specs.declared.Run.{Run}
use Rattle.rules.specs.declared.Parcel.{Parcel}
use Rattle.rules.specs.declared.Seen.{Seen}
use Rattle.rules.specs.declared.Scan.{Scan}
use Rattle.rules.specs.declared.Sight.{Sight}
use Rattle.rules.specs.meaning.Refusals.{first_given}
use Rattle.rules.specs.meaning.States.{width}
use Rattle.rules.specs.meaning.Runs.{judge_tests}

-- 1, 2, or 0 where neither is given
unfoldable pub judgement : Run → List ℕ → Sight → ℕ
judgement run ws si = first_given (judge_tests run ws si)

-- what is seen, from its parts
abbrev pub seen_as : Scan → Parcel → ℕ → Seen → Sight
seen_as scan held slots books = record { scan = scan; named = held; count = slots; books = books }

-- sizes that are right, for so many words
pub record Sized (run : Run) (n : ℕ) : Type 0 where
  pub few : run.sites ≤ 16
  pub small : run.capacity ≤ 2048
  pub long : n ≡ run.sites * width run
