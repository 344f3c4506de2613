-- The words of a report's run: as many as it has, and each table sound.
-- Assumes nothing.
use Rattle.std.specs.Prelude.{ℕ, ◌<◌, ◌≡◌, List, length}
use Rattle.rules.specs.meaning.Table.{SoundTable}
use Rattle.rules.specs.meaning.States.{table_at}
use Rattle.rules.specs.meaning.Reports.{report_run}

pub record ThreeTables (ws : List ℕ) : Type 0 where
  pub count : length ws ≡ 48
  pub sound : (k : ℕ) → k < 3 → SoundTable (table_at report_run ws k)
