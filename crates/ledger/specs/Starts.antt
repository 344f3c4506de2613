-- A start that may not be wanted, as the code does it with no branch over the loop: the counts emptied or as they are, and the links begun of all sites or of none. That is `started_if`.
-- Assumes nothing.
use Rattle.std.specs.Prelude.{ℕ, ◌≡◌, refl, Bool, true, false, cond}
use Rattle.rules.specs.declared.Ledger.{Ledger}
use Rattle.rules.specs.meaning.Links.{over_rows, links_begun}
use Rattle.rules.specs.meaning.Ledgers.{no_counts, started_if}

pub started_if_law : (wanted : Bool) (sites first : ℕ) (l : Ledger) → record { counts = cond wanted no_counts l.counts; pairs = links_begun (cond wanted sites 0) first l.pairs } ≡ started_if wanted sites first l
unfolding started_if links_begun over_rows
started_if_law true sites first l = refl
started_if_law false sites first l = refl
