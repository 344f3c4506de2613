-- Merging one site's table into another's: where the two tables stand, the step's refusals at known tests, and what the table's answer makes of it.
-- Assumes nothing.
use Prim.Native.Nat.{ℕ, ◌+◌, ◌*◌, ◌≤◌, ◌<◌}
use mathlib.Core.Path.{◌≡◌, refl}
use mathlib.Core.Logic.{◌⊎◌, inl, inr}
use mathlib.Core.List.{List}
use lib.ListN.{length}
use borrow.Author.Tests.{lt-leb, ne_eqb}
use Rattle.rules.specs.declared.Run.{Run}
use Rattle.rules.specs.declared.Sight.{Sight}
use Rattle.rules.specs.declared.Step.TheVariants.{Merge}
use Rattle.rules.specs.meaning.Table.{merged, rises}
use Rattle.rules.specs.meaning.Operations.{merge_refusal, merge_answer, merge_table}
use Rattle.rules.specs.meaning.Refusals.{first_given}
use Rattle.rules.specs.meaning.States.{width, table_at, with_table}
use Rattle.rules.specs.meaning.Steps.{effect}
use Rattle.rules.proofs.laws.table.Order.{Side, Side.below, Side.same, Side.above, side}
use Rattle.rules.proofs.laws.run.Sites.{part_fits}
use Rattle.merging.specs.Walks.{Apart, part_at, with_part}
use Rattle.steps.specs.Verdicts.{Ready, table_verdict, step_refusal, step_verdict, step_words}
use Rattle.steps.proofs.Tables.{part_end, table_verdict_law, table_words}

-- a part by its place and its width is the site's table
module _ (run : Run) (ws : List ℕ) (k at wide : ℕ) (start : at ≡ k * width run) (broad : wide ≡ width run) where
  pub site_part : part_at ws at wide ≡ table_at run ws k
  unfolding table_at
  site_part = rw (start, broad)

  pub site_put : (u : List ℕ) → with_part ws at wide u ≡ with_table run ws k u
  unfolding with_table
  site_put u = rw (start, broad)

-- the tables of two sites have no word in common
pub sites_apart : (run : Run) (ws : List ℕ) → Ready run ws → (f t : ℕ) → f < run.sites → t < run.sites → (f ≡ t → ⊥) → (to from wide : ℕ) → to ≡ t * width run
    → from ≡ f * width run → wide ≡ width run → Apart (length ws) to from wide
sites_apart run ws ready f t from_in to_in other to from wide et ef ew =
    rw (et, ef, ew) (record { fits_to = part_end run ws ready t to_in; fits_from = part_end run ws ready f from_in; apart = go (side f t) })
  where
    go : Side f t → (f * width run + width run ≤ t * width run) ⊎ (t * width run + width run ≤ f * width run)
    go (below l) = inl (part_fits f t (width run) l)
    go (same e) = absurd (other e)
    go (above l) = inr (part_fits t f (width run) l)

module _ (run : Run) (ws : List ℕ) (si : Sight) (f t : ℕ) (from_in : f < run.sites) (to_in : t < run.sites) (other : f ≡ t → ⊥) where
  refusal : step_refusal run ws si (Merge f t) ≡ merge_refusal (table_at run ws t) (table_at run ws f)
  unfolding step_refusal first_given merge_refusal effect
  refusal = rw (lt-leb run.sites f from_in, lt-leb run.sites t to_in, ne_eqb f t other)

  pub merge_step : (table_verdict (merge_answer (table_at run ws t) (table_at run ws f)) si.count ≡ step_verdict run ws si (Merge f t))
      × (with_table run ws t (merge_table (table_at run ws t) (table_at run ws f)) ≡ step_words run ws si (Merge f t))
  unfolding merge_answer merge_table effect
  merge_step =
      let v = rises (table_at run ws t) (table_at run ws f) in
      let u = merged (table_at run ws t) (table_at run ws f) in (
        table_verdict_law run ws si (Merge f t) t _ v u refusal refl refl,
        table_words run ws si (Merge f t) t _ v u refusal refl refl refl,
      )
