-- A fresh run, by its sizes: all three things as they begin, or as they were.
-- Assumes nothing.
use Rattle.std.specs.Prelude.{◌≡◌, true, false, List, ℕ, length, replicate}
use Rattle.std.proofs.Common.{refl}
use Rattle.rules.specs.declared.Ledger.{Ledger}
use Rattle.rules.specs.declared.Parcel.{Parcel}
use Rattle.rules.specs.declared.Run.{Run}
use Rattle.rules.specs.meaning.Ledgers.{started_if}
use Rattle.rules.specs.meaning.Parcels.{cleared}
use Rattle.rules.specs.meaning.Refusals.{first_given}
use Rattle.rules.specs.meaning.States.{lent, sizes_right}
use Rattle.rules.specs.meaning.Runs.{fresh_refusal, after_fresh, Freshened}

module _ (sizes : Run) (first : ℕ) (ws : List ℕ) (ss : List Parcel) (l : Ledger) where
  pub begun : sizes_right sizes (length ws) (length ss) ≡ true → (ws' : List ℕ) (ss' : List Parcel) (l' : Ledger) → ws' ≡ replicate (length ws) 0 → ss' ≡ cleared (length ss) ss → l' ≡ started_if true sizes.sites first l
      → Freshened sizes first (lent ws ss l) 0 (lent ws' ss' l')
  unfolding fresh_refusal first_given after_fresh started_if
  begun right ws' ss' l' e f g = record { refusal = rw right refl; state = rw (e, f, g, right) refl }

  pub not_begun : sizes_right sizes (length ws) (length ss) ≡ false → Freshened sizes first (lent ws ss l) 1 (lent ws ss l)
  unfolding fresh_refusal first_given after_fresh
  not_begun wrong = record { refusal = rw wrong refl; state = rw wrong refl }
