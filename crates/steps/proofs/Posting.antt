-- A send of an id that is not held, and of one that is.
-- Assumes nothing.
use Rattle.std.specs.Prelude.{ℕ, ◌<◌, ◌≡◌, List}
use borrow.Author.Tests.{lt-leb, eq-eqb, ne_eqb}
use Rattle.rules.specs.declared.Run.{Run}
use Rattle.rules.specs.declared.Sight.{Sight}
use Rattle.rules.specs.declared.Step.TheVariants.{Send}
use Rattle.rules.specs.meaning.Table.{length_of}
use Rattle.rules.specs.meaning.Links.{sent_pair}
use Rattle.rules.specs.meaning.Ledgers.{sent_counter}
use Rattle.rules.specs.meaning.Refusals.{first_given}
use Rattle.rules.specs.meaning.States.{table_at}
use Rattle.rules.specs.meaning.Steps.{effect}
use Rattle.steps.specs.Verdicts.{posted, step_refusal, step_verdict}

-- ---- send
module _ (run : Run) (ws : List ℕ) (si : Sight) (f t e : ℕ) (from_in : f < run.sites) (to_in : t < run.sites) (other : f ≡ t → ⊥) where
  pub send_unheld : length_of (table_at run ws f) e ≡ 0 → step_refusal run ws si (Send f t e) ≡ 6
  unfolding step_refusal first_given effect
  send_unheld z = rw (lt-leb run.sites f from_in, lt-leb run.sites t to_in, ne_eqb f t other, eq-eqb (length_of (table_at run ws f) e) 0 z)

  pub send_step : (length_of (table_at run ws f) e ≡ 0 → ⊥) → (n : ℕ) → n ≡ length_of (table_at run ws f) e
      → posted si (record { site = t; id = e; length = n; sender = f; serial = si.books.pair.next }) sent_counter si.books.counts.sent si.books.link (sent_pair si.books.pair) ≡ step_verdict run ws si (Send f t e)
  unfolding posted step_refusal first_given effect
  send_step z n q =
      rw (q, lt-leb run.sites f from_in, lt-leb run.sites t to_in, ne_eqb f t other, ne_eqb (length_of (table_at run ws f) e) 0 z)
