-- A site's table as a part of the words, and a step that works on one table.
-- Assumes nothing.
use Prim.Native.Nat.{ℕ, zero, suc, ◌+◌, ◌*◌, ◌-◌, ◌≤◌, ◌<◌}
use native.Mathlib.Omega.{arith}
use mathlib.Core.Path.{◌≡◌, refl, ap, ◌∙◌}
use mathlib.Core.Bool.{Bool, true, false, ◌||◌}
use mathlib.Core.List.{List, ◌∷◌, ◌++◌}
use lib.Dec.{eqb}
use lib.ListN.{length, take, drop}
use lib.Seq.{length-take-le}
use lib.ListN.{length-drop}
use Rattle.rules.specs.declared.Run.{Run}
use Rattle.rules.specs.declared.Sight.{Sight}
use Rattle.rules.specs.declared.Step.{Step}
use Rattle.rules.specs.meaning.Lengths.{M}
use Rattle.rules.specs.meaning.Table.{SoundTable}
use Rattle.rules.specs.meaning.Operations.{answer, unless_refused}
use Rattle.rules.specs.meaning.States.{width, table_at, with_table}
use Rattle.rules.specs.meaning.Refusals.{Test, first_given, ◌when◌}
use Rattle.rules.specs.meaning.Steps.{no_post, outside, effect}
use Rattle.rules.proofs.laws.run.Sites.{part_fits, tables_at, with_own}
use Rattle.steps.specs.Verdicts.{Ready, verdict, refused_verdict, table_verdict, sites_tests, step_refusal, step_verdict, step_words}

-- the part from a word up to a word is the site's table, and what is put there is the site's table
module _ (run : Run) (ws : List ℕ) (k from to : ℕ) (at : from ≡ k * width run) (end : to ≡ k * width run + width run) where
  wide : to - from ≡ width run
  wide = omega arith

  pub part_is : take (to - from) (drop from ws) ≡ table_at run ws k
  unfolding table_at
  part_is = rw (wide, at)

  pub put_is : (t : List ℕ) → take from ws ++ (t ++ drop (to - from) (drop from ws)) ≡ with_table run ws k t
  unfolding with_table
  put_is t = rw (wide, at)

  -- what a callee says of the part, said of the table
  pub told_of : {A : Type 0} (f : List ℕ → A) {a : A} → a ≡ f (take (to - from) (drop from ws)) → a ≡ f (table_at run ws k)
  told_of f e = e ∙ ap f part_is

  pub put_of : (f : List ℕ → List ℕ) {t : List ℕ} → t ≡ f (take (to - from) (drop from ws))
      → take from ws ++ (t ++ drop (to - from) (drop from ws)) ≡ with_table run ws k (f (table_at run ws k))
  put_of f {t} e = put_is t ∙ ap (with_table run ws k) (told_of f e)

module _ (run : Run) (ws : List ℕ) (ready : Ready run ws) (k : ℕ) (inside : k < run.sites) where
  pub part_end : k * width run + width run ≤ length ws
  part_end = omega (arith, part_fits k run.sites (width run) inside, ready.sized.long)

  pub site_sound : SoundTable (table_at run ws k)
  unfolding table_at
  site_sound = tables_at M (width run) run.sites ws ready.tables k inside

  pub site_length : length (table_at run ws k) ≡ width run
  unfolding table_at
  site_length = length-take-le (width run) (drop (k * width run) ws) (simp length-drop (omega (arith, part_end)))

  -- so is the part from its first word up to the word after its last
  pub part_sound : (from to : ℕ) → from ≡ k * width run → to ≡ k * width run + width run → SoundTable (take (to - from) (drop from ws))
  part_sound from to at end = rw (part_is run ws k from to at end) site_sound

-- ---- a verdict that is a table's answer
verdict_table : (r v : ℕ) (si : Sight) → table_verdict (answer r v) si.count ≡ verdict r v (no_post si) si.count
verdict_table zero v si = refl
verdict_table (suc r) v si = refl

pub kept : (r : ℕ) (run : Run) (ws : List ℕ) (k : ℕ) (u : List ℕ)
    → with_table run ws k (unless_refused r (table_at run ws k) u) ≡ unless_refused r ws (with_table run ws k (unless_refused r (table_at run ws k) u))
kept zero run ws k u = refl
kept (suc r) run ws k u = with_own run ws k

-- a step that only works on a table: its refusal is the table's, and so is its value
module _ (run : Run) (ws : List ℕ) (si : Sight) (step : Step) (k r v : ℕ) (u : List ℕ) (refusal : step_refusal run ws si step ≡ r) (value : (effect run ws si step).value ≡ v)
    (post : (effect run ws si step).post ≡ no_post si) where
  pub table_verdict_law : table_verdict (answer r v) si.count ≡ step_verdict run ws si step
  table_verdict_law = rw (refusal, value, post) (verdict_table r v si)

  pub table_words : (effect run ws si step).gain.words ≡ with_table run ws k (unless_refused r (table_at run ws k) u) → with_table run ws k (unless_refused r (table_at run ws k) u) ≡ step_words run ws si step
  table_words words = rw (refusal, words) (kept r run ws k u)

-- a step that is refused by its own tests
module _ (run : Run) (ws : List ℕ) (si : Sight) (step : Step) where
  pub refused_law : (r : ℕ) → step_refusal run ws si step ≡ suc r → (refused_verdict (suc r) si.count ≡ step_verdict run ws si step) × (ws ≡ step_words run ws si step)
  refused_law r refusal = rw refusal (refl, refl)

  -- 3 or 4, where these are its first tests
  pub sites_refused : (f t : ℕ) (ts : List Test) → (effect run ws si step).tests ≡ (3 when (outside run f || outside run t)) ∷ (4 when eqb f t) ∷ ts
      → (r : ℕ) → 0 < r → r ≡ first_given (sites_tests run f t) → (refused_verdict r si.count ≡ step_verdict run ws si step) × (ws ≡ step_words run ws si step)
  unfolding step_refusal first_given
  sites_refused f t ts own r some h = go (outside run f || outside run t) refl (eqb f t) refl
    where
      go : (a : Bool) → (outside run f || outside run t) ≡ a → (b : Bool) → eqb f t ≡ b → (refused_verdict r si.count ≡ step_verdict run ws si step) × (ws ≡ step_words run ws si step)
      go true p b q = let e : r ≡ 3 = rw p at h in rw e (refused_law 2 (rw (own, p) refl))
      go false p true q = let e : r ≡ 4 = rw (p, q) at h in rw e (refused_law 3 (rw (own, p, q) refl))
      go false p false q = let e : r ≡ 0 = rw (p, q) at h in absurd (omega (arith, e, some))
