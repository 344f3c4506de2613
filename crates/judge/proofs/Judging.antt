-- The tests of sizes and tables, as the code makes them, and what they say before the tests of a call.
use Prim.Native.Nat.{ℕ, suc, ◌+◌, ◌*◌, ◌-◌, ◌≤◌, ◌<◌}
use native.Mathlib.Nat.{mul-le-mul}
use native.Mathlib.Numerals.{add-one}
use native.Mathlib.Omega.{arith}
use mathlib.Core.Bool.{Bool, true, false, ◌&&◌, not, cond, and_assoc, and-true}
use mathlib.Core.Path.{◌≡◌, refl, sym, ◌∙◌}
use mathlib.Core.List.{List, [], ◌∷◌, ◌++◌}
use lib.ListN.{length, take, drop}
use lib.Dec.{leb, eqb}
use borrow.Author.Tests.{leb-true, eqb-true, not-false}
use Rattle.rules.specs.declared.Run.{Run}
use Rattle.rules.specs.declared.Sight.{Sight}
use Rattle.rules.specs.meaning.Lengths.{M}
use Rattle.rules.specs.meaning.Table.{sound}
use Rattle.rules.proofs.laws.table.View.{parts}
use Rattle.rules.specs.meaning.Refusals.{Test, ◌when◌, first_given}
use Rattle.rules.specs.meaning.Runs.{judge_tests}
use Rattle.rules.specs.meaning.States.{width, sizes_right, tables_sound, all_sound}
use Rattle.rules.proofs.laws.run.Sites.{next_part}
use Rattle.rules.proofs.laws.run.Steps.{pass}
use Rattle.judge.specs.Judged.{judgement, Sized}

-- the words of a run are few
pub few_words : (sites capacity : ℕ) → sites ≤ 16 → capacity ≤ 2048 → sites * (2 * capacity) ≤ 65536
few_words sites capacity p q = mul-le-mul {n₁ = sites} {m₁ = 2 * capacity} {n₂ = 16} {m₂ = 4096} p (omega arith)

-- a turn of the judge: the tables so far and the tables that are left are all of them
pub tables_more : (w n k : ℕ) (ws : List ℕ) (good s all : Bool) → k < n → s ≡ sound M (take w (drop (k * w) ws))
    → good && tables_sound M w (n - k) (drop (k * w) ws) ≡ all → (good && s) && tables_sound M w (n - (k + 1)) (drop ((k + 1) * w) ws) ≡ all
unfolding tables_sound
tables_more w n k ws good s all h q inv =
    let e : n - k ≡ suc (n - (k + 1)) = omega arith in
    rw (and_assoc, q, add-one k, ← next_part k w ws, ← add-one k) (rw e at inv)

pub tables_end : (w n k : ℕ) (ws : List ℕ) (good all : Bool) → n ≤ k → good && tables_sound M w (n - k) (drop (k * w) ws) ≡ all → good ≡ all
unfolding tables_sound
tables_end w n k ws good all h inv = let e : n - k ≡ 0 = omega arith in sym (and-true good) ∙ (rw e at inv)

-- what sizes that are right say
pub sized : (run : Run) (words slots : ℕ) → sizes_right run words slots ≡ true → Sized run words
unfolding sizes_right
sized run words slots h =
    let a = parts (leb 1 run.sites) _ h in
    let b = parts (leb run.sites 16) _ a.1 in
    let d = parts (leb run.capacity 2048) _ b.1 in
    let e = parts (leb slots 1024) _ d.1 in
    record { few = leb-true _ _ b.0; small = leb-true _ _ d.0; long = eqb-true _ _ e.1 }

-- ---- 1 and 2 before the tests of a call
two_first : (a b : Bool) (ts : List Test) → first_given ((1 when a) ∷ (2 when b) ∷ ts) ≡ cond (eqb (first_given ((1 when a) ∷ (2 when b) ∷ [])) 0) (first_given ts) (first_given ((1 when a) ∷ (2 when b) ∷ []))
unfolding first_given
two_first true b ts = refl
two_first false true ts = refl
two_first false false ts = refl

module _ (run : Run) (ws : List ℕ) (si : Sight) where
  pub judged_first : (ts : List Test) → first_given (judge_tests run ws si ++ ts) ≡ cond (eqb (judgement run ws si) 0) (first_given ts) (judgement run ws si)
  unfolding judgement
  judged_first ts = two_first (not (sizes_right run (length ws) si.count)) (not (all_sound run ws si)) ts

  -- what they let through has right sizes and sound tables
  pub judged_ready : judgement run ws si ≡ 0 → Sized run (length ws) × (tables_sound M (width run) run.sites ws ≡ true)
  unfolding judgement all_sound
  judged_ready h =
      let a = pass 0 _ _ h in
      let b = pass 1 _ _ a.1 in
      (sized run (length ws) si.count (not-false _ a.0), (parts (tables_sound M (width run) run.sites ws) _ (not-false _ b.0)).0)
