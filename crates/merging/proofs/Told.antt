-- What a merge answers, by what it comes to: with the value 0 nothing is to be written, with any other the table is filled.
-- Assumes nothing.
use Prim.Native.Nat.{ℕ, ◌≤◌, ◌<◌}
use mathlib.Core.Bool.{cond}
use mathlib.Core.Path.{◌≡◌, sym, ap, ◌∙◌}
use mathlib.Core.Logic.{◌⊎◌, inl, inr}
use mathlib.Core.List.{List}
use lib.Dec.{ltb}
use Rattle.rules.specs.meaning.Operations.{Answer}
use Rattle.rules.specs.meaning.Lengths.{M}
use Rattle.rules.specs.meaning.Table.{SoundTable, capacity, merged, held_merged, rises}
use Rattle.rules.specs.meaning.Operations.{answer, accepted, out_of_room, merge_refusal, merge_answer, merge_table}
use Rattle.rules.proofs.laws.table.Order.{lt_or_le}
use Rattle.rules.proofs.laws.table.Merge.{still}
use Rattle.rules.proofs.laws.table.Operations.{merge_refused, merge_accepted}

module _ (t s : List ℕ) (a : Answer) (places held risen : ℕ) (p : places ≡ capacity t) (h : held ≡ held_merged t s) (r : risen ≡ rises t s)
    (said : a ≡ answer (cond (ltb places held) out_of_room accepted) risen) where
  pub told_is : a ≡ merge_answer t s
  unfolding merge_answer merge_refusal
  told_is = said ∙ (rw (p, h, r))

  value_is : a.value ≡ (merge_answer t s).value
  value_is = ap (λ (x : Answer). x.value) told_is

  pub none_told : SoundTable t → SoundTable s → a.value ≡ 0 → t ≡ merge_table t s
  none_told ok-t ok-s z = go (lt_or_le (capacity t) (held_merged t s))
    where
      go : (capacity t < held_merged t s) ⊎ (held_merged t s ≤ capacity t) → t ≡ merge_table t s
      go (inl l) = sym (merge_refused t s l).1
      go (inr l) =
          let m = merge_accepted t s l in
          let none : rises t s ≡ 0 = sym (ap (λ (x : Answer). x.value) m.0) ∙ sym value_is ∙ z in
          sym (m.1 ∙ still M t s ok-t ok-s none)

  pub some_told : (a.value ≡ 0 → ⊥) → (held_merged t s ≤ capacity t) × (merged t s ≡ merge_table t s)
  some_told n = go (lt_or_le (capacity t) (held_merged t s))
    where
      go : (capacity t < held_merged t s) ⊎ (held_merged t s ≤ capacity t) → (held_merged t s ≤ capacity t) × (merged t s ≡ merge_table t s)
      go (inl l) = absurd (n (value_is ∙ ap (λ (x : Answer). x.value) (merge_refused t s l).0))
      go (inr l) = (l, sym (merge_accepted t s l).1)
