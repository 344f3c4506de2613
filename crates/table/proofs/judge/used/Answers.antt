-- `table::judge::used`: where the table is sound, the number of entries in use stays between `base` and `base + size`. The measure is `size`.
use Rattle.rules.specs.meaning.Lengths.{M}
use Rattle.rules.proofs.laws.table.Places.{laid_of, used_at, unused_at}
use native.Mathlib.Omega.{arith}
use borrow.Author.Rules.{rules}
use Rattle.table.proofs.judge.used.Goals as goal
use Rattle.table.proofs.judge.used.Goals.{then-words-mid-ne0, else-words-mid-ne0}

pub returns-then-size-eq0 : goal.returns-then-size-eq0
returns-then-size-eq0 c = record {
  result_in_bounds = omega arith;
  words_value = λ s. omega (arith, c.if-size-eq0.true, (laid_of M _ s).room);
}

pub loop-size-init : goal.loop-size-init
loop-size-init c = (search rules, search rules, λ s. omega (arith, (laid_of M _ s).room))

pub loop-size-preserved : goal.loop-size-preserved
loop-size-preserved c =
    elim c.if-words-mid-ne0.branch [
      | then-words-mid-ne0 w ↦ (omega arith, omega arith, λ s. omega (arith, c.loop-size.invariant.2 s, used_at (laid_of M _ s) _ w.if-words-mid-ne0.true))
      | else-words-mid-ne0 w ↦ (omega arith, omega arith, λ s. omega (arith, c.loop-size.invariant.2 s, unused_at (laid_of M _ s) _ w.if-words-mid-ne0.false))
    ]

pub returns-then-words-base-ne0 : goal.returns-then-words-base-ne0
returns-then-words-base-ne0 c = record {
  result_in_bounds = search rules;
  words_value = λ s. omega (arith, c.loop-size.invariant.2 s, used_at (laid_of M _ s) _ c.if-words-base-ne0.true);
}

pub returns-else-words-base-ne0 : goal.returns-else-words-base-ne0
returns-else-words-base-ne0 c = record {
  result_in_bounds = search rules;
  words_value = λ s. omega (arith, c.loop-size.invariant.2 s, unused_at (laid_of M _ s) _ c.if-words-base-ne0.false);
}
