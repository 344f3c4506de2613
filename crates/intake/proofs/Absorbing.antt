-- A group's bytes absorbed, once the judge has spoken: its refusals at known tests, and what the table's answer makes of it.
use Prim.Native.Nat.{ℕ, zero, suc, ◌+◌, ◌*◌, ◌≤◌, ◌<◌}
use native.Mathlib.Omega.{arith}
use mathlib.Core.Bool.{Bool, true, false, cond}
use mathlib.Core.Path.{◌≡◌, refl, ◌∙◌}
use mathlib.Core.List.{List}
use denote.Enum.Declared.{tag_of}
use Rattle.rules.specs.contracts.Refusal.{the_type}
use lib.Dec.{eqb}
use lib.ListN.{length, take}
use borrow.Author.Tests.{le-leb, lt-leb, le-ltb, ne_eqb}
use Rattle.rules.specs.meaning.Operations.{Answer}
use Rattle.rules.specs.meaning.Groups.{Grouped}
use Rattle.rules.specs.declared.Run.{Run}
use Rattle.rules.specs.declared.Sight.{Sight}
use Rattle.rules.specs.meaning.Table.{merged}
use Rattle.rules.specs.meaning.Operations.{merge_refusal, merge_answer, merge_table}
use Rattle.rules.specs.declared.Refusal.{Refusal}
use Rattle.rules.specs.declared.Refusal.TheVariants.{BadSizes, Unsound, NoSite, SameSite, NoParcel, NothingToSend, LengthsOut, NoRoom, NoSlot, CountFull, NoStep, InputLong, ShortBuffer, ManyIds, NoOrder, NothingHeard, NoGroup}
use Rattle.rules.specs.meaning.Refusals.{first_given, number_of}
use Rattle.rules.specs.meaning.States.{table_at, with_table}
use Rattle.rules.specs.meaning.Groups.{entries_in, forms_none, read_refusal, entries_read, Entered}
use Rattle.rules.specs.meaning.Events.{absorb_tests, absorb_refusal}
use Rattle.rules.proofs.laws.Put.{put_length, put_front}
use Rattle.rules.proofs.laws.group.Groups.{entries_even, entries_few}
use Rattle.judge.specs.Judged.{judgement}
use Rattle.judge.proofs.Judging.{judged_first, judged_ready}
use Rattle.steps.specs.Verdicts.{Ready}
use Rattle.steps.proofs.Tables.{kept}
use Rattle.intake.specs.Values.{refused_answer, answer_seen, words_seen}

-- the number that a refusal is cast to, and that it is not that of none
pub number_is : (r : Refusal) → tag_of the_type r + 1 ≡ number_of r
number_is BadSizes = refl
number_is Unsound = refl
number_is NoSite = refl
number_is SameSite = refl
number_is NoParcel = refl
number_is NothingToSend = refl
number_is LengthsOut = refl
number_is NoRoom = refl
number_is NoSlot = refl
number_is CountFull = refl
number_is NoStep = refl
number_is InputLong = refl
number_is ShortBuffer = refl
number_is ManyIds = refl
number_is NoOrder = refl
number_is NothingHeard = refl
number_is NoGroup = refl

pub some_number : (r : Refusal) → number_of r ≡ 0 → ⊥
some_number r e = omega (arith, number_is r)

-- a group read into 128 words, which are room for any
module _ (bytes before after : List ℕ) (r : Grouped) (size : length before ≡ 128) (read : Entered bytes before r after) where
  told : r.refusal ≡ cond (forms_none bytes) 17 0
  unfolding read_refusal first_given
  told = read.refusal ∙ rw (size, le-ltb 128 (length (entries_in bytes)) (entries_few bytes))

  -- refused, they form none, and the number is 17
  pub no_group_law : (r.refusal ≡ 0 → ⊥) → (forms_none bytes ≡ true) × (r.refusal ≡ 17)
  no_group_law ne = go (forms_none bytes) refl
    where
      go : (b : Bool) → forms_none bytes ≡ b → (b ≡ true) × (r.refusal ≡ 17)
      go true e = (refl, told ∙ rw e)
      go false e = absurd (ne (told ∙ rw e))

  module _ (ok : r.refusal ≡ 0) where
    pub is_group_law : forms_none bytes ≡ false
    is_group_law = go (forms_none bytes) refl
      where
        go : (b : Bool) → forms_none bytes ≡ b → b ≡ false
        go true e = absurd (omega (arith, ok, rw e at told))
        go false e = refl

    entries_read_law : entries_read bytes (length before) ≡ entries_in bytes
    unfolding entries_read
    entries_read_law = rw (← read.refusal, ok)

    counted : 2 * r.count ≡ length (entries_in bytes)
    counted = omega (arith, rw entries_read_law at read.count, entries_even bytes)

    -- their entries stand in front
    pub entries_front : take (2 * r.count) after ≡ entries_in bytes
    entries_front = rw (counted, read.words, entries_read_law) (put_front before (entries_in bytes))

    pub entries_many : 2 * r.count ≤ 128
    entries_many = omega (arith, counted, entries_few bytes)

    pub entries_within : 2 * r.count ≤ length after
    entries_within = rw (read.words, entries_read_law, put_length before 0 (entries_in bytes) (omega (arith, size, entries_few bytes))) (omega (arith, size, entries_many))

module _ (run : Run) (ws : List ℕ) (k : ℕ) (bytes : List ℕ) (si : Sight) where
  by_judge : absorb_refusal run ws k bytes si ≡ cond (eqb (judgement run ws si) 0) (first_given (absorb_tests run ws k bytes)) (judgement run ws si)
  unfolding absorb_refusal
  by_judge = judged_first run ws si (absorb_tests run ws k bytes)

  -- what the contract says of an answer, and of the words that are left
  abbrev Said : Answer → List ℕ → Type 0
  Said r us = (r ≡ answer_seen run ws k bytes si) × (us ≡ words_seen run ws k bytes si)

  refused_with : (n : ℕ) → (n ≡ 0 → ⊥) → absorb_refusal run ws k bytes si ≡ n → Said (refused_answer n) ws
  refused_with zero ne e = absurd (ne refl)
  refused_with (suc n) ne e = (rw e, rw e)

  pub judged_out : (n : ℕ) → n ≡ judgement run ws si → (n ≡ 0 → ⊥) → Said (refused_answer n) ws
  judged_out n e ne = refused_with n ne (by_judge ∙ rw (← e, ne_eqb n 0 ne))

  module _ (fine : judgement run ws si ≡ 0) where
    pub ready : Ready run ws
    ready = let r = judged_ready run ws si fine in record { sized = r.0; tables = r.1 }

    own : absorb_refusal run ws k bytes si ≡ first_given (absorb_tests run ws k bytes)
    own = by_judge ∙ rw fine

    pub outside_out : run.sites ≤ k → Said (refused_answer 3) ws
    unfolding first_given
    outside_out h = refused_with 3 (λ z. omega arith) (own ∙ rw (le-leb run.sites k h))

    module _ (inside : k < run.sites) where
      pub none_out : forms_none bytes ≡ true → Said (refused_answer 17) ws
      unfolding first_given
      none_out h = refused_with 17 (λ z. omega arith) (own ∙ rw (lt-leb run.sites k inside, h))

      module _ (some : forms_none bytes ≡ false) where
        -- the table's own refusal
        refusal : absorb_refusal run ws k bytes si ≡ merge_refusal (table_at run ws k) (entries_in bytes)
        unfolding first_given merge_refusal
        refusal = own ∙ rw (lt-leb run.sites k inside, some)

        pub taken : (es : List ℕ) → es ≡ entries_in bytes → Said (merge_answer (table_at run ws k) es) (with_table run ws k (merge_table (table_at run ws k) es))
        unfolding merge_answer merge_table
        taken es e = (rw (e, refusal), rw (e, refusal) (kept (merge_refusal (table_at run ws k) (entries_in bytes)) run ws k (merged (table_at run ws k) (entries_in bytes))))
