-- A line, written: how long it is, when it may be written, and the buffer that four pieces make.
use mathlib.Core.Path.{◌≡◌, sym, ap, ◌∙◌}
use mathlib.Core.Bool.{Bool}
use mathlib.Core.List.{List, ◌++◌, append_assoc}
use Prim.Native.Nat.{ℕ, ◌+◌, ◌≤◌}
use native.Mathlib.Omega.{arith}
use borrow.Author.Tests.{lt-ltb}
use lib.ListN.{length, length-append}
use Rattle.rules.specs.meaning.Number.{digits}
use Rattle.rules.proofs.laws.line.Numbers.{below, by_test}
use Rattle.rules.specs.meaning.Lines.{lead, to_name, id_name, has_second, has_id, field, text_of, names_step}
use Rattle.rules.specs.declared.Refusal.{Refusal}
use Rattle.rules.specs.declared.Refusal.TheVariants.{BadSizes, Unsound, NoSite, SameSite, NoParcel, NothingToSend, LengthsOut, NoRoom, NoSlot, CountFull, NoStep, InputLong, ShortBuffer, ManyIds, NoOrder, NothingHeard, NoGroup}
use Rattle.rules.specs.meaning.Refusals.{first_given, number_of}
use Rattle.rules.specs.meaning.Put.{put}
use Rattle.rules.proofs.laws.Put.{put_nil, put_put}
use Rattle.rules.specs.meaning.Writing.{check_of, Filled}
use Rattle.lines.proofs.Fields.{field_length}
use Rattle.rules.proofs.laws.line.Writing.{text_whole, text_refused}

pub line_length : (kind first second i : ℕ) → length (text_of kind first second i) ≡ length (lead kind) + length (digits first) + length (field (has_second kind) to_name second) + length (field (has_id kind) id_name i)
unfolding text_of
line_length kind first second i = simp length-append (omega arith)

pub ruleset lengths = (line_length, field_length)

-- ---- what may be written
module _ (kind first second i room : ℕ) where
  -- what the check leaves to be known
  pub may_lay : 0 ≡ check_of kind first second i room → length (text_of kind first second i) ≤ room
  unfolding check_of first_given
  may_lay h =
      below room (length (text_of kind first second i))
      (λ l. by_test (names_step kind second i)
      (λ s. absurd (let z : ◌≡◌ {A = ℕ} 0 13 = h ∙ rw (s, lt-ltb room (length (text_of kind first second i)) l) in omega arith))
      (λ s. absurd (let z : ◌≡◌ {A = ℕ} 0 11 = h ∙ rw s in omega arith)))
      (λ l. l)

-- a refusal has a number
refused_some : (r : Refusal) → number_of r ≡ 0 → ⊥
refused_some BadSizes e = omega arith
refused_some Unsound e = omega arith
refused_some NoSite e = omega arith
refused_some SameSite e = omega arith
refused_some NoParcel e = omega arith
refused_some NothingToSend e = omega arith
refused_some LengthsOut e = omega arith
refused_some NoRoom e = omega arith
refused_some NoSlot e = omega arith
refused_some CountFull e = omega arith
refused_some NoStep e = omega arith
refused_some InputLong e = omega arith
refused_some ShortBuffer e = omega arith
refused_some ManyIds e = omega arith
refused_some NoOrder e = omega arith
refused_some NothingHeard e = omega arith
refused_some NoGroup e = omega arith

module _ (kind first second i : ℕ) (out : List ℕ) where
  pub filled_none : (r : Refusal) → number_of r ≡ check_of kind first second i (length out) → Filled kind first second i out out 0
  filled_none r e =
      let f = text_refused kind first second i (length out) (λ z. refused_some r (e ∙ z)) in
      record { count = rw f; bytes = rw f (sym (put_nil out 0)) }

  pub filled_line : (after : List ℕ) (n : ℕ) → 0 ≡ check_of kind first second i (length out) → n ≡ length (text_of kind first second i) → after ≡ put out 0 (text_of kind first second i) → Filled kind first second i out after n
  filled_line after n e count bytes =
      let t = text_whole kind first second i (length out) (sym e) in
      record { count = rw t count; bytes = rw t bytes }

-- ---- four pieces, one behind the other
module _ (out : List ℕ) (p q r s : List ℕ) where
  pub put_four : (out₁ out₂ out₃ out₄ : List ℕ) (a b d : ℕ) → length p + length q + length r + length s ≤ length out
      → out₁ ≡ put out 0 p → a ≡ length p → out₂ ≡ put out₁ a q → b ≡ a + length q → out₃ ≡ put out₂ b r → d ≡ b + length r → out₄ ≡ put out₃ d s → out₄ ≡ put out 0 (p ++ (q ++ (r ++ s)))
  put_four out₁ out₂ out₃ out₄ a b d h e1 ea e2 eb e3 ed e4 =
      let na : a ≡ 0 + length p = omega arith in
      let f2 : out₂ ≡ put out 0 (p ++ q) = rw (e2, na, e1) (put_put out 0 p q (omega arith)) in
      let nb : b ≡ 0 + length (p ++ q) = omega (arith, length-append p q) in
      let f3 : out₃ ≡ put out 0 (p ++ q ++ r) = rw (e3, nb, f2) (put_put out 0 (p ++ q) r (omega (arith, length-append p q))) in
      let nd : d ≡ 0 + length (p ++ q ++ r) = omega (arith, length-append p q, length-append (p ++ q) r) in
      let f4 : out₄ ≡ put out 0 (p ++ q ++ r ++ s) = rw (e4, nd, f3) (put_put out 0 (p ++ q ++ r) s (omega (arith, length-append p q, length-append (p ++ q) r))) in
      f4 ∙ ap (put out 0) (simp append_assoc)

-- the tests that were computed stand for the kind's own
pub four_line : (kind first second i : ℕ) (u w : Bool) → u ≡ has_second kind → w ≡ has_id kind → lead kind ++ (digits first ++ (field u to_name second ++ field w id_name i)) ≡ text_of kind first second i
unfolding text_of
four_line kind first second i u w eu ew = rw (eu, ew)
