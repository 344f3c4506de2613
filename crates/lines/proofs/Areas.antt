-- Numbers in eight bytes each, and the area of 32 bytes that they make.
use mathlib.Core.Path.{◌≡◌}
use mathlib.Core.List.{List}
use Prim.Native.Nat.{ℕ, ◌≤◌, ◌<◌}
use native.Mathlib.Omega.{arith}
use borrow.Author.Tests.{lt-ltb, le-ltb}
use borrow.Rule.Slice.PartMut.{put_mid}
use lib.ListN.{length}
use Rattle.std.proofs.Common.{drop-drop}
use Rattle.std.specs.Prelude.{None}
use Rattle.std.specs.Int.{w64, to_le_bytes}
use Rattle.std.proofs.Math.Nat.{div-div-eq-div-mul}
use Rattle.rules.specs.meaning.Lines.{numbers_of, four}
use Rattle.rules.specs.meaning.Refusals.{first_given}
use Rattle.rules.specs.meaning.Put.{put}
use Rattle.rules.specs.meaning.Area.{little, word, laid, is_no_line, read_refusal, area_after}
use Rattle.rules.proofs.laws.line.Area.{little_length}
use Rattle.lines.proofs.Writings.{put_four}

-- ---- a number in bytes, as the library has them
pub word_bytes : (n : ℕ) → to_le_bytes w64 n ≡ word n
unfolding little
word_bytes n = simp div-div-eq-div-mul

-- a part of a buffer that was written over
pub put_part : (out : List ℕ) (at : ℕ) (k : ℕ) (now bytes : List ℕ) → now ≡ bytes → k ≡ length bytes → put_mid at k out now ≡ put out at bytes
unfolding put
put_part out at k now bytes e n = rw (e, n, drop-drop)

-- ---- the area of 32 bytes
module _ (line area : List ℕ) where
  pub area_short : length area < 32 → (13 ≡ read_refusal line area) × (area ≡ area_after line area)
  unfolding read_refusal area_after first_given
  area_short h = let e = lt-ltb (length area) 32 h in (rw e, rw e)

  pub area_none : 32 ≤ length area → None ≡ numbers_of line → (11 ≡ read_refusal line area) × (area ≡ area_after line area)
  unfolding read_refusal area_after first_given is_no_line
  area_none h e = let l = le-ltb (length area) 32 h in (rw (l, ← e), rw (l, ← e))

  pub area_laid : (kind first second i : ℕ) (a₁ a₂ a₃ a₄ : List ℕ) → 32 ≤ length area → four kind first second i ≡ numbers_of line
      → a₁ ≡ put area 0 (word kind) → a₂ ≡ put a₁ 8 (word first) → a₃ ≡ put a₂ 16 (word second) → a₄ ≡ put a₃ 24 (word i)
      → (0 ≡ read_refusal line area) × (a₄ ≡ area_after line area)
  unfolding read_refusal area_after first_given is_no_line laid
  area_laid kind first second i a₁ a₂ a₃ a₄ h e e1 e2 e3 e4 =
      let l = le-ltb (length area) 32 h in
      let l1 = little_length 8 kind in
      let l2 = little_length 8 first in
      let l3 = little_length 8 second in
      let l4 = little_length 8 i in (
        rw (l, ← e),
        rw (l, ← e)
            (put_four area (word kind) (word first) (word second) (word i) a₁ a₂ a₃ a₄ 8 16 24 (omega arith) e1 (omega arith) e2 (omega arith) e3 (omega arith) e4),
      )
