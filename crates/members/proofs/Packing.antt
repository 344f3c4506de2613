-- What the shift and the or make of a byte, and the turns of the two loops.
-- Assumes nothing.
use Prim.Native.Nat.{ℕ, suc, ◌+◌, ◌*◌, ◌-◌, ◌%◌, ◌^◌, ◌≤◌, ◌<◌, min}
use native.Mathlib.Nat.{mul_comm}
use native.Mathlib.Numerals.{add-one}
use native.Mathlib.Omega.{arith}
use mathlib.Core.Bool.{Bool, true, false, cond}
use mathlib.Core.Path.{◌≡◌, refl, sym, ap, ◌∙◌}
use mathlib.Core.Logic.{◌⊎◌, inl, inr}
use mathlib.Core.List.{List, ◌∷◌}
use lib.ListN.{length, get_or, take, drop, set, length-take, length-drop, length-set}
use lib.Seq.{get_or-drop, drop-drop, take_all}
use lib.Bits.{bit_and, bit_or, and_mask, or_zero_r, or_shifted_r}
use lib.Pow.{shl_exact}
use mir.Val.{bool_byte}
use Rattle.rules.proofs.laws.table.Order.{lt_or_le}
use Rattle.rules.specs.meaning.Members.{is_member, bits_of, bytes_of, bytes_for, answers_of}
use Rattle.rules.proofs.laws.Members.{bits_lt, bits_more}
use Rattle.rules.specs.meaning.Put.{put}
use Rattle.rules.proofs.laws.Put.{put_cons, put_nil}

-- a bit above all that a byte holds
shifted : (byte k : ℕ) (l : Bool) → k < 8 → byte < 2 ^ k → bit_or byte (bool_byte l * 2 ^ k % 2 ^ 8) ≡ byte + 2 ^ k * cond l 1 0
shifted byte k true n h = rw (shl_exact {a = 1} 1 k 8 (omega arith) (omega arith), or_shifted_r 1 k byte h) (omega arith)
shifted byte k false n h = let z : 0 * 2 ^ k ≡ 0 = omega arith in rw (z, or_zero_r byte) (omega arith)

-- the mask 7 is the remainder by 8
pub masked : (i : ℕ) → bit_and i 7 ≡ i % 8
masked i = and_mask i 3

-- ---- a byte: its answers so far are those of the ids from place `from` up to place i
module _ (t ids : List ℕ) (from : ℕ) where
  abbrev pub Packed : ℕ → ℕ → Type 0
  Packed i byte = byte ≡ bits_of t (take (i - from) (drop from ids))

  pub packed_none : Packed from 0
  unfolding bits_of
  packed_none = let z : from - from ≡ 0 = omega arith in rw z

  pub packed_more : (i byte : ℕ) (b : Bool) → from % 8 ≡ 0 → from ≤ i → i < min (length ids) (from + 8) → Packed i byte → b ≡ is_member t (get_or ids i 0)
      → Packed (i + 1) (bit_or byte (bool_byte b * 2 ^ bit_and i 7 % 2 ^ 8))
  packed_more i byte b z m l p q =
      let w = drop from ids in
      let k : i - from ≡ i % 8 = omega arith in
      let s : i + 1 - from ≡ suc (i % 8) = omega arith in
      let g : from + i % 8 ≡ i = omega arith in
      let n : length (take (i % 8) w) ≡ i % 8 = omega (arith, length-take (i % 8) w, length-drop from ids) in
      let here : byte ≡ bits_of t (take (i % 8) w) = rw k at p in
      -- the bits from i mod 8 on are still free
      let free : byte < 2 ^ (i % 8) = rw here (rw n at (bits_lt t (take (i % 8) w))) in
      rw (s, masked i, bits_more t w (i % 8) (omega (arith, length-drop from ids)), get_or-drop from ids (i % 8) 0, g, ← q, ← here) (shifted byte (i % 8) b (omega arith) free)

  pub packed_all : (i byte : ℕ) → min (length ids) (from + 8) ≤ i → i ≤ min (length ids) (from + 8) → Packed i byte → byte ≡ bits_of t (take 8 (drop from ids))
  packed_all i byte l m p = p ∙ ap (bits_of t) (to_end (lt_or_le (length ids) (from + 8)))
    where
      to_end : (length ids < from + 8) ⊎ (from + 8 ≤ length ids) → take (i - from) (drop from ids) ≡ take 8 (drop from ids)
      to_end (inl q) =
          let n = length-drop from ids in
          take_all (i - from) (drop from ids) (omega arith) ∙ sym (take_all 8 (drop from ids) (omega arith))
      to_end (inr q) = let k : i - from ≡ 8 = omega arith in rw k

-- eight ids to a byte: the shift by 3 loses nothing
pub eightfold : (i : ℕ) → i < 4096 → i * 2 ^ 3 % 2 ^ 64 ≡ 8 * i
eightfold i h = shl_exact {a = i} 12 3 64 h (omega arith) ∙ mul_comm i 8

-- ---- the buffer: what is still to be put behind the bytes so far makes the whole
module _ (t ids out : List ℕ) where
  abbrev pub Filled : ℕ → List ℕ → Type 0
  Filled i u = (length u ≡ length out) × (i ≤ bytes_for (length ids)) × (put u i (bytes_of (bytes_for (length ids) - i) t (drop (8 * i) ids)) ≡ put out 0 (answers_of t ids))

  pub filled_none : Filled 0 out
  unfolding answers_of
  filled_none = let n : bytes_for (length ids) - 0 ≡ bytes_for (length ids) = omega arith in (refl, omega arith, rw n)

  pub filled_more : (i : ℕ) (u : List ℕ) → i < bytes_for (length ids) → bytes_for (length ids) ≤ length out → Filled i u
      → Filled (i + 1) (set u i (bits_of t (take 8 (drop (8 * i) ids))))
  unfolding bytes_of
  filled_more i u l r p =
      let n : bytes_for (length ids) - i ≡ suc (bytes_for (length ids) - suc i) = omega arith in
      let k : 8 * i + 8 ≡ 8 * suc i = omega arith in
      let b = bits_of t (take 8 (drop (8 * i) ids)) in
      let d : drop 8 (drop (8 * i) ids) ≡ drop (8 * suc i) ids = drop-drop 8 (8 * i) ids ∙ ap (λ (m : ℕ). drop m ids) k in
      let q : put u i (b ∷ bytes_of (bytes_for (length ids) - suc i) t (drop (8 * suc i) ids)) ≡ put out 0 (answers_of t ids) = rw (n, d) at p.2 in
      (length-set u i b ∙ p.0, omega arith, rw (add-one i, put_cons u i b (bytes_of (bytes_for (length ids) - suc i) t (drop (8 * suc i) ids)) (omega arith)) q)

  pub filled_all : (i : ℕ) (u : List ℕ) → bytes_for (length ids) ≤ i → Filled i u → u ≡ put out 0 (answers_of t ids)
  unfolding bytes_of
  filled_all i u l p =
      let n : bytes_for (length ids) - i ≡ 0 = omega arith in
      sym (put_nil u i) ∙ (rw n at p.2)
