-- Laws of bulk membership: which bit of which byte has which answer, and that the contract leaves one outcome.
-- Assumes nothing.
use Prim.Native.Nat.{ℕ, zero, suc, ◌+◌, ◌*◌, ◌-◌, ◌/◌, ◌%◌, ◌^◌, ◌≤◌, ◌<◌, min}
use Rattle.std.proofs.Common.{le_of_suc-le-suc, not-suc-le-zero, lt_of_lt_of_le, one-add, ◌∙◌, length-drop, drop-drop, drop_at, shr-shr, pow_mono, le-ltb}
use Rattle.std.proofs.Math.Nat.{pow-suc, zero-div, mul_assoc, mul_comm}
use native.Mathlib.Omega.{arith}
use Rattle.std.specs.Prelude.{◌≡◌, Bool, true, false, ◌||◌, cond, length, take, eqb, ltb}
use Rattle.std.proofs.Math.Path.{refl, sym, ap}
use mathlib.Core.List.{List, [], ◌∷◌}
use Rattle.std.proofs.Math.ListN.{get_or, drop, length-take}
use Rattle.std.proofs.Math.Seq.{get_or-take, get_or-drop}
use Rattle.rules.specs.meaning.Table.{SoundTable}
use Rattle.rules.specs.meaning.Operations.{unless_refused}
use Rattle.rules.specs.meaning.Refusals.{first_given}
use Rattle.rules.specs.meaning.Members.{is_member, bits_of, bytes_of, bytes_for, answers_of, members_refusal, members_after, Answered}
use Rattle.rules.specs.meaning.Put.{put}
use Rattle.rules.proofs.laws.Put.{put_nil, put_front}

-- the answer for an id as a bit
abbrev pub bit : List ℕ → ℕ → ℕ
bit t e = cond (is_member t e) 1 0

cond_lt : (b : Bool) → cond b 1 0 < 2
cond_lt true = omega arith
cond_lt false = omega arith

pub bit_lt : (t : List ℕ) (e : ℕ) → bit t e < 2
bit_lt t e = cond_lt (is_member t e)

-- ---- the bits of one byte
module _ (t : List ℕ) where
  pub bits_lt : (l : List ℕ) → bits_of t l < 2 ^ length l
  unfolding bits_of
  bits_lt [] = omega arith
  bits_lt (e ∷ l) = omega (arith, bits_lt l, bit_lt t e, pow-suc 2 (length l))

  -- one answer more
  pub bits_more : (l : List ℕ) (k : ℕ) → k < length l → bits_of t (take (suc k) l) ≡ bits_of t (take k l) + 2 ^ k * bit t (get_or l k 0)
  unfolding bits_of
  bits_more [] k h = absurd (not-suc-le-zero h)
  bits_more (e ∷ l) zero h = omega arith
  bits_more (e ∷ l) (suc k) h =
      let m = bit t (get_or l k 0) in
      let p : 2 ^ suc k * m ≡ 2 * (2 ^ k * m) = rw (pow-suc 2 k, mul_comm (2 ^ k) 2, mul_assoc 2 (2 ^ k) m) in
      omega (arith, bits_more l k (le_of_suc-le-suc h), p)

  -- halving drops the first answer
  halved : (e : ℕ) (l : List ℕ) (k : ℕ) → bits_of t (e ∷ l) / 2 ^ suc k ≡ bits_of t l / 2 ^ k
  unfolding bits_of
  halved e l k =
      let h : (bit t e + 2 * bits_of t l) / 2 ≡ bits_of t l = omega (arith, bit_lt t e) in
      ap (λ (n : ℕ). (bit t e + 2 * bits_of t l) / 2 ^ n) (sym (one-add k)) ∙ sym (shr-shr (bit t e + 2 * bits_of t l) 1 k) ∙ ap (λ (n : ℕ). n / 2 ^ k) h

  lowest : (e : ℕ) (l : List ℕ) → bits_of t (e ∷ l) / 1 % 2 ≡ bit t e
  unfolding bits_of
  lowest e l = omega (arith, bit_lt t e)

  none : (k : ℕ) → bits_of t [] / 2 ^ k % 2 ≡ 0
  unfolding bits_of
  none k = rw (zero-div (2 ^ k))

  pub bit_of : (l : List ℕ) (k : ℕ) → k < length l → bits_of t l / 2 ^ k % 2 ≡ bit t (get_or l k 0)
  bit_of [] k h = absurd (not-suc-le-zero h)
  bit_of (e ∷ l) zero h = lowest e l
  bit_of (e ∷ l) (suc k) h = rw (halved e l k) (bit_of l k (le_of_suc-le-suc h))

  pub spare_bit : (l : List ℕ) (k : ℕ) → length l ≤ k → bits_of t l / 2 ^ k % 2 ≡ 0
  spare_bit [] k h = none k
  spare_bit (e ∷ l) zero h = absurd (not-suc-le-zero h)
  spare_bit (e ∷ l) (suc k) h = rw (halved e l k) (spare_bit l k (le_of_suc-le-suc h))

  -- ---- the bytes
  pub byte_of : (n : ℕ) (ids : List ℕ) (j : ℕ) → j < n → get_or (bytes_of n t ids) j 0 ≡ bits_of t (take 8 (drop (8 * j) ids))
  unfolding bytes_of
  byte_of zero ids j h = absurd (not-suc-le-zero h)
  byte_of (suc n) ids zero h = refl
  byte_of (suc n) ids (suc j) h =
      let k : 8 + 8 * j ≡ 8 * suc j = omega arith in
      byte_of n (drop 8 ids) j (le_of_suc-le-suc h) ∙ ap (λ (l : List ℕ). bits_of t (take 8 l)) (drop-drop (8 * j) 8 ids ∙ ap (λ (m : ℕ). drop m ids) k)

  -- the ids of the byte in which id i is answered
  of_byte : List ℕ → ℕ → List ℕ
  of_byte ids i = take 8 (drop (8 * (i / 8)) ids)

  of_byte_length : (ids : List ℕ) (i : ℕ) → length (of_byte ids i) ≡ min 8 (length ids - 8 * (i / 8))
  unfolding of_byte
  of_byte_length ids i = length-take 8 (drop (8 * (i / 8)) ids) ∙ ap (min 8) (length-drop (8 * (i / 8)) ids)

  of_byte_at : (ids : List ℕ) (i : ℕ) → get_or (of_byte ids i) (i % 8) 0 ≡ get_or ids i 0
  unfolding of_byte
  of_byte_at ids i =
      let k : 8 * (i / 8) + i % 8 ≡ i = omega arith in
      get_or-take 8 (drop (8 * (i / 8)) ids) (i % 8) 0 (omega arith) ∙ get_or-drop (8 * (i / 8)) ids (i % 8) 0 ∙ ap (λ (m : ℕ). get_or ids m 0) k

  byte_at : (ids : List ℕ) (i : ℕ) → i < 8 * bytes_for (length ids) → get_or (answers_of t ids) (i / 8) 0 ≡ bits_of t (of_byte ids i)
  unfolding answers_of of_byte
  byte_at ids i h = byte_of (bytes_for (length ids)) ids (i / 8) (omega arith)

  -- "answer i into bit i mod 8 of byte i / 8, lowest bit first"
  pub answer_at : (ids : List ℕ) (i : ℕ) → i < length ids → get_or (answers_of t ids) (i / 8) 0 / 2 ^ (i % 8) % 2 ≡ bit t (get_or ids i 0)
  answer_at ids i h =
      rw (byte_at ids i (omega arith)) (bit_of (of_byte ids i) (i % 8) (omega (arith, of_byte_length ids i)) ∙ ap (bit t) (of_byte_at ids i))

  -- "spare bits of the last byte are 0"
  pub spare_at : (ids : List ℕ) (i : ℕ) → length ids ≤ i → i < 8 * bytes_for (length ids) → get_or (answers_of t ids) (i / 8) 0 / 2 ^ (i % 8) % 2 ≡ 0
  spare_at ids i l h = rw (byte_at ids i h) (spare_bit (of_byte ids i) (i % 8) (omega (arith, of_byte_length ids i)))

  -- what is to be written is bytes
  pub eight_lt : (ids : List ℕ) → bits_of t (take 8 ids) < 256
  eight_lt ids = lt_of_lt_of_le (bits_lt (take 8 ids)) (pow_mono {j = 8} (omega (arith, length-take 8 ids)))

  pub bytes_lt : (n : ℕ) (ids : List ℕ) (j : ℕ) → get_or (bytes_of n t ids) j 0 < 256
  unfolding bytes_of
  bytes_lt zero ids j = omega arith
  bytes_lt (suc n) ids zero = eight_lt ids
  bytes_lt (suc n) ids (suc j) = bytes_lt n (drop 8 ids) j

  pub bytes_length : (n : ℕ) (ids : List ℕ) → length (bytes_of n t ids) ≡ n
  unfolding bytes_of
  bytes_length zero ids = refl
  bytes_length (suc n) ids = ap suc (bytes_length n (drop 8 ids))

pub answers_length : (t ids : List ℕ) → length (answers_of t ids) ≡ bytes_for (length ids)
unfolding answers_of
answers_length t ids = bytes_length t (bytes_for (length ids)) ids

pub answers_lt : (t ids : List ℕ) (j : ℕ) → get_or (answers_of t ids) j 0 < 256
unfolding answers_of
answers_lt t ids j = bytes_lt t (bytes_for (length ids)) ids j

-- ---- the buffer
put_behind : (out bytes : List ℕ) → drop (length bytes) (put out 0 bytes) ≡ drop (length bytes) out
unfolding put
put_behind out bytes = let z : 0 + length bytes ≡ length bytes = omega arith in rw z (drop_at bytes (drop (length bytes) out) (length bytes) refl)

-- what is put stands in front, and "later bytes keep what they had"
pub front_written : (t ids out : List ℕ) → members_refusal t (length ids) (length out) ≡ 0 → take (bytes_for (length ids)) (members_after t ids out) ≡ answers_of t ids
unfolding members_after
front_written t ids out h =
    rw (h, ← answers_length t ids) (put_front out (answers_of t ids))

pub later_kept : (t ids out : List ℕ) → drop (bytes_for (length ids)) (members_after t ids out) ≡ drop (bytes_for (length ids)) out
unfolding members_after
later_kept t ids out = kept (members_refusal t (length ids) (length out))
  where
    kept : (r : ℕ) → drop (bytes_for (length ids)) (unless_refused r out (put out 0 (answers_of t ids))) ≡ drop (bytes_for (length ids)) out
    kept zero = rw (← answers_length t ids) (put_behind out (answers_of t ids))
    kept (suc r) = refl

-- accepted, the bit of each id tells whether it is listed; refused, no byte is written
pub answered_bits : (t ids out now : List ℕ) → Answered t ids out 0 now → (i : ℕ) → i < length ids → get_or now (i / 8) 0 / 2 ^ (i % 8) % 2 ≡ bit t (get_or ids i 0)
answered_bits t ids out now h i l =
    let front : take (bytes_for (length ids)) now ≡ answers_of t ids = ap (take (bytes_for (length ids))) h.bytes ∙ front_written t ids out (sym h.refusal) in
    let there : get_or now (i / 8) 0 ≡ get_or (answers_of t ids) (i / 8) 0 = sym (get_or-take (bytes_for (length ids)) now (i / 8) 0 (omega (arith, l))) ∙ ap (λ (bs : List ℕ). get_or bs (i / 8) 0) front in
    rw there (answer_at t ids i l)

pub answered_refused : (t ids out now : List ℕ) (r : ℕ) → Answered t ids out (suc r) now → now ≡ out
unfolding members_after
answered_refused t ids out now r h = h.bytes ∙ ap (λ (k : ℕ). unless_refused k out (put out 0 (answers_of t ids))) (sym h.refusal)

-- "No ids asked: accepted, nothing written"
pub none_written : (t out : List ℕ) → members_after t [] out ≡ out
unfolding members_after answers_of bytes_of
none_written t out = same (members_refusal t 0 (length out))
  where
    same : (r : ℕ) → unless_refused r out (put out 0 []) ≡ out
    same zero = put_nil out 0
    same (suc r) = refl

pub none_refused : (t : List ℕ) (room : ℕ) → eqb (length t % 2) 1 || ltb 4096 (length t) ≡ false → SoundTable t → members_refusal t 0 room ≡ 0
unfolding members_refusal first_given
none_refused t room h s = rw (h, s, le-ltb room 0 (omega arith))
