-- Bulk membership: "write answer i into bit i mod 8 of byte i / 8, lowest bit first; spare bits of the last byte are 0 and later bytes keep what
-- they had."
-- Assumes nothing.
use Rattle.std.specs.Prelude.{ℕ, zero, suc, ◌+◌, ◌*◌, ◌/◌, ◌%◌, ◌≡◌, Bool, ◌||◌, not, cond, List, [], ◌∷◌, length, take, drop, ltb, eqb}
use Rattle.rules.specs.meaning.Lengths.{M, listed}
use Rattle.rules.specs.meaning.Table.{sound, length_of}
use Rattle.rules.specs.meaning.Operations.{unless_refused}
use Rattle.rules.specs.meaning.Put.{put}
use Rattle.rules.specs.meaning.Refusals.{◌when◌, first_given}

-- the answer for an id
abbrev pub is_member : List ℕ → ℕ → Bool
is_member t e = listed (length_of t e)

-- the answers for some ids as one number, the first in the lowest bit
unfoldable pub bits_of : List ℕ → List ℕ → ℕ
bits_of t [] = 0
bits_of t (e ∷ es) = cond (is_member t e) 1 0 + 2 * bits_of t es

-- n bytes of answers, eight ids to each
unfoldable pub bytes_of : ℕ → List ℕ → List ℕ → List ℕ
bytes_of zero t ids = []
bytes_of (suc n) t ids = bits_of t (take 8 ids) ∷ bytes_of n t (drop 8 ids)

-- how many bytes so many answers take
abbrev pub bytes_for : ℕ → ℕ
bytes_for n = (n + 7) / 8

unfoldable pub answers_of : List ℕ → List ℕ → List ℕ
answers_of t ids = bytes_of (bytes_for (length ids)) t ids

-- "1 (odd word count or more than 4,096 words), 2 (table unsound), 14, 13"
unfoldable pub members_refusal : List ℕ → ℕ → ℕ → ℕ
members_refusal t ids room =
    first_given
    ((1 when (eqb (length t % 2) 1 || ltb 4096 (length t)))
    ∷ (2 when not (sound M t))
    ∷ (14 when ltb 4096 ids)
    ∷ (13 when ltb room (bytes_for ids))
    ∷ [])

unfoldable pub members_after : List ℕ → List ℕ → List ℕ → List ℕ
members_after t ids out = unless_refused (members_refusal t (length ids) (length out)) out (put out 0 (answers_of t ids))

-- the contract: the refusal, and every byte of the buffer
pub record Answered (t ids before : List ℕ) (r : ℕ) (after : List ℕ) : Type 0 where
  pub refusal : r ≡ members_refusal t (length ids) (length before)
  pub bytes : after ≡ members_after t ids before
