-- Numbers at places of some bytes: the readings of `rules`, with the place behind for the rest, and a reading that is under way. Assumes nothing.
use Rattle.std.specs.Prelude.{◌≡◌, List, ℕ, ◌+◌, ◌*◌, ◌≤◌, eqb, length, drop, Option, Some, None}
use Rattle.rules.specs.meaning.Text.{Front, front, refused, pick, next}
use Rattle.rules.specs.meaning.Leb.{leb128, leb_value, of64, read_leb}
use Rattle.rules.specs.meaning.Places.{placed}
use Rattle.rules.proofs.laws.line.Places.{from_place, from_none}
use Rattle.rules.proofs.laws.group.Leb.{read_leb_law}

-- the number at a place, and the place behind it
unfoldable pub leb_at : List ℕ → ℕ → Option (ℕ × ℕ)
leb_at bytes at = placed (length bytes) (read_leb (drop at bytes))

-- what bytes in front of value v and the number w behind them, of so large a scale, come to. A 0 behind them is padding
unfoldable pub joined : ℕ → ℕ → ℕ → List ℕ → Front
joined v scale w rest = pick (eqb w 0) refused (of64 (v + w * scale) rest)

-- the number that is read on from bytes of value v
unfoldable pub rest_of : ℕ → ℕ → List ℕ → Front
rest_of v scale bytes = next (leb_value bytes) (joined v scale)

-- the same at a place
unfoldable pub rest_at : List ℕ → ℕ → ℕ → ℕ → Option (ℕ × ℕ)
rest_at bytes at v scale = placed (length bytes) (rest_of v scale (drop at bytes))

-- ---- what a reading at a place says of the bytes from there on
pub leb_says : (bytes : List ℕ) (at v i : ℕ) → leb_at bytes at ≡ Some (v, i) → (read_leb (drop at bytes) ≡ front v (drop i bytes)) × (i ≤ length bytes)
unfolding leb_at
leb_says bytes at v i e = from_place bytes at (read_leb (drop at bytes)) (λ w r q. (leb128 w, (read_leb_law (drop at bytes) w r q).0)) v i e

pub leb_says_none : (bytes : List ℕ) (at : ℕ) → leb_at bytes at ≡ None → read_leb (drop at bytes) ≡ refused
unfolding leb_at
leb_says_none bytes at e = from_none (length bytes) (read_leb (drop at bytes)) e
