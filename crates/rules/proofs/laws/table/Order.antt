-- Two numbers, compared: the one case split that proofs about tables make.
-- Assumes nothing.
use Rattle.std.specs.Prelude.{ℕ, ◌≤◌, ◌<◌, ◌≡◌, ◌⊎◌}
use Rattle.std.proofs.Common.{arith, inl, inr}
use Rattle.std.proofs.Math.Decide.{dec_lt}

pub data Side (a b : ℕ) : Type 0 where
  below : a < b → Side a b
  same : a ≡ b → Side a b
  above : b < a → Side a b

pub side : (a b : ℕ) → Side a b
side a b = go (dec_lt a b) (dec_lt b a)
  where
    go : Dec (a < b) → Dec (b < a) → Side a b
    go (yes p) d = below p
    go (no p) (yes q) = above q
    go (no p) (no q) = same (omega arith)

pub lt_or_le : (i k : ℕ) → (i < k) ⊎ (k ≤ i)
lt_or_le i k = go (side i k)
  where
    go : Side i k → (i < k) ⊎ (k ≤ i)
    go (below p) = inl p
    go (same p) = inr (omega arith)
    go (above p) = inr (omega arith)
