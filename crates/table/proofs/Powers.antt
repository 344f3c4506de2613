-- The search by powers of two: what its shifts make, and how each place looked at halves the span.
-- Assumes nothing.
use Prim.Native.Nat.{ℕ, zero, suc, ◌+◌, ◌*◌, ◌-◌, ◌%◌, ◌^◌, ◌≤◌, ◌<◌}
use native.Mathlib.Nat.{pow-suc}
use native.Mathlib.Omega.{arith}
use mathlib.Core.Bool.{Bool, true, false, ◌&&◌, not, cond}
use mathlib.Core.Path.{◌≡◌, sym, ◌∙◌}
use mathlib.Core.List.{List}
use lib.ListN.{length}
use lib.Dec.{leb, eqb}
use lib.Pow.{shl_exact}
use mir.Val.{bool_byte}
use Rattle.std.proofs.lemmas.Nat.{pow_pos}
use Rattle.rules.specs.meaning.Table.{id_at, length_at}
use Rattle.rules.proofs.laws.table.Places.{Laid}
use Rattle.table.specs.Loops.{Span}
use Rattle.table.proofs.Search.{span_start, span_up, span_stay}

pub one_shifted : (k : ℕ) → k < 64 → 1 * 2 ^ k % 2 ^ 64 ≡ 2 ^ k
one_shifted k h = shl_exact {a = 1} 1 k 64 (omega arith) (omega arith) ∙ (let e : 1 * 2 ^ k ≡ 2 ^ k = omega arith in e)

pub bit_shifted : (b : Bool) (k : ℕ) → k < 64 → bool_byte b * 2 ^ k % 2 ^ 64 ≡ cond b (2 ^ k) 0
bit_shifted true k h = one_shifted k h
bit_shifted false k h = let z : 0 * 2 ^ k ≡ 0 = omega arith in rw z

pub halved : (k : ℕ) → 0 < k → 2 ^ k ≡ 2 ^ (k - 1) + 2 ^ (k - 1)
halved zero h = absurd (omega arith)
halved (suc k) h = let e : suc k - 1 ≡ k = omega arith in rw e (let p : 2 ^ suc k ≡ 2 ^ k + 2 ^ k = omega (arith, pow-suc 2 k) in p)

module _ {most : ℕ} {t : List ℕ} {k : ℕ} (w : Laid most t k) (x : ℕ) where
  -- the first place looked at leaves a power of two, at the end of the table or at its start
  module _ (n e : ℕ) (room : 2 * n ≤ length t) (all : k ≤ n) (lo : 2 ^ e ≤ n) (hi : n ≤ 2 * 2 ^ e) where
    pub first_up : not (eqb (length_at t (n - 2 ^ e)) 0) && leb (id_at t (n - 2 ^ e)) x ≡ true → Span t k x (n - 2 ^ e) (2 ^ e)
    first_up h =
        let one : 1 ≤ 2 ^ e = pow_pos e in
        span_up w x 0 n (n - 2 ^ e) (2 ^ e) (span_start w x n (omega arith) room all) (omega arith) (omega arith) (omega arith) one lo h

    pub first_stay : not (eqb (length_at t (n - 2 ^ e)) 0) && leb (id_at t (n - 2 ^ e)) x ≡ false → Span t k x 0 (2 ^ e)
    first_stay h =
        let one : 1 ≤ 2 ^ e = pow_pos e in
        span_stay w x 0 n (n - 2 ^ e) (2 ^ e) (span_start w x n (omega arith) room all) (omega arith) (omega arith) (omega arith) one lo h

  module _ (base e : ℕ) (some : 0 < e) (s : Span t k x base (2 ^ e)) where
    pub next : (up : Bool) → up ≡ (not (eqb (length_at t (base + 2 ^ (e - 1))) 0) && leb (id_at t (base + 2 ^ (e - 1))) x) → Span t k x (base + cond up (2 ^ (e - 1)) 0) (2 ^ (e - 1))
    next true h =
        let one : 1 ≤ 2 ^ (e - 1) = pow_pos (e - 1) in
        let two : 2 ^ e ≡ 2 ^ (e - 1) + 2 ^ (e - 1) = halved e some in
        span_up w x base (2 ^ e) (base + 2 ^ (e - 1)) (2 ^ (e - 1)) s (omega arith) (omega arith) (omega arith) one (omega arith) (sym h)
    next false h =
        let one : 1 ≤ 2 ^ (e - 1) = pow_pos (e - 1) in
        let two : 2 ^ e ≡ 2 ^ (e - 1) + 2 ^ (e - 1) = halved e some in
        let z : base + 0 ≡ base = omega arith in
        rw z (span_stay w x base (2 ^ e) (base + 2 ^ (e - 1)) (2 ^ (e - 1)) s (omega arith) (omega arith) (omega arith) one (omega arith) (sym h))
