-- A gap's bytes, with something to come behind them.
use mathlib.Core.Path.{◌≡◌, ap, ◌∙◌}
use mathlib.Core.List.{List, [], ◌∷◌}
use Prim.Native.Nat.{ℕ, suc, ◌+◌, ◌*◌, ◌/◌, ◌%◌, ◌≤◌, ◌<◌}
use native.Mathlib.Omega.{arith}
use native.Mathlib.Numerals.{add-one}
use mir.Val.{bool_byte}
use borrow.Author.Tests.{le-leb, lt-leb}
use lib.Dec.{leb}
use lib.ListN.{length, take, drop, set, length-set}
use lib.Seq.{take-set-le, drop-set-lt}
use Rattle.rules.specs.meaning.Leb.{leb128}
use Rattle.rules.specs.meaning.Put.{put}
use Rattle.rules.proofs.laws.Put.{put_put, put_cons}
use Rattle.rules.proofs.laws.table.Order.{Side, Side.below, Side.same, Side.above, side}
use Rattle.rules.proofs.laws.group.Leb.{leb_small, leb_large}
use Rattle.groups.specs.Writing.{Led}

-- a byte that is written over
put_over : (out : List ℕ) (at b : ℕ) (more : List ℕ) → 1 ≤ length more → put (set out at b) at more ≡ put out at more
unfolding put
put_over out at b more h =
    let t : take at (set out at b) ≡ take at out = take-set-le at out at b (omega arith) in
    let d : drop (at + length more) (set out at b) ≡ drop (at + length more) out = drop-set-lt (at + length more) out at b (omega arith) in
    rw (t, d)

module _ (out : List ℕ) (place n : ℕ) (room : place + length (leb128 n) < length out) where
  pub long_gap : (r : ℕ) (after : List ℕ) → r ≡ place + length (leb128 n) → after ≡ put out place (leb128 n) → Led out place n r after
  long_gap r after er ea = (er, λ more h. rw (ea, er) (put_put out place (leb128 n) more (omega arith)))

  -- both bytes of a number below 16,384
  abbrev pub both : ℕ → List ℕ
  both bit = set (set out place (n % 128 + 128 * bit)) (place + 1) (n / 128)

  two_bytes : 128 ≤ n → n < 16384 → Led out place n (place + 1 + 1) (both 1)
  two_bytes l h =
      let y = n / 128 in
      let bytes : leb128 n ≡ (128 + n % 128) ∷ y ∷ [] = leb_large n l (omega arith) ∙ ap (λ t. (128 + n % 128) ∷ t) (leb_small y (omega arith)) in
      let x : n % 128 + 128 * 1 ≡ 128 + n % 128 = omega arith in
      let z : place + 1 + 1 ≡ suc (suc place) = omega arith in
      let size : place + 2 < length out = omega (arith, ap length bytes) in (
        omega (arith, ap length bytes),
        λ more k.
            rw (bytes, x, z, add-one) (put_cons (set out place (128 + n % 128)) (suc place) y more (simp length-set (omega arith)) ∙ put_cons out place (128 + n % 128) (y ∷ more) (omega arith)),
      )

  one_byte : n < 128 → Led out place n (place + 1 + 0) (both 0)
  one_byte h =
      let bytes : leb128 n ≡ n ∷ [] = leb_small n h in
      let x : n % 128 + 128 * 0 ≡ n = omega arith in
      let z : place + 1 + 0 ≡ suc place = omega arith in (
        omega (arith, ap length bytes),
        λ more k. rw (bytes, x, z, add-one) (put_over (set out place n) (suc place) (n / 128) more k ∙ put_cons out place n more (omega (arith, ap length bytes))),
      )

  pub short_gap : n < 16384 → Led out place n (place + 1 + bool_byte (leb 128 n)) (both (bool_byte (leb 128 n)))
  short_gap h = go (side 128 n)
    where
      go : Side 128 n → Led out place n (place + 1 + bool_byte (leb 128 n)) (both (bool_byte (leb 128 n)))
      go (below l) = rw (le-leb 128 n (omega arith)) (two_bytes (omega arith) h)
      go (same e) = rw (le-leb 128 n (omega arith)) (two_bytes (omega arith) h)
      go (above l) = rw (lt-leb 128 n l) (one_byte l)
