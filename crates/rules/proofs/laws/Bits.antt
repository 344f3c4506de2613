-- A test as a number, and two tests that are one. Assumes nothing.
use Rattle.std.specs.Prelude.{◌≤◌, ◌≡◌, refl, Bool, true, false, cond}
use Rattle.std.proofs.Common.{arith, sym}
use mir.Val.{bool_byte}

pub bit_is : (b : Bool) → bool_byte b ≡ cond b 1 0
bit_is true = refl
bit_is false = refl

pub bit_small : (b : Bool) → bool_byte b ≤ 1
bit_small true = omega arith
bit_small false = omega arith

-- each holds where the other does
pub both_ways : (p q : Bool) → (p ≡ true → q ≡ true) → (q ≡ true → p ≡ true) → p ≡ q
both_ways true q to back = sym (to refl)
both_ways false true to back = back refl
both_ways false false to back = refl
