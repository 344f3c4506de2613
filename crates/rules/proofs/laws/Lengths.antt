-- The laws of one length: what an add and a remove leave, that neither falls, that the join is the least upper bound, and when the
-- lengths run out.
-- Assumes nothing.
use Rattle.std.specs.Prelude.{ℕ, suc, ◌%◌, ◌≤◌, Bool, true, false, ◌≡◌, refl, eqb}
use Rattle.std.proofs.Common.{arith, eq-eqb, ne_eqb, eqb-true, lt-ltb, le-ltb}
use Rattle.std.proofs.lemmas.Bool.{eqb-false}
use Rattle.rules.specs.meaning.Lengths.{listed, after_add, after_remove, join, runs_out}

-- ---- listed is odd
pub odd_listed : (n : ℕ) → n % 2 ≡ 1 → listed n ≡ true
unfolding listed
odd_listed n h = eq-eqb (n % 2) 1 h

pub even_listed : (n : ℕ) → n % 2 ≡ 0 → listed n ≡ false
unfolding listed
even_listed n h = ne_eqb (n % 2) 1 (omega arith)

pub listed_odd : (n : ℕ) → listed n ≡ true → n % 2 ≡ 1
unfolding listed
listed_odd n h = eqb-true (n % 2) 1 h

pub unlisted_even : (n : ℕ) → listed n ≡ false → n % 2 ≡ 0
unfolding listed
unlisted_even n h = omega (arith, eqb-false (n % 2) 1 h)

-- ---- each case, as an equation
pub add_listed : (n : ℕ) → listed n ≡ true → after_add n ≡ n
unfolding after_add
add_listed n h = rw h

pub add_unlisted : (n : ℕ) → listed n ≡ false → after_add n ≡ suc n
unfolding after_add
add_unlisted n h = rw h

pub remove_listed : (n : ℕ) → listed n ≡ true → after_remove n ≡ suc n
unfolding after_remove
remove_listed n h = rw h

pub remove_unlisted : (n : ℕ) → listed n ≡ false → after_remove n ≡ n
unfolding after_remove
remove_unlisted n h = rw h

-- a length, by whether it is listed, with the parity that goes with it
pub data Parity (n : ℕ) : Type 0 where
  odd : listed n ≡ true → n % 2 ≡ 1 → Parity n
  even : listed n ≡ false → n % 2 ≡ 0 → Parity n

pub parity : (n : ℕ) → Parity n
parity n = go (listed n) refl
  where
    go : (b : Bool) → listed n ≡ b → Parity n
    go true e = odd e (listed_odd n e)
    go false e = even e (unlisted_even n e)

-- ---- an add gives an odd length, a remove an even one; neither falls, and neither rises by more than 1
pub add_lists : (n : ℕ) → listed (after_add n) ≡ true
add_lists n = go (parity n)
  where
    go : Parity n → listed (after_add n) ≡ true
    go (odd e p) = rw (add_listed n e) e
    go (even e p) = rw (add_unlisted n e) (odd_listed (suc n) (omega arith))

pub remove_unlists : (n : ℕ) → listed (after_remove n) ≡ false
remove_unlists n = go (parity n)
  where
    go : Parity n → listed (after_remove n) ≡ false
    go (odd e p) = rw (remove_listed n e) (even_listed (suc n) (omega arith))
    go (even e p) = rw (remove_unlisted n e) e

pub add_rises : (n : ℕ) → (n ≤ after_add n) × (after_add n ≤ suc n)
add_rises n = go (parity n)
  where
    go : Parity n → (n ≤ after_add n) × (after_add n ≤ suc n)
    go (odd e p) = omega (arith, add_listed n e)
    go (even e p) = omega (arith, add_unlisted n e)

pub remove_rises : (n : ℕ) → (n ≤ after_remove n) × (after_remove n ≤ suc n)
remove_rises n = go (parity n)
  where
    go : Parity n → (n ≤ after_remove n) × (after_remove n ≤ suc n)
    go (odd e p) = omega (arith, remove_listed n e)
    go (even e p) = omega (arith, remove_unlisted n e)

-- an id that was added has a length above 0
pub add_above_zero : (n : ℕ) → 1 ≤ after_add n
add_above_zero n = go (parity n)
  where
    go : Parity n → 1 ≤ after_add n
    go (odd e p) = omega (arith, add_listed n e)
    go (even e p) = omega (arith, add_unlisted n e)

-- the first add of an id gives 1, and a remove of an id never held leaves 0
pub add_none : after_add 0 ≡ 1
unfolding after_add listed
add_none = refl

pub remove_none : after_remove 0 ≡ 0
unfolding after_remove listed
remove_none = refl

-- ---- the lengths run out only at the largest, and where that is odd only for a remove
module _ (most n : ℕ) (fits : n ≤ most) where
  pub add_fits : most % 2 ≡ 1 → after_add n ≤ most
  add_fits h = go (parity n)
    where
      go : Parity n → after_add n ≤ most
      go (odd e p) = omega (arith, add_listed n e)
      go (even e p) = omega (arith, add_unlisted n e)

  -- refused with 7 "exactly when" the length is the largest, which is odd
  pub remove_runs_out : most % 2 ≡ 1 → runs_out most (after_remove n) ≡ eqb n most
  remove_runs_out h = go (parity n) (eqb n most) refl
    where
      go : Parity n → (b : Bool) → eqb n most ≡ b → runs_out most (after_remove n) ≡ eqb n most
      go (odd e p) true q = rw (q, remove_listed n e) (lt-ltb most (suc n) (omega (arith, eqb-true n most q)))
      go (odd e p) false q = rw (q, remove_listed n e) (le-ltb most (suc n) (omega (arith, eqb-false n most q)))
      go (even e p) true q = absurd (omega (arith, eqb-true n most q))
      go (even e p) false q = rw (q, remove_unlisted n e) (le-ltb most n (omega arith))

-- ---- the join is the least upper bound
module _ (a b : ℕ) where
  pub join_upper : (a ≤ join a b) × (b ≤ join a b)
  join_upper = omega arith

  pub join_least : (c : ℕ) → a ≤ c → b ≤ c → join a b ≤ c
  join_least c p q = omega arith

  pub join_commutes : join a b ≡ join b a
  join_commutes = omega arith

  pub join_associates : (c : ℕ) → join (join a b) c ≡ join a (join b c)
  join_associates c = omega arith

pub join_again : (a : ℕ) → join a a ≡ a
join_again a = omega arith

pub join_none : (a : ℕ) → (join a 0 ≡ a) × (join 0 a ≡ a)
join_none a = omega arith
