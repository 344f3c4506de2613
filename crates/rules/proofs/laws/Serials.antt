-- The laws of serials: of two, exactly one of four things holds, the first is newer, the second is, they are the same, or they have no order; the next
-- serial is newer, also where it wraps; the lag's bounds, and that it leads from the last sent to the newest heard.
-- Assumes nothing.
use Rattle.std.specs.Prelude.{ℕ, ◌+◌, ◌-◌, ◌%◌, ◌<◌, ◌≤◌, ◌≡◌, refl, Bool, true, false, ◌&&◌, cond, ltb, eqb, pos, negsuc, nat_abs}
use Rattle.std.proofs.Common.{arith, sym, ◌∙◌, lt-ltb, le-ltb, eq-eqb, ne_eqb, ltb-true, ltb-false, eqb-true}
use Rattle.std.proofs.Math.Path.{ap}
use Rattle.std.proofs.Math.Bool.{not, or-false}
use Rattle.std.proofs.lemmas.Bool.{eqb-false, not-true}
use Rattle.rules.specs.meaning.Serials.{serials, largest_serial, half, next_serial, serial_before, is_newer, ahead, is_ordered, lag_of, wrapped}

-- ---- the wrapped difference, by which of the two is the greater number
pub ahead_below : (a b : ℕ) → a < b → b ≤ largest_serial → ahead a b ≡ serials - (b - a)
unfolding ahead
ahead_below a b less fits = omega (arith, less, fits)

pub ahead_above : (a b : ℕ) → b ≤ a → a ≤ largest_serial → ahead a b ≡ a - b
unfolding ahead
ahead_above a b less fits = omega (arith, less, fits)

-- it is a serial, and none at all only between a serial and itself
pub ahead_fits : (a b : ℕ) → ahead a b ≤ largest_serial
unfolding ahead
ahead_fits a b = omega arith

pub ahead_none : (a b : ℕ) → a ≤ largest_serial → b ≤ largest_serial → ahead a b ≡ 0 → a ≡ b
unfolding ahead
ahead_none a b fa fb e = omega (arith, fa, fb, e)

pub ahead_same : (a : ℕ) → a ≤ largest_serial → ahead a a ≡ 0
unfolding ahead
ahead_same a fits = omega (arith, fits)

-- from the other side it is what is left of the serials
pub ahead_back : (a b : ℕ) → a ≤ largest_serial → b ≤ largest_serial → 0 < ahead a b → ahead b a ≡ serials - ahead a b
unfolding ahead
ahead_back a b fa fb some = omega (arith, fa, fb, some)

-- added to the second it gives the first
pub ahead_adds : (a b : ℕ) → a ≤ largest_serial → b ≤ largest_serial → (b + ahead a b) % serials ≡ a
unfolding ahead
ahead_adds a b fa fb = omega (arith, fa, fb)

-- ---- the order by the wrapped difference: newer is ahead by less than half
-- two tests that hold or fail together
together : (m n p q : ℕ) → (m < n → p < q) → (n ≤ m → q ≤ p) → ltb m n ≡ ltb p q
together m n p q over under = go (ltb m n) refl
  where
    go : (t : Bool) → ltb m n ≡ t → ltb m n ≡ ltb p q
    go true e = e ∙ sym (lt-ltb p q (over (ltb-true m n e)))
    go false e = e ∙ sym (le-ltb p q (under (ltb-false m n e)))

newer_below : (a b : ℕ) → a < b → is_newer a b ≡ ltb half (b - a)
unfolding is_newer
newer_below a b less = rw (lt-ltb a b less, le-ltb b a (omega (arith, less))) (or-false (ltb half (b - a)))

newer_above : (a b : ℕ) → b < a → is_newer a b ≡ ltb (a - b) half
unfolding is_newer
newer_above a b less = rw (lt-ltb b a less, le-ltb a b (omega (arith, less)))

newer_same : (a b : ℕ) → a ≡ b → is_newer a b ≡ false
unfolding is_newer
newer_same a b e = rw (le-ltb a b (omega (arith, e)), le-ltb b a (omega (arith, e)))

newer_by : (a b : ℕ) → a ≤ largest_serial → b ≤ largest_serial → (s t : Bool) → ltb a b ≡ s → ltb b a ≡ t → is_newer a b ≡ ltb 0 (ahead a b) && ltb (ahead a b) half
newer_by a b fa fb true t e f =
    let less = ltb-true a b e in
    let d = ahead_below a b less fb in
    rw (newer_below a b less, lt-ltb 0 (ahead a b) (omega (arith, d, less, fb)), d) (together half (b - a) (serials - (b - a)) half (λ h. omega (arith, h, fb)) (λ h. omega (arith, h, less, fb)))
newer_by a b fa fb false true e f =
    let less = ltb-true b a f in
    let d = ahead_above a b (omega (arith, less)) fa in
    rw (newer_above a b less, lt-ltb 0 (ahead a b) (omega (arith, d, less)), d)
newer_by a b fa fb false false e f =
    let eq : a ≡ b = omega (arith, ltb-false a b e, ltb-false b a f) in
    let d = ahead_above a b (omega (arith, eq)) fa in
    let none : ahead a b ≡ 0 = omega (arith, d, eq) in
    rw (newer_same a b eq, none)

pub newer_ahead : (a b : ℕ) → a ≤ largest_serial → b ≤ largest_serial → is_newer a b ≡ ltb 0 (ahead a b) && ltb (ahead a b) half
newer_ahead a b fa fb = newer_by a b fa fb (ltb a b) (ltb b a) refl refl

-- ---- how two serials stand to each other: exactly one of the four
pub data Stand (a b : ℕ) : Type 0 where
  newer : is_newer a b ≡ true → is_newer b a ≡ false → is_ordered a b ≡ true → (a ≡ b → ⊥) → Stand a b
  older : is_newer a b ≡ false → is_newer b a ≡ true → is_ordered a b ≡ true → (a ≡ b → ⊥) → Stand a b
  same : is_newer a b ≡ false → is_newer b a ≡ false → is_ordered a b ≡ true → a ≡ b → Stand a b
  undefined : is_newer a b ≡ false → is_newer b a ≡ false → is_ordered a b ≡ false → (a ≡ b → ⊥) → Stand a b

module _ (a b : ℕ) (fa : a ≤ largest_serial) (fb : b ≤ largest_serial) where
  -- newer, by how far ahead it is
  is_newer_law : 0 < ahead a b → ahead a b < half → is_newer a b ≡ true
  is_newer_law some less = newer_ahead a b fa fb ∙ rw (lt-ltb 0 (ahead a b) some) (lt-ltb (ahead a b) half less)

  not_newer : half ≤ ahead a b → is_newer a b ≡ false
  not_newer over = newer_ahead a b fa fb ∙ rw (lt-ltb 0 (ahead a b) (omega (arith, over))) (le-ltb (ahead a b) half over)

  -- ordered, where it is not ahead by half
  is_ordered_law : (ahead a b ≡ half → ⊥) → is_ordered a b ≡ true
  unfolding is_ordered
  is_ordered_law off = ap not (ne_eqb (ahead a b) half off)

  not_ordered : ahead a b ≡ half → is_ordered a b ≡ false
  unfolding is_ordered
  not_ordered e = ap not (eq-eqb (ahead a b) half e)

  -- something apart, they are not the same
  apart : 0 < ahead a b → a ≡ b → ⊥
  apart some e = omega (arith, some, ap (λ (k : ℕ). ahead a k) (sym e), ahead_same a fa)

module _ (a b : ℕ) (fa : a ≤ largest_serial) (fb : b ≤ largest_serial) where
  pub stand : Stand a b
  stand = go (eqb (ahead a b) 0) refl (ltb (ahead a b) half) refl (eqb (ahead a b) half) refl
    where
      back : 0 < ahead a b → ahead b a ≡ serials - ahead a b
      back = ahead_back a b fa fb

      go : (n : Bool) → eqb (ahead a b) 0 ≡ n → (s : Bool) → ltb (ahead a b) half ≡ s → (h : Bool) → eqb (ahead a b) half ≡ h → Stand a b
      go true e s f h g =
          let eq = ahead_none a b fa fb (eqb-true _ _ e) in
          same (newer_same a b eq) (newer_same b a (sym eq)) (is_ordered_law a b fa fb (omega (arith, eqb-true (ahead a b) 0 e))) eq
      go false e true f h g =
          let some : 0 < ahead a b = omega (arith, eqb-false (ahead a b) 0 e) in
          let less = ltb-true (ahead a b) half f in
          newer (is_newer_law a b fa fb some less) (not_newer b a fb fa (omega (arith, back some, less, some))) (is_ordered_law a b fa fb (omega (arith, less))) (apart a b fa fb some)
      go false e false f true g =
          let d = eqb-true (ahead a b) half g in
          let some : 0 < ahead a b = omega (arith, d) in
          undefined (not_newer a b fa fb (omega (arith, d))) (not_newer b a fb fa (omega (arith, back some, d))) (not_ordered a b fa fb d) (apart a b fa fb some)
      go false e false f false g =
          let off = eqb-false (ahead a b) half g in
          let over = ltb-false (ahead a b) half f in
          let some : 0 < ahead a b = omega (arith, over) in
          let fits = ahead_fits a b in
          older (not_newer a b fa fb over) (is_newer_law b a fb fa (omega (arith, back some, over, fits)) (omega (arith, back some, over, off))) (is_ordered_law a b fa fb off) (apart a b fa fb some)

-- ---- the next serial
-- it is a serial, and newer than the one before, also where it wraps
pub next_fits : (n : ℕ) → next_serial n ≤ largest_serial
unfolding next_serial
next_fits n = omega arith

next_ahead : (n : ℕ) → n ≤ largest_serial → ahead (next_serial n) n ≡ 1
unfolding next_serial ahead
next_ahead n fits = omega (arith, fits)

pub next_newer : (n : ℕ) → n ≤ largest_serial → is_newer (next_serial n) n ≡ true
next_newer n fits = is_newer_law (next_serial n) n (next_fits n) fits (omega (arith, next_ahead n fits)) (omega (arith, next_ahead n fits))

-- the last sent is the one before the next
pub before_next : (n : ℕ) → n ≤ largest_serial → serial_before (next_serial n) ≡ n
unfolding next_serial serial_before
before_next n fits = omega (arith, fits)

-- ---- the lag
-- what it wraps to is the wrapped difference
lag_wraps : (heard last : ℕ) → wrapped (lag_of heard last) ≡ ahead heard last
unfolding lag_of
lag_wraps heard last = go (ltb (ahead heard last) half)
  where
    go : (t : Bool) → wrapped (cond t (pos (ahead heard last)) (negsuc (largest_serial - ahead heard last))) ≡ ahead heard last
    go true = refl
    go false = omega (arith, ahead_fits heard last)

-- "the newest heard minus the last sent": from the last sent on by the lag, wrapped, is the newest heard
pub lag_adds : (heard last : ℕ) → heard ≤ largest_serial → last ≤ largest_serial → (last + wrapped (lag_of heard last)) % serials ≡ heard
lag_adds heard last fh fl = rw (lag_wraps heard last) (ahead_adds heard last fh fl)

-- "from −2,147,483,647 to 2,147,483,647", wherever the two have an order
pub lag_bounds : (heard last : ℕ) → is_ordered heard last ≡ true → nat_abs (lag_of heard last) < half
unfolding is_ordered lag_of
lag_bounds heard last o = go (ltb (ahead heard last) half) refl
  where
    off : ahead heard last ≡ half → ⊥
    off = eqb-false (ahead heard last) half (not-true (eqb (ahead heard last) half) o)

    go : (t : Bool) → ltb (ahead heard last) half ≡ t → nat_abs (cond t (pos (ahead heard last)) (negsuc (largest_serial - ahead heard last))) < half
    go true e = ltb-true (ahead heard last) half e
    go false e = omega (arith, ltb-false (ahead heard last) half e, off, ahead_fits heard last)
