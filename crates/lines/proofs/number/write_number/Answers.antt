-- `lines::number::write_number`. Kept by the loop: the digits of the rest and then the buffer from the place on are what is to stand there in
-- the end, and the buffer before the place is as it was.
use native.Mathlib.Omega.{arith}
use mathlib.Core.Path.{◌≡◌, refl, sym, ap, ◌∙◌}
use mathlib.Core.List.{◌++◌}
use Prim.Native.Nat.{ℕ, ◌+◌, ◌-◌, ◌/◌, ◌%◌}
use lib.ListN.{length, take, drop, set, length-set}
use Rattle.rules.specs.meaning.Number.{digits}
use Rattle.rules.proofs.laws.line.Numbers.{one_digit}
use Rattle.lines.proofs.Counts.{two_digits, two_more}
use Rattle.lines.proofs.Spelling.{stored_two, spell_two, spell_last, spell_last_two, front_kept, front_kept_two, put_is}
use Rattle.lines.proofs.number.write_number.Goals as goal

pub loop-rest-init : goal.loop-rest-init
loop-rest-init c = let s = c.args in
    let k : s.place + c.places.result ≡ s.place + length (digits s.n) = omega arith in
    (ap (λ (j : ℕ). digits s.n ++ drop j s.out.now) k, refl, k, refl, omega arith, omega arith)

pub loop-rest-preserved : goal.loop-rest-preserved
loop-rest-preserved c = let l = c.loop-rest in
    let s = c.args in
    let m = two_more l.rest c.loop-rest-test.true l.invariant.4 in (
      spell_two l.out l.rest l.i c.loop-rest-test.true l.invariant.4 (omega arith) (omega arith) ∙ l.invariant.0,
      front_kept_two l.out s.out.now l.i (48 + l.rest % 100 / 10) (48 + l.rest % 10) l.invariant.1,
      omega arith,
      simp length-set l.invariant.3,
      omega arith,
      omega arith,
    )

pub returns-then-rest-lt10 : goal.returns-then-rest-lt10
returns-then-rest-lt10 c = let l = c.loop-rest in
    let s = c.args in
    let m = one_digit l.rest c.if-rest-lt10.true in
    let z : l.i - 1 ≡ s.place = omega arith in
    let out = set l.out (l.i - 1) (48 + l.rest) in (
      omega arith,
      put_is out s.out.now s.place (digits s.n)
          (ap (λ (k : ℕ). take k out) (sym z) ∙ front_kept l.out s.out.now l.i (48 + l.rest) l.invariant.1 ∙ ap (λ (k : ℕ). take k s.out.now) z)
          (ap (λ (k : ℕ). drop k out) (sym z) ∙ spell_last l.out l.rest l.i c.if-rest-lt10.true (omega arith) (omega arith) ∙ l.invariant.0),
    )

pub returns : goal.returns
returns c = let l = c.loop-rest in
    let s = c.args in
    let m = two_digits l.rest c.if-rest-lt10.false c.loop-rest-test.false in
    let z : l.i - 2 ≡ s.place = omega arith in
    let out = stored_two l.out l.i (48 + l.rest / 10) (48 + l.rest % 10) in (
      omega arith,
      put_is out s.out.now s.place (digits s.n)
          (ap (λ (k : ℕ). take k out) (sym z) ∙ front_kept_two l.out s.out.now l.i (48 + l.rest / 10) (48 + l.rest % 10) l.invariant.1 ∙ ap (λ (k : ℕ). take k s.out.now) z)
          (ap (λ (k : ℕ). drop k out) (sym z) ∙ spell_last_two l.out l.rest l.i c.if-rest-lt10.false c.loop-rest-test.false (omega arith) (omega arith) ∙ l.invariant.0),
    )
