-- One entry of a group, read: two numbers, one behind the other, and the tests of what they come to.
use mathlib.Core.Path.{◌≡◌, refl, ap, ◌∙◌}
use mathlib.Core.Bool.{Bool, true, false, ◌&&◌}
use mathlib.Core.List.{List}
use Prim.Native.Nat.{ℕ, suc, ◌+◌, ◌-◌, ◌^◌, ◌≤◌, ◌<◌}
use native.Mathlib.Omega.{arith}
use native.Mathlib.Numerals.{add-one}
use borrow.Author.Tests.{lt-ltb, le-ltb}
use lib.Dec.{ltb}
use Rattle.std.specs.Prelude.{Option, Some, None}
use Rattle.rules.specs.meaning.Lengths.{M}
use Rattle.rules.specs.meaning.Groups.{entries_from}
use Rattle.leb.specs.Places.{leb_at, leb_says, leb_says_none}
use Rattle.groups.specs.Decoding.{Enters, then_two, last_two, two_at}

and_false : (b : Bool) → b && false ≡ false
and_false true = refl
and_false false = refl

module _ (bytes : List ℕ) (at lo : ℕ) where
  no_gap : leb_at bytes at ≡ None → Enters bytes at lo None
  unfolding Enters entries_from
  no_gap e k = rw (leb_says_none bytes at e)

  module _ (gap middle : ℕ) (one : leb_at bytes at ≡ Some (gap, middle)) where
    no_less : leb_at bytes middle ≡ None → Enters bytes at lo None
    unfolding Enters entries_from
    no_less e k = rw ((leb_says bytes at gap middle one).0, leb_says_none bytes middle e)

    module _ (less behind : ℕ) (two : leb_at bytes middle ≡ Some (less, behind)) where
      no_length : M ≤ less → Enters bytes at lo None
      unfolding Enters entries_from
      no_length h k = rw ((leb_says bytes at gap middle one).0, (leb_says bytes middle less behind two).0, le-ltb less M h, and_false (ltb (lo + gap) (2 ^ 64)))

      no_id : 2 ^ 64 ≤ lo + gap → Enters bytes at lo None
      unfolding Enters entries_from
      no_id h k = rw ((leb_says bytes at gap middle one).0, (leb_says bytes middle less behind two).0, le-ltb (lo + gap) (2 ^ 64) h)

      an_entry : lo + gap < 2 ^ 64 → less < M → Enters bytes at lo (Some (record { id = lo + gap; length = less + 1; behind = behind }))
      unfolding Enters entries_from
      an_entry h m = (
        (λ k. rw ((leb_says bytes at gap middle one).0, (leb_says bytes middle less behind two).0, lt-ltb (lo + gap) (2 ^ 64) h, lt-ltb less M m, add-one less)),
        (leb_says bytes middle less behind two).1,
      )

-- ---- two numbers
module _ (bytes : List ℕ) (k place first second : ℕ) where
  module _ (more : k < 2) where
    left : 2 - k ≡ suc (2 - (k + 1))
    left = omega arith

    pub next_two : (n behind : ℕ) → leb_at bytes place ≡ Some (n, behind) → last_two (2 - k) bytes place first second ≡ last_two (2 - (k + 1)) bytes behind second n
    unfolding last_two
    next_two n behind e = rw (left, e)

    pub no_two : leb_at bytes place ≡ None → last_two (2 - k) bytes place first second ≡ None
    unfolding last_two
    no_two e = rw (left, e)

  pub two_done : 2 ≤ k → last_two (2 - k) bytes place first second ≡ Some (first, second, place)
  unfolding last_two
  two_done h = let z : 2 - k ≡ 0 = omega arith in rw z

pub ruleset two_turns = (next_two, no_two, two_done)

-- what two numbers at a place say of the entry
module _ (bytes : List ℕ) (at lo : ℕ) where
  -- the first of them, the second, and what follows
  two_says : (P : Type 0) (gap less behind : ℕ) → two_at bytes at ≡ Some (gap, less, behind) → ((middle : ℕ) → leb_at bytes at ≡ Some (gap, middle) → leb_at bytes middle ≡ Some (less, behind) → P) → P
  unfolding two_at last_two
  two_says P gap less behind e then = go (leb_at bytes at) refl e
    where
      further : (n middle : ℕ) (f : Option (ℕ × ℕ)) → leb_at bytes middle ≡ f → then_two f (λ m p. Some (n, m, p)) ≡ Some (gap, less, behind)
          → (n ≡ gap) × (leb_at bytes middle ≡ Some (less, behind))
      further n middle (Some (m, p)) is q =
          let t : ◌≡◌ {A = ℕ × ℕ × ℕ} (n, m, p) (gap, less, behind) = cc in
          let b : m ≡ less = ap (λ (x : ℕ × ℕ × ℕ). x.1) t in
          let d : p ≡ behind = ap (λ (x : ℕ × ℕ × ℕ). x.2) t in
          (ap (λ (x : ℕ × ℕ × ℕ). x.0) t, is ∙ rw (b, d))
      further n middle None is q = cc

      go : (f : Option (ℕ × ℕ)) → leb_at bytes at ≡ f → then_two f (λ n p. then_two (leb_at bytes p) (λ m r. Some (n, m, r))) ≡ Some (gap, less, behind) → P
      go (Some (n, middle)) is q =
          let t = further n middle (leb_at bytes middle) refl q in
          then middle (is ∙ ap (λ (g : ℕ). Some (g, middle)) t.0) t.1
      go None is q = cc

  pub two_missing : two_at bytes at ≡ None → Enters bytes at lo None
  unfolding two_at last_two
  two_missing e = go (leb_at bytes at) refl e
    where
      further : (n middle : ℕ) → leb_at bytes at ≡ Some (n, middle) → (f : Option (ℕ × ℕ)) → leb_at bytes middle ≡ f → then_two f (λ m p. Some (n, m, p)) ≡ None → Enters bytes at lo None
      further n middle one (Some (m, p)) is q = cc
      further n middle one None is q = no_less bytes at lo n middle one is

      go : (f : Option (ℕ × ℕ)) → leb_at bytes at ≡ f → then_two f (λ n p. then_two (leb_at bytes p) (λ m r. Some (n, m, r))) ≡ None → Enters bytes at lo None
      go (Some (n, middle)) is q = further n middle is (leb_at bytes middle) refl q
      go None is q = no_gap bytes at lo is

  module _ (gap less behind : ℕ) (two : two_at bytes at ≡ Some (gap, less, behind)) where
    pub two_long : M ≤ less → Enters bytes at lo None
    two_long h = two_says (Enters bytes at lo None) gap less behind two (λ middle p q. no_length bytes at lo gap middle p less behind q h)

    pub two_high : 2 ^ 64 ≤ lo + gap → Enters bytes at lo None
    two_high h = two_says (Enters bytes at lo None) gap less behind two (λ middle p q. no_id bytes at lo gap middle p less behind q h)

    pub two_fit : (id : ℕ) → id ≡ lo + gap → id < 2 ^ 64 → less < M → Enters bytes at lo (Some (record { id = id; length = less + 1; behind = behind }))
    two_fit id e h m =
        rw e (two_says (Enters bytes at lo (Some (record { id = lo + gap; length = less + 1; behind = behind }))) gap less behind two (λ middle p q. an_entry bytes at lo gap middle p less behind q (omega arith) m))

pub ruleset an_entry_read = (two_missing, two_long, two_high, two_fit)
