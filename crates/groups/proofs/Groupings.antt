-- The group of some bytes, by its count.
use mathlib.Core.Path.{◌≡◌, refl, ap, ◌∙◌}
use mathlib.Core.List.{List, [], ◌∷◌, ◌++◌}
use Prim.Native.Nat.{ℕ, ◌^◌, ◌≤◌, ◌<◌}
use native.Mathlib.Omega.{arith}
use borrow.Author.Tests.{le-leb, lt-leb, lt-ltb}
use lib.Dec.{leb}
use Rattle.std.specs.Prelude.{None}
use lib.ListN.{length, get_or, drop}
use lib.Seq.{drop-cons}
use Rattle.rules.specs.meaning.Text.{Front, front, refused}
use Rattle.rules.specs.meaning.Leb.{leb_value, of64, read_leb}
use Rattle.rules.specs.meaning.Groups.{no_group, most_entries, onward, group_if, entries_from, group_of}
use Rattle.rules.proofs.laws.group.Leb.{leb_small, read_leb_law}
use Rattle.rules.proofs.laws.line.Numbers.{below}
use Rattle.groups.specs.Decoding.{Decodes}

module _ (bs words : List ℕ) where
  pub no_count : length bs ≤ 0 → Decodes (group_of bs) None words
  unfolding Decodes group_of read_leb leb_value
  no_count h = go bs h
    where
      go : (xs : List ℕ) → length xs ≤ 0 → group_of xs ≡ no_group
      go [] h = refl
      go (x ∷ xs) h = absurd (omega arith)

  module _ (here : 0 < length bs) where
    first : bs ≡ get_or bs 0 0 ∷ drop 1 bs
    first = drop-cons bs 0 0 here

    -- a number that begins with another byte than itself is above 64
    pub too_many : 64 < get_or bs 0 0 → Decodes (group_of bs) None words
    unfolding Decodes group_of
    too_many h = go (read_leb bs) refl
      where
        go : (f : Front) → read_leb bs ≡ f → onward f (λ n rest. group_if (leb n most_entries) (entries_from n 0 rest)) ≡ no_group
        go (front n rest) e =
            below 64 n (λ l. rw (lt-leb n most_entries l))
            (λ l.
            let t : bs ≡ n ∷ rest = (read_leb_law bs n rest e).0 ∙ ap (λ (ys : List ℕ). ys ++ rest) (leb_small n (omega arith)) in
            let q : get_or bs 0 0 ≡ n = ap (λ (ys : List ℕ). get_or ys 0 0) t in
            absurd (omega arith))
        go refused e = refl

    pub so_many : get_or bs 0 0 ≤ 64 → group_of bs ≡ entries_from (get_or bs 0 0) 0 (drop 1 bs)
    unfolding group_of read_leb leb_value of64
    so_many few =
        let n = get_or bs 0 0 in
        let r : read_leb bs ≡ front n (drop 1 bs) = ap read_leb first ∙ rw (lt-ltb n 128 (omega arith), lt-ltb n (2 ^ 64) (omega arith)) in
        rw (r, le-leb n most_entries few)

pub ruleset groupings = (no_count, too_many, so_many)
