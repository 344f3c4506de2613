-- Entries decoded turn by turn: what stands in the words already, in front of what the bytes that are left say, is what all the bytes say.
use mathlib.Core.Path.{◌≡◌, refl, sym, ap, ◌∙◌}
use mathlib.Core.List.{List, [], ◌∷◌, ◌++◌, append-nil, append_assoc}
use Prim.Native.Nat.{ℕ, suc, ◌+◌, ◌-◌, ◌*◌, ◌≤◌, ◌<◌}
use native.Mathlib.Omega.{arith}
use native.Mathlib.Numerals.{add-one}
use lib.ListN.{length, take, drop, set, length-set, drop_of_length-le}
use lib.Seq.{take-suc-set, drop-cons}
use Rattle.rules.specs.meaning.Groups.{most_entries, Group, group, no_group, with_entry, entries_from}
use Rattle.std.specs.Prelude.{Some, None}
use Rattle.groups.specs.declared.entry.Entry.{Entry}
use Rattle.groups.specs.Decoding.{Enters, Decodes}

-- a group with words in front
abbrev pub onto : List ℕ → Group → Group
onto ws (group es) = group (ws ++ es)
onto ws no_group = no_group

onto_none : (g : Group) → onto [] g ≡ g
onto_none (group es) = refl
onto_none no_group = refl

onto_entry : (ws : List ℕ) (e n : ℕ) (g : Group) → onto (ws ++ (e ∷ n ∷ [])) g ≡ onto ws (with_entry e n g)
onto_entry ws e n (group es) = ap group (append_assoc ws (e ∷ n ∷ []) es)
onto_entry ws e n no_group = refl

-- ---- two words set
two_front : (ws : List ℕ) (i e n : ℕ) → i + 1 < length ws → take (i + 2) (set (set ws i e) (i + 1) n) ≡ take i ws ++ (e ∷ n ∷ [])
two_front ws i e n h =
    let a : take (suc i) (set ws i e) ≡ take i ws ++ (e ∷ []) = take-suc-set ws i e (omega arith) in
    let b : take (suc (suc i)) (set (set ws i e) (suc i) n) ≡ take (suc i) (set ws i e) ++ (n ∷ []) = take-suc-set (set ws i e) (suc i) n (simp length-set (omega arith)) in
    let k : i + 2 ≡ suc (suc i) = omega arith in
    rw (k, add-one, b, a) (append_assoc (take i ws) (e ∷ []) (n ∷ []))

-- ---- what the loop keeps: k entries stand in the words, and the next id is at least lo
pub record Filling (bytes : List ℕ) (at count : ℕ) (words : List ℕ) (place lo k : ℕ) : Type 0 where
  pub inside : place ≤ length bytes
  pub room : 2 * count ≤ length words
  pub goes : onto (take (2 * k) words) (entries_from (count - k) lo (drop place bytes)) ≡ entries_from count 0 (drop at bytes)

module _ (bytes : List ℕ) (at count : ℕ) where
  pub filling_none : (words : List ℕ) → at ≤ length bytes → 2 * count ≤ length words → Filling bytes at count words at 0 0
  filling_none words h m =
      let z : count - 0 ≡ count = omega arith in
      record { inside = h; room = m; goes = rw z (onto_none (entries_from count 0 (drop at bytes))) }

  module _ (words : List ℕ) (place lo k : ℕ) (f : Filling bytes at count words place lo k) where
    pub filling_more : (e : Entry) → k < count → Enters bytes place lo (Some e) → Filling bytes at count (set (set words (2 * k) e.id) (2 * k + 1) e.length) e.behind (e.id + 1) (k + 1)
    unfolding Enters
    filling_more e h s =
        let w : 2 * (k + 1) ≡ 2 * k + 2 = omega arith in
        let c : count - k ≡ suc (count - (k + 1)) = omega arith in
        record {
          inside = s.1;
          room = simp length-set f.room;
          goes =
              rw (w, two_front words (2 * k) e.id e.length (omega (arith, f.room)), add-one e.id) (onto_entry (take (2 * k) words) e.id e.length (entries_from (count - (k + 1)) (suc e.id) (drop e.behind bytes)))
              ∙ ap (onto (take (2 * k) words)) (sym (s.0 (count - (k + 1))) ∙ ap (λ (j : ℕ). entries_from j lo (drop place bytes)) (sym c))
              ∙ f.goes;
        }

    pub filling_stop : k < count → Enters bytes place lo None → Decodes (entries_from count 0 (drop at bytes)) None words
    unfolding Enters Decodes
    filling_stop h s =
        let c : count - k ≡ suc (count - (k + 1)) = omega arith in
        sym f.goes ∙ rw (c, s (count - (k + 1)))

    pub filling_left : count ≤ k → place < length bytes → Decodes (entries_from count 0 (drop at bytes)) None words
    unfolding Decodes entries_from
    filling_left h l =
        let c : count - k ≡ 0 = omega arith in
        sym f.goes ∙ rw (c, drop-cons bytes place 0 l)

    pub filling_all : count ≤ k → k ≤ count → length bytes ≤ place → count ≤ most_entries → Decodes (entries_from count 0 (drop at bytes)) (Some count) words
    unfolding Decodes entries_from
    filling_all h w l m =
        let c : count - k ≡ 0 = omega arith in
        let d : 2 * k ≡ 2 * count = omega arith in
        (sym f.goes ∙ rw (c, drop_of_length-le bytes l, d) (ap group (append-nil (take (2 * count) words))), m)

pub ruleset fillings = (filling_none, filling_more, filling_stop, filling_left, filling_all)
