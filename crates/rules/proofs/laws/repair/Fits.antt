-- Where the ids of all that is named fit a table together: a merge of any of it is accepted, and what it leaves fits with the others again.
-- Assumes nothing.
use Rattle.std.specs.Prelude.{ℕ, zero, suc, ◌≤◌, Bool, true, false, ◌≡◌, refl, List, [], ◌∷◌, ◌++◌}
use Rattle.std.proofs.Common.{le_trans, arith, ◌∙◌}
use Rattle.std.proofs.lemmas.Bool.{false≢true}
use borrow.Author.Tests.{leb-true, le-leb}
use Rattle.rules.specs.meaning.Lengths.{M, join}
use Rattle.rules.specs.meaning.Table.{SoundTable, sound, length_of, held_merged}
use Rattle.rules.specs.meaning.Operations.{accepted, merge_refusal, merge_table}
use Rattle.rules.specs.meaning.Steps.{entries_of, ids_of}
use Rattle.rules.specs.meaning.Ids.{among, distinct, ids_of_all, fit_together}
use Rattle.rules.specs.meaning.Histories.{largest}
use Rattle.rules.specs.meaning.Repairs.{TableOf, are_sound, entries_of_all}
use Rattle.rules.proofs.laws.table.View.{parts}
use Rattle.rules.proofs.laws.table.Update.{held_fits}
use Rattle.rules.proofs.laws.table.Operations.{room_accepted, merge_sound, merge_length, merge_of}
use Rattle.rules.proofs.laws.history.Distinct.{among_append, among_left, among_right, among_either, distinct_grows}
use Rattle.rules.proofs.laws.history.Held.{ids_distinct, needed_for_all, held_among, among_held}
use Rattle.rules.proofs.laws.history.Pairs.{largest_append, largest_entries}

-- ---- the lengths of what is named
-- of the first, and of the others
pub largest_first : (t : List ℕ) (named : List (List ℕ)) → SoundTable t → (x : ℕ) → largest (entries_of_all (t ∷ named)) x ≡ join (length_of t x) (largest (entries_of_all named) x)
unfolding entries_of_all
largest_first t named ok x = rw (← largest_entries M t ok x) (largest_append (entries_of t) (entries_of_all named) x)

-- of one list, and of another behind it
pub largest_both : (xs ys : List (List ℕ)) (x : ℕ) → largest (entries_of_all (xs ++ ys)) x ≡ join (largest (entries_of_all xs) x) (largest (entries_of_all ys) x)
unfolding entries_of_all largest
largest_both [] ys x = omega arith
largest_both (t ∷ xs) ys x = omega (arith, largest_append (entries_of t) (entries_of_all (xs ++ ys)) x, largest_append (entries_of t) (entries_of_all xs) x, largest_both xs ys x)

-- ---- its ids: an id is among them exactly where it has a length
pub length_among : (named : List (List ℕ)) → are_sound named ≡ true → (x : ℕ) → 1 ≤ largest (entries_of_all named) x → among x (ids_of_all named) ≡ true
unfolding are_sound entries_of_all ids_of_all largest
length_among [] sounds x some = absurd (omega arith)
length_among (t ∷ named) sounds x some = go (length_of t x) refl (length_among named (parts (sound M t) _ sounds).1 x)
  where
    first : largest (entries_of_all (t ∷ named)) x ≡ join (length_of t x) (largest (entries_of_all named) x)
    first = largest_first t named (parts (sound M t) _ sounds).0 x

    go : (n : ℕ) → length_of t x ≡ n → (1 ≤ largest (entries_of_all named) x → among x (ids_of_all named) ≡ true) → among x (ids_of t ++ ids_of_all named) ≡ true
    go zero q ih = among_right (ids_of t) (ids_of_all named) x (ih (omega (arith, first)))
    go (suc n) q ih = among_left (ids_of t) (ids_of_all named) x (held_among M t (parts (sound M t) _ sounds).0 x (omega arith))

among_length : (named : List (List ℕ)) → are_sound named ≡ true → (x : ℕ) → among x (ids_of_all named) ≡ true → 1 ≤ largest (entries_of_all named) x
unfolding are_sound entries_of_all ids_of_all among
among_length [] sounds x here = absurd (false≢true here)
among_length (t ∷ named) sounds x here = go (among x (ids_of t)) refl (among_length named (parts (sound M t) _ sounds).1 x)
  where
    ok : SoundTable t
    ok = (parts (sound M t) _ sounds).0

    go : (b : Bool) → among x (ids_of t) ≡ b → (among x (ids_of_all named) ≡ true → 1 ≤ largest (entries_of_all named) x) → 1 ≤ largest (entries_of_all (t ∷ named)) x
    go true q ih = omega (arith, largest_first t named ok x, among_held M t ok x q)
    go false q ih = omega (arith, largest_first t named ok x, ih (rw (among_append x (ids_of t) (ids_of_all named), q) at here))

-- two lists of them, one behind the other
pub sound_both : (xs ys : List (List ℕ)) → are_sound xs ≡ true → are_sound ys ≡ true → are_sound (xs ++ ys) ≡ true
unfolding are_sound
sound_both [] ys sx sy = sy
sound_both (t ∷ xs) ys sx sy =
    let a = parts (sound M t) _ sx in
    rw a.0 (sound_both xs ys a.1 sy)

-- ---- what fits together has no more different ids than there is room for
module _ (c : ℕ) (named : List (List ℕ)) where
  pub fit_few : fit_together c named ≡ true → distinct (ids_of_all named) ≤ c
  unfolding fit_together
  fit_few h = leb-true _ _ h

  -- and a table that has the largest lengths of all that is named has room for it
  pub held_fit : (t : List ℕ) → are_sound named ≡ true → TableOf c t → ((x : ℕ) → length_of t x ≡ largest (entries_of_all named) x) → fit_together c named ≡ true
  unfolding fit_together
  held_fit t sounds table of =
      let all = distinct_grows (ids_of_all named) (ids_of t) (λ x p. held_among M t table.1 x (rw (of x) (among_length named sounds x p))) in
      le-leb (distinct (ids_of_all named)) c (omega (arith, all, ids_distinct M t table.1, held_fits M t 0 table.1, table.0))

-- ---- a table or a group whose ids are among some
abbrev pub Inside : List ℕ → List ℕ → Type 0
Inside ids t = (x : ℕ) → 1 ≤ length_of t x → among x ids ≡ true

-- so it is where none of its lengths is above the largest of all that is named
pub covered_inside : (named : List (List ℕ)) → are_sound named ≡ true → (t : List ℕ) → ((x : ℕ) → length_of t x ≤ largest (entries_of_all named) x) → Inside (ids_of_all named) t
covered_inside named sounds t covered x some = length_among named sounds x (le_trans some (covered x))

-- ---- one merge, where there is room for the ids of both
pub record Joined (c : ℕ) (ids t s : List ℕ) : Type 0 where
  pub taken : merge_refusal t s ≡ accepted
  pub table : TableOf c (merge_table t s)
  pub of : (x : ℕ) → length_of (merge_table t s) x ≡ join (length_of t x) (length_of s x)
  pub inside : Inside ids (merge_table t s)

module _ (c : ℕ) (ids : List ℕ) (few : distinct ids ≤ c) (t s : List ℕ) (table : TableOf c t) (ok : SoundTable s) (in-t : Inside ids t) (in-s : Inside ids s) where
  fits : merge_refusal t s ≡ accepted
  unfolding merge_refusal
  fits =
      let all = among_either (ids_of s) (ids_of t) ids (λ x p. in-s x (among_held M s ok x p)) (λ x p. in-t x (among_held M t table.1 x p)) in
      room_accepted t (held_merged t s) (omega (arith, few, distinct_grows (ids_of s ++ ids_of t) ids all, needed_for_all M t s table.1 ok, table.0))

  both_of : (x : ℕ) → length_of (merge_table t s) x ≡ join (length_of t x) (length_of s x)
  both_of = merge_of M t s table.1 ok fits

  still_inside : Inside ids (merge_table t s)
  still_inside x some = go (length_of t x) refl
    where
      go : (n : ℕ) → length_of t x ≡ n → among x ids ≡ true
      go zero q = in-s x (omega (arith, both_of x))
      go (suc n) q = in-t x (omega arith)

  pub joined : Joined c ids t s
  joined = record { taken = fits; table = (merge_length M t s table.1 ok ∙ table.0, merge_sound M t s table.1 ok); of = both_of; inside = still_inside }
