-- The order of repairs, at one table: what comes of tables and groups that fit it together goes by their entries alone. Each law of the request follows from
-- THE LAW and from one of the join.
-- Assumes nothing.
use Rattle.std.specs.Prelude.{ℕ, ◌*◌, ◌≤◌, ◌≡◌, refl, length, eqb}
use Rattle.std.proofs.Common.{le_refl, arith, ap, ◌∙◌, le-ltb, eqb-true}
use Rattle.std.proofs.Math.Bool.{true}
use Rattle.std.proofs.lemmas.Bool.{false≢true}
use Rattle.std.proofs.Math.Path.{sym}
use mathlib.Core.List.{List, [], ◌∷◌}
use Rattle.std.proofs.lemmas.List.{length-replicate}
use Rattle.rules.specs.meaning.Lengths.{M, join}
use Rattle.rules.specs.meaning.Table.{SoundTable, sound, length_of, rises}
use Rattle.rules.specs.meaning.Operations.{accepted, answer, merge_refusal, merge_answer, merge_table}
use Rattle.rules.specs.meaning.Steps.{ids_of}
use Rattle.rules.specs.meaning.Ids.{among, distinct, ids_of_all, fit_together}
use Rattle.rules.specs.meaning.Histories.{largest, same_pairs}
use Rattle.rules.specs.meaning.Repairs.{TableOf, empty_table, are_sound, entries_of_all, taken_in, all_taken}
use Rattle.rules.proofs.laws.Bits.{both_ways}
use Rattle.rules.proofs.laws.Lengths.{join_commutes, join_associates}
use Rattle.rules.proofs.laws.table.View.{Sound.rest, parts, say}
use Rattle.rules.proofs.laws.table.Law.{law, of_unused}
use Rattle.rules.proofs.laws.table.Update.{held_fits}
use Rattle.rules.proofs.laws.table.Merge.{none_rises, still, still_room}
use Rattle.rules.proofs.laws.table.Operations.{merge_accepted, merge_sound, merge_length, merge_of}
use Rattle.rules.proofs.laws.run.Zeros.{all_unused}
use Rattle.rules.proofs.laws.history.Climbing.{among_same}
use Rattle.rules.proofs.laws.history.Held.{ids_distinct, held_among}
use Rattle.rules.proofs.laws.history.Pairs.{same_largest}
use Rattle.rules.proofs.laws.history.Rising.{risen, risen_count, risen_among}
use Rattle.rules.proofs.laws.repair.Fits.{largest_first, length_among, fit_few, held_fit, Inside, covered_inside, joined}

-- two tables of one capacity with the same lengths are one
pub one_table : (c : ℕ) (t u : List ℕ) → TableOf c t → TableOf c u → ((x : ℕ) → length_of t x ≡ length_of u x) → t ≡ u
one_table c t u a b agree = law M a.1 b.1 (a.0 ∙ sym b.0) agree

-- ---- a merge that brings nothing new: no length rises, and the table stays
module _ (t s : List ℕ) (ok : SoundTable t) (other : SoundTable s) (covered : (x : ℕ) → length_of s x ≤ length_of t x) where
  none_risen : risen t s ≡ []
  none_risen = go (risen t s) refl
    where
      go : (ids : List ℕ) → risen t s ≡ ids → ids ≡ []
      go [] q = refl
      go (x ∷ ids) q = absurd (false≢true (sym (le-ltb _ _ (covered x)) ∙ sym (risen_among M t s other x) ∙ (rw q (among_same x ids))))

  nothing_new : (merge_answer t s ≡ answer accepted 0) × (merge_table t s ≡ t)
  nothing_new =
      let none : rises t s ≡ 0 = sym (risen_count t s) ∙ ap length none_risen in
      let taken = merge_accepted t s (still_room M t s ok other none) in
      (taken.0 ∙ ap (answer accepted) none, taken.1 ∙ still M t s ok other none)

-- ---- all that is named, taken in one after the other
-- accepted, it leaves the largest of all lengths
pub taken_of : (c : ℕ) (named : List (List ℕ)) → are_sound named ≡ true → (t : List ℕ) → TableOf c t → all_taken t named ≡ true
    → TableOf c (taken_in t named) × ((x : ℕ) → length_of (taken_in t named) x ≡ join (length_of t x) (largest (entries_of_all named) x))
unfolding are_sound all_taken taken_in entries_of_all largest
taken_of c [] sounds t table taken = (table, λ x. omega arith)
taken_of c (s ∷ named) sounds t table taken =
    let ok = parts (sound M s) _ sounds in
    let a = parts (eqb (merge_refusal t s) accepted) _ taken in
    let one = merge_of M t s table.1 ok.0 (eqb-true _ _ a.0) in
    let rest = taken_of c named ok.1 (merge_table t s) (merge_length M t s table.1 ok.0 ∙ table.0, merge_sound M t s table.1 ok.0) a.1 in
    (rest.0, λ x. omega (arith, rest.1 x, one x, largest_first s named ok.0 x))

-- where there is room for the ids of all it is accepted
take_all : (c : ℕ) (ids : List ℕ) → distinct ids ≤ c → (named : List (List ℕ)) → are_sound named ≡ true → ((x : ℕ) → 1 ≤ largest (entries_of_all named) x → among x ids ≡ true)
    → (t : List ℕ) → TableOf c t → Inside ids t → all_taken t named ≡ true
unfolding are_sound all_taken
take_all c ids few [] sounds in_all t table in-t = refl
take_all c ids few (s ∷ named) sounds in_all t table in-t =
    let ok = parts (sound M s) _ sounds in
    let first = largest_first s named ok.0 in
    let one = joined c ids few t s table ok.0 in-t (λ x h. in_all x (omega (arith, first x))) in
    rw one.taken (take_all c ids few named ok.1 (λ x h. in_all x (omega (arith, first x))) (merge_table t s) one.table one.inside)

-- ---- the laws of the request
module _ (c : ℕ) where
  -- "merging a table with an equal one changes nothing"
  pub equal_changes_nothing : (a : List ℕ) → TableOf c a → (merge_answer a a ≡ answer accepted 0) × (merge_table a a ≡ a)
  equal_changes_nothing a ta = nothing_new a a ta.1 ta.1 (λ x. le_refl (length_of a x))

  -- and back: where neither merge raises a length the tables are equal
  pub no_rise_is_equal : (a b : List ℕ) → TableOf c a → TableOf c b → rises a b ≡ 0 → rises b a ≡ 0 → a ≡ b
  no_rise_is_equal a b ta tb p q = one_table c a b ta tb (λ x. omega (arith, none_rises M a b ta.1 tb.1 p x, none_rises M b a tb.1 ta.1 q x))

  -- "either one merged into the other gives the same table"
  pub either_way : (a b : List ℕ) → TableOf c a → TableOf c b → fit_together c (a ∷ b ∷ []) ≡ true
      → (merge_refusal a b ≡ accepted) × (merge_refusal b a ≡ accepted) × (merge_table a b ≡ merge_table b a)
  unfolding are_sound
  either_way a b ta tb fit =
      let named = a ∷ b ∷ [] in
      let sounds : are_sound named ≡ true = rw (ta.1, tb.1) in
      let of-a = largest_first a (b ∷ []) ta.1 in
      let of-b = largest_first b [] tb.1 in
      let in-a = covered_inside named sounds a (λ x. omega (arith, of-a x)) in
      let in_b = covered_inside named sounds b (λ x. omega (arith, of-a x, of-b x)) in
      let merge = joined c (ids_of_all named) (fit_few c named fit) in
      let ab = merge a b ta tb.1 in-a in_b in
      let ba = merge b a tb ta.1 in_b in-a in
      (ab.taken, ba.taken, one_table c _ _ ab.table ba.table (λ x. ab.of x ∙ join_commutes (length_of a x) (length_of b x) ∙ sym (ba.of x)))

  -- "three may be grouped in either way"
  pub three_either_way : (a b d : List ℕ) → TableOf c a → TableOf c b → TableOf c d → fit_together c (a ∷ b ∷ d ∷ []) ≡ true
      → (merge_refusal a b ≡ accepted) × (merge_refusal (merge_table a b) d ≡ accepted) × (merge_refusal b d ≡ accepted) × (merge_refusal a (merge_table b d) ≡ accepted)
      × (merge_table (merge_table a b) d ≡ merge_table a (merge_table b d))
  unfolding are_sound
  three_either_way a b d ta tb td fit =
      let named = a ∷ b ∷ d ∷ [] in
      let sounds : are_sound named ≡ true = rw (ta.1, tb.1, td.1) in
      let of-a = largest_first a (b ∷ d ∷ []) ta.1 in
      let of-b = largest_first b (d ∷ []) tb.1 in
      let of-d = largest_first d [] td.1 in
      let in-a = covered_inside named sounds a (λ x. omega (arith, of-a x)) in
      let in_b = covered_inside named sounds b (λ x. omega (arith, of-a x, of-b x)) in
      let in-d = covered_inside named sounds d (λ x. omega (arith, of-a x, of-b x, of-d x)) in
      let merge = joined c (ids_of_all named) (fit_few c named fit) in
      let ab = merge a b ta tb.1 in-a in_b in
      let bd = merge b d tb td.1 in_b in-d in
      let left = merge (merge_table a b) d ab.table td.1 ab.inside in-d in
      let right = merge a (merge_table b d) ta bd.table.1 in-a bd.inside in
      (ab.taken, left.taken, bd.taken, right.taken, one_table c _ _ left.table right.table (λ x. grouped (length_of a x) (length_of b x) (length_of d x) (left.of x) (ab.of x) (right.of x) (bd.of x)))
    where
      grouped : (a b d : ℕ) {ab bd left right : ℕ} → left ≡ join ab d → ab ≡ join a b → right ≡ join a bd → bd ≡ join b d → left ≡ right
      grouped a b d p q r s = rw (p, q, r, s) (join_associates a b d)

  -- "the empty table changes nothing", taken in and taking in
  pub empty_changes_nothing : (a : List ℕ) → TableOf c a
      → (merge_answer a (empty_table c) ≡ answer accepted 0) × (merge_table a (empty_table c) ≡ a) × (merge_refusal (empty_table c) a ≡ accepted) × (merge_table (empty_table c) a ≡ a)
  empty_changes_nothing a ta =
      let none = of_unused (all_unused c) in
      let te : TableOf c (empty_table c) = (length-replicate {A = ℕ} (2 * c) 0, say (rest (all_unused c))) in
      let out = nothing_new a (empty_table c) ta.1 te.1 (λ x. omega (arith, none x)) in
      let few : distinct (ids_of a) ≤ c = omega (arith, ids_distinct M a ta.1, held_fits M a 0 ta.1, ta.0) in
      let into = joined c (ids_of a) few (empty_table c) a te ta.1 (λ x h. absurd (omega (arith, none x))) (held_among M a ta.1) in
      (out.0, out.1, into.taken, one_table c _ _ into.table ta (λ x. omega (arith, into.of x, none x)))

  -- all that is named is accepted exactly where it fits together
  pub taken_where_it_fits : (t : List ℕ) (xs : List (List ℕ)) → TableOf c t → are_sound xs ≡ true → all_taken t xs ≡ fit_together c (t ∷ xs)
  unfolding are_sound
  taken_where_it_fits t xs table sx = both_ways (all_taken t xs) (fit_together c (t ∷ xs))
      (λ taken. let end = taken_of c xs sx t table taken in held_fit c (t ∷ xs) (taken_in t xs) sounds end.0 (λ x. omega (arith, end.1 x, first x)))
      (λ fit. take_all c (ids_of_all (t ∷ xs)) (fit_few c (t ∷ xs) fit) xs sx (λ x some. length_among (t ∷ xs) sounds x (omega (arith, first x))) t table
      (covered_inside (t ∷ xs) sounds t (λ x. omega (arith, first x))))
    where
      first : (x : ℕ) → largest (entries_of_all (t ∷ xs)) x ≡ join (length_of t x) (largest (entries_of_all xs) x)
      first = largest_first t xs table.1

      sounds : are_sound (t ∷ xs) ≡ true
      sounds = rw table.1 sx

  -- "Groups absorbed in any order, or twice, likewise leave the same table", and whole tables among them: where the set of entries is the same
  pub any_order : (t : List ℕ) (xs ys : List (List ℕ)) → TableOf c t → are_sound xs ≡ true → are_sound ys ≡ true → same_pairs (entries_of_all xs) (entries_of_all ys) ≡ true
      → fit_together c (t ∷ xs) ≡ true → (all_taken t xs ≡ true) × (all_taken t ys ≡ true) × (taken_in t xs ≡ taken_in t ys)
  unfolding are_sound
  any_order t xs ys table sx sy alike fit =
      let agree = same_largest (entries_of_all xs) (entries_of_all ys) alike in
      let all-x = taken_where_it_fits t xs table sx ∙ fit in
      let one = taken_of c xs sx t table all-x in
      let sounds : are_sound (t ∷ ys) ≡ true = rw table.1 sy in
      let all-y = taken_where_it_fits t ys table sy ∙ held_fit c (t ∷ ys) (taken_in t xs) sounds one.0 (λ x. omega (arith, one.1 x, agree x, largest_first t ys table.1 x)) in
      let other = taken_of c ys sy t table all-y in
      (all-x, all-y, one_table c _ _ one.0 other.0 (λ x. omega (arith, one.1 x, other.1 x, agree x)))
