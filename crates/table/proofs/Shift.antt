-- Words moved on by one place from the back (`Moved`), and the entry that is written where they made room.
-- Assumes nothing.
use Prim.Native.Nat.{ℕ, suc, ◌+◌, ◌*◌, ◌-◌, ◌≤◌, ◌<◌}
use native.Mathlib.Nat.{le_refl, eq-or-lt_of_le}
use native.Mathlib.Omega.{arith}
use mathlib.Core.Path.{◌≡◌, sym, ◌∙◌}
use mathlib.Core.Logic.{⊎_elim}
use mathlib.Core.List.{List, [], ◌++◌, append-nil}
use lib.ListN.{length, get_or, take, drop, length-drop, length-append, get_or-append}
use lib.Seq.{ext_get_or, length-take-le, take_all, drop-drop, drop-length, get_or-append-add, get_or-take, get_or-drop}
use Rattle.rules.proofs.laws.table.Update.{raised_length}
use Rattle.rules.proofs.laws.table.Order.{lt_or_le}
use Rattle.rules.specs.meaning.Table.{id_at, length_at, length_of, rank, raised}
use Rattle.rules.proofs.laws.table.Places.{Laid, length_of_at, rank_most, rank_under, rank_over}
use Rattle.rules.proofs.laws.table.Insert.{raised_laid, raised_below, raised_above, raised_at}
use Rattle.std.specs.List.{CopiedTo, SameFrom}
use Rattle.table.specs.Loops.{Moved, entry}
use Rattle.table.proofs.Pairs.{entry_length, entry_other, entry_id, entry_length_at, place_of, agree_below, agree_from}

-- what `copy_within` ensures of the first words, copied two words further on
pub moved_on : (w v : List ℕ) (count : ℕ) → length v ≡ length w → CopiedTo w v 0 2 (count - 0) → SameFrom w v (2 + (count - 0)) → Moved w count 0 v
moved_on w v count n copied same = record {
  size = n;
  front = λ j p. absurd (omega arith);
  moved = λ j p q. let back : 0 + (j + 2 - 2) ≡ j = omega arith in rw back at (copied (j + 2) 0 (omega arith) (omega arith));
  back = λ j p. same j 0 (omega arith);
}

-- the part from a word on, moved and put back: the whole, moved from that word on
module _ (t v : List ℕ) (from count : ℕ) (le : from ≤ length t) where
  all : take (length t - from) (drop from t) ≡ drop from t
  all = take_all (length t - from) (drop from t) (omega (arith, length-drop from t))

  none : drop (length t - from) (drop from t) ≡ []
  none = drop-drop (length t - from) from t ∙ (let e : from + (length t - from) ≡ length t = omega arith in rw e (drop-length t))

  pub part_moved : Moved (take (length t - from) (drop from t)) count 0 v → Moved t (from + count) from (take from t ++ (v ++ drop (length t - from) (drop from t)))
  part_moved m = rw (none, append-nil) (whole (rw all at m))
    where
      front_is : length (take from t) ≡ from
      front_is = length-take-le from t le

      its : (j k : ℕ) → j ≡ from + k → get_or (take from t ++ v) j 0 ≡ get_or v k 0
      its j k e = let f : j ≡ length (take from t) + k = omega (arith, front_is) in rw f (get_or-append-add (take from t) v k 0)

      of : (j k : ℕ) → j ≡ from + k → get_or (drop from t) k 0 ≡ get_or t j 0
      of j k e = rw e (get_or-drop from t k 0)

      whole : Moved (drop from t) count 0 v → Moved t (from + count) from (take from t ++ v)
      whole m = record {
        size = length-append (take from t) v ∙ (omega (arith, front_is, m.size, length-drop from t));
        front = λ j l. get_or-append (take from t) v 0 j (omega (arith, front_is)) ∙ get_or-take from t j 0 l;
        moved = λ j l h. its (j + 2) (j - from + 2) (omega arith) ∙ m.moved (j - from) (omega arith) (omega arith) ∙ of j (j - from) (omega arith);
        back = λ j l. its j (j - from) (omega arith) ∙ m.back (j - from) (omega arith) ∙ of j (j - from) (omega arith);
      }

-- the entry of a new id is written at its rank
module _ {most : ℕ} {t : List ℕ} {k : ℕ} (w : Laid most t k) (e n : ℕ) (pos : 1 ≤ n) (fits : n ≤ most) (room : 2 * k + 2 ≤ length t) (absent : length_of t e ≡ 0) where
  -- the entry at or behind the rank stands one place further on
  behind : (q : ℕ) → rank t e ≤ q → q < k → (id_at t q ≡ get_or (raised t e n) (2 * q + 2) 0) × (length_at t q ≡ get_or (raised t e n) (2 * q + 1 + 2) 0)
  behind q p l =
      let above : e < id_at t q = ⊎_elim (λ c. absurd (omega (arith, length_of_at w e q l (sym c), absent, w.low q l))) (λ c. c) (eq-or-lt_of_le (rank_over w e q p l)) in
      let r = raised_above w e n pos fits room absent q l above in
      let a : 2 * suc q ≡ 2 * q + 2 = omega arith in
      let b : 2 * suc q + 1 ≡ 2 * q + 1 + 2 = omega arith in
      (sym (rw a at r.0), sym (rw b at r.1))

  inserted' : (u : List ℕ) → Moved t (2 * k) (2 * rank t e) u → entry u (rank t e) e n ≡ raised t e n
  inserted' u m =
      ext_get_or 0 _ _ (entry_length u (rank t e) e n ∙ m.size ∙ sym (raised_length t e n)) (λ j l. ⊎_elim (λ c. low j c) (λ c. high j c) (lt_or_le j (2 * rank t e)))
    where
      most_is : rank t e ≤ k
      most_is = rank_most w e

      fit : 2 * rank t e + 2 ≤ length u
      fit = omega (arith, m.size, most_is)

      low : (j : ℕ) → j < 2 * rank t e → get_or (entry u (rank t e) e n) j 0 ≡ get_or (raised t e n) j 0
      low j l =
          entry_other u (rank t e) e n j (omega arith) (omega arith) ∙ m.front j l
          ∙ sym (agree_below (raised t e n) t (rank t e) (λ q h. raised_below w e n pos fits room absent q (omega (arith, most_is)) (rank_under w e q h)) j l)

      moved : (j : ℕ) → 2 * rank t e ≤ j → j < 2 * k → get_or t j 0 ≡ get_or (raised t e n) (j + 2) 0
      moved j p l =
          let r = place_of j in
          ⊎_elim (λ c. rw c (behind r.0 (omega arith) (omega arith)).0) (λ c. rw c (behind r.0 (omega arith) (omega arith)).1) r.1

      after : (j i : ℕ) → j ≡ i + 2 → 2 * rank t e ≤ i → get_or u j 0 ≡ get_or (raised t e n) j 0
      after j i q p =
          ⊎_elim (λ c. rw q (m.moved i p c ∙ moved i p c))
          (λ c. m.back j (omega arith) ∙ w.clear j (omega arith) ∙ sym ((raised_laid w e n pos fits room absent).clear j (omega arith))) (lt_or_le i (2 * k))

      it : (id_at (raised t e n) (rank t e) ≡ e) × (length_at (raised t e n) (rank t e) ≡ n)
      it = raised_at w e n pos fits room absent (rank t e) most_is (rank_under w e) (λ l. rank_over w e (rank t e) (le_refl (rank t e)) l)

      high : (j : ℕ) → 2 * rank t e ≤ j → get_or (entry u (rank t e) e n) j 0 ≡ get_or (raised t e n) j 0
      high = agree_from (entry u (rank t e) e n) (raised t e n) (rank t e) (entry_id u (rank t e) e n fit ∙ sym it.0) (entry_length_at u (rank t e) e n fit ∙ sym it.1)
          (λ j l. entry_other u (rank t e) e n j (omega arith) (omega arith) ∙ after j (j - 2) (omega arith) (omega arith))

  pub inserted : (u : List ℕ) (p end : ℕ) → p ≡ rank t e → end ≡ 2 * k → Moved t end (2 * p) u → entry u p e n ≡ raised t e n
  inserted u p end q r m = rw q (inserted' u (rw (q, r) at m))
