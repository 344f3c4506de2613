-- Counting by the joint walk: what is counted so far and what is left to count are the whole.
-- Assumes nothing.
use Prim.Native.Nat.{ℕ, zero, suc, ◌+◌, ◌*◌, ◌-◌, ◌≤◌, ◌<◌}
use native.Mathlib.Nat.{le_refl, eq-or-lt_of_le}
use native.Mathlib.Numerals.{add-one}
use native.Mathlib.Omega.{arith}
use mathlib.Core.Bool.{Bool, true, false, cond, ◌&&◌}
use mathlib.Core.Path.{◌≡◌, refl, sym, ap, ◌∙◌}
use mathlib.Core.Logic.{⊎_elim}
use mathlib.Core.List.{List, ◌∷◌}
use lib.ListN.{get_or, drop, length-drop}
use lib.Seq.{get_or-drop}
use lib.Dec.{eqb, ltb}
use borrow.Author.Tests.{lt-ltb, ne_eqb, eqb-true}
use Rattle.rules.specs.meaning.Table.{id_at, length_at, length_of, held, new_ids, rises}
use Rattle.rules.proofs.laws.table.Order.{Side, Side.below, Side.same, Side.above, side}
use Rattle.rules.proofs.laws.table.View.{Unused, Unused.none, Unused.pair, parts}
use Rattle.rules.proofs.laws.table.Places.{Laid, unused_by, length_of_at, length_of_none}
use Rattle.table.proofs.Pairs.{from_place}
use Rattle.tally.specs.Joined.{Walk}

-- ---- k turns by value from the places i₀ and j₀ on: a turn that passes no entry of the table passes an id that is new to it
pub record Turns (t s : List ℕ) (total i₀ j₀ k i j risen mine id : ℕ) : Type 0 where
  pub from_t : i₀ ≤ i
  pub upto_t : i ≤ i₀ + k
  pub from_s : j₀ ≤ j
  pub upto_s : j ≤ j₀ + k
  pub most : i₀ + j₀ + k ≤ i + j
  pub mine_is : mine ≡ id_at t i
  pub id_is : id ≡ id_at s j
  pub so_far : Walk t s (total + (k - (i - i₀))) (risen + (k - (i - i₀))) i j

-- ---- the ids that are new, and the lengths that rise
new_cons : (t : List ℕ) (e n : ℕ) (s : List ℕ) → 1 ≤ n → new_ids t (e ∷ n ∷ s) ≡ cond (eqb (length_of t e) 0) (suc (new_ids t s)) (new_ids t s)
unfolding new_ids
new_cons t e zero s h = absurd (omega arith)
new_cons t e (suc n) s h = refl

rises_cons : (t : List ℕ) (e n : ℕ) (s : List ℕ) → 1 ≤ n → rises t (e ∷ n ∷ s) ≡ cond (ltb (length_of t e) n) (suc (rises t s)) (rises t s)
unfolding rises
rises_cons t e zero s h = absurd (omega arith)
rises_cons t e (suc n) s h = refl

none_left : (t : List ℕ) {s : List ℕ} → Unused s → (new_ids t s ≡ 0) × (rises t s ≡ 0)
unfolding new_ids rises
none_left t none = (refl, refl)
none_left t (pair z) = (refl, refl)

-- the tests at the first k places from i and j on
unfoldable pub same_upto : (t s : List ℕ) (i j k : ℕ) → Bool
same_upto t s i j zero = true
same_upto t s i j (suc k) = same_upto t s i j k && eqb (id_at t (i + k)) (id_at s (j + k))

-- one more of them
pub same_more : (t s : List ℕ) (i j k : ℕ) → same_upto t s i j (k + 1) ≡ same_upto t s i j k && eqb (id_at t (i + k)) (id_at s (j + k))
unfolding same_upto
same_more t s i j k = rw add-one

pub same_four : (t s : List ℕ) (i j : ℕ) → same_upto t s i j 4
    ≡ (eqb (id_at t i) (id_at s j) && eqb (id_at t (i + 1)) (id_at s (j + 1))) && (eqb (id_at t (i + 2)) (id_at s (j + 2)) && eqb (id_at t (i + 3)) (id_at s (j + 3)))
unfolding same_upto
same_four t s i j =
    rw (plus_none i, plus_none j)
    (in_pairs (eqb (id_at t i) (id_at s j)) (eqb (id_at t (i + 1)) (id_at s (j + 1))) (eqb (id_at t (i + 2)) (id_at s (j + 2))) (eqb (id_at t (i + 3)) (id_at s (j + 3))))
  where
    plus_none : (n : ℕ) → n + 0 ≡ n
    plus_none n = omega arith

    in_pairs : (a b d e : Bool) → ((a && b) && d) && e ≡ (a && b) && (d && e)
    in_pairs true true d e = refl
    in_pairs true false d e = refl
    in_pairs false b d e = refl

-- where all of them hold, the ids are the same one by one
pub same_each : (t s : List ℕ) (i j k : ℕ) → same_upto t s i j k ≡ true → (q : ℕ) → q < k → id_at t (i + q) ≡ id_at s (j + q)
unfolding same_upto
same_each t s i j zero h q l = absurd (omega arith)
same_each t s i j (suc k) h q l =
    let both = parts (same_upto t s i j k) (eqb (id_at t (i + k)) (id_at s (j + k))) h in
    ⊎_elim (λ e. rw e (eqb-true _ _ both.1)) (λ m. same_each t s i j k both.0 q m) (eq-or-lt_of_le (upto l))
  where
    upto : q < suc k → q ≤ k
    upto m = omega arith

-- four tests in one
pub four_alike : (t s : List ℕ) (i j : ℕ) {r : Bool}
    → r ≡ (eqb (id_at t i) (id_at s j) && eqb (id_at t (i + 1)) (id_at s (j + 1))) && (eqb (id_at t (i + 2)) (id_at s (j + 2)) && eqb (id_at t (i + 3)) (id_at s (j + 3)))
    → r ≡ true → (q : ℕ) → q < 4 → id_at t (i + q) ≡ id_at s (j + q)
four_alike t s i j e h = same_each t s i j 4 (same_four t s i j ∙ sym e ∙ h)

-- a count raised by 1 where a test holds
counted : (b : Bool) (n r : ℕ) → (n + cond b 1 0) + r ≡ n + cond b (suc r) r
counted true n r = omega arith
counted false n r = omega arith

module _ {most : ℕ} {t s : List ℕ} {kt ks : ℕ} (wt : Laid most t kt) (ws : Laid most s ks) where
  ended : (new_ids t (drop (2 * ks) s) ≡ 0) × (rises t (drop (2 * ks) s) ≡ 0)
  ended = none_left t (unused_by (drop (2 * ks) s) (simp length-drop (omega (arith, ws.pairs, ws.room))) (λ j. get_or-drop (2 * ks) s j 0 ∙ ws.clear (2 * ks + j) (omega arith)))

  module _ (j : ℕ) (l : j < ks) where
    new_step : new_ids t (drop (2 * j) s) ≡ cond (eqb (length_of t (id_at s j)) 0) (suc (new_ids t (drop (2 * (j + 1)) s))) (new_ids t (drop (2 * (j + 1)) s))
    new_step = rw (from_place s j (omega (arith, ws.room))) (new_cons t (id_at s j) (length_at s j) (drop (2 * (j + 1)) s) (ws.low j l))

    rises_step : rises t (drop (2 * j) s)
        ≡ cond (ltb (length_of t (id_at s j)) (length_at s j)) (suc (rises t (drop (2 * (j + 1)) s))) (rises t (drop (2 * (j + 1)) s))
    rises_step = rw (from_place s j (omega (arith, ws.room))) (rises_cons t (id_at s j) (length_at s j) (drop (2 * (j + 1)) s) (ws.low j l))

    -- the id stands at the table's place i
    new_known : (i : ℕ) → i < kt → id_at t i ≡ id_at s j → new_ids t (drop (2 * j) s) ≡ new_ids t (drop (2 * (j + 1)) s)
    new_known i m e = new_step ∙ (rw (ne_eqb (length_of t (id_at s j)) 0 (λ z. omega (arith, z, length_of_at wt (id_at s j) i m e, wt.low i m))))

    rises_known : (i : ℕ) → i < kt → id_at t i ≡ id_at s j
        → rises t (drop (2 * j) s) ≡ cond (ltb (length_at t i) (length_at s j)) (suc (rises t (drop (2 * (j + 1)) s))) (rises t (drop (2 * (j + 1)) s))
    rises_known i m e = rises_step ∙ (rw (length_of_at wt (id_at s j) i m e))

    -- the id is between the table's places: it is new, and it rises
    module _ (i : ℕ) (ahead : (q : ℕ) → q < i → id_at t q < id_at s j) (over : i < kt → id_at s j < id_at t i) where
      absent : length_of t (id_at s j) ≡ 0
      absent = length_of_none wt (id_at s j) (λ q m. at q m (side q i))
        where
          at : (q : ℕ) → q < kt → Side q i → id_at t q ≡ id_at s j → ⊥
          at q m (below p) e = omega (arith, ahead q p)
          at q m (same p) e = omega (arith, over (omega arith), ap (λ (n : ℕ). id_at t n) p)
          at q m (above p) e = omega (arith, over (omega arith), wt.rises i q p m)

      new_new : new_ids t (drop (2 * j) s) ≡ suc (new_ids t (drop (2 * (j + 1)) s))
      new_new = new_step ∙ (rw absent)

      rises_new : rises t (drop (2 * j) s) ≡ suc (rises t (drop (2 * (j + 1)) s))
      rises_new = rises_step ∙ (rw (absent, lt-ltb 0 (length_at s j) (ws.low j l)))

module _ {most : ℕ} {t s : List ℕ} (wt : Laid most t (held t)) (ws : Laid most s (held s)) where
  pub walk_start : Walk t s (held t) 0 0 0
  walk_start = record {
    room_t = wt.room;
    room_s = ws.room;
    at_t = omega arith;
    at_s = omega arith;
    few_new = omega arith;
    few_risen = omega arith;
    all_new = refl;
    all_risen = omega arith;
    ahead = λ q l. absurd (omega arith);
  }

  module _ (total risen i j : ℕ) (c : Walk t s total risen i j) (lj : j < (held s)) where
    upto : (q : ℕ) → q < i + 1 → q ≤ i
    upto q h = omega arith

    -- the ids ahead stay ahead of the next entry
    onward : (i' : ℕ) → ((q : ℕ) → q < i' → id_at t q ≤ id_at s j) → (q : ℕ) → q < i' → j + 1 < (held s) → id_at t q < id_at s (j + 1)
    onward i' h q l m = omega (arith, h q l, ws.rises j (j + 1) (omega arith) m)

    -- the table's id is below the entry's
    pub walk_own : i < (held t) → id_at t i < id_at s j → Walk t s total risen (i + 1) j
    walk_own l m = record {
      room_t = wt.room;
      room_s = ws.room;
      at_t = omega arith;
      at_s = c.at_s;
      few_new = c.few_new;
      few_risen = c.few_risen;
      all_new = c.all_new;
      all_risen = c.all_risen;
      ahead = λ q h _. ⊎_elim (λ e. rw e m) (λ e. c.ahead q e lj) (eq-or-lt_of_le (upto q h));
    }

    -- the same id
    pub walk_both : i < (held t) → id_at t i ≡ id_at s j → (r : ℕ) → r ≡ cond (ltb (length_at t i) (length_at s j)) 1 0 → r ≤ 1
        → Walk t s total (risen + r) (i + 1) (j + 1)
    walk_both l m r e small = record {
      room_t = wt.room;
      room_s = ws.room;
      at_t = omega arith;
      at_s = omega arith;
      few_new = omega (arith, c.few_new);
      few_risen = omega (arith, c.few_risen);
      all_new = ap (λ (k : ℕ). total + k) (sym (new_known wt ws j lj i l m)) ∙ c.all_new;
      all_risen = (rw e (counted (ltb (length_at t i) (length_at s j)) risen (rises t (drop (2 * (j + 1)) s)))) ∙ ap (λ (k : ℕ). risen + k) (sym (rises_known wt ws j lj i l m)) ∙ c.all_risen;
      ahead = onward (i + 1) (λ q h. ⊎_elim (λ e. omega (arith, ap (λ (n : ℕ). id_at t n) e, m)) (λ e. omega (arith, c.ahead q e lj)) (eq-or-lt_of_le (upto q h)));
    }

    -- the entry's id alone
    pub walk_new : (i < (held t) → id_at s j < id_at t i) → Walk t s (total + 1) (risen + 1) i (j + 1)
    walk_new m = record {
      room_t = wt.room;
      room_s = ws.room;
      at_t = c.at_t;
      at_s = omega arith;
      few_new = omega (arith, c.few_new);
      few_risen = omega (arith, c.few_risen);
      all_new = omega (arith, c.all_new, new_new wt ws j lj i (λ q l. c.ahead q l lj) m);
      all_risen = omega (arith, c.all_risen, rises_new wt ws j lj i (λ q l. c.ahead q l lj) m);
      ahead = onward i (λ q l. omega (arith, c.ahead q l lj));
    }

  pub walk_end : (total risen i j : ℕ) → Walk t s total risen i j → (held s) ≤ j → (total ≡ (held t) + new_ids t s) × (risen ≡ rises t s)
  walk_end total risen i j c l =
      let e : j ≡ (held s) = omega (arith, c.at_s) in
      let left : new_ids t (drop (2 * j) s) ≡ 0 = rw e (ended wt ws).0 in
      let still : rises t (drop (2 * j) s) ≡ 0 = rw e (ended wt ws).1 in
      (omega (arith, c.all_new, left), omega (arith, c.all_risen, still))

  -- ---- the same turns, counted in another way
  pub moved : {total risen i j : ℕ} → Walk t s total risen i j → (total' risen' i' j' : ℕ) → total' ≡ total → risen' ≡ risen → i' ≡ i → j' ≡ j
      → Walk t s total' risen' i' j'
  moved w total' risen' i' j' a b d e = rw (a, b, d, e) w

  -- ---- turns by value
  pub turns_none : {total risen i j : ℕ} → Walk t s total risen i j → Turns t s total i j 0 i j risen (id_at t i) (id_at s j)
  turns_none {total} {risen} {i} {j} c = record {
    from_t = le_refl i;
    upto_t = omega arith;
    from_s = le_refl j;
    upto_s = omega arith;
    most = omega arith;
    mine_is = refl;
    id_is = refl;
    so_far = moved c _ _ _ _ (omega arith) (omega arith) refl refl;
  }

  pub turns_done : (n : ℕ) {total i₀ j₀ k i j risen mine id : ℕ} → Turns t s total i₀ j₀ k i j risen mine id → k ≡ n
      → Walk t s (total + (n - (i - i₀))) (risen + (n - (i - i₀))) i j
  turns_done n c e = rw e at c.so_far

  module _ (total i₀ j₀ k i j risen mine id : ℕ) (c : Turns t s total i₀ j₀ k i j risen mine id) (li : i < held t) (lj : j < held s) where
    own_turn : mine < id → Turns t s total i₀ j₀ (k + 1) (i + 1) (j + 0) (risen + 0) (get_or t (2 * i + 2) 0) id
    own_turn h = record {
      from_t = omega arith;
      upto_t = omega arith;
      from_s = omega arith;
      upto_s = omega arith;
      most = omega arith;
      mine_is = ap (λ (n : ℕ). get_or t n 0) (omega arith);
      id_is = c.id_is ∙ ap (λ (n : ℕ). id_at s n) (omega arith);
      so_far = moved (walk_own _ _ i j c.so_far lj li (omega arith)) _ _ _ _ (omega arith) (omega arith) (omega arith) (omega arith);
    }

    both_turn : mine ≡ id → (r : ℕ) → r ≡ cond (ltb (length_at t i) (length_at s j)) 1 0 → r ≤ 1
        → Turns t s total i₀ j₀ (k + 1) (i + 1) (j + 1) (risen + r) (get_or t (2 * i + 2) 0) (get_or s (2 * j + 2) 0)
    both_turn h r e small = record {
      from_t = omega arith;
      upto_t = omega arith;
      from_s = omega arith;
      upto_s = omega arith;
      most = omega arith;
      mine_is = ap (λ (n : ℕ). get_or t n 0) (omega arith);
      id_is = ap (λ (n : ℕ). get_or s n 0) (omega arith);
      so_far = moved (walk_both _ _ i j c.so_far lj li (omega arith) r e small) _ _ _ _ (omega arith) (omega arith) (omega arith) (omega arith);
    }

    new_turn : id < mine → Turns t s total i₀ j₀ (k + 1) (i + 0) (j + 1) (risen + 0) mine (get_or s (2 * j + 2) 0)
    new_turn h = record {
      from_t = omega arith;
      upto_t = omega arith;
      from_s = omega arith;
      upto_s = omega arith;
      most = omega arith;
      mine_is = c.mine_is ∙ ap (λ (n : ℕ). id_at t n) (omega arith);
      id_is = ap (λ (n : ℕ). get_or s n 0) (omega arith);
      so_far = moved (walk_new _ _ i j c.so_far lj (λ _. omega arith)) _ _ _ _ (omega arith) (omega arith) (omega arith) (omega arith);
    }

    module _ (own others mine' id' more : ℕ) where
      pub turned : (mine < id → (own ≡ 1) × (others ≡ 0) × (mine' ≡ get_or t (2 * i + 2) 0) × (id' ≡ id) × (more ≡ 0))
          → (mine ≡ id → (own ≡ 1) × (others ≡ 1) × (mine' ≡ get_or t (2 * i + 2) 0) × (id' ≡ get_or s (2 * j + 2) 0) × (more ≡ cond (ltb (length_at t i) (length_at s j)) 1 0))
          → (id < mine → (own ≡ 0) × (others ≡ 1) × (mine' ≡ mine) × (id' ≡ get_or s (2 * j + 2) 0) × (more ≡ 0))
          → more ≤ 1
          → Turns t s total i₀ j₀ (k + 1) (i + own) (j + others) (risen + more) mine' id'
      turned under alike over small = by (side mine id)
        where
          by : Side mine id → Turns t s total i₀ j₀ (k + 1) (i + own) (j + others) (risen + more) mine' id'
          by (below h) = let e = under h in rw (e.0, e.1, e.2, e.3, e.4) (own_turn h)
          by (same h) = let e = alike h in rw (e.0, e.1, e.2, e.3) (both_turn h more e.4 small)
          by (above h) = let e = over h in rw (e.0, e.1, e.2, e.3, e.4) (new_turn h)
