-- Merging from the back fills R, the merged table, place by place. The three positions are ranks at one bound: every id at or above it is placed,
-- every id below it is not. The larger of the two last ids is the next bound, and R's entry for it stands at R's rank of it.
-- Assumes nothing.
use Prim.Native.Nat.{ℕ, zero, suc, ◌+◌, ◌*◌, ◌-◌, ◌≤◌, ◌<◌, max, zero-le}
use native.Mathlib.Nat.{le_refl, eq-or-lt_of_le, not-suc-le-zero, le_of_suc-le-suc}
use native.Mathlib.Omega.{arith}
use mathlib.Core.Path.{◌≡◌, refl, sym, ap, ◌∙◌}
use mathlib.Core.Logic.{◌⊎◌, ⊎_elim, inl, inr}
use mathlib.Core.List.{List}
use lib.ListN.{length, get_or}
use Rattle.rules.proofs.laws.table.Order.{lt_or_le}
use Rattle.rules.specs.meaning.Table.{id_at, length_at, length_of, rank}
use Rattle.rules.proofs.laws.table.Places.{Laid, length_of_at, placed, rank_is, rank_most, rank_under, rank_over, under_rank}
use Rattle.table.proofs.Pairs.{agree_below}
use Rattle.merging.specs.Walks.{Back}

-- ---- one table, and a bound b
module _ {most : ℕ} {t : List ℕ} {k : ℕ} (w : Laid most t k) (b : ℕ) where
  -- the last entry below the bound
  pub top_below : (p : ℕ) → rank t b ≡ suc p → id_at t p < b
  top_below p q = rank_under w b p (omega arith)

  pub top_used : (p : ℕ) → rank t b ≡ suc p → p < k
  top_used p q = omega (arith, rank_most w b)

  pub top_rank : (p : ℕ) → rank t b ≡ suc p → rank t (id_at t p) ≡ p
  top_rank p q =
      let used : p < k = top_used p q in
      rank_is w (id_at t p) p (omega arith) (λ j l. w.rises j p l used) (λ l. le_refl (id_at t p))

  pub top_last : (p : ℕ) → rank t b ≡ suc p → (q : ℕ) → q < k → id_at t q < b → id_at t q ≤ id_at t p
  top_last p e q l m =
      let used : p < k = top_used p e in
      ⊎_elim (λ c. rw c (le_refl (id_at t p))) (λ c. omega (arith, w.rises q p c used)) (eq-or-lt_of_le (le_of_suc-le-suc (before q (under_rank w b q l m))))
    where
      before : (q : ℕ) → q < rank t b → suc q ≤ suc p
      before q h = omega arith

  -- no id from x up to the bound
  pub rank_stays : (x : ℕ) → x ≤ b → ((q : ℕ) → q < k → id_at t q < b → id_at t q < x) → rank t x ≡ rank t b
  rank_stays x le h =
      rank_is w x (rank t b) (rank_most w b) (λ j l. h j (omega (arith, rank_most w b)) (rank_under w b j l)) (λ l. omega (arith, rank_over w b (rank t b) (le_refl (rank t b)) l))

  -- no id from x up to the bound: x itself has no entry
  pub absent_here : (x : ℕ) → x < b → ((q : ℕ) → q < k → id_at t q < b → id_at t q < x) → length_of t x ≡ 0
  absent_here x l h = go (length_of t x) refl
    where
      go : (n : ℕ) → length_of t x ≡ n → length_of t x ≡ 0
      go zero e = e
      go (suc n) e =
          let f = placed w x (λ z. omega arith) in
          absurd (omega (arith, f.1, h (rank t x) f.0 (omega (arith, f.1))))

-- ---- R has every id of t: its ranks are no smaller
module _ {most : ℕ} {t R : List ℕ} {k r : ℕ} (w : Laid most t k) (v : Laid most R r) (all : (y : ℕ) → (length_of t y ≡ 0 → ⊥) → length_of R y ≡ 0 → ⊥) where
  there : (q : ℕ) → q < k → length_of R (id_at t q) ≡ 0 → ⊥
  there q l = all (id_at t q) (λ z. omega (arith, z, length_of_at w (id_at t q) q l refl, w.low q l))

  past : (q y : ℕ) → q < k → id_at t q < y → rank R (id_at t q) < rank R y
  past q y l m = let f = placed v (id_at t q) (there q l) in under_rank v y (rank R (id_at t q)) f.0 (omega (arith, f.1))

  climbs : (q : ℕ) → q < k → q ≤ rank R (id_at t q)
  climbs zero l = zero-le
  climbs (suc q) l = omega (arith, climbs q (omega arith), past q (id_at t (suc q)) (omega arith) (w.rises q (suc q) (le_refl (suc q)) l))

  pub rank_mono : (y : ℕ) → rank t y ≤ rank R y
  rank_mono y = go (rank t y) refl
    where
      go : (p : ℕ) → rank t y ≡ p → rank t y ≤ rank R y
      go zero e = omega arith
      go (suc p) e =
          let l : p < k = omega (arith, rank_most w y) in
          omega (arith, climbs p l, past p y l (rank_under w y p (omega arith)))

-- what stands at the words of a table, after the entry (x, n) is put at a place
pub record Put (u : ℕ → ℕ) (p x n : ℕ) (v : ℕ → ℕ) : Type 0 where
  pub its_id : v (2 * p) ≡ x
  pub its_length : v (2 * p + 1) ≡ n
  pub others : (q : ℕ) → (q ≡ 2 * p → ⊥) → (q ≡ 2 * p + 1 → ⊥) → v q ≡ u q

-- at or after place p: the entry there, and what follows it
from_put : {u v : ℕ → ℕ} {p x n : ℕ} → Put u p x n v → (R : List ℕ) (end : ℕ) → get_or R (2 * p) 0 ≡ x → get_or R (2 * p + 1) 0 ≡ n
    → ((q : ℕ) → 2 * p + 2 ≤ q → q < end → u q ≡ get_or R q 0) → (q : ℕ) → 2 * p ≤ q → q < end → v q ≡ get_or R q 0
from_put {u} {v} {p} {x} {n} w R end a b h q l m =
    ⊎_elim (λ e. rw (← e) (w.its_id ∙ sym a))
    (λ c. ⊎_elim (λ e. rw (← e) (w.its_length ∙ sym b)) (λ c. w.others q (omega arith) (omega arith) ∙ h q (omega arith) m) (eq-or-lt_of_le (one c))) (eq-or-lt_of_le l)
  where
    one : 2 * p < q → 2 * p + 1 ≤ q
    one c = omega arith

module _ {most : ℕ} {t s R : List ℕ} {kt ks kr : ℕ} (wt : Laid most t kt) (ws : Laid most s ks) (wr : Laid most R kr)
    (same_size : length R ≡ length t) (of : (y : ℕ) → length_of R y ≡ max (length_of t y) (length_of s y)) where
  has_t : (y : ℕ) → (length_of t y ≡ 0 → ⊥) → length_of R y ≡ 0 → ⊥
  has_t y h z = h (omega (arith, of y))

  has_s : (y : ℕ) → (length_of s y ≡ 0 → ⊥) → length_of R y ≡ 0 → ⊥
  has_s y h z = h (omega (arith, of y))

  -- the state at a bound
  state : (u : ℕ → ℕ) (b i j p : ℕ) → rank t b ≡ i → rank s b ≡ j → rank R b ≡ p
      → ((q : ℕ) → q < 2 * i → u q ≡ get_or t q 0) → ((q : ℕ) → 2 * p ≤ q → q < length t → u q ≡ get_or R q 0) → Back t s R u i j p
  state u b i j p a c d f g = record {
    bound = b;
    at_t = a;
    at_s = c;
    at_r = d;
    fit = omega (arith, rank_most wr b, wr.room, d, same_size);
    fit_s = omega (arith, rank_most ws b, ws.room, c);
    own = omega (arith, rank_mono wt wr has_t b, a, d);
    other = omega (arith, rank_mono ws wr has_s b, c, d);
    front = f;
    back = g;
  }

  -- where it starts: a bound above every id
  back_start : (u : ℕ → ℕ) → ((q : ℕ) → q < length t → u q ≡ get_or t q 0) → (b : ℕ) → ((q : ℕ) → q < kt → id_at t q < b) → ((q : ℕ) → q < ks → id_at s q < b) → ((q : ℕ) → q < kr → id_at R q < b) → kt ≤ kr → Back t s R u kt ks kr
  back_start u same b ht hs hr le = state u b kt ks kr
      (rank_is wt b kt (le_refl kt) ht (λ l. absurd (omega arith))) (rank_is ws b ks (le_refl ks) hs (λ l. absurd (omega arith))) (rank_is wr b kr (le_refl kr) hr (λ l. absurd (omega arith)))
      (λ q l. same q (omega (arith, wt.room))) (λ q l m. same q m ∙ wt.clear q (omega arith) ∙ sym (wr.clear q l))

  -- nothing of R stands between x and the bound
  next : (b x : ℕ) → x < b → (length_of R x ≡ 0 → ⊥) → ((q : ℕ) → q < kt → id_at t q < b → id_at t q ≤ x) → ((q : ℕ) → q < ks → id_at s q < b → id_at s q ≤ x)
      → rank R b ≡ suc (rank R x)
  next b x lt has ht hs =
      let f = placed wr x has in
      rank_is wr b (suc (rank R x)) f.0
      (λ j l. ⊎_elim (λ c. omega (arith, ap (λ (n : ℕ). id_at R n) c, f.1)) (λ c. omega (arith, wr.rises j (rank R x) c f.0, f.1)) (eq-or-lt_of_le (le_of_suc-le-suc l)))
      (λ l. ⊎_elim (λ c. absurd (omega (arith, claim (suc (rank R x)) l c, wr.rises (rank R x) (suc (rank R x)) (le_refl (suc (rank R x))) l, f.1))) (λ c. c) (lt_or_le (id_at R (suc (rank R x))) b))
    where
      claim : (q : ℕ) → q < kr → id_at R q < b → id_at R q ≤ x
      claim q l m = go (length_of t (id_at R q)) refl (length_of s (id_at R q)) refl
        where
          go : (a : ℕ) → length_of t (id_at R q) ≡ a → (c : ℕ) → length_of s (id_at R q) ≡ c → id_at R q ≤ x
          go (suc a) e c e' =
              let f = placed wt (id_at R q) (λ z. omega arith) in
              omega (arith, f.1, ht (rank t (id_at R q)) f.0 (omega (arith, f.1)))
          go zero e (suc c) e' =
              let f = placed ws (id_at R q) (λ z. omega arith) in
              omega (arith, f.1, hs (rank s (id_at R q)) f.0 (omega (arith, f.1)))
          go zero e zero e' = absurd (omega (arith, of (id_at R q), length_of_at wr (id_at R q) q l refl, wr.low q l))

  -- a turn: the entry (x, n) of R is placed, and x is the new bound
  module _ (u : ℕ → ℕ) (i j p : ℕ) (d : Back t s R u i j p) (x n : ℕ) (lt : x < d.bound) (its : length_of R x ≡ n) (pos : 1 ≤ n)
      (ht : (q : ℕ) → q < kt → id_at t q < d.bound → id_at t q ≤ x) (hs : (q : ℕ) → q < ks → id_at s q < d.bound → id_at s q ≤ x) where
    placing : (i' j' p' : ℕ) → rank t x ≡ i' → rank s x ≡ j' → suc p' ≡ p → i' ≤ i → (v : ℕ → ℕ) → Put u p' x n v → Back t s R v i' j' p'
    placing i' j' p' a c e le v w =
        let has : length_of R x ≡ 0 → ⊥ = λ z. omega arith in
        let f = placed wr x has in
        let here : rank R x ≡ p' = omega (arith, next d.bound x lt has ht hs, d.at_r) in
        let fore : i' ≤ p' = omega (arith, rank_mono wt wr has_t x) in
        state v x i' j' p' a c here
        (λ q l. w.others q (omega arith) (omega arith) ∙ d.front q (omega arith))
        (from_put w R (length t) (rw here at f.1) (rw here at (f.2 ∙ its)) (λ q l m. d.back q (omega arith) m))

  -- an id of R is one of t's or one of s's
  whose : (q : ℕ) → q < kr → (length_of t (id_at R q) ≡ 0 → ⊥) ⊎ (length_of s (id_at R q) ≡ 0 → ⊥)
  whose q l = go (length_of t (id_at R q)) refl
    where
      go : (a : ℕ) → length_of t (id_at R q) ≡ a → (length_of t (id_at R q) ≡ 0 → ⊥) ⊎ (length_of s (id_at R q) ≡ 0 → ⊥)
      go (suc a) e = inl (λ z. omega arith)
      go zero e = inr (λ z. omega (arith, of (id_at R q), length_of_at wr (id_at R q) q l refl, wr.low q l))

  pub begin : (u : ℕ → ℕ) → ((q : ℕ) → q < length t → u q ≡ get_or t q 0) → Back t s R u kt ks kr
  begin u same = back_start u same (suc (max (id_at t (kt - 1)) (id_at s (ks - 1)))) (λ q l. omega (arith, last wt q l)) (λ q l. omega (arith, last ws q l)) of_r grows
    where
      last : {l : List ℕ} {k : ℕ} → Laid most l k → (q : ℕ) → q < k → id_at l q ≤ id_at l (k - 1)
      last {l} {k} w q h = ⊎_elim (λ c. rw (← c) (le_refl (id_at l q))) (λ c. omega (arith, w.rises q (k - 1) c (omega arith))) (eq-or-lt_of_le (fore q k h))
        where
          fore : (q k : ℕ) → q < k → q ≤ k - 1
          fore q k h = omega arith

      of_r : (q : ℕ) → q < kr → id_at R q < suc (max (id_at t (kt - 1)) (id_at s (ks - 1)))
      of_r q l =
          ⊎_elim (λ h. let f = placed wt (id_at R q) h in omega (arith, f.1, last wt (rank t (id_at R q)) f.0))
          (λ h. let f = placed ws (id_at R q) h in omega (arith, f.1, last ws (rank s (id_at R q)) f.0)) (whose q l)

      grows : kt ≤ kr
      grows = omega (
        arith,
        rank_is wt (suc (max (id_at t (kt - 1)) (id_at s (ks - 1)))) kt (le_refl kt) (λ q l. omega (arith, last wt q l)) (λ l. absurd (omega arith)),
        rank_mono wt wr has_t (suc (max (id_at t (kt - 1)) (id_at s (ks - 1)))),
        rank_most wr (suc (max (id_at t (kt - 1)) (id_at s (ks - 1)))),
      )

  -- the three turns. b is the source's last place, a the table's
  module _ (u : ℕ → ℕ) (i j p : ℕ) (d : Back t s R u i j p) (b p' : ℕ) (sb : suc b ≡ j) (sp : suc p' ≡ p) (v : ℕ → ℕ) where
    is_s : rank s d.bound ≡ suc b
    is_s = d.at_s ∙ sym sb

    low_s : b < ks
    low_s = top_used ws d.bound b is_s

    -- the source's id alone
    pub turn_source : (i ≡ 0) ⊎ ((a : ℕ) × (suc a ≡ i) × (id_at t a < id_at s b)) → Put u p' (id_at s b) (length_at s b) v → Back t s R v i b p'
    turn_source stop =
        placing u i j p d (id_at s b) (length_at s b) (top_below ws d.bound b is_s)
        (of (id_at s b) ∙ (rw (absent_here wt d.bound (id_at s b) (top_below ws d.bound b is_s) under, length_of_at ws (id_at s b) b low_s refl) (omega arith)))
        (ws.low b low_s) (λ q l m. omega (arith, under q l m)) (top_last ws d.bound b is_s) i b p'
        (rank_stays wt d.bound (id_at s b) (omega (arith, top_below ws d.bound b is_s)) under ∙ d.at_t) (top_rank ws d.bound b is_s) sp (le_refl i) v
      where
        under : (q : ℕ) → q < kt → id_at t q < d.bound → id_at t q < id_at s b
        under q l m =
            ⊎_elim (λ z. absurd (omega (arith, under_rank wt d.bound q l m, d.at_t)))
            (λ r. omega (arith, top_last wt d.bound r.0 (d.at_t ∙ sym r.1) q l m, r.2)) stop

    module _ (a : ℕ) (sa : suc a ≡ i) where
      is_t : rank t d.bound ≡ suc a
      is_t = d.at_t ∙ sym sa

      low_t : a < kt
      low_t = top_used wt d.bound a is_t

      -- the table's own id alone
      pub turn_own : id_at s b < id_at t a → Put u p' (id_at t a) (length_at t a) v → Back t s R v a j p'
      turn_own over =
          placing u i j p d (id_at t a) (length_at t a) (top_below wt d.bound a is_t)
          (of (id_at t a) ∙ (rw (absent_here ws d.bound (id_at t a) (top_below wt d.bound a is_t) under, length_of_at wt (id_at t a) a low_t refl) (omega arith)))
          (wt.low a low_t) (top_last wt d.bound a is_t) (λ q l m. omega (arith, under q l m)) a j p'
          (top_rank wt d.bound a is_t) (rank_stays ws d.bound (id_at t a) (omega (arith, top_below wt d.bound a is_t)) under ∙ d.at_s) sp (omega arith) v
        where
          under : (q : ℕ) → q < ks → id_at s q < d.bound → id_at s q < id_at t a
          under q l m = omega (arith, top_last ws d.bound b is_s q l m, over)

      -- the same id in both
      pub turn_both : id_at t a ≡ id_at s b → (n : ℕ) → n ≡ max (length_at t a) (length_at s b) → Put u p' (id_at s b) n v → Back t s R v a b p'
      turn_both e n q =
          placing u i j p d (id_at s b) n (top_below ws d.bound b is_s)
          (of (id_at s b) ∙ (rw (length_of_at wt (id_at s b) a low_t e, length_of_at ws (id_at s b) b low_s refl) (omega arith)))
          (omega (arith, ws.low b low_s)) (λ q l m. omega (arith, top_last wt d.bound a is_t q l m, e)) (top_last ws d.bound b is_s) a b p'
          (rw e at (top_rank wt d.bound a is_t)) (top_rank ws d.bound b is_s) sp (omega arith) v

  -- no entry of the source is left: what is left of the table stands in its place
  module _ (b : ℕ) (no_s : (q : ℕ) → q < ks → id_at s q < b → ⊥) where
    even : (i x : ℕ) → x ≤ b → rank t x ≡ i → rank R x ≡ i
    even zero x le e =
        rank_is wr x 0 zero-le (λ j l. absurd (not-suc-le-zero l)) (λ l. ⊎_elim (λ c. absurd (none_below l c)) (λ c. c) (lt_or_le (id_at R 0) x))
      where
        none_below : 0 < kr → id_at R 0 < x → ⊥
        none_below l c =
            ⊎_elim (λ h. let f = placed wt (id_at R 0) h in omega (arith, under_rank wt x (rank t (id_at R 0)) f.0 (omega (arith, f.1)), e))
            (λ h. let f = placed ws (id_at R 0) h in no_s (rank s (id_at R 0)) f.0 (omega (arith, f.1))) (whose 0 l)
    even (suc a) x le e =
        let lt : id_at t a < x = top_below wt x a e in
        let has : length_of R (id_at t a) ≡ 0 → ⊥ = has_t (id_at t a) (λ z. omega (arith, length_of_at wt (id_at t a) a (top_used wt x a e) refl, wt.low a (top_used wt x a e))) in
        next x (id_at t a) lt has (top_last wt x a e) (λ q l m. absurd (no_s q l (omega arith))) ∙ ap suc (even a (id_at t a) (omega arith) (top_rank wt x a e))

    stays : (q : ℕ) → q < kt → id_at t q < b → (id_at R q ≡ id_at t q) × (length_at R q ≡ length_at t q)
    stays q l m =
        let here : rank R (id_at t q) ≡ q = even q (id_at t q) (omega arith) (rank_is wt (id_at t q) q (omega arith) (λ j c. wt.rises j q c l) (λ c. le_refl (id_at t q))) in
        let its : length_of R (id_at t q) ≡ length_at t q = of (id_at t q) ∙ (rw (length_of_at wt (id_at t q) q l refl, absent_here ws b (id_at t q) m (λ q l m. absurd (no_s q l m))) (omega arith)) in
        let f = placed wr (id_at t q) (λ z. omega (arith, z, its, wt.low q l)) in
        (rw here at f.1, rw here at (f.2 ∙ its))

  pub back_end : (u : ℕ → ℕ) (i j p : ℕ) → Back t s R u i j p → j ≤ 0 → (q : ℕ) → q < length t → u q ≡ get_or R q 0
  back_end u i j p d z q l = ⊎_elim (λ c. low q c) (λ c. d.back q (omega (arith, level)) l) (lt_or_le q (2 * i))
    where
      no_s : (q : ℕ) → q < ks → id_at s q < d.bound → ⊥
      no_s q l m = omega (arith, under_rank ws d.bound q l m, d.at_s)

      level : p ≡ i
      level = sym d.at_r ∙ even d.bound no_s i d.bound (le_refl d.bound) d.at_t

      low : (q : ℕ) → q < 2 * i → u q ≡ get_or R q 0
      low q c = d.front q c ∙ sym (agree_below R t i (λ m l. stays d.bound no_s m (omega (arith, rank_most wt d.bound, d.at_t)) (rank_under wt d.bound m (omega (arith, d.at_t)))) q c)
