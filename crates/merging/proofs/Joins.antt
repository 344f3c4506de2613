-- A merge that has come so far, and what one turn makes of it.
-- Assumes nothing.
use Prim.Native.Nat.{ℕ, suc, ◌+◌, ◌*◌, ◌-◌, ◌≤◌, ◌<◌, max}
use native.Mathlib.Omega.{arith}
use mathlib.Core.Path.{◌≡◌, refl, sym, ◌∙◌}
use mathlib.Core.Logic.{inl, inr}
use mathlib.Core.List.{List}
use lib.ListN.{length, get_or, set}
use lib.Seq.{ext_get_or}
use Rattle.rules.specs.meaning.Lengths.{M}
use Rattle.rules.specs.meaning.Table.{SoundTable, id_at, length_at, held, merged, held_merged}
use Rattle.rules.proofs.laws.table.Order.{Side, Side.below, Side.same, Side.above, side}
use Rattle.rules.proofs.laws.table.Places.{Laid, laid_of}
use Rattle.rules.proofs.laws.table.Merge.{Merged, merged_of}
use Rattle.table.proofs.Pairs.{entry_other, entry_id, entry_length_at}
use Rattle.merging.specs.Walks.{Back, Joining}
use Rattle.merging.proofs.Backwards.{Put, begin, turn_source, turn_own, turn_both, back_end}

-- one turn by value: what is placed, and how far it goes
pub record Outcome (mine kept id len x n di dj : ℕ) : Type 0 where
  pub over : id < mine → (x ≡ mine) × (n ≡ kept) × (di ≡ 1) × (dj ≡ 0)
  pub both : mine ≡ id → (x ≡ id) × (n ≡ max kept len) × (di ≡ 1) × (dj ≡ 1)
  pub under : mine < id → (x ≡ id) × (n ≡ len) × (di ≡ 0) × (dj ≡ 1)

-- an entry of the table that is above the source's last moves on as it is
pub moves_on_law : (mine kept mine' kept' id id' len' : ℕ) → id < mine → mine ≡ mine' → kept ≡ kept' → id ≡ id' → Outcome mine' kept' id' len' mine kept 1 0
moves_on_law mine kept mine' kept' id id' len' h a b c = record {
  over = λ _. (a, b, refl, refl);
  both = λ e. absurd (omega arith);
  under = λ l. absurd (omega arith);
}

-- what `settle` says of its result
pub record Settling (mine before kept id next len x n di dj m l : ℕ) : Type 0 where
  pub over : id < mine → (x ≡ mine) × (n ≡ kept) × (di ≡ 1) × (dj ≡ 0) × (m ≡ before) × (l ≡ id)
  pub both : mine ≡ id → (x ≡ id) × (n ≡ max kept len) × (di ≡ 1) × (dj ≡ 1) × (m ≡ before) × (l ≡ next)
  pub under : mine < id → (x ≡ id) × (n ≡ len) × (di ≡ 0) × (dj ≡ 1) × (m ≡ mine) × (l ≡ next)

module _ {mine before kept id next len x n di dj m l : ℕ} (e : Settling mine before kept id next len x n di dj m l) where
  pub outcome : (mine' kept' id' len' : ℕ) → mine ≡ mine' → kept ≡ kept' → id ≡ id' → len ≡ len' → Outcome mine' kept' id' len' x n di dj
  outcome mine' kept' id' len' a b c d = record {
    over = λ h. let r = e.over (omega arith) in (r.0 ∙ a, r.1 ∙ b, r.2, r.3);
    both = λ h. let r = e.both (omega arith) in (r.0 ∙ c, omega (arith, r.1), r.2, r.3);
    under = λ h. let r = e.under (omega arith) in (r.0 ∙ c, r.1 ∙ d, r.2, r.3);
  }

  -- the last ids that are left then
  pub ahead : (t s : List ℕ) (i j : ℕ) → 1 ≤ i → 1 ≤ j → mine ≡ id_at t (i - 1) → before ≡ id_at t (i - 2) → id ≡ id_at s (j - 1) → next ≡ id_at s (j - 2)
      → (m ≡ id_at t (i - di - 1)) × (l ≡ id_at s (j - dj - 1))
  ahead t s i j hi hj a b c d = go (side mine id)
    where
      go : Side mine id → (m ≡ id_at t (i - di - 1)) × (l ≡ id_at s (j - dj - 1))
      go (below h) =
          let r = e.under h in
          let p : i - di - 1 ≡ i - 1 = omega (arith, r.2) in
          let q : j - dj - 1 ≡ j - 2 = omega (arith, r.3) in
          (rw p (r.4 ∙ a), rw q (r.5 ∙ d))
      go (same h) =
          let r = e.both h in
          let p : i - di - 1 ≡ i - 2 = omega (arith, r.2) in
          let q : j - dj - 1 ≡ j - 2 = omega (arith, r.3) in
          (rw p (r.4 ∙ b), rw q (r.5 ∙ d))
      go (above h) =
          let r = e.over h in
          let p : i - di - 1 ≡ i - 2 = omega (arith, r.2) in
          let q : j - dj - 1 ≡ j - 1 = omega (arith, r.3) in
          (rw p (r.4 ∙ b), rw q (r.5 ∙ c))

-- an entry put at a place of a table
pub puts : (l : List ℕ) (p x n : ℕ) → 2 * p + 2 ≤ length l → Put (λ q. get_or l q 0) p x n (λ q. get_or (set (set l (2 * p) x) (2 * p + 1) n) q 0)
puts l p x n h = record { its_id = entry_id l p x n h; its_length = entry_length_at l p x n h; others = λ q a b. entry_other l p x n q a b }

module _ {t s : List ℕ} {u : ℕ → ℕ} {i j p : ℕ} (f : Joining t s u i j p) where
  wt : Laid M t (held t)
  wt = laid_of M _ f.target

  ws : Laid M s (held s)
  ws = laid_of M _ f.source

  m : Merged M t s (merged t s)
  m = merged_of M _ _ f.target f.source (omega (arith, f.room))

  wr : Laid M (merged t s) (held (merged t s))
  wr = laid_of M _ m.ok

  -- the last entry that is left of the table, as code reads it
  pub own_id : 1 ≤ i → u (2 * i - 2) ≡ id_at t (i - 1)
  own_id h = let e : 2 * i - 2 ≡ 2 * (i - 1) = omega arith in rw e (f.so_far.front (2 * (i - 1)) (omega arith))

  pub own_length : 1 ≤ i → u (2 * i - 1) ≡ length_at t (i - 1)
  own_length h = let e : 2 * i - 1 ≡ 2 * (i - 1) + 1 = omega arith in rw e (f.so_far.front (2 * (i - 1) + 1) (omega arith))

  -- the source's
  pub source_id : 1 ≤ j → get_or s (2 * j - 2) 0 ≡ id_at s (j - 1)
  source_id h = let e : 2 * j - 2 ≡ 2 * (j - 1) = omega arith in rw e

  pub source_length : 1 ≤ j → get_or s (2 * j - 1) 0 ≡ length_at s (j - 1)
  source_length h = let e : 2 * j - 1 ≡ 2 * (j - 1) + 1 = omega arith in rw e

  -- the same words, told in another way
  pub same_words : {v : ℕ → ℕ} → ((q : ℕ) → q < length t → u q ≡ v q) → Joining t s v i j p
  same_words e = record {
    target = f.target;
    source = f.source;
    room = f.room;
    so_far = record {
      bound = f.so_far.bound;
      at_t = f.so_far.at_t;
      at_s = f.so_far.at_s;
      at_r = f.so_far.at_r;
      fit = f.so_far.fit;
      fit_s = f.so_far.fit_s;
      own = f.so_far.own;
      other = f.so_far.other;
      front = λ q l. sym (e q (omega (arith, f.so_far.own, f.so_far.fit))) ∙ f.so_far.front q l;
      back = λ q l h. sym (e q h) ∙ f.so_far.back q l h;
    };
  }

  -- no entry of the source is left: the merged table stands
  pub filled : j ≤ 0 → (length (merged t s) ≡ length t) × ((q : ℕ) → q < length t → u q ≡ get_or (merged t s) q 0)
  filled z = (m.size, back_end wt ws wr m.size m.of u i j p f.so_far z)

  goes_on : {v : ℕ → ℕ} (i' j' p' : ℕ) → Back t s (merged t s) v i' j' p' → Joining t s v i' j' p'
  goes_on i' j' p' b = record { target = f.target; source = f.source; room = f.room; so_far = b }

  module _ (p' : ℕ) (sp : suc p' ≡ p) (x n : ℕ) (v : ℕ → ℕ) (w : Put u p' x n v) where
    -- nothing is left of the table
    pub last_ones : i ≡ 0 → (b : ℕ) → suc b ≡ j → x ≡ id_at s b → n ≡ length_at s b → Joining t s v 0 b p'
    last_ones z b sb ex en = rw z at (goes_on i b p' (turn_source wt ws wr m.size m.of u i j p f.so_far b p' sb sp v (inl z) (rw (ex, en) at w)))

    -- a turn whose outcome is told by the two ids
    pub settled : (a b : ℕ) → suc a ≡ i → suc b ≡ j → (di dj : ℕ) → Outcome (id_at t a) (length_at t a) (id_at s b) (length_at s b) x n di dj → Joining t s v (i - di) (j - dj) p'
    settled a b sa sb di dj o = go (side (id_at t a) (id_at s b))
      where
        go : Side (id_at t a) (id_at s b) → Joining t s v (i - di) (j - dj) p'
        go (below l) =
            let r = o.under l in
            let ei : i - di ≡ i = omega (arith, r.2) in
            let ej : j - dj ≡ b = omega (arith, r.3) in
            rw (ei, ej) (goes_on i b p' (turn_source wt ws wr m.size m.of u i j p f.so_far b p' sb sp v (inr (a, sa, l)) (rw (r.0, r.1) at w)))
        go (same e) =
            let r = o.both e in
            let ei : i - di ≡ a = omega (arith, r.2) in
            let ej : j - dj ≡ b = omega (arith, r.3) in
            rw (ei, ej) (goes_on a b p' (turn_both wt ws wr m.size m.of u i j p f.so_far b p' sb sp v a sa e n r.1 (rw r.0 at w)))
        go (above l) =
            let r = o.over l in
            let ei : i - di ≡ a = omega (arith, r.2) in
            let ej : j - dj ≡ j = omega (arith, r.3) in
            rw (ei, ej) (goes_on a j p' (turn_own wt ws wr m.size m.of u i j p f.so_far b p' sb sp v a sa l (rw (r.0, r.1) at w)))

-- where it ends: words that no entry of the source is left for are the merged table
pub filled_words : {t s l : List ℕ} {i j p : ℕ} → Joining t s (λ q. get_or l q 0) i j p → length l ≡ length t → j ≤ 0 → l ≡ merged t s
filled_words f long z =
    let done = filled f z in
    ext_get_or 0 _ _ (long ∙ sym done.0) (λ q h. done.1 q (omega (arith, long)))

-- where it begins: the table as it stands
pub joining_start : (t s : List ℕ) (u : ℕ → ℕ) → SoundTable t → SoundTable s → 2 * held_merged t s ≤ length t → ((q : ℕ) → q < length t → u q ≡ get_or t q 0)
    → Joining t s u (held t) (held s) (held_merged t s)
joining_start t s u ok-t ok-s room stands =
    let m = merged_of M t s ok-t ok-s (omega arith) in
    record {
      target = ok-t;
      source = ok-s;
      room = room;
      so_far = rw m.many at (begin (laid_of M t ok-t) (laid_of M s ok-s) (laid_of M (merged t s) m.ok) m.size m.of u stands);
    }
