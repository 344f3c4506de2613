-- The tables in the words: where each stands, that one of them is read and replaced by itself, and that all of them stay sound.
-- Assumes nothing.
use Prim.Native.Nat.{ℕ, zero, suc, ◌+◌, ◌*◌, ◌-◌, ◌≤◌, ◌<◌}
use Rattle.std.proofs.Common.{mul-le-mul_right, zero-mul, suc-mul, add_comm, add_assoc, not-suc-le-zero, le_of_suc-le-suc, arith, ◌∙◌, length-drop, take-append-drop, take_at, drop_at, length-take-le}
use Rattle.std.proofs.Math.Bool.{true}
use Rattle.std.specs.Prelude.{◌≡◌, refl}
use Rattle.std.proofs.Math.Path.{sym, ap}
use mathlib.Core.List.{List, [], ◌∷◌, ◌++◌, append_assoc}
use Rattle.std.proofs.Math.ListN.{length, take, drop, length-append}
use Rattle.std.proofs.Math.Seq.{drop-drop, drop-append-add}
use Rattle.std.proofs.lemmas.List.{take-append-le, drop-append-le}
use Rattle.rules.specs.declared.Run.{Run}
use Rattle.rules.specs.meaning.Table.{sound}
use Rattle.rules.proofs.laws.table.Order.{Side, Side.below, Side.same, Side.above, side}
use Rattle.rules.proofs.laws.table.View.{parts}
use Rattle.rules.specs.meaning.States.{width, table_at, with_table, tables_sound}

-- the part of site k of n is within the words
pub part_fits : (k n w : ℕ) → k < n → k * w + w ≤ n * w
part_fits k n w h = omega (arith, suc-mul k w, mul-le-mul_right w h)

-- one table on
pub next_part : (k w : ℕ) (ws : List ℕ) → drop w (drop (k * w) ws) ≡ drop (suc k * w) ws
next_part k w ws = drop-drop w (k * w) ws ∙ ap (λ (n : ℕ). drop n ws) (sym (suc-mul k w))

later_part : (k w : ℕ) (ws : List ℕ) → drop (k * w) (drop w ws) ≡ drop (suc k * w) ws
later_part k w ws = drop-drop (k * w) w ws ∙ ap (λ (n : ℕ). drop n ws) (add_comm w (k * w) ∙ sym (suc-mul k w))

first_part : (w : ℕ) (ws : List ℕ) → drop (0 * w) ws ≡ ws
first_part w ws = rw (zero-mul w)

-- ---- all tables are sound exactly where each is
pub tables_at : (most w n : ℕ) (ws : List ℕ) → tables_sound most w n ws ≡ true → (k : ℕ) → k < n → sound most (take w (drop (k * w) ws)) ≡ true
unfolding tables_sound
tables_at most w zero ws h k p = absurd (not-suc-le-zero p)
tables_at most w (suc n) ws h zero p = rw (first_part w ws) (parts (sound most (take w ws)) _ h).0
tables_at most w (suc n) ws h (suc k) p = rw (← later_part k w ws) (tables_at most w n (drop w ws) (parts (sound most (take w ws)) _ h).1 k (le_of_suc-le-suc p))

pub tables_by : (most w n : ℕ) (ws : List ℕ) → ((k : ℕ) → k < n → sound most (take w (drop (k * w) ws)) ≡ true) → tables_sound most w n ws ≡ true
unfolding tables_sound
tables_by most w zero ws h = refl
tables_by most w (suc n) ws h =
    let here : sound most (take w ws) ≡ true = rw (first_part w ws) at (h 0 (omega arith)) in
    let rest : tables_sound most w n (drop w ws) ≡ true = tables_by most w n (drop w ws) (λ k p. rw (later_part k w ws) (h (suc k) (omega arith))) in
    rw (here, rest)

-- and words are known by their tables
pub words_by : (w n : ℕ) (us vs : List ℕ) → length us ≡ n * w → length vs ≡ n * w → ((k : ℕ) → k < n → take w (drop (k * w) us) ≡ take w (drop (k * w) vs)) → us ≡ vs
words_by w zero us vs p q each = empty us (p ∙ zero-mul w) ∙ sym (empty vs (q ∙ zero-mul w))
  where
    empty : (l : List ℕ) → length l ≡ 0 → l ≡ []
    empty [] h = refl
    empty (x ∷ l) h = absurd (omega arith)
words_by w (suc n) us vs p q each =
    let first : take w us ≡ take w vs = rw (first_part w us, first_part w vs) at (each 0 (omega arith)) in
    let others : drop w us ≡ drop w vs = words_by w n (drop w us) (drop w vs) (simp length-drop (omega (arith, p, suc-mul n w))) (simp length-drop (omega (arith, q, suc-mul n w)))
    (λ k l. rw (later_part k w us, later_part k w vs) (each (suc k) (omega arith))) in
    sym (take-append-drop w us) ∙ (rw (first, others) (take-append-drop w vs))

-- ---- one table replaced
module _ (run : Run) (ws t : List ℕ) (k n : ℕ) (in-run : k < n) (long : length ws ≡ n * width run) (same_width_lem : length t ≡ width run) where
  fits : k * width run + width run ≤ length ws
  fits = omega (arith, part_fits k n (width run) in-run)

  front : length (take (k * width run) ws) ≡ k * width run
  front = length-take-le (k * width run) ws (omega (arith, fits))

  pub with_length_law : length (with_table run ws k t) ≡ length ws
  unfolding with_table
  with_length_law = simp (length-append, length-drop) (omega (arith, front, fits, same_width_lem))

  pub with_same : table_at run (with_table run ws k t) k ≡ t
  unfolding with_table table_at
  with_same = rw (drop_at (take (k * width run) ws) (t ++ drop (width run) (drop (k * width run) ws)) (k * width run) front) (take_at t (drop (width run) (drop (k * width run) ws)) (width run) same_width_lem)

  -- the tables of the sites before it
  before : (j : ℕ) → j < k → (x : List ℕ) → take (width run) (drop (j * width run) (take (k * width run) ws ++ x)) ≡ take (width run) (drop (j * width run) (take (k * width run) ws))
  before j p x =
      let inside : j * width run + width run ≤ k * width run = part_fits j k (width run) p in
      rw (drop-append-le (j * width run) (take (k * width run) ws) x (omega (arith, front)))
      (take-append-le (width run) (drop (j * width run) (take (k * width run) ws)) x (simp length-drop (omega (arith, front))))

  -- and of those after it
  behind : (m : ℕ) → drop (k * width run + width run + m) (with_table run ws k t) ≡ drop (k * width run + width run + m) ws
  unfolding with_table
  behind m =
      let head = take (k * width run) ws ++ t in
      let size : length head ≡ k * width run + width run = simp length-append (omega (arith, front, same_width_lem)) in
      rw (← append_assoc (take (k * width run) ws) t (drop (width run) (drop (k * width run) ws)), ← size)
      (drop-append-add head (drop (width run) (drop (k * width run) ws)) m)
      ∙ drop-drop m (width run) (drop (k * width run) ws) ∙ drop-drop (width run + m) (k * width run) ws ∙ ap (λ (i : ℕ). drop i ws) (sym (add_assoc (k * width run) (width run) m) ∙ refl)

  pub with_other : (j : ℕ) → (j ≡ k → ⊥) → table_at run (with_table run ws k t) j ≡ table_at run ws j
  unfolding with_table table_at
  with_other j ne = go (side j k)
    where
      go : Side j k → take (width run) (drop (j * width run) (with_table run ws k t)) ≡ take (width run) (drop (j * width run) ws)
      go (same p) = absurd (ne p)
      go (below p) =
          before j p (t ++ drop (width run) (drop (k * width run) ws))
          ∙ sym (before j p (drop (k * width run) ws))
          ∙ ap (λ (l : List ℕ). take (width run) (drop (j * width run) l)) (take-append-drop (k * width run) ws)
      go (above p) =
          let m : ℕ = j * width run - (k * width run + width run) in
          let at : k * width run + width run + m ≡ j * width run = omega (arith, part_fits k j (width run) p) in
          ap (take (width run)) (rw at at (behind m))

  -- soundness of all of them is kept by a sound one
  pub with_sound : (most : ℕ) → tables_sound most (width run) n ws ≡ true → sound most t ≡ true → tables_sound most (width run) n (with_table run ws k t) ≡ true
  unfolding table_at
  with_sound most all one = tables_by most (width run) n (with_table run ws k t) (λ j p. go j p (side j k))
    where
      other : (j : ℕ) → j < n → (j ≡ k → ⊥) → sound most (take (width run) (drop (j * width run) (with_table run ws k t))) ≡ true
      other j p ne = rw (with_other j ne) (tables_at most (width run) n ws all j p)

      go : (j : ℕ) → j < n → Side j k → sound most (take (width run) (drop (j * width run) (with_table run ws k t))) ≡ true
      go j p (same q) = rw (q, with_same) one
      go j p (below q) = other j p (omega arith)
      go j p (above q) = other j p (omega arith)

-- a table put back as it was
pub with_own : (run : Run) (ws : List ℕ) (k : ℕ) → with_table run ws k (table_at run ws k) ≡ ws
unfolding with_table table_at
with_own run ws k = rw (take-append-drop (width run) (drop (k * width run) ws)) (take-append-drop (k * width run) ws)
