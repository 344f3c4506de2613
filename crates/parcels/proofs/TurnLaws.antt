-- What the turns come to: all of them make the scan that `rules` defines, and each free slot stored is one more that is cleared.
--     look_by_law      `look_of`, once its tests are known
--     after        what a scan is that starts at s, with the slots ps from the number `at` on: one `look_of` after another
--     start        what is known before any slot is seen.        scanned      from there, the turns make `scan_of`
--     one_turn     the slots from i on are the slot i and those from i + 1 on.        all_seen     none is left
--     fewer        a turn counts at most one
--     clear_none   no slot is cleared.        clear_one    one more slot is cleared.        clear_all    as many as there are to clear is as many as are asked for.        length_cleared   no slot comes or goes
--     clear_front    free slots in place of the first ones, or of all where there are fewer
use Rattle.std.specs.Prelude.{◌≡◌, refl, ℕ, zero, suc, ◌+◌, ◌<◌, ◌≤◌, min, Bool, true, false, ◌&&◌, ◌||◌, cond, ltb, length, drop, get_or, set, replicate, ◌++◌}
use Rattle.std.proofs.Math.Path.{sym}
use Rattle.std.proofs.Common.{ap, ◌∙◌, subst, arith, add-zero, zero-add, add-one, drop-cons, lt-ltb, le-ltb, ltb-true, ltb-false}
use Rattle.std.proofs.lemmas.Bool.{false≢true}
use mathlib.Core.List.{List, [], ◌∷◌}
use Rattle.std.proofs.Math.Seq.{drop-length}
use Rattle.rules.specs.declared.Parcel.{Parcel}
use Rattle.rules.specs.declared.Scan.{Scan}
use Rattle.rules.specs.meaning.Parcels.{no_parcel, is_free, is_occupied, slots_sound, waiting, lowest_free, scan_of, cleared}
use Rattle.parcels.specs.Turns.{look_by, look_of}

pub look_by_law : (most sites at : ℕ) (p : Parcel) (s : Scan) (f h l : Bool) → is_free p ≡ f → is_occupied most sites p ≡ h → ltb at s.free ≡ l → look_of most sites at p s ≡ look_by f h l at s
look_by_law most sites at p s f h l e g k = λ i. look_by (e i) (g i) (k i) at s

abbrev pub start : ℕ → Scan
start n = record { sound = true; waiting = 0; free = n }

module _ (most sites : ℕ) where
  abbrev pub after : List Parcel → ℕ → Scan → Scan
  after [] at s = s
  after (p ∷ ps) at s = after ps (suc at) (look_of most sites at p s)

  -- what comes out, where k is the lowest free slot
  abbrev sum : Scan → List Parcel → ℕ → Scan
  sum s ps k = record { sound = s.sound && slots_sound most sites ps; waiting = s.waiting + waiting ps; free = k }

  and_true : (b : Bool) → b ≡ b && true
  and_true true = refl
  and_true false = refl

  -- the tests of one slot, with those of the slots after it
  and_assoc : (a b c : Bool) → (a && b) && c ≡ a && (b && c)
  and_assoc true b c = refl
  and_assoc false b c = refl

  one_more_law : (m n : ℕ) → (m + 1) + n ≡ m + suc n
  one_more_law m n = omega arith

  next : (m n : ℕ) → suc m + n ≡ m + suc n
  next m n = omega arith

  -- the scan of one slot more, by the slot's tests
  abbrev whole : Bool → Bool → Scan → List Parcel → ℕ → Scan
  whole f h s ps k = record { sound = s.sound && ((f || h) && slots_sound most sites ps); waiting = s.waiting + cond f (waiting ps) (suc (waiting ps)); free = k }

  -- a free slot is known already, below all that are left: it stays
  found_step : (f h l : Bool) (ps : List Parcel) (at : ℕ) (s : Scan) → l ≡ false → ((s' : Scan) → s'.free ≡ s.free → after ps (suc at) s' ≡ sum s' ps s.free)
      → after ps (suc at) (look_by f h l at s) ≡ whole f h s ps s.free
  found_step true h true ps at s e ih = absurd (false≢true (sym e))
  found_step true h false ps at s e ih = ih (record { sound = s.sound; waiting = s.waiting; free = s.free }) refl
  found_step false h l ps at s e ih =
      ih (record { sound = s.sound && h; waiting = s.waiting + 1; free = s.free }) refl
      ∙ (λ i. record { sound = and_assoc s.sound h (slots_sound most sites ps) i; waiting = one_more_law s.waiting (waiting ps) i; free = s.free })

  found : (ps : List Parcel) (at : ℕ) (s : Scan) → s.free < at → after ps at s ≡ sum s ps s.free
  unfolding slots_sound waiting
  found [] at s l = λ i. record { sound = and_true s.sound i; waiting = sym (add-zero s.waiting) i; free = s.free }
  found (p ∷ ps) at s l =
      found_step (is_free p) (is_occupied most sites p) (ltb at s.free) ps at s (le-ltb at s.free (omega arith))
      (λ s' e. found ps (suc at) s' (omega arith) ∙ (λ i. sum s' ps (e i)))

  -- none is known: the lowest is the lowest of those that are left
  none_step : (f h l : Bool) (ps : List Parcel) (at : ℕ) (s : Scan) → l ≡ true → ((s' : Scan) → s'.free ≡ s.free → after ps (suc at) s' ≡ sum s' ps (suc at + lowest_free ps))
      → after ps (suc at) (look_by f h l at s) ≡ whole f h s ps (at + cond f 0 (suc (lowest_free ps)))
  none_step true h true ps at s e ih =
      found ps (suc at) (record { sound = s.sound; waiting = s.waiting; free = at }) (omega arith)
      ∙ (λ i. record { sound = s.sound && slots_sound most sites ps; waiting = s.waiting + waiting ps; free = sym (add-zero at) i })
  none_step true h false ps at s e ih = absurd (false≢true e)
  none_step false h l ps at s e ih =
      ih (record { sound = s.sound && h; waiting = s.waiting + 1; free = s.free }) refl
      ∙ (λ i. record { sound = and_assoc s.sound h (slots_sound most sites ps) i; waiting = one_more_law s.waiting (waiting ps) i; free = next at (lowest_free ps) i })

  none : (ps : List Parcel) (at : ℕ) (s : Scan) → s.free ≡ at + length ps → after ps at s ≡ sum s ps (at + lowest_free ps)
  unfolding slots_sound waiting lowest_free
  none [] at s n = λ i. record { sound = and_true s.sound i; waiting = sym (add-zero s.waiting) i; free = n i }
  none (p ∷ ps) at s n =
      none_step (is_free p) (is_occupied most sites p) (ltb at s.free) ps at s (lt-ltb at s.free (omega arith))
      (λ s' e. none ps (suc at) s' (omega arith))

  pub scanned : (ps : List Parcel) → after ps 0 (start (length ps)) ≡ scan_of most sites ps
  scanned ps =
      none ps 0 (start (length ps)) (sym (zero-add (length ps)))
      ∙ (λ i. record { sound = slots_sound most sites ps; waiting = zero-add (waiting ps) i; free = zero-add (lowest_free ps) i })

  by_one : (f h l : Bool) (at : ℕ) (s : Scan) → (look_by f h l at s).waiting ≤ s.waiting + 1
  by_one true h l at s = omega arith
  by_one false h l at s = omega arith

  pub fewer : (at : ℕ) (p : Parcel) (s : Scan) → (look_of most sites at p s).waiting ≤ s.waiting + 1
  fewer at p s = by_one (is_free p) (is_occupied most sites p) (ltb at s.free) at s

  pub one_turn : (ys : List Parcel) (i : ℕ) (s : Scan) → i < length ys → after (drop i ys) i s ≡ after (drop (i + 1) ys) (i + 1) (look_of most sites i (get_or ys i no_parcel) s)
  one_turn ys i s l = rw (add-one i, drop-cons ys i no_parcel)

  pub all_seen : (ys : List Parcel) (i : ℕ) (s : Scan) → i ≡ length ys → after (drop i ys) i s ≡ s
  all_seen ys i s e = subst (λ (k : ℕ). after (drop k ys) k s ≡ s) (sym e) (rw (drop-length))

-- ---- a loop that stores a free slot at each number
pub clear_none : (ys : List Parcel) → cleared 0 ys ≡ ys
unfolding cleared
clear_none ys = refl

clear_next : (ys : List Parcel) (i : ℕ) → i < length ys → set (cleared i ys) i no_parcel ≡ cleared (suc i) ys
unfolding cleared
clear_next [] i l = absurd (omega (arith, l))
clear_next (y ∷ ys) zero l = refl
clear_next (y ∷ ys) (suc i) l = ap (λ (zs : List Parcel). no_parcel ∷ zs) (clear_next ys i (omega (arith, l)))

pub clear_one : (ys : List Parcel) (i : ℕ) → i < length ys → set (cleared i ys) i no_parcel ≡ cleared (i + 1) ys
clear_one ys i l = clear_next ys i l ∙ ap (λ (k : ℕ). cleared k ys) (sym (add-one i))

pub length_cleared : (ys : List Parcel) (n : ℕ) → length (cleared n ys) ≡ length ys
unfolding cleared
length_cleared ys zero = refl
length_cleared [] (suc n) = refl
length_cleared (y ∷ ys) (suc n) = ap suc (length_cleared ys n)

-- past the end there is nothing to clear
clear_past : (ys : List Parcel) (n : ℕ) → length ys ≤ n → cleared (length ys) ys ≡ cleared n ys
unfolding cleared
clear_past [] zero l = refl
clear_past [] (suc n) l = refl
clear_past (y ∷ ys) zero l = absurd (omega (arith, l))
clear_past (y ∷ ys) (suc n) l = ap (λ (zs : List Parcel). no_parcel ∷ zs) (clear_past ys n (omega (arith, l)))

clear_by : (b : Bool) (ys : List Parcel) (n m : ℕ) → ltb n (length ys) ≡ b → m ≡ min n (length ys) → cleared m ys ≡ cleared n ys
clear_by true ys n m e g = ap (λ (k : ℕ). cleared k ys) (omega (arith, g, ltb-true n (length ys) e))
clear_by false ys n m e g = ap (λ (k : ℕ). cleared k ys) (omega (arith, g, ltb-false n (length ys) e)) ∙ clear_past ys n (ltb-false n (length ys) e)

pub clear_all : (ys : List Parcel) (n m : ℕ) → m ≡ min n (length ys) → cleared m ys ≡ cleared n ys
clear_all ys n m g = clear_by (ltb n (length ys)) ys n m refl g

-- ---- free slots in place of the first ones, or of all where there are fewer
pub clear_front : (ys : List Parcel) (n e : ℕ) → e ≡ min n (length ys) → replicate e no_parcel ++ drop e ys ≡ cleared n ys
unfolding cleared
clear_front ys zero e q = let z : e ≡ 0 = omega arith in rw z
clear_front [] (suc n) e q = let z : e ≡ 0 = omega arith in rw z
clear_front (y ∷ ys) (suc n) zero q = absurd (omega arith)
clear_front (y ∷ ys) (suc n) (suc e) q = ap (λ (zs : List Parcel). no_parcel ∷ zs) (clear_front ys n e (omega arith))
