-- The laws of the links: a sound ledger is one in which the entry of each link is sound, both ways; what a step and a fresh start leave of the entries.
-- Assumes nothing.
use Prim.Native.Nat.{ℕ, zero, suc, ◌<◌, ◌≤◌}
use Rattle.std.proofs.Common.{arith, ◌∙◌, get_or-set_same}
use Rattle.std.specs.Prelude.{◌≡◌, Bool, List, [], ◌∷◌, set}
use Rattle.std.proofs.Math.Path.{refl, sym, subst}
use Rattle.std.proofs.Math.Bool.{true, false, cond}
use Rattle.std.proofs.Math.ListN.{length, get_or, length-set}
use Rattle.std.proofs.Math.Seq.{get_or-set_other}
use Rattle.std.proofs.Math.Dec.{eqb}
use borrow.Author.Tests.{lt-ltb, ne_eqb, eqb-true, eqb-false}
use Rattle.rules.specs.declared.Pair.{Pair}
use Rattle.rules.proofs.laws.table.View.{parts}
use Rattle.rules.specs.meaning.Links.{place, no_pair, pair_at, linked, link_between, pair_sound, start_pair, moves_on, heard_pair, judged, begun, over_row, over_rows, links_sound, links_begun}

-- ---- the place of a link
-- two different sites of the run have a link
pub link_of_law : (sites a b : ℕ) → sites ≤ 16 → a < sites → b < sites → (a ≡ b → ⊥) → link_between sites a b ≡ place a b
unfolding link_between
link_of_law sites a b few la lb d = rw (lt-ltb a (linked sites) (omega (arith, few, la)), lt-ltb b (linked sites) (omega (arith, few, lb)), ne_eqb a b d)

-- two links that lie at one place are one
pub place_one : (a b c d : ℕ) → b < 16 → d < 16 → place a b ≡ place c d → (a ≡ c) × (b ≡ d)
place_one a b c d lb ld e = (omega (arith, lb, ld, e), omega (arith, lb, ld, e))

-- ---- a sound ledger
-- the entry of site a to each site below n other than a is sound; that of each site below m
abbrev pub RowSound : List Pair → ℕ → ℕ → Type 0
RowSound ps a n = (b : ℕ) → b < n → (a ≡ b → ⊥) → pair_sound (pair_at a b ps) ≡ true

abbrev pub RowsSound : List Pair → ℕ → ℕ → Type 0
RowsSound ps n m = (a : ℕ) → a < m → RowSound ps a n

module _ (ps : List Pair) where
  -- one site more, whose entry is sound or is the sender's own
  one_more_law : (a n : ℕ) → RowSound ps a n → ((a ≡ n → ⊥) → pair_sound (pair_at a n ps) ≡ true) → RowSound ps a (suc n)
  one_more_law a n below last b l d = go (eqb b n) refl
    where
      go : (t : Bool) → eqb b n ≡ t → pair_sound (pair_at a b ps) ≡ true
      go true e = subst (λ (k : ℕ). pair_sound (pair_at a k ps) ≡ true) (sym (eqb-true b n e)) (last (λ z. d (z ∙ sym (eqb-true b n e))))
      go false e = below b (omega (arith, l, eqb-false b n e)) d

  row_gives : (a n : ℕ) (g : Bool) → over_row (judged ps) a n g ≡ true → (g ≡ true) × RowSound ps a n
  unfolding over_row
  row_gives a zero g e = (e, λ b l d. absurd (omega (arith, l)))
  row_gives a (suc n) g e = go (eqb a n) refl e (row_gives a n g)
    where
      go : (t : Bool) → eqb a n ≡ t → cond t (over_row (judged ps) a n g) (judged ps a n (over_row (judged ps) a n g)) ≡ true
          → (over_row (judged ps) a n g ≡ true → (g ≡ true) × RowSound ps a n) → (g ≡ true) × RowSound ps a (suc n)
      go true q h ih = let below = ih h in (below.0, one_more_law a n below.1 (λ d. absurd (d (eqb-true a n q))))
      go false q h ih =
          let two = parts (over_row (judged ps) a n g) (pair_sound (pair_at a n ps)) h in
          let below = ih two.0 in
          (below.0, one_more_law a n below.1 (λ _. two.1))

  rows_give : (n m : ℕ) → over_rows (judged ps) n m true ≡ true → RowsSound ps n m
  unfolding over_rows
  rows_give n zero e a l = absurd (omega (arith, l))
  rows_give n (suc m) e a l = go (eqb a m) refl (row_gives m n (over_rows (judged ps) n m true) e) (rows_give n m)
    where
      go : (t : Bool) → eqb a m ≡ t → (over_rows (judged ps) n m true ≡ true) × RowSound ps m n → (over_rows (judged ps) n m true ≡ true → RowsSound ps n m) → RowSound ps a n
      go true q known ih = subst (λ (k : ℕ). RowSound ps k n) (sym (eqb-true a m q)) known.1
      go false q known ih = ih known.0 a (omega (arith, l, eqb-false a m q))

  row_makes : (a n : ℕ) (g : Bool) → g ≡ true → RowSound ps a n → over_row (judged ps) a n g ≡ true
  unfolding over_row
  row_makes a zero g e known = e
  row_makes a (suc n) g e known = go (eqb a n) refl (row_makes a n g e (λ b l d. known b (omega (arith, l)) d))
    where
      go : (t : Bool) → eqb a n ≡ t → over_row (judged ps) a n g ≡ true → cond t (over_row (judged ps) a n g) (judged ps a n (over_row (judged ps) a n g)) ≡ true
      go true q below = below
      go false q below = rw (below) (known n (omega arith) (eqb-false a n q))

  rows_make : (n m : ℕ) → RowsSound ps n m → over_rows (judged ps) n m true ≡ true
  unfolding over_rows
  rows_make n zero known = refl
  rows_make n (suc m) known = row_makes m n (over_rows (judged ps) n m true) (rows_make n m (λ a l. known a (omega (arith, l)))) (known m (omega arith))

module _ (sites : ℕ) (ps : List Pair) where
  -- "for every ordered pair of different sites of the run"
  pub sound_links : links_sound sites ps ≡ true → RowsSound ps (linked sites) (linked sites)
  unfolding links_sound
  sound_links h = rows_give ps (linked sites) (linked sites) h

  pub links_sound_law : RowsSound ps (linked sites) (linked sites) → links_sound sites ps ≡ true
  unfolding links_sound
  links_sound_law known = rows_make ps (linked sites) (linked sites) known

-- the entry of a link is sound
pub link_sound : (sites : ℕ) (ps : List Pair) (a b : ℕ) → sites ≤ 16 → a < sites → b < sites → (a ≡ b → ⊥) → links_sound sites ps ≡ true
    → pair_sound (get_or ps (link_between sites a b) no_pair) ≡ true
link_sound sites ps a b few la lb d h = rw (link_of_law sites a b few la lb d) (sound_links sites ps h a (omega (arith, few, la)) b (omega (arith, few, lb)) d)

-- ---- an entry set
-- what stands at a place after a sound entry was set somewhere is sound if it was before
set_sound : (ps : List Pair) (i j : ℕ) (p : Pair) → pair_sound p ≡ true → pair_sound (get_or ps j no_pair) ≡ true → pair_sound (get_or (set ps i p) j no_pair) ≡ true
set_sound [] i j p new old = old
set_sound (q ∷ qs) zero zero p new old = new
set_sound (q ∷ qs) zero (suc j) p new old = old
set_sound (q ∷ qs) (suc i) zero p new old = old
set_sound (q ∷ qs) (suc i) (suc j) p new old = set_sound qs i j p new old

-- and at the place itself it is sound without that
set_own_sound : (ps : List Pair) (i : ℕ) (p : Pair) → pair_sound p ≡ true → pair_sound (get_or (set ps i p) i no_pair) ≡ true
unfolding pair_sound
set_own_sound [] i p new = refl
set_own_sound (q ∷ qs) zero p new = new
set_own_sound (q ∷ qs) (suc i) p new = set_own_sound qs i p new

pub set_links_sound : (sites : ℕ) (ps : List Pair) (i : ℕ) (p : Pair) → links_sound sites ps ≡ true → pair_sound p ≡ true → links_sound sites (set ps i p) ≡ true
set_links_sound sites ps i p h new = links_sound_law sites (set ps i p) (λ a la b lb d. set_sound ps i (place a b) p new (sound_links sites ps h a la b lb d))

-- what a delivery leaves is sound: where the newest heard moves on, its mark falls
pub heard_sound : (serial : ℕ) (p : Pair) → pair_sound p ≡ true → pair_sound (heard_pair serial p) ≡ true
unfolding heard_pair pair_sound
heard_sound serial p h = go (moves_on serial p)
  where
    go : (t : Bool) → pair_sound (cond t (record { next = p.next; heard = serial; unsent = p.unsent; unheard = 0 }) p) ≡ true
    go true = refl
    go false = h

-- ---- a fresh start
-- an entry set and read at its place: the same in two lists that are as long
read_back : (ps qs : List Pair) (i : ℕ) (p : Pair) → length ps ≡ length qs → get_or (set ps i p) i no_pair ≡ get_or (set qs i p) i no_pair
read_back [] [] i p e = refl
read_back [] (y ∷ ys) i p e = absurd (omega (arith, e))
read_back (x ∷ xs) [] i p e = absurd (omega (arith, e))
read_back (x ∷ xs) (y ∷ ys) zero p e = refl
read_back (x ∷ xs) (y ∷ ys) (suc i) p e = read_back xs ys i p (omega (arith, e))

-- i is the place of no link of site a; of no site below m
abbrev pub OffRow : ℕ → ℕ → ℕ → Type 0
OffRow i a n = (b : ℕ) → b < n → (a ≡ b → ⊥) → i ≡ place a b → ⊥

abbrev pub OffRows : ℕ → ℕ → ℕ → Type 0
OffRows i n m = (a : ℕ) → a < m → OffRow i a n

module _ (first : ℕ) where
  row_length : (a n : ℕ) (ps : List Pair) → length (over_row (begun first) a n ps) ≡ length ps
  unfolding over_row
  row_length a zero ps = refl
  row_length a (suc n) ps = go (eqb a n) (row_length a n ps)
    where
      go : (t : Bool) → length (over_row (begun first) a n ps) ≡ length ps → length (cond t (over_row (begun first) a n ps) (begun first a n (over_row (begun first) a n ps))) ≡ length ps
      go true ih = ih
      go false ih = length-set (over_row (begun first) a n ps) (place a n) (start_pair first) ∙ ih

  rows_length : (n m : ℕ) (ps : List Pair) → length (over_rows (begun first) n m ps) ≡ length ps
  unfolding over_rows
  rows_length n zero ps = refl
  rows_length n (suc m) ps = row_length m n (over_rows (begun first) n m ps) ∙ rows_length n m ps

  row_keeps : (a n i : ℕ) (ps : List Pair) → OffRow i a n → get_or (over_row (begun first) a n ps) i no_pair ≡ get_or ps i no_pair
  unfolding over_row
  row_keeps a zero i ps off = refl
  row_keeps a (suc n) i ps off = go (eqb a n) refl (row_keeps a n i ps (λ b l d. off b (omega (arith, l)) d))
    where
      go : (t : Bool) → eqb a n ≡ t → get_or (over_row (begun first) a n ps) i no_pair ≡ get_or ps i no_pair
          → get_or (cond t (over_row (begun first) a n ps) (begun first a n (over_row (begun first) a n ps))) i no_pair ≡ get_or ps i no_pair
      go true q ih = ih
      go false q ih = get_or-set_other (over_row (begun first) a n ps) (place a n) i (start_pair first) no_pair (off n (omega arith) (eqb-false a n q)) ∙ ih

  rows_keep : (n m i : ℕ) (ps : List Pair) → OffRows i n m → get_or (over_rows (begun first) n m ps) i no_pair ≡ get_or ps i no_pair
  unfolding over_rows
  rows_keep n zero i ps off = refl
  rows_keep n (suc m) i ps off = row_keeps m n i (over_rows (begun first) n m ps) (off m (omega arith)) ∙ rows_keep n m i ps (λ a l. off a (omega (arith, l)))

  -- the entry of a link is the one that begins, read where it was set
  row_sets : (a n b : ℕ) (ps : List Pair) → b < n → (a ≡ b → ⊥) → pair_at a b (over_row (begun first) a n ps) ≡ pair_at a b (begun first a b ps)
  unfolding over_row
  row_sets a zero b ps l d = absurd (omega (arith, l))
  row_sets a (suc n) b ps l d = go (eqb a n) refl (eqb b n) refl (λ less. row_sets a n b ps less d)
    where
      go : (t : Bool) → eqb a n ≡ t → (s : Bool) → eqb b n ≡ s → (b < n → pair_at a b (over_row (begun first) a n ps) ≡ pair_at a b (begun first a b ps))
          → pair_at a b (cond t (over_row (begun first) a n ps) (begun first a n (over_row (begun first) a n ps))) ≡ pair_at a b (begun first a b ps)
      go true q true e ih = absurd (d (eqb-true a n q ∙ sym (eqb-true b n e)))
      go true q false e ih = ih (omega (arith, l, eqb-false b n e))
      go false q true e ih = subst (λ (k : ℕ). pair_at a b (begun first a k (over_row (begun first) a n ps)) ≡ pair_at a b (begun first a b ps)) (eqb-true b n e)
          (read_back (over_row (begun first) a n ps) ps (place a b) (start_pair first) (row_length a n ps))
      go false q false e ih =
          get_or-set_other (over_row (begun first) a n ps) (place a n) (place a b) (start_pair first) no_pair (λ z. omega (arith, z, eqb-false b n e)) ∙ ih (omega (arith, l, eqb-false b n e))

  rows_set : (n m a b : ℕ) (ps : List Pair) → n ≤ 16 → a < m → b < n → (a ≡ b → ⊥) → pair_at a b (over_rows (begun first) n m ps) ≡ pair_at a b (begun first a b ps)
  unfolding over_rows
  rows_set n zero a b ps fits la lb d = absurd (omega (arith, la))
  rows_set n (suc m) a b ps fits la lb d = go (eqb a m) refl (λ less. rows_set n m a b ps fits less lb d)
    where
      go : (t : Bool) → eqb a m ≡ t → (a < m → pair_at a b (over_rows (begun first) n m ps) ≡ pair_at a b (begun first a b ps))
          → pair_at a b (over_row (begun first) m n (over_rows (begun first) n m ps)) ≡ pair_at a b (begun first a b ps)
      go true q ih = subst (λ (k : ℕ). pair_at a b (over_row (begun first) k n (over_rows (begun first) n m ps)) ≡ pair_at a b (begun first a b ps)) (eqb-true a m q)
          (row_sets a n b (over_rows (begun first) n m ps) lb d ∙ read_back (over_rows (begun first) n m ps) ps (place a b) (start_pair first) (rows_length n m ps))
      go false q ih = row_keeps m n (place a b) (over_rows (begun first) n m ps) (λ c lc _ z. omega (arith, z, lb, lc, fits, eqb-false a m q)) ∙ ih (omega (arith, la, eqb-false a m q))

module _ (sites first : ℕ) (ps : List Pair) where
  -- as many entries as before
  pub begun_length : length (links_begun sites first ps) ≡ length ps
  unfolding links_begun
  begun_length = rows_length first (linked sites) (linked sites) ps

  -- "No other pair is .. written"
  pub begun_other : (i : ℕ) → OffRows i (linked sites) (linked sites) → get_or (links_begun sites first ps) i no_pair ≡ get_or ps i no_pair
  unfolding links_begun
  begun_other i off = rows_keep first (linked sites) (linked sites) i ps off

  begun_there : (a b : ℕ) → a < linked sites → b < linked sites → (a ≡ b → ⊥) → pair_at a b (links_begun sites first ps) ≡ pair_at a b (begun first a b ps)
  unfolding links_begun
  begun_there a b la lb d = rows_set first (linked sites) (linked sites) a b ps (omega arith) la lb d

  -- "each ordered pair of different sites starts at one first serial"; "fresh, both marks stand"
  pub begun_link : length ps ≡ 256 → (a b : ℕ) → a < linked sites → b < linked sites → (a ≡ b → ⊥) → pair_at a b (links_begun sites first ps) ≡ start_pair first
  begun_link whole a b la lb d = begun_there a b la lb d ∙ get_or-set_same ps (place a b) (start_pair first) no_pair (omega (arith, whole, la, lb))

  -- whatever stood there before, it is sound
  pub begun_sound : links_sound sites (links_begun sites first ps) ≡ true
  unfolding pair_sound
  begun_sound = links_sound_law sites (links_begun sites first ps) (λ a la b lb d. rw (begun_there a b la lb d) (set_own_sound ps (place a b) (start_pair first) refl))
