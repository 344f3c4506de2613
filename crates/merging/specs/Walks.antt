-- Two tables in one run of words, and what filling keeps, turn by turn.
-- Assumes nothing.
use Rattle.std.specs.Prelude.{ℕ, ◌+◌, ◌*◌, ◌-◌, ◌≤◌, ◌<◌, ◌≡◌, ◌⊎◌, List, ◌++◌, length, get_or, take, drop}
use Rattle.rules.specs.meaning.Table.{SoundTable, id_at, rank, merged, held_merged}

-- ---- filling: R, the merged table, comes to stand from its last place on. The three positions are ranks at one bound: every id at or above it is
-- placed, every id below it is not. `u` is the word that stands at a place now
pub record Back (t s R : List ℕ) (u : ℕ → ℕ) (i j p : ℕ) : Type 0 where
  pub bound : ℕ
  pub at_t : rank t bound ≡ i
  pub at_s : rank s bound ≡ j
  pub at_r : rank R bound ≡ p
  pub fit : 2 * p ≤ length t
  pub fit_s : 2 * j ≤ length s
  pub own : i ≤ p
  pub other : j ≤ p
  pub front : (q : ℕ) → q < 2 * i → u q ≡ get_or t q 0
  pub back : (q : ℕ) → 2 * p ≤ q → q < length t → u q ≡ get_or R q 0

-- a merge of s into t that has come so far
pub record Joining (t s : List ℕ) (u : ℕ → ℕ) (i j p : ℕ) : Type 0 where
  pub target : SoundTable t
  pub source : SoundTable s
  pub room : 2 * held_merged t s ≤ length t
  pub so_far : Back t s (merged t s) u i j p

-- ---- a table that stands in words, and the words with another one there
abbrev pub part_at : List ℕ → ℕ → ℕ → List ℕ
part_at ws at wide = take wide (drop at ws)

abbrev pub with_part : List ℕ → ℕ → ℕ → List ℕ → List ℕ
with_part ws at wide t = take at ws ++ (t ++ drop wide (drop at ws))

-- two tables of one width in the words, with no word in common
pub record Apart (words to from wide : ℕ) : Type 0 where
  pub fits_to : to + wide ≤ words
  pub fits_from : from + wide ≤ words
  pub apart : (from + wide ≤ to) ⊎ (to + wide ≤ from)

-- a merge inside the words `ws` that has come so far, where `us` is what stands in the words now: the same as before in every word outside of the
-- table at `to`
pub record Filling (ws : List ℕ) (to from wide : ℕ) (us : List ℕ) (i j p : ℕ) : Type 0 where
  pub tables : Apart (length ws) to from wide
  pub size : length us ≡ length ws
  pub outside : (q : ℕ) → (q < to) ⊎ (to + wide ≤ q) → get_or us q 0 ≡ get_or ws q 0
  pub joining : Joining (part_at ws to wide) (part_at ws from wide) (λ q. get_or us (to + q) 0) i j p

-- the last k entries that are left of the table and of the source have the same ids, one by one
abbrev pub same_ids : List ℕ → ℕ → ℕ → ℕ → ℕ → ℕ → ℕ → Type 0
same_ids ws to from wide i j k = (q : ℕ) → q < k → id_at (part_at ws to wide) (i - 1 - q) ≡ id_at (part_at ws from wide) (j - 1 - q)
