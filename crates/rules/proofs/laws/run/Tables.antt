-- The tables of a sound state: each is as laid out and of the run's size, and one of that size put in is read there and nowhere else.
-- Assumes nothing.
use Rattle.std.specs.Prelude.{ℕ, ◌*◌, ◌≤◌, ◌<◌, true, ◌≡◌, List, length, leb}
use Rattle.std.proofs.Common.{arith, ◌∙◌, length-take, length-drop, leb-true, eqb-true}
use Rattle.rules.specs.declared.Run.{Run}
use Rattle.rules.specs.meaning.Lengths.{M}
use Rattle.rules.specs.meaning.Table.{sound, capacity}
use Rattle.rules.proofs.laws.table.View.{parts}
use Rattle.rules.specs.meaning.States.{State, width, table_at, with_table, sizes_right, tables_sound, StateSound}
use Rattle.rules.proofs.laws.run.Sites.{part_fits, tables_at, with_length_law, with_same, with_other, with_sound}

-- the words of right sizes are as many as the tables take
pub words_long : (run : Run) (words slots : ℕ) → sizes_right run words slots ≡ true → words ≡ run.sites * width run
unfolding sizes_right
words_long run words slots h =
    let a = parts (leb 1 run.sites) _ h in
    let b = parts (leb run.sites 16) _ a.1 in
    let d = parts (leb run.capacity 2048) _ b.1 in
    let e = parts (leb slots 1024) _ d.1 in
    eqb-true _ _ e.1

-- and the sites are as many as the ledger has entries for
pub few_sites : (run : Run) (words slots : ℕ) → sizes_right run words slots ≡ true → run.sites ≤ 16
unfolding sizes_right
few_sites run words slots h = leb-true _ _ (parts (leb run.sites 16) _ (parts (leb 1 run.sites) _ h).1).0

module _ (run : Run) (s : State) (ok : StateSound run s) (k : ℕ) (in-run : k < run.sites) where
  long : length s.words ≡ run.sites * width run
  long = words_long run (length s.words) (length s.slots) ok.0

  -- each is as laid out
  pub site_sound : sound M (table_at run s.words k) ≡ true
  unfolding table_at
  site_sound = tables_at M (width run) run.sites s.words ok.1 k in-run

  -- and "is 2 × C words long"
  pub site_length : length (table_at run s.words k) ≡ width run
  unfolding table_at
  site_length = simp (length-take, length-drop) (omega (arith, part_fits k run.sites (width run) in-run, long))

  -- so it has room for C entries
  pub site_capacity : capacity (table_at run s.words k) ≡ run.capacity
  site_capacity = omega (arith, site_length)

  -- ---- a table of the same length put in
  module _ (t : List ℕ) (size : length t ≡ length (table_at run s.words k)) where
    wide : length t ≡ width run
    wide = size ∙ site_length

    -- it stands there
    pub put_there : table_at run (with_table run s.words k t) k ≡ t
    put_there = with_same run s.words t k run.sites in-run long wide

    -- the tables of the other sites are as they were
    pub put_elsewhere : (j : ℕ) → (j ≡ k → ⊥) → table_at run (with_table run s.words k t) j ≡ table_at run s.words j
    put_elsewhere = with_other run s.words t k run.sites in-run long wide

    -- the words are as many
    pub put_as_many : length (with_table run s.words k t) ≡ length s.words
    put_as_many = with_length_law run s.words t k run.sites in-run long wide

    -- and every table is sound where the one put in is
    pub put_sound : sound M t ≡ true → tables_sound M (width run) run.sites (with_table run s.words k t) ≡ true
    put_sound = with_sound run s.words t k run.sites in-run long wide M ok.1
