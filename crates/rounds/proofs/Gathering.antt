-- Gathering, site by site: the entries that stand in a room and the tables that are left come to all of them.
-- Assumes nothing.
use Prim.Native.Nat.{ℕ, suc, ◌+◌, ◌*◌, ◌-◌, ◌≤◌, ◌<◌}
use native.Mathlib.Numerals.{add-one}
use native.Mathlib.Omega.{arith}
use mathlib.Core.Bool.{true, false}
use mathlib.Core.Path.{◌≡◌, sym, ap, ◌∙◌}
use mathlib.Core.List.{List, ◌∷◌}
use lib.ListN.{length, length-append, length-replicate}
use lib.Seq.{length-take-le}
use borrow.Author.Tests.{lt-leb}
use Rattle.rules.specs.declared.Run.{Run}
use Rattle.rules.specs.meaning.Lengths.{M, join}
use Rattle.rules.specs.meaning.Table.{length_of}
use Rattle.rules.specs.meaning.States.{width, table_at}
use Rattle.rules.specs.meaning.Steps.{ids_of}
use Rattle.rules.specs.meaning.Ids.{distinct, ids_of_all, fit_together}
use Rattle.rules.specs.meaning.Rounds.{in_turn, all_tables}
use Rattle.rules.specs.meaning.Histories.{largest}
use Rattle.rules.specs.meaning.Repairs.{TableOf, are_sound, entries_of_all, all_taken}
use Rattle.rules.proofs.laws.history.Distinct.{distinct_grows}
use Rattle.rules.proofs.laws.history.Held.{ids_distinct, among_held}
use Rattle.rules.proofs.laws.run.Rounds.{all_are_sound}
use Rattle.rules.proofs.laws.repair.Fits.{largest_first, length_among, held_fit}
use Rattle.rules.proofs.laws.repair.Tables.{one_table, taken_of, taken_where_it_fits}
use Rattle.rules.proofs.laws.repair.Rounds.{tables_split}
use Rattle.steps.specs.Verdicts.{Ready}
use Rattle.steps.proofs.Tables.{site_sound, site_length}
use Rattle.rounds.specs.Unions.{united, in_use, front, padded}
use Rattle.rounds.specs.Values.{Repairable, Evened, copies, gathered, levelled}
use Rattle.rounds.proofs.Uniting.{Packed, packed_sound, packed_held, united_packed, united_of, in_use_packed, in_use_of, padded_sound, padded_of}

-- the tables from a site on
abbrev rest : Run → List ℕ → ℕ → List (List ℕ)
rest run ws k = in_turn (table_at run ws) k (run.sites - k)

-- the largest length that any table has for an id
abbrev all : Run → List ℕ → ℕ → ℕ
all run ws x = largest (entries_of_all (all_tables run ws)) x

pub record Gathered (run : Run) (ws : List ℕ) (k : ℕ) (es : List ℕ) : Type 0 where
  pub within : k ≤ run.sites
  pub packed : Packed 0 es
  pub comes : (x : ℕ) → join (length_of es x) (largest (entries_of_all (rest run ws k)) x) ≡ all run ws x

module _ (run : Run) (ws : List ℕ) (ok : Repairable run ws) where
  abbrev ready : Ready run ws
  ready = ok.ready

  abbrev some : 1 ≤ run.sites
  some = ok.some

  fine : (k : ℕ) → k < run.sites → (x : ℕ) → length_of (in_use (table_at run ws k)) x ≡ length_of (table_at run ws k) x
  fine k l x = in_use_of (table_at run ws k) (site_sound run ws ready k l) x

  tables_sound_law : are_sound (all_tables run ws) ≡ true
  tables_sound_law = all_are_sound (table_at run ws) 0 run.sites (λ j p q. site_sound run ws ready j (omega arith))

  split : (x : ℕ) → all run ws x ≡ join (length_of (table_at run ws 0) x) (largest (entries_of_all (rest run ws 1)) x)
  split x = rw (tables_split run ws some) (largest_first (table_at run ws 0) (rest run ws 1) (site_sound run ws ready 0 some) x)

  -- the entries of site 0
  pub gather_start : Gathered run ws 1 (in_use (table_at run ws 0))
  gather_start = record {
    within = some;
    packed = in_use_packed (table_at run ws 0) (site_sound run ws ready 0 some);
    comes = λ x. omega (arith, split x, fine 0 some x);
  }

  one_less : (k : ℕ) → k < run.sites → rest run ws k ≡ table_at run ws k ∷ rest run ws (k + 1)
  unfolding in_turn
  one_less k l =
      let more : run.sites - k ≡ suc (run.sites - (k + 1)) = omega arith in
      rw (more, add-one k)

  module _ (k : ℕ) (es : List ℕ) (so_far : Gathered run ws k es) (inside : k < run.sites) where
    first : (x : ℕ) → largest (entries_of_all (rest run ws k)) x ≡ join (length_of (table_at run ws k) x) (largest (entries_of_all (rest run ws (k + 1))) x)
    first x = rw (one_less k inside) (largest_first (table_at run ws k) (rest run ws (k + 1)) (site_sound run ws ready k inside) x)

    own : Packed 0 (in_use (table_at run ws k))
    own = in_use_packed (table_at run ws k) (site_sound run ws ready k inside)

    -- those of one more site
    pub gather_more : Gathered run ws (k + 1) (united es (in_use (table_at run ws k)))
    gather_more = record {
      within = omega arith;
      packed = united_packed so_far.packed own;
      comes = λ x. omega (arith, so_far.comes x, first x, fine k inside x, united_of so_far.packed own x);
    }

    -- no table has room for them: then it has none for all
    pub gather_full : width run < length (united es (in_use (table_at run ws k))) → false ≡ fit_together run.capacity (all_tables run ws)
    unfolding fit_together
    gather_full many =
        let both = united es (in_use (table_at run ws k)) in
        let next = gather_more in
        let ok = packed_sound next.packed in
        let few = distinct_grows (ids_of both) (ids_of_all (all_tables run ws))
        (λ x p. length_among (all_tables run ws) tables_sound_law x (omega (arith, next.comes x, among_held M both ok x p))) in
        sym (lt-leb (distinct (ids_of_all (all_tables run ws))) run.capacity (omega (arith, few, ids_distinct M both ok, packed_held next.packed)))

  -- no site is left: they fit, and with unused places behind them are the table of site 0 with all others taken in
  gather_end : (k n : ℕ) (es : List ℕ) → Gathered run ws k es → run.sites ≤ k → n ≤ run.capacity → length es ≡ 2 * n
      → (true ≡ fit_together run.capacity (all_tables run ws)) × (padded run.capacity n es ≡ gathered run ws)
  unfolding in_turn entries_of_all largest gathered
  gather_end k n es so_far last small long =
      let none : run.sites - k ≡ 0 = omega arith in
      let of : (x : ℕ) → length_of (padded run.capacity n es) x ≡ all run ws x = λ x. omega (arith, padded_of so_far.packed (run.capacity - n) x, rw none at (so_far.comes x)) in
      let size : length (padded run.capacity n es) ≡ 2 * run.capacity = simp (length-append, length-replicate) (omega arith) in
      let table : TableOf run.capacity (padded run.capacity n es) = (size, padded_sound so_far.packed (run.capacity - n)) in
      let fit = held_fit run.capacity (all_tables run ws) (padded run.capacity n es) tables_sound_law table of in
      let others : are_sound (rest run ws 1) ≡ true = all_are_sound (table_at run ws) 1 (run.sites - 1) (λ j p q. site_sound run ws ready j (omega arith)) in
      let own : TableOf run.capacity (table_at run ws 0) = (site_length run ws ready 0 some, site_sound run ws ready 0 some) in
      let taken : all_taken (table_at run ws 0) (rest run ws 1) ≡ true = taken_where_it_fits run.capacity (table_at run ws 0) (rest run ws 1) own others ∙ (rw (← tables_split run ws some) fit) in
      let end = taken_of run.capacity (rest run ws 1) others (table_at run ws 0) own taken in
      (sym fit, one_table run.capacity _ _ table end.0 (λ x. of x ∙ split x ∙ sym (end.1 x)))

  -- handed out, they are what the round leaves
  pub gather_out : (k n : ℕ) (room us : List ℕ) → Gathered run ws k (front n room) → run.sites ≤ k → n ≤ run.capacity → length room ≡ width run
      → us ≡ copies run.sites (padded run.capacity n (front n room)) → Evened run ws true us
  unfolding levelled
  gather_out k n room us so_far last few wide out =
      let end = gather_end k n (front n room) so_far last few (length-take-le (2 * n) room (omega arith)) in
      (end.0, rw (← end.0) (out ∙ ap (copies run.sites) end.1))
