-- Repairs: tables and groups taken in one after the other, by one table and in a run, and when the ids of all that is named fit together. Request 6 asks whether
-- their order can matter.
-- Assumes nothing.
use Rattle.std.specs.Prelude.{ℕ, zero, suc, ◌*◌, ◌≡◌, Bool, true, ◌&&◌, not, cond, List, [], ◌∷◌, ◌++◌, length, replicate, ltb, eqb}
use Rattle.rules.specs.declared.Run.{Run}
use Rattle.rules.specs.declared.Step.TheVariants.{Merge}
use Rattle.rules.specs.meaning.Lengths.{M}
use Rattle.rules.specs.meaning.Table.{sound, SoundTable}
use Rattle.rules.specs.meaning.Operations.{accepted, merge_refusal, merge_table}
use Rattle.rules.specs.meaning.States.{State, table_at}
use Rattle.rules.specs.meaning.Steps.{Entry, entries_of}
use Rattle.rules.specs.meaning.Ids.{fit_together}
use Rattle.rules.specs.meaning.Groups.{entries_in, forms_none}
use Rattle.rules.specs.meaning.Events.{Event, takes, absorbs, after_event}
use Rattle.rules.specs.meaning.Histories.{ran, is_accepted, same_pairs}

-- ---- tables and groups, each of them words, id then length; `Ids` says when the ids of all that is named fit together
-- a table of a capacity, as 01 lays it out
abbrev pub TableOf : ℕ → List ℕ → Type 0
TableOf c t = (length t ≡ 2 * c) × SoundTable t

abbrev pub empty_table : ℕ → List ℕ
empty_table c = replicate (2 * c) 0

-- each has its entries laid out as a table has them; a group's are so, with no unused place behind them
unfoldable pub are_sound : List (List ℕ) → Bool
are_sound [] = true
are_sound (t ∷ named) = sound M t && are_sound named

-- the entries of all that is named
unfoldable pub entries_of_all : List (List ℕ) → List Entry
entries_of_all [] = []
entries_of_all (t ∷ named) = entries_of t ++ entries_of_all named

-- ---- one table takes in all that is named, in order
unfoldable pub taken_in : List ℕ → List (List ℕ) → List ℕ
taken_in t [] = t
taken_in t (s ∷ named) = taken_in (merge_table t s) named

-- and none of it is refused
unfoldable pub all_taken : List ℕ → List (List ℕ) → Bool
all_taken t [] = true
all_taken t (s ∷ named) = eqb (merge_refusal t s) accepted && all_taken (merge_table t s) named

-- ---- repairs of a run
pub data Repair : Type 0 where
  -- the first site's whole table merged into the second's
  merging : ℕ → ℕ → Repair
  -- a group's bytes absorbed at a site
  absorbing : ℕ → List ℕ → Repair

-- the site that takes in
abbrev pub site_of : Repair → ℕ
site_of (merging f t) = t
site_of (absorbing t bytes) = t

-- nothing but lack of room could refuse it: two different sites of the run, or one of them and bytes that form a group
unfoldable pub is_proper : Run → Repair → Bool
is_proper run (merging f t) = ltb f run.sites && (ltb t run.sites && not (eqb f t))
is_proper run (absorbing t bytes) = ltb t run.sites && not (forms_none bytes)

unfoldable pub are_proper : Run → List Repair → Bool
are_proper run [] = true
are_proper run (r ∷ repairs) = is_proper run r && are_proper run repairs

-- all of them are of one site
unfoldable pub all_at : ℕ → List Repair → Bool
all_at k [] = true
all_at k (r ∷ repairs) = eqb (site_of r) k && all_at k repairs

-- the operations that they are
abbrev pub operation : Repair → Event
operation (merging f t) = takes (Merge f t)
operation (absorbing t bytes) = absorbs t bytes

unfoldable pub operations : List Repair → List Event
operations [] = []
operations (r ∷ repairs) = operation r ∷ operations repairs

-- each of some operations is accepted, one after the other
unfoldable pub all_accepted : Run → State → List Event → Bool
all_accepted run s [] = true
all_accepted run s (event ∷ events) = is_accepted run s event && all_accepted run (after_event run s event) events

-- ---- what comes to a site: whole tables and groups, where `has` tells which ones each site has
-- a merge brings all that the first site has
abbrev pub brings : (ℕ → List (List ℕ)) → Repair → List (List ℕ)
brings has (merging f t) = has f
brings has (absorbing t bytes) = entries_in bytes ∷ []

-- what each site has with it
abbrev pub having : (ℕ → List (List ℕ)) → Repair → ℕ → List (List ℕ)
having has r k = cond (eqb (site_of r) k) (has k ++ brings has r) (has k)

-- and with some repairs, in order
unfoldable pub has_after : (ℕ → List (List ℕ)) → List Repair → ℕ → List (List ℕ)
has_after has [] k = has k
has_after has (r ∷ repairs) k = has_after (having has r) repairs k

-- all that some repairs bring where the sites that they take from have what they had
unfoldable pub all_brought : (ℕ → List (List ℕ)) → List Repair → List (List ℕ)
all_brought has [] = []
all_brought has (r ∷ repairs) = brings has r ++ all_brought has repairs

-- a test of each of the first n sites
unfoldable pub at_each : (ℕ → Bool) → ℕ → Bool
at_each test zero = true
at_each test (suc n) = test n && at_each test n

-- ---- from a state, in which each site has its own table
module _ (run : Run) (s : State) where
  abbrev pub own_table : ℕ → List (List ℕ)
  own_table k = table_at run s.words k ∷ []

  -- the tables and groups that some repairs name, each table as it stands before them
  abbrev pub named : List Repair → List (List ℕ)
  named repairs = all_brought own_table repairs

  -- those that come to a site by some repairs: its own table, the groups, and the table of each site that reaches it, by itself or by way of others, as they
  -- stand before them
  abbrev pub came_to : List Repair → ℕ → List (List ℕ)
  came_to repairs k = has_after own_table repairs k

  -- at each site they fit together
  unfoldable pub fit_everywhere : List Repair → Bool
  fit_everywhere repairs = at_each (λ k. fit_together run.capacity (came_to repairs k)) run.sites

  -- at each site the same set of entries comes by the one list of repairs and by the other
  unfoldable pub same_everywhere : List Repair → List Repair → Bool
  same_everywhere xs ys = at_each (λ k. same_pairs (entries_of_all (came_to xs k)) (entries_of_all (came_to ys k))) run.sites

  -- both lists are accepted, and leave the same words, slots and ledger
  abbrev pub OneEnd : List Repair → List Repair → Type 0
  OneEnd xs ys = (all_accepted run s (operations xs) ≡ true) × (all_accepted run s (operations ys) ≡ true) × (ran run s (operations xs) ≡ ran run s (operations ys))
