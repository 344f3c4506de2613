-- One repair round: its merges are accepted exactly where the ids of all tables fit one together, every table then has the largest of all lengths, and tables that
-- are equal stay as they are.
-- Assumes nothing.
use Rattle.std.specs.Prelude.{ℕ, zero, suc, ◌+◌, ◌*◌, ◌-◌, ◌≤◌, ◌<◌, Bool, not, cond, List, [], ◌∷◌, ◌++◌, length, leb}
use Rattle.std.proofs.Common.{le_refl, arith, sym, ap, ◌∙◌, length-append, leb-true, lt-ltb, ne_eqb, eq-eqb}
use Rattle.std.proofs.Math.Bool.{true, false}
use Rattle.std.proofs.Math.Path.{◌≡◌, refl}
use Rattle.std.proofs.lemmas.Bool.{not-false}
use Rattle.rules.specs.declared.Run.{Run}
use Rattle.rules.specs.declared.Step.{Step}
use Rattle.rules.specs.declared.Step.TheVariants.{Merge}
use Rattle.rules.specs.meaning.Refusals.{first_given}
use Rattle.rules.specs.meaning.States.{State, StateSound, sizes_right, table_at}
use Rattle.rules.specs.meaning.Ids.{ids_of_all, fit_together}
use Rattle.rules.specs.meaning.Runs.{after}
use Rattle.rules.specs.meaning.Rounds.{in_turn, largest_of, all_tables, round_merges, after_all, given_in, given_by}
use Rattle.rules.specs.meaning.Events.{Event, takes, round, outcome, refusal_for, after_event}
use Rattle.rules.specs.meaning.Histories.{ran, taking, length_in, absorbed_in, absorbed, largest}
use Rattle.rules.specs.meaning.Repairs.{TableOf, are_sound, entries_of_all, taken_in, all_taken, Repair, merging, is_proper, are_proper, all_at, operations, all_accepted, having, has_after, all_brought, own_table, came_to}
use Rattle.rules.proofs.laws.Bits.{both_ways}
use Rattle.rules.proofs.laws.table.Order.{Side, Side.below, Side.same, Side.above, side}
use Rattle.rules.proofs.laws.table.View.{parts}
use Rattle.rules.proofs.laws.run.Steps.{pass}
use Rattle.rules.proofs.laws.run.Tables.{site_sound, site_length}
use Rattle.rules.proofs.laws.run.Events.{event_keeps, accepted_event_moves}
use Rattle.rules.proofs.laws.run.Rounds.{all_are_sound, all_below, all_largest, round_own, round_in_sound, tables_sound_law, held_bounded}
use Rattle.rules.proofs.laws.history.Counting.{event_sound, ran_sound}
use Rattle.rules.proofs.laws.repair.Fits.{largest_first, largest_both, length_among, fit_few, held_fit}
use Rattle.rules.proofs.laws.repair.Having.{others_have, site_has}
use Rattle.rules.proofs.laws.repair.Runs.{accept_all, repairs_leave}
use Rattle.rules.proofs.laws.repair.Tables.{one_table, taken_of, taken_where_it_fits}
use Rattle.rules.proofs.laws.repair.Orders.{own_holds, same_state, same_words, holds_what_came}

-- ---- steps one after the other are a list of events
ran_taking : (run : Run) (steps : List Step) (s : State) → ran run s (taking steps) ≡ after_all run s steps
unfolding ran taking after_all after_event outcome refusal_for after
ran_taking run [] s = refl
ran_taking run (step ∷ steps) s = ran_taking run steps (after run s step)

-- and give to a site what it absorbs by them
pub given_absorbed : (run : Run) (steps : List Step) (s : State) (k : ℕ) → absorbed run s k (taking steps) ≡ given_by run s k steps
unfolding absorbed absorbed_in taking given_by given_in after_event outcome refusal_for after
given_absorbed run [] s k = refl
given_absorbed run (step ∷ steps) s k = ap (λ (rest : List _). given_in run s k step ++ rest) (given_absorbed run steps (after run s step) k)

-- ---- the merges of a round, as repairs
abbrev gathers : ℕ → ℕ → List Repair
gathers k n = in_turn (λ (j : ℕ). merging j 0) k n

abbrev hands : ℕ → ℕ → List Repair
hands k n = in_turn (λ (j : ℕ). merging 0 j) k n

abbrev repairs_of : Run → List Repair
repairs_of run = gathers 1 (run.sites - 1) ++ hands 1 (run.sites - 1)

-- they are those steps
as_steps : (f t : ℕ → ℕ) (k n : ℕ) → operations (in_turn (λ (j : ℕ). merging (f j) (t j)) k n) ≡ taking (in_turn (λ (j : ℕ). Merge (f j) (t j)) k n)
unfolding in_turn operations taking
as_steps f t k zero = refl
as_steps f t k (suc n) = ap (λ (rest : List Event). takes (Merge (f k) (t k)) ∷ rest) (as_steps f t (suc k) n)

operations_both : (xs ys : List Repair) → operations (xs ++ ys) ≡ operations xs ++ operations ys
unfolding operations
operations_both [] ys = refl
operations_both (r ∷ xs) ys = ap (λ (rest : List Event). operations (r ∷ []) ++ rest) (operations_both xs ys)

taking_both : (xs ys : List Step) → taking (xs ++ ys) ≡ taking xs ++ taking ys
unfolding taking
taking_both [] ys = refl
taking_both (step ∷ xs) ys = ap (λ (rest : List Event). takes step ∷ rest) (taking_both xs ys)

round_operations : (run : Run) → operations (repairs_of run) ≡ taking (round_merges run)
unfolding round_merges
round_operations run =
    operations_both (gathers 1 (run.sites - 1)) (hands 1 (run.sites - 1))
    ∙ (rw (as_steps (λ j. j) (λ j. 0) 1 (run.sites - 1), as_steps (λ j. 0) (λ j. j) 1 (run.sites - 1))
    (sym (taking_both (in_turn (λ (j : ℕ). Merge j 0) 1 (run.sites - 1)) (in_turn (λ (j : ℕ). Merge 0 j) 1 (run.sites - 1)))))

-- "2 × (sites − 1) merges"
in_turn_many : {A : Type 0} (of : ℕ → A) (k n : ℕ) → length (in_turn of k n) ≡ n
unfolding in_turn
in_turn_many of k zero = refl
in_turn_many of k (suc n) = ap suc (in_turn_many of (suc k) n)

pub round_many : (run : Run) → length (round_merges run) ≡ 2 * (run.sites - 1)
unfolding round_merges
round_many run = simp length-append
    (omega (arith, in_turn_many (λ (j : ℕ). Merge j 0) 1 (run.sites - 1), in_turn_many (λ (j : ℕ). Merge 0 j) 1 (run.sites - 1)))

-- nothing but lack of room could refuse them
proper_both : (run : Run) (xs ys : List Repair) → are_proper run xs ≡ true → are_proper run ys ≡ true → are_proper run (xs ++ ys) ≡ true
unfolding are_proper
proper_both run [] ys p q = q
proper_both run (r ∷ xs) ys p q =
    let a = parts (is_proper run r) _ p in
    rw a.0 (proper_both run xs ys a.1 q)

gathers_proper : (run : Run) (k n : ℕ) → 1 ≤ k → k + n ≤ run.sites → are_proper run (gathers k n) ≡ true
unfolding in_turn are_proper is_proper
gathers_proper run k zero p q = refl
gathers_proper run k (suc n) p q =
    rw (lt-ltb k run.sites (omega arith), lt-ltb 0 run.sites (omega arith), ne_eqb k 0 (omega arith)) (gathers_proper run (suc k) n (omega arith) (omega arith))

hands_proper : (run : Run) (k n : ℕ) → 1 ≤ k → k + n ≤ run.sites → are_proper run (hands k n) ≡ true
unfolding in_turn are_proper is_proper
hands_proper run k zero p q = refl
hands_proper run k (suc n) p q =
    rw (lt-ltb k run.sites (omega arith), lt-ltb 0 run.sites (omega arith), ne_eqb 0 k (omega arith)) (hands_proper run (suc k) n (omega arith) (omega arith))

-- ---- what comes to each site by them
-- gathering brings site 0 the tables of the others
gathers_at_0 : (k n : ℕ) → all_at 0 (gathers k n) ≡ true
unfolding in_turn all_at
gathers_at_0 k zero = refl
gathers_at_0 k (suc n) = gathers_at_0 (suc k) n

gathers_bring : (run : Run) (s : State) (k n : ℕ) → all_brought (own_table run s) (gathers k n) ≡ in_turn (table_at run s.words) k n
unfolding in_turn all_brought
gathers_bring run s k zero = refl
gathers_bring run s k (suc n) = ap (λ (rest : List (List ℕ)). table_at run s.words k ∷ rest) (gathers_bring run s (suc k) n)

-- handing out brings each other site what site 0 has
hands_leave : (k n : ℕ) (has : ℕ → List (List ℕ)) (j : ℕ) → j < k → has_after has (hands k n) j ≡ has j
unfolding in_turn has_after
hands_leave k zero has j l = refl
hands_leave k (suc n) has j l = hands_leave (suc k) n (having has (merging 0 k)) j (omega arith) ∙ (rw (ne_eqb k j (omega arith)))

hands_first : (k n : ℕ) (has : ℕ → List (List ℕ)) → has_after has (hands k (suc n)) k ≡ has k ++ has 0
unfolding in_turn has_after
hands_first k n has = hands_leave (suc k) n (having has (merging 0 k)) k (omega arith) ∙ (rw (eq-eqb k k refl))

hands_later : (k n : ℕ) (has : ℕ → List (List ℕ)) (j : ℕ) → has_after has (hands k (suc n)) j ≡ has_after (having has (merging 0 k)) (hands (suc k) n) j
unfolding in_turn has_after
hands_later k n has j = refl

hands_bring : (k n : ℕ) (has : ℕ → List (List ℕ)) (j : ℕ) → 1 ≤ k → k ≤ j → j < k + n → has_after has (hands k n) j ≡ has j ++ has 0
hands_bring k zero has j p q r = absurd (omega arith)
hands_bring k (suc n) has j p q r = go (side j k) (hands_bring (suc k) n (having has (merging 0 k)) j)
  where
    go : Side j k → (1 ≤ suc k → suc k ≤ j → j < suc k + n → has_after (having has (merging 0 k)) (hands (suc k) n) j ≡ having has (merging 0 k) j ++ having has (merging 0 k) 0)
        → has_after has (hands k (suc n)) j ≡ has j ++ has 0
    go (below l) rest = absurd (omega arith)
    go (same e) rest = rw e (hands_first k n has)
    go (above l) rest = hands_later k n has j ∙ rest (omega arith) (omega arith) (omega arith) ∙ (rw (ne_eqb k j (omega arith), ne_eqb k 0 (omega arith)))

-- one list of repairs and then another
after_both : (xs ys : List Repair) (has : ℕ → List (List ℕ)) (k : ℕ) → has_after has (xs ++ ys) k ≡ has_after (has_after has xs) ys k
unfolding has_after
after_both [] ys has k = refl
after_both (r ∷ xs) ys has k = after_both xs ys (having has r) k

-- ---- "Parcels under way and the ledger are untouched", whether it is taken or refused
pub round_leaves : (run : Run) (s : State) → ((after_event run s round).slots ≡ s.slots) × ((after_event run s round).ledger ≡ s.ledger)
unfolding outcome
round_leaves run s = event_keeps run s round (λ u. (u.slots ≡ s.slots) × (u.ledger ≡ s.ledger)) (refl, refl) (λ _. (refl, refl))

-- ---- in a sound state
one_at_least : (run : Run) (words slots : ℕ) → sizes_right run words slots ≡ true → 1 ≤ run.sites
unfolding sizes_right
one_at_least run words slots h = leb-true _ _ (parts (leb 1 run.sites) _ h).0

-- the tables are that of site 0 and those of the others
pub tables_split : (run : Run) (ws : List ℕ) → 1 ≤ run.sites → all_tables run ws ≡ table_at run ws 0 ∷ in_turn (table_at run ws) 1 (run.sites - 1)
unfolding in_turn
tables_split run ws some =
    let more : run.sites ≡ suc (run.sites - 1) = omega arith in
    ap (in_turn (table_at run ws) 0) more

module _ (run : Run) (s : State) (so : StateSound run s) where
  abbrev tables : List (List ℕ)
  tables = all_tables run s.words

  -- the largest length that any of them has for an id
  abbrev all : ℕ → ℕ
  all = largest (entries_of_all tables)

  pub some_site : 0 < run.sites
  some_site = one_at_least run _ _ so.0

  proper : are_proper run (repairs_of run) ≡ true
  proper = proper_both run (gathers 1 (run.sites - 1)) (hands 1 (run.sites - 1))
      (gathers_proper run 1 (run.sites - 1) (omega arith) (omega (arith, some_site))) (hands_proper run 1 (run.sites - 1) (omega arith) (omega (arith, some_site)))

  -- gathered, site 0 has the tables of all, and every other its own
  came_to_0 : has_after (own_table run s) (gathers 1 (run.sites - 1)) 0 ≡ tables
  came_to_0 =
      site_has run 0 (gathers 1 (run.sites - 1)) (own_table run s) (gathers_at_0 1 (run.sites - 1)) (gathers_proper run 1 (run.sites - 1) (omega arith) (omega (arith, some_site)))
      ∙ (rw (gathers_bring run s 1 (run.sites - 1)) (sym (tables_split run s.words some_site)))

  came_to_other : (k : ℕ) → has_after (own_table run s) (gathers 1 (run.sites - 1)) (suc k) ≡ own_table run s (suc k)
  came_to_other k = others_have run 0 (gathers 1 (run.sites - 1)) (own_table run s) (gathers_at_0 1 (run.sites - 1)) (suc k) (λ z. omega arith)

  -- so the largest of all lengths comes to each site
  came : (k : ℕ) → k < run.sites → (x : ℕ) → largest (entries_of_all (came_to run s (repairs_of run) k)) x ≡ all x
  came zero l x = rw (
    after_both (gathers 1 (run.sites - 1)) (hands 1 (run.sites - 1)) (own_table run s) 0,
    hands_leave 1 (run.sites - 1) (has_after (own_table run s) (gathers 1 (run.sites - 1))) 0 (omega arith),
    came_to_0,
  )
  came (suc k) l x = rw (
    after_both (gathers 1 (run.sites - 1)) (hands 1 (run.sites - 1)) (own_table run s) (suc k),
    hands_bring 1 (run.sites - 1) (has_after (own_table run s) (gathers 1 (run.sites - 1))) (suc k) (omega arith) (omega arith) (omega arith),
    came_to_0,
    came_to_other k,
  ) (omega (arith, largest_both (own_table run s (suc k)) tables x, own_holds run s so (suc k) l x, held_bounded run s so (suc k) l x))

  -- ---- its merges are accepted exactly where the ids of all tables fit one together
  repairs_accepted : all_accepted run s (operations (repairs_of run)) ≡ fit_together run.capacity tables
  repairs_accepted = both_ways (all_accepted run s (operations (repairs_of run))) (fit_together run.capacity tables)
      (λ accepts.
      let u = ran run s (operations (repairs_of run)) in
      let su = ran_sound run s (operations (repairs_of run)) so in
      held_fit run.capacity tables (table_at run u.words 0) (tables_sound_law run s so) (site_length run u su 0 some_site, site_sound run u su 0 some_site)
      (λ x. holds_what_came run s so (repairs_of run) proper accepts 0 some_site x ∙ came 0 some_site x))
      (λ fit. accept_all run (λ k. ids_of_all tables) (λ k l. fit_few run.capacity tables fit) (repairs_of run) s (own_table run s) so (own_holds run s so) proper
      (λ k l x few. length_among tables (tables_sound_law run s so) x (rw (came k l x) at few)))

  pub merges_accepted : all_accepted run s (taking (round_merges run)) ≡ fit_together run.capacity tables
  merges_accepted = rw (round_operations run) at repairs_accepted

  -- and so is the round: "Otherwise it is refused with 8"
  pub round_refused : refusal_for run s round ≡ cond (fit_together run.capacity tables) 0 8
  unfolding first_given
  round_refused = round_own run s so ∙ go (fit_together run.capacity tables)
    where
      go : (b : Bool) → ◌≡◌ {A = ℕ} (cond (not b) 8 0) (cond b 0 8)
      go true = refl
      go false = refl

  -- ---- where they fit
  module _ (fit : fit_together run.capacity tables ≡ true) where
    pub taken_accepted : refusal_for run s round ≡ 0
    taken_accepted = rw (round_refused, fit)

    -- the words are those after the merges
    words_merged : (after_event run s round).words ≡ (ran run s (operations (repairs_of run))).words
    unfolding outcome
    words_merged = rw (accepted_event_moves run s round taken_accepted, round_operations run, ran_taking run (round_merges run) s)

    -- "each length being the largest any site held before"
    holds_all : (k : ℕ) → k < run.sites → (x : ℕ) → length_in run (after_event run s round) k x ≡ all x
    holds_all k l x = rw words_merged (holds_what_came run s so (repairs_of run) proper (repairs_accepted ∙ fit) k l x ∙ came k l x)

    after_sound : StateSound run (after_event run s round)
    after_sound = event_sound run s round so

    -- the table of any site is what site 0 comes to by taking in the others
    pub table_after : (k : ℕ) → k < run.sites → table_at run (after_event run s round).words k ≡ taken_in (table_at run s.words 0) (in_turn (table_at run s.words) 1 (run.sites - 1))
    table_after k l =
        let t = table_at run s.words 0 in
        let others = in_turn (table_at run s.words) 1 (run.sites - 1) in
        let own : TableOf run.capacity t = (site_length run s so 0 some_site, site_sound run s so 0 some_site) in
        let fine : are_sound others ≡ true = all_are_sound (table_at run s.words) 1 (run.sites - 1) (λ j p q. site_sound run s so j (omega (arith, some_site))) in
        let fits : all_taken t others ≡ true = taken_where_it_fits run.capacity t others own fine ∙ (rw (← tables_split run s.words some_site) fit) in
        let end = taken_of run.capacity others fine t own fits in
        one_table run.capacity _ _ (site_length run _ after_sound k l, site_sound run _ after_sound k l) end.0
        (λ x. holds_all k l x ∙ (rw (tables_split run s.words some_site) (largest_first t others own.1 x)) ∙ sym (end.1 x))

  -- ---- where all tables are equal already they fit, and nothing changes
  module _ (level : (k : ℕ) → k < run.sites → table_at run s.words k ≡ table_at run s.words 0) where
    all_first : (x : ℕ) → all x ≡ length_in run s 0 x
    all_first x =
        let most = all_below (table_at run s.words) 0 run.sites (λ j p q. site_sound run s so j (omega arith)) x (length_in run s 0 x)
        (λ j p q. rw (level j (omega arith)) (le_refl _)) in
        omega (arith, most, held_bounded run s so 0 some_site x)

    pub level_fits : fit_together run.capacity tables ≡ true
    level_fits = held_fit run.capacity tables (table_at run s.words 0) (tables_sound_law run s so) (site_length run s so 0 some_site, site_sound run s so 0 some_site) (λ x. sym (all_first x))

    pub level_stays : after_event run s round ≡ s
    level_stays =
        let words = same_words run (after_event run s round) s (after_sound level_fits) so (λ k l x. holds_all level_fits k l x ∙ all_first x ∙ (rw (level k l))) in
        let left = round_leaves run s in
        same_state _ _ words left.0 left.1

-- ---- an accepted round
module _ (run : Run) (s : State) (ok : refusal_for run s round ≡ 0) where
  sound_before : StateSound run s
  sound_before = round_in_sound run s ok

  -- was let through by its own test
  pub fitted : fit_together run.capacity (all_tables run s.words) ≡ true
  fitted = not-false _ (pass 7 _ _ (sym (round_own run s sound_before) ∙ ok)).0

  -- "each length being the largest any site held before"
  pub holds_largest : (k : ℕ) → k < run.sites → (e : ℕ) → length_in run (after_event run s round) k e ≡ largest_of (in_turn (λ (j : ℕ). length_in run s j e) 0 run.sites)
  holds_largest k l e = holds_all run s sound_before fitted k l e ∙ all_largest (table_at run s.words) 0 run.sites (λ j p q. site_sound run s sound_before j (omega arith)) e

  -- "all tables are equal"
  pub tables_equal : (j k : ℕ) → j < run.sites → k < run.sites → table_at run (after_event run s round).words j ≡ table_at run (after_event run s round).words k
  tables_equal j k p q = table_after run s sound_before fitted j p ∙ sym (table_after run s sound_before fitted k q)

  -- what it leaves is the state after its merges, and none of them is refused
  pub is_its_merges : length s.ledger.pairs ≡ 256 → (all_accepted run s (taking (round_merges run)) ≡ true) × (after_event run s round ≡ ran run s (taking (round_merges run)))
  is_its_merges whole =
      let left = repairs_leave run (repairs_of run) s whole in
      let kept = round_leaves run s in
      (merges_accepted run s sound_before ∙ fitted, rw (← round_operations run) (same_state _ _ (words_merged run s sound_before fitted) (kept.0 ∙ sym left.0) (kept.1 ∙ sym left.1)))

  -- a site absorbs by it what it absorbs by the merges
  pub absorbs_its_merges : (k : ℕ) → absorbed_in run s k round ≡ absorbed run s k (taking (round_merges run))
  unfolding absorbed_in outcome
  absorbs_its_merges k = rw ok (sym (given_absorbed run (round_merges run) s k))

  -- a second round is accepted too, and changes nothing
  pub second_stays : (refusal_for run (after_event run s round) round ≡ 0) × (after_event run (after_event run s round) round ≡ after_event run s round)
  second_stays =
      let left = after_event run s round in
      let so = event_sound run s round sound_before in
      let level : (k : ℕ) → k < run.sites → table_at run left.words k ≡ table_at run left.words 0 = λ k l. tables_equal k 0 l (some_site run s sound_before) in
      (taken_accepted run left so (level_fits run left so level), level_stays run left so level)
