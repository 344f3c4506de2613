-- Two lists of repairs from one state: where what comes to each site fits it, and is the same set of entries by either list, they leave one state.
-- Assumes nothing.
use Rattle.std.specs.Prelude.{ℕ, zero, suc, ◌<◌, Bool, ◌≡◌, refl, length}
use Rattle.std.proofs.Common.{arith, sym, ◌∙◌}
use Rattle.std.proofs.Math.Bool.{true, false}
use mathlib.Core.List.{List, [], ◌++◌}
use Rattle.std.proofs.Math.Dec.{eqb}
use borrow.Author.Tests.{eqb-true, eqb-false}
use Rattle.rules.specs.declared.Run.{Run}
use Rattle.rules.specs.meaning.Lengths.{M}
use Rattle.rules.specs.meaning.States.{State, StateSound, lent, width, table_at}
use Rattle.rules.specs.meaning.Ids.{ids_of_all, fit_together}
use Rattle.rules.specs.meaning.Histories.{ran, length_in, largest, same_pairs}
use Rattle.rules.specs.meaning.Repairs.{are_sound, entries_of_all, Repair, are_proper, all_at, operations, all_accepted, at_each, own_table, named, came_to, fit_everywhere, same_everywhere, OneEnd}
use Rattle.rules.proofs.laws.Bits.{both_ways}
use Rattle.rules.proofs.laws.table.Order.{Side, Side.below, Side.same, Side.above, side}
use Rattle.rules.proofs.laws.table.View.{parts}
use Rattle.rules.proofs.laws.table.Law.{law}
use Rattle.rules.proofs.laws.run.Sites.{words_by}
use Rattle.rules.proofs.laws.run.Tables.{words_long, site_sound, site_length}
use Rattle.rules.proofs.laws.history.Counting.{ran_sound}
use Rattle.rules.proofs.laws.history.Pairs.{same_largest}
use Rattle.rules.proofs.laws.repair.Fits.{largest_first, largest_both, length_among, fit_few, held_fit}
use Rattle.rules.proofs.laws.repair.Having.{after_sound, others_have, site_has}
use Rattle.rules.proofs.laws.repair.Runs.{Holds, accepted_holds, accept_all, repairs_leave}

-- ---- a test of each site
at_each_law : (test : ℕ → Bool) (n : ℕ) → at_each test n ≡ true → (k : ℕ) → k < n → test k ≡ true
unfolding at_each
at_each_law test zero h k l = absurd (omega arith)
at_each_law test (suc n) h k l = go (side k n) (parts (test n) _ h).0 (at_each_law test n (parts (test n) _ h).1 k)
  where
    go : Side k n → test n ≡ true → (k < n → test k ≡ true) → test k ≡ true
    go (below p) last ih = ih p
    go (same p) last ih = rw p last
    go (above p) last ih = absurd (omega arith)

each_at : (test : ℕ → Bool) (n : ℕ) → ((k : ℕ) → k < n → test k ≡ true) → at_each test n ≡ true
unfolding at_each
each_at test zero each = refl
each_at test (suc n) each = rw (each n (omega arith)) (each_at test n (λ k l. each k (omega arith)))

-- ---- a state is known by its three things, and its words by the lengths at each site
pub same_state : (u v : State) → u.words ≡ v.words → u.slots ≡ v.slots → u.ledger ≡ v.ledger → u ≡ v
same_state u v p q r =
    let parted : lent u.words u.slots u.ledger ≡ lent v.words v.slots v.ledger = rw (p, q, r) in
    parted

pub same_words : (run : Run) (u v : State) → StateSound run u → StateSound run v → ((k : ℕ) → k < run.sites → (x : ℕ) → length_in run u k x ≡ length_in run v k x) → u.words ≡ v.words
unfolding table_at
same_words run u v su sv agree = words_by (width run) run.sites u.words v.words (words_long run _ _ su.0) (words_long run _ _ sv.0)
    (λ k l. law M (site_sound run u su k l) (site_sound run v sv k l) (site_length run u su k l ∙ sym (site_length run v sv k l)) (agree k l))

-- ---- repairs of any sites
module _ (run : Run) (s : State) (so : StateSound run s) where
  pub own_holds : Holds run s (own_table run s)
  unfolding entries_of_all largest
  own_holds k l x = omega (arith, largest_first (table_at run s.words k) [] (site_sound run s so k l) x)

  own_sound : (k : ℕ) → k < run.sites → are_sound (own_table run s k) ≡ true
  unfolding are_sound
  own_sound k l = rw (site_sound run s so k l)

  module _ (xs : List Repair) (proper : are_proper run xs ≡ true) where
    came_sound : (k : ℕ) → k < run.sites → are_sound (came_to run s xs k) ≡ true
    came_sound = after_sound run xs (own_table run s) proper own_sound

    -- accepted, each site ends with the largest of the lengths that came to it
    pub holds_what_came : all_accepted run s (operations xs) ≡ true → Holds run (ran run s (operations xs)) (came_to run s xs)
    holds_what_came = accepted_holds run xs s (own_table run s) so own_holds proper

    -- so where the sites of any sound state hold that, there is room for it
    held_everywhere : (u : State) → StateSound run u → Holds run u (came_to run s xs) → fit_everywhere run s xs ≡ true
    unfolding fit_everywhere
    held_everywhere u su holds = each_at _ run.sites
        (λ k l. held_fit run.capacity (came_to run s xs k) (table_at run u.words k) (came_sound k l) (site_length run u su k l, site_sound run u su k l) (holds k l))

    -- they are all accepted exactly where what comes to each site fits it
    pub accepted_where_it_fits : all_accepted run s (operations xs) ≡ fit_everywhere run s xs
    unfolding fit_everywhere
    accepted_where_it_fits = both_ways (all_accepted run s (operations xs)) (fit_everywhere run s xs)
        (λ accepts. held_everywhere (ran run s (operations xs)) (ran_sound run s (operations xs) so) (holds_what_came accepts))
        (λ fit. accept_all run (λ k. ids_of_all (came_to run s xs k)) (λ k l. fit_few run.capacity (came_to run s xs k) (at_each_law _ run.sites fit k l)) xs s (own_table run s) so own_holds proper
        (λ k l. length_among (came_to run s xs k) (came_sound k l)))

  -- two lists of them: where the one fits, and the same largest lengths come to each site by the other, both are accepted, and leave one state
  module _ (whole : length s.ledger.pairs ≡ 256) (xs ys : List Repair) (proper : are_proper run xs ≡ true) (proper' : are_proper run ys ≡ true) (fit : fit_everywhere run s xs ≡ true) where
    same_end : ((k : ℕ) → k < run.sites → (x : ℕ) → largest (entries_of_all (came_to run s xs k)) x ≡ largest (entries_of_all (came_to run s ys k)) x)
        → OneEnd run s xs ys
    same_end agree =
        let accepts = accepted_where_it_fits xs proper ∙ fit in
        let one = holds_what_came xs proper accepts in
        let so' = ran_sound run s (operations xs) so in
        let accepts' = accepted_where_it_fits ys proper' ∙ held_everywhere ys proper' (ran run s (operations xs)) so' (λ k l x. one k l x ∙ agree k l x) in
        let other = holds_what_came ys proper' accepts' in
        let left = repairs_leave run xs s whole in
        let left' = repairs_leave run ys s whole in
        let words = same_words run _ _ so' (ran_sound run s (operations ys) so) (λ k l x. one k l x ∙ agree k l x ∙ sym (other k l x)) in
        (accepts, accepts', same_state _ _ words (left.0 ∙ sym left'.0) (left.1 ∙ sym left'.1))

    pub any_order_everywhere : same_everywhere run s xs ys ≡ true
        → OneEnd run s xs ys
    unfolding same_everywhere
    any_order_everywhere alike = same_end (λ k l x. same_largest _ _ (at_each_law _ run.sites alike k l) x)

-- ---- repairs of one site: it has its own table and all that is named, and every other site has its own table
module _ (run : Run) (s : State) (so : StateSound run s) (k : ℕ) where
  -- so where those fit, what comes to each site fits it
  site_fits : (xs : List Repair) → are_proper run xs ≡ true → all_at k xs ≡ true → fit_together run.capacity (own_table run s k ++ named run s xs) ≡ true → fit_everywhere run s xs ≡ true
  unfolding fit_everywhere
  site_fits xs proper of fit = each_at _ run.sites (λ j l. go j l (eqb k j) refl)
    where
      go : (j : ℕ) → j < run.sites → (b : Bool) → eqb k j ≡ b → fit_together run.capacity (came_to run s xs j) ≡ true
      go j l true q = rw (← eqb-true k j q, site_has run k xs (own_table run s) of proper) fit
      go j l false q = rw (others_have run k xs (own_table run s) of j (eqb-false k j q))
          (held_fit run.capacity (own_table run s j) (table_at run s.words j) (own_sound run s so j l) (site_length run s so j l, site_sound run s so j l) (own_holds run s so j l))

  module _ (whole : length s.ledger.pairs ≡ 256) (xs ys : List Repair) (proper : are_proper run xs ≡ true) (proper' : are_proper run ys ≡ true) (of : all_at k xs ≡ true) (of' : all_at k ys ≡ true) where
    pub any_order_at_a_site : fit_together run.capacity (own_table run s k ++ named run s xs) ≡ true → same_pairs (entries_of_all (named run s xs)) (entries_of_all (named run s ys)) ≡ true
        → OneEnd run s xs ys
    any_order_at_a_site fit alike = same_end run s so whole xs ys proper proper' (site_fits xs proper of fit) (λ j l x. go j x (eqb k j) refl)
      where
        go : (j x : ℕ) (b : Bool) → eqb k j ≡ b → largest (entries_of_all (came_to run s xs j)) x ≡ largest (entries_of_all (came_to run s ys j)) x
        go j x true q = rw (← eqb-true k j q, site_has run k xs (own_table run s) of proper, site_has run k ys (own_table run s) of' proper')
            (omega (arith, largest_both (own_table run s k) (named run s xs) x, largest_both (own_table run s k) (named run s ys) x, same_largest _ _ alike x))
        go j x false q = rw (others_have run k xs (own_table run s) of j (eqb-false k j q), others_have run k ys (own_table run s) of' j (eqb-false k j q))
