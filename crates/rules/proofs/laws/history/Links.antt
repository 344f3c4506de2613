-- The links of a run, over a list of events: the next serial is the first one and one more for each accepted send, wrapped; what went out are the serials
-- from the first on; and the newest heard is one of them.
-- Assumes nothing.
use Prim.Native.Nat.{ℕ, zero, suc, ◌+◌, ◌%◌, ◌<◌, ◌≤◌}
use native.Mathlib.Omega.{arith}
use Rattle.std.specs.Prelude.{Bool, ◌&&◌, not, ◌≡◌, length, get_or, set, ltb}
use Rattle.std.proofs.Math.Bool.{true, false, cond}
use Rattle.std.proofs.lemmas.Bool.{false≢true}
use Rattle.std.proofs.Math.Path.{refl, ap}
use Rattle.std.proofs.Common.{sym, subst, ◌∙◌, length-set, get_or-set_same, get_or-set_other}
use mathlib.Core.List.{List, [], ◌∷◌, ◌++◌, append_assoc, append-nil}
use Rattle.std.proofs.Math.Dec.{eqb}
use borrow.Author.Tests.{eq-eqb, ne_eqb, ltb-true, eqb-true, eqb-false}
use Rattle.rules.specs.declared.Run.{Run}
use Rattle.rules.specs.declared.Parcel.{Parcel}
use Rattle.rules.specs.declared.Pair.{Pair}
use Rattle.rules.specs.declared.Ledger.{Ledger}
use Rattle.rules.specs.declared.Step.{Step}
use Rattle.rules.specs.meaning.Serials.{serials, largest_serial, next_serial}
use Rattle.rules.specs.meaning.Parcels.{no_parcel}
use Rattle.rules.specs.meaning.Links.{place, no_link, no_pair, linked, link_between, stands, start_pair, sent_pair, moves_on, heard_pair}
use Rattle.rules.specs.meaning.Kinds.{numbers, is_send, is_again, is_deliver, slot_of, link_of}
use Rattle.rules.specs.meaning.States.{State, lent, parcel_at}
use Rattle.rules.specs.meaning.Runs.{moved, fresh_refusal, after_fresh, effect_of}
use Rattle.rules.specs.meaning.Events.{Event, takes, step_in, after_event}
use Rattle.rules.specs.meaning.Ids.{among}
use Rattle.rules.specs.meaning.Histories.{ran, is_accepted, is_of, accepted_of, pair_in, is_send_on, serial_put, sent_on, serials_from}
use Rattle.rules.proofs.laws.table.View.{parts}
use Rattle.rules.proofs.laws.run.Links.{link_of_law, place_one, begun_link, begun_length}
use Rattle.rules.proofs.laws.run.Owed.{named, link_pair, pair_after, parcel_after}
use Rattle.rules.proofs.laws.run.Rows.{owed}
use Rattle.rules.proofs.laws.run.Happens.{by_acceptance, by_event}
use Rattle.rules.proofs.laws.history.Distinct.{among_left, among_right}
use Rattle.rules.proofs.laws.history.Climbing.{among_same}
use Rattle.rules.proofs.laws.run.Tables.{few_sites}
use Rattle.rules.proofs.laws.run.Slots.{cleared_at}
use Rattle.rules.proofs.laws.run.Sound.{fresh_sizes}
use Rattle.rules.proofs.laws.history.Counting.{ran_keeps}

-- ---- which link a step names
-- two sites whose link lies at the place of a link are its sites
link_named : (sites f t a b : ℕ) → a < 16 → b < 16 → link_between sites f t ≡ place a b → (f ≡ a) × (t ≡ b)
unfolding link_between
link_named sites f t a b la lb = go (ltb f (linked sites)) refl (ltb t (linked sites)) refl (eqb f t)
  where
    none : no_link ≡ place a b → (f ≡ a) × (t ≡ b)
    none e = absurd (omega (arith, la, lb, e))

    go : (p : Bool) → ltb f (linked sites) ≡ p → (q : Bool) → ltb t (linked sites) ≡ q → (r : Bool) → cond (p && (q && not r)) (place f t) no_link ≡ place a b → (f ≡ a) × (t ≡ b)
    go true p true q false = λ e. place_one f t a b (omega (arith, ltb-true t (linked sites) q)) lb e
    go true p true q true = none
    go true p false q r = none
    go false p q e r = none

-- what a delivery leaves alone
heard_next : (serial : ℕ) (p : Pair) → ((heard_pair serial p).next ≡ p.next) × ((heard_pair serial p).unsent ≡ p.unsent)
unfolding heard_pair
heard_next serial p = go (moves_on serial p)
  where
    go : (t : Bool) → ((cond t (record { next = p.next; heard = serial; unsent = p.unsent; unheard = 0 }) p).next ≡ p.next)
        × ((cond t (record { next = p.next; heard = serial; unsent = p.unsent; unheard = 0 }) p).unsent ≡ p.unsent)
    go true = (refl, refl)
    go false = (refl, refl)

-- what holds of a parcel that is stored, and of what stood in a slot, holds of what then stands there
set_read : (P : Parcel → Type 0) (ss : List Parcel) (j i : ℕ) (p : Parcel) → P p → P (get_or ss i no_parcel) → P (get_or (set ss j p) i no_parcel)
set_read P [] j i p new old = old
set_read P (x ∷ xs) zero zero p new old = new
set_read P (x ∷ xs) zero (suc i) p new old = old
set_read P (x ∷ xs) (suc j) zero p new old = old
set_read P (x ∷ xs) (suc j) (suc i) p new old = set_read P xs j i p new old

-- the ledger keeps its number of entries
pub entries_stay : (run : Run) (s : State) (event : Event) → length (after_event run s event).ledger.pairs ≡ length s.ledger.pairs
entries_stay run s = by_event run s is_send (λ t n ss l. length l.pairs ≡ length s.ledger.pairs)
    (λ step. by_acceptance run s step (λ t u. length u.ledger.pairs ≡ length s.ledger.pairs) (λ a. length-set s.ledger.pairs (effect_of run s step).post.link (effect_of run s step).post.pair) refl) refl

pub ran_entries_stay : (run : Run) (s : State) (events : List Event) → length (ran run s events).ledger.pairs ≡ length s.ledger.pairs
ran_entries_stay run s events = ran_keeps run (λ u. length u.ledger.pairs ≡ length s.ledger.pairs) (λ u event h. entries_stay run u event ∙ h) s events refl

pub fresh_entries_stay : (run : Run) (first : ℕ) (s : State) → fresh_refusal run (length s.words) (length s.slots) ≡ 0 → length (after_fresh run first s).ledger.pairs ≡ length s.ledger.pairs
unfolding after_fresh
fresh_entries_stay run first s fresh = rw fresh (begun_length run.sites first s.ledger.pairs)

-- ---- one link of a run
module _ (run : Run) (few : run.sites ≤ 16) (a b : ℕ) (la : a < run.sites) (lb : b < run.sites) (d : a ≡ b → ⊥) where
  abbrev named_link : State → Step → ℕ
  named_link s step = link_of run.sites (named s step) step

  -- what an accepted step makes of its entry: a send on the link takes the next serial, a delivery on it is heard, any other step leaves it
  data Touch (s : State) (step : Step) : Type 0 where
    sends : is_send_on a b step ≡ true → pair_in (moved run s step) a b ≡ sent_pair (pair_in s a b) → (effect_of run s step).post.parcel.serial ≡ (pair_in s a b).next → Touch s step
    hears : is_send_on a b step ≡ false → (named s step).sender ≡ a → (named s step).site ≡ b → pair_in (moved run s step) a b ≡ heard_pair (named s step).serial (pair_in s a b) → Touch s step
    leaves : is_send_on a b step ≡ false → pair_in (moved run s step) a b ≡ pair_in s a b → Touch s step

  module _ (s : State) (whole : length s.ledger.pairs ≡ 256) (step : Step) where
    moved_pair : pair_in (moved run s step) a b
        ≡ get_or (set s.ledger.pairs (named_link s step) (pair_after step (named s step).serial (link_pair run s step))) (place a b) no_pair
    moved_pair = rw ((owed run s step).parcels.link, (owed run s step).parcels.pair)

    here : named_link s step ≡ place a b → pair_in (moved run s step) a b ≡ pair_after step (named s step).serial (pair_in s a b)
    here e = moved_pair ∙ (rw e (get_or-set_same s.ledger.pairs (place a b) (pair_after step (named s step).serial (pair_in s a b)) no_pair (omega (arith, whole, few, la, lb))))

    elsewhere : (named_link s step ≡ place a b → ⊥) → pair_in (moved run s step) a b ≡ pair_in s a b
    elsewhere ne = moved_pair ∙ get_or-set_other s.ledger.pairs (named_link s step) (place a b) _ no_pair (λ e. ne (sym e))

    on_send : is_send step ≡ true → named_link s step ≡ place a b → is_send_on a b step ≡ true
    unfolding link_of
    on_send h e =
        let n = link_named run.sites (numbers step).first (numbers step).second a b (omega (arith, few, la)) (omega (arith, few, lb)) (rw h at e) in
        rw (h, eq-eqb _ a n.0, eq-eqb _ b n.1)

    off_send : (named_link s step ≡ place a b → ⊥) → is_send_on a b step ≡ false
    unfolding link_of
    off_send ne = go (is_send step) refl (eqb (numbers step).first a) refl (eqb (numbers step).second b) refl
      where
        go : (p : Bool) → is_send step ≡ p → (q : Bool) → eqb (numbers step).first a ≡ q → (r : Bool) → eqb (numbers step).second b ≡ r → p && (q && r) ≡ false
        go true p true q true r = absurd (ne (rw (p, eqb-true _ a q, eqb-true _ b r) (link_of_law run.sites a b few la lb d)))
        go true p true q false r = refl
        go true p false q t r = refl
        go false p q e r f = refl

    sent_serial : is_send step ≡ true → (effect_of run s step).post.parcel.serial ≡ (link_pair run s step).next
    sent_serial h = ap (λ p. p.serial) (owed run s step).parcels.parcel ∙ rw h

    touched : Touch s step
    unfolding link_of
    touched = go (eqb (named_link s step) (place a b)) refl (is_send step) refl (is_deliver step) refl
      where
        go : (t : Bool) → eqb (named_link s step) (place a b) ≡ t → (p : Bool) → is_send step ≡ p → (q : Bool) → is_deliver step ≡ q → Touch s step
        go true t true p q r =
            let at = eqb-true (named_link s step) (place a b) t in
            sends (on_send p at) (here at ∙ rw p) (sent_serial p ∙ ap (λ (k : ℕ). (get_or s.ledger.pairs k no_pair).next) at)
        go true t false p true r =
            let at = eqb-true (named_link s step) (place a b) t in
            let n = link_named run.sites (named s step).sender (named s step).site a b (omega (arith, few, la)) (omega (arith, few, lb)) (rw (p, r) at at) in
            hears (rw p) n.0 n.1 (here at ∙ rw (p, r))
        go true t false p false r =
            let e : no_link ≡ place a b = rw (p, r) at (eqb-true (named_link s step) (place a b) t) in
            absurd (omega (arith, few, la, lb, e))
        go false t p q r e = leaves (off_send (eqb-false _ (place a b) t)) (elsewhere (eqb-false _ (place a b) t))

    -- ---- one step
    -- whether the step is an accepted send on the link
    abbrev goes : Bool
    goes = is_accepted run s (takes step) && is_send_on a b step

    -- the next serial is moved on exactly then, and it is the one that goes out
    step_next : (pair_in (after_event run s (takes step)) a b).next ≡ cond goes (next_serial (pair_in s a b).next) (pair_in s a b).next
    step_next = by_acceptance run s step (λ t u. (pair_in u a b).next ≡ cond (t && is_send_on a b step) (next_serial (pair_in s a b).next) (pair_in s a b).next) (λ _. go touched) refl
      where
        go : Touch s step → (pair_in (moved run s step) a b).next ≡ cond (is_send_on a b step) (next_serial (pair_in s a b).next) (pair_in s a b).next
        go (sends on e _) = rw (on, e)
        go (hears off _ _ e) = rw (off, e) (heard_next (named s step).serial (pair_in s a b)).0
        go (leaves off e) = rw (off, e)

    step_serial : goes ≡ true → (effect_of run s step).post.parcel.serial ≡ (pair_in s a b).next
    step_serial h = go touched
      where
        off : is_send_on a b step ≡ false → (effect_of run s step).post.parcel.serial ≡ (pair_in s a b).next
        off e = absurd (false≢true (sym e ∙ (parts (is_accepted run s (takes step)) _ h).1))

        go : Touch s step → (effect_of run s step).post.parcel.serial ≡ (pair_in s a b).next
        go (sends on e n) = n
        go (hears e _ _ _) = off e
        go (leaves e _) = off e

    -- and so is the mark of nothing sent cleared
    step_unsent : (pair_in (after_event run s (takes step)) a b).unsent ≡ cond goes 0 (pair_in s a b).unsent
    step_unsent = by_acceptance run s step (λ t u. (pair_in u a b).unsent ≡ cond (t && is_send_on a b step) 0 (pair_in s a b).unsent) (λ _. go touched) refl
      where
        go : Touch s step → (pair_in (moved run s step) a b).unsent ≡ cond (is_send_on a b step) 0 (pair_in s a b).unsent
        go (sends on e _) = rw (on, e)
        go (hears off _ _ e) = rw (off, e) (heard_next (named s step).serial (pair_in s a b)).1
        go (leaves off e) = rw (off, e)

  -- ---- one event
  module _ (s : State) (whole : length s.ledger.pairs ≡ 256) (event : Event) where
    -- whether it is an accepted send on the link
    abbrev goes_out : Bool
    goes_out = is_accepted run s event && is_of (is_send_on a b) (step_in event)

    abbrev entry : Ledger → Pair
    entry l = get_or l.pairs (place a b) no_pair

    event_next : (pair_in (after_event run s event) a b).next ≡ cond goes_out (next_serial (pair_in s a b).next) (pair_in s a b).next
    event_next = by_event run s (is_send_on a b) (λ t n ss l. (entry l).next ≡ cond t (next_serial (pair_in s a b).next) (pair_in s a b).next) (λ step. step_next s whole step) refl event

    event_serial : goes_out ≡ true → serial_put run s (step_in event) ≡ (pair_in s a b).next
    event_serial = by_event run s (is_send_on a b) (λ t n ss l. t ≡ true → n ≡ (pair_in s a b).next) (λ step. step_serial s whole step) (λ h. absurd (false≢true h)) event

    event_unsent : (pair_in (after_event run s event) a b).unsent ≡ cond goes_out 0 (pair_in s a b).unsent
    event_unsent = by_event run s (is_send_on a b) (λ t n ss l. (entry l).unsent ≡ cond t 0 (pair_in s a b).unsent) (λ step. step_unsent s whole step) refl event

  -- ---- a list of events
  ran_next : (s : State) → length s.ledger.pairs ≡ 256 → (events : List Event) → (pair_in s a b).next ≤ largest_serial
      → (pair_in (ran run s events) a b).next ≡ ((pair_in s a b).next + accepted_of (is_send_on a b) run s events) % serials
  unfolding ran accepted_of next_serial
  ran_next s whole [] fits = omega (arith, fits)
  ran_next s whole (event ∷ events) fits = go (goes_out s whole event) (event_next s whole event) (ran_next (after_event run s event) (entries_stay run s event ∙ whole) events)
    where
      go : (t : Bool) → (pair_in (after_event run s event) a b).next ≡ cond t (((pair_in s a b).next + 1) % 4294967296) (pair_in s a b).next
          → ((pair_in (after_event run s event) a b).next ≤ largest_serial
          → (pair_in (ran run (after_event run s event) events) a b).next ≡ ((pair_in (after_event run s event) a b).next + accepted_of (is_send_on a b) run (after_event run s event) events) % serials)
          → (pair_in (ran run (after_event run s event) events) a b).next ≡ ((pair_in s a b).next + (cond t 1 0 + accepted_of (is_send_on a b) run (after_event run s event) events)) % serials
      go true e ih = let r = ih (omega (arith, e)) in omega (arith, e, r)
      go false e ih = let r = ih (omega (arith, e, fits)) in omega (arith, e, r)

  ran_sent : (s : State) → length s.ledger.pairs ≡ 256 → (events : List Event) → sent_on run s a b events ≡ serials_from (pair_in s a b).next (accepted_of (is_send_on a b) run s events)
  unfolding sent_on accepted_of serials_from
  ran_sent s whole [] = refl
  ran_sent s whole (event ∷ events) = go (goes_out s whole event) refl (event_next s whole event) (ran_sent (after_event run s event) (entries_stay run s event ∙ whole) events)
    where
      go : (t : Bool) → goes_out s whole event ≡ t → (pair_in (after_event run s event) a b).next ≡ cond t (next_serial (pair_in s a b).next) (pair_in s a b).next
          → sent_on run (after_event run s event) a b events ≡ serials_from (pair_in (after_event run s event) a b).next (accepted_of (is_send_on a b) run (after_event run s event) events)
          → cond t (serial_put run s (step_in event) ∷ []) [] ++ sent_on run (after_event run s event) a b events
          ≡ serials_from (pair_in s a b).next (cond t 1 0 + accepted_of (is_send_on a b) run (after_event run s event) events)
      go true h e ih =
          let one : suc (accepted_of (is_send_on a b) run (after_event run s event) events) ≡ 1 + accepted_of (is_send_on a b) run (after_event run s event) events = omega arith in
          rw (ih, e, event_serial s whole event h) (ap (serials_from (pair_in s a b).next) one)
      go false h e ih =
          let none : accepted_of (is_send_on a b) run (after_event run s event) events ≡ 0 + accepted_of (is_send_on a b) run (after_event run s event) events = omega arith in
          rw (ih, e) (ap (serials_from (pair_in s a b).next) none)

  ran_unsent : (s : State) → length s.ledger.pairs ≡ 256 → (events : List Event)
      → (pair_in (ran run s events) a b).unsent ≡ cond (eqb (accepted_of (is_send_on a b) run s events) 0) (pair_in s a b).unsent 0
  unfolding ran accepted_of
  ran_unsent s whole [] = refl
  ran_unsent s whole (event ∷ events) = go (goes_out s whole event) (event_unsent s whole event) (ran_unsent (after_event run s event) (entries_stay run s event ∙ whole) events)
    where
      rest : ℕ
      rest = accepted_of (is_send_on a b) run (after_event run s event) events

      none : 0 + rest ≡ rest
      none = omega arith

      down : (z : Bool) → ◌≡◌ {A = ℕ} (cond z 0 0) 0
      down true = refl
      down false = refl

      go : (t : Bool) → (pair_in (after_event run s event) a b).unsent ≡ cond t 0 (pair_in s a b).unsent
          → (pair_in (ran run (after_event run s event) events) a b).unsent ≡ cond (eqb rest 0) (pair_in (after_event run s event) a b).unsent 0
          → (pair_in (ran run (after_event run s event) events) a b).unsent ≡ cond (eqb (cond t 1 0 + rest) 0) (pair_in s a b).unsent 0
      go true e ih = ih ∙ rw (e, ne_eqb (1 + rest) 0 (omega arith)) (down (eqb rest 0))
      go false e ih = ih ∙ rw (e, none)

-- ---- what is heard was sent
module _ (run : Run) (few : run.sites ≤ 16) (a b : ℕ) (la : a < run.sites) (lb : b < run.sites) (d : a ≡ b → ⊥) where
  -- a parcel of the link has one of some serials
  abbrev Carries : List ℕ → Parcel → Type 0
  Carries sent p = p.sender ≡ a → p.site ≡ b → among p.serial sent ≡ true

  -- the newest heard and the serial of each parcel that waits are among them
  record Heard (s : State) (sent : List ℕ) : Type 0 where
    newest : stands (pair_in s a b).unheard ≡ false → among (pair_in s a b).heard sent ≡ true
    waits : (i : ℕ) → Carries sent (parcel_at s i)

  -- no parcel is of no link
  no_parcel_law : (sent : List ℕ) → Carries sent no_parcel
  no_parcel_law sent e f = absurd (d (sym e ∙ f))

  -- more serials
  more : (sent now : List ℕ) (p : Parcel) → Carries sent p → Carries (sent ++ now) p
  more sent now p h e f = among_left sent now p.serial (h e f)

  module _ (s : State) (whole : length s.ledger.pairs ≡ 256) (step : Step) (sent : List ℕ) (h : Heard s sent) where
    abbrev out : Bool → List ℕ
    out t = sent ++ cond t ((effect_of run s step).post.parcel.serial ∷ []) []

    -- the parcel that the step puts into a slot: that of a send is sent by it, a copy has the serial of its parcel
    put_carries : Carries (out (is_send_on a b step)) (effect_of run s step).post.parcel
    put_carries = subst (Carries (out (is_send_on a b step))) (sym (owed run s step).parcels.parcel) (go (is_send step) refl (is_again step) refl)
      where
        go : (t : Bool) → is_send step ≡ t → (u : Bool) → is_again step ≡ u → Carries (out (is_send_on a b step)) (parcel_after step (effect_of run s step).post.parcel.length (named s step) (link_pair run s step).next)
        go true p u q = rw p (λ e f.
            rw (eq-eqb (numbers step).first a e, eq-eqb (numbers step).second b f, sent_serial run few a b la lb d s whole step p) (among_right sent _ (link_pair run s step).next (among_same (link_pair run s step).next [])))
        go false p true q = rw (p, q) (more sent _ (named s step) (h.waits (slot_of step)))
        go false p false q = rw (p, q) (no_parcel_law _)

    -- what is heard was carried by the parcel that the step names
    newest_after : stands (pair_in (moved run s step) a b).unheard ≡ false → among (pair_in (moved run s step) a b).heard (out (is_send_on a b step)) ≡ true
    unfolding heard_pair
    newest_after = go (touched run few a b la lb d s whole step)
      where
        old : stands (pair_in s a b).unheard ≡ false → among (pair_in s a b).heard (out (is_send_on a b step)) ≡ true
        old m = among_left sent _ (pair_in s a b).heard (h.newest m)

        hear : (t : Bool) → (named s step).sender ≡ a → (named s step).site ≡ b
            → stands (cond t (record { next = (pair_in s a b).next; heard = (named s step).serial; unsent = (pair_in s a b).unsent; unheard = 0 }) (pair_in s a b)).unheard ≡ false
            → among (cond t (record { next = (pair_in s a b).next; heard = (named s step).serial; unsent = (pair_in s a b).unsent; unheard = 0 }) (pair_in s a b)).heard (out (is_send_on a b step)) ≡ true
        hear true e f m = more sent _ (named s step) (h.waits (slot_of step)) e f
        hear false e f m = old m

        go : Touch run few a b la lb d s step → stands (pair_in (moved run s step) a b).unheard ≡ false → among (pair_in (moved run s step) a b).heard (out (is_send_on a b step)) ≡ true
        go (sends on e _) = rw e old
        go (hears off e f q) = rw q (hear (moves_on (named s step).serial (pair_in s a b)) e f)
        go (leaves off e) = rw e old

    step_heard : Heard (after_event run s (takes step)) (out (is_accepted run s (takes step) && is_send_on a b step))
    step_heard = by_acceptance run s step (λ t u. Heard u (out (t && is_send_on a b step))) (λ _. record {
      newest = newest_after;
      waits = λ i. set_read (Carries (out (is_send_on a b step))) s.slots (effect_of run s step).post.place i (effect_of run s step).post.parcel put_carries (more sent _ (parcel_at s i) (h.waits i));
    }) (record { newest = λ m. among_left sent [] (pair_in s a b).heard (h.newest m); waits = λ i. more sent [] (parcel_at s i) (h.waits i) })

  -- an event, and a list of them
  event_heard : (s : State) → length s.ledger.pairs ≡ 256 → (event : Event) (sent : List ℕ) → Heard s sent
      → Heard (after_event run s event) (sent ++ cond (is_accepted run s event && is_of (is_send_on a b) (step_in event)) (serial_put run s (step_in event) ∷ []) [])
  event_heard s whole event sent h =
      let all : Heard (lent [] (after_event run s event).slots (after_event run s event).ledger) (sent ++ cond (is_accepted run s event && is_of (is_send_on a b) (step_in event)) (serial_put run s (step_in event) ∷ []) []) =
      by_event run s (is_send_on a b) (λ t n ss l. Heard (lent [] ss l) (sent ++ cond t (n ∷ []) []))
      (λ step. let k = step_heard s whole step sent h in record { newest = k.newest; waits = k.waits })
      (record { newest = λ m. among_left sent [] (pair_in s a b).heard (h.newest m); waits = λ i. more sent [] (parcel_at s i) (h.waits i) }) event in
      record { newest = all.newest; waits = all.waits }

  ran_heard : (s : State) → length s.ledger.pairs ≡ 256 → (events : List Event) (sent : List ℕ) → Heard s sent → Heard (ran run s events) (sent ++ sent_on run s a b events)
  unfolding ran sent_on
  ran_heard s whole [] sent h = rw (append-nil sent) h
  ran_heard s whole (event ∷ events) sent h =
      rw (← append_assoc sent _ (sent_on run (after_event run s event) a b events)) (ran_heard (after_event run s event) (entries_stay run s event ∙ whole) events _ (event_heard s whole event sent h))

-- ---- from fresh
module _ (run : Run) (first : ℕ) (s : State) (fresh : fresh_refusal run (length s.words) (length s.slots) ≡ 0) (fits : first ≤ largest_serial)
    (whole : length s.ledger.pairs ≡ 256) (a b : ℕ) (la : a < run.sites) (lb : b < run.sites) (d : a ≡ b → ⊥) where
  abbrev start : State
  start = after_fresh run first s

  few : run.sites ≤ 16
  few = few_sites run (length s.words) (length s.slots) (fresh_sizes run s fresh)

  -- "each ordered pair of different sites starts at one first serial"
  start_pair_law : pair_in start a b ≡ start_pair first
  unfolding after_fresh
  start_pair_law = rw fresh (begun_link run.sites first s.ledger.pairs whole a b (omega (arith, few, la)) (omega (arith, few, lb)) d)

  start_whole : length start.ledger.pairs ≡ 256
  start_whole = fresh_entries_stay run first s fresh ∙ whole

  start_slots : (i : ℕ) → parcel_at start i ≡ no_parcel
  unfolding after_fresh
  start_slots i = rw fresh (cleared_at s.slots i)

  -- "and goes up by one for each accepted send, wrapping after 4,294,967,295"
  pub next_is_counted : (events : List Event) → (pair_in (ran run start events) a b).next ≡ (first + accepted_of (is_send_on a b) run start events) % serials
  next_is_counted events = rw (start_pair_law) at (ran_next run few a b la lb d start start_whole events (rw (start_pair_law) fits))

  -- what goes out are the serials from the first on
  pub sent_in_order : (events : List Event) → sent_on run start a b events ≡ serials_from first (accepted_of (is_send_on a b) run start events)
  sent_in_order events = rw (start_pair_law) at (ran_sent run few a b la lb d start start_whole events)

  -- the mark of nothing sent stands until the first of them
  pub unsent_until_sent : (events : List Event) → (pair_in (ran run start events) a b).unsent ≡ cond (eqb (accepted_of (is_send_on a b) run start events) 0) 1 0
  unsent_until_sent events = rw (start_pair_law) at (ran_unsent run few a b la lb d start start_whole events)

  -- the newest heard, once something was heard, went out on this link in this run
  pub heard_was_sent : (events : List Event) → stands (pair_in (ran run start events) a b).unheard ≡ false → among (pair_in (ran run start events) a b).heard (sent_on run start a b events) ≡ true
  heard_was_sent events = (ran_heard run few a b la lb d start start_whole events [] (record { newest = λ m. absurd (marked m); waits = λ i. rw (start_slots i) (no_parcel_law run few a b la lb d []) })).newest
    where
      marked : stands (pair_in start a b).unheard ≡ false → ⊥
      marked m = false≢true (sym (rw (start_pair_law) at m))
