-- What the whole guarantees: the page to open first. Each theorem here is one sentence of the three demands or of a request, said of the very
-- definitions that the contracts cite, and proved in the module that its last line names. Nothing else stands here.
-- Assumes nothing.
use Rattle.std.specs.Prelude.{ℕ, suc, ◌+◌, ◌*◌, ◌-◌, ◌/◌, ◌%◌, ◌^◌, ◌≤◌, ◌<◌, true, false, ◌&&◌, cond, ◌≡◌, List, [], ◌∷◌, ◌++◌, length, get_or, eqb, ltb, pos, nat_abs, Option, Some}
use Rattle.std.proofs.Math.Path.{refl}
use Rattle.std.proofs.Common.{sym, ◌∙◌}
use Rattle.rules.specs.declared.Run.{Run}
use Rattle.rules.specs.meaning.Operations.{Answer}
use Rattle.rules.specs.meaning.Reports.{Reported}
use Rattle.rules.specs.meaning.Groups.{Grouped}
use Rattle.rules.specs.declared.Pair.{Pair}
use Rattle.rules.specs.declared.Step.{Step}
use Rattle.rules.specs.declared.Step.TheVariants.{Add, Remove, Query, Merge, Deliver}
use Rattle.rules.specs.meaning.Lengths.{M, listed, after_add, after_remove, join}
use Rattle.rules.specs.meaning.Table.{SoundTable, length_of, held, shown, count_below, rises}
use Rattle.rules.specs.meaning.Operations.{accepted, answer, merge_refusal, merge_answer, merge_table}
use Rattle.rules.specs.meaning.Parcels.{waiting}
use Rattle.rules.specs.meaning.Serials.{serials, largest_serial, half, next_serial, is_newer, wrapped}
use Rattle.rules.specs.meaning.Links.{no_pair, linked, stands}
use Rattle.rules.specs.meaning.Kinds.{is_send, is_again, is_deliver, is_lose, slot_of, link_of}
use Rattle.rules.specs.meaning.States.{State, StateSound, lent, table_at, parcel_at}
use Rattle.rules.specs.meaning.Runs.{refusal_of, value_of, answer_of, after, fresh_refusal, after_fresh, Stepped, Freshened}
use Rattle.rules.specs.meaning.Lags.{last_sent, lag_answer}
use Rattle.rules.specs.meaning.Text.{front}
use Rattle.rules.specs.meaning.Leb.{leb128, read_leb}
use Rattle.rules.specs.meaning.Groups.{is_group, group_bytes, group, group_of, entries_in}
use Rattle.rules.specs.meaning.Rounds.{in_turn, largest_of, all_tables, round_merges}
use Rattle.rules.specs.meaning.Events.{Event, takes, absorbs, round, outcome, refusal_for, answer_for, after_event}
use Rattle.rules.specs.meaning.Ids.{among, distinct, ids_of_all, fit_together}
use Rattle.rules.specs.meaning.Histories.{ran, taking, accepted_of, pair_in, is_send_on, sent_on, serials_from, absorbed_in, absorbed, largest, same_pairs, offered_in, offered, length_in}
use Rattle.rules.specs.meaning.Repairs.{TableOf, empty_table, are_sound, entries_of_all, taken_in, all_taken, Repair, are_proper, all_at, operations, all_accepted, named, came_to, fit_everywhere, same_everywhere, OneEnd}
use Rattle.rules.specs.meaning.Padding.{unpadded, is_padded, has_short_numbers}
use Rattle.rules.specs.meaning.Lines.{text_of, names_step, numbers_of, four}
use Rattle.rules.specs.meaning.StepLines.{line_of, step_of, Fits}
use Rattle.rules.specs.meaning.Calls.{named_answer, Called}
use Rattle.rules.specs.meaning.Bursts.{asks_of, steps_in, Handled}
use Rattle.rules.specs.meaning.Members.{Answered}
use Rattle.rules.specs.meaning.Writing.{Filled}
use Rattle.rules.specs.meaning.Reports.{printed_of, Told, Printed}
use Rattle.rules.specs.meaning.Groups.{Written, Entered}
use Rattle.rules.specs.meaning.Events.{Event, Happened}
use Rattle.rules.proofs.laws.table.Counts as Counts
use Rattle.rules.proofs.laws.Serials as Serials
use Rattle.rules.proofs.laws.Serials.{Stand}
use Rattle.rules.proofs.laws.group.Leb as Leb
use Rattle.rules.proofs.laws.group.Groups as Groups
use Rattle.rules.proofs.laws.run.Steps as Steps
use Rattle.rules.proofs.laws.run.Events as Events
use Rattle.rules.proofs.laws.run.Links.{OffRows}
use Rattle.rules.proofs.laws.run.Reads as Reads
use Rattle.rules.proofs.laws.run.Reads.{SameLinks}
use Rattle.rules.proofs.laws.run.Lags as Lags
use Rattle.rules.proofs.laws.history.Figure4 as Figure4
use Rattle.rules.proofs.laws.history.Rising as Rising
use Rattle.rules.proofs.laws.history.Counting as Counting
use Rattle.rules.proofs.laws.history.Links as Links
use Rattle.rules.proofs.laws.history.Absorbing as Absorbing
use Rattle.rules.proofs.laws.history.Room as Room
use Rattle.rules.proofs.laws.history.Groups as Absorbed
use Rattle.rules.proofs.laws.repair.Tables as Repairs
use Rattle.rules.proofs.laws.repair.Orders as Orders
use Rattle.rules.proofs.laws.repair.Rounds as Rounds
use Rattle.rules.proofs.laws.line.Lines as Lines
use Rattle.rules.proofs.laws.line.Steps as StepLines
use Rattle.rules.proofs.laws.report.Bare as Bare
use Rattle.rules.proofs.laws.run.Bursts as Bursts
use Rattle.rules.proofs.laws.Members as Members
use Rattle.rules.proofs.laws.Determined as Determined

-- ---- demand 1
-- "Bad input gets the listed refusal, with nothing written": a refused step answers its number with 0, and leaves the state as it is
pub refused_writes_nothing : (run : Run) (s : State) (step : Step) (r : ℕ) → refusal_of run s step ≡ suc r
    → (after run s step ≡ s) × (answer_of run s step ≡ record { refusal = suc r; value = 0 })
refused_writes_nothing run s step r h = (Steps.refused_stays run s step r h, Steps.refused_answer_law run s step r h)

-- ---- what can happen in a run: its eight steps, and the operations that are no step. A step is the event that takes it, so what is promised of events is
-- promised of steps
pub a_step_is_its_event : (run : Run) (s : State) (step : Step) → (answer_for run s (takes step) ≡ answer_of run s step) × (after_event run s (takes step) ≡ after run s step)
unfolding outcome refusal_for after_event after
a_step_is_its_event run s step = (refl, refl)

-- demand 1 of every operation
pub refused_operation_writes_nothing : (run : Run) (s : State) (event : Event) (r : ℕ) → refusal_for run s event ≡ suc r
    → (after_event run s event ≡ s) × (answer_for run s event ≡ record { refusal = suc r; value = 0 })
refused_operation_writes_nothing run s event r h = (Events.refused_event_stays run s event r h, rw h)

-- ---- demand 2: "Adding, removing, merging and membership give exactly what the 2020 paper defines"
module _ (run : Run) (s : State) where
  -- add(s, e)
  pub add_is_the_papers : (j x : ℕ) → refusal_of run s (Add j x) ≡ 0 → (k e : ℕ)
      → length_in run (after run s (Add j x)) k e ≡ cond (eqb j k && eqb x e) (after_add (length_in run s k e)) (length_in run s k e)
  add_is_the_papers = Figure4.figure4_add run s

  -- remove(s, e)
  pub remove_is_the_papers : (j x : ℕ) → refusal_of run s (Remove j x) ≡ 0 → (k e : ℕ)
      → length_in run (after run s (Remove j x)) k e ≡ cond (eqb j k && eqb x e) (after_remove (length_in run s k e)) (length_in run s k e)
  remove_is_the_papers = Figure4.figure4_remove run s

  -- s ⊔ s'
  pub merge_is_the_papers : (f t : ℕ) → refusal_of run s (Merge f t) ≡ 0 → (k e : ℕ)
      → length_in run (after run s (Merge f t)) k e ≡ cond (eqb t k) (join (length_in run s k e) (length_in run s f e)) (length_in run s k e)
  merge_is_the_papers = Figure4.figure4_merge run s

  -- a delivery merges its single entry
  pub deliver_is_the_papers : (i : ℕ) → refusal_of run s (Deliver i) ≡ 0 → (k e : ℕ)
      → length_in run (after run s (Deliver i)) k e
      ≡ cond (eqb (parcel_at s i).site k && eqb (parcel_at s i).id e) (join (length_in run s k e) (parcel_at s i).length) (length_in run s k e)
  deliver_is_the_papers = Figure4.figure4_deliver run s

  -- in(s, e): a query answers the length, and it is listed exactly when odd
  pub query_is_the_papers : (k e : ℕ)
      → (value_of run s (Query k e) ≡ length_in run s k e) × (listed (value_of run s (Query k e)) ≡ true → length_in run s k e % 2 ≡ 1)
      × (length_in run s k e % 2 ≡ 1 → listed (value_of run s (Query k e)) ≡ true)
  query_is_the_papers = Figure4.figure4_query run s

  -- "a merge reports how many lengths rose": counted over the table that it leaves, against the one before
  pub merge_counts_the_rises : (f t : ℕ) → refusal_of run s (Merge f t) ≡ 0
      → value_of run s (Merge f t) ≡ rises (table_at run s.words t) (table_at run (after run s (Merge f t)).words t)
  merge_counts_the_rises = Rising.merge_value run s

-- in(s, e) for many ids at once: accepted, bit i mod 8 of byte i / 8 tells whether the table lists id i
pub members_are_listed : (t ids before after : List ℕ) → Answered t ids before 0 after → (i : ℕ) → i < length ids
    → get_or after (i / 8) 0 / 2 ^ (i % 8) % 2 ≡ cond (listed (length_of t (get_or ids i 0))) 1 0
members_are_listed = Members.answered_bits

-- "held counts entries and shown counts those with odd length": of the ids below any bound that a sound table has none beyond, `held` is how many have a
-- length and `shown` how many are listed
pub shown_means_listed : (t : List ℕ) → SoundTable t → (b : ℕ) → ((x : ℕ) → b ≤ x → length_of t x ≡ 0)
    → (held t ≡ count_below (λ (x : ℕ). ltb 0 (length_of t x)) b) × (shown t ≡ count_below (λ (x : ℕ). listed (length_of t x)) b)
shown_means_listed t s b none = (Counts.held_counts M t s b none, Counts.shown_counts M t s b none)

-- "A step line written is read back as the same step": by the step, and by the four numbers
pub written_is_read : (step : Step) → Fits step → step_of (line_of step) ≡ Some step
written_is_read = StepLines.written_step

pub written_is_read_as_numbers : (kind first second id : ℕ) → names_step kind second id ≡ true → first < 2 ^ 64 → second < 2 ^ 64 → id < 2 ^ 64
    → numbers_of (text_of kind first second id) ≡ four kind first second id
written_is_read_as_numbers = Lines.written_read

-- request 5: "a line read and written again has the same step with no padding": what is written is the line without its padding, and is read as the step
pub read_is_written_unpadded : (line : List ℕ) (step : Step) → step_of line ≡ Some step
    → (line_of step ≡ unpadded line) × (step_of (unpadded line) ≡ Some step) × (is_padded (line_of step) ≡ false) × Fits step
read_is_written_unpadded line step h =
    let r = StepLines.read_step line step h in
    let again = StepLines.read_again line step h in
    (r.text, again.0, again.1, r.fits)

-- "up to 20 digits with leading zeros, as long as the value fits 64 bits": a text is read as a step exactly where it is the line of that step but for
-- padding, and no number of it has more than 20 digits
pub padded_lines_are_read : (line : List ℕ) (step : Step)
    → (step_of line ≡ Some step → (unpadded line ≡ line_of step) × (has_short_numbers line ≡ true) × Fits step)
    × ((unpadded line ≡ line_of step) × (has_short_numbers line ≡ true) × Fits step → step_of line ≡ Some step)
padded_lines_are_read line step = (
  (λ h. let r = StepLines.read_step line step h in (sym r.text, r.short, r.fits)),
  (λ h. StepLines.padded_step line step h.0 h.2 h.1),
)

-- "a line that is read is written back byte for byte", as document 01 has it, stays true of lines without padding
pub read_is_written : (line : List ℕ) (step : Step) → is_padded line ≡ false → step_of line ≡ Some step → (line_of step ≡ line) × Fits step
read_is_written = StepLines.read_same

-- two lines can be one step now, where they differ in padding alone; and no line is two steps
pub one_step_two_lines : (a b : List ℕ) (s t : Step) → step_of a ≡ Some s → step_of b ≡ Some t → (s ≡ t → unpadded a ≡ unpadded b) × (unpadded a ≡ unpadded b → s ≡ t)
one_step_two_lines = StepLines.one_step_two_lines

pub no_line_of_two_steps : (line : List ℕ) (s t : Step) → step_of line ≡ Some s → step_of line ≡ Some t → s ≡ t
no_line_of_two_steps line s t p q = (StepLines.one_step_two_lines line line s t p q).1 refl

-- and no number that the report program prints has padding, whatever its input is
pub reports_have_no_padding : (input : List ℕ) → is_padded (printed_of input) ≡ false
reports_have_no_padding = Bare.print_has_none

-- ---- demands 2 and 3: "Start fresh and take any list of steps, refused ones among them", and of the other operations
module _ (run : Run) (first : ℕ) (s : State) (fresh : fresh_refusal run (length s.words) (length s.slots) ≡ 0) where
  abbrev pub start : State
  start = after_fresh run first s

  -- "From a fresh start each counter is the number of accepted steps of its kind"
  pub counters_count : (events : List Event)
      → ((ran run start events).ledger.counts.sent ≡ accepted_of is_send run start events)
      × ((ran run start events).ledger.counts.copied ≡ accepted_of is_again run start events)
      × ((ran run start events).ledger.counts.absorbed ≡ accepted_of is_deliver run start events)
      × ((ran run start events).ledger.counts.lost ≡ accepted_of is_lose run start events)
  counters_count events = (
    Counting.sent_is_counted run first s fresh events,
    Counting.copied_is_counted run first s fresh events,
    Counting.absorbed_is_counted run first s fresh events,
    Counting.lost_is_counted run first s fresh events,
  )

  -- "sent + copied = absorbed + lost + waiting"
  pub books_balance : (events : List Event)
      → (ran run start events).ledger.counts.sent + (ran run start events).ledger.counts.copied
      ≡ (ran run start events).ledger.counts.absorbed + (ran run start events).ledger.counts.lost + waiting (ran run start events).slots
  books_balance = Counting.books_balance run first s fresh

  -- the state stays sound: nothing in the run is refused with 1 or with 2
  pub never_1_or_2 : (before : List Event) (event : Event) → (refusal_for run (ran run start before) event ≡ 1 → ⊥) × (refusal_for run (ran run start before) event ≡ 2 → ⊥)
  never_1_or_2 before event = (Counting.never_1 run first s fresh before event, Counting.never_2 run first s fresh before event)

  pub states_stay_sound : (events : List Event) → StateSound run (ran run start events) × (length (ran run start events).ledger.pairs ≡ length s.ledger.pairs)
  states_stay_sound events = (Counting.fresh_ran_sound run first s fresh events, Links.ran_entries_stay run start events ∙ Links.fresh_entries_stay run first s fresh)

  -- "For each site and id, the length held is the largest it has absorbed .., or zero if none."
  pub held_is_largest_absorbed : (events : List Event) (k e : ℕ) → length_of (table_at run (ran run start events).words k) e ≡ largest (absorbed run start k events) e
  held_is_largest_absorbed = Absorbing.held_is_largest run first s fresh

  -- "So two sites in one run that absorbed the same set of id and length pairs, in whichever order and however often, hold equal tables."
  pub same_pairs_same_tables : (events : List Event) (j k : ℕ) → j < run.sites → k < run.sites
      → same_pairs (absorbed run start j events) (absorbed run start k events) ≡ true
      → table_at run (ran run start events).words j ≡ table_at run (ran run start events).words k
  same_pairs_same_tables = Absorbing.same_pairs_same_tables run first s fresh

  -- "And a site that is offered, over the whole run .., no more distinct ids than a table holds never refuses one for lack of room."
  pub room_suffices : (before : List Event) (event : Event) (rest : List Event) (k : ℕ) → k < run.sites → (outcome run (ran run start before) event).gaining k ≡ true
      → distinct (offered run start k (before ++ (event ∷ rest))) ≤ run.capacity → refusal_for run (ran run start before) event ≡ 8 → ⊥
  room_suffices = Room.room_suffices run first s fresh

  -- ---- request 2: the links of the run, in a ledger of 256 entries and with a first serial of 32 bits, as their types have it
  module _ (fits : first ≤ largest_serial) (whole : length s.ledger.pairs ≡ 256) (a b : ℕ) (la : a < run.sites) (lb : b < run.sites) (d : a ≡ b → ⊥) where
    -- "each ordered pair of different sites starts at one first serial .. and goes up by one for each accepted send, wrapping after 4,294,967,295"
    pub next_serial_counts_the_sends : (events : List Event) → (pair_in (ran run start events) a b).next ≡ (first + accepted_of (is_send_on a b) run start events) % serials
    next_serial_counts_the_sends = Links.next_is_counted run first s fresh fits whole a b la lb d

    -- so the serials that go out are those from the first on, in order
    pub serials_go_out_in_order : (events : List Event) → sent_on run start a b events ≡ serials_from first (accepted_of (is_send_on a b) run start events)
    serials_go_out_in_order = Links.sent_in_order run first s fresh fits whole a b la lb d

    -- "with one mark for nothing sent": it stands until the first of them
    pub unsent_until_sent : (events : List Event) → (pair_in (ran run start events) a b).unsent ≡ cond (eqb (accepted_of (is_send_on a b) run start events) 0) 1 0
    unsent_until_sent = Links.unsent_until_sent run first s fresh fits whole a b la lb d

    -- "and the newest one heard": once something was heard, it is a serial that went out on this link in this run
    pub heard_was_sent : (events : List Event) → stands (pair_in (ran run start events) a b).unheard ≡ false
        → among (pair_in (ran run start events) a b).heard (sent_on run start a b events) ≡ true
    heard_was_sent = Links.heard_was_sent run first s fresh fits whole a b la lb d

-- "It never falls": by nothing that happens, in no state
pub never_falls : (run : Run) (s : State) (event : Event) (k e : ℕ) → length_in run s k e ≤ length_in run (after_event run s event) k e
never_falls = Absorbing.never_falls

-- ---- request 2
-- "Order is that of RFC 1982 with 32 bits": of two serials the first is newer, the second is, they are the same, or they have no order, and only one of these
pub serials_stand_one_way : (a b : ℕ) → a ≤ largest_serial → b ≤ largest_serial → Stand a b
serials_stand_one_way = Serials.stand

-- the next serial is newer, also where it wraps
pub next_serial_is_newer : (n : ℕ) → n ≤ largest_serial → is_newer (next_serial n) n ≡ true
next_serial_is_newer = Serials.next_newer

-- "A new query gives the lag as a signed number, the newest heard minus the last sent, from −2,147,483,647 to 2,147,483,647": accepted, it leads from the last
-- sent to the newest heard
pub lag_leads_from_sent_to_heard : (run : Run) (s : State) (from to : ℕ) → (lag_answer run s from to).refusal ≡ 0 → (pair_in s from to).heard ≤ largest_serial
    → (nat_abs (lag_answer run s from to).lag < half) × ((last_sent (pair_in s from to) + wrapped (lag_answer run s from to).lag) % serials ≡ (pair_in s from to).heard)
lag_leads_from_sent_to_heard = Lags.lag_leads

-- refused, it answers 0 beside its number; it is lent nothing to write
pub refused_lag_is_0 : (run : Run) (s : State) (from to r : ℕ) → (lag_answer run s from to).refusal ≡ suc r → lag_answer run s from to ≡ record { refusal = suc r; lag = pos 0 }
refused_lag_is_0 = Lags.refused_lag_law

-- "No other pair is read, judged or written": where two ledgers have the same counts, and the same entry for each ordered pair of different sites of the run,
-- every step and every query is answered alike; a step sets no entry but that of its link, and a fresh start those of the run's links
pub other_pairs_are_not_read : (run : Run) (s : State) (qs : List Pair) → SameLinks run.sites s.ledger.pairs qs
    → ((step : Step) → answer_of run s step ≡ answer_of run (lent s.words s.slots (record { counts = s.ledger.counts; pairs = qs })) step)
    × ((from to : ℕ) → lag_answer run s from to ≡ lag_answer run (lent s.words s.slots (record { counts = s.ledger.counts; pairs = qs })) from to)
other_pairs_are_not_read run s qs same = (Reads.answered_alike run s qs same, Reads.lagged_alike run s qs same)

pub other_pairs_are_not_written : (run : Run) (s : State) (i : ℕ)
    → ((step : Step) → (i ≡ link_of run.sites (parcel_at s (slot_of step)) step → ⊥) → get_or (after run s step).ledger.pairs i no_pair ≡ get_or s.ledger.pairs i no_pair)
    × ((first : ℕ) → OffRows i (linked run.sites) (linked run.sites) → get_or (after_fresh run first s).ledger.pairs i no_pair ≡ get_or s.ledger.pairs i no_pair)
other_pairs_are_not_written run s i = (λ step ne. Reads.only_named_link run s step i ne, λ first off. Reads.fresh_leaves run first s i off)

-- ---- request 4
-- "A group has one byte string and a byte string at most one group; writing and reading undo each other."
pub a_group_written_is_read : (es : List ℕ) → is_group es ≡ true → group_of (group_bytes es) ≡ group es
a_group_written_is_read = Groups.group_read

pub a_group_read_is_written : (bs es : List ℕ) → group_of bs ≡ group es → (group_bytes es ≡ bs) × (is_group es ≡ true)
a_group_read_is_written = Groups.group_written

-- "A group never passes 961 bytes": nor, since its ids rise, 898
pub a_group_never_passes_961_bytes : (es : List ℕ) → is_group es ≡ true → (length (group_bytes es) ≤ 961) × (length (group_bytes es) ≤ 898)
a_group_never_passes_961_bytes es h = (Groups.never_past_961 es h, Groups.group_within es h)

-- "All are unsigned LEB128 .., but only in the shortest form": a number is read back as it was written, and no other bytes are read as it
pub a_number_has_one_form : (n : ℕ) (bs rest : List ℕ) → n < 2 ^ 64 → (read_leb (leb128 n ++ rest) ≡ front n rest) × (read_leb bs ≡ front n rest → bs ≡ leb128 n ++ rest)
a_number_has_one_form n bs rest h = (Leb.leb_read n rest h, λ e. (Leb.read_leb_law bs n rest e).0)

-- "Absorbing a group's bytes at a site is all or none": accepted, every entry is joined in there and no other length changes; refused, by
-- `refused_operation_writes_nothing`, none is. "the ledger doesn't count them": it and the slots stay
module _ (run : Run) (s : State) (k : ℕ) (bytes : List ℕ) where
  pub absorb_is_the_papers : refusal_for run s (absorbs k bytes) ≡ 0 → (j e : ℕ)
      → length_in run (after_event run s (absorbs k bytes)) j e ≡ cond (eqb k j) (join (length_in run s j e) (length_of (entries_in bytes) e)) (length_in run s j e)
  absorb_is_the_papers = Absorbed.absorb_joins run s k bytes

  -- "and returns how many lengths rose": counted over the table that it leaves, against the one before
  pub absorb_counts_the_rises : refusal_for run s (absorbs k bytes) ≡ 0
      → (answer_for run s (absorbs k bytes)).value ≡ rises (table_at run s.words k) (table_at run (after_event run s (absorbs k bytes)).words k)
  absorb_counts_the_rises ok = rw ok (Absorbed.absorb_rises run s k bytes ok)

  pub absorb_leaves_the_ledger : ((after_event run s (absorbs k bytes)).slots ≡ s.slots) × ((after_event run s (absorbs k bytes)).ledger ≡ s.ledger)
  absorb_leaves_the_ledger = Absorbed.absorb_leaves run s k bytes

-- ---- request 6: "Two shifts repaired the same three sites in different orders and asked whether that can matter." Where there is room it cannot, and there is room
-- "where the ids of all tables and groups named fit it together": `fit_together`. Each merge and absorption named is accepted then
module _ (c : ℕ) where
  -- "For tables of one capacity ..: merging a table with an equal one changes nothing", and no length rises. One table's ids always fit it
  pub an_equal_table_changes_nothing : (a : List ℕ) → TableOf c a → (merge_answer a a ≡ answer accepted 0) × (merge_table a a ≡ a)
  an_equal_table_changes_nothing = Repairs.equal_changes_nothing c

  -- so a shift can tell equal tables: merged either way, no length rises
  pub no_rise_either_way_is_equal : (a b : List ℕ) → TableOf c a → TableOf c b → rises a b ≡ 0 → rises b a ≡ 0 → a ≡ b
  no_rise_either_way_is_equal = Repairs.no_rise_is_equal c

  -- "either one merged into the other gives the same table"
  pub either_into_the_other : (a b : List ℕ) → TableOf c a → TableOf c b → fit_together c (a ∷ b ∷ []) ≡ true
      → (merge_refusal a b ≡ accepted) × (merge_refusal b a ≡ accepted) × (merge_table a b ≡ merge_table b a)
  either_into_the_other = Repairs.either_way c

  -- "three may be grouped in either way"
  pub three_grouped_in_either_way : (a b d : List ℕ) → TableOf c a → TableOf c b → TableOf c d → fit_together c (a ∷ b ∷ d ∷ []) ≡ true
      → (merge_refusal a b ≡ accepted) × (merge_refusal (merge_table a b) d ≡ accepted) × (merge_refusal b d ≡ accepted) × (merge_refusal a (merge_table b d) ≡ accepted)
      × (merge_table (merge_table a b) d ≡ merge_table a (merge_table b d))
  three_grouped_in_either_way = Repairs.three_either_way c

  -- "the empty table changes nothing": merged into a table, no length rises; a table merged into it is the table
  pub the_empty_table_changes_nothing : (a : List ℕ) → TableOf c a
      → (merge_answer a (empty_table c) ≡ answer accepted 0) × (merge_table a (empty_table c) ≡ a) × (merge_refusal (empty_table c) a ≡ accepted) × (merge_table (empty_table c) a ≡ a)
  the_empty_table_changes_nothing = Repairs.empty_changes_nothing c

  -- all that is named is accepted exactly where its ids and the table's fit together: with one more, something is refused in every order
  pub taken_exactly_where_it_fits : (t : List ℕ) (xs : List (List ℕ)) → TableOf c t → are_sound xs ≡ true → all_taken t xs ≡ fit_together c (t ∷ xs)
  taken_exactly_where_it_fits = Repairs.taken_where_it_fits c

  -- "Groups absorbed in any order, or twice, likewise leave the same table": two lists of groups, or of whole tables, or of both, with one set of entries
  pub any_order_or_twice : (t : List ℕ) (xs ys : List (List ℕ)) → TableOf c t → are_sound xs ≡ true → are_sound ys ≡ true
      → same_pairs (entries_of_all xs) (entries_of_all ys) ≡ true → fit_together c (t ∷ xs) ≡ true
      → (all_taken t xs ≡ true) × (all_taken t ys ≡ true) × (taken_in t xs ≡ taken_in t ys)
  any_order_or_twice = Repairs.any_order c

-- the same of a run's operations: two lists of repairs, each of them a merge of one site into another or a group absorbed at a site, leave the same words, slots and
-- ledger. It is said of a sound state, as is each that a run comes to (`states_stay_sound`), with a ledger of 256 entries, as its type has it
module _ (run : Run) (s : State) (sound : StateSound run s) (whole : length s.ledger.pairs ≡ 256) where
  -- all of one site, where the same set of entries stands in the tables and groups that either list names
  pub one_site_in_any_order : (k : ℕ) (xs ys : List Repair) → are_proper run xs ≡ true → are_proper run ys ≡ true → all_at k xs ≡ true → all_at k ys ≡ true
      → fit_together run.capacity (table_at run s.words k ∷ named run s xs) ≡ true
      → same_pairs (entries_of_all (named run s xs)) (entries_of_all (named run s ys)) ≡ true
      → OneEnd run s xs ys
  one_site_in_any_order k = Orders.any_order_at_a_site run s sound k whole

  -- of any sites: they are all accepted exactly where the ids of what comes to each site, by itself or by way of others, fit it together
  pub accepted_exactly_where_it_fits : (xs : List Repair) → are_proper run xs ≡ true → all_accepted run s (operations xs) ≡ fit_everywhere run s xs
  accepted_exactly_where_it_fits = Orders.accepted_where_it_fits run s sound

  -- and each site then holds the largest of the lengths that came to it
  pub each_site_holds_what_came : (xs : List Repair) → are_proper run xs ≡ true → all_accepted run s (operations xs) ≡ true → (k : ℕ) → k < run.sites → (e : ℕ)
      → length_in run (ran run s (operations xs)) k e ≡ largest (entries_of_all (came_to run s xs k)) e
  each_site_holds_what_came = Orders.holds_what_came run s sound

  -- so two lists, as the shifts had, leave one state where the same set of entries comes to each site by either
  pub all_sites_in_any_order : (xs ys : List Repair) → are_proper run xs ≡ true → are_proper run ys ≡ true → fit_everywhere run s xs ≡ true → same_everywhere run s xs ys ≡ true
      → OneEnd run s xs ys
  all_sites_in_any_order = Orders.any_order_everywhere run s sound whole

-- ---- request 7: "Add a single operation: site 0 takes in the others in rising order, then each other site takes in site 0." A round is those merges, `round_merges`
module _ (run : Run) (s : State) where
  -- "If the distinct ids at all sites are at most C .. Otherwise it is refused with 8": exactly so in a sound state, as is each that a run comes to (`states_stay_sound`),
  -- and in any other with 1 or 2. Refused, by `refused_operation_writes_nothing`, it writes nothing
  pub a_round_is_refused_for_room_alone : StateSound run s → refusal_for run s round ≡ cond (fit_together run.capacity (all_tables run s.words)) 0 8
  a_round_is_refused_for_room_alone = Rounds.round_refused run s

  -- "It returns the number of merges, 0 for one site", whether or not any length rose
  pub a_round_returns_its_merges : (answer_for run s round ≡ answer (refusal_for run s round) (length (round_merges run))) × (length (round_merges run) ≡ 2 * (run.sites - 1))
  unfolding outcome
  a_round_returns_its_merges = (refl, Rounds.round_many run)

  -- "Parcels under way and the ledger are untouched"
  pub a_round_leaves_the_ledger : ((after_event run s round).slots ≡ s.slots) × ((after_event run s round).ledger ≡ s.ledger)
  a_round_leaves_the_ledger = Rounds.round_leaves run s

  -- "a round, refused or not, offers all those ids to every site"
  pub a_round_offers_all_ids : (k : ℕ) → offered_in run s k round ≡ ids_of_all (all_tables run s.words)
  unfolding offered_in outcome
  a_round_offers_all_ids k = refl

  module _ (ok : refusal_for run s round ≡ 0) where
    -- none of its merges is refused, and what it leaves is what they leave; said of a ledger of 256 entries, as its type has it
    pub a_round_is_its_merges : length s.ledger.pairs ≡ 256
        → (all_accepted run s (taking (round_merges run)) ≡ true) × (after_event run s round ≡ ran run s (taking (round_merges run)))
    a_round_is_its_merges = Rounds.is_its_merges run s ok

    -- "Demand 3 counts each inner merge as a merge, from the table as it then stands"
    pub a_round_absorbs_its_merges : (k : ℕ) → absorbed_in run s k round ≡ absorbed run s k (taking (round_merges run))
    a_round_absorbs_its_merges = Rounds.absorbs_its_merges run s ok

    -- "all tables are equal .., each length being the largest any site held before"
    pub a_round_makes_all_tables_equal : (j k : ℕ) → j < run.sites → k < run.sites → table_at run (after_event run s round).words j ≡ table_at run (after_event run s round).words k
    a_round_makes_all_tables_equal = Rounds.tables_equal run s ok

    pub a_round_leaves_the_largest : (k : ℕ) → k < run.sites → (e : ℕ)
        → length_in run (after_event run s round) k e ≡ largest_of (in_turn (λ (j : ℕ). length_in run s j e) 0 run.sites)
    a_round_leaves_the_largest = Rounds.holds_largest run s ok

    -- so a second round is accepted too, and changes nothing
    pub a_second_round_changes_nothing : (refusal_for run (after_event run s round) round ≡ 0) × (after_event run (after_event run s round) round ≡ after_event run s round)
    a_second_round_changes_nothing = Rounds.second_stays run s ok

-- ---- a burst, many steps in one call with the state judged once, is its steps one by one: the state that it leaves is the one after them, and the
-- answer to each ask, in its two places, is that of the step in the state after the asks before it. So what is promised of a list of steps is promised
-- of bursts
module _ (run : Run) (s : State) (asks given : List ℕ) (left : State) (said : List ℕ) where
  pub burst_is_its_steps : Handled run s asks given 0 left said
      → (left ≡ ran run s (steps_in (asks_of asks)))
      × ((before : List (Option Step)) (ask : Option Step) (rest : List (Option Step)) → asks_of asks ≡ before ++ (ask ∷ rest)
      → (get_or said (2 * length before) 0 ≡ (named_answer run (ran run s (steps_in before)) ask).refusal)
      × (get_or said (2 * length before + 1) 0 ≡ (named_answer run (ran run s (steps_in before)) ask).value))
  burst_is_its_steps = Bursts.one_by_one run s asks given left said

  -- demand 1 of a burst: refused, it writes nothing
  pub refused_burst_writes_nothing : (r : ℕ) → Handled run s asks given (suc r) left said → (left ≡ s) × (said ≡ given)
  refused_burst_writes_nothing = Bursts.refused_burst run s asks given left said

-- ---- "Prove that two results which both satisfy it are equal": where a contract is a record. Every other one is an equation for the result and one for
-- each thing lent, and then it is `one_outcome`
pub one_outcome : {A B : Type 0} {result r r' : A} {left now now' : B} → (r ≡ result) × (now ≡ left) → (r' ≡ result) × (now' ≡ left) → (r ≡ r') × (now ≡ now')
one_outcome = Determined.one_outcome

pub step_determined : (run : Run) (before : State) (step : Step) {r r' : Answer} {left left' : State}
    → Stepped run before step r left → Stepped run before step r' left' → (r ≡ r') × (left ≡ left')
step_determined = Determined.stepped_determined

pub fresh_determined : (run : Run) (first : ℕ) (before : State) {r r' : ℕ} {left left' : State}
    → Freshened run first before r left → Freshened run first before r' left' → (r ≡ r') × (left ≡ left')
fresh_determined = Determined.freshened_determined

pub call_determined : (run : Run) (before : State) (kind first second id : ℕ) {r r' v v' : ℕ} {left left' : State}
    → Called run before kind first second id r v left → Called run before kind first second id r' v' left' → (r ≡ r') × (v ≡ v') × (left ≡ left')
call_determined = Determined.called_determined

pub burst_determined : (run : Run) (before : State) (asks given : List ℕ) {r r' : ℕ} {left left' : State} {said said' : List ℕ}
    → Handled run before asks given r left said → Handled run before asks given r' left' said' → (r ≡ r') × (left ≡ left') × (said ≡ said')
burst_determined = Determined.handled_determined

pub members_determined : (t ids before : List ℕ) {r r' : ℕ} {now now' : List ℕ} → Answered t ids before r now → Answered t ids before r' now' → (r ≡ r') × (now ≡ now')
members_determined = Determined.answered_determined

pub writer_determined : (kind first second id : ℕ) (before : List ℕ) {n n' : ℕ} {now now' : List ℕ}
    → Filled kind first second id before now n → Filled kind first second id before now' n' → (n ≡ n') × (now ≡ now')
writer_determined = Determined.filled_determined

pub report_determined : (input before : List ℕ) {r r' : Reported} {now now' : List ℕ} → Told input before r now → Told input before r' now' → (r ≡ r') × (now ≡ now')
report_determined = Determined.told_determined

pub print_determined : (input before : List ℕ) {n n' : ℕ} {now now' : List ℕ} → Printed input before n now → Printed input before n' now' → (n ≡ n') × (now ≡ now')
print_determined = Determined.printed_determined

pub operation_determined : (run : Run) (before : State) (event : Event) {r r' : Answer} {left left' : State}
    → Happened run before event r left → Happened run before event r' left' → (r ≡ r') × (left ≡ left')
operation_determined = Determined.happened_determined

pub group_writer_determined : (es before : List ℕ) {r r' : Grouped} {now now' : List ℕ} → Written es before r now → Written es before r' now' → (r ≡ r') × (now ≡ now')
group_writer_determined = Determined.written_determined

pub group_reader_determined : (bs before : List ℕ) {r r' : Grouped} {now now' : List ℕ} → Entered bs before r now → Entered bs before r' now' → (r ≡ r') × (now ≡ now')
group_reader_determined = Determined.entered_determined
