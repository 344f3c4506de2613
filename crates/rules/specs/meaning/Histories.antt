-- What a list of events makes of a run, and what its sites take in on the way: the words of demands 2 and 3.
-- Assumes nothing.
use Rattle.std.specs.Prelude.{ℕ, zero, suc, ◌+◌, Bool, true, false, ◌&&◌, ◌||◌, cond, List, [], ◌∷◌, ◌++◌, eqb, Option, Some, None}
use Rattle.rules.specs.declared.Run.{Run}
use Rattle.rules.specs.declared.Pair.{Pair}
use Rattle.rules.specs.declared.Step.{Step}
use Rattle.rules.specs.meaning.Lengths.{join}
use Rattle.rules.specs.meaning.Table.{length_of}
use Rattle.rules.specs.meaning.Serials.{next_serial}
use Rattle.rules.specs.meaning.Links.{pair_at}
use Rattle.rules.specs.meaning.Kinds.{numbers, is_send}
use Rattle.rules.specs.meaning.States.{State, table_at}
use Rattle.rules.specs.meaning.Steps.{Entry}
use Rattle.rules.specs.meaning.Runs.{effect_of}
use Rattle.rules.specs.meaning.Events.{Event, takes, step_in, outcome, refusal_for, after_event}

-- the state after a list of events, refused ones among them
unfoldable pub ran : Run → State → List Event → State
ran run s [] = s
ran run s (event ∷ events) = ran run (after_event run s event) events

-- some steps, as events
unfoldable pub taking : List Step → List Event
taking [] = []
taking (step ∷ steps) = takes step ∷ taking steps

-- the paper's s(e), at one site of a run
abbrev pub length_in : Run → State → ℕ → ℕ → ℕ
length_in run s k e = length_of (table_at run s.words k) e

-- the event is not refused
abbrev pub is_accepted : Run → State → Event → Bool
is_accepted run s event = eqb (refusal_for run s event) 0

-- ---- "each counter equals the number of accepted steps of its kind"
-- it is a step, and of a kind
abbrev pub is_of : (Step → Bool) → Option Step → Bool
is_of kind (Some step) = kind step
is_of kind None = false

-- how many accepted steps of a kind a list of events has
unfoldable pub accepted_of : (Step → Bool) → Run → State → List Event → ℕ
accepted_of kind run s [] = 0
accepted_of kind run s (event ∷ events) = cond (is_accepted run s event && is_of kind (step_in event)) 1 0 + accepted_of kind run (after_event run s event) events

-- ---- what goes out on a link
-- the entry of the link from site a to site b
abbrev pub pair_in : State → ℕ → ℕ → Pair
pair_in s a b = pair_at a b s.ledger.pairs

-- a send from site a to site b
abbrev pub is_send_on : ℕ → ℕ → Step → Bool
is_send_on a b step = is_send step && (eqb (numbers step).first a && eqb (numbers step).second b)

-- the serial of the parcel that a step puts
abbrev pub serial_put : Run → State → Option Step → ℕ
serial_put run s (Some step) = (effect_of run s step).post.parcel.serial
serial_put run s None = 0

-- the serials that a list of events sends there, in order: that of the parcel of each accepted send
unfoldable pub sent_on : Run → State → ℕ → ℕ → List Event → List ℕ
sent_on run s a b [] = []
sent_on run s a b (event ∷ events) =
    cond (is_accepted run s event && is_of (is_send_on a b) (step_in event)) (serial_put run s (step_in event) ∷ []) [] ++ sent_on run (after_event run s event) a b events

-- so many serials, from one on
unfoldable pub serials_from : ℕ → ℕ → List ℕ
serials_from n zero = []
serials_from n (suc k) = n ∷ serials_from (next_serial n) k

-- ---- what a site absorbs: "by accepted steps only: its own adds and removes, the updates delivered to it, and the tables merged into it
-- as they then stood"; a group's "entries are offered and absorbed like those of a merged table"
-- what site k absorbs by one event
unfoldable pub absorbed_in : Run → State → ℕ → Event → List Entry
absorbed_in run s k event = cond (is_accepted run s event && (outcome run s event).gaining k) ((outcome run s event).given k) []

-- and by a list of events, in order
unfoldable pub absorbed : Run → State → ℕ → List Event → List Entry
absorbed run s k [] = []
absorbed run s k (event ∷ events) = absorbed_in run s k event ++ absorbed run (after_event run s event) k events

-- the largest length of an id among some pairs, "or zero if none"
unfoldable pub largest : List Entry → ℕ → ℕ
largest [] x = 0
largest (p ∷ ps) x = cond (eqb p.id x) (join p.length (largest ps x)) (largest ps x)

-- a pair occurs in a list
unfoldable pub occurs : Entry → List Entry → Bool
occurs p [] = false
occurs p (q ∷ qs) = eqb p.id q.id && eqb p.length q.length || occurs p qs

-- every pair of the one occurs in the other
unfoldable pub within : List Entry → List Entry → Bool
within [] qs = true
within (p ∷ ps) qs = occurs p qs && within ps qs

-- the same set of pairs, "in whichever order and however often"
abbrev pub same_pairs : List Entry → List Entry → Bool
same_pairs ps qs = within ps qs && within qs ps

-- ---- what a site is offered: "by adds, deliveries and merges, refused ones too"
-- what site k is offered by one event
unfoldable pub offered_in : Run → State → ℕ → Event → List ℕ
offered_in run s k event = cond ((outcome run s event).gaining k) ((outcome run s event).offer k) []

-- and by a list of events
unfoldable pub offered : Run → State → ℕ → List Event → List ℕ
offered run s k [] = []
offered run s k (event ∷ events) = offered_in run s k event ++ offered run (after_event run s event) k events
