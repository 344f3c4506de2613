-- The report program: the text that it prints for the text of some steps. "Reads standard input; runs 3 sites, C = 8, 8 slots, from fresh."
-- Assumes nothing.
use Rattle.std.specs.Prelude.{ℕ, zero, suc, ◌+◌, ◌*◌, ◌≡◌, cond, List, [], ◌∷◌, ◌++◌, length, replicate, ltb, eqb, Option, Some, None, Result}
use Rattle.rules.specs.declared.Run.{Run}
use Rattle.rules.specs.declared.Parcel.{Parcel}
use Rattle.rules.specs.declared.Counts.{Counts}
use Rattle.rules.specs.declared.Ledger.{Ledger}
use Rattle.rules.specs.declared.Step.{Step}
use Rattle.rules.specs.declared.Refusal.{Refusal}
use Rattle.rules.specs.meaning.Lengths.{listed}
use Rattle.rules.specs.meaning.Table.{held, shown}
use Rattle.rules.specs.meaning.Parcels.{no_parcel, waiting}
use Rattle.rules.specs.meaning.Ledgers.{begun_ledger}
use Rattle.rules.specs.meaning.States.{State, lent, table_at}
use Rattle.rules.specs.meaning.Refusals.{◌when◌, first_given, number_in, value_in}
use Rattle.rules.specs.meaning.Runs.{refusal_of, value_of}
use Rattle.rules.specs.meaning.Kinds.{numbers, is_query}
use Rattle.rules.specs.meaning.Text.{ascii}
use Rattle.rules.specs.meaning.Number.{digits}
use Rattle.rules.specs.meaning.StepLines.{step_of}
use Rattle.rules.specs.meaning.Calls.{named_after}
use Rattle.rules.specs.meaning.Put.{put}

-- ---- the run
abbrev pub report_run : Run
report_run = record { sites = 3; capacity = 8 }

-- "The report starts each pair at 0"
abbrev pub report_ledger : Ledger
report_ledger = begun_ledger 0

abbrev pub report_start : State
report_start = lent (replicate 48 0) (replicate 8 no_parcel) report_ledger

-- ---- the lines of a report
abbrev pub line_end : ℕ
line_end = 10

-- "a line for each refused step (input line counted from 1, number)"
unfoldable pub refused_line : ℕ → ℕ → List ℕ
refused_line n r = ascii "line=" ++ (digits n ++ (ascii " refused=" ++ (digits r ++ (line_end ∷ []))))

-- "and each accepted query (line, site, id, length, 1 if listed else 0)"
unfoldable pub query_line : ℕ → ℕ → ℕ → ℕ → List ℕ
query_line n k e m =
    ascii "line="
    ++ (digits n ++ (ascii " node=" ++ (digits k ++ (ascii " id=" ++ (digits e ++ (ascii " length=" ++ (digits m ++ (ascii " present=" ++ (digits (cond (listed m) 1 0) ++ (line_end ∷ []))))))))))

-- a name and a number
abbrev pub count_line : List ℕ → ℕ → List ℕ
count_line name n = name ++ (digits n ++ (line_end ∷ []))

-- "then the ledger": its four counts, and how many wait
unfoldable pub ledger_lines : Counts → ℕ → List ℕ
ledger_lines c w =
    count_line (ascii "sent=") c.sent
    ++ (count_line (ascii "copied=") c.copied
    ++ (count_line (ascii "absorbed=") c.absorbed
    ++ (count_line (ascii "lost=") c.lost
    ++ count_line (ascii "waiting=") w)))

-- "held counts entries and shown counts those with odd length". Document 01 has entries for `shown`, "and that was wrong": a site desk read `shown=1`
-- where the only episode had been withdrawn, and "an entry with an even length is not on offer"
unfoldable pub site_line : ℕ → List ℕ → List ℕ
site_line k t = ascii "node=" ++ (digits k ++ (ascii " held=" ++ (digits (held t) ++ (ascii " shown=" ++ (digits (shown t) ++ (line_end ∷ []))))))

-- n sites, from site k on
unfoldable pub site_lines : ℕ → ℕ → List ℕ → List ℕ
site_lines zero k ws = []
site_lines (suc n) k ws = site_line k (table_at report_run ws k) ++ site_lines n (suc k) ws

-- what stands at the end of every report: of the entries of links it has no line
unfoldable pub ending : List ℕ → List Parcel → Counts → List ℕ
ending ws ss c = ledger_lines c (waiting ss) ++ site_lines report_run.sites 0 ws

abbrev pub end_lines : State → List ℕ
end_lines s = ending s.words s.slots s.ledger.counts

-- ---- what each line of the input adds to the report; what it does to the state is that of a step by its numbers
-- an accepted step says nothing, unless it is a query
unfoldable pub accepted_line : ℕ → Step → ℕ → List ℕ
accepted_line n step m = cond (is_query step) (query_line n (numbers step).first (numbers step).id m) []

abbrev pub line_by : ℕ → ℕ → Step → ℕ → List ℕ
line_by zero n step m = accepted_line n step m
line_by (suc r) n step m = refused_line n (suc r)

unfoldable pub said_of : ℕ → State → Option Step → List ℕ
said_of n s (Some step) = line_by (refusal_of report_run s step) n step (value_of report_run s step)
said_of n s None = refused_line n 11

-- "a last piece of one byte or more without it is refused with 11"
unfoldable pub last_piece : ℕ → List ℕ → List ℕ
last_piece n [] = []
last_piece n (c ∷ cs) = refused_line n 11

-- ---- the report from line n on, in a state, with the bytes of the line so far and the input behind them
unfoldable pub report_from : ℕ → State → List ℕ → List ℕ → List ℕ
report_from n s line [] = last_piece n line ++ end_lines s
report_from n s line (c ∷ cs) =
    cond (eqb c line_end) (said_of n s (step_of line) ++ report_from (suc n) (named_after report_run s (step_of line)) [] cs) (report_from n s (line ++ (c ∷ [])) cs)

unfoldable pub report_of : List ℕ → List ℕ
report_of input = report_from 1 report_start [] input

-- ---- the limits
-- "An input over 32,768 bytes"
abbrev pub input_limit : ℕ
input_limit = 32768

-- room that the end of every report fits
abbrev pub end_room : ℕ
end_room = 256

-- room that the report of so many bytes always fits: an empty line is one byte of input and at most 22 of the report, and no other byte earns more
abbrev pub report_room : ℕ → ℕ
report_room n = 22 * n + end_room

-- 13 exactly where the buffer has no room for the report of this input
unfoldable pub report_refusal : List ℕ → ℕ → ℕ
report_refusal input room = first_given ((12 when ltb input_limit (length input)) ∷ (13 when ltb room (length (report_of input))) ∷ [])

-- the report where none of the two is given, else nothing
unfoldable pub report_for : List ℕ → ℕ → List ℕ
report_for input room = cond (eqb (report_refusal input room) 0) (report_of input) []

-- what the report answers: 0 or the number of its refusal, and how many bytes it wrote, 0 on a refusal
pub record Reported : Type 0 where
  pub refusal : ℕ
  pub written : ℕ

abbrev pub as_reported : Result ℕ Refusal → Reported
as_reported r = record { refusal = number_in r; written = value_in 0 r }

-- the contract of `report`: its answer, and the whole buffer afterwards
pub record Told (input before : List ℕ) (r : Reported) (after : List ℕ) : Type 0 where
  pub refusal : r.refusal ≡ report_refusal input (length before)
  pub written : r.written ≡ length (report_for input (length before))
  pub bytes : after ≡ put before 0 (report_for input (length before))

-- ---- what the program prints: the report, or for an input over the limit one line
unfoldable pub printed_of : List ℕ → List ℕ
printed_of input = cond (ltb input_limit (length input)) (ascii "refused=12" ++ (line_end ∷ [])) (report_of input)

-- the same, where the buffer has room for the largest report, else nothing
unfoldable pub printed_for : List ℕ → ℕ → List ℕ
printed_for input room = cond (ltb room (report_room input_limit)) [] (printed_of input)

-- the contract of `printed`: how many bytes, and the whole buffer afterwards
pub record Printed (input before : List ℕ) (n : ℕ) (after : List ℕ) : Type 0 where
  pub count : n ≡ length (printed_for input (length before))
  pub bytes : after ≡ put before 0 (printed_for input (length before))
