-- The sample of document 01 with the site lines of request 1, byte for byte, and how lines, pieces and limits are counted, computed from the definitions as they stand.
-- Assumes nothing.
use Rattle.std.specs.Prelude.{ℕ, ◌≤◌, ◌<◌, true, false, ◌≡◌, refl, List, [], ◌∷◌, ◌++◌, length, ltb}
use Rattle.std.proofs.Common.{arith, sym, ap, ◌∙◌, lt-ltb, le-ltb}
use Rattle.rules.specs.meaning.Lengths.{listed, after_add, after_remove}
use Rattle.rules.specs.meaning.Table.{unused, sound_from, length_of, held, shown, push, with_length, raised, held_with, merged, new_ids, rises}
use Rattle.rules.specs.meaning.Operations.{raise_refusal, raise_table, remove_refusal, remove_table, merge_refusal, merge_table}
use Rattle.rules.specs.meaning.Parcels.{is_free, is_occupied, slots_sound, waiting, lowest_free}
use Rattle.rules.specs.meaning.Ledgers.{counts_sound, one_more, raised_if}
use Rattle.rules.specs.meaning.Refusals.{first_given}
use Rattle.rules.specs.meaning.Serials.{next_serial, is_newer, ahead, is_ordered}
use Rattle.rules.specs.meaning.Links.{link_between, pair_sound, over_row, over_rows, links_sound, moves_on, heard_pair, incomparable}
use Rattle.rules.specs.meaning.Kinds.{slot_of, link_of, numbers}
use Rattle.rules.specs.meaning.States.{table_at, with_table, sizes_right, tables_sound, all_sound}
use Rattle.rules.specs.meaning.Steps.{effect}
use Rattle.rules.specs.meaning.Runs.{refusal_in, refusal_of, value_of, after}
use Rattle.rules.specs.meaning.Text.{ascii, behind}
use Rattle.rules.specs.meaning.Number.{up_to, digits, digit_of, digit_run, fair, judged, read_number}
use Rattle.rules.specs.meaning.Lines.{lead, field, text_of, names_step, first_of, kind_of, read_field, numbers_of}
use Rattle.rules.specs.meaning.StepLines.{step_for, step_in, line_of, step_of}
use Rattle.rules.specs.meaning.Calls.{named_after}
use Rattle.rules.specs.meaning.Reports.{report_start, refused_line, query_line, ledger_lines, site_line, site_lines, ending, accepted_line, said_of, last_piece, report_from, report_of, input_limit, report_refusal, printed_of}
use Rattle.rules.proofs.laws.report.Fits.{report_over, room_taken}
use Rattle.rules.proofs.laws.report.Pieces.{unbroken, joined, all_unbroken, pieces_from, report_of_pieces}
use Rattle.rules.proofs.laws.report.Steps.{lines_of, fits, all_fit, steps_fit, steps_from, report_of_steps}
use Rattle.rules.proofs.cases.Sample.{sample_steps}

-- the input of document 01's sample, and its whole output; its last three lines are those of request 1
abbrev pub sample_input : List ℕ
sample_input =
    ascii "step=add node=0 id=7\nstep=add node=1 id=7\nstep=send from=1 to=2 id=7\nstep=deliver slot=0\n"
    ++ ascii "step=remove node=0 id=7\nstep=remove node=1 id=7\nstep=remove node=2 id=7\nstep=add node=1 id=7\n"
    ++ ascii "step=send from=0 to=1 id=7\nstep=again slot=0\nstep=deliver slot=1\nstep=lose slot=0\nstep=deliver slot=0\n"
    ++ ascii "step=merge from=1 to=2\nstep=remove node=2 id=7\nstep=query node=1 id=7\nstep=query node=2 id=7\n"

abbrev pub sample_output : List ℕ
sample_output =
    ascii "line=13 refused=5\nline=16 node=1 id=7 length=3 present=1\nline=17 node=2 id=7 length=4 present=0\n"
    ++ ascii "sent=2\ncopied=1\nabsorbed=2\nlost=1\nwaiting=0\nnode=0 held=1 shown=0\nnode=1 held=1 shown=1\nnode=2 held=1 shown=0\n"

-- the input is the lines of the sample's steps
sample_lines : lines_of sample_steps ≡ sample_input
unfolding lines_of line_of numbers text_of lead field digits up_to
sample_lines = refl

sample_fits : all_fit sample_steps ≡ true
unfolding all_fit fits numbers
sample_fits = refl

-- what those steps say
sample_said : steps_from 1 report_start sample_steps ≡ sample_output
unfolding steps_from listed after_add after_remove unused sound_from length_of held shown push with_length raised held_with merged new_ids rises raise_refusal raise_table remove_refusal remove_table merge_refusal merge_table is_free is_occupied slots_sound waiting lowest_free counts_sound one_more raised_if table_at with_table sizes_right tables_sound all_sound slot_of numbers first_given refusal_in effect refusal_of value_of after link_of link_between pair_sound over_row over_rows links_sound moves_on heard_pair incomparable next_serial is_newer ahead is_ordered digits up_to refused_line query_line ledger_lines site_line site_lines ending accepted_line said_of
sample_said = refl

-- "Whole output": the report of the sample's input is the sample's output, byte for byte
pub sample_report : report_of sample_input ≡ sample_output
sample_report = ap report_of (sym sample_lines) ∙ report_of_steps sample_steps (steps_fit sample_steps sample_fits) ∙ sample_said

-- what every report of a run that no step changed ends with
abbrev pub empty_end : List ℕ
empty_end = ascii "sent=0\ncopied=0\nabsorbed=0\nlost=0\nwaiting=0\nnode=0 held=0 shown=0\nnode=1 held=0 shown=0\nnode=2 held=0 shown=0\n"

-- ---- how lines and pieces are counted, and the ends of reports. Each row is computed over its pieces: taken byte by byte, the
-- work of the checker about doubles with every byte
pub record ReportCases : Type 0 where
  -- no input
  pub nothing : report_of [] ≡ empty_end
  -- an empty line
  pub empty_line : report_of (ascii "\n") ≡ ascii "line=1 refused=11\n" ++ empty_end
  -- a last piece without its end is refused and never run, be it a step's line or one byte
  pub unended : report_of (ascii "\n\nstep=add node=0 id=7") ≡ ascii "line=1 refused=11\nline=2 refused=11\nline=3 refused=11\n" ++ empty_end
  pub one_byte : report_of (ascii " ") ≡ ascii "line=1 refused=11\n" ++ empty_end
  -- a carriage return is a byte of the line like any other
  pub returned : report_of (ascii "step=query node=2 id=0\r\nstep=query node=2 id=0\n")
      ≡ ascii "line=1 refused=11\nline=2 node=2 id=0 length=0 present=0\n" ++ empty_end
  -- a line that names no step is counted, and the run goes on from the state before it
  pub between : report_of (ascii "step=add node=0 id=7\nstep=add node=0 id=\nstep=query node=0 id=7\n")
      ≡ ascii "line=2 refused=11\nline=3 node=0 id=7 length=1 present=1\n"
      ++ ascii "sent=0\ncopied=0\nabsorbed=0\nlost=0\nwaiting=0\nnode=0 held=1 shown=1\nnode=1 held=0 shown=0\nnode=2 held=0 shown=0\n"
  -- numbers are printed without the zeros that stood in front of them, and 21 digits are refused
  pub padded : report_of (ascii "step=add node=00 id=00000000000000000007\nstep=query node=000 id=07\nstep=query node=0 id=000000000000000000007\n")
      ≡ ascii "line=2 node=0 id=7 length=1 present=1\nline=3 refused=11\n"
      ++ ascii "sent=0\ncopied=0\nabsorbed=0\nlost=0\nwaiting=0\nnode=0 held=1 shown=1\nnode=1 held=0 shown=0\nnode=2 held=0 shown=0\n"
  -- a refused query says its refusal alone, and a parcel that waits is counted
  pub waits : report_of (ascii "step=add node=0 id=7\nstep=send from=0 to=1 id=7\nstep=query node=3 id=0\n")
      ≡ ascii "line=3 refused=3\n"
      ++ ascii "sent=1\ncopied=0\nabsorbed=0\nlost=0\nwaiting=1\nnode=0 held=1 shown=1\nnode=1 held=0 shown=0\nnode=2 held=0 shown=0\n"

pub report_cases : ReportCases
unfolding unbroken joined all_unbroken pieces_from listed after_add after_remove unused sound_from length_of held shown push with_length raised held_with merged new_ids rises raise_refusal raise_table remove_refusal remove_table merge_refusal merge_table is_free is_occupied slots_sound waiting lowest_free counts_sound one_more raised_if table_at with_table sizes_right tables_sound all_sound slot_of numbers first_given refusal_in effect refusal_of value_of after link_of link_between pair_sound over_row over_rows links_sound moves_on heard_pair incomparable next_serial is_newer ahead is_ordered behind up_to digits digit_of digit_run fair judged read_number lead names_step first_of kind_of read_field numbers_of step_for step_in step_of refused_line query_line ledger_lines site_line site_lines ending accepted_line said_of named_after last_piece
report_cases = record {
  nothing = report_of_pieces [] [] refl refl;
  empty_line = report_of_pieces ([] ∷ []) [] refl refl;
  unended = report_of_pieces ([] ∷ [] ∷ []) (ascii "step=add node=0 id=7") refl refl;
  one_byte = report_of_pieces [] (ascii " ") refl refl;
  returned = report_of_pieces (ascii "step=query node=2 id=0\r" ∷ ascii "step=query node=2 id=0" ∷ []) [] refl refl;
  between = report_of_pieces (ascii "step=add node=0 id=7" ∷ ascii "step=add node=0 id=" ∷ ascii "step=query node=0 id=7" ∷ []) [] refl refl;
  padded = report_of_pieces (ascii "step=add node=00 id=00000000000000000007" ∷ ascii "step=query node=000 id=07" ∷ ascii "step=query node=0 id=000000000000000000007" ∷ []) [] refl refl;
  waits = report_of_pieces (ascii "step=add node=0 id=7" ∷ ascii "step=send from=0 to=1 id=7" ∷ ascii "step=query node=3 id=0" ∷ []) [] refl refl;
}

-- ---- the limits: 32,768 bytes are run and 32,769 are not, whatever the room; 721,152 bytes hold every report; the empty input's has 110
pub longest : (input : List ℕ) → length input ≡ 32768 → report_refusal input 721152 ≡ 0
longest input h = room_taken input 721152 (omega (arith, h)) (omega (arith, h))

pub too_long : (input : List ℕ) (room : ℕ) → length input ≡ 32769 → report_refusal input room ≡ 12
too_long input room h = report_over input room (omega (arith, h))

pub record LimitCases : Type 0 where
  pub just_fits : report_refusal [] 110 ≡ 0
  pub a_byte_short : report_refusal [] 109 ≡ 13

pub limit_cases : LimitCases
unfolding first_given report_refusal report_of report_from last_piece ending ledger_lines site_lines site_line digits up_to waiting is_free listed held shown table_at
limit_cases = record { just_fits = refl; a_byte_short = refl }

-- "An input over 32,768 bytes prints only `refused=12`", as a line
pub printed_over : (input : List ℕ) → 32768 < length input → printed_of input ≡ ascii "refused=12\n"
unfolding printed_of
printed_over input h = let over : ltb input_limit (length input) ≡ true = lt-ltb input_limit (length input) h in rw over

-- "Otherwise it prints" the report
pub printed_whole : (input : List ℕ) → length input ≤ 32768 → printed_of input ≡ report_of input
unfolding printed_of
printed_whole input h = let within : ltb input_limit (length input) ≡ false = le-ltb input_limit (length input) h in rw within
