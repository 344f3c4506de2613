-- The lines of a report by the pieces in which they are written.
-- Assumes nothing.
use Prim.Native.Nat.{ℕ, zero, suc, ◌+◌, ◌≤◌, ◌<◌}
use native.Mathlib.Omega.{arith}
use mathlib.Core.Path.{◌≡◌, refl, sym, ap, ◌∙◌}
use mathlib.Core.Bool.{Bool, true, false, cond}
use mathlib.Core.List.{List, [], ◌∷◌, ◌++◌, append_assoc}
use lib.ListN.{length, length-append}
use Rattle.std.specs.Prelude.{Option, Some, None, Result, Ok, Err}
use Rattle.rules.specs.declared.Refusal.{Refusal}
use Rattle.rules.specs.meaning.Refusals.{number_of}
use Rattle.rules.specs.meaning.Calls.{named_answer}
use Rattle.rules.proofs.laws.Determined.{numbered}
use Rattle.report.specs.Ahead.{line_told}
use Rattle.rules.specs.declared.Counts.{Counts}
use Rattle.rules.specs.meaning.Operations.{Answer}
use Rattle.rules.specs.declared.Step.{Step}
use Rattle.rules.specs.declared.Step.TheVariants.{Add, Remove, Query, Send, Merge, Deliver, Again, Lose}
use Rattle.rules.specs.meaning.Lengths.{listed}
use Rattle.rules.specs.meaning.Operations.{answer, as_answer}
use Rattle.rules.specs.meaning.States.{State}
use Rattle.rules.specs.meaning.Runs.{refusal_of, value_of, answer_of}
use Rattle.rules.specs.meaning.Kinds.{numbers, is_query}
use Rattle.rules.specs.meaning.Text.{ascii}
use Rattle.rules.specs.meaning.Number.{digits}
use Rattle.rules.specs.meaning.Reports.{report_run, line_end, refused_line, query_line, count_line, ledger_lines, accepted_line, line_by, said_of}
use Rattle.rules.proofs.laws.report.Parts.{refusal_within, refused_within, query_within}

-- a name and a number
abbrev pub pair : List ℕ → ℕ → List ℕ
pair name n = name ++ digits n

-- the last pair of a line
pub count_pieces : (name : List ℕ) (n : ℕ) → count_line name n ≡ pair name n ++ (line_end ∷ [])
count_pieces name n = sym (append_assoc name (digits n) (line_end ∷ []))

pub count_long : (name : List ℕ) (n : ℕ) → length (count_line name n) ≡ length (pair name n) + 1
count_long name n = ap length (count_pieces name n) ∙ length-append (pair name n) (line_end ∷ [])

pub refused_pieces : (n r : ℕ) → refused_line n r ≡ pair (ascii "line=") n ++ count_line (ascii " refused=") r
unfolding refused_line
refused_pieces n r = sym (append_assoc (ascii "line=") (digits n) _)

pub refused_long : (n r : ℕ) → length (refused_line n r) ≡ length (pair (ascii "line=") n) + length (count_line (ascii " refused=") r)
refused_long n r = ap length (refused_pieces n r) ∙ length-append (pair (ascii "line=") n) _

pub query_pieces : (n k e m : ℕ) → query_line n k e m
    ≡ pair (ascii "line=") n ++ (pair (ascii " node=") k ++ (pair (ascii " id=") e ++ (pair (ascii " length=") m ++ count_line (ascii " present=") (cond (listed m) 1 0))))
unfolding query_line
query_pieces n k e m = simp append_assoc

pub query_long : (n k e m : ℕ) → length (query_line n k e m)
    ≡ length (pair (ascii "line=") n) + (length (pair (ascii " node=") k) + (length (pair (ascii " id=") e) + (length (pair (ascii " length=") m) + length (count_line (ascii " present=") (cond (listed m) 1 0)))))
query_long n k e m = ap length (query_pieces n k e m) ∙ simp (length-append {A = ℕ})

pub ledger_pieces : (l : Counts) (w : ℕ) → ledger_lines l w
    ≡ count_line (ascii "sent=") l.sent ++ (count_line (ascii "copied=") l.copied ++ (count_line (ascii "absorbed=") l.absorbed ++ (count_line (ascii "lost=") l.lost ++ count_line (ascii "waiting=") w)))
unfolding ledger_lines
ledger_pieces l w = refl

pub ledger_long : (l : Counts) (w : ℕ) → length (ledger_lines l w)
    ≡ length (count_line (ascii "sent=") l.sent) + (length (count_line (ascii "copied=") l.copied) + (length (count_line (ascii "absorbed=") l.absorbed) + (length (count_line (ascii "lost=") l.lost) + length (count_line (ascii "waiting=") w))))
ledger_long l w = ap length (ledger_pieces l w) ∙ simp (length-append {A = ℕ})

-- ---- what a line says, by the answer of its step
pub refused_by : (r n : ℕ) (step : Step) (m : ℕ) → (r ≡ 0 → ⊥) → line_by r n step m ≡ refused_line n r
refused_by zero n step m h = absurd (h refl)
refused_by (suc r) n step m h = refl

pub accepted_by : (r n : ℕ) (step : Step) (m : ℕ) → r ≡ 0 → line_by r n step m ≡ accepted_line n step m
accepted_by zero n step m h = refl
accepted_by (suc r) n step m h = absurd (omega arith)

pub asked_by : (r n : ℕ) (step : Step) (k e m : ℕ) → r ≡ 0 → step ≡ Query k e → line_by r n step m ≡ query_line n k e m
unfolding accepted_line numbers
asked_by r n step k e m h q = accepted_by r n step m h ∙ ap (λ (x : Step). accepted_line n x m) q

-- every kind but the third says nothing
pub not_query : (n : ℕ) (step : Step) (m : ℕ) → ((k e : ℕ) → step ≡ Query k e → ⊥) → accepted_line n step m ≡ []
unfolding accepted_line numbers
not_query n (Add k e) m h = refl
not_query n (Remove k e) m h = refl
not_query n (Query k e) m h = absurd (h k e refl)
not_query n (Send f t e) m h = refl
not_query n (Merge f t) m h = refl
not_query n (Deliver i) m h = refl
not_query n (Again i) m h = refl
not_query n (Lose i) m h = refl

pub silent_by : (r n : ℕ) (step : Step) (m : ℕ) → r ≡ 0 → ((k e : ℕ) → step ≡ Query k e → ⊥) → line_by r n step m ≡ []
silent_by r n step m h o = accepted_by r n step m h ∙ not_query n step m o

-- ---- a line, by what was read of it
-- the value that a refused step has not got is not asked for
line_answer : (r v n : ℕ) (step : Step) → line_by (answer r v).refusal n step (answer r v).value ≡ line_by r n step v
line_answer zero v n step = refl
line_answer (suc r) v n step = refl

pub said_none : (n : ℕ) (s : State) (r : Option Step) → r ≡ None → said_of n s r ≡ refused_line n 11
unfolding said_of
said_none n s r e = rw e

pub said_step : (n : ℕ) (s : State) (r : Option Step) (step : Step) (a : Answer) → r ≡ Some step → a ≡ answer_of report_run s step → said_of n s r ≡ line_by a.refusal n step a.value
unfolding said_of
said_step n s r step a e h = rw (e, h) (sym (line_answer (refusal_of report_run s step) (value_of report_run s step) n step))

-- what was answered to a line is what the line says
pub said_told : (n : ℕ) (s : State) (names : Option Step) (a : Result ℕ Refusal) → as_answer a ≡ named_answer report_run s names → said_of n s names ≡ line_told a n names
unfolding said_of named_answer
said_told n s (Some step) (Ok m) e = said_step n s (Some step) step (as_answer (Ok m)) refl e
said_told n s (Some step) (Err r) e = let above = numbered r in said_step n s (Some step) step (as_answer (Err r)) refl e ∙ refused_by (number_of r) n step 0 (λ z. omega (arith, z))
said_told n s None (Ok m) e = let no : ◌≡◌ {A = ℕ} 0 11 = ap (λ (x : Answer). x.refusal) e in absurd (omega (arith, no))
said_told n s None (Err r) e = let eleven : number_of r ≡ 11 = ap (λ (x : Answer). x.refusal) e in ap (refused_line n) (sym eleven)

-- ---- no line is longer than 99 bytes
accepted_short : (n : ℕ) (step : Step) (m : ℕ) → n < 100000 → length (accepted_line n step m) ≤ 99
unfolding accepted_line
accepted_short n step m p = go (is_query step)
  where
    go : (b : Bool) → length (cond b (query_line n (numbers step).first (numbers step).id m) []) ≤ 99
    go true = query_within n (numbers step).first (numbers step).id m p
    go false = omega arith

line_short : (r n : ℕ) (step : Step) (m : ℕ) → n < 100000 → r ≤ 99 → length (line_by r n step m) ≤ 99
line_short zero n step m p q = accepted_short n step m p
line_short (suc r) n step m p q = let a : length (refused_line n (suc r)) ≤ 22 = refused_within n (suc r) p (omega arith) in omega arith

pub said_short : (n : ℕ) (s : State) (r : Option Step) → n < 100000 → length (said_of n s r) ≤ 99
unfolding said_of
said_short n s (Some step) p = line_short (refusal_of report_run s step) n step (value_of report_run s step) p (refusal_within report_run s step)
said_short n s None p = let a = refused_within n 11 p (omega arith) in omega arith
