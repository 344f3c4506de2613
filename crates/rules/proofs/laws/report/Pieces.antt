-- The report of a text by its pieces: the lines that are ended, and the last piece, which is not.
-- Assumes nothing.
use Rattle.std.specs.Prelude.{ℕ, suc, ◌≡◌, refl, Bool, true, ◌&&◌, not, List, [], ◌∷◌, ◌++◌, eqb}
use Rattle.std.proofs.Common.{sym, ap, ◌∙◌, append_assoc, append-nil}
use Rattle.std.proofs.lemmas.Bool.{eqb-false, not-true}
use Rattle.rules.proofs.laws.table.View.{parts}
use Rattle.rules.specs.meaning.States.{State}
use Rattle.rules.specs.meaning.StepLines.{step_of}
use Rattle.rules.specs.meaning.Calls.{named_after}
use Rattle.rules.specs.meaning.Reports.{report_run, report_start, line_end, end_lines, said_of, last_piece, report_from, report_of}
use Rattle.rules.proofs.laws.report.Fits.{report_line, report_byte}

-- ---- a text without a line's end in it
unfoldable pub unbroken : List ℕ → Bool
unbroken [] = true
unbroken (c ∷ cs) = not (eqb c line_end) && unbroken cs

-- it is one line, or a part of one
pub report_piece : (n : ℕ) (s : State) (line text rest : List ℕ) → unbroken text ≡ true → report_from n s line (text ++ rest) ≡ report_from n s (line ++ text) rest
unfolding unbroken
report_piece n s line [] rest h = rw (append-nil line)
report_piece n s line (c ∷ cs) rest h =
    let a = parts (not (eqb c line_end)) (unbroken cs) h in
    report_byte n s line c (cs ++ rest) (eqb-false c line_end (not-true (eqb c line_end) a.0))
    ∙ report_piece n s (line ++ (c ∷ [])) cs rest a.1
    ∙ ap (λ (t : List ℕ). report_from n s t rest) (append_assoc line (c ∷ []) cs)

-- a whole line
pub report_text : (n : ℕ) (s : State) (text rest : List ℕ) → unbroken text ≡ true
    → report_from n s [] (text ++ (line_end ∷ rest)) ≡ said_of n s (step_of text) ++ report_from (suc n) (named_after report_run s (step_of text)) [] rest
report_text n s text rest h = report_piece n s [] text (line_end ∷ rest) h ∙ report_line n s text line_end rest refl

-- ---- the pieces of a text
-- the text of some lines, each with its end, and of what stands behind the last end
unfoldable pub joined : List (List ℕ) → List ℕ → List ℕ
joined [] last = last
joined (text ∷ texts) last = text ++ (line_end ∷ joined texts last)

unfoldable pub all_unbroken : List (List ℕ) → Bool
all_unbroken [] = true
all_unbroken (text ∷ texts) = unbroken text && all_unbroken texts

-- what they say in their turn, from line n on in a state, and the end
unfoldable pub pieces_from : ℕ → State → List (List ℕ) → List ℕ → List ℕ
pieces_from n s [] last = last_piece n last ++ end_lines s
pieces_from n s (text ∷ texts) last = said_of n s (step_of text) ++ pieces_from (suc n) (named_after report_run s (step_of text)) texts last

-- an unended piece at the end of the input
last_alone : (n : ℕ) (s : State) (last : List ℕ) → unbroken last ≡ true → report_from n s [] last ≡ last_piece n last ++ end_lines s
unfolding report_from
last_alone n s last h = ap (λ (t : List ℕ). report_from n s [] t) (sym (append-nil last)) ∙ report_piece n s [] last [] h

pieces_from_law : (n : ℕ) (s : State) (texts : List (List ℕ)) (last : List ℕ) → all_unbroken texts ≡ true → unbroken last ≡ true
    → report_from n s [] (joined texts last) ≡ pieces_from n s texts last
unfolding joined all_unbroken pieces_from
pieces_from_law n s [] last h u = last_alone n s last u
pieces_from_law n s (text ∷ texts) last h u =
    let a = parts (unbroken text) (all_unbroken texts) h in
    report_text n s text (joined texts last) a.0
    ∙ ap (λ (t : List ℕ). said_of n s (step_of text) ++ t) (pieces_from_law (suc n) (named_after report_run s (step_of text)) texts last a.1 u)

-- the report of a text is what its pieces say, run from fresh
pub report_of_pieces : (texts : List (List ℕ)) (last : List ℕ) → all_unbroken texts ≡ true → unbroken last ≡ true
    → report_of (joined texts last) ≡ pieces_from 1 report_start texts last
unfolding report_of
report_of_pieces texts last h u = pieces_from_law 1 report_start texts last h u
