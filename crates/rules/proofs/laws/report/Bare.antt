-- No number of a report has padding: each line of it is names with numbers behind them, and the numbers of a sound run fit 64 bits.
-- Assumes nothing.
use Rattle.std.specs.Prelude.{ℕ, zero, suc, ◌+◌, ◌^◌, ◌≤◌, ◌<◌, ◌≡◌, Bool, true, not, length, ltb, eqb, Option, Some, None}
use Rattle.std.proofs.Common.{arith, ltb-false}
use Rattle.std.proofs.Math.Path.{refl}
use Rattle.std.proofs.Math.Bool.{false, cond}
use Rattle.std.proofs.lemmas.Bool.{false≢true, not-true}
use mathlib.Core.List.{List, [], ◌∷◌, ◌++◌, append_assoc}
use Rattle.rules.specs.declared.Counts.{Counts}
use Rattle.rules.specs.declared.Step.{Step}
use Rattle.rules.specs.declared.Step.TheVariants.{Add, Remove, Query, Send, Merge, Deliver, Again, Lose}
use Rattle.rules.specs.meaning.Lengths.{M, listed}
use Rattle.rules.specs.meaning.Table.{held, shown}
use Rattle.rules.specs.meaning.Parcels.{waiting}
use Rattle.rules.specs.meaning.States.{State, table_at, StateSound}
use Rattle.rules.specs.meaning.Runs.{refusal_of, value_of}
use Rattle.rules.specs.meaning.Kinds.{numbers}
use Rattle.rules.specs.meaning.Text.{ascii}
use Rattle.rules.specs.meaning.Number.{digits, digit_of, is_digit, starts_digit}
use Rattle.rules.specs.meaning.Padding.{is_padding, padded_from, is_padded}
use Rattle.rules.specs.meaning.StepLines.{step_of, Fits}
use Rattle.rules.specs.meaning.Calls.{named_after}
use Rattle.rules.specs.meaning.Reports.{report_run, report_start, line_end, refused_line, query_line, count_line, ledger_lines, site_line, site_lines, ending, end_lines, accepted_line, line_by, said_of, last_piece, report_from, report_of, input_limit, printed_of}
use Rattle.rules.proofs.laws.table.Law.{of_most}
use Rattle.rules.proofs.laws.table.View.{parts}
use Rattle.rules.proofs.laws.run.Ledgers.{Balanced, balanced}
use Rattle.rules.proofs.laws.run.Steps.{query_own}
use Rattle.rules.proofs.laws.run.Tables.{site_sound}
use Rattle.rules.proofs.laws.history.Figure4.{figure4_query}
use Rattle.rules.proofs.laws.line.Numbers.{by_test}
use Rattle.rules.proofs.laws.line.Padding.{has_no_digit, text_bare}
use Rattle.rules.proofs.laws.line.PaddedNumbers.{digits_bare}
use Rattle.rules.proofs.laws.line.Steps.{read_step}
use Rattle.rules.proofs.laws.report.Parts.{held_within, shown_within, table_within, refusal_within}
use Rattle.rules.proofs.laws.report.Places.{start_sound, state_sound}

-- ---- a line is names, each with its number, and its end
abbrev Named_number : Type 0
Named_number = List ℕ × ℕ

-- with what stands behind it
pairs_line : List Named_number → List ℕ → List ℕ
pairs_line [] rest = line_end ∷ rest
pairs_line (p ∷ ps) rest = p.0 ++ (digits p.1 ++ pairs_line ps rest)

-- a name is not empty and has no digit
is_name : List ℕ → Bool
is_name [] = false
is_name (c ∷ l) = has_no_digit (c ∷ l)

abbrev Fine : List Named_number → Type 0
Fine [] = Unit {0}
Fine (p ∷ ps) = (is_name p.0 ≡ true) × (p.1 < 2 ^ 64) × Fine ps

name_says : (l : List ℕ) → is_name l ≡ true → (has_no_digit l ≡ true) × ((xs : List ℕ) → starts_digit (l ++ xs) ≡ false)
unfolding is_name has_no_digit starts_digit
name_says [] h = absurd (false≢true h)
name_says (c ∷ l) h = (h, λ xs. not-true _ (parts (not (is_digit c)) (has_no_digit l) h).0)

-- it has no padding where what stands behind it has none
line_bare : (ps : List Named_number) → Fine ps → (rest : List ℕ) → is_padded rest ≡ false → (starts_digit (pairs_line ps rest) ≡ false) × (is_padded (pairs_line ps rest) ≡ false)
unfolding pairs_line starts_digit digit_of is_padded padded_from is_padding
line_bare [] f rest b = (refl, b)
line_bare (p ∷ ps) f rest b =
    let i = line_bare ps f.2 rest b in
    let n = name_says p.0 f.0 in
    (n.1 _, text_bare p.0 _ n.0 (digits_bare p.1 _ f.1 i.0 i.1))

-- ---- the lines of a report
module _ (rest : List ℕ) (bare : is_padded rest ≡ false) where
  refused_bare : (n r : ℕ) → n < 2 ^ 64 → r < 2 ^ 64 → is_padded (refused_line n r ++ rest) ≡ false
  unfolding refused_line pairs_line is_name has_no_digit digit_of
  refused_bare n r p q =
      let pairs : List Named_number = (ascii "line=", n) ∷ (ascii " refused=", r) ∷ [] in
      let is : refused_line n r ++ rest ≡ pairs_line pairs rest = simp append_assoc in
      rw is (line_bare pairs (refl, p, (refl, q, tt)) rest bare).1

  bit_fits : (b : Bool) → cond b 1 0 < 2 ^ 64
  bit_fits true = omega arith
  bit_fits false = omega arith

  query_bare : (n k e m : ℕ) → n < 2 ^ 64 → k < 2 ^ 64 → e < 2 ^ 64 → m < 2 ^ 64 → is_padded (query_line n k e m ++ rest) ≡ false
  unfolding query_line pairs_line is_name has_no_digit digit_of
  query_bare n k e m p q r t =
      let pairs : List Named_number = (ascii "line=", n) ∷ (ascii " node=", k) ∷ (ascii " id=", e) ∷ (ascii " length=", m) ∷ (ascii " present=", cond (listed m) 1 0) ∷ [] in
      let is : query_line n k e m ++ rest ≡ pairs_line pairs rest = simp append_assoc in
      rw is (line_bare pairs (refl, p, (refl, q, (refl, r, (refl, t, (refl, bit_fits (listed m), tt))))) rest bare).1

  site_bare : (k : ℕ) (t : List ℕ) → k < 2 ^ 64 → held t < 2 ^ 64 → shown t < 2 ^ 64 → is_padded (site_line k t ++ rest) ≡ false
  unfolding site_line pairs_line is_name has_no_digit digit_of
  site_bare k t p q r =
      let pairs : List Named_number = (ascii "node=", k) ∷ (ascii " held=", held t) ∷ (ascii " shown=", shown t) ∷ [] in
      let is : site_line k t ++ rest ≡ pairs_line pairs rest = simp append_assoc in
      rw is (line_bare pairs (refl, p, (refl, q, (refl, r, tt))) rest bare).1

  count_bare : (name : List ℕ) (n : ℕ) → is_name name ≡ true → n < 2 ^ 64 → is_padded (count_line name n ++ rest) ≡ false
  unfolding pairs_line
  count_bare name n h p =
      let pairs : List Named_number = (name, n) ∷ [] in
      let is : count_line name n ++ rest ≡ pairs_line pairs rest = simp append_assoc in
      rw is (line_bare pairs (h, p, tt) rest bare).1

-- ---- the end of a report
sites_bare : (n k : ℕ) (ws : List ℕ) → n + k < 2 ^ 64 → is_padded (site_lines n k ws) ≡ false
unfolding site_lines is_padded padded_from
sites_bare zero k ws p = refl
sites_bare (suc n) k ws p =
    let t = table_at report_run ws k in
    site_bare (site_lines n (suc k) ws) (sites_bare n (suc k) ws (omega arith)) k t (omega arith) (omega (arith, held_within t, table_within ws k)) (omega (arith, shown_within t, table_within ws k))

ledger_bare : (c : Counts) (w : ℕ) (rest : List ℕ) → Balanced M w c → is_padded rest ≡ false → is_padded (ledger_lines c w ++ rest) ≡ false
unfolding ledger_lines is_name has_no_digit digit_of
ledger_bare c w rest b h =
    let e = count_bare rest h (ascii "waiting=") w refl (omega (arith, b.sent_fits, b.copied_fits, b.sums)) in
    let d = count_bare _ e (ascii "lost=") c.lost refl (omega (arith, b.lost_fits)) in
    let a = count_bare _ d (ascii "absorbed=") c.absorbed refl (omega (arith, b.absorbed_fits)) in
    let m = count_bare _ a (ascii "copied=") c.copied refl (omega (arith, b.copied_fits)) in
    let s = count_bare _ m (ascii "sent=") c.sent refl (omega (arith, b.sent_fits)) in
    simp append_assoc (simp append_assoc at s)

end_bare : (s : State) → StateSound report_run s → is_padded (end_lines s) ≡ false
unfolding ending
end_bare s so = ledger_bare s.ledger.counts (waiting s.slots) _ (balanced M (waiting s.slots) s.ledger.counts so.3) (sites_bare 3 0 s.words (omega arith))

-- ---- what a line of the input adds
module _ (n : ℕ) (fits : n < 2 ^ 64) (s : State) (rest : List ℕ) (bare : is_padded rest ≡ false) where
  -- an accepted query prints the length, which is at most M
  accepted_bare : (step : Step) → Fits step → StateSound report_run s → refusal_of report_run s step ≡ 0 → is_padded (accepted_line n step (value_of report_run s step) ++ rest) ≡ false
  unfolding accepted_line numbers
  accepted_bare (Query k e) f so a =
      let m : value_of report_run s (Query k e) ≤ M = rw (figure4_query report_run s k e).0 (of_most M _ (site_sound report_run s so k (query_own report_run s k e a)) e) in
      query_bare rest bare n k e (value_of report_run s (Query k e)) fits f.0 f.2 (omega arith)
  accepted_bare (Add k e) f so a = bare
  accepted_bare (Remove k e) f so a = bare
  accepted_bare (Send j k e) f so a = bare
  accepted_bare (Merge j k) f so a = bare
  accepted_bare (Deliver i) f so a = bare
  accepted_bare (Again i) f so a = bare
  accepted_bare (Lose i) f so a = bare

  step_bare : (step : Step) → Fits step → StateSound report_run s → (r : ℕ) → refusal_of report_run s step ≡ r → r ≤ 99 → is_padded (line_by r n step (value_of report_run s step) ++ rest) ≡ false
  step_bare step f so zero e h = accepted_bare step f so e
  step_bare step f so (suc r) e h = refused_bare rest bare n (suc r) fits (omega arith)

  said_bare : (line : List ℕ) → StateSound report_run s → is_padded (said_of n s (step_of line) ++ rest) ≡ false
  unfolding said_of
  said_bare line so = go (step_of line) refl
    where
      go : (r : Option Step) → step_of line ≡ r → is_padded (said_of n s r ++ rest) ≡ false
      go (Some step) e = step_bare step (read_step line step e).fits so (refusal_of report_run s step) refl (refusal_within report_run s step)
      go None e = refused_bare rest bare n 11 fits (omega arith)

-- ---- the whole
report_bare : (n : ℕ) (s : State) (line input : List ℕ) → StateSound report_run s → n + length input < 2 ^ 64 → is_padded (report_from n s line input) ≡ false
unfolding report_from last_piece
report_bare n s [] [] so p = end_bare s so
report_bare n s (c ∷ line) [] so p = refused_bare (end_lines s) (end_bare s so) n 11 (omega arith) (omega arith)
report_bare n s line (c ∷ cs) so p =
    by_test (eqb c line_end)
    (λ ends. rw ends (said_bare n (omega arith) s _ (report_bare (suc n) (named_after report_run s (step_of line)) [] cs (state_sound s (step_of line) so) (omega arith)) line so))
    (λ more. rw more (report_bare n s (line ++ (c ∷ [])) cs so (omega arith)))

pub report_has_none : (input : List ℕ) → length input ≤ input_limit → is_padded (report_of input) ≡ false
unfolding report_of
report_has_none input h = report_bare 1 report_start [] input start_sound (omega arith)

-- nor has the line that is printed for an input over the limit
over_bare : is_padded (ascii "refused=12" ++ (line_end ∷ [])) ≡ false
unfolding is_padded padded_from is_padding digit_of starts_digit
over_bare = refl

pub print_has_none : (input : List ℕ) → is_padded (printed_of input) ≡ false
unfolding printed_of
print_has_none input =
    by_test (ltb input_limit (length input))
    (λ over. rw over over_bare)
    (λ within. rw within (report_has_none input (ltb-false input_limit (length input) within)))
