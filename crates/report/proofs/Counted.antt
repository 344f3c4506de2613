-- What the end of a report counts: the slots that are not free, and the entries of each table.
-- Assumes nothing.
use Prim.Native.Nat.{ℕ, suc, ◌+◌, ◌*◌, ◌-◌, ◌≤◌, ◌<◌}
use native.Mathlib.Omega.{arith}
use native.Mathlib.Numerals.{add-one}
use mathlib.Core.Path.{◌≡◌, refl, ap, ◌∙◌}
use mathlib.Core.Bool.{Bool, true, false, cond}
use Rattle.std.proofs.Common.{not}
use Rattle.std.specs.List.{count_by}
use Rattle.std.proofs.lemmas.List.Recursion.{is_count_by}
use mathlib.Core.List.{List, [], ◌∷◌, ◌++◌, append_assoc}
use lib.ListN.{length, length-append, take, drop}
use Rattle.rules.specs.declared.Parcel.{Parcel}
use Rattle.rules.specs.declared.Counts.{Counts}
use Rattle.rules.specs.meaning.Lengths.{M}
use Rattle.rules.specs.meaning.Parcels.{is_free, waiting}
use Rattle.rules.specs.meaning.Table.{held, shown}
use Rattle.rules.specs.meaning.States.{State, table_at, StateSound}
use Rattle.rules.proofs.laws.run.Tables.{words_long}
use Rattle.rules.proofs.laws.run.Sites.{tables_at}
use Rattle.rules.specs.meaning.Text.{ascii}
use Rattle.rules.specs.meaning.Reports.{report_run, count_line, ledger_lines, site_line, site_lines, ending}
use Rattle.report.specs.Tables.{ThreeTables}
use Rattle.report.proofs.Words.{pair}

-- ---- waiting: the slots that are not free
waiting_more : (p : Parcel) (ps : List Parcel) → waiting (p ∷ ps) ≡ cond (not (is_free p)) (1 + waiting ps) (waiting ps)
unfolding waiting
waiting_more p ps = by_test (is_free p)
  where
    by_test : (b : Bool) → cond b (waiting ps) (suc (waiting ps)) ≡ cond (not b) (1 + waiting ps) (waiting ps)
    by_test true = refl
    by_test false = omega arith

waiting_none : waiting [] ≡ 0
unfolding waiting
waiting_none = refl

pub waiting_counts : (ps : List Parcel) → waiting ps ≡ count_by (λ p. not (is_free p)) ps
waiting_counts ps = is_count_by waiting (λ p. not (is_free p)) waiting_none waiting_more ps

-- ---- the lines of the sites that are left
sites_suc : (n k : ℕ) (ws : List ℕ) → site_lines (suc n) k ws ≡ site_line k (table_at report_run ws k) ++ site_lines n (suc k) ws
unfolding site_lines
sites_suc n k ws = refl

-- the words of a site as the code takes them
abbrev pub part_of : List ℕ → ℕ → List ℕ
part_of ws k = take (k * 16 + 16 - k * 16) (drop (k * 16) ws)

pub part_is : (ws : List ℕ) (k : ℕ) → part_of ws k ≡ table_at report_run ws k
unfolding table_at
part_is ws k = let e : k * 16 + 16 - k * 16 ≡ 16 = omega arith in rw e

pub sites_from : (k : ℕ) (ws : List ℕ) → k < 3 → site_lines (3 - k) k ws ≡ site_line k (part_of ws k) ++ site_lines (3 - (k + 1)) (k + 1) ws
sites_from k ws l =
    let n : 3 - k ≡ suc (3 - (k + 1)) = omega arith in
    ap (λ (j : ℕ). site_lines j k ws) n ∙ sites_suc (3 - (k + 1)) k ws
    ∙ rw (part_is ws k, add-one k)

pub sites_end : (k : ℕ) (ws : List ℕ) → 3 ≤ k → site_lines (3 - k) k ws ≡ []
unfolding site_lines
sites_end k ws l = let n : 3 - k ≡ 0 = omega arith in rw n

-- ---- the line of a site by its three pieces
pub site_pieces : (k : ℕ) (t : List ℕ) → site_line k t ≡ pair (ascii "node=") k ++ (pair (ascii " held=") (held t) ++ count_line (ascii " shown=") (shown t))
unfolding site_line
site_pieces k t = simp append_assoc

pub site_long : (k : ℕ) (t : List ℕ) → length (site_line k t) ≡ length (pair (ascii "node=") k) + (length (pair (ascii " held=") (held t)) + length (count_line (ascii " shown=") (shown t)))
site_long k t = ap length (site_pieces k t) ∙ simp (length-append {A = ℕ})

-- ---- a sound run has three sound tables
pub three_tables : (s : State) → StateSound report_run s → ThreeTables s.words
unfolding table_at
three_tables s h = record {
  count = words_long report_run (length s.words) (length s.slots) h.0;
  sound = λ k l. tables_at M 16 3 s.words h.1 k l;
}

pub end_pieces : (ws : List ℕ) (ss : List Parcel) (c : Counts) → ending ws ss c ≡ ledger_lines c (waiting ss) ++ site_lines 3 0 ws
unfolding ending
end_pieces ws ss c = refl

pub end_long : (ws : List ℕ) (ss : List Parcel) (c : Counts) → length (ending ws ss c) ≡ length (ledger_lines c (waiting ss)) + length (site_lines 3 0 ws)
end_long ws ss c = ap length (end_pieces ws ss c) ∙ length-append (ledger_lines c (waiting ss)) _
