-- The kind of a line: two of its bytes leave one kind, and then one lead is tried.
use mathlib.Core.Path.{◌≡◌, refl, sym, ap, ◌∙◌}
use mathlib.Core.Bool.{cond}
use mathlib.Core.List.{List, ◌++◌}
use Prim.Native.Nat.{ℕ, zero, suc, ◌≤◌, ◌<◌}
use native.Mathlib.Omega.{arith}
use lib.Dec.{eqb}
use lib.ListN.{length, get_or, drop, length-append, get_or-append}
use Rattle.std.specs.Prelude.{Some, None}
use Rattle.rules.specs.meaning.Text.{front, refused, behind}
use Rattle.rules.specs.meaning.Lines.{lead, kind_of}
use Rattle.rules.proofs.laws.line.Lines.{kind_lead, kind_text, behind_is, behind_text, front_cases}
use Rattle.rules.specs.meaning.Places.{text_at, kind_at}
use Rattle.rules.proofs.laws.line.Places.{to_place, to_none, from_none, text_says}

-- ---- the kind that two bytes leave, as the code tells it
unfoldable pub told : ℕ → ℕ → ℕ
told a b =
    cond (eqb a 114) 2
    (cond (eqb a 113) 3
    (cond (eqb a 115) 4
    (cond (eqb a 109) 5
    (cond (eqb a 100) 6
    (cond (eqb a 108) 8
    (cond (eqb b 103) 7 1))))))

-- each lead has the bytes by which it is told, and more
record Seen (k : ℕ) : Type 0 where
  pub is : told (get_or (lead k) 5 0) (get_or (lead k) 6 0) ≡ k
  pub long : 7 ≤ length (lead k)

seen : (k : ℕ) → 1 ≤ k → k ≤ 8 → Seen k
unfolding told lead
seen zero p q = absurd (omega arith)
seen (suc zero) p q = record { is = refl; long = omega arith }
seen (suc (suc zero)) p q = record { is = refl; long = omega arith }
seen (suc (suc (suc zero))) p q = record { is = refl; long = omega arith }
seen (suc (suc (suc (suc zero)))) p q = record { is = refl; long = omega arith }
seen (suc (suc (suc (suc (suc zero))))) p q = record { is = refl; long = omega arith }
seen (suc (suc (suc (suc (suc (suc zero)))))) p q = record { is = refl; long = omega arith }
seen (suc (suc (suc (suc (suc (suc (suc zero))))))) p q = record { is = refl; long = omega arith }
seen (suc (suc (suc (suc (suc (suc (suc (suc zero)))))))) p q = record { is = refl; long = omega arith }
seen (suc (suc (suc (suc (suc (suc (suc (suc (suc k))))))))) p q = absurd (omega arith)

pub only : (a b r : ℕ) → 1 ≤ r → r ≤ 8 → told a b ≡ r
    → (1 ≤ r) × (r ≤ 8) × ((k : ℕ) → 1 ≤ k → k ≤ 8 → get_or (lead k) 5 0 ≡ a → get_or (lead k) 6 0 ≡ b → k ≡ r)
only a b r low high e = (low, high, λ k p q ea eb. sym (seen k p q).is ∙ ap (λ (x : ℕ). told x (get_or (lead k) 6 0)) ea ∙ ap (told a) eb ∙ e)

-- ---- the kind of a line
record Begins (line : List ℕ) (k : ℕ) (rest : List ℕ) : Type 0 where
  pub low : 1 ≤ k
  pub high : k ≤ 8
  pub whole : line ≡ lead k ++ rest
  pub five : get_or (lead k) 5 0 ≡ get_or line 5 0
  pub six : get_or (lead k) 6 0 ≡ get_or line 6 0
  pub long : 7 ≤ length line

begins : (line : List ℕ) (k : ℕ) (rest : List ℕ) → kind_of line ≡ front k rest → Begins line k rest
begins line k rest e =
    let t = kind_text line k rest e in
    let s = seen k t.0 t.1 in
    let byte : (i : ℕ) → i < 7 → get_or (lead k) i 0 ≡ get_or line i 0 =
    λ i h. sym (ap (λ (l : List ℕ). get_or l i 0) t.2 ∙ get_or-append (lead k) rest 0 i (omega (arith, s.long))) in
    record {
      low = t.0;
      high = t.1;
      whole = t.2;
      five = byte 5 (omega arith);
      six = byte 6 (omega arith);
      long = omega (arith, s.long, ap length t.2, length-append (lead k) rest);
    }

pub kind_short : (line : List ℕ) → length line < 7 → None ≡ kind_at line
unfolding kind_at
kind_short line h =
    front_cases (kind_of line)
    (λ n. sym (to_none (length line) (kind_of line) n))
    (λ k r e. absurd (omega (arith, (begins line k r e).long)))

pub kind_found : (line : List ℕ) (kind : ℕ) → 1 ≤ kind → kind ≤ 8 → (v i : ℕ) → Some (v, i) ≡ text_at line 0 (lead kind) → Some (kind, i) ≡ kind_at line
unfolding kind_at
kind_found line kind p q v i e =
    let s = text_says line 0 (lead kind) v i (sym e) in
    let whole : line ≡ lead kind ++ drop i line = behind_text (lead kind) line v (drop i line) s.0 in
    sym (to_place line (kind_of line) kind i (ap kind_of whole ∙ kind_lead kind (drop i line) p q) s.1)

-- no other kind has the two bytes, so where its lead does not stand no lead does
pub kind_other : (line : List ℕ) (kind : ℕ) → ((k : ℕ) → 1 ≤ k → k ≤ 8 → get_or (lead k) 5 0 ≡ get_or line 5 0 → get_or (lead k) 6 0 ≡ get_or line 6 0 → k ≡ kind)
    → None ≡ text_at line 0 (lead kind) → None ≡ kind_at line
unfolding kind_at text_at
kind_other line kind one e =
    front_cases (kind_of line)
    (λ n. sym (to_none (length line) (kind_of line) n))
    (λ k r f.
    let b = begins line k r f in
    let same : k ≡ kind = one k b.low b.high b.five b.six in
    let none : behind (lead k) line ≡ refused = ap (λ (j : ℕ). behind (lead j) line) same ∙ from_none (length line) (behind (lead kind) line) (sym e) in
    let some : behind (lead k) line ≡ front 0 r = ap (behind (lead k)) b.whole ∙ behind_is (lead k) r in
    absurd (let z : ◌≡◌ {A = ℕ} 0 1 = cc in omega arith))
