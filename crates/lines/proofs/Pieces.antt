-- A piece of fixed text: whether it stands at a place of a line, and the place behind it.
use mathlib.Core.Path.{◌≡◌, sym, ap, ◌∙◌}
use mathlib.Core.Bool.{Bool, true, false}
use mathlib.Core.List.{List, ◌++◌}
use Prim.Native.Nat.{ℕ, ◌+◌, ◌-◌, ◌≤◌}
use native.Mathlib.Omega.{arith}
use lib.Dec.{eqb}
use lib.ListN.{length, take, drop, length-append, length-drop}
use Rattle.std.specs.Prelude.{option_map}
use Rattle.std.specs.Bool.{then_some}
use Rattle.std.specs.Cmp.Lexicographic.{pointwise}
use Rattle.std.proofs.lemmas.Bool.Decides.{Decides-eqb}
use Rattle.std.proofs.lemmas.Slice.{between_to_end}
use Rattle.std.proofs.lemmas.Slice.Eq.{starts_is}
use Rattle.rules.specs.meaning.Text.{front, refused, behind}
use Rattle.rules.proofs.laws.line.Numbers.{by_test}
use Rattle.rules.proofs.laws.line.Lines.{behind_is, behind_text, front_cases}
use Rattle.rules.specs.meaning.Places.{text_at}

-- the part of the line from the place on, as the code has it
module _ (line : List ℕ) (place : ℕ) (text : List ℕ) (t : Bool) (within : place ≤ length line) (e : t ≡ pointwise eqb text (take (length text) (take (length line - place) (drop place line)))) where
  says : (t ≡ true → drop place line ≡ text ++ drop (length text) (drop place line)) × ((rest : List ℕ) → drop place line ≡ text ++ rest → t ≡ true)
  says = let p : take (length line - place) (drop place line) ≡ drop place line = between_to_end line place (length line) (omega arith) in
      starts_is Decides-eqb (drop place line) text t (rw p at e)

  pub text_tested : option_map (λ (next : ℕ). (0, next)) (then_some t (place + length text)) ≡ text_at line place text
  unfolding text_at
  text_tested =
      by_test t
      (λ y.
      let w = says.0 y in
      let n : length line - length (drop (length text) (drop place line)) ≡ place + length text = omega (arith, length-drop (length text) (drop place line), length-drop place line, ap length w, length-append text (drop (length text) (drop place line))) in
      let b : behind text (drop place line) ≡ front 0 (drop (length text) (drop place line)) = ap (behind text) w ∙ behind_is text (drop (length text) (drop place line)) in
      rw (y, b, n))
      (λ n.
      let b : behind text (drop place line) ≡ refused =
      front_cases (behind text (drop place line)) (λ r. r) (λ v rest f. absurd (let z : true ≡ false = sym (says.1 rest (behind_text text (drop place line) v rest f)) ∙ n in cc)) in
      rw (n, b))
