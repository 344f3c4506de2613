-- What is left to be said: `Left` where the buffer has bytes; where it has none, only how far the text goes.
-- Assumes nothing.
use Prim.Native.Nat.{ℕ, ◌+◌, ◌≤◌, ◌<◌}
use native.Mathlib.Omega.{arith}
use mathlib.Core.Path.{◌≡◌, refl, sym, ◌∙◌}
use mathlib.Core.List.{List, [], ◌∷◌, ◌++◌}
use lib.ListN.{length, length-append}
use Rattle.rules.specs.meaning.Put.{put}
use Rattle.rules.proofs.laws.Put.{put_nil}
use Rattle.rules.specs.meaning.Reports.{input_limit, report_room}
use Rattle.report.specs.Laid.{Laid}
use Rattle.report.specs.Said.{Sayable, Said}
use Rattle.report.proofs.Left.{Left, left_all, left_room, left_next}

pub record Still (out : List ℕ) (place : ℕ) (text : List ℕ) (end : ℕ) (wanted : List ℕ) : Type 0 where
  pub behind : place + length text ≡ end
  pub left : 0 < length out → Left out place text end wanted

pub still_all : (out : List ℕ) (place : ℕ) (text : List ℕ) → (0 < length out → place + length text ≤ length out) → Still out place text (place + length text) (put out place text)
still_all out place text h = record { behind = refl; left = λ some. left_all out place text (h some) }

pub still_as : {out : List ℕ} {place : ℕ} {a b : List ℕ} {end : ℕ} {wanted : List ℕ} → a ≡ b → Still out place a end wanted → Still out place b end wanted
still_as e l = rw (← e) l

-- the first piece can be said
pub still_sayable : {out : List ℕ} {place : ℕ} {end : ℕ} {wanted : List ℕ} (most : ℕ) (a b : List ℕ) → Still out place (a ++ b) end wanted → length a ≤ most → end ≤ report_room input_limit → Sayable most out place a
still_sayable most a b l short within = record {
  room = λ some. left_room a b (l.left some);
  short = short;
  counted = omega (arith, l.behind, length-append a b);
}

-- what a writer laid, or measured, is said
pub said_laid : {out : List ℕ} {place : ℕ} {text : List ℕ} {end : ℕ} {after : List ℕ} → Laid out place text end after → Said out place text end after
said_laid w = record { behind = w.behind; bytes = λ some. w.bytes }

laid_said : {out : List ℕ} {place : ℕ} {text : List ℕ} {end : ℕ} {after : List ℕ} → 0 < length out → Said out place text end after → Laid out place text end after
laid_said some w = record { behind = w.behind; bytes = w.bytes some }

-- and the rest is left
pub still_next : {out : List ℕ} {place : ℕ} {end : ℕ} {wanted : List ℕ} {next : ℕ} {after : List ℕ} (a b : List ℕ) → Still out place (a ++ b) end wanted → Said out place a next after → length after ≡ length out → Still after next b end wanted
still_next {out} {place} {end} {wanted} {next} {after} a b l w long = record {
  behind = omega (arith, l.behind, w.behind, length-append a b);
  left = λ some. let some' : 0 < length out = omega arith in left_next a b (l.left some') (laid_said some' w);
}

-- once the last piece is said, all is
pub still_said : {out before : List ℕ} {place start next : ℕ} {text after a : List ℕ} → Still out place a (start + length text) (put before start text) → Said out place a next after → length out ≡ length before → Said before start text next after
still_said {out} {before} l w long = record {
  behind = w.behind ∙ l.behind;
  bytes = λ some. let some' : 0 < length out = omega arith in w.bytes some' ∙ (l.left some').bytes;
}

-- a text that fits is laid, whether there are bytes or not
pub laid_fits : (before text after : List ℕ) {n : ℕ} → length text ≤ length before → length after ≡ length before → Said before 0 text n after → Laid before 0 text n after
laid_fits (c ∷ cs) text after h e w = laid_said (omega arith) w
laid_fits [] [] [] h e w = record { behind = w.behind; bytes = sym (put_nil [] 0) }
laid_fits [] [] (c ∷ cs) h e w = absurd (omega arith)
laid_fits [] (c ∷ cs) after h e w = absurd (omega arith)

-- of an empty buffer only the place behind the text is told
pub said_empty : {out after : List ℕ} {place end : ℕ} {text : List ℕ} → length out ≡ 0 → end ≡ place + length text → Said out place text end after
said_empty none e = record { behind = e; bytes = λ some. absurd (omega arith) }
