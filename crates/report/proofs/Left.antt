-- What is left to be written: a text that, put at a place of the buffer, gives the buffer that is wanted, and ends where that is to end. A writer takes
-- the text's first piece off; nothing is said of what stands there already.
-- Assumes nothing.
use Prim.Native.Nat.{ℕ, suc, ◌+◌, ◌≤◌}
use native.Mathlib.Omega.{arith}
use mathlib.Core.Path.{◌≡◌, refl, sym, ◌∙◌}
use mathlib.Core.List.{List, [], ◌∷◌, ◌++◌}
use lib.ListN.{length, set, length-append}
use Rattle.rules.specs.meaning.Put.{put}
use Rattle.rules.proofs.laws.Put.{put_nil, put_length, put_put, put_cons}
use Rattle.report.specs.Laid.{Laid}

pub record Left (out : List ℕ) (place : ℕ) (text : List ℕ) (end : ℕ) (wanted : List ℕ) : Type 0 where
  pub behind : place + length text ≡ end
  pub bytes : put out place text ≡ wanted
  pub room : end ≤ length out

-- all of a text is left
pub left_all : (out : List ℕ) (place : ℕ) (text : List ℕ) → place + length text ≤ length out → Left out place text (place + length text) (put out place text)
left_all out place text h = record { behind = refl; bytes = refl; room = h }

-- there is room for the first piece
pub left_room : {out : List ℕ} {place : ℕ} {end : ℕ} {wanted : List ℕ} (a b : List ℕ) → Left out place (a ++ b) end wanted → place + length a ≤ length out
left_room a b l = omega (arith, l.behind, l.room, length-append a b)

-- and once it is laid, the rest is left
pub left_next : {out : List ℕ} {place : ℕ} {end : ℕ} {wanted : List ℕ} {next : ℕ} {after : List ℕ} (a b : List ℕ) → Left out place (a ++ b) end wanted → Laid out place a next after → Left after next b end wanted
left_next {out} {place} {end} {wanted} {next} {after} a b l w =
    let h : place + length a ≤ length out = left_room a b l in
    record {
      behind = omega (arith, l.behind, w.behind, length-append a b);
      bytes = rw (w.behind, w.bytes) (put_put out place a b h ∙ l.bytes);
      room = rw (w.bytes, put_length out place a h) l.room;
    }

-- the same text in other words
pub left_as : {out : List ℕ} {place : ℕ} {a b : List ℕ} {end : ℕ} {wanted : List ℕ} → a ≡ b → Left out place a end wanted → Left out place b end wanted
left_as e l = rw (← e) l

-- ---- what a writer owes, where nothing is left
pub laid_none : {out before : List ℕ} {place start : ℕ} {text : List ℕ} → Left out place [] (start + length text) (put before start text) → Laid before start text place out
laid_none {out} {before} {place} {start} {text} l = record { behind = omega (arith, l.behind); bytes = sym (put_nil out place) ∙ l.bytes }

-- one text laid behind another is both of them laid
pub laid_then : {out mid after : List ℕ} {place next end : ℕ} {a b : List ℕ} → Laid out place a next mid → Laid mid next b end after → place + length a ≤ length out → Laid out place (a ++ b) end after
laid_then {out} {mid} {after} {place} {next} {end} {a} {b} f g room = record {
  behind = omega (arith, f.behind, g.behind, length-append a b);
  bytes = g.bytes ∙ rw (f.behind, f.bytes) (put_put out place a b room);
}

-- ---- what is laid and what there is room for, in other words
pub laid_as : {out : List ℕ} {place next : ℕ} {a b after : List ℕ} → a ≡ b → Laid out place a next after → Laid out place b next after
laid_as e w = rw (← e) w

pub room_as : (place : ℕ) (out : List ℕ) {a b : List ℕ} → a ≡ b → place + length a ≤ length out → place + length b ≤ length out
room_as place out e h = rw (← e) h

-- a writer of the crate `lines` says the same in two parts
pub laid_by : {out : List ℕ} {place : ℕ} {text : List ℕ} {next : ℕ} {after : List ℕ} → (next ≡ place + length text) × (after ≡ put out place text) → Laid out place text next after
laid_by p = record { behind = p.0; bytes = p.1 }

-- a text of no bytes needs no writer
pub laid_nothing : {out : List ℕ} {place : ℕ} {text : List ℕ} → text ≡ [] → Laid out place text place out
laid_nothing {out} {place} e = rw e (record { behind = omega arith; bytes = sym (put_nil out place) })

-- one byte stored
pub laid_byte : (out : List ℕ) (place b : ℕ) → place + 1 ≤ length out → Laid out place (b ∷ []) (place + 1) (set out place b)
laid_byte out place b h = record { behind = refl; bytes = sym (put_nil (set out place b) (suc place)) ∙ put_cons out place b [] (omega arith) }
