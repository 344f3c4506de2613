-- What each operation on one site's table answers, and what it makes of the table.
-- Assumes nothing.
use Rattle.std.specs.Prelude.{ℕ, zero, suc, Bool, cond, List, ltb, Result}
use Rattle.rules.specs.declared.Refusal.{Refusal}
use Rattle.rules.specs.meaning.Refusals.{number_in, value_in}
use Rattle.rules.specs.meaning.Lengths.{after_add, after_remove, join, runs_out}
use Rattle.rules.specs.meaning.Table.{capacity, length_of, raised, held_with, merged, held_merged, rises}

-- ---- the refusal numbers, 0 for none

abbrev pub accepted : ℕ
accepted = 0

-- "remove at length M"
abbrev pub out_of_lengths : ℕ
out_of_lengths = 7

-- "the step needs more entries than C at the site that gains"
abbrev pub out_of_room : ℕ
out_of_room = 8

-- ---- what an operation answers: 0 or the number of its refusal, and its other result, which is 0 on a refusal
pub record Answer : Type 0 where
  pub refusal : ℕ
  pub value : ℕ

-- what a call that gives a number or an error answers
abbrev pub as_answer : Result ℕ Refusal → Answer
as_answer r = record { refusal = number_in r; value = value_in 0 r }

-- ---- "A refused step returns its number with 0 as the other result and writes nothing"

abbrev pub answer : ℕ → ℕ → Answer
answer zero v = record { refusal = 0; value = v }
answer (suc r) v = record { refusal = suc r; value = 0 }

abbrev pub unless_refused : ℕ → List ℕ → List ℕ → List ℕ
unless_refused zero before after = after
unless_refused (suc r) before after = before

-- the entries that are needed are more than the table has room for
abbrev pub crowded : List ℕ → ℕ → Bool
crowded t needed = ltb (capacity t) needed

abbrev pub room_refusal : List ℕ → ℕ → ℕ
room_refusal t needed = cond (crowded t needed) out_of_room accepted

-- ---- query

abbrev pub query_answer : List ℕ → ℕ → Answer
query_answer t e = answer accepted (length_of t e)

-- ---- an id's length raised to n, where there is room for the entry

unfoldable pub raise_refusal : List ℕ → ℕ → ℕ → ℕ
raise_refusal t e n = room_refusal t (held_with t e n)

unfoldable pub raise_answer : List ℕ → ℕ → ℕ → Answer
raise_answer t e n = answer (raise_refusal t e n) n

unfoldable pub raise_table : List ℕ → ℕ → ℕ → List ℕ
raise_table t e n = unless_refused (raise_refusal t e n) t (raised t e n)

-- add: to the length after an add
abbrev pub add_answer : List ℕ → ℕ → Answer
add_answer t e = raise_answer t e (after_add (length_of t e))

abbrev pub add_table : List ℕ → ℕ → List ℕ
add_table t e = raise_table t e (after_add (length_of t e))

-- absorb, which is what delivering an update does: to the join with the length that arrives
abbrev pub absorb_answer : List ℕ → ℕ → ℕ → Answer
absorb_answer t e n = raise_answer t e (join (length_of t e) n)

abbrev pub absorb_table : List ℕ → ℕ → ℕ → List ℕ
absorb_table t e n = raise_table t e (join (length_of t e) n)

-- ---- remove: to the length after a remove, unless that is above the largest. It never needs room

abbrev pub length_refusal : ℕ → ℕ → ℕ
length_refusal most n = cond (runs_out most n) out_of_lengths accepted

-- the same of one length by itself
unfoldable pub removed_length : ℕ → ℕ → Answer
removed_length most n = answer (length_refusal most (after_remove n)) (after_remove n)

unfoldable pub remove_refusal : ℕ → List ℕ → ℕ → ℕ
remove_refusal most t e = length_refusal most (after_remove (length_of t e))

abbrev pub remove_answer : ℕ → List ℕ → ℕ → Answer
remove_answer most t e = removed_length most (length_of t e)

unfoldable pub remove_table : ℕ → List ℕ → ℕ → List ℕ
remove_table most t e = unless_refused (remove_refusal most t e) t (raised t e (after_remove (length_of t e)))

-- ---- merge: all entries or none, and the number of lengths that rose

unfoldable pub merge_refusal : List ℕ → List ℕ → ℕ
merge_refusal t s = room_refusal t (held_merged t s)

unfoldable pub merge_answer : List ℕ → List ℕ → Answer
merge_answer t s = answer (merge_refusal t s) (rises t s)

unfoldable pub merge_table : List ℕ → List ℕ → List ℕ
merge_table t s = unless_refused (merge_refusal t s) t (merged t s)
