-- Groups and LEB128 by example: every width of a number, what is padded, cut short or left over, the edges of a count, an id and a length, words that form no
-- group, and the order of the refusals. The checker computes all of it from the definitions as they stand.
-- Assumes nothing.
use Rattle.std.specs.Prelude.{◌≡◌, refl, Bool, true, false, ◌&&◌, not, List, [], ◌∷◌, ◌++◌, ℕ, zero, suc, ◌+◌, ◌^◌, ◌-◌, eqb, length, replicate}
use Rattle.rules.specs.meaning.Refusals.{first_given}
use Rattle.rules.specs.meaning.Text.{Front, front, refused}
use Rattle.rules.specs.meaning.Leb.{leb_up_to, leb128, carried, leb_value, of64, read_leb}
use Rattle.rules.specs.meaning.Groups.{rising_from, is_group, fields_from, group_bytes, entries_from, group_of, entries_in, forms_none, write_refusal, read_refusal, bytes_written, entries_read}
use Rattle.rules.proofs.cases.Marked.{all, same}

-- ---- numbers
abbrev gives : Front → ℕ → List ℕ → Bool
gives (front v rest) n bs = eqb v n && same rest bs
gives refused n bs = false

-- the bytes are the number's, both ways, with a byte behind them that is left
abbrev both : ℕ → List ℕ → Bool
both n bs = same (leb128 n) bs && gives (read_leb (bs ++ (5 ∷ []))) n (5 ∷ [])

abbrev no_number : List ℕ → Bool
no_number bs = is_refused (read_leb bs)
  where
    is_refused : Front → Bool
    is_refused (front v rest) = false
    is_refused refused = true

pub number_cases : List Bool
number_cases =
    -- the last number of each width, and the first of the next
    both 0 (0 ∷ []) ∷ both 1 (1 ∷ []) ∷ both 127 (127 ∷ []) ∷ both 128 (128 ∷ 1 ∷ [])
    ∷ both 300 (172 ∷ 2 ∷ []) ∷ both 16383 (255 ∷ 127 ∷ []) ∷ both 16384 (128 ∷ 128 ∷ 1 ∷ [])
    ∷ both (2 ^ 21 - 1) (255 ∷ 255 ∷ 127 ∷ []) ∷ both (2 ^ 21) (replicate 3 128 ++ (1 ∷ []))
    ∷ both (2 ^ 28 - 1) (replicate 3 255 ++ (127 ∷ [])) ∷ both (2 ^ 28) (replicate 4 128 ++ (1 ∷ []))
    ∷ both (2 ^ 35 - 1) (replicate 4 255 ++ (127 ∷ [])) ∷ both (2 ^ 35) (replicate 5 128 ++ (1 ∷ []))
    ∷ both (2 ^ 42 - 1) (replicate 5 255 ++ (127 ∷ [])) ∷ both (2 ^ 42) (replicate 6 128 ++ (1 ∷ []))
    ∷ both (2 ^ 49 - 1) (replicate 6 255 ++ (127 ∷ [])) ∷ both (2 ^ 49) (replicate 7 128 ++ (1 ∷ []))
    ∷ both (2 ^ 56 - 1) (replicate 7 255 ++ (127 ∷ [])) ∷ both (2 ^ 56) (replicate 8 128 ++ (1 ∷ []))
    ∷ both (2 ^ 63 - 1) (replicate 8 255 ++ (127 ∷ [])) ∷ both (2 ^ 63) (replicate 9 128 ++ (1 ∷ []))
    ∷ both (2 ^ 64 - 1) (replicate 9 255 ++ (1 ∷ []))
    -- "only in the shortest form": a last byte of 0 adds nothing
    ∷ no_number (128 ∷ 0 ∷ []) ∷ no_number (255 ∷ 0 ∷ []) ∷ no_number (255 ∷ 128 ∷ 0 ∷ []) ∷ no_number (replicate 9 255 ++ (0 ∷ []))
    -- 2 ^ 64 and more, and eleven bytes, with or without padding
    ∷ no_number (replicate 9 128 ++ (2 ∷ [])) ∷ no_number (replicate 9 255 ++ (3 ∷ [])) ∷ no_number (replicate 10 128 ++ (1 ∷ [])) ∷ no_number (replicate 10 128 ++ (0 ∷ []))
    -- no bytes, a number that does not end, and what is no byte
    ∷ no_number [] ∷ no_number (128 ∷ []) ∷ no_number (replicate 10 255) ∷ no_number (256 ∷ 1 ∷ [])
    ∷ []

pub numbers_hold : all number_cases ≡ true
unfolding number_cases leb_up_to leb128 carried leb_value of64 read_leb
numbers_hold = refl

-- ---- groups
-- the words are a group and the bytes are its bytes, both ways
abbrev pairs : List ℕ → List ℕ → Bool
pairs es bs = is_group es && same (group_bytes es) bs && not (forms_none bs) && same (entries_in bs) es

-- so many entries of one length, the ids from `lo` up with as much between any two
abbrev spread : ℕ → ℕ → ℕ → ℕ → List ℕ
spread zero lo gap n = []
spread (suc k) lo gap n = lo ∷ n ∷ spread k (suc (lo + gap)) gap n

pub group_cases : List Bool
group_cases =
    -- none, one, and two entries; 64 are a group, and 65 are none
    pairs [] (0 ∷ []) ∷ pairs (0 ∷ 1 ∷ []) (1 ∷ 0 ∷ 0 ∷ []) ∷ pairs (7 ∷ 2 ∷ 8 ∷ 3 ∷ []) (2 ∷ 7 ∷ 1 ∷ 0 ∷ 2 ∷ []) ∷ pairs (7 ∷ 2 ∷ 208 ∷ 130 ∷ []) (2 ∷ 7 ∷ 1 ∷ 200 ∷ 1 ∷ 129 ∷ 1 ∷ [])
    ∷ pairs (spread 64 0 0 1) (64 ∷ replicate 128 0) ∷ not (is_group (spread 65 0 0 1)) ∷ forms_none (65 ∷ replicate 130 0)
    -- no bytes are no group; cut short at every place; a byte left over; fewer entries, and more, than the count says
    ∷ forms_none [] ∷ forms_none (2 ∷ []) ∷ forms_none (2 ∷ 7 ∷ []) ∷ forms_none (2 ∷ 7 ∷ 1 ∷ []) ∷ forms_none (2 ∷ 7 ∷ 1 ∷ 0 ∷ [])
    ∷ forms_none (2 ∷ 7 ∷ 1 ∷ 0 ∷ 2 ∷ 0 ∷ []) ∷ forms_none (0 ∷ 0 ∷ []) ∷ forms_none (64 ∷ replicate 127 0) ∷ forms_none (1 ∷ 7 ∷ 1 ∷ 0 ∷ 2 ∷ [])
    -- padding in the count, in an id, in a length, in a gap
    ∷ forms_none (130 ∷ 0 ∷ 7 ∷ 1 ∷ 0 ∷ 2 ∷ []) ∷ forms_none (2 ∷ 135 ∷ 0 ∷ 1 ∷ 0 ∷ 2 ∷ []) ∷ forms_none (2 ∷ 7 ∷ 129 ∷ 0 ∷ 0 ∷ 2 ∷ []) ∷ forms_none (2 ∷ 7 ∷ 1 ∷ 128 ∷ 0 ∷ 2 ∷ [])
    -- the largest id, first or behind another; one more gap would wrap, to 2 ^ 64 or past it
    ∷ pairs ((2 ^ 64 - 1) ∷ 1 ∷ []) (1 ∷ (replicate 9 255 ++ (1 ∷ 0 ∷ []))) ∷ pairs (0 ∷ 1 ∷ (2 ^ 64 - 1) ∷ 1 ∷ []) (2 ∷ 0 ∷ 0 ∷ 254 ∷ (replicate 8 255 ++ (1 ∷ 0 ∷ [])))
    ∷ forms_none (2 ∷ (replicate 9 255 ++ (1 ∷ 0 ∷ 0 ∷ 0 ∷ []))) ∷ forms_none (2 ∷ 0 ∷ 0 ∷ (replicate 9 255 ++ (1 ∷ 0 ∷ [])))
    -- the largest length, whose less 1 is 4294967294, and one more
    ∷ pairs (7 ∷ 4294967295 ∷ []) (1 ∷ 7 ∷ 254 ∷ 255 ∷ 255 ∷ 255 ∷ 15 ∷ []) ∷ forms_none (1 ∷ 7 ∷ 255 ∷ 255 ∷ 255 ∷ 255 ∷ 15 ∷ [])
    -- the most bytes: a first id of ten, gaps of nine, lengths of five
    ∷ is_group (spread 64 (2 ^ 63) (2 ^ 56) 4294967295) ∷ eqb (length (group_bytes (spread 64 (2 ^ 63) (2 ^ 56) 4294967295))) 898
    -- words that form no group: an id without a length, equal ids, falling ids, an id past 64 bits, the lengths 0 and one past the largest
    ∷ not (is_group (7 ∷ [])) ∷ not (is_group (7 ∷ 1 ∷ 8 ∷ [])) ∷ not (is_group (7 ∷ 1 ∷ 7 ∷ 1 ∷ [])) ∷ not (is_group (8 ∷ 1 ∷ 7 ∷ 1 ∷ [])) ∷ not (is_group (2 ^ 64 ∷ 1 ∷ []))
    ∷ not (is_group (7 ∷ 0 ∷ [])) ∷ not (is_group (7 ∷ 1 ∷ 0 ∷ 0 ∷ [])) ∷ not (is_group (7 ∷ 4294967296 ∷ []))
    -- the writer: 17 before 13, 13 where the room is one byte short, and nothing written on a refusal
    ∷ eqb (write_refusal (7 ∷ 2 ∷ 7 ∷ 3 ∷ []) 0) 17 ∷ eqb (write_refusal (7 ∷ 2 ∷ 8 ∷ 3 ∷ []) 4) 13 ∷ eqb (write_refusal (7 ∷ 2 ∷ 8 ∷ 3 ∷ []) 5) 0 ∷ eqb (write_refusal [] 0) 13 ∷ eqb (write_refusal [] 1) 0
    ∷ same (bytes_written (7 ∷ 2 ∷ 7 ∷ 3 ∷ []) 9) [] ∷ same (bytes_written (7 ∷ 2 ∷ 8 ∷ 3 ∷ []) 4) [] ∷ same (bytes_written (7 ∷ 2 ∷ 8 ∷ 3 ∷ []) 5) (2 ∷ 7 ∷ 1 ∷ 0 ∷ 2 ∷ [])
    -- the reader: the same, where the room is one word short
    ∷ eqb (read_refusal (2 ∷ 7 ∷ 1 ∷ 0 ∷ []) 0) 17 ∷ eqb (read_refusal (2 ∷ 7 ∷ 1 ∷ 0 ∷ 2 ∷ []) 3) 13 ∷ eqb (read_refusal (2 ∷ 7 ∷ 1 ∷ 0 ∷ 2 ∷ []) 4) 0 ∷ eqb (read_refusal (0 ∷ []) 0) 0
    ∷ same (entries_read (2 ∷ 7 ∷ 1 ∷ 0 ∷ []) 9) [] ∷ same (entries_read (2 ∷ 7 ∷ 1 ∷ 0 ∷ 2 ∷ []) 3) [] ∷ same (entries_read (2 ∷ 7 ∷ 1 ∷ 0 ∷ 2 ∷ []) 4) (7 ∷ 2 ∷ 8 ∷ 3 ∷ [])
    ∷ []

pub groups_hold : all group_cases ≡ true
unfolding group_cases leb_up_to leb128 carried leb_value of64 read_leb rising_from is_group fields_from group_bytes entries_from group_of entries_in forms_none write_refusal read_refusal bytes_written entries_read first_given
groups_hold = refl
