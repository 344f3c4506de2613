-- Worked cases, as one table under one statement, and the lines as the document lists them. Assumes nothing.
use Rattle.std.specs.Prelude.{◌≡◌, refl, Bool, true, false, not, ◌&&◌, List, [], ◌∷◌, ℕ, eqb, replicate, Option, Some, None}
use Rattle.rules.specs.declared.Numbers.{Numbers}
use Prim.Native.String.{String}
use Rattle.rules.specs.meaning.Text.{ascii, behind}
use Rattle.rules.specs.meaning.Number.{up_to, digits, digit_of, starts_digit, digit_run, fair, judged, read_number}
use Rattle.rules.specs.meaning.Padding.{is_padding, unpadded_from, unpadded, padded_from, is_padded, short_from, has_short_numbers}
use Rattle.rules.specs.meaning.Lines.{lead, field, text_of, names_step, first_of, kind_of, read_field, numbers_of}
use Rattle.rules.specs.meaning.Refusals.{first_given}
use Rattle.rules.specs.meaning.Put.{put}
use Rattle.rules.specs.meaning.Writing.{check_of}
use Rattle.rules.specs.meaning.Area.{little, laid, is_no_line, read_refusal, area_after}
use Rattle.rules.proofs.cases.Marked.{all, same}

gives : Option Numbers → ℕ → ℕ → ℕ → ℕ → Bool
gives (Some n) k' a' b' i' = eqb n.kind k' && eqb n.first a' && eqb n.second b' && eqb n.id i'
gives None k' a' b' i' = false

-- the text is the line of the four numbers, both ways
both : String → ℕ → ℕ → ℕ → ℕ → Bool
both s k a b i = same (text_of k a b i) (ascii s) && gives (numbers_of (ascii s)) k a b i

-- the text is read as the four numbers, and without its padding it is their line
padded : String → ℕ → ℕ → ℕ → ℕ → Bool
padded s k a b i = is_padded (ascii s) && has_short_numbers (ascii s) && gives (numbers_of (ascii s)) k a b i && same (unpadded (ascii s)) (text_of k a b i)

-- padding, and nothing else, is dropped, whatever the text is
drops : String → String → Bool
drops s t = same (unpadded (ascii s)) (ascii t)

is_refused : Option Numbers → Bool
is_refused (Some n) = false
is_refused None = true

no_line : String → Bool
no_line s = is_refused (numbers_of (ascii s))

-- it is not, though without its padding it is a line: a number has too many digits
too_long : String → Bool
too_long s = is_refused (numbers_of (ascii s)) && not (has_short_numbers (ascii s)) && not (is_refused (numbers_of (unpadded (ascii s))))

pub cases : List Bool
cases =
    both "step=add node=0 id=7" 1 0 0 7
    ∷ both "step=remove node=2 id=7" 2 2 0 7
    ∷ both "step=query node=1 id=18446744073709551615" 3 1 0 18446744073709551615
    ∷ both "step=send from=1 to=2 id=7" 4 1 2 7
    ∷ both "step=send from=18446744073709551615 to=18446744073709551615 id=18446744073709551615" 4 18446744073709551615 18446744073709551615 18446744073709551615
    ∷ both "step=merge from=1 to=2" 5 1 2 0
    ∷ both "step=deliver slot=0" 6 0 0 0
    ∷ both "step=again slot=10" 7 10 0 0
    ∷ both "step=lose slot=1023" 8 1023 0 0
    ∷ no_line ""
    ∷ no_line "step=add node=0 id="
    ∷ no_line "step=add node= id=7"
    ∷ no_line "step=add node=0 id=18446744073709551616"
    ∷ no_line "step=add node=0 id=99999999999999999999"
    ∷ too_long "step=add node=0 id=018446744073709551615"
    ∷ too_long "step=add node=0 id=000000000000000000000"
    ∷ too_long "step=add node=000000000000000000001 id=7"
    ∷ too_long "step=send from=1 to=000000000000000000002 id=7"
    ∷ too_long "step=deliver slot=000000000000000000000"
    ∷ no_line "step=add node=0 id=7 "
    ∷ no_line " step=add node=0 id=7"
    ∷ no_line "step=add node=0  id=7"
    ∷ no_line "step=add node=0 id=7\n"
    ∷ no_line "step=add node=+1 id=7"
    ∷ no_line "step=add node=0 to=1 id=7"
    ∷ no_line "step=merge from=1 to=2 id=0"
    ∷ no_line "step=deliver slot=0 id=0"
    ∷ no_line "step=Add node=0 id=7"
    ∷ padded "step=add node=00 id=7" 1 0 0 7
    ∷ padded "step=remove node=0 id=00000000000000000007" 2 0 0 7
    ∷ padded "step=query node=00000000000000000000 id=0010" 3 0 0 10
    ∷ padded "step=send from=01 to=00000000000000000002 id=00100" 4 1 2 100
    ∷ padded "step=send from=00000000000000000001 to=00000000000000000002 id=00000000000000000003" 4 1 2 3
    ∷ padded "step=merge from=1 to=02" 5 1 2 0
    ∷ padded "step=deliver slot=07" 6 7 0 0
    ∷ padded "step=again slot=01844674407370955161" 7 1844674407370955161 0 0
    ∷ padded "step=lose slot=00000000000000000000" 8 0 0 0
    ∷ drops "" ""
    ∷ drops "007 0 00 a01b0 10 0x0 =000000000000000000000" "7 0 0 a1b0 10 0x0 =0"
    ∷ drops "step=add node=0 id=100" "step=add node=0 id=100"
    ∷ []

pub worked : all cases ≡ true
unfolding cases both padded too_long drops has_short_numbers short_from is_padded padded_from unpadded unpadded_from is_padding starts_digit no_line is_refused gives text_of field lead digits up_to numbers_of kind_of first_of behind read_field read_number judged digit_run fair digit_of
worked = refl

-- ---- the reader that C calls: "An area under 32 bytes gives 13, then 11 is tried", and what stands in the area afterwards; the check: 11, then 13
reads : String → ℕ → ℕ → Bool
reads s room r = eqb (read_refusal (ascii s) (replicate room 9)) r

checks : ℕ → ℕ → ℕ → ℕ → ℕ → ℕ → Bool
checks kind first second id room r = eqb (check_of kind first second id room) r

pub refusals : List Bool
refusals =
    reads "step=lose slot=" 31 13
    ∷ reads "step=lose slot=1" 31 13
    ∷ reads "step=lose slot=" 32 11
    ∷ reads "step=lose slot=1" 32 0
    ∷ same (area_after (ascii "step=send from=258 to=3 id=65536") (replicate 34 9)) (4 ∷ 0 ∷ 0 ∷ 0 ∷ 0 ∷ 0 ∷ 0 ∷ 0 ∷ 2 ∷ 1 ∷ 0 ∷ 0 ∷ 0 ∷ 0 ∷ 0 ∷ 0 ∷ 3 ∷ 0 ∷ 0 ∷ 0 ∷ 0 ∷ 0 ∷ 0 ∷ 0 ∷ 0 ∷ 0 ∷ 1 ∷ 0 ∷ 0 ∷ 0 ∷ 0 ∷ 0 ∷ 9 ∷ 9 ∷ [])
    ∷ checks 9 0 0 0 0 11
    ∷ checks 1 0 5 7 0 11
    ∷ checks 8 1023 0 0 18 13
    ∷ checks 8 1023 0 0 19 0
    ∷ []

pub refused_so : all refusals ≡ true
unfolding refusals reads checks read_refusal area_after check_of is_no_line laid little put first_given text_of field lead digits up_to numbers_of kind_of first_of behind read_field read_number judged digit_run fair digit_of names_step
refused_so = refl
