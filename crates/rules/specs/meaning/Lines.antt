-- Numbers lines: the four numbers of a step as text, and read from a text. Assumes nothing.
use Rattle.std.specs.Prelude.{Bool, true, false, ◌&&◌, ◌||◌, List, [], ◌∷◌, ◌++◌, ℕ, ◌+◌, leb, eqb, get_or, Option, Some, None}
use Rattle.rules.specs.declared.Numbers.{Numbers}
use Rattle.rules.specs.meaning.Text.{ascii, Front, front, refused, next, behind}
use Rattle.rules.specs.meaning.Number.{digits, read_number}

-- how a line of each kind begins, from kind 1 on
abbrev pub leads : List (List ℕ)
leads =
    ascii "step=add node="
    ∷ ascii "step=remove node="
    ∷ ascii "step=query node="
    ∷ ascii "step=send from="
    ∷ ascii "step=merge from="
    ∷ ascii "step=deliver slot="
    ∷ ascii "step=again slot="
    ∷ ascii "step=lose slot="
    ∷ []

unfoldable pub lead : ℕ → List ℕ
lead kind = get_or ([] ∷ leads) kind []

abbrev pub to_name : List ℕ
to_name = ascii " to="

abbrev pub id_name : List ℕ
id_name = ascii " id="

-- the kinds that name a second site: send and merge
abbrev pub has_second : ℕ → Bool
has_second kind = eqb kind 4 || eqb kind 5

-- the kinds that name an id: add, remove, query and send
abbrev pub has_id : ℕ → Bool
has_id kind = leb kind 4

-- a further number with its name before it, where the kind has one
unfoldable pub field : Bool → List ℕ → ℕ → List ℕ
field true name n = name ++ digits n
field false name n = []

-- the line of a step
unfoldable pub text_of : ℕ → ℕ → ℕ → ℕ → List ℕ
text_of kind first second i = lead kind ++ (digits first ++ (field (has_second kind) to_name second ++ field (has_id kind) id_name i))

-- four numbers that have a line: a kind from 1 to 8, and 0 where the kind has no such number
unfoldable pub names_step : ℕ → ℕ → ℕ → Bool
names_step kind second i = leb 1 kind && leb kind 8 && (has_second kind || eqb second 0) && (has_id kind || eqb i 0)

-- the first of some pieces of text that stands at the front, by its number, and the rest
abbrev pub or_else : Front → ℕ → Front → Front
or_else (front v rest) k other = front k rest
or_else refused k other = other

unfoldable pub first_of : ℕ → List (List ℕ) → List ℕ → Front
first_of k [] xs = refused
first_of k (l ∷ ls) xs = or_else (behind l xs) k (first_of (k + 1) ls xs)

unfoldable pub kind_of : List ℕ → Front
kind_of xs = first_of 1 leads xs

unfoldable pub read_field : Bool → List ℕ → List ℕ → Front
read_field true name xs = next (behind name xs) (λ _ rest. read_number rest)
read_field false name xs = front 0 xs

-- the four numbers of a line
abbrev pub four : ℕ → ℕ → ℕ → ℕ → Option Numbers
four kind first second i = Some (record { kind = kind; first = first; second = second; id = i })

abbrev pub and_then : Front → (ℕ → List ℕ → Option Numbers) → Option Numbers
and_then (front v rest) f = f v rest
and_then refused f = None

-- nothing may stand behind the last number
abbrev pub ended : ℕ → ℕ → ℕ → ℕ → List ℕ → Option Numbers
ended kind first second i [] = four kind first second i
ended kind first second i (x ∷ xs) = None

-- the step of a line
unfoldable pub numbers_of : List ℕ → Option Numbers
numbers_of xs =
    and_then (kind_of xs) (λ kind r.
    and_then (read_number r) (λ first s.
    and_then (read_field (has_second kind) to_name s) (λ second t.
    and_then (read_field (has_id kind) id_name t) (λ i u.
    ended kind first second i u))))
