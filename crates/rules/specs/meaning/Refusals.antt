-- Refusals: numbers with their conditions, in the order of the tests, of which the first that is given counts.
-- Assumes nothing.
use Rattle.std.specs.Prelude.{ℕ, Bool, cond, List, [], ◌∷◌, Result, Ok, Err}
use Rattle.rules.specs.declared.Refusal.{Refusal}
use Rattle.rules.specs.declared.Refusal.TheVariants.{BadSizes, Unsound, NoSite, SameSite, NoParcel, NothingToSend, LengthsOut, NoRoom, NoSlot, CountFull, NoStep, InputLong, ShortBuffer, ManyIds, NoOrder, NothingHeard, NoGroup}

pub record Test : Type 0 where
  pub number : ℕ
  pub given : Bool

infixl 20 ◌when◌
abbrev pub ◌when◌ : ℕ → Bool → Test
n when b = record { number = n; given = b }

-- the number of the first test that is given, or 0
unfoldable pub first_given : List Test → ℕ
first_given [] = 0
first_given (t ∷ ts) = cond t.given t.number (first_given ts)

-- ---- the number of a refusal, as C is given it
abbrev pub number_of : Refusal → ℕ
number_of BadSizes = 1
number_of Unsound = 2
number_of NoSite = 3
number_of SameSite = 4
number_of NoParcel = 5
number_of NothingToSend = 6
number_of LengthsOut = 7
number_of NoRoom = 8
number_of NoSlot = 9
number_of CountFull = 10
number_of NoStep = 11
number_of InputLong = 12
number_of ShortBuffer = 13
number_of ManyIds = 14
number_of NoOrder = 15
number_of NothingHeard = 16
number_of NoGroup = 17

-- what a call answered: 0 or the number of its refusal
abbrev pub number_in : {A : Type 0} → Result A Refusal → ℕ
number_in (Ok x) = 0
number_in (Err r) = number_of r

-- "A refused step returns its number with 0 as the other result": its result, or what stands for none
abbrev pub value_in : {A : Type 0} → A → Result A Refusal → A
value_in none (Ok x) = x
value_in none (Err r) = none
