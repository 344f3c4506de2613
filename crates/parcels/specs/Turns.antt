-- What the loop over the slots does in one turn. Cited by the contract of `look`, and by no public contract.
-- Assumes nothing.
use Rattle.std.specs.Prelude.{ℕ, ◌+◌, Bool, ◌&&◌, cond, ltb}
use Rattle.rules.specs.declared.Parcel.{Parcel}
use Rattle.rules.specs.declared.Scan.{Scan}
use Rattle.rules.specs.meaning.Parcels.{is_free, is_occupied}

-- by three tests: the slot is free; it is rightly occupied; its number is below the lowest free one that is known
abbrev pub look_by : Bool → Bool → Bool → ℕ → Scan → Scan
look_by free right first at s =
    cond free (record { sound = s.sound; waiting = s.waiting; free = cond first at s.free })
    (record { sound = s.sound && right; waiting = s.waiting + 1; free = s.free })

-- what is known once the slot p, which has the number `at`, is seen after all that made s
abbrev pub look_of : ℕ → ℕ → ℕ → Parcel → Scan → Scan
look_of most sites at p s = look_by (is_free p) (is_occupied most sites p) (ltb at s.free) at s
