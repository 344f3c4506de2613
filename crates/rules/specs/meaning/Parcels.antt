-- The parcel list: a list of slots. "A free slot has all three 0; an occupied one has a length of 1 to M and a site of the run." Request 2 adds the sender
-- and the serial: "a free slot has them all 0, an occupied one a sender of the run other than its destination".
-- Assumes nothing.
use Rattle.std.specs.Prelude.{ℕ, zero, suc, Bool, true, ◌&&◌, ◌||◌, not, cond, List, [], ◌∷◌, leb, ltb, eqb}
use Rattle.rules.specs.declared.Parcel.{Parcel}
use Rattle.rules.specs.declared.Scan.{Scan}

-- what stands in a free slot
abbrev pub no_parcel : Parcel
no_parcel = record { site = 0; id = 0; length = 0; sender = 0; serial = 0 }

unfoldable pub is_free : Parcel → Bool
is_free p = eqb p.site 0 && (eqb p.id 0 && (eqb p.length 0 && (eqb p.sender 0 && eqb p.serial 0)))

-- with lengths up to `most`, in a run of so many sites
unfoldable pub is_occupied : ℕ → ℕ → Parcel → Bool
is_occupied most sites p = leb 1 p.length && (leb p.length most && (ltb p.site sites && (ltb p.sender sites && not (eqb p.sender p.site))))

-- every slot is free or rightly occupied
unfoldable pub slots_sound : ℕ → ℕ → List Parcel → Bool
slots_sound most sites [] = true
slots_sound most sites (p ∷ ps) = (is_free p || is_occupied most sites p) && slots_sound most sites ps

-- "Waiting is not stored: it is the number of occupied slots"
unfoldable pub waiting : List Parcel → ℕ
waiting [] = 0
waiting (p ∷ ps) = cond (is_free p) (waiting ps) (suc (waiting ps))

-- "the free slot with the lowest number", and the number of slots where none is free
unfoldable pub lowest_free : List Parcel → ℕ
lowest_free [] = 0
lowest_free (p ∷ ps) = cond (is_free p) 0 (suc (lowest_free ps))

-- what one pass tells of them
abbrev pub scan_of : ℕ → ℕ → List Parcel → Scan
scan_of most sites ps = record { sound = slots_sound most sites ps; waiting = waiting ps; free = lowest_free ps }

-- the first n slots made free
unfoldable pub cleared : ℕ → List Parcel → List Parcel
cleared zero ps = ps
cleared (suc n) [] = []
cleared (suc n) (p ∷ ps) = no_parcel ∷ cleared n ps
