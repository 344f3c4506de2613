-- A step by its four numbers, as document 01 has them: its kind, and the slot and the link that it names.
-- Assumes nothing.
use Rattle.std.specs.Prelude.{ℕ, Bool, ◌||◌, cond, eqb}
use Rattle.rules.specs.declared.Numbers.{Numbers}
use Rattle.rules.specs.declared.Parcel.{Parcel}
use Rattle.rules.specs.declared.Step.{Step}
use Rattle.rules.specs.declared.Step.TheVariants.{Add, Remove, Query, Send, Merge, Deliver, Again, Lose}
use Rattle.rules.specs.meaning.Links.{no_link, link_between}

-- "kind (1 add, 2 remove, 3 query, 4 send, 5 merge, 6 deliver, 7 again, 8 lose), first site or slot, second site, id; unused ones 0"
unfoldable pub numbers : Step → Numbers
numbers (Add k e) = record { kind = 1; first = k; second = 0; id = e }
numbers (Remove k e) = record { kind = 2; first = k; second = 0; id = e }
numbers (Query k e) = record { kind = 3; first = k; second = 0; id = e }
numbers (Send f t e) = record { kind = 4; first = f; second = t; id = e }
numbers (Merge f t) = record { kind = 5; first = f; second = t; id = 0 }
numbers (Deliver i) = record { kind = 6; first = i; second = 0; id = 0 }
numbers (Again i) = record { kind = 7; first = i; second = 0; id = 0 }
numbers (Lose i) = record { kind = 8; first = i; second = 0; id = 0 }

-- ---- the kinds that are asked for
abbrev pub is_query : Step → Bool
is_query step = eqb (numbers step).kind 3

-- "steps of its kind: send, again, deliver, lose"
abbrev pub is_send : Step → Bool
is_send step = eqb (numbers step).kind 4

abbrev pub is_again : Step → Bool
is_again step = eqb (numbers step).kind 7

abbrev pub is_deliver : Step → Bool
is_deliver step = eqb (numbers step).kind 6

abbrev pub is_lose : Step → Bool
is_lose step = eqb (numbers step).kind 8

-- the steps that put a new parcel into a slot, and those that free the slot of theirs
abbrev pub takes_slot : Step → Bool
takes_slot step = is_send step || is_again step

abbrev pub frees_slot : Step → Bool
frees_slot step = is_deliver step || is_lose step

-- the slot that a step names, and 0 for a step that names none
unfoldable pub slot_of : Step → ℕ
slot_of step = cond (frees_slot step || is_again step) (numbers step).first 0

-- the link that a step names, in a run of so many sites: a send by its two sites, a delivery by the parcel in its slot, and no other step any
unfoldable pub link_of : ℕ → Parcel → Step → ℕ
link_of sites p step =
    cond (is_send step) (link_between sites (numbers step).first (numbers step).second) (cond (is_deliver step) (link_between sites p.sender p.site) no_link)
