-- The state of a run: the three lent things, where the tables stand in the words, the sizes, what makes a state sound, and what a step sees of it.
-- Assumes nothing.
use Rattle.std.specs.Prelude.{ℕ, zero, suc, ◌*◌, ◌≡◌, Bool, true, ◌&&◌, List, ◌++◌, length, get_or, take, drop, leb, eqb}
use Rattle.rules.specs.declared.Run.{Run}
use Rattle.rules.specs.declared.Parcel.{Parcel}
use Rattle.rules.specs.declared.Ledger.{Ledger}
use Rattle.rules.specs.declared.Sight.{Sight}
use Rattle.rules.specs.declared.Step.{Step}
use Rattle.rules.specs.meaning.Lengths.{M}
use Rattle.rules.specs.meaning.Table.{sound}
use Rattle.rules.specs.meaning.Parcels.{no_parcel, slots_sound, waiting, scan_of}
use Rattle.rules.specs.meaning.Links.{links_sound}
use Rattle.rules.specs.meaning.Ledgers.{counts_sound, seen_of}
use Rattle.rules.specs.meaning.Kinds.{slot_of, link_of}

-- the words, the slots and the ledger
pub record State : Type 0 where
  pub words : List ℕ
  pub slots : List Parcel
  pub ledger : Ledger

abbrev pub lent : List ℕ → List Parcel → Ledger → State
lent ws ss l = record { words = ws; slots = ss; ledger = l }

-- ---- where the tables stand
-- "site k's table is the part that starts at word k × 2 × C and is 2 × C words long"
abbrev pub width : Run → ℕ
width run = 2 * run.capacity

unfoldable pub table_at : Run → List ℕ → ℕ → List ℕ
table_at run ws k = take (width run) (drop (k * width run) ws)

-- the words with another table there
unfoldable pub with_table : Run → List ℕ → ℕ → List ℕ → List ℕ
with_table run ws k t = take (k * width run) ws ++ (t ++ drop (width run) (drop (k * width run) ws))

-- ---- what 1 and 2 judge
-- "Sizes: sites 1 to 16; C 0 to 2,048; slots 0 to 1,024", and the words are sites × 2 × C
unfoldable pub sizes_right : Run → ℕ → ℕ → Bool
sizes_right run words slots =
    leb 1 run.sites && (leb run.sites 16 && (leb run.capacity 2048 && (leb slots 1024 && eqb words (run.sites * width run))))

-- n tables one after the other, each w words wide
unfoldable pub tables_sound : ℕ → ℕ → ℕ → List ℕ → Bool
tables_sound most w zero ws = true
tables_sound most w (suc n) ws = sound most (take w ws) && tables_sound most w n (drop w ws)

-- every table, slot and the ledger is as laid out
unfoldable pub all_sound : Run → List ℕ → Sight → Bool
all_sound run ws si = tables_sound M (width run) run.sites ws && (si.scan.sound && (counts_sound M si.scan.waiting si.books.counts && si.books.sound))

-- a sound state: the sizes right, and every table, every slot and the ledger as laid out
abbrev pub StateSound : Run → State → Type 0
StateSound run s =
    (sizes_right run (length s.words) (length s.slots) ≡ true)
    × (tables_sound M (width run) run.sites s.words ≡ true)
    × (slots_sound M run.sites s.slots ≡ true)
    × (counts_sound M (waiting s.slots) s.ledger.counts ≡ true)
    × (links_sound run.sites s.ledger.pairs ≡ true)

-- ---- what a step sees besides the words
-- what one pass over the slots tells, a parcel that is looked at, and how many slots there are; and of the ledger the counts, the entry of a link that
-- is looked at, and whether the entries of all links are sound
abbrev pub sight_with : Parcel → ℕ → Run → State → Sight
sight_with named link run s = record { scan = scan_of M run.sites s.slots; named = named; count = length s.slots; books = seen_of run.sites link s.ledger }

-- the parcel in a slot
abbrev pub parcel_at : State → ℕ → Parcel
parcel_at s i = get_or s.slots i no_parcel

-- with the parcel in the slot that the step names, and the entry of the link that it names
abbrev pub sight_of : Run → State → Step → Sight
sight_of run s step = sight_with (parcel_at s (slot_of step)) (link_of run.sites (parcel_at s (slot_of step)) step) run s
