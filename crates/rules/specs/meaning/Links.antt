-- The links of a run, which are its ordered pairs of different sites: where the ledger keeps the entry of each, what makes an entry sound, and what a
-- send and a delivery make of it. "No other pair is read, judged or written."
-- Assumes nothing.
use Rattle.std.specs.Prelude.{ℕ, zero, suc, ◌+◌, ◌*◌, min, Bool, true, ◌&&◌, ◌||◌, not, cond, List, get_or, set, ltb, eqb}
use Rattle.rules.specs.declared.Pair.{Pair}
use Rattle.rules.specs.meaning.Serials.{next_serial, is_newer, is_ordered}

-- ---- where the entries are
abbrev pub place : ℕ → ℕ → ℕ
place a b = 16 * a + b

-- past the last entry nothing is read or set
abbrev pub no_link : ℕ
no_link = 256

abbrev pub no_pair : Pair
no_pair = record { next = 0; heard = 0; unsent = 0; unheard = 0 }

abbrev pub pair_at : ℕ → ℕ → List Pair → Pair
pair_at a b ps = get_or ps (place a b) no_pair

-- how many sites a run has entries for
abbrev pub linked : ℕ → ℕ
linked sites = min sites 16

-- the place of the entry of site a to site b, where both are sites of the run and not the same one
unfoldable pub link_between : ℕ → ℕ → ℕ → ℕ
link_between sites a b = cond (ltb a (linked sites) && (ltb b (linked sites) && not (eqb a b))) (place a b) no_link

-- ---- one entry
-- a mark stands where it is not 0
abbrev pub stands : ℕ → Bool
stands mark = not (eqb mark 0)

-- "the newest heard is 0 while its mark stands"
unfoldable pub pair_sound : Pair → Bool
pair_sound p = eqb p.unheard 0 || eqb p.heard 0

-- "starts at one first serial"; "fresh, both marks stand"
abbrev pub start_pair : ℕ → Pair
start_pair first = record { next = first; heard = 0; unsent = 1; unheard = 1 }

-- "goes up by one for each accepted send"
abbrev pub sent_pair : Pair → Pair
sent_pair p = record { next = next_serial p.next; heard = p.heard; unsent = 0; unheard = p.unheard }

-- "An accepted delivery moves the newest heard on only if the arriving serial is greater under that rule, or nothing was heard."
unfoldable pub moves_on : ℕ → Pair → Bool
moves_on serial p = stands p.unheard || is_newer serial p.heard

unfoldable pub heard_pair : ℕ → Pair → Pair
heard_pair serial p = cond (moves_on serial p) (record { next = p.next; heard = serial; unsent = p.unsent; unheard = 0 }) p

-- 15: something was heard, and it and the arriving serial "cannot be ordered"
unfoldable pub incomparable : ℕ → Pair → Bool
incomparable serial p = not (stands p.unheard) && not (is_ordered serial p.heard)

-- ---- something done for each link of a run, in order
-- from site a to each site below the number
unfoldable pub over_row : {S : Type 0} → (ℕ → ℕ → S → S) → ℕ → ℕ → S → S
over_row f a zero s = s
over_row f a (suc b) s = cond (eqb a b) (over_row f a b s) (f a b (over_row f a b s))

-- from each site below the last number to each below n
unfoldable pub over_rows : {S : Type 0} → (ℕ → ℕ → S → S) → ℕ → ℕ → S → S
over_rows f n zero s = s
over_rows f n (suc a) s = over_row f a n (over_rows f n a s)

abbrev pub over_links : {S : Type 0} → (ℕ → ℕ → S → S) → ℕ → S → S
over_links f sites s = over_rows f (linked sites) (linked sites) s

-- the entry of each link is sound
abbrev pub judged : List Pair → ℕ → ℕ → Bool → Bool
judged ps a b good = good && pair_sound (pair_at a b ps)

unfoldable pub links_sound : ℕ → List Pair → Bool
links_sound sites ps = over_links (judged ps) sites true

-- the entry of each link begins
abbrev pub begun : ℕ → ℕ → ℕ → List Pair → List Pair
begun first a b ps = set ps (place a b) (start_pair first)

unfoldable pub links_begun : ℕ → ℕ → List Pair → List Pair
links_begun sites first ps = over_links (begun first) sites ps
