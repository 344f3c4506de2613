-- The ledger: the counts, of which "Sound means each counter is at most M and sent + copied = absorbed + lost + waiting", and the entries of the links.
-- Assumes nothing.
use Rattle.std.specs.Prelude.{ℕ, suc, ◌+◌, Bool, true, false, ◌&&◌, cond, get_or, set, replicate, leb, ltb, eqb}
use Rattle.rules.specs.declared.Pair.{Pair}
use Rattle.rules.specs.declared.Counts.{Counts}
use Rattle.rules.specs.declared.Ledger.{Ledger}
use Rattle.rules.specs.declared.Seen.{Seen}
use Rattle.rules.specs.meaning.Links.{no_link, no_pair, start_pair, links_sound, links_begun}

-- ---- the counts
unfoldable pub counts_sound : ℕ → ℕ → Counts → Bool
counts_sound most waiting c =
    leb c.sent most && (leb c.copied most && (leb c.absorbed most && (leb c.lost most
    && eqb (c.sent + c.copied) (c.absorbed + c.lost + waiting))))

-- all counters 0, as in a fresh run
abbrev pub no_counts : Counts
no_counts = record { sent = 0; copied = 0; absorbed = 0; lost = 0 }

-- the counters by number; 0 is none of them
abbrev pub no_counter : ℕ
no_counter = 0

abbrev pub sent_counter : ℕ
sent_counter = 1

abbrev pub copied_counter : ℕ
copied_counter = 2

abbrev pub absorbed_counter : ℕ
absorbed_counter = 3

abbrev pub lost_counter : ℕ
lost_counter = 4

-- one more, and no more than the largest. A step whose counter is at the largest is refused, so no step ever meets the stop
unfoldable pub one_more : ℕ → ℕ → ℕ
one_more most n = cond (ltb n most) (suc n) n

-- the count raised where the counter is the one that is named
unfoldable pub raised_if : ℕ → Bool → ℕ → ℕ
raised_if most named n = cond named (one_more most n) n

-- the counts with the named counter raised
abbrev pub raised_counts : ℕ → ℕ → Counts → Counts
raised_counts most counter c = record {
  sent = raised_if most (eqb counter sent_counter) c.sent;
  copied = raised_if most (eqb counter copied_counter) c.copied;
  absorbed = raised_if most (eqb counter absorbed_counter) c.absorbed;
  lost = raised_if most (eqb counter lost_counter) c.lost;
}

-- ---- the ledger
-- what a step makes of it: a counter raised, and the entry of a link set
abbrev pub booked_ledger : ℕ → ℕ → ℕ → Pair → Ledger → Ledger
booked_ledger most counter link p l = record { counts = raised_counts most counter l.counts; pairs = set l.pairs link p }

-- what a fresh run makes of it: no count, and each link of the run at its beginning
abbrev pub started_ledger : ℕ → ℕ → Ledger → Ledger
started_ledger sites first l = record { counts = no_counts; pairs = links_begun sites first l.pairs }

-- a ledger that has no count, and of which every entry is at its beginning: what a run begins with that is not made fresh from another
abbrev pub begun_ledger : ℕ → Ledger
begun_ledger first = record { counts = no_counts; pairs = replicate no_link (start_pair first) }

-- a ledger started where that is wanted, else the ledger as it is
unfoldable pub started_if : Bool → ℕ → ℕ → Ledger → Ledger
started_if true sites first l = started_ledger sites first l
started_if false sites first l = l

-- what a step sees of it
abbrev pub seen_of : ℕ → ℕ → Ledger → Seen
seen_of sites link l = record { counts = l.counts; link = link; pair = get_or l.pairs link no_pair; sound = links_sound sites l.pairs }
