-- What each step is: for each row of 01's table "Steps and what they return" one record, with the tests of its refusals in order.
-- Assumes nothing.
use Rattle.std.specs.Prelude.{ℕ, zero, suc, Bool, ◌||◌, not, cond, List, [], ◌∷◌, leb, eqb}
use Rattle.rules.specs.declared.Run.{Run}
use Rattle.rules.specs.declared.Parcel.{Parcel}
use Rattle.rules.specs.declared.Pair.{Pair}
use Rattle.rules.specs.declared.Sight.{Sight}
use Rattle.rules.specs.declared.Step.{Step}
use Rattle.rules.specs.declared.Step.TheVariants.{Add, Remove, Query, Send, Merge, Deliver, Again, Lose}
use Rattle.rules.specs.meaning.Lengths.{M, after_add, after_remove, join, runs_out}
use Rattle.rules.specs.meaning.Table.{length_of, held_with, held_merged, rises}
use Rattle.rules.specs.meaning.Operations.{crowded, add_table, absorb_table, remove_table, merge_table}
use Rattle.rules.specs.meaning.Parcels.{no_parcel, is_occupied}
use Rattle.rules.specs.meaning.Links.{no_link, no_pair, sent_pair, heard_pair, incomparable}
use Rattle.rules.specs.meaning.Ledgers.{no_counter, sent_counter, copied_counter, absorbed_counter, lost_counter}
use Rattle.rules.specs.meaning.Refusals.{Test, ◌when◌}
use Rattle.rules.specs.meaning.States.{table_at, with_table}

-- ---- what a site is given and offered
pub record Entry : Type 0 where
  pub id : ℕ
  pub length : ℕ

-- "the length it returns, or nothing if that is 0"
abbrev pub entry_of : ℕ → ℕ → List Entry
entry_of e zero = []
entry_of e (suc n) = record { id = e; length = suc n } ∷ []

-- every entry of a table
unfoldable pub entries_of : List ℕ → List Entry
entries_of [] = []
entries_of (w ∷ []) = []
entries_of (e ∷ zero ∷ t) = []
entries_of (e ∷ suc n ∷ t) = record { id = e; length = suc n } ∷ entries_of t

-- the ids of them
unfoldable pub ids_of : List ℕ → List ℕ
ids_of [] = []
ids_of (w ∷ []) = []
ids_of (e ∷ zero ∷ t) = []
ids_of (e ∷ suc n ∷ t) = e ∷ ids_of t

-- ---- a row of the table
-- what a step does to the tables: the site that gains, what an accepted step gives to it, what the step offers to it, refused or not, and the words
-- after. A site absorbs "by accepted steps only: its own adds and removes, the updates delivered to it, and the tables merged into it as they then
-- stood", and is offered ids "by adds, deliveries and merges, refused ones too"
pub record Gain : Type 0 where
  pub site : ℕ
  pub given : List Entry
  pub offer : List ℕ
  pub words : List ℕ

-- what it does to the parcels and to the ledger: the slot that is set, what is put there, the counter that the step earns, the link whose entry is set,
-- and that entry
pub record Post : Type 0 where
  pub place : ℕ
  pub parcel : Parcel
  pub counter : ℕ
  pub link : ℕ
  pub pair : Pair

-- the tests that refuse it, in the order of the numbers, once 1 and 2 have judged the state; what it "returns"; and its "effect if accepted"
pub record Effect : Type 0 where
  pub tests : List Test
  pub value : ℕ
  pub gain : Gain
  pub post : Post

-- no parcel moves: past the last slot and past the last entry nothing is set
abbrev pub no_post : Sight → Post
no_post si = record { place = si.count; parcel = no_parcel; counter = no_counter; link = no_link; pair = no_pair }

-- "A new parcel takes the free slot with the lowest number"
abbrev pub puts : Sight → Parcel → ℕ → ℕ → Pair → Post
puts si p counter link pair = record { place = si.scan.free; parcel = p; counter = counter; link = link; pair = pair }

-- "slot freed"
abbrev pub frees : ℕ → ℕ → ℕ → Pair → Post
frees i counter link pair = record { place = i; parcel = no_parcel; counter = counter; link = link; pair = pair }

-- 9: no free slot
abbrev pub no_free_slot : Sight → Bool
no_free_slot si = leb si.count si.scan.free

module _ (run : Run) where
  -- 3: a site number at or above the number of sites
  abbrev pub outside : ℕ → Bool
  outside k = leb run.sites k

  -- 5: a slot number at or above the slot count, or that slot free. In a state that 2 has judged, free is what is not occupied
  abbrev pub nothing_there : Sight → ℕ → Bool
  nothing_there si i = leb si.count i || not (is_occupied M run.sites si.named)

  module _ (ws : List ℕ) where
    -- the table of a site, and a length in it
    abbrev table : ℕ → List ℕ
    table k = table_at run ws k

    abbrev at : ℕ → ℕ → ℕ
    at k e = length_of (table k) e

    -- 6: the sender's length for the id is 0
    abbrev pub unheld : ℕ → ℕ → Bool
    unheld k e = eqb (at k e) 0

    -- 7: the length after a remove is above the largest
    abbrev pub worn_out : ℕ → ℕ → Bool
    worn_out k e = runs_out M (after_remove (at k e))

    -- 8: the length n for the id needs a place that the table has not
    abbrev pub no_room : ℕ → ℕ → ℕ → Bool
    no_room k e n = crowded (table k) (held_with (table k) e n)

    abbrev pub no_room_for_all : ℕ → ℕ → Bool
    no_room_for_all f t = crowded (table t) (held_merged (table t) (table f))

    -- the lengths after an add and after an update arrives
    abbrev pub length_added : ℕ → ℕ → ℕ
    length_added k e = after_add (at k e)

    abbrev pub length_delivered : Parcel → ℕ
    length_delivered p = join (at p.site p.id) p.length

    -- no table changes: no site gains, and the number is past the last
    abbrev pub no_gain : Gain
    no_gain = record { site = run.sites; given = []; offer = []; words = ws }

    unfoldable pub effect : Sight → Step → Effect
    -- add: "as above, at one site"; "length after"
    effect si (Add k e) = record {
      tests = (3 when outside k) ∷ (8 when no_room k e (length_added k e)) ∷ [];
      value = length_added k e;
      gain = record { site = k; given = entry_of e (length_added k e); offer = e ∷ []; words = with_table run ws k (add_table (table k) e) };
      post = no_post si;
    }
    -- remove: likewise; "no entry is made", so nothing is offered
    effect si (Remove k e) = record {
      tests = (3 when outside k) ∷ (7 when worn_out k e) ∷ [];
      value = after_remove (at k e);
      gain = record { site = k; given = entry_of e (after_remove (at k e)); offer = []; words = with_table run ws k (remove_table M (table k) e) };
      post = no_post si;
    }
    -- query: "none"; "length"
    effect si (Query k e) = record { tests = (3 when outside k) ∷ []; value = at k e; gain = no_gain; post = no_post si }
    -- send: "parcel with the sender's length for the id, then sent + 1"; "slot". The parcel has the sender and the next serial of its link
    effect si (Send f t e) = record {
      tests = (3 when (outside f || outside t)) ∷ (4 when eqb f t) ∷ (6 when unheld f e) ∷ (9 when no_free_slot si) ∷ (10 when eqb si.books.counts.sent M) ∷ [];
      value = si.scan.free;
      gain = no_gain;
      post = puts si (record { site = t; id = e; length = at f e; sender = f; serial = si.books.pair.next }) sent_counter si.books.link (sent_pair si.books.pair);
    }
    -- again: "second parcel like the one in the slot, copied + 1"; "new slot". "A copy made by again keeps its serial"
    effect si (Again i) = record {
      tests = (5 when nothing_there si i) ∷ (9 when no_free_slot si) ∷ (10 when eqb si.books.counts.copied M) ∷ [];
      value = si.scan.free;
      gain = no_gain;
      post = puts si si.named copied_counter no_link no_pair;
    }
    -- deliver: "merged at its site, slot freed, absorbed + 1, even if the length did not rise"; "length after". The newest heard may move on
    effect si (Deliver i) = record {
      tests = (5 when nothing_there si i) ∷ (15 when incomparable si.named.serial si.books.pair)
          ∷ (8 when no_room si.named.site si.named.id (length_delivered si.named)) ∷ (10 when eqb si.books.counts.absorbed M) ∷ [];
      value = length_delivered si.named;
      gain = record {
        site = si.named.site;
        given = entry_of si.named.id si.named.length;
        offer = cond (nothing_there si i) [] (si.named.id ∷ []);
        words = with_table run ws si.named.site (absorb_table (table si.named.site) si.named.id si.named.length);
      };
      post = frees i absorbed_counter si.books.link (heard_pair si.named.serial si.books.pair);
    }
    -- lose: "slot freed, lost + 1"; 0
    effect si (Lose i) = record {
      tests = (5 when nothing_there si i) ∷ (10 when eqb si.books.counts.lost M) ∷ [];
      value = 0;
      gain = no_gain;
      post = frees i lost_counter no_link no_pair;
    }
    -- merge: "the first site's whole table into the second's; the first unchanged"; "number of ids whose length rose"
    effect si (Merge f t) = record {
      tests = (3 when (outside f || outside t)) ∷ (4 when eqb f t) ∷ (8 when no_room_for_all f t) ∷ [];
      value = rises (table t) (table f);
      gain = record { site = t; given = entries_of (table f); offer = cond (outside f) [] (ids_of (table f)); words = with_table run ws t (merge_table (table t) (table f)) };
      post = no_post si;
    }

-- the site that gains: it goes by the step and by what the step sees besides the words, so by no words as well
unfoldable pub site_in : Run → Sight → Step → ℕ
site_in run si step = (effect run [] si step).gain.site
