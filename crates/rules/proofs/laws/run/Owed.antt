-- What a step owes, as one record of facts; and what of it a step that leaves the tables alone, or the parcels, has for nothing. Each row of the table
-- of steps has its record in `Rows`, and what holds of every step is proved from these facts, without going over the steps again.
-- Assumes nothing.
use Rattle.std.specs.Prelude.{ℕ, suc, ◌≤◌, ◌<◌, Bool, true, false, ◌&&◌, cond, ◌≡◌, List, [], ◌∷◌, ◌++◌, length, get_or, leb, eqb}
use Rattle.std.proofs.Common.{le_refl, le_trans, arith, sym, leb-true, eqb-true}
use Rattle.std.proofs.Math.Path.{refl}
use Rattle.std.proofs.Math.Seq.{set_out}
use Rattle.std.proofs.lemmas.Bool.{eqb-false}
use Rattle.rules.specs.declared.Run.{Run}
use Rattle.rules.specs.declared.Parcel.{Parcel}
use Rattle.rules.specs.declared.Pair.{Pair}
use Rattle.rules.specs.declared.Ledger.{Ledger}
use Rattle.rules.specs.declared.Step.{Step}
use Rattle.rules.specs.meaning.Lengths.{M, join}
use Rattle.rules.specs.meaning.Table.{length_of}
use Rattle.rules.proofs.laws.table.View.{parts}
use Rattle.rules.specs.meaning.Parcels.{no_parcel, slots_sound, waiting, lowest_free}
use Rattle.rules.specs.meaning.Links.{no_link, no_pair, pair_sound, sent_pair, heard_pair, links_sound}
use Rattle.rules.specs.meaning.Ledgers.{counts_sound, raised_if}
use Rattle.rules.specs.meaning.Refusals.{Test, first_given}
use Rattle.rules.specs.meaning.Kinds.{numbers, is_send, is_again, is_deliver, is_lose, takes_slot, frees_slot, slot_of, link_of}
use Rattle.rules.specs.meaning.States.{State, StateSound, width, table_at, tables_sound, parcel_at, sight_of}
use Rattle.rules.specs.meaning.Steps.{ids_of, Gain, no_post, no_gain, site_in}
use Rattle.rules.specs.meaning.Runs.{effect_of, refusal_of, value_of, moved}
use Rattle.rules.specs.meaning.Acts.{low_taken}
use Rattle.rules.specs.meaning.Ids.{among, distinct}
use Rattle.rules.specs.meaning.Histories.{largest}
use Rattle.rules.proofs.laws.run.Slots.{lowest_within}
use Rattle.rules.proofs.laws.run.Links.{set_links_sound}
use Rattle.rules.proofs.laws.run.Steps.{neither, accepted_sound}

-- ---- the tests
-- every number of some tests is from lo to hi
unfoldable pub numbered : ℕ → ℕ → List Test → Bool
numbered lo hi [] = true
numbered lo hi (t ∷ ts) = leb lo t.number && (leb t.number hi && numbered lo hi ts)

-- so is the first that is given
pub given_numbered : (lo hi : ℕ) (ts : List Test) → numbered lo hi ts ≡ true → (k : ℕ) → first_given ts ≡ suc k → (lo ≤ suc k) × (suc k ≤ hi)
unfolding numbered first_given
given_numbered lo hi [] h k = λ e. absurd (omega arith)
given_numbered lo hi (t ∷ ts) h k = go t.given (parts (leb lo t.number) _ h) (given_numbered lo hi ts)
  where
    go : (b : Bool) → (leb lo t.number ≡ true) × (leb t.number hi && numbered lo hi ts ≡ true)
        → (numbered lo hi ts ≡ true → (j : ℕ) → first_given ts ≡ suc j → (lo ≤ suc j) × (suc j ≤ hi))
        → cond b t.number (first_given ts) ≡ suc k → (lo ≤ suc k) × (suc k ≤ hi)
    go true a ih e = rw (← e) (leb-true _ _ a.0, leb-true _ _ (parts (leb t.number hi) _ a.1).0)
    go false a ih e = ih (parts (leb t.number hi) _ a.1).1 k e

-- ---- the tables after an accepted step
-- the words are as many, and every table of them is sound; the site that gains holds the larger of what it held and what it was given, and nobody
-- else's table moves; and what it was given it was offered, or it held the id before
pub record Gains (run : Run) (ws : List ℕ) (k : ℕ) (g : Gain) : Type 0 where
  pub as_many : length g.words ≡ length ws
  pub all_sound_law : tables_sound M (width run) run.sites g.words ≡ true
  pub others : (j : ℕ) → (j ≡ k → ⊥) → table_at run g.words j ≡ table_at run ws j
  pub joined : (e : ℕ) → length_of (table_at run g.words k) e ≡ join (length_of (table_at run ws k) e) (largest g.given e)
  pub offered : (x : ℕ) → 1 ≤ largest g.given x → among x (g.offer ++ ids_of (table_at run ws k)) ≡ true

-- nothing given
pub nothing_gained : (n e : ℕ) → n ≡ join n (largest [] e)
unfolding largest
nothing_gained n e = omega arith

-- what comes of it at every site
module _ (run : Run) (s : State) (k : ℕ) (g : Gain) (gains : Gains run s.words k g) where
  -- it holds the larger of what it held and what it is given, and no other site's table moves
  pub one_gains : (j e : ℕ) → length_of (table_at run g.words j) e ≡ join (length_of (table_at run s.words j) e) (largest (cond (eqb k j) g.given []) e)
  one_gains j e = go (eqb k j) refl
    where
      go : (b : Bool) → eqb k j ≡ b → length_of (table_at run g.words j) e ≡ join (length_of (table_at run s.words j) e) (largest (cond b g.given []) e)
      go true q = rw (← eqb-true k j q) (gains.joined e)
      go false q = rw (gains.others j (λ z. eqb-false k j q (sym z))) (nothing_gained (length_of (table_at run s.words j) e) e)

  -- and it was offered what it is given, or held the id before
  pub one_offered : (j : ℕ) → eqb k j ≡ true → (x : ℕ) → 1 ≤ largest g.given x → among x (g.offer ++ ids_of (table_at run s.words j)) ≡ true
  one_offered j h x p = rw (← eqb-true k j h) (gains.offered x p)

-- ---- the slots and the ledger after an accepted step
-- sound slots, counts that balance with them, and sound links
abbrev pub Counted : Run → List Parcel → Ledger → Type 0
Counted run ss l = (slots_sound M run.sites ss ≡ true) × (counts_sound M (waiting ss) l.counts ≡ true) × (links_sound run.sites l.pairs ≡ true)

-- one more where the step is of the counter's kind
abbrev pub Earned : Bool → ℕ → ℕ → Type 0
Earned kind before after = after ≡ cond kind (suc before) before

-- where no slot was free below the number that a step is handed, none is below the one that it hands on
abbrev pub Low : Step → ℕ → ℕ → ℕ → Type 0
Low step free value place = (low : ℕ) → low ≤ free → (low_taken low step value ≤ place) × (low_taken low step value ≤ free)

-- the parcel that a step names, and the entry of the link that it names
abbrev pub named : State → Step → Parcel
named s step = parcel_at s (slot_of step)

abbrev pub link_pair : Run → State → Step → Pair
link_pair run s step = get_or s.ledger.pairs (link_of run.sites (named s step) step) no_pair

-- what a step makes of the entry of its link: a send takes its next serial, a delivery may move on the newest heard
abbrev pub pair_after : Step → ℕ → Pair → Pair
pair_after step serial p = cond (is_send step) (sent_pair p) (cond (is_deliver step) (heard_pair serial p) no_pair)

-- what it puts into its slot: the parcel of a send, a copy of the parcel that it names, or none
abbrev pub parcel_after : Step → ℕ → Parcel → ℕ → Parcel
parcel_after step n named serial =
    cond (is_send step) (record { site = (numbers step).second; id = (numbers step).id; length = n; sender = (numbers step).first; serial = serial }) (cond (is_again step) named no_parcel)

-- ---- what a step owes
module _ (run : Run) (s : State) (step : Step) where
  -- of the tables: what the site that gains gets, and that what it needs room for was offered: refused with 8, the ids that the site holds are, with
  -- those that the step offers, more than C different ones
  pub record TablesOwed : Type 0 where
    pub gains : refusal_of run s step ≡ 0 → Gains run s.words (site_in run (sight_of run s step) step) (effect_of run s step).gain
    pub crowds : StateSound run s → site_in run (sight_of run s step) step < run.sites → refusal_of run s step ≡ 8
        → run.capacity < distinct ((effect_of run s step).gain.offer ++ ids_of (table_at run s.words (site_in run (sight_of run s step) step)))

  -- of the parcels: the slots and the ledger stay sound, and each counter is one more where the step is of its kind: sent, copied, absorbed, lost; which
  -- link's entry is set, to what, and which parcel is put
  pub record ParcelsOwed : Type 0 where
    pub counted : refusal_of run s step ≡ 0 → Counted run (moved run s step).slots (moved run s step).ledger
    pub earned : refusal_of run s step ≡ 0
        → Earned (is_send step) s.ledger.counts.sent (moved run s step).ledger.counts.sent
        × Earned (is_again step) s.ledger.counts.copied (moved run s step).ledger.counts.copied
        × Earned (is_deliver step) s.ledger.counts.absorbed (moved run s step).ledger.counts.absorbed
        × Earned (is_lose step) s.ledger.counts.lost (moved run s step).ledger.counts.lost
    pub low : Low step (lowest_free s.slots) (value_of run s step) (effect_of run s step).post.place
    pub link : (effect_of run s step).post.link ≡ link_of run.sites (named s step) step
    pub pair : (effect_of run s step).post.pair ≡ pair_after step (named s step).serial (link_pair run s step)
    pub parcel : (effect_of run s step).post.parcel ≡ parcel_after step (effect_of run s step).post.parcel.length (named s step) (link_pair run s step).next

  -- and of its tests: their numbers begin at 3, since 1 and 2 judge the state, and have two digits at most
  pub record Owed : Type 0 where
    pub tests : numbered 3 99 (effect_of run s step).tests ≡ true
    pub tables : TablesOwed
    pub parcels : ParcelsOwed

  -- ---- a step that leaves the tables alone
  pub still : (effect_of run s step).gain ≡ no_gain run s.words → site_in run (sight_of run s step) step ≡ run.sites → TablesOwed
  unfolding largest
  still none past-last = record {
    gains = λ a. rw none (record {
      as_many = refl;
      all_sound_law = (accepted_sound run s step a).1;
      others = λ j ne. refl;
      joined = λ e. nothing_gained (length_of (table_at run s.words (site_in run (sight_of run s step) step)) e) e;
      offered = λ x p. absurd (omega arith);
    });
    crowds = λ ok h r. absurd (omega arith);
  }

  -- ---- a step that leaves the parcels alone
  pub quiet : (effect_of run s step).post ≡ no_post (sight_of run s step) → takes_slot step ≡ false → frees_slot step ≡ false → ParcelsOwed
  unfolding raised_if low_taken pair_sound link_of
  quiet none takes frees =
      let t = neither (is_send step) (is_again step) takes in
      let f = neither (is_deliver step) (is_lose step) frees in
      record {
        counted = λ a.
            let so = accepted_sound run s step a in
            rw (none, set_out s.slots (length s.slots) no_parcel (le_refl (length s.slots))) (so.2, so.3, set_links_sound run.sites s.ledger.pairs no_link no_pair so.4 refl);
        earned = λ a. rw (none, t.0, t.1, f.0, f.1) (refl, refl, refl, refl);
        low = λ low under. rw (none, takes, frees) (le_trans under (lowest_within s.slots), under);
        link = rw (none, t.0, f.0);
        pair = rw (none, t.0, f.0);
        parcel = rw (none, t.0, t.1);
      }
