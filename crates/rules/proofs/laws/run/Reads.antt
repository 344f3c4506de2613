-- "No other pair is read, judged or written": other than the ordered pairs of two different sites of the run. What a step answers, and what is judged, goes by
-- the entries of the links; a step sets none but that of its own link, and a fresh start those of the links.
-- Assumes nothing.
use Rattle.std.specs.Prelude.{ℕ, zero, suc, ◌<◌, Bool, ◌&&◌, cond, ◌≡◌, List, length}
use Rattle.std.proofs.Common.{arith, sym, ◌∙◌, get_or-set_other, ltb-true}
use Rattle.std.proofs.Math.Bool.{true, false, not}
use Rattle.std.proofs.lemmas.Bool.{false≢true, eqb-false}
use Rattle.std.proofs.Math.Path.{refl, ap}
use Rattle.std.proofs.Math.ListN.{get_or, get_or-eq_default}
use Rattle.std.proofs.Math.Dec.{ltb, eqb}
use Rattle.rules.specs.declared.Run.{Run}
use Rattle.rules.specs.declared.Parcel.{Parcel}
use Rattle.rules.specs.declared.Pair.{Pair}
use Rattle.rules.specs.declared.Sight.{Sight}
use Rattle.rules.specs.declared.Step.{Step}
use Rattle.rules.specs.meaning.Operations.{answer}
use Rattle.rules.specs.meaning.Links.{place, no_link, no_pair, pair_at, linked, link_between, links_sound}
use Rattle.rules.specs.meaning.Kinds.{is_send, is_deliver, numbers, link_of}
use Rattle.rules.specs.meaning.States.{State, lent, sight_of}
use Rattle.rules.specs.meaning.Steps.{effect}
use Rattle.rules.specs.meaning.Runs.{refusal_in, refusal_of, value_of, answer_of, after, effect_of, state_by, fresh_refusal, empty, after_fresh}
use Rattle.rules.specs.meaning.Lags.{lag_answer}
use Rattle.rules.proofs.laws.run.Steps.{after_keeps}
use Rattle.rules.proofs.laws.run.Links.{sound_links, links_sound_law, OffRows, begun_other}
use Rattle.rules.proofs.laws.run.Owed.{named}
use Rattle.rules.proofs.laws.run.Rows.{owed}

-- two lists of 256 entries that have the same for each link
pub record SameLinks (sites : ℕ) (ps qs : List Pair) : Type 0 where
  pub whole : length ps ≡ 256
  pub whole' : length qs ≡ 256
  pub agree : (a b : ℕ) → a < linked sites → b < linked sites → (a ≡ b → ⊥) → pair_at a b ps ≡ pair_at a b qs

module _ (sites : ℕ) (ps qs : List Pair) (same : SameLinks sites ps qs) where
  -- are judged alike
  one_way : links_sound sites ps ≡ true → links_sound sites qs ≡ true
  one_way h = links_sound_law sites qs (λ a la b lb d. rw (← same.agree a b la lb d) (sound_links sites ps h a la b lb d))

  back : links_sound sites qs ≡ true → links_sound sites ps ≡ true
  back h = links_sound_law sites ps (λ a la b lb d. rw (same.agree a b la lb d) (sound_links sites qs h a la b lb d))

  pub judged_alike : links_sound sites ps ≡ links_sound sites qs
  judged_alike = go (links_sound sites ps) refl (links_sound sites qs) refl
    where
      go : (x : Bool) → links_sound sites ps ≡ x → (y : Bool) → links_sound sites qs ≡ y → x ≡ y
      go true p y q = sym (one_way p) ∙ q
      go false p true q = absurd (false≢true (sym p ∙ back q))
      go false p false q = refl

  -- past the last entry both have none
  none_alike : get_or ps no_link no_pair ≡ get_or qs no_link no_pair
  none_alike = get_or-eq_default ps no_pair (omega (arith, same.whole)) ∙ sym (get_or-eq_default qs no_pair (omega (arith, same.whole')))

  -- and are read alike
  pub read_alike : (a b : ℕ) → get_or ps (link_between sites a b) no_pair ≡ get_or qs (link_between sites a b) no_pair
  unfolding link_between
  read_alike a b = go (ltb a (linked sites)) refl (ltb b (linked sites)) refl (eqb a b) refl
    where
      go : (p : Bool) → ltb a (linked sites) ≡ p → (q : Bool) → ltb b (linked sites) ≡ q → (r : Bool) → eqb a b ≡ r
          → get_or ps (cond (p && (q && not r)) (place a b) no_link) no_pair ≡ get_or qs (cond (p && (q && not r)) (place a b) no_link) no_pair
      go true p true q false r = same.agree a b (ltb-true _ _ p) (ltb-true _ _ q) (eqb-false a b r)
      go true p true q true r = none_alike
      go true p false q r t = none_alike
      go false p q t r u = none_alike

  seen_alike : (p : Parcel) (step : Step) → get_or ps (link_of sites p step) no_pair ≡ get_or qs (link_of sites p step) no_pair
  unfolding link_of
  seen_alike p step = go (is_send step) (is_deliver step)
    where
      go : (s d : Bool) → get_or ps (cond s (link_between sites (numbers step).first (numbers step).second) (cond d (link_between sites p.sender p.site) no_link)) no_pair
          ≡ get_or qs (cond s (link_between sites (numbers step).first (numbers step).second) (cond d (link_between sites p.sender p.site) no_link)) no_pair
      go true d = read_alike (numbers step).first (numbers step).second
      go false true = read_alike p.sender p.site
      go false false = none_alike

-- two states that differ in no word, no slot, no count and no link are answered alike
module _ (run : Run) (s : State) (qs : List Pair) (same : SameLinks run.sites s.ledger.pairs qs) where
  abbrev other : State
  other = lent s.words s.slots (record { counts = s.ledger.counts; pairs = qs })

  sight_alike : (step : Step) → sight_of run s step ≡ sight_of run other step
  sight_alike step = rw (judged_alike run.sites s.ledger.pairs qs same, seen_alike run.sites s.ledger.pairs qs same (named s step) step)

  pub answered_alike : (step : Step) → answer_of run s step ≡ answer_of run other step
  unfolding refusal_of value_of
  answered_alike step = ap (λ (si : Sight). answer (refusal_in run s.words si step) (effect run s.words si step).value) (sight_alike step)

  pub lagged_alike : (from to : ℕ) → lag_answer run s from to ≡ lag_answer run other from to
  unfolding lag_answer
  lagged_alike from to = rw (judged_alike run.sites s.ledger.pairs qs same, read_alike run.sites s.ledger.pairs qs same from to)

-- a step sets no entry but that of the link that it names
pub only_named_link : (run : Run) (s : State) (step : Step) (i : ℕ) → (i ≡ link_of run.sites (named s step) step → ⊥)
    → get_or (after run s step).ledger.pairs i no_pair ≡ get_or s.ledger.pairs i no_pair
only_named_link run s step i ne = after_keeps run s step (λ u. get_or u.ledger.pairs i no_pair ≡ get_or s.ledger.pairs i no_pair) refl
    (λ a. get_or-set_other s.ledger.pairs (effect_of run s step).post.link i (effect_of run s step).post.pair no_pair (rw (owed run s step).parcels.link ne))

-- and a fresh start none but those of the run's links
pub fresh_leaves : (run : Run) (first : ℕ) (s : State) (i : ℕ) → OffRows i (linked run.sites) (linked run.sites) → get_or (after_fresh run first s).ledger.pairs i no_pair ≡ get_or s.ledger.pairs i no_pair
unfolding after_fresh
fresh_leaves run first s i off = go (fresh_refusal run (length s.words) (length s.slots))
  where
    go : (r : ℕ) → get_or (state_by r s (empty run first s)).ledger.pairs i no_pair ≡ get_or s.ledger.pairs i no_pair
    go zero = begun_other run.sites first s.ledger.pairs i off
    go (suc r) = refl
