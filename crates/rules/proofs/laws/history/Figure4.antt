-- "Adding, removing, merging and membership give exactly what the 2020 paper defines": for every accepted step, the length that each site
-- has for each id afterwards is the right-hand side of the paper's Figure 4.
-- Assumes nothing.
use Rattle.std.specs.Prelude.{ℕ, suc, ◌%◌, ◌≤◌, ◌<◌, Bool, true, false, ◌&&◌, cond, ◌≡◌, List, length, eqb}
use Rattle.std.proofs.Math.Path.{refl, sym}
use Rattle.std.proofs.Common.{ap, ◌∙◌}
use borrow.Author.Tests.{ltb-false, eqb-true, eqb-false, eq-eqb}
use Rattle.rules.specs.declared.Run.{Run}
use Rattle.rules.specs.declared.Step.{Step}
use Rattle.rules.specs.declared.Step.TheVariants.{Add, Remove, Query, Merge, Deliver}
use Rattle.rules.specs.meaning.Lengths.{M, listed, after_add, after_remove, join}
use Rattle.rules.proofs.laws.Lengths.{odd_listed, even_listed, listed_odd, add_listed, add_unlisted, remove_listed, remove_unlisted}
use Rattle.rules.specs.meaning.Table.{capacity, length_of, held_merged, merged}
use Rattle.rules.specs.meaning.Operations.{accepted, add_table, absorb_table, remove_table, merge_table, crowded, raise_refusal, remove_refusal, merge_refusal}
use Rattle.rules.proofs.laws.table.Operations.{raise_length, add_of, absorb_of, remove_length, remove_of, merge_accepted, merge_length, merge_of}
use Rattle.rules.proofs.laws.run.Slots.{occupied_has}
use Rattle.rules.specs.meaning.Kinds.{slot_of, numbers}
use Rattle.rules.specs.meaning.States.{State, table_at, with_table, parcel_at}
use Rattle.rules.specs.meaning.Steps.{effect}
use Rattle.rules.specs.meaning.Runs.{refusal_of, value_of, moved, after}
use Rattle.rules.specs.meaning.Histories.{length_in}
use Rattle.rules.proofs.laws.run.Steps.{pass, accepted_moves, accepted_sound, accepted_own, add_own, remove_own, merge_own, deliver_own}
use Rattle.rules.proofs.laws.run.Tables.{site_sound, put_there, put_elsewhere}

-- ---- the cases of Figure 4, at one id
-- add: "s{e ↦ s(e) + 1} if even(s(e)), s if odd(s(e))"
pub add_cases : (n : ℕ) → (n % 2 ≡ 0 → after_add n ≡ suc n) × (n % 2 ≡ 1 → after_add n ≡ n)
add_cases n = (λ p. add_unlisted n (even_listed n p), λ p. add_listed n (odd_listed n p))

-- remove: "s if even(s(e)), s{e ↦ s(e) + 1} if odd(s(e))"
pub remove_cases : (n : ℕ) → (n % 2 ≡ 0 → after_remove n ≡ n) × (n % 2 ≡ 1 → after_remove n ≡ suc n)
remove_cases n = (λ p. remove_unlisted n (even_listed n p), λ p. remove_listed n (odd_listed n p))

-- in(s, e) = odd(s(e)): an id is listed "exactly when its length is odd"
pub listed_cases : (n : ℕ) → (listed n ≡ true → n % 2 ≡ 1) × (n % 2 ≡ 1 → listed n ≡ true)
listed_cases n = (listed_odd n, odd_listed n)

-- one id's length changed where the site is the one that gains
one_changed : (f : ℕ → ℕ) (len : ℕ → ℕ) (here : Bool) (x e : ℕ) → cond here (cond (eqb x e) (f (len x)) (len e)) (len e) ≡ cond (here && eqb x e) (f (len e)) (len e)
one_changed f len true x e = go (eqb x e) refl
  where
    go : (b : Bool) → eqb x e ≡ b → cond b (f (len x)) (len e) ≡ cond b (f (len e)) (len e)
    go true q = rw (eqb-true x e q)
    go false q = refl
one_changed f len false x e = refl

-- ---- an accepted step that puts a table in at a site
module _ (run : Run) (s : State) (step : Step) (ok : refusal_of run s step ≡ 0) (j : ℕ) (u : List ℕ) (p : j < run.sites)
    (size : length u ≡ length (table_at run s.words j)) (put : (moved run s step).words ≡ with_table run s.words j u) where
  words_put : (after run s step).words ≡ with_table run s.words j u
  words_put = ap (λ (v : State). v.words) (accepted_moves run s step ok) ∙ put

  -- leaves that table there
  put_in : table_at run (after run s step).words j ≡ u
  put_in = rw words_put (put_there run s (accepted_sound run s step ok) j p u size)

  -- so the site has that table's lengths, and every other site has the lengths it had
  put_of : (g : ℕ → ℕ → ℕ) → ((e : ℕ) → length_of u e ≡ g j e) → (k e : ℕ) → length_in run (after run s step) k e ≡ cond (eqb j k) (g k e) (length_in run s k e)
  put_of g of k e = go (eqb j k) refl
    where
      go : (b : Bool) → eqb j k ≡ b → length_in run (after run s step) k e ≡ cond b (g k e) (length_in run s k e)
      go true q = rw (← eqb-true j k q, put_in) (of e)
      go false q = rw (words_put, put_elsewhere run s (accepted_sound run s step ok) j p u size k (λ h. eqb-false j k q (sym h)))

  -- where the table has one id's length changed, that length alone is changed in the run
  put_one : (f : ℕ → ℕ) (x : ℕ) → ((e : ℕ) → length_of u e ≡ cond (eqb x e) (f (length_in run s j x)) (length_in run s j e)) → (k e : ℕ)
      → length_in run (after run s step) k e ≡ cond (eqb j k && eqb x e) (f (length_in run s k e)) (length_in run s k e)
  put_one f x of k e = put_of (λ i y. cond (eqb x y) (f (length_in run s i x)) (length_in run s i y)) of k e ∙ one_changed f (length_in run s k) (eqb j k) x e

module _ (run : Run) (s : State) where
  -- ---- add
  pub add_fits : (j x : ℕ) → refusal_of run s (Add j x) ≡ 0 → raise_refusal (table_at run s.words j) x (after_add (length_in run s j x)) ≡ accepted
  unfolding raise_refusal effect
  add_fits j x ok =
      let a = pass 2 _ _ (accepted_own run s (Add j x) ok) in
      rw (pass 7 _ _ a.1).0

  -- add(s, e): an accepted add gives the id the paper's length at its site, and leaves every other length
  pub figure4_add : (j x : ℕ) → refusal_of run s (Add j x) ≡ 0 → (k e : ℕ)
      → length_in run (after run s (Add j x)) k e ≡ cond (eqb j k && eqb x e) (after_add (length_in run s k e)) (length_in run s k e)
  unfolding effect
  figure4_add j x ok =
      let t = table_at run s.words j in
      let p = add_own run s j x ok in
      let fine = site_sound run s (accepted_sound run s (Add j x) ok) j p in
      put_one run s (Add j x) ok j (add_table t x) p (raise_length M t x (after_add (length_of t x)) fine) refl after_add x (add_of M refl t x fine (add_fits j x ok))

  -- the value of an accepted add is the "length after"
  pub figure4_add_value : (j x : ℕ) → refusal_of run s (Add j x) ≡ 0 → value_of run s (Add j x) ≡ length_in run (after run s (Add j x)) j x
  unfolding value_of effect
  figure4_add_value j x ok = sym (figure4_add j x ok j x ∙ (rw (eq-eqb j j refl, eq-eqb x x refl)))

  -- ---- remove
  pub remove_fits : (j x : ℕ) → refusal_of run s (Remove j x) ≡ 0 → remove_refusal M (table_at run s.words j) x ≡ accepted
  unfolding remove_refusal effect
  remove_fits j x ok =
      let a = pass 2 _ _ (accepted_own run s (Remove j x) ok) in
      rw (pass 6 _ _ a.1).0

  -- remove(s, e): an accepted remove gives the id the paper's length at its site, and leaves every other length
  pub figure4_remove : (j x : ℕ) → refusal_of run s (Remove j x) ≡ 0 → (k e : ℕ)
      → length_in run (after run s (Remove j x)) k e ≡ cond (eqb j k && eqb x e) (after_remove (length_in run s k e)) (length_in run s k e)
  unfolding effect
  figure4_remove j x ok =
      let t = table_at run s.words j in
      let p = remove_own run s j x ok in
      let fine = site_sound run s (accepted_sound run s (Remove j x) ok) j p in
      put_one run s (Remove j x) ok j (remove_table M t x) p (remove_length M t x fine) refl after_remove x (remove_of M t x fine (remove_fits j x ok))

  -- the value of an accepted remove is the "length after"
  pub figure4_remove_value : (j x : ℕ) → refusal_of run s (Remove j x) ≡ 0 → value_of run s (Remove j x) ≡ length_in run (after run s (Remove j x)) j x
  unfolding value_of effect
  figure4_remove_value j x ok = sym (figure4_remove j x ok j x ∙ (rw (eq-eqb j j refl, eq-eqb x x refl)))

  -- ---- merge
  merge_fits : (f t : ℕ) → refusal_of run s (Merge f t) ≡ 0 → crowded (table_at run s.words t) (held_merged (table_at run s.words t) (table_at run s.words f)) ≡ false
  unfolding effect
  merge_fits f t ok =
      let a = pass 2 _ _ (accepted_own run s (Merge f t) ok) in
      let b = pass 3 _ _ a.1 in
      (pass 7 _ _ b.1).0

  pub merge_taken : (f t : ℕ) → refusal_of run s (Merge f t) ≡ 0 → merge_refusal (table_at run s.words t) (table_at run s.words f) ≡ accepted
  unfolding merge_refusal
  merge_taken f t ok = rw (merge_fits f t ok)

  -- (s ⊔ s')(e) = max(s(e), s'(e)): an accepted merge gives every id the larger length at the second site, and leaves every other site
  pub figure4_merge : (f t : ℕ) → refusal_of run s (Merge f t) ≡ 0 → (k e : ℕ)
      → length_in run (after run s (Merge f t)) k e ≡ cond (eqb t k) (join (length_in run s k e) (length_in run s f e)) (length_in run s k e)
  unfolding effect
  figure4_merge f t ok =
      let into = table_at run s.words t in
      let from = table_at run s.words f in
      let p = merge_own run s f t ok in
      let to-fine = site_sound run s (accepted_sound run s (Merge f t) ok) t p.1 in
      let from-fine = site_sound run s (accepted_sound run s (Merge f t) ok) f p.0 in
      put_of run s (Merge f t) ok t (merge_table into from) p.1 (merge_length M into from to-fine from-fine) refl
      (λ i x. join (length_in run s i x) (length_in run s f x)) (merge_of M into from to-fine from-fine (merge_taken f t ok))

  -- the table that an accepted merge leaves at the second site is the two tables merged, and there was room for it
  pub merge_table_law : (f t : ℕ) → refusal_of run s (Merge f t) ≡ 0
      → (table_at run (after run s (Merge f t)).words t ≡ merged (table_at run s.words t) (table_at run s.words f))
      × (held_merged (table_at run s.words t) (table_at run s.words f) ≤ capacity (table_at run s.words t))
  unfolding effect
  merge_table_law f t ok =
      let into = table_at run s.words t in
      let from = table_at run s.words f in
      let p = merge_own run s f t ok in
      let to-fine = site_sound run s (accepted_sound run s (Merge f t) ok) t p.1 in
      let from-fine = site_sound run s (accepted_sound run s (Merge f t) ok) f p.0 in
      let room = ltb-false _ _ (merge_fits f t ok) in (
        put_in run s (Merge f t) ok t (merge_table into from) p.1 (merge_length M into from to-fine from-fine) refl
            ∙ (merge_accepted into from room).1,
        room,
      )

  -- ---- deliver
  pub deliver_fits : (i : ℕ) → refusal_of run s (Deliver i) ≡ 0
      → raise_refusal (table_at run s.words (parcel_at s i).site) (parcel_at s i).id (join (length_in run s (parcel_at s i).site (parcel_at s i).id) (parcel_at s i).length) ≡ accepted
  unfolding raise_refusal slot_of numbers effect
  deliver_fits i ok =
      let a = pass 4 _ _ (accepted_own run s (Deliver i) ok) in
      let b = pass 14 _ _ a.1 in
      rw (pass 7 _ _ b.1).0

  -- "Delivering it merges that single entry": an accepted delivery gives the parcel's id the larger length at the parcel's site, and leaves
  -- every other length
  pub figure4_deliver : (i : ℕ) → refusal_of run s (Deliver i) ≡ 0 → (k e : ℕ)
      → length_in run (after run s (Deliver i)) k e
      ≡ cond (eqb (parcel_at s i).site k && eqb (parcel_at s i).id e) (join (length_in run s k e) (parcel_at s i).length) (length_in run s k e)
  unfolding effect slot_of numbers
  figure4_deliver i ok =
      let q = parcel_at s i in
      let t = table_at run s.words q.site in
      let o = occupied_has M run.sites q (deliver_own run s i ok).1 in
      let fine = site_sound run s (accepted_sound run s (Deliver i) ok) q.site o.2 in
      put_one run s (Deliver i) ok q.site (absorb_table t q.id q.length) o.2 (raise_length M t q.id (join (length_of t q.id) q.length) fine) refl
      (λ n. join n q.length) q.id (absorb_of M t q.id q.length o.1 fine (deliver_fits i ok))

  -- the value of an accepted delivery is the "length after"
  pub figure4_deliver_value : (i : ℕ) → refusal_of run s (Deliver i) ≡ 0
      → value_of run s (Deliver i) ≡ length_in run (after run s (Deliver i)) (parcel_at s i).site (parcel_at s i).id
  unfolding value_of effect slot_of numbers
  figure4_deliver_value i ok =
      let q = parcel_at s i in
      sym (figure4_deliver i ok q.site q.id ∙ (rw (eq-eqb q.site q.site refl, eq-eqb q.id q.id refl)))

  -- ---- membership
  -- in(s, e) = odd(s(e)): the value of a query is the length, and it is listed "exactly when its length is odd"
  pub figure4_query : (k e : ℕ)
      → (value_of run s (Query k e) ≡ length_in run s k e) × (listed (value_of run s (Query k e)) ≡ true → length_in run s k e % 2 ≡ 1)
      × (length_in run s k e % 2 ≡ 1 → listed (value_of run s (Query k e)) ≡ true)
  unfolding value_of effect
  figure4_query k e = (refl, listed_odd (length_in run s k e), odd_listed (length_in run s k e))
