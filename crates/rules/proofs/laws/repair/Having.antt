-- What the sites have after some repairs: nothing goes away, and repairs of one site bring it all that they name and leave the others as they are.
-- Assumes nothing.
use Rattle.std.specs.Prelude.{ℕ, ◌≤◌, ◌<◌, Bool, true, false, cond, ◌≡◌, eqb, ltb}
use Rattle.std.proofs.Common.{le_refl, le_trans, arith, ◌∙◌}
use Rattle.std.proofs.Math.Path.{refl, sym}
use mathlib.Core.List.{List, [], ◌∷◌, ◌++◌, append_assoc, append-nil}
use borrow.Author.Tests.{ltb-true, eq-eqb, ne_eqb, eqb-true, eqb-false, not-true}
use Rattle.rules.specs.declared.Run.{Run}
use Rattle.rules.specs.meaning.Histories.{largest}
use Rattle.rules.specs.meaning.Repairs.{are_sound, entries_of_all, Repair, merging, absorbing, site_of, is_proper, are_proper, all_at, brings, having, has_after, all_brought}
use Rattle.rules.proofs.laws.table.View.{parts}
use Rattle.rules.proofs.laws.group.Groups.{entries_sound}
use Rattle.rules.proofs.laws.repair.Fits.{largest_both, sound_both}

-- nothing that a site has goes away
having_grows : (has : ℕ → List (List ℕ)) (r : Repair) (k x : ℕ) → largest (entries_of_all (has k)) x ≤ largest (entries_of_all (having has r k)) x
having_grows has r k x = go (eqb (site_of r) k)
  where
    go : (b : Bool) → largest (entries_of_all (has k)) x ≤ largest (entries_of_all (cond b (has k ++ brings has r) (has k))) x
    go true = omega (arith, largest_both (has k) (brings has r) x)
    go false = le_refl _

pub after_grows : (repairs : List Repair) (has : ℕ → List (List ℕ)) (k x : ℕ) → largest (entries_of_all (has k)) x ≤ largest (entries_of_all (has_after has repairs k)) x
unfolding has_after
after_grows [] has k x = le_refl _
after_grows (r ∷ repairs) has k x = le_trans (having_grows has r k x) (after_grows repairs (having has r) k x)

-- the site of a repair has what it had and what is brought
pub having_there : (has : ℕ → List (List ℕ)) (r : Repair) → having has r (site_of r) ≡ has (site_of r) ++ brings has r
having_there has r = rw (eq-eqb (site_of r) (site_of r) refl)

-- ---- what they have is laid out as tables are, where it is so at the start
brings_sound : (run : Run) (has : ℕ → List (List ℕ)) (r : Repair) → is_proper run r ≡ true → ((k : ℕ) → k < run.sites → are_sound (has k) ≡ true) → are_sound (brings has r) ≡ true
unfolding is_proper are_sound
brings_sound run has (merging f t) proper sounds = sounds f (ltb-true _ _ (parts (ltb f run.sites) _ proper).0)
brings_sound run has (absorbing t bytes) proper sounds = rw (entries_sound bytes)

pub after_sound : (run : Run) (repairs : List Repair) (has : ℕ → List (List ℕ)) → are_proper run repairs ≡ true → ((k : ℕ) → k < run.sites → are_sound (has k) ≡ true)
    → (k : ℕ) → k < run.sites → are_sound (has_after has repairs k) ≡ true
unfolding are_proper has_after
after_sound run [] has proper sounds k l = sounds k l
after_sound run (r ∷ repairs) has proper sounds k l =
    let p = parts (is_proper run r) _ proper in
    after_sound run repairs (having has r) p.1 (λ j m. one j m (eqb (site_of r) j) (brings_sound run has r p.0 sounds)) k l
  where
    one : (j : ℕ) → j < run.sites → (b : Bool) → are_sound (brings has r) ≡ true → are_sound (cond b (has j ++ brings has r) (has j)) ≡ true
    one j m true brought = sound_both (has j) (brings has r) (sounds j m) brought
    one j m false brought = sounds j m

-- ---- repairs of one site
module _ (run : Run) (k : ℕ) where
  -- a site that they do not repair has what it had
  pub others_have : (repairs : List Repair) (has : ℕ → List (List ℕ)) → all_at k repairs ≡ true → (j : ℕ) → (k ≡ j → ⊥) → has_after has repairs j ≡ has j
  unfolding all_at has_after
  others_have [] has of j ne = refl
  others_have (r ∷ repairs) has of j ne =
      let a = parts (eqb (site_of r) k) _ of in
      others_have repairs (having has r) a.1 j ne ∙ (rw (eqb-true (site_of r) k a.0, ne_eqb k j ne))

  -- so what one of them brings goes by what the other sites have
  one_brings : (r : Repair) (has now : ℕ → List (List ℕ)) → site_of r ≡ k → is_proper run r ≡ true → ((j : ℕ) → (k ≡ j → ⊥) → now j ≡ has j) → brings now r ≡ brings has r
  unfolding is_proper
  one_brings (merging f t) has now of proper agree =
      let a = parts (ltb t run.sites) _ (parts (ltb f run.sites) _ proper).1 in
      agree f (λ q. eqb-false f t (not-true _ a.1) (sym q ∙ sym of))
  one_brings (absorbing t bytes) has now of proper agree = refl

  all_bring : (repairs : List Repair) (has now : ℕ → List (List ℕ)) → all_at k repairs ≡ true → are_proper run repairs ≡ true → ((j : ℕ) → (k ≡ j → ⊥) → now j ≡ has j)
      → all_brought now repairs ≡ all_brought has repairs
  unfolding all_at are_proper all_brought
  all_bring [] has now of proper agree = refl
  all_bring (r ∷ repairs) has now of proper agree =
      let a = parts (eqb (site_of r) k) _ of in
      let n = parts (is_proper run r) _ proper in
      rw (one_brings r has now (eqb-true _ _ a.0) n.0 agree, all_bring repairs has now a.1 n.1 agree)

  -- and the site has what it had, and all that they name
  pub site_has : (repairs : List Repair) (has : ℕ → List (List ℕ)) → all_at k repairs ≡ true → are_proper run repairs ≡ true → has_after has repairs k ≡ has k ++ all_brought has repairs
  unfolding all_at are_proper all_brought has_after
  site_has [] has of proper = sym (append-nil (has k))
  site_has (r ∷ repairs) has of proper =
      let a = parts (eqb (site_of r) k) _ of in
      let n = parts (is_proper run r) _ proper in
      let at = eqb-true (site_of r) k a.0 in
      let here : having has r k ≡ has k ++ brings has r = rw (at, eq-eqb k k refl) in
      site_has repairs (having has r) a.1 n.1
      ∙ (rw (here, all_bring repairs has (having has r) a.1 n.1 (λ j ne. rw (at, ne_eqb k j ne))) (append_assoc (has k) (brings has r) (all_brought has repairs)))
