-- The links of a run one after the other, as the loops go over them, and that a loop which goes so does what `over_rows` of `rules` says. The contracts of `first_link`, `next_to`, `next_link` and `links_of` and the iterator `Links` cite the order, and no export does.
--     at_first, done_next, at_end    what was done on the way to a link: nothing, one link more, all
--     StandsIn, GivesLink            what the iterator `Links` knows of itself, and what one call of it gives
--     Done, none_done, one_done, all_done    the same of a loop over the iterator
--     stands_first, stands_next      a loop stands at the link of two different sites, or at the end.        further    each turn brings it nearer the end
-- Assumes nothing.
use Rattle.std.specs.Prelude.{◌≡◌, ℕ, zero, suc, ◌+◌, ◌-◌, ◌<◌, ◌≤◌, Bool, true, false, cond, ltb, ◌==◌, ◌≢◌, nat_lt, Option, None, Some, MatchOption}
use Rattle.std.proofs.Common.{arith, add-one, sym, ap, subst, ◌∙◌}
use Rattle.std.proofs.Math.Path.{refl}
use borrow.Author.Tests.{lt-ltb, le-ltb, eq-eqb, ne_eqb, ltb-true, ltb-false, eqb-true, eqb-false}
use Rattle.links.specs.declared.turns.Link.{Link}
use Rattle.links.specs.declared.turns.Links.{Links}
use Rattle.rules.specs.meaning.Links.{place, linked, over_row, over_rows}

unfoldable pub first_link : ℕ → Link
first_link n = cond (nat_lt 1 n) (record { from = 0; to = 1 }) (record { from = n; to = 0 })

-- the next site that is not the sender itself
unfoldable pub next_to : ℕ → ℕ → ℕ
next_to a b = cond (b + 1 == a) (b + 1 + 1) (b + 1)

unfoldable pub next_link : ℕ → Link → Link
next_link n l = cond (nat_lt (next_to l.from l.to) n) (record { from = l.from; to = next_to l.from l.to }) (record { from = l.from + 1; to = 0 })

-- ---- by the tests that the code makes
pub next_in : (n : ℕ) (l : Link) (t : ℕ) → t ≡ next_to l.from l.to → t < n → next_link n l ≡ record { from = l.from; to = t }
unfolding next_link
next_in n l t e less = rw (sym e, lt-ltb t n less)

pub next_out : (n : ℕ) (l : Link) (t : ℕ) → t ≡ next_to l.from l.to → n ≤ t → next_link n l ≡ record { from = l.from + 1; to = 0 }
unfolding next_link
next_out n l t e over = rw (sym e, le-ltb t n over)

-- ---- where a pass over the links of n sites stands: at a link of two different sites, or at the end
pub data Stands (n : ℕ) (l : Link) : Type 0 where
  on : l.from < n → l.to < n → (l.from ≢ l.to) → Stands n l
  over : l.from ≡ n → l.to ≡ 0 → Stands n l

-- ---- the links of a run as an iterator
abbrev pub links_of : ℕ → Links
links_of n = record { at = first_link n; sites = n }

-- it stands so in a run of 16 sites at most
abbrev pub StandsIn : Links → Type 0
StandsIn s = (s.sites ≤ 16) × Stands s.sites s.at

-- a call gives the link where it stood, and it stands at the next one; at the end it gives none, and stays
abbrev pub GivesLink : Links → Option Link → Links → Type 0
GivesLink s r t = MatchOption r ((s.sites ≤ s.at.from) × (t ≡ s)) (λ l. (s.at.from < s.sites) × (l ≡ s.at) × (t ≡ record { at = next_link s.sites s.at; sites = s.sites }))

-- before the end the sites are different ones of the run
pub on_of : (n : ℕ) (l : Link) → Stands n l → l.from < n → (l.to < n) × (l.from ≢ l.to)
on_of n l (on la lb d) less = (lb, d)
on_of n l (over e z) less = absurd (omega (arith, e, less))

first_by : (n : ℕ) (s : Bool) → nat_lt 1 n ≡ s → Stands n (first_link n)
unfolding first_link
first_by n true e = rw (e) (on (omega (arith, ltb-true 1 n e)) (ltb-true 1 n e) (λ d. omega (arith, d)))
first_by n false e = rw (e) (over refl refl)

pub stands_first : (n : ℕ) → Stands n (first_link n)
stands_first n = first_by n (nat_lt 1 n) refl

-- ---- what was done on the way to a link
abbrev pub so_far : {S : Type 0} → (ℕ → ℕ → S → S) → ℕ → Link → S → S
so_far f n l s = over_row f l.from l.to (over_rows f n l.from s)

-- the site after b that is not a: one or two further
pub to_by : (a b : ℕ) → (b + 1 ≡ a) → next_to a b ≡ b + 1 + 1
unfolding next_to
to_by a b e = rw (eq-eqb (b + 1) a e)

pub to_next : (a b : ℕ) → (b + 1 ≢ a) → next_to a b ≡ b + 1
unfolding next_to
to_next a b d = rw (ne_eqb (b + 1) a d)

module _ {S : Type 0} (f : ℕ → ℕ → S → S) where
  row_on : (a b : ℕ) (s : S) → (a ≢ b) → over_row f a (b + 1) s ≡ f a b (over_row f a b s)
  unfolding over_row
  row_on a b s d = rw (add-one b, ne_eqb a b d)

  row_own : (a : ℕ) (s : S) → over_row f a (a + 1) s ≡ over_row f a a s
  unfolding over_row
  row_own a s = rw (add-one a, eq-eqb a a refl)

  row_by : (a b : ℕ) (s : S) (t : Bool) → (b + 1 == a) ≡ t → (a ≢ b) → over_row f a (next_to a b) s ≡ f a b (over_row f a b s)
  row_by a b s true e d = ap (λ (k : ℕ). over_row f a k s) (to_by a b (eqb-true (b + 1) a e)) ∙ ap (λ (k : ℕ). over_row f a (k + 1) s) (eqb-true (b + 1) a e) ∙ row_own a s ∙ ap (λ (k : ℕ). over_row f a k s) (sym (eqb-true (b + 1) a e)) ∙ row_on a b s d
  row_by a b s false e d = ap (λ (k : ℕ). over_row f a k s) (to_next a b (eqb-false (b + 1) a e)) ∙ row_on a b s d

  rows_on : (n a : ℕ) (s : S) → over_rows f n (a + 1) s ≡ over_row f a n (over_rows f n a s)
  unfolding over_rows
  rows_on n a s = rw (add-one a)

  -- at the first link nothing was done, and at the end all was
  started_by : (n : ℕ) (s : S) (t : Bool) → nat_lt 1 n ≡ t → so_far f n (first_link n) s ≡ s
  unfolding first_link over_row over_rows
  started_by n s true e = rw (e)
  started_by zero s false e = refl
  started_by (suc zero) s false e = refl
  started_by (suc (suc n)) s false e = absurd (not_less e)
    where
      not_less : ltb 1 (suc (suc n)) ≡ false → ⊥
      not_less e' = omega (arith, ltb-false 1 (suc (suc n)) e')

  pub at_first : (n : ℕ) (s : S) → so_far f n (first_link n) s ≡ s
  at_first n s = started_by n s (nat_lt 1 n) refl

  pub at_end : (n : ℕ) (l : Link) (s : S) → Stands n l → n ≤ l.from → so_far f n l s ≡ over_rows f n n s
  unfolding over_row
  at_end n l s (on less _ _) end = absurd (omega (arith, less, end))
  at_end n l s (over e z) end = rw (e, z)

-- how far a link after this one is: what the next link is, in either case
pub data Next (n : ℕ) (l : Link) : Type 0 where
  along : (t : ℕ) → t ≡ next_to l.from l.to → next_link n l ≡ record { from = l.from; to = t } → l.to < t → t < n → (l.from ≢ t) → Next n l
  down : n ≡ next_to l.from l.to → next_link n l ≡ record { from = l.from + 1; to = 0 } → Next n l

next_from : (n : ℕ) (l : Link) → l.from < n → l.to < n → (l.from ≢ l.to) → (t : ℕ) → t ≡ next_to l.from l.to → l.to < t → (l.from ≢ t) → (n ≤ t → n ≡ t) → (s : Bool) → nat_lt t n ≡ s → Next n l
next_from n l la lb d t e further other last true c = along t e (next_in n l t e (ltb-true t n c)) further (ltb-true t n c) other
next_from n l la lb d t e further other last false c = down (last (ltb-false t n c) ∙ e) (next_out n l t e (ltb-false t n c))

next_by : (n : ℕ) (l : Link) → l.from < n → l.to < n → (l.from ≢ l.to) → (s : Bool) → (l.to + 1 == l.from) ≡ s → Next n l
next_by n l la lb d true e = next_from n l la lb d (l.to + 1 + 1) (sym (to_by l.from l.to (eqb-true _ _ e))) (omega arith) (λ z. omega (arith, z, eqb-true (l.to + 1) l.from e)) (λ z. omega (arith, z, la, eqb-true (l.to + 1) l.from e)) (nat_lt (l.to + 1 + 1) n) refl
next_by n l la lb d false e = next_from n l la lb d (l.to + 1) (sym (to_next l.from l.to (eqb-false _ _ e))) (omega arith) (λ z. eqb-false (l.to + 1) l.from e (sym z)) (λ z. omega (arith, z, lb)) (nat_lt (l.to + 1) n) refl

pub next_of : (n : ℕ) (l : Link) → l.from < n → l.to < n → (l.from ≢ l.to) → Next n l
next_of n l la lb d = next_by n l la lb d (l.to + 1 == l.from) refl

row_starts : (n a : ℕ) → a < n → (s : Bool) → nat_lt (a + 1) n ≡ s → Stands n (record { from = a + 1; to = 0 })
row_starts n a la true e = on (ltb-true (a + 1) n e) (omega arith) (λ z. omega (arith, z))
row_starts n a la false e = over (omega (arith, la, ltb-false (a + 1) n e)) refl

pub stands_next : (n : ℕ) (l : Link) → l.from < n → l.to < n → (l.from ≢ l.to) → Stands n (next_link n l)
stands_next n l la lb d = go (next_of n l la lb d)
  where
    go : Next n l → Stands n (next_link n l)
    go (along t e at further within other) = subst (Stands n) (sym at) (on la within other)
    go (down e at) = subst (Stands n) (sym at) (row_starts n l.from la (nat_lt (l.from + 1) n) refl)

-- the next link is further on, and no further than the end
pub further : (n : ℕ) (l : Link) → n ≤ 16 → l.from < n → l.to < n → (l.from ≢ l.to) → 256 - place (next_link n l).from (next_link n l).to < 256 - place l.from l.to
further n l fits la lb d = go (next_of n l la lb d)
  where
    go : Next n l → 256 - place (next_link n l).from (next_link n l).to < 256 - place l.from l.to
    go (along t e at more within other) = subst (λ (m : Link). 256 - place m.from m.to < 256 - place l.from l.to) (sym at) (omega (arith, fits, la, lb, more, within))
    go (down e at) = subst (λ (m : Link). 256 - place m.from m.to < 256 - place l.from l.to) (sym at) (omega (arith, fits, la, lb))

-- one link more is done
pub done_next : {S : Type 0} (f : ℕ → ℕ → S → S) (n : ℕ) (l : Link) (s : S) → l.from < n → l.to < n → (l.from ≢ l.to) → so_far f n (next_link n l) s ≡ f l.from l.to (so_far f n l s)
unfolding over_row
done_next {S} f n l s la lb d = go (next_of n l la lb d)
  where
    done : over_row f l.from (next_to l.from l.to) (over_rows f n l.from s) ≡ f l.from l.to (so_far f n l s)
    done = row_by f l.from l.to (over_rows f n l.from s) (l.to + 1 == l.from) refl d

    go : Next n l → so_far f n (next_link n l) s ≡ f l.from l.to (so_far f n l s)
    go (along t e at more within other) = ap (λ (m : Link). so_far f n m s) at ∙ ap (λ (k : ℕ). over_row f l.from k (over_rows f n l.from s)) e ∙ done
    go (down e at) = ap (λ (m : Link). so_far f n m s) at ∙ rows_on f n l.from s ∙ ap (λ (k : ℕ). over_row f l.from k (over_rows f n l.from s)) e ∙ done

-- ---- a loop over the iterator: what it did is nothing at first, one link more after each call, and all at the end
pub begins : (n : ℕ) (s : Links) → s ≡ links_of (linked n) → StandsIn s
begins n s e = rw e (omega arith, stands_first (linked n))

-- the entry of a link is among the 256
pub in_range : (s : Links) → StandsIn s → s.at.from < s.sites → place s.at.from s.at.to < 256
in_range s (few, stands) less = let lb : s.at.to < s.sites = (on_of s.sites s.at stands less).0 in omega (arith, few, less, lb)

-- of n sites the links that s has given are done, which makes y of x
pub record Done {S : Type 0} (f : ℕ → ℕ → S → S) (n : ℕ) (x y : S) (s : Links) : Type 0 where
  pub sized : s.sites ≡ n
  pub so : so_far f s.sites s.at x ≡ y

module _ {S : Type 0} (f : ℕ → ℕ → S → S) (n : ℕ) (x : S) where
  pub none_done : (s : Links) → s ≡ links_of (linked n) → n ≤ 16 → Done f n x x s
  none_done s e few = let same : linked n ≡ n = omega arith in rw (e, same) (record { sized = refl; so = at_first f n x })

  pub one_done : (y : S) (s t : Links) (l : Link) → Done f n x y s → StandsIn s → GivesLink s (Some l) t → Done f n x (f l.from l.to y) t
  one_done y s t l d (few, stands) (less, at, to) =
      let here = on_of s.sites s.at stands less in
      rw (to, at, ← d.so) (record { sized = d.sized; so = done_next f s.sites s.at x less here.0 here.1 })

  pub all_done : (y : S) (s t : Links) → Done f n x y s → StandsIn s → GivesLink s None t → y ≡ over_rows f n n x
  all_done y s t d (few, stands) (end, same) = rw (← d.sized) (sym d.so ∙ at_end f s.sites s.at x stands end)
