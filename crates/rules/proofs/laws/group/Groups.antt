-- What follows for groups: writing and reading undo each other, a group is a sound table that is full, and how many bytes it takes. Assumes nothing.
use Rattle.std.specs.Prelude.{◌≡◌, refl, Bool, true, false, ◌&&◌, List, [], ◌∷◌, ◌++◌, ℕ, zero, suc, ◌+◌, ◌-◌, ◌*◌, ◌/◌, ◌^◌, ◌≤◌, ◌<◌, leb, ltb, length}
use Rattle.std.proofs.Common.{ap, arith, ltb-true, leb-true, lt-ltb, le-leb, length-append}
use Rattle.std.proofs.lemmas.Bool.{false≢true}
use Rattle.rules.specs.meaning.Lengths.{M}
use Rattle.rules.specs.meaning.Table.{sound, held}
use Rattle.rules.specs.meaning.Text.{Front, front, refused}
use Rattle.rules.specs.meaning.Leb.{leb128, read_leb}
use Rattle.rules.specs.meaning.Groups.{most_entries, rising_from, is_group, fields_from, group_bytes, Group, group, no_group, onward, group_if, with_entry, entries_from, group_of, entries_of_group, entries_in}
use Rattle.rules.proofs.laws.table.View.{Sound, none, rest, used, say, parts}
use Rattle.rules.proofs.laws.line.Numbers.{below}
use Rattle.rules.proofs.laws.group.Leb.{leb_read, read_leb_law, leb_within}

-- ---- entries with rising ids, seen as what they are made of
pub data Rising : ℕ → List ℕ → Type 0 where
  done : {lo : ℕ} → Rising lo []
  entry : {lo e n : ℕ} {es : List ℕ} → lo ≤ e → e < 2 ^ 64 → suc n ≤ M → Rising (suc e) es → Rising lo (e ∷ suc n ∷ es)

pub see_rising : (lo : ℕ) (es : List ℕ) → rising_from lo es ≡ true → Rising lo es
unfolding rising_from
see_rising lo [] h = done
see_rising lo (w ∷ []) h = absurd (false≢true h)
see_rising lo (e ∷ n ∷ es) h =
    let a = parts (leb lo e) _ h in
    let b = parts (ltb e (2 ^ 64)) _ a.1 in
    let c = parts (leb 1 n) _ b.1 in
    let d = parts (leb n M) _ c.1 in
    go n (leb-true 1 n c.0) (leb-true n M d.0) (leb-true lo e a.0) (ltb-true e (2 ^ 64) b.0) (see_rising (suc e) es d.1)
  where
    go : (m : ℕ) → 1 ≤ m → m ≤ M → lo ≤ e → e < 2 ^ 64 → Rising (suc e) es → Rising lo (e ∷ m ∷ es)
    go zero p q l k r = absurd (omega arith)
    go (suc m) p q l k r = entry l k q r

pub say_rising : {lo : ℕ} {es : List ℕ} → Rising lo es → rising_from lo es ≡ true
unfolding rising_from
say_rising done = refl
say_rising (entry {lo} {e} {n} l h m r) = rw (le-leb lo e l, lt-ltb e (2 ^ 64) h, le-leb 1 (suc n) (omega arith), le-leb (suc n) M m) (say_rising r)

-- each place of them is in use
rising_full : {lo : ℕ} {es : List ℕ} → Rising lo es → length es ≡ 2 * held es
unfolding held
rising_full done = refl
rising_full (entry l h m r) = let k = rising_full r in omega arith

-- what makes words a group
group_says : (es : List ℕ) → is_group es ≡ true → (Rising 0 es) × (held es ≤ 64)
unfolding is_group
group_says es h =
    let a = parts (leb (length es) (2 * most_entries)) _ h in
    let r = see_rising 0 es a.1 in
    (r, omega (arith, leb-true (length es) (2 * most_entries) a.0, rising_full r))

is_group_law : (es : List ℕ) → Rising 0 es → held es ≤ 64 → is_group es ≡ true
unfolding is_group
is_group_law es r h = rw (le-leb (length es) (2 * most_entries) (omega (arith, rising_full r)), say_rising r)

-- a group has no unused place: every entry is held
pub group_full : (es : List ℕ) → is_group es ≡ true → length es ≡ 2 * held es
group_full es h = rising_full (group_says es h).0

count_is : (es : List ℕ) → length es ≡ 2 * held es → length es / 2 ≡ held es
count_is es h = omega arith

-- ---- written and read back
fields_read : {lo : ℕ} {es : List ℕ} → Rising lo es → entries_from (held es) lo (fields_from lo es) ≡ group es
unfolding entries_from fields_from held
fields_read done = refl
fields_read (entry {lo} {e} {n} {es} l h m r) =
    let up : lo + (e - lo) ≡ e = omega arith in
    let down : suc n - 1 ≡ n = omega arith in
    rw (leb_read (e - lo) (leb128 (suc n - 1) ++ fields_from (suc e) es) (omega arith), leb_read (suc n - 1) (fields_from (suc e) es) (omega arith), up, down, lt-ltb e (2 ^ 64) h, lt-ltb n M (omega arith), fields_read r)

-- "writing and reading undo each other"
pub group_read : (es : List ℕ) → is_group es ≡ true → group_of (group_bytes es) ≡ group es
unfolding group_of group_bytes
group_read es h =
    let s = group_says es h in
    rw (count_is es (group_full es h), leb_read (held es) (fields_from 0 es) (omega arith), le-leb (held es) most_entries s.1) (fields_read s.0)

-- ---- read and written back: what each step of a reading says
onward_says : {P : Type 0} (f : Front) (g : ℕ → List ℕ → Group) (es : List ℕ) → onward f g ≡ group es → ((v : ℕ) (r : List ℕ) → f ≡ front v r → g v r ≡ group es → P) → P
onward_says (front v r) g es e then = then v r refl e
onward_says refused g es e then = absurd (let z : ◌≡◌ {A = ℕ} 0 1 = cc in omega arith)

if_says : (b : Bool) (g : Group) (es : List ℕ) → group_if b g ≡ group es → (b ≡ true) × (g ≡ group es)
if_says true g es e = (refl, e)
if_says false g es e = absurd (let z : ◌≡◌ {A = ℕ} 0 1 = cc in omega arith)

with_says : (e n : ℕ) (g : Group) (es : List ℕ) → with_entry e n g ≡ group es → (fs : List ℕ) × (g ≡ group fs) × (e ∷ n ∷ fs ≡ es)
with_says e n (group fs) es q = (fs, refl, cc)
with_says e n no_group es q = absurd (let z : ◌≡◌ {A = ℕ} 0 1 = cc in omega arith)

record Entries (k lo : ℕ) (bs es : List ℕ) : Type 0 where
  written : fields_from lo es ≡ bs
  rising : Rising lo es
  many : held es ≡ k

entry_written : (k lo gap less : ℕ) (bs r r' fs : List ℕ) → read_leb bs ≡ front gap r → read_leb r ≡ front less r' → lo + gap < 2 ^ 64 → less < M → Entries k (suc (lo + gap)) r' fs → Entries (suc k) lo bs ((lo + gap) ∷ suc less ∷ fs)
unfolding fields_from held
entry_written k lo gap less bs r r' fs p q h m i =
    let up : lo + gap - lo ≡ gap = omega arith in
    let down : suc less - 1 ≡ less = omega arith in
    record {
      written = rw (up, down, i.written, (read_leb_law bs gap r p).0, (read_leb_law r less r' q).0);
      rising = entry {lo = lo} {e = lo + gap} {n = less} (omega arith) h (omega arith) i.rising;
      many = ap suc i.many;
    }

fields_written : (k lo : ℕ) (bs es : List ℕ) → entries_from k lo bs ≡ group es → Entries k lo bs es
unfolding entries_from fields_from held
fields_written zero lo [] es q = let k : [] ≡ es = cc in rw (← k) (record { written = refl; rising = done; many = refl })
fields_written zero lo (b ∷ bs) es q = absurd (let z : ◌≡◌ {A = ℕ} 0 1 = cc in omega arith)
fields_written (suc k) lo bs es q =
    onward_says (read_leb bs) _ es q (λ gap r p e.
    onward_says (read_leb r) _ es e (λ less r' p' e'.
    let c = if_says (ltb (lo + gap) (2 ^ 64) && ltb less M) (with_entry (lo + gap) (suc less) (entries_from k (suc (lo + gap)) r')) es e' in
    let t = parts (ltb (lo + gap) (2 ^ 64)) (ltb less M) c.0 in
    let d = with_says (lo + gap) (suc less) (entries_from k (suc (lo + gap)) r') es c.1 in
    rw (← d.2) (entry_written k lo gap less bs r r' d.0 p p' (ltb-true (lo + gap) (2 ^ 64) t.0) (ltb-true less M t.1) (fields_written k (suc (lo + gap)) r' d.0 d.1))))

-- "a byte string at most one group": the one whose bytes it is
pub group_written : (bs es : List ℕ) → group_of bs ≡ group es → (group_bytes es ≡ bs) × (is_group es ≡ true)
unfolding group_of group_bytes
group_written bs es q =
    onward_says (read_leb bs) _ es q (λ count r p e.
    let b = if_says (leb count most_entries) (entries_from count 0 r) es e in
    let i = fields_written count 0 r es b.1 in (
      rw (count_is es (rising_full i.rising), i.many, i.written, ← (read_leb_law bs count r p).0),
      is_group_law es i.rising (omega (arith, leb-true count most_entries b.0, i.many)),
    ))

-- and no two groups share their bytes
pub one_string : (es fs : List ℕ) → is_group es ≡ true → is_group fs ≡ true → group_bytes es ≡ group_bytes fs → es ≡ fs
one_string es fs h k q =
    let e = group_read es h in
    let f = group_read fs k in
    cc

-- ---- a group is a sound table
rising_sound : {lo : ℕ} {es : List ℕ} → Rising lo es → Sound M lo es
rising_sound done = rest none
rising_sound (entry l h m r) = used l m (rising_sound r)

-- the entries of a group are laid out as those of a table
pub group_sound : (es : List ℕ) → is_group es ≡ true → sound M es ≡ true
group_sound es h = say (rising_sound (group_says es h).0)

-- of at most 64 entries
pub group_few : (es : List ℕ) → is_group es ≡ true → length es ≤ 128
group_few es h = omega (arith, group_full es h, (group_says es h).1)

-- what holds of no words and of every group holds of the entries in any bytes
in_bytes : (P : List ℕ → Type 0) → P [] → ((es : List ℕ) → is_group es ≡ true → P es) → (bs : List ℕ) → P (entries_in bs)
unfolding entries_in
in_bytes P p f bs = go (group_of bs) refl
  where
    go : (g : Group) → group_of bs ≡ g → P (entries_of_group g)
    go (group es) q = f es (group_written bs es q).1
    go no_group q = p

-- the entries in any bytes form a sound table
pub entries_sound : (bs : List ℕ) → sound M (entries_in bs) ≡ true
entries_sound bs = in_bytes (λ es. sound M es ≡ true) (say (rest none)) group_sound bs

-- of at most 64 entries
pub entries_few : (bs : List ℕ) → length (entries_in bs) ≤ 128
entries_few bs = in_bytes (λ es. length es ≤ 128) (omega arith) group_few bs

-- and of whole ones
pub entries_even : (bs : List ℕ) → length (entries_in bs) ≡ 2 * (length (entries_in bs) / 2)
entries_even bs = in_bytes (λ es. length es ≡ 2 * (length es / 2)) refl (λ es h. omega (arith, group_full es h)) bs

-- ---- how many bytes a group takes
-- behind an id of 2 ^ 63 every gap is below 2 ^ 63, which takes nine bytes at most; a length less 1 takes five
fields_high : {lo : ℕ} {es : List ℕ} → Rising lo es → 2 ^ 63 < lo → length (fields_from lo es) ≤ 14 * held es
unfolding fields_from held
fields_high done g = omega arith
fields_high (entry {lo} {e} {n} {es} l h m r) g =
    rw (length-append (leb128 (e - lo)) (leb128 (suc n - 1) ++ fields_from (suc e) es), length-append (leb128 (suc n - 1)) (fields_from (suc e) es))
    (omega (arith, leb_within (e - lo) 9 (omega arith) (omega arith), leb_within (suc n - 1) 5 (omega arith) (omega arith), fields_high r (omega arith)))

-- so of all gaps one at most takes ten
fields_within : {lo : ℕ} {es : List ℕ} → Rising lo es → length (fields_from lo es) ≤ 14 * held es + 1
unfolding fields_from held
fields_within done = omega arith
fields_within (entry {lo} {e} {n} {es} l h m r) =
    rw (length-append (leb128 (e - lo)) (leb128 (suc n - 1) ++ fields_from (suc e) es), length-append (leb128 (suc n - 1)) (fields_from (suc e) es))
    (let five = leb_within (suc n - 1) 5 (omega arith) (omega arith) in
    below (e - lo) (2 ^ 63)
    (λ s. omega (arith, leb_within (e - lo) 9 (omega arith) (omega arith), fields_within r))
    (λ g. omega (arith, leb_within (e - lo) 10 (omega arith) (omega arith), fields_high r (omega arith))))

-- the most bytes that a group of so many words takes: seven for each, one more for the gap, and the count
pub group_by_words : (es : List ℕ) → is_group es ≡ true → length (group_bytes es) ≤ 7 * length es + 2
unfolding group_bytes
group_by_words es h =
    let s = group_says es h in
    rw (length-append (leb128 (length es / 2)) (fields_from 0 es))
    (omega (arith, leb_within (length es / 2) 1 (omega arith) (omega (arith, group_full es h)), fields_within s.0, group_full es h))

-- and that any group takes
pub group_within : (es : List ℕ) → is_group es ≡ true → length (group_bytes es) ≤ 898
group_within es h = omega (arith, group_by_words es h, group_few es h)

-- the room that is always enough: ten bytes for an id and five for a length, 64 times, and the count
pub never_past_961 : (es : List ℕ) → is_group es ≡ true → length (group_bytes es) ≤ 961
never_past_961 es h = omega (arith, group_within es h)
