-- A group laid entry by entry: how many bytes are left to be laid, and what the buffer is with them.
use mathlib.Core.Path.{◌≡◌, refl, sym, ap, ◌∙◌}
use mathlib.Core.List.{List, [], ◌∷◌, ◌++◌}
use Prim.Native.Nat.{ℕ, zero, suc, ◌+◌, ◌-◌, ◌*◌, ◌/◌, ◌≤◌, ◌<◌}
use native.Mathlib.Omega.{arith}
use native.Mathlib.Numerals.{add-one}
use lib.Dec.{leb}
use borrow.Author.Tests.{le-leb}
use mathlib.Core.Bool.{true}
use Rattle.std.proofs.lemmas.List.{take_all}
use lib.ListN.{length, get_or, take, drop, length-append, length-drop}
use Rattle.rules.specs.meaning.Leb.{leb128}
use Rattle.rules.specs.meaning.Groups.{most_entries, rising_from, is_group, fields_from, group_bytes}
use Rattle.rules.specs.meaning.Put.{put}
use Rattle.rules.proofs.laws.Put.{put_nil, put_put}
use Rattle.rules.proofs.laws.table.View.{parts}
use Rattle.rules.proofs.laws.group.Groups.{Rising, done, entry, see_rising, group_full, group_few, group_by_words}
use Rattle.rules.proofs.laws.group.Leb.{leb_some}
use Rattle.groups.specs.Writing.{IsGroup, Led}

-- ---- what the loops keep: the bytes laid and those of the entries that are left are the group's. The least id is kept in two parts, as the code has it
pub record Laying (es left : List ℕ) (place before step : ℕ) : Type 0 where
  pub rising : Rising (before + step) left
  pub whole : place + length (fields_from (before + step) left) ≡ length (group_bytes es)

rises : (es : List ℕ) → IsGroup es → Rising 0 es
unfolding is_group
rises es h = see_rising 0 es (parts (leb (length es) (2 * most_entries)) (rising_from 0 es) h).1

pub laying_none : (es : List ℕ) (place : ℕ) → IsGroup es → place ≡ length (leb128 (length es / 2)) → Laying es es place 0 0
unfolding group_bytes
laying_none es place h e =
    record { rising = rises es h; whole = rw e (sym (length-append (leb128 (length es / 2)) (fields_from 0 es))) }

-- the words of the entry that a turn lays, and what is left behind it
abbrev pub id_of : List ℕ → ℕ
id_of left = get_or left 0 0

abbrev pub less_of : List ℕ → ℕ
less_of left = get_or left 1 0 - 1

-- as the code has it
pub rest_is : (left : List ℕ) → take (length left - 2) (drop 2 left) ≡ drop 2 left
rest_is left = take_all (length left - 2) (drop 2 left) (omega (arith, length-drop 2 left))

-- what a turn may use: nothing is taken from less, and the entry's bytes are among the group's
pub record Turn (es left : List ℕ) (place before step : ℕ) : Type 0 where
  pub low : before + step ≤ id_of left
  pub some : 1 ≤ get_or left 1 0
  pub next : Rising (id_of left + 1) (drop 2 left)
  pub bytes : fields_from (before + step) left ≡ leb128 (id_of left - before - step) ++ (leb128 (less_of left) ++ fields_from (id_of left + 1) (drop 2 left))
  pub split : place + length (leb128 (id_of left - before - step)) + length (leb128 (less_of left)) + length (fields_from (id_of left + 1) (drop 2 left)) ≡ length (group_bytes es)

module _ (es : List ℕ) where
  pub laying_turn : (left : List ℕ) (place before step : ℕ) → Laying es left place before step → 2 ≤ length left → Turn es left place before step
  unfolding fields_from
  laying_turn [] place before step l h = absurd (omega arith)
  laying_turn (e ∷ []) place before step l h = absurd (omega arith)
  laying_turn (e ∷ n ∷ rest) place before step l h = go n refl l.rising
    where
      go : (m : ℕ) → n ≡ m → Rising (before + step) (e ∷ m ∷ rest) → Turn es (e ∷ n ∷ rest) place before step
      go zero q r = elim r [ ]
      go (suc m) q (entry low k most next) =
          let apart : e - before - step ≡ e - (before + step) = omega arith in
          record {
            low = low;
            some = omega arith;
            next = rw add-one next;
            bytes = rw (apart, add-one);
            split =
                rw (apart, add-one)
                (omega (arith, l.whole, length-append (leb128 (e - (before + step))) (leb128 (n - 1) ++ fields_from (suc e) rest), length-append (leb128 (n - 1)) (fields_from (suc e) rest)));
          }

  module _ (left : List ℕ) (place before step : ℕ) (l : Laying es left place before step) where
    pub laying_more : (rest : List ℕ) (next : ℕ) → 2 ≤ length left → rest ≡ drop 2 left → next ≡ place + length (leb128 (id_of left - before - step)) + length (leb128 (less_of left)) → Laying es rest next (id_of left) 1
    laying_more rest next h q e =
        let t = laying_turn left place before step l h in
        record { rising = rw q t.next; whole = rw (q, e) t.split }

    none_left : length left < 2 → left ≡ []
    none_left h = go left l.rising h
      where
        go : (xs : List ℕ) → Rising (before + step) xs → length xs < 2 → xs ≡ []
        go [] r h = refl
        go (x ∷ []) r h = elim r [ ]
        go (x ∷ y ∷ xs) r h = absurd (omega arith)

    pub laying_end : length left < 2 → place ≡ length (group_bytes es)
    unfolding fields_from
    laying_end h = omega (arith, rw (none_left h) at l.whole)

    -- ---- the buffer: with the bytes of the entries that are left put from the place on, it is what it is to be in the end
    module _ (end out : List ℕ) (inv : put out place (fields_from (before + step) left) ≡ end) where
      pub laid_more : (out₁ out₂ rest : List ℕ) (middle next : ℕ) → 2 ≤ length left → rest ≡ drop 2 left → length (group_bytes es) ≤ length out
          → Led out place (id_of left - before - step) middle out₁ → length out₁ ≡ length out
          → next ≡ middle + length (leb128 (less_of left)) → out₂ ≡ put out₁ middle (leb128 (less_of left)) → put out₂ next (fields_from (id_of left + 1) rest) ≡ end
      laid_more out₁ out₂ rest middle next h q room led long en e₂ =
          let t = laying_turn left place before step l h in
          let b = leb128 (less_of left) in
          let more = fields_from (id_of left + 1) (drop 2 left) in
          let second : put out₂ next more ≡ put out₁ middle (b ++ more) = rw (e₂, en) (put_put out₁ middle b more (omega (arith, led.0, t.split))) in
          let first : put out₁ middle (b ++ more) ≡ put out place (leb128 (id_of left - before - step) ++ (b ++ more)) = led.1 (b ++ more) (omega (arith, length-append b more, leb_some (less_of left))) in
          rw q (second ∙ first ∙ ap (put out place) (sym t.bytes) ∙ inv)

      pub laid_end : length left < 2 → out ≡ end
      unfolding fields_from
      laid_end h = sym (put_nil out place) ∙ (rw (none_left h) at inv)

-- the entries behind the count
pub laid_group : (es out₀ out : List ℕ) (place : ℕ) → length (group_bytes es) ≤ length out₀ → place ≡ 0 + length (leb128 (length es / 2)) → out ≡ put out₀ 0 (leb128 (length es / 2)) → put out place (fields_from 0 es) ≡ put out₀ 0 (group_bytes es)
unfolding group_bytes
laid_group es out₀ out place h ep eo =
    let a = leb128 (length es / 2) in
    rw (eo, ep) (put_put out₀ 0 a (fields_from 0 es) (omega (arith, length-append a (fields_from 0 es))))

pub count_first : (es : List ℕ) → length (leb128 (length es / 2)) ≤ length (group_bytes es)
unfolding group_bytes
count_first es = omega (arith, length-append (leb128 (length es / 2)) (fields_from 0 es))

-- ---- a room that every group of so many words fits
pub fits_all : (es : List ℕ) (room : ℕ) → IsGroup es → 7 * length es + 2 ≤ room → leb (length (group_bytes es)) room ≡ true
fits_all es room h r = le-leb (length (group_bytes es)) room (omega (arith, group_by_words es h))

pub ruleset fit = (group_few, fits_all, le-leb)
