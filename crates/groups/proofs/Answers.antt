-- What the writer and the reader answer, refusal by refusal.
use mathlib.Core.Path.{◌≡◌, sym, ap, ◌∙◌}
use mathlib.Core.Bool.{true, false}
use mathlib.Core.List.{List, ◌++◌}
use Prim.Native.Nat.{ℕ, ◌+◌, ◌*◌, ◌/◌, ◌≤◌, ◌<◌}
use native.Mathlib.Omega.{arith}
use borrow.Author.Tests.{lt-ltb, le-ltb}
use lib.ListN.{length, take, drop}
use lib.Seq.{drop-cons, get_or-take, length-take-le}
use Rattle.rules.specs.meaning.Refusals.{first_given}
use Rattle.rules.specs.meaning.Put.{put}
use Rattle.rules.specs.meaning.Groups.{is_group, group_bytes, group_of, entries_in, forms_none, write_refusal, read_refusal, bytes_written, entries_read, as_grouped, Written, Entered}
use Rattle.std.specs.Prelude.{Some, None, Ok, Err}
use Rattle.rules.specs.declared.Refusal.TheVariants.{NoGroup, ShortBuffer}
use Rattle.groups.specs.Decoding.{Decodes}
use Rattle.rules.proofs.laws.Put.{put_nil}

-- ---- the writer
module _ (es out : List ℕ) where
  pub written_none : is_group es ≡ false → Written es out (as_grouped (Err NoGroup)) out
  unfolding write_refusal bytes_written first_given
  written_none h = record { refusal = rw h; count = rw h; bytes = rw h (sym (put_nil out 0)) }

  module _ (h : is_group es ≡ true) where
    pub written_short : length out < length (group_bytes es) → Written es out (as_grouped (Err ShortBuffer)) out
    unfolding write_refusal bytes_written first_given
    written_short l =
        let t = lt-ltb (length out) (length (group_bytes es)) l in
        record { refusal = rw (h, t); count = rw (h, t); bytes = rw (h, t) (sym (put_nil out 0)) }

    pub written_all : (n : ℕ) (after : List ℕ) → length (group_bytes es) ≤ length out → n ≡ length (group_bytes es) → after ≡ put out 0 (group_bytes es) → Written es out (as_grouped (Ok n)) after
    unfolding write_refusal bytes_written first_given
    written_all n after l en ea =
        let t = le-ltb (length out) (length (group_bytes es)) l in
        record { refusal = rw (h, t); count = rw (h, t) en; bytes = rw (h, t) ea }

-- ---- the reader
module _ (bs words : List ℕ) where
  entered_none : forms_none bs ≡ true → Entered bs words (as_grouped (Err NoGroup)) words
  unfolding read_refusal entries_read first_given
  entered_none h = record { refusal = rw h; count = rw h; words = rw h (sym (put_nil words 0)) }

  module _ (h : forms_none bs ≡ false) where
    entered_short : length words < length (entries_in bs) → Entered bs words (as_grouped (Err ShortBuffer)) words
    unfolding read_refusal entries_read first_given
    entered_short l =
        let t = lt-ltb (length words) (length (entries_in bs)) l in
        record { refusal = rw (h, t); count = rw (h, t); words = rw (h, t) (sym (put_nil words 0)) }

    entered_all : (n : ℕ) (after : List ℕ) → length (entries_in bs) ≤ length words → n ≡ length (entries_in bs) / 2 → after ≡ put words 0 (entries_in bs) → Entered bs words (as_grouped (Ok n)) after
    unfolding read_refusal entries_read first_given
    entered_all n after l en ea =
        let t = le-ltb (length words) (length (entries_in bs)) l in
        record { refusal = rw (h, t); count = rw (h, t) en; words = rw (h, t) ea }

-- ---- what is decoded
pub decoded_none : (bs found words : List ℕ) → Decodes (group_of bs) None found → Entered bs words (as_grouped (Err NoGroup)) words
unfolding Decodes forms_none
decoded_none bs found words d = entered_none bs words (rw d)

module _ (bs found : List ℕ) (n : ℕ) (d : Decodes (group_of bs) (Some n) found) where
  pub decoded_few : n ≤ 64
  unfolding Decodes
  decoded_few = d.1

  some : forms_none bs ≡ false
  unfolding Decodes forms_none
  some = rw d.0

  front : take (2 * n) found ≡ entries_in bs
  unfolding Decodes entries_in
  front = rw d.0

  module _ (words : List ℕ) (room : 128 ≤ length found) where
    twice : length (entries_in bs) ≡ 2 * n
    twice = ap length (sym front) ∙ length-take-le (2 * n) found (omega (arith, decoded_few))

    pub decoded_long : length words < 2 * n → Entered bs words (as_grouped (Err ShortBuffer)) words
    decoded_long h = entered_short bs words some (omega (arith, twice))

    pub decoded_all : (copied : List ℕ) → 2 * n ≤ length words → copied ≡ take (2 * n) found → Entered bs words (as_grouped (Ok n)) (copied ++ drop (2 * n) words)
    unfolding put
    decoded_all copied h e =
        let z : 0 + 2 * n ≡ 2 * n = omega arith in
        entered_all bs words some n (copied ++ drop (2 * n) words) (omega (arith, twice)) (omega (arith, twice)) (rw (e, front, twice, z))

pub ruleset decodings = (decoded_none, decoded_few, decoded_long, decoded_all, length-take-le)
