-- A line, from what was read at its places: one law for each way out of the reader.
use mathlib.Core.Path.{◌≡◌, sym, ap, ◌∙◌}
use mathlib.Core.List.{List}
use Prim.Native.Nat.{ℕ, ◌≤◌, ◌<◌}
use lib.ListN.{length, drop, drop_of_length-le}
use lib.Seq.{drop-cons}
use Rattle.std.specs.Prelude.{Some, None}
use Rattle.rules.specs.meaning.Text.{front}
use Rattle.rules.specs.meaning.Number.{read_number}
use Rattle.rules.specs.meaning.Lines.{to_name, id_name, has_second, has_id, kind_of, read_field, ended, numbers_of, four}
use Rattle.rules.proofs.laws.line.Lines.{no_kind, no_first, no_second, no_id, at_end}
use Rattle.rules.specs.meaning.Places.{number_at, field_at, kind_at}
use Rattle.rules.proofs.laws.line.Places.{from_none, number_says, field_says, kind_says}

module _ (line : List ℕ) where
  pub line_kind : None ≡ kind_at line → None ≡ numbers_of line
  unfolding kind_at
  line_kind e = sym (no_kind line (from_none (length line) (kind_of line) (sym e)))

  module _ (kind a : ℕ) (e1 : Some (kind, a) ≡ kind_at line) where
    k1 : kind_of line ≡ front kind (drop a line)
    k1 = (kind_says line kind a (sym e1)).0

    pub a_within : a ≤ length line
    a_within = (kind_says line kind a (sym e1)).1

    pub line_first : None ≡ number_at line a → None ≡ numbers_of line
    unfolding number_at
    line_first e = sym (no_first line kind (drop a line) k1 (from_none (length line) (read_number (drop a line)) (sym e)))

    module _ (first b : ℕ) (e2 : Some (first, b) ≡ number_at line a) where
      k2 : read_number (drop a line) ≡ front first (drop b line)
      k2 = (number_says line a first b (sym e2)).0

      pub b_within : b ≤ length line
      b_within = (number_says line a first b (sym e2)).1

      pub line_second : None ≡ field_at (has_second kind) to_name line b → None ≡ numbers_of line
      unfolding field_at
      line_second e = sym (no_second line kind (drop a line) k1 first (drop b line) k2 (from_none (length line) (read_field (has_second kind) to_name (drop b line)) (sym e)))

      module _ (second d : ℕ) (e3 : Some (second, d) ≡ field_at (has_second kind) to_name line b) where
        k3 : read_field (has_second kind) to_name (drop b line) ≡ front second (drop d line)
        k3 = (field_says (has_second kind) to_name line b second d (sym e3)).0

        pub d_within : d ≤ length line
        d_within = (field_says (has_second kind) to_name line b second d (sym e3)).1

        pub line_id : None ≡ field_at (has_id kind) id_name line d → None ≡ numbers_of line
        unfolding field_at
        line_id e = sym (no_id line kind (drop a line) k1 first (drop b line) k2 second (drop d line) k3 (from_none (length line) (read_field (has_id kind) id_name (drop d line)) (sym e)))

        module _ (i e : ℕ) (e4 : Some (i, e) ≡ field_at (has_id kind) id_name line d) where
          k4 : numbers_of line ≡ ended kind first second i (drop e line)
          k4 = at_end line kind (drop a line) k1 first (drop b line) k2 second (drop d line) k3 i (drop e line) (field_says (has_id kind) id_name line d i e (sym e4)).0

          pub line_more : e < length line → None ≡ numbers_of line
          line_more h = sym (k4 ∙ ap (ended kind first second i) (drop-cons line e 0 h))

          pub line_step : length line ≤ e → four kind first second i ≡ numbers_of line
          line_step h = sym (k4 ∙ ap (ended kind first second i) (drop_of_length-le line h))
