-- The laws of the line writer: what it hands back is the line, or nothing where it is refused.
-- Assumes nothing.
use Rattle.std.specs.Prelude.{ℕ, ◌≡◌, List, [], length, take}
use Rattle.std.proofs.Common.{ap, ◌∙◌, ne_eqb}
use Rattle.rules.proofs.laws.Put.{put_front}
use Rattle.rules.specs.meaning.Lines.{text_of}
use Rattle.rules.specs.meaning.Writing.{check_of, text_for, Filled}

-- the part in front that was filled is the text
pub filled_part : (kind first second i : ℕ) (before after : List ℕ) (n : ℕ) → Filled kind first second i before after n → take n after ≡ text_for kind first second i (length before)
filled_part kind first second i before after n f =
    let text = text_for kind first second i (length before) in
    ap (λ (k : ℕ). take k after) f.count ∙ ap (take (length text)) f.bytes ∙ put_front before text

-- where the check has nothing to say, the line is written, and where it refuses, nothing is
pub text_whole : (kind first second i room : ℕ) → check_of kind first second i room ≡ 0 → text_for kind first second i room ≡ text_of kind first second i
unfolding text_for
text_whole kind first second i room h = rw h

pub text_refused : (kind first second i room : ℕ) → (check_of kind first second i room ≡ 0 → ⊥) → text_for kind first second i room ≡ []
unfolding text_for
text_refused kind first second i room h = rw (ne_eqb (check_of kind first second i room) 0 h)
