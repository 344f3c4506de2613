-- What the joint walk keeps, turn by turn: only contracts of this crate's own helpers cite it.
-- Assumes nothing.
use Rattle.std.specs.Prelude.{ℕ, ◌+◌, ◌*◌, ◌≤◌, ◌<◌, ◌≡◌, List, length, drop}
use Rattle.rules.specs.meaning.Table.{id_at, held, new_ids, rises}

-- the joint walk, with i entries of the table passed and j of the source. What those come to and what is left to count are the whole
pub record Walk (t s : List ℕ) (total risen i j : ℕ) : Type 0 where
  pub room_t : 2 * held t ≤ length t
  pub room_s : 2 * held s ≤ length s
  pub at_t : i ≤ held t
  pub at_s : j ≤ held s
  pub few_new : total ≤ held t + j
  pub few_risen : risen ≤ j
  pub all_new : total + new_ids t (drop (2 * j) s) ≡ held t + new_ids t s
  pub all_risen : risen + rises t (drop (2 * j) s) ≡ rises t s
  pub ahead : (q : ℕ) → q < i → j < held s → id_at t q < id_at s j
