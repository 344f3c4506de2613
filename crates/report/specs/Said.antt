-- A text said: laid into a buffer that has bytes, and only measured where it has none. Which of the two a pass over the input does is told by its buffer.
-- Assumes nothing.
use Rattle.std.specs.Prelude.{ℕ, ◌+◌, ◌≤◌, ◌<◌, ◌≡◌, List, length}
use Rattle.rules.specs.meaning.Put.{put}
use Rattle.rules.specs.meaning.Reports.{input_limit, report_room}

-- what it takes: room where there are bytes; and a text that is short enough to be laid elsewhere, within the largest report
pub record Sayable (most : ℕ) (before : List ℕ) (place : ℕ) (text : List ℕ) : Type 0 where
  pub room : 0 < length before → place + length text ≤ length before
  pub short : length text ≤ most
  pub counted : place + length text ≤ report_room input_limit

-- the place behind the text, and the whole buffer afterwards: an empty one can only stay empty
pub record Said (before : List ℕ) (place : ℕ) (text : List ℕ) (end : ℕ) (after : List ℕ) : Type 0 where
  pub behind : end ≡ place + length text
  pub bytes : 0 < length before → after ≡ put before place text
