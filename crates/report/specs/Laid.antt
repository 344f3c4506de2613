-- A text laid into a buffer: the place behind it, and the whole buffer afterwards. Every writer of this crate ensures it.
-- Assumes nothing.
use Rattle.std.specs.Prelude.{ℕ, ◌+◌, ◌≡◌, List, length}
use Rattle.rules.specs.meaning.Put.{put}

pub record Laid (before : List ℕ) (place : ℕ) (text : List ℕ) (end : ℕ) (after : List ℕ) : Type 0 where
  pub behind : end ≡ place + length text
  pub bytes : after ≡ put before place text
