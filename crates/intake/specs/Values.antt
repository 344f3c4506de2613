-- What absorbing a group's bytes answers, and which words it leaves, by what is seen besides the words.
-- Assumes nothing.
use Rattle.std.specs.Prelude.{ℕ, List}
use Rattle.rules.specs.meaning.Operations.{Answer}
use Rattle.rules.specs.declared.Run.{Run}
use Rattle.rules.specs.declared.Sight.{Sight}
use Rattle.rules.specs.meaning.Operations.{answer, unless_refused}
use Rattle.rules.specs.meaning.Events.{absorb_refusal, rise_by, words_absorbed}

-- nothing rose
abbrev pub refused_answer : ℕ → Answer
refused_answer number = record { refusal = number; value = 0 }

module _ (run : Run) (ws : List ℕ) (k : ℕ) (bytes : List ℕ) (si : Sight) where
  abbrev pub answer_seen : Answer
  answer_seen = answer (absorb_refusal run ws k bytes si) (rise_by run ws k bytes)

  abbrev pub words_seen : List ℕ
  words_seen = unless_refused (absorb_refusal run ws k bytes si) ws (words_absorbed run ws k bytes)
