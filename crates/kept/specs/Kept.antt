-- A kept run as a state.
-- Assumes nothing.
use Rattle.rules.specs.meaning.States.{State, lent}
use Rattle.kept.specs.declared.Kept.{Kept}

abbrev pub kept_state : Kept → State
kept_state k = lent k.words k.slots k.ledger
