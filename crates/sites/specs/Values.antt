-- What a refused lag query answers.
-- Assumes nothing.
use Rattle.std.specs.Prelude.{ℕ, pos}
use Rattle.rules.specs.meaning.Lags.{Lag}

-- no lag is told
abbrev pub refused_lag : ℕ → Lag
refused_lag number = record { refusal = number; lag = pos 0 }
