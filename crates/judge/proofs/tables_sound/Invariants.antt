-- `judge::tables_sound`: the tables so far and the tables that are left are all of them.
use Rattle.std.proofs.Common.{◌≡◌, ◌*◌, ◌-◌, ◌&&◌, drop}
use Rattle.rules.specs.meaning.Lengths.{M}
use Rattle.rules.specs.meaning.States.{tables_sound}
use Rattle.judge.proofs.tables_sound.Given as goal

abbrev pub invariant-loop-k : goal.invariant-loop-k
invariant-loop-k l = l.good && tables_sound M l.width (l.sites - l.k) (drop (l.k * l.width) l.words) ≡ tables_sound M l.width l.sites l.words
