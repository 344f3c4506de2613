-- `tally::counting::count`: where the walk has passed every entry of the source, nothing is left to count.
use native.Mathlib.Omega.{arith}
use Rattle.rules.specs.meaning.Lengths.{M}
use Rattle.rules.proofs.laws.table.Places.{laid_of}
use Rattle.tally.proofs.Joint.{walk_end}
use Rattle.tally.proofs.counting.count.Goals as goal

pub returns-clause-held_value : goal.returns-clause-held_value
returns-clause-held_value c =
    let end = c.walk-end.ensures in
    walk_end (laid_of M _ c.requires.sound_table) (laid_of M _ c.requires.sound_table_2) _ _ _ _ end.walk (omega (arith, end.entries_bound))
