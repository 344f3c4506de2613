-- `tally::counting::Both::walk`: where it begins (`walk_start`).
use Rattle.rules.specs.meaning.Lengths.{M}
use Rattle.rules.proofs.laws.table.Places.{laid_of}
use Rattle.tally.proofs.Joint.{walk_start}
use Rattle.tally.proofs.counting.Both.walk.Goals as goal

pub loop-at-init : goal.loop-at-init
loop-at-init c =
    let both = c.args.self in
    rw both.used_value (walk_start (laid_of M _ both.sound_table) (laid_of M _ both.sound_entries))
