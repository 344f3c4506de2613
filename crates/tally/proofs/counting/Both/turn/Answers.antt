-- `tally::counting::Both::turn`: each way is a step of the walk.
use native.Mathlib.Omega.{arith}
use Rattle.rules.specs.meaning.Lengths.{M}
use Rattle.rules.proofs.laws.table.Places.{laid_of}
use Rattle.tally.proofs.Joint.{walk_own, walk_both, walk_new}
use Rattle.tally.proofs.counting.Both.turn.Goals as goal
use Rattle.tally.proofs.counting.Both.turn.Goals.{then-at-self+else-mine-id+else-mine-id-2, else-at-self}

pub returns-then-mine-id-clause-walk_2 : goal.returns-then-mine-id-clause-walk_2
returns-then-mine-id-clause-walk_2 c =
    let both = c.args.self in
    walk_own (laid_of M _ both.sound_table) (laid_of M _ both.sound_entries) _ _ _ _ c.requires.walk (omega arith) (omega arith) c.if-mine-id.true

pub returns-then-mine-id-2-clause-walk_2 : goal.returns-then-mine-id-2-clause-walk_2
returns-then-mine-id-2-clause-walk_2 c =
    let both = c.args.self in
    let more = c.rise-more in
    walk_both (laid_of M _ both.sound_table) (laid_of M _ both.sound_entries) _ _ _ _ c.requires.walk (omega arith) (omega arith) c.if-mine-id-2.true more.result more.ensures.0 more.ensures.1

pub returns-clause-walk_2 : goal.returns-clause-walk_2
returns-clause-walk_2 c =
    let both = c.args.self in
    walk_new (laid_of M _ both.sound_table) (laid_of M _ both.sound_entries) _ _ _ _ c.requires.walk (omega arith)
    (elim c.if-at-self.branch [ then-at-self+else-mine-id+else-mine-id-2 w ↦ (λ _. omega (arith, w)) | else-at-self w ↦ (λ h. absurd (omega (arith, w))) ])
