-- The words from the id's place on are moved, and its entry written there (`inserted`).
use Rattle.std.proofs.Common.{ℕ, ◌+◌, ◌*◌, ◌-◌, ◌≤◌, List, length, arith}
use borrow.Rule.Slice.PartMut.{put_mid}
use Rattle.rules.specs.meaning.Lengths.{M}
use Rattle.rules.specs.meaning.Table.{SoundTable, held}
use Rattle.rules.proofs.laws.table.Law.{sound_wider}
use Rattle.rules.proofs.laws.table.Places.{Laid, laid_of}
use Rattle.table.specs.Loops.{Moved}
use Rattle.table.proofs.Shift.{moved_on, part_moved, inserted}
use Rattle.table.proofs.raise.insert.Goals as goal

-- any word is a length that the new entry can have, so the table is read at the largest word
abbrev widest : ℕ
widest = 18446744073709551615

laid : (t : List ℕ) → SoundTable t → Laid widest t (held t)
laid t s = laid_of widest t (sound_wider M widest t (omega arith) s)

pub returns : goal.returns
returns c =
    let a = c.requires in
    let p = c.rank-from.result in
    let copied = c.copy_within.ensures in
    let f : 2 * p ≤ 2 * c.args.used = omega arith in
    let m : Moved c.args.table.now (2 * p + (2 * c.args.used - 2 * p)) (2 * p) (put_mid (2 * p) (length c.args.table.now - 2 * p) c.args.table.now c.copy_within.new.self) = part_moved _ _ _ _ (omega arith) (moved_on _ _ _ copied.len copied.by_index.0 copied.by_index.2) in
    inserted (laid _ a.sound_table) _ _ a.id_value.1 (omega arith) (omega arith) a.id_value.0 _ _ _ c.rank-from.ensures.value (omega arith) m
