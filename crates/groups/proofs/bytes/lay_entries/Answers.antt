-- `groups::bytes::lay_entries`: one more entry in the words.
use Rattle.groups.proofs.Fillings.{filling_more}
use Rattle.groups.proofs.bytes.lay_entries.Goals as goal

pub loop-k-preserved : goal.loop-k-preserved
loop-k-preserved c = filling_more _ _ _ _ _ _ _ c.loop-k.invariant c.in_ok-entry.entry c.loop-k-test.true c.in_ok-entry.ensures
