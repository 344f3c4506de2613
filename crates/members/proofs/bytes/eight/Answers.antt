-- `members::bytes::eight`: one bit more a turn (`packed_more`).
use Rattle.std.proofs.Common.{arith}
use Rattle.members.proofs.Packing.{packed_none, packed_more, packed_all}
use Rattle.members.proofs.bytes.eight.Goals as goal

pub loop-i-init : goal.loop-i-init
loop-i-init c = packed_none c.args.table.now c.args.ids.now c.args.from

pub loop-i-preserved : goal.loop-i-preserved
loop-i-preserved c = packed_more _ _ _ c.loop-i.i c.loop-i.byte c.is_member.result c.requires.first (omega arith) (omega arith) c.loop-i.invariant c.is_member.ensures

pub returns : goal.returns
returns c = packed_all _ _ _ c.loop-i.i c.loop-i.byte (omega arith) (omega arith) c.loop-i.invariant
