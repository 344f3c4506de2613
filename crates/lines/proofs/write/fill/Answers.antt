-- `lines::write::fill`: the check leaves nothing to be written, or room for the whole line.
use Rattle.lines.proofs.Writings.{may_lay, filled_none, filled_line}
use Rattle.lines.proofs.write.fill.Goals as goal

pub lay-requires : goal.lay-requires
lay-requires c = may_lay _ _ _ _ _ c.in-Ok.ensures

pub returns-in-Ok : goal.returns-in-Ok
returns-in-Ok c = filled_line _ _ _ _ _ _ _ c.in-Ok.ensures c.lay.ensures.0 c.lay.ensures.1

pub returns-in-Err : goal.returns-in-Err
returns-in-Err c = filled_none _ _ _ _ _ _ c.in-Err.ensures
