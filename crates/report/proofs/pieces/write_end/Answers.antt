-- `report::pieces::write_end`: one byte.
use Rattle.report.proofs.Left.{laid_byte}
use Rattle.report.proofs.pieces.write_end.Goals as goal

pub returns : goal.returns
returns c = laid_byte c.args.out.now c.args.place 10 c.requires
