-- `report::ahead::next_line`: any line but an unended last piece ends at the first byte that ends one.
use Rattle.report.proofs.Passing.{next_ended, next_last}
use Rattle.report.proofs.ahead.next_line.Goals as goal

pub returns-in-Some : goal.returns-in-Some
returns-in-Some c = let s = c.args in
    next_ended s.input.now s.start c.in-Some.long _ c.in-Some.ensures.0 c.in-Some.ensures.1 c.in-Some.ensures.2 c.read_step.ensures

pub returns-in-None : goal.returns-in-None
returns-in-None c = next_last c.args.input.now c.args.start c.requires c.in-None.ensures
