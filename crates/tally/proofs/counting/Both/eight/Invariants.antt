-- `tally::counting::Both::eight`: the turns by value (`Turns`), eight of them.
use Rattle.tally.proofs.Joint.{Turns}
use Rattle.tally.proofs.counting.Both.eight.Given as goal

abbrev pub invariant-loop : goal.invariant-loop
invariant-loop l = Turns l.self.table.now l.self.entries.now l.at.held l.at.own l.at.others l.counter l.to.own l.to.others l.to.rises l.mine l.id
