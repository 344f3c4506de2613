-- The run is sound, and what is left to say is the report of the lines that are left.
use Rattle.std.proofs.Common.{length, ◌-◌}
use Rattle.rules.specs.meaning.States.{lent}
use Rattle.report.proofs.Passing.{Passed}
use Rattle.report.proofs.pass.say_report.Given as goal

abbrev pub invariant-loop-start : goal.invariant-loop-start
invariant-loop-start l = Passed l.input l.initial.out l.out (lent l.words l.slots l.ledger) l.n l.start l.place

abbrev pub decreases-loop-start : goal.decreases-loop-start
decreases-loop-start l = length l.input - l.start
