-- `rounds::even::even_in`: the entries that stand in the one room and the tables that are left come to all of them.
use Rattle.std.proofs.Common.{◌≡◌, ◌≤◌, length}
use Rattle.rules.specs.meaning.States.{width}
use Rattle.rounds.specs.Unions.{front}
use Rattle.rounds.proofs.Gathering.{Gathered}
use Rattle.rounds.proofs.even.even_in.Given as goal

abbrev pub invariant-loop-site : goal.invariant-loop-site
invariant-loop-site l = record {
  so_far : Gathered l.run l.words l.site (front l.entries l.here);
  few : l.entries ≤ l.run.capacity;
  here_wide : length l.here ≡ width l.run;
  there_wide : length l.there ≡ width l.run;
}
