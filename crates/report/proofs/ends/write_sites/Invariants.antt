-- `report::ends::write_sites`. Invariant: the lines of the sites from k on are what is left.
use mathlib.Core.Path.{◌≡◌}
use Prim.Native.Nat.{◌+◌, ◌-◌}
use lib.ListN.{length}
use Rattle.rules.specs.meaning.Put.{put}
use Rattle.rules.specs.meaning.Reports.{site_lines}
use Rattle.report.specs.Tables.{ThreeTables}
use Rattle.report.proofs.Left.{Left}
use Rattle.report.proofs.ends.write_sites.Given as goal

abbrev pub invariant-loop-k : goal.invariant-loop-k
invariant-loop-k l = (length l.out ≡ length l.initial.out) × ThreeTables l.words × Left l.out l.next (site_lines (3 - l.k) l.k l.words) (l.place + length (site_lines 3 0 l.words)) (put l.initial.out l.place (site_lines 3 0 l.words))
