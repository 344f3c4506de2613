-- `report::ends::write_sites`. Invariant: the lines of the sites from k on are what is left.
use native.Mathlib.Omega.{arith}
use mathlib.Core.Path.{refl}
use mathlib.Core.List.{List, ◌++◌}
use Prim.Native.Nat.{ℕ, ◌+◌, ◌-◌, ◌≤◌, ◌<◌}
use lib.ListN.{length}
use Rattle.rules.specs.meaning.Put.{put}
use Rattle.rules.specs.meaning.Reports.{site_line, site_lines}
use Rattle.report.proofs.Left.{Left, left_all, left_room, left_next, left_as, laid_none}
use Rattle.report.proofs.Counted.{part_of, part_is, sites_from, sites_end}
use Rattle.report.specs.Laid.{Laid}
use Rattle.report.proofs.ends.write_sites.Goals as goal

-- ---- the lines that are left, in a turn of the loop: this site's, and the others
module _ (out words left : List ℕ) (place next k : ℕ) (few : k < 3) (stands : Left left next (site_lines (3 - k) k words) (place + length (site_lines 3 0 words)) (put out place (site_lines 3 0 words))) where
  abbrev line : List ℕ
  line = site_line k (part_of words k)

  abbrev others : List ℕ
  others = site_lines (3 - (k + 1)) (k + 1) words

  left_here : Left left next (line ++ others) (place + length (site_lines 3 0 words)) (put out place (site_lines 3 0 words))
  left_here = left_as (sites_from k words few) stands

  room_here : next + length line ≤ length left
  room_here = left_room line others left_here

  behind_here : {after : ℕ} {to : List ℕ} → Laid left next line after to → Left to after others (place + length (site_lines 3 0 words)) (put out place (site_lines 3 0 words))
  behind_here w = left_next line others left_here w

pub loop-k-init : goal.loop-k-init
loop-k-init c = (refl, c.requires.three_tables, left_all c.args.out.now c.args.place (site_lines 3 0 c.args.words.now) c.requires.words_in_bounds)

pub slice_bounds-write_site-start : goal.slice_bounds-write_site-start
slice_bounds-write_site-start c = omega (arith, c.loop-k.invariant.1.count)

pub slice_bounds-write_site-end : goal.slice_bounds-write_site-end
slice_bounds-write_site-end c = omega (arith, c.loop-k.invariant.1.count)

pub write_site-next-requires : goal.write_site-next-requires
write_site-next-requires c =
    let l = c.loop-k in
    record {
      sound_table = rw (part_is c.args.words.now l.k) (l.invariant.1.sound l.k c.loop-k-test.true);
      table_in_bounds = room_here c.args.out.now c.args.words.now l.out c.args.place l.next l.k c.loop-k-test.true l.invariant.2;
    }

pub loop-k-preserved : goal.loop-k-preserved
loop-k-preserved c =
    let l = c.loop-k in
    (omega (arith, c.write_site-next.auto.out, l.invariant.0), l.invariant.1, behind_here c.args.out.now c.args.words.now l.out c.args.place l.next l.k c.loop-k-test.true l.invariant.2 c.write_site-next.ensures)

pub shape_of-out : goal.shape_of-out
shape_of-out c = c.loop-k.invariant.0

pub returns : goal.returns
returns c = laid_none (left_as (sites_end c.loop-k.k c.args.words.now (omega arith)) c.loop-k.invariant.2)
