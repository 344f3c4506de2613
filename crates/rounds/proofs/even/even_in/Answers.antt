-- `rounds::even::even_in`: site 0's entries in use come first, a turn joins in those of one site more, and at the end no site is left.
use Rattle.std.proofs.Common.{◌≡◌, ◌∙◌, ◌*◌, ◌/◌, ap, length, drop, arith}
use lib.Seq.{length_front, take_at}
use Rattle.rounds.proofs.Joining.{lent_whole, back_whole}
use Rattle.rounds.proofs.Gathering.{gather_start, gather_more, gather_full, gather_out}
use Rattle.rounds.proofs.even.even_in.Goals as goal

pub loop-site-init : goal.loop-site-init
loop-site-init c =
    let a = c.args in
    let own = c.in_use-own in
    let copied = c.copy.ensures in
    let whole : 2 * (length own.result.now / 2) ≡ length own.result.now = omega (arith, own.ensures.fits) in
    record {
      so_far = rw (whole, take_at c.copy.new.to (drop (length own.result.now) a.here.now) (length own.result.now) (ap length copied), copied, own.ensures.value) (gather_start a.run a.words.now c.requires.repairable);
      few = omega (arith, own.ensures.fits);
      here_wide = length_front a.here.now c.copy.new.to (length own.result.now) c.copy.auto.to ∙ c.requires.wide.0;
      there_wide = c.requires.wide.1;
    }

pub loop-site-preserved : goal.loop-site-preserved
loop-site-preserved c =
    let a = c.args in
    let l = c.loop-site in
    let said = c.in-Some.ensures in
    let room : c.swap.new.x.now ≡ c.unite.new.out = rw c.swap.ensures.x_after (back_whole l.there.now c.unite.new.out c.unite.auto.out) in
    let other : c.swap.new.y.now ≡ l.here.now = rw c.swap.ensures.y_after in
    record {
      so_far = rw (room, said.2, c.in_use-own-in-loop-site.ensures.value) (gather_more a.run a.words.now c.requires.repairable l.site _ l.invariant.so_far c.loop-site-test.true);
      few = omega (arith, said.0, ap length (lent_whole l.there.now), l.invariant.there_wide);
      here_wide = rw (room, c.unite.auto.out, lent_whole l.there.now) l.invariant.there_wide;
      there_wide = rw other l.invariant.here_wide;
    }

pub returns-in_default : goal.returns-in_default
returns-in_default c =
    let a = c.args in
    let l = c.loop-site in
    let many = rw (lent_whole l.there.now, l.invariant.there_wide, c.in_use-own-in-loop-site.ensures.value) at c.in_default.ensures in
    let full = gather_full a.run a.words.now c.requires.repairable l.site _ l.invariant.so_far c.loop-site-test.true many in
    (full, rw (← full))

pub returns : goal.returns
returns c =
    let a = c.args in
    let l = c.loop-site in
    gather_out a.run a.words.now c.requires.repairable l.site l.entries l.here.now _ l.invariant.so_far c.loop-site-test.false l.invariant.few l.invariant.here_wide (rw (lent_whole l.here.now) at c.settle.ensures)
