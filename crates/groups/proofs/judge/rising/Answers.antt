-- `groups::judge::rising`, from the first entry over one more to the end.
use native.Mathlib.Omega.{arith}
use Rattle.groups.proofs.Judgings.{rising_first, rising_more, rising_end}
use Rattle.groups.proofs.judge.rising.Goals as goal

pub loop-id-init : goal.loop-id-init
loop-id-init c = rising_first _ _ (λ i. omega (arith, c.type_inv.entries i)) c.as_chunks.ensures.front (omega arith)

pub loop-id-preserved : goal.loop-id-preserved
loop-id-preserved c =
    let l = c.loop-id in
    rising_more _ _ (λ i. omega (arith, c.type_inv.entries i)) c.as_chunks.ensures.front l.id-index l.before l.ok _ c.loop-id-test.true l.invariant

pub returns : goal.returns
returns c =
    let l = c.loop-id in
    rising_end _ _ (λ i. omega (arith, c.type_inv.entries i)) c.as_chunks.ensures.front l.id-index _ l.ok _ c.requires.1 c.loop-id-test.false l.invariant
