-- `next` of `Links`: the next link is nearer the end, and the iterator stands there as it must.
use Rattle.links.specs.Turns.{on_of, stands_next, further}
use Rattle.links.proofs.turns.LinksIterator.next.Goals as goal

pub returns-then-link-self-clause-goes : goal.returns-then-link-self-clause-goes
returns-then-link-self-clause-goes c =
    let s = c.args.self.now in
    let in_run = c.if-link-self.true in
    let here = on_of s.sites s.at c.requires.1 in_run in
    let stands = stands_next s.sites s.at in_run here.0 here.1 in
    let nearer = further s.sites s.at c.requires.0 in_run here.0 here.1 in
    rw c.next_link-self.ensures (record { on = λ _. ((c.requires.0, stands), tt, nearer); keeps = (c.requires.0, stands); rests = λ _. tt })
