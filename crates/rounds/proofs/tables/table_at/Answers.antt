-- `rounds::tables::table_at`: the part of the words that is the site's.
use Rattle.std.proofs.Common.{ap, ◌∙◌, length}
use Rattle.steps.proofs.Tables.{part_is, site_length}
use Rattle.rounds.proofs.tables.table_at.Goals as goal

pub returns-clause-value : goal.returns-clause-value
returns-clause-value c =
    let a = c.args in
    part_is a.run a.words.now a.site _ _ c.part_of.ensures.0 c.part_of.ensures.1

pub returns-clause-wide : goal.returns-clause-wide
returns-clause-wide c =
    let a = c.args in
    ap length (part_is a.run a.words.now a.site _ _ c.part_of.ensures.0 c.part_of.ensures.1) ∙ site_length a.run a.words.now c.requires.ready a.site c.requires.inside
