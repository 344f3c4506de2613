-- `report::ends::count_waiting`: the slots that are counted are those that are not free.
use Rattle.std.proofs.Common.{rules, ◌≡◌, not, sym, ◌∙◌}
use Rattle.std.specs.List.{count_by}
use Rattle.rules.specs.meaning.Parcels.{is_free}
use Rattle.report.proofs.Counted.{waiting_counts}
use Rattle.report.proofs.ends.count_waiting.Goals as goal

pub returns : goal.returns
returns c =
    let counted : c.count.result ≡ count_by (λ p. not (is_free p)) c.args.slots = search rules in
    counted ∙ sym (waiting_counts c.args.slots)
