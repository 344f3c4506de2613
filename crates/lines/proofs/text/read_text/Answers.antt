-- `lines::text::read_text`: what the test of the text tells.
use mathlib.Core.Path.{ap, ◌∙◌}
use Prim.Native.Nat.{ℕ}
use Rattle.std.specs.Prelude.{option_map}
use Rattle.lines.proofs.Pieces.{text_tested}
use Rattle.lines.proofs.text.read_text.Goals as goal

pub returns : goal.returns
returns c = ap (option_map (λ (next : ℕ). (0, next))) c.then_some.ensures ∙ text_tested _ c.args.place c.args.text.now _ c.requires c.starts_with.ensures.value
