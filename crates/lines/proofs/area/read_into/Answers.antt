-- `lines::area::read_into`: the area is too short, or the text is no line, or four words were put.
use native.Mathlib.Omega.{arith}
use mathlib.Core.Path.{◌≡◌, sym, ◌∙◌}
use Prim.Native.Nat.{ℕ}
use Rattle.std.proofs.Common.{rules}
use Rattle.rules.specs.meaning.Refusals.{number_in}
use Rattle.lines.proofs.Areas.{area_short, area_none, area_laid}
use Rattle.lines.proofs.area.read_into.Goals as goal

pub returns-then-area-lt-AREA_BYTES : goal.returns-then-area-lt-AREA_BYTES
returns-then-area-lt-AREA_BYTES c = area_short _ _ (omega arith)

pub returns-in_err-numbers : goal.returns-in_err-numbers
returns-in_err-numbers c =
    let n : ◌≡◌ {A = ℕ} (number_in c.from_residual.result) 11 = search rules in
    rw n (area_none _ _ (omega arith) (sym c.in_err-numbers.ensures.ok_part ∙ c.read_line.ensures))

pub returns : goal.returns
returns c = area_laid _ _ _ _ _ _ _ _ _ _ (omega arith) (sym c.in_ok-numbers.ensures.ok_part ∙ c.read_line.ensures)
    c.write_word.ensures
    c.write_word-2.ensures
    c.write_word-3.ensures
    c.write_word-4.ensures
