-- `table::find::length_word`: the second word of the place where the id stands (`LengthWord`).
use Rattle.std.proofs.Common.{sym, arith}
use Rattle.table.proofs.Raising.{place, length_word}
use Rattle.table.proofs.find.length_word.Goals as goal

pub overflow_mul-result : goal.overflow_mul-result
overflow_mul-result c = omega (arith, place _ _ _ c.requires (sym c.in_ok-i.ensures))

pub overflow_add-result : goal.overflow_add-result
overflow_add-result c = omega (arith, place _ _ _ c.requires (sym c.in_ok-i.ensures))

pub returns : goal.returns
returns c = length_word _ _ _ c.requires (sym c.in_ok-i.ensures)
