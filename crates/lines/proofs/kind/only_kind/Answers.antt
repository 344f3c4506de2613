-- `lines::kind::only_kind`: at each return the tests say how `told` computes.
use Rattle.std.proofs.lemmas.Bool.Decides.{nat_tests}
use native.Mathlib.Omega.{arith}
use Rattle.lines.proofs.Leads.{told, only}
use Rattle.lines.proofs.kind.only_kind.Goals as goal

pub returns-in-114-default : goal.returns-in-114-default
unfolding told
returns-in-114-default c = only c.args.a c.args.b 2 (omega arith) (omega arith) (grind (arith, nat_tests))

pub returns-in-113-default : goal.returns-in-113-default
unfolding told
returns-in-113-default c = only c.args.a c.args.b 3 (omega arith) (omega arith) (grind (arith, nat_tests))

pub returns-in-115-default : goal.returns-in-115-default
unfolding told
returns-in-115-default c = only c.args.a c.args.b 4 (omega arith) (omega arith) (grind (arith, nat_tests))

pub returns-in-109-default : goal.returns-in-109-default
unfolding told
returns-in-109-default c = only c.args.a c.args.b 5 (omega arith) (omega arith) (grind (arith, nat_tests))

pub returns-in-100-default : goal.returns-in-100-default
unfolding told
returns-in-100-default c = only c.args.a c.args.b 6 (omega arith) (omega arith) (grind (arith, nat_tests))

pub returns-in-108-default : goal.returns-in-108-default
unfolding told
returns-in-108-default c = only c.args.a c.args.b 8 (omega arith) (omega arith) (grind (arith, nat_tests))

pub returns-in_default-eq103 : goal.returns-in_default-eq103
unfolding told
returns-in_default-eq103 c = only c.args.a c.args.b 7 (omega arith) (omega arith) (grind (arith, nat_tests))

pub returns-in_default : goal.returns-in_default
unfolding told
returns-in_default c = only c.args.a c.args.b 1 (omega arith) (omega arith) (grind (arith, nat_tests))
