-- From what `next_line`, `answer_to` and `say_line` ensure to the state after one line more (`passed_line`), and from the last one to the end (`passed_end`).
use Rattle.std.proofs.Common.{rules, arith, ◌≡◌}
use Rattle.rules.specs.meaning.Parcels.{no_parcel}
use Rattle.rules.specs.meaning.Ledgers.{no_counts}
use Rattle.rules.specs.meaning.States.{lent}
use Rattle.report.proofs.Passing.{passed_begun, line_sayable, passed_line, passed_end, end_sayable}
use Rattle.report.proofs.Counted.{three_tables}
use Rattle.report.proofs.Saying.{still_said}
use Rattle.report.proofs.pass.say_report.Goals as goal

pub loop-start-init : goal.loop-start-init
loop-start-init c =
    let none : c.default-slots.result ≡ no_parcel = search rules in
    let counts : c.default.result ≡ no_counts = search rules in
    passed_begun c.args.input.now c.args.out.now c.requires.1 _ _ none counts

pub answer_to-answer-requires : goal.answer_to-answer-requires
answer_to-answer-requires c = c.loop-start.invariant.sound

pub say_line-place-requires : goal.say_line-place-requires
say_line-place-requires c =
    let l = c.loop-start in
    line_sayable c.args.input.now c.args.out.now l.out (lent l.words l.slots l.ledger) l.n l.start l.place l.invariant c.next_line-named.result.0 c.next_line-named.result.1 c.next_line-named.ensures
    c.answer_to-answer.result (lent c.answer_to-answer.new.words c.answer_to-answer.new.slots c.answer_to-answer.new.ledger) c.answer_to-answer.ensures.answer c.answer_to-answer.ensures.state c.requires.0

pub overflow_add-n : goal.overflow_add-n
overflow_add-n c = omega (arith, c.loop-start.invariant.count, c.loop-start.invariant.inside, c.requires.0)

pub loop-start-preserved : goal.loop-start-preserved
loop-start-preserved c =
    let l = c.loop-start in
    passed_line c.args.input.now c.args.out.now l.out (lent l.words l.slots l.ledger) l.n l.start l.place l.invariant c.next_line-named.result.0 c.next_line-named.result.1 c.next_line-named.ensures
    c.answer_to-answer.result (lent c.answer_to-answer.new.words c.answer_to-answer.new.slots c.answer_to-answer.new.ledger) c.answer_to-answer.ensures.answer c.answer_to-answer.ensures.state c.say_line-place.result c.say_line-place.new.out c.say_line-place.ensures c.say_line-place.auto.out

pub say_ending-requires : goal.say_ending-requires
say_ending-requires c =
    let l = c.loop-start in
    let s = lent l.words l.slots l.ledger in
    (three_tables s l.invariant.sound, end_sayable c.args.input.now c.requires.0 s (passed_end c.args.input.now c.args.out.now l.out s l.n l.start l.place l.invariant c.loop-start-test.false))

pub returns : goal.returns
returns c =
    let l = c.loop-start in
    still_said (passed_end c.args.input.now c.args.out.now l.out (lent l.words l.slots l.ledger) l.n l.start l.place l.invariant c.loop-start-test.false) c.say_ending.ensures l.auto.out
