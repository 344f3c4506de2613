-- The nine callees' contracts, put together by value: before the loop what a call that is let through has; in each turn one ask more.
use Rattle.std.proofs.Common.{ℕ, ◌≡◌, ◌≤◌, ◌<◌, ◌+◌, ◌-◌, ◌*◌, List, length, set, arith, refl, sym, ap, subst, ◌∙◌}
use lib.ListN.{length-set}
use Rattle.std.proofs.lemmas.Result.{err_from_is_err_and}
use Rattle.rules.specs.meaning.Operations.{Answer, as_answer}
use Rattle.rules.specs.meaning.Refusals.{number_of, number_in}
use Rattle.rules.proofs.laws.Determined.{numbered}
use Rattle.rules.specs.declared.Run.{Run}
use Rattle.rules.specs.meaning.Calls.{named_answer, named_after}
use Rattle.rules.specs.meaning.States.{State, lent, StateSound}
use Rattle.rules.proofs.laws.run.Acts.{judged_sound}
use Rattle.rules.proofs.laws.run.Bursts.{named_sound}
use Rattle.sites.proofs.Outcomes.{judged_all, scanned_low}
use Rattle.bursts.specs.Asks.{named_at, noted}
use Rattle.bursts.proofs.Turns.{asks_from, left_by, said_by, next_left, next_said, last_left, last_said, number_none, refused_call, handled}
use Rattle.bursts.proofs.burst.Goals as goal

-- one turn: `one` answers the ask and leaves the state as its contract says
module _ (run : Run) (s : State) (xs : List ℕ) (n i : ℕ) (less : i < n) (r : Answer) (left : State) (said : r ≡ named_answer run s (named_at xs i)) (after : left ≡ named_after run s (named_at xs i)) where
  stays_sound : StateSound run s → StateSound run left
  stays_sound h = subst (StateSound run) (sym after) (named_sound run s h (named_at xs i))

  left_on : left_by run left (asks_from xs (i + 1) (n - (i + 1))) ≡ left_by run s (asks_from xs i (n - i))
  left_on = ap (λ (t : State). left_by run t (asks_from xs (i + 1) (n - (i + 1)))) after ∙ sym (next_left run xs n i less s)

  said_on : (out zs : List ℕ) → zs ≡ noted i r out → said_by run left (asks_from xs (i + 1) (n - (i + 1))) (i + 1) zs ≡ said_by run s (asks_from xs i (n - i)) i out
  said_on out zs f =
      ap (said_by run left (asks_from xs (i + 1) (n - (i + 1))) (i + 1)) (f ∙ ap (λ (a : Answer). noted i a out) said)
      ∙ ap (λ (t : State). said_by run t (asks_from xs (i + 1) (n - (i + 1))) (i + 1) (noted i (named_answer run s (named_at xs i)) out)) after
      ∙ sym (next_said run xs n i less s out)

-- two stores leave as many words
noted_long : (i : ℕ) (r : Answer) (out : List ℕ) → length (noted i r out) ≡ length out
noted_long i r out = length-set (set out (2 * i) r.refusal) (2 * i + 1) r.value ∙ length-set out (2 * i) r.refusal

pub returns-in_err-n : goal.returns-in_err-n
returns-in_err-n c =
    let a = c.args in
    let p = err_from_is_err_and c.from_residual.result c.from_residual.ensures.1 in
    let n = c.in_err-n.field-0.0 in
    let judged = judged_all a.run a.words.now a.slots.now a.ledger.now c.scan_slots-scan.result c.see-books.result (number_in c.judge_seen-judged.result) c.scan_slots-scan.ensures c.see-books.ensures c.judge_seen-judged.ensures in
    rw (p.1, p.2) (refused_call a.run (lent a.words.now a.slots.now a.ledger.now) a.asks.now a.answers.now (number_in c.judge_seen-judged.result) (number_of n) judged c.in_err-n.ensures.number (numbered n))

pub loop-i-init : goal.loop-i-init
loop-i-init c =
    let a = c.args in
    let s = lent a.words.now a.slots.now a.ledger.now in
    let n = c.in_ok-n.n in
    let all_left : n - 0 ≡ n = omega arith in
    let judged = judged_all a.run a.words.now a.slots.now a.ledger.now c.scan_slots-scan.result c.see-books.result (number_in c.judge_seen-judged.result) c.scan_slots-scan.ensures c.see-books.ensures c.judge_seen-judged.ensures in
    let through = number_none (number_in c.judge_seen-judged.result) (length a.asks.now) (length a.answers.now) (sym c.in_ok-n.ensures.number) in
    record {
      under = scanned_low a.run.sites a.slots.now c.scan_slots-scan.result c.scan_slots-scan.ensures;
      sound = judged_sound a.run s (sym judged ∙ through.0);
      left = ap (λ (k : ℕ). left_by a.run s (asks_from a.asks.now 0 k)) all_left;
      said = ap (λ (k : ℕ). said_by a.run s (asks_from a.asks.now 0 k) 0 a.answers.now) all_left;
      long = refl;
    }

pub put_answer-requires : goal.put_answer-requires
put_answer-requires c =
    let through = number_none (number_in c.judge_seen-judged.result) (length c.args.asks.now) (length c.args.answers.now) (sym c.in_ok-n.ensures.number) in
    omega (arith, c.loop-i-test.true, c.in_ok-n.ensures.count, through.2, c.loop-i.invariant.long)

pub loop-i-preserved : goal.loop-i-preserved
loop-i-preserved c =
    let a = c.args in
    let k = c.loop-i in
    let s = lent k.words k.slots k.ledger in
    let n = c.in_ok-n.n in
    let less = c.loop-i-test.true in
    let took = c.one-answer in
    let left = lent took.new.words took.new.slots took.new.ledger in
    let said = took.ensures.answer ∙ ap (named_answer a.run s) c.ask_at.ensures in
    let after = took.ensures.state ∙ ap (named_after a.run s) c.ask_at.ensures in
    record {
      under = took.ensures.under;
      sound = stays_sound a.run s a.asks.now n k.i less (as_answer took.result) left said after k.invariant.sound;
      left = left_on a.run s a.asks.now n k.i less (as_answer took.result) left said after ∙ k.invariant.left;
      said = said_on a.run s a.asks.now n k.i less (as_answer took.result) left said after k.answers c.put_answer.new.answers c.put_answer.ensures ∙ k.invariant.said;
      long = ap length c.put_answer.ensures ∙ noted_long k.i (as_answer took.result) k.answers ∙ k.invariant.long;
    }

pub returns : goal.returns
returns c =
    let a = c.args in
    let k = c.loop-i in
    let n = c.in_ok-n.n in
    let now = lent k.words k.slots k.ledger in
    let over : n ≤ k.i = omega (arith, c.loop-i-test.false) in
    handled a.run (lent a.words.now a.slots.now a.ledger.now) a.asks.now a.answers.now (number_in c.judge_seen-judged.result) 0 n now k.answers
    (judged_all a.run a.words.now a.slots.now a.ledger.now c.scan_slots-scan.result c.see-books.result (number_in c.judge_seen-judged.result) c.scan_slots-scan.ensures c.see-books.ensures c.judge_seen-judged.ensures)
    c.in_ok-n.ensures.number c.in_ok-n.ensures.count
    (sym (last_left a.run a.asks.now n k.i over now) ∙ k.invariant.left)
    (sym (last_said a.run a.asks.now n k.i over now k.answers) ∙ k.invariant.said)
