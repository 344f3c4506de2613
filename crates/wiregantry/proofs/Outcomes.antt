-- What a call by four numbers comes to, from what the numbers name.
use Prim.Native.Nat.{ℕ}
use mathlib.Core.Path.{◌≡◌, sym, ap, ◌∙◌}
use Rattle.std.specs.Prelude.{Option, Some, None}
use Rattle.rules.specs.meaning.Operations.{Answer}
use Rattle.rules.specs.declared.Run.{Run}
use Rattle.rules.specs.declared.Step.{Step}
use Rattle.rules.specs.meaning.States.{State}
use Rattle.rules.specs.meaning.Runs.{Stepped}
use Rattle.rules.specs.meaning.StepLines.{step_for}
use Rattle.rules.specs.meaning.Calls.{Called, named_answer, named_after}

module _ (run : Run) (before : State) (kind first second id : ℕ) where
  -- refused with 11, and nothing changes
  pub called_none : step_for kind first second id ≡ None → Called run before kind first second id 11 0 before
  unfolding named_answer named_after
  called_none e = record {
    refusal = sym (ap (λ (n : Option Step). (named_answer run before n).refusal) e);
    other = sym (ap (λ (n : Option Step). (named_answer run before n).value) e);
    state = sym (ap (λ (n : Option Step). named_after run before n) e);
  }

  -- what the step does
  pub called : (step : Step) (r : Answer) (left : State) → step_for kind first second id ≡ Some step → Stepped run before step r left → Called run before kind first second id r.refusal r.value left
  unfolding named_answer named_after
  called step r left e done = record {
    refusal = ap (λ (a : Answer). a.refusal) done.answer ∙ sym (ap (λ (n : Option Step). (named_answer run before n).refusal) e);
    other = ap (λ (a : Answer). a.value) done.answer ∙ sym (ap (λ (n : Option Step). (named_answer run before n).value) e);
    state = done.state ∙ sym (ap (λ (n : Option Step). named_after run before n) e);
  }
