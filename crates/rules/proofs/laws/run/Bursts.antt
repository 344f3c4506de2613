-- The laws of bursts: a burst is its steps one by one, and a refused one writes nothing.
-- Assumes nothing.
use Prim.Native.Nat.{ℕ, suc, ◌+◌, ◌*◌}
use Rattle.std.proofs.Common.{zero-add, sym, ap, ◌∙◌, Option, Some, None}
use Rattle.rules.specs.declared.Step.{Step}
use native.Mathlib.Omega.{arith}
use Rattle.std.specs.Prelude.{◌≡◌, refl, get_or, drop}
use mathlib.Core.List.{List, [], ◌∷◌, ◌++◌}
use Rattle.std.proofs.Math.ListN.{length}
use Rattle.rules.specs.declared.Run.{Run}
use Rattle.rules.specs.meaning.Operations.{unless_refused}
use Rattle.rules.specs.meaning.Put.{put}
use Rattle.rules.specs.meaning.States.{State, StateSound}
use Rattle.rules.specs.meaning.Runs.{state_by, after}
use Rattle.rules.specs.meaning.Events.{outcome, refusal_for, after_event}
use Rattle.rules.proofs.laws.run.Sound.{after_sound}
use Rattle.rules.specs.meaning.Histories.{ran}
use Rattle.rules.specs.meaning.Calls.{named_answer, named_after}
use Rattle.rules.specs.meaning.Bursts.{asks_of, steps_in, answers_to, Handled}

-- ---- one ask
-- an ask in front: the state after it is where the others begin
pub ran_ask : (run : Run) (s : State) (ask : Option Step) (asks : List (Option Step)) → ran run s (steps_in (ask ∷ asks)) ≡ ran run (named_after run s ask) (steps_in asks)
unfolding ran steps_in named_after after_event refusal_for outcome after
ran_ask run s (Some step) asks = refl
ran_ask run s None asks = refl

-- what is asked for keeps a sound state sound
pub named_sound : (run : Run) (s : State) → StateSound run s → (ask : Option Step) → StateSound run (named_after run s ask)
unfolding named_after
named_sound run s h (Some step) = after_sound run s step h
named_sound run s h None = h

-- ---- the answers
-- two words to each
pub answers_long : (run : Run) (s : State) (asks : List (Option Step)) → length (answers_to run s asks) ≡ 2 * length asks
unfolding answers_to
answers_long run s [] = refl
answers_long run s (ask ∷ asks) = let e = answers_long run (named_after run s ask) asks in omega (arith, e)

-- put in front of what stood there, they stand in front
pub put_first : (given ws : List ℕ) → put given 0 ws ≡ ws ++ drop (length ws) given
unfolding put
put_first given ws = ap (λ (k : ℕ). ws ++ drop k given) (zero-add (length ws))

-- the answer to an ask is that of the step in the state after the asks before it
module _ (run : Run) (ask : Option Step) (rest : List (Option Step)) (behind : List ℕ) where
  abbrev Tells : State → List (Option Step) → Type 0
  Tells s before =
      (get_or (answers_to run s (before ++ (ask ∷ rest)) ++ behind) (2 * length before) 0 ≡ (named_answer run (ran run s (steps_in before)) ask).refusal)
      × (get_or (answers_to run s (before ++ (ask ∷ rest)) ++ behind) (2 * length before + 1) 0 ≡ (named_answer run (ran run s (steps_in before)) ask).value)

  pub answer_tells : (s : State) (before : List (Option Step)) → Tells s before
  unfolding answers_to ran steps_in
  answer_tells s [] = (refl, refl)
  answer_tells s (b ∷ before) =
      let e₀ : 2 * suc (length before) ≡ suc (suc (2 * length before)) = omega arith in
      let e₁ : 2 * suc (length before) + 1 ≡ suc (suc (2 * length before + 1)) = omega arith in
      let told = answer_tells (named_after run s b) before in
      rw (e₁, e₀, ran_ask run s b before) told

-- ---- the call
module _ (run : Run) (s : State) (asks given : List ℕ) (left : State) (said : List ℕ) where
  -- accepted: the state after its steps, and each answer in its two places
  pub one_by_one : Handled run s asks given 0 left said
      → (left ≡ ran run s (steps_in (asks_of asks)))
      × ((before : List (Option Step)) (ask : Option Step) (rest : List (Option Step)) → asks_of asks ≡ before ++ (ask ∷ rest)
      → (get_or said (2 * length before) 0 ≡ (named_answer run (ran run s (steps_in before)) ask).refusal)
      × (get_or said (2 * length before + 1) 0 ≡ (named_answer run (ran run s (steps_in before)) ask).value))
  one_by_one h = (
    h.state ∙ ap (λ (r : ℕ). state_by r s (ran run s (steps_in (asks_of asks)))) (sym h.refusal),
    λ before ask rest e. rw (said_is before ask rest e) (answer_tells run ask rest (drop (length (answers_to run s (before ++ (ask ∷ rest)))) given) s before),
  )
    where
      said_is : (before : List (Option Step)) (ask : Option Step) (rest : List (Option Step)) → asks_of asks ≡ before ++ (ask ∷ rest)
          → said ≡ answers_to run s (before ++ (ask ∷ rest)) ++ drop (length (answers_to run s (before ++ (ask ∷ rest)))) given
      said_is before ask rest e =
          h.answers ∙ ap (λ (r : ℕ). unless_refused r given (put given 0 (answers_to run s (asks_of asks)))) (sym h.refusal)
          ∙ put_first given (answers_to run s (asks_of asks))
          ∙ ap (λ (ns : List (Option Step)). answers_to run s ns ++ drop (length (answers_to run s ns)) given) e

  -- refused: the state and every word of the answers stay
  pub refused_burst : (r : ℕ) → Handled run s asks given (suc r) left said → (left ≡ s) × (said ≡ given)
  refused_burst r h = (
    h.state ∙ ap (λ (k : ℕ). state_by k s (ran run s (steps_in (asks_of asks)))) (sym h.refusal),
    h.answers ∙ ap (λ (k : ℕ). unless_refused k given (put given 0 (answers_to run s (asks_of asks)))) (sym h.refusal),
  )
