-- Handing out, site by site: the table stands at every site so far, and what is behind is as it was.
-- Assumes nothing.
use Prim.Native.Nat.{ℕ, suc, ◌+◌, ◌*◌, ◌-◌, ◌≤◌, ◌<◌}
use native.Mathlib.Nat.{zero-mul}
use native.Mathlib.Numerals.{add-one}
use native.Mathlib.Omega.{arith}
use mathlib.Core.Path.{◌≡◌, sym, ap, ◌∙◌}
use mathlib.Core.List.{List, ◌++◌, append_assoc}
use lib.ListN.{length, take, drop}
use lib.Seq.{take_at, drop_at}
use Rattle.rules.specs.declared.Run.{Run}
use Rattle.rules.specs.meaning.States.{width}
use Rattle.rules.proofs.laws.run.Sites.{next_part}
use Rattle.judge.specs.Judged.{Sized}
use Rattle.rounds.specs.Values.{copies}
use Rattle.rounds.proofs.Levelling.{copies_long, copies_more}

pub record Handed (run : Run) (ws t : List ℕ) (k : ℕ) (us : List ℕ) : Type 0 where
  pub within : k ≤ run.sites
  pub words : us ≡ copies k t ++ drop (k * width run) ws

module _ (run : Run) (ws t : List ℕ) (sized : Sized run (length ws)) (wide : length t ≡ width run) where
  front : (k : ℕ) → length (copies k t) ≡ k * width run
  front k = rw (← wide) (copies_long k t)

  pub hand_start : Handed run ws t 0 ws
  unfolding copies
  hand_start = record { within = omega arith; words = rw (zero-mul (width run)) }

  pub hand_more : (k from to : ℕ) (us v : List ℕ) → Handed run ws t k us → k < run.sites → from ≡ k * width run → to ≡ k * width run + width run → v ≡ t
      → Handed run ws t (k + 1) (take from us ++ (v ++ drop (to - from) (drop from us)))
  hand_more k from to us v so_far more at end is =
      let broad : to - from ≡ width run = omega arith in
      record {
        within = omega arith;
        words = rw (broad, at, is, so_far.words, take_at (copies k t) (drop (k * width run) ws) (k * width run) (front k), drop_at (copies k t) (drop (k * width run) ws) (k * width run) (front k), next_part k (width run) ws, add-one k)
            (sym (append_assoc (copies k t) t (drop (suc k * width run) ws)) ∙ ap (λ (l : List ℕ). l ++ drop (suc k * width run) ws) (copies_more k t));
      }
