-- Ids in lists: one among some, how many different ones there are, and when the ids of several tables fit a capacity together.
-- Assumes nothing.
use Rattle.std.specs.Prelude.{ℕ, suc, Bool, false, ◌||◌, cond, List, [], ◌∷◌, ◌++◌, leb, eqb}
use Rattle.rules.specs.meaning.Steps.{ids_of}

-- an id is among some ids
unfoldable pub among : ℕ → List ℕ → Bool
among x [] = false
among x (y ∷ ys) = eqb x y || among x ys

-- how many different ids there are among some
unfoldable pub distinct : List ℕ → ℕ
distinct [] = 0
distinct (x ∷ xs) = cond (among x xs) (distinct xs) (suc (distinct xs))

-- the ids of all tables and groups that are named, each of them words, id then length
unfoldable pub ids_of_all : List (List ℕ) → List ℕ
ids_of_all [] = []
ids_of_all (t ∷ named) = ids_of t ++ ids_of_all named

-- "where the ids of all tables and groups named fit it together": there are no more different ones than the capacity
unfoldable pub fit_together : ℕ → List (List ℕ) → Bool
fit_together c named = leb (distinct (ids_of_all named)) c
