-- Bytes stored one by one: a number from its last digit to its first, a text from its first byte to its last.
use mathlib.Core.Path.{◌≡◌, sym, ap, ◌∙◌}
use mathlib.Core.List.{List, [], ◌∷◌, ◌++◌, append_assoc}
use Prim.Native.Nat.{ℕ, suc, ◌+◌, ◌-◌, ◌/◌, ◌%◌, ◌^◌, ◌≤◌, ◌<◌}
use native.Mathlib.Omega.{arith}
use native.Mathlib.Numerals.{add-one}
use lib.ListN.{length, get_or, take, drop, set, length-set, take-append-drop}
use lib.Seq.{drop-cons, get_or-set_same, drop-set-lt, take-set-le, take-take, take-length, paste, paste-suc}
use Rattle.rules.specs.meaning.Number.{digits}
use Rattle.rules.proofs.laws.line.Numbers.{digits_small, digits_large}
use Rattle.rules.specs.meaning.Put.{put}

-- from the place of a stored byte on
stored : (out : List ℕ) (j b : ℕ) → j < length out → drop j (set out j b) ≡ b ∷ drop (suc j) out
stored out j b h =
    let h' : j < length (set out j b) = omega (arith, length-set out j b) in
    drop-cons (set out j b) j 0 h' ∙ ap (λ (x : ℕ). x ∷ drop (suc j) (set out j b)) (get_or-set_same out j b 0 h) ∙ ap (λ (l : List ℕ). b ∷ l) (drop-set-lt (suc j) out j b (omega arith))

-- a digit goes from the number to the buffer, and the two together are the same
pub spell_turn : (out : List ℕ) (rest i : ℕ) → 10 ≤ rest → rest < 2 ^ 64 → 0 < i → i ≤ length out → digits (rest / 10) ++ drop (i - 1) (set out (i - 1) (48 + rest % 10)) ≡ digits rest ++ drop i out
spell_turn out rest i l h p q =
    let n : suc (i - 1) ≡ i = omega arith in
    ap (λ (t : List ℕ). digits (rest / 10) ++ t) (stored out (i - 1) (48 + rest % 10) (omega arith) ∙ ap (λ (k : ℕ). (48 + rest % 10) ∷ drop k out) n)
    ∙ sym (append_assoc (digits (rest / 10)) ((48 + rest % 10) ∷ []) (drop i out)) ∙ ap (λ (t : List ℕ). t ++ drop i out) (sym (digits_large rest l h))

-- so does the first digit
pub spell_last : (out : List ℕ) (rest i : ℕ) → rest < 10 → 0 < i → i ≤ length out → drop (i - 1) (set out (i - 1) (48 + rest)) ≡ digits rest ++ drop i out
spell_last out rest i h p q =
    let n : suc (i - 1) ≡ i = omega arith in
    stored out (i - 1) (48 + rest) (omega arith) ∙ ap (λ (k : ℕ). (48 + rest) ∷ drop k out) n ∙ ap (λ (t : List ℕ). t ++ drop i out) (sym (digits_small rest h))

-- before the place nothing changes
pub front_kept : (out out₀ : List ℕ) (i b : ℕ) → take i out ≡ take i out₀ → take (i - 1) (set out (i - 1) b) ≡ take (i - 1) out₀
front_kept out out₀ i b e =
    take-set-le (i - 1) out (i - 1) b (omega arith) ∙ sym (take-take (i - 1) i out (omega arith)) ∙ ap (take (i - 1)) e ∙ take-take (i - 1) i out₀ (omega arith)

-- ---- two digits at once
abbrev pub stored_two : List ℕ → ℕ → ℕ → ℕ → List ℕ
stored_two out i b c = set (set out (i - 1) c) (i - 2) b

pub spell_two : (out : List ℕ) (rest i : ℕ) → 100 ≤ rest → rest < 2 ^ 64 → 1 < i → i ≤ length out → digits (rest / 100) ++ drop (i - 2) (stored_two out i (48 + rest % 100 / 10) (48 + rest % 10)) ≡ digits rest ++ drop i out
spell_two out rest i l h p q =
    let o = set out (i - 1) (48 + rest % 10) in
    let a : rest / 10 / 10 ≡ rest / 100 = omega arith in
    let b : rest / 10 % 10 ≡ rest % 100 / 10 = omega arith in
    let j : i - 1 - 1 ≡ i - 2 = omega arith in
    let q' : i - 1 ≤ length o = omega (arith, length-set out (i - 1) (48 + rest % 10)) in
    let t = spell_turn o (rest / 10) (i - 1) (omega arith) (omega arith) (omega arith) q' in
    (rw (a, b, j) at t) ∙ spell_turn out rest i (omega arith) h (omega arith) q

pub spell_last_two : (out : List ℕ) (rest i : ℕ) → 10 ≤ rest → rest < 100 → 1 < i → i ≤ length out → drop (i - 2) (stored_two out i (48 + rest / 10) (48 + rest % 10)) ≡ digits rest ++ drop i out
spell_last_two out rest i l h p q =
    let o = set out (i - 1) (48 + rest % 10) in
    let j : i - 1 - 1 ≡ i - 2 = omega arith in
    let q' : i - 1 ≤ length o = omega (arith, length-set out (i - 1) (48 + rest % 10)) in
    let t = spell_last o (rest / 10) (i - 1) (omega arith) (omega arith) q' in
    (rw j at t) ∙ spell_turn out rest i l (omega arith) (omega arith) q

pub front_kept_two : (out out₀ : List ℕ) (i b c : ℕ) → take i out ≡ take i out₀ → take (i - 2) (stored_two out i b c) ≡ take (i - 2) out₀
front_kept_two out out₀ i b c e =
    let j : i - 1 - 1 ≡ i - 2 = omega arith in
    let t = front_kept (set out (i - 1) c) out₀ (i - 1) b (front_kept out out₀ i c e) in
    rw j at t

-- the two halves of the buffer make what is promised
pub put_is : (out out₀ : List ℕ) (place : ℕ) (bytes : List ℕ) → take place out ≡ take place out₀ → drop place out ≡ bytes ++ drop (place + length bytes) out₀ → out ≡ put out₀ place bytes
unfolding put
put_is out out₀ place bytes f b = sym (take-append-drop place out) ∙ ap (λ (t : List ℕ). t ++ drop place out) f ∙ ap (λ (t : List ℕ). take place out₀ ++ t) b

-- ---- a text
pub text_turn : (out out₀ : List ℕ) (place : ℕ) (text : List ℕ) (j : ℕ) → out ≡ paste out₀ place text j → place + j < length out₀ → j < length text → set out (place + j) (get_or text j 0) ≡ paste out₀ place text (j + 1)
text_turn out out₀ place text j e p q = ap (λ (l : List ℕ). set l (place + j) (get_or text j 0)) e ∙ paste-suc out₀ place text j 0 p q ∙ ap (paste out₀ place text) (sym (add-one j))

pub text_done : (out out₀ : List ℕ) (place : ℕ) (text : List ℕ) (j : ℕ) → out ≡ paste out₀ place text j → j ≡ length text → out ≡ put out₀ place text
unfolding put
text_done out out₀ place text j e n = e ∙ ap (paste out₀ place text) n ∙ rw (take-length, append_assoc)
