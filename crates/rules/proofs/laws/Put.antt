-- The laws of bytes put into a lent buffer: as many as before, one piece behind another, and the part in front.
-- Assumes nothing.
use Rattle.std.specs.Prelude.{◌≡◌, refl, List, [], ◌∷◌, ◌++◌, ℕ, suc, ◌+◌, ◌≤◌, ◌<◌, length, take, drop, set}
use Rattle.std.proofs.Common.{sym, ap, ◌∙◌, append_assoc, arith, length-append, length-drop, take-append-drop, length-take-le, take_at, drop_at, drop-drop, take-suc-set, drop-set-lt}
use Rattle.std.proofs.Math.Seq.{append_snoc}
use Rattle.rules.specs.meaning.Put.{put}

pub put_nil : (out : List ℕ) (at : ℕ) → put out at [] ≡ out
unfolding put
put_nil out at = let n : at + 0 ≡ at = omega arith in rw (n, take-append-drop)

pub put_length : (out : List ℕ) (at : ℕ) (bytes : List ℕ) → at + length bytes ≤ length out → length (put out at bytes) ≡ length out
unfolding put
put_length out at bytes h =
    let a : length (take at out) ≡ at = length-take-le at out (omega arith) in
    simp (length-append, a) (omega (arith, length-drop (at + length bytes) out))

-- what is put behind what was put
pub put_put : (out : List ℕ) (at : ℕ) (a b : List ℕ) → at + length a ≤ length out → put (put out at a) (at + length a) b ≡ put out at (a ++ b)
unfolding put
put_put out at a b h =
    let l : length (take at out ++ a) ≡ at + length a = length-append (take at out) a ∙ ap (λ (k : ℕ). k + length a) (length-take-le at out (omega arith)) in
    let r = drop (at + length a) out in
    let whole : take at out ++ (a ++ r) ≡ take at out ++ a ++ r = sym (append_assoc (take at out) a r) in
    let t : take (at + length a) (take at out ++ (a ++ r)) ≡ take at out ++ a = ap (take (at + length a)) whole ∙ take_at (take at out ++ a) r (at + length a) l in
    let d : drop (at + length a) (take at out ++ (a ++ r)) ≡ r = ap (drop (at + length a)) whole ∙ drop_at (take at out ++ a) r (at + length a) l in
    let e : drop (at + length a + length b) (take at out ++ (a ++ r)) ≡ drop (at + length (a ++ b)) out =
    sym (drop-drop (length b) (at + length a) (take at out ++ (a ++ r))) ∙ ap (drop (length b)) d ∙ drop-drop (length b) (at + length a) out
    ∙ ap (λ (k : ℕ). drop k out) (let k : at + length a + length b ≡ at + length (a ++ b) = omega (arith, length-append a b) in k) in
    rw (t, e) (simp append_assoc)

-- the part in front
pub put_front : (out bytes : List ℕ) → take (length bytes) (put out 0 bytes) ≡ bytes
unfolding put
put_front out bytes = take_at bytes (drop (0 + length bytes) out) (length bytes) refl

-- one byte put, and the rest behind it
pub put_cons : (out : List ℕ) (at b : ℕ) (bytes : List ℕ) → at < length out → put (set out at b) (suc at) bytes ≡ put out at (b ∷ bytes)
unfolding put
put_cons out at b bytes h =
    let n : suc at + length bytes ≡ at + suc (length bytes) = omega arith in
    let t : take (suc at) (set out at b) ≡ take at out ++ (b ∷ []) = take-suc-set out at b h in
    let d : drop (suc at + length bytes) (set out at b) ≡ drop (at + suc (length bytes)) out = drop-set-lt (suc at + length bytes) out at b (omega arith) ∙ ap (λ (k : ℕ). drop k out) n in
    rw (t, d) (append_snoc (take at out) b (bytes ++ drop (at + suc (length bytes)) out))
