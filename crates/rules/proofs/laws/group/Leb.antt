-- What follows for unsigned LEB128: written and read back, read and written back, and how many bytes a number takes. Assumes nothing.
use Rattle.std.specs.Prelude.{◌≡◌, refl, List, [], ◌∷◌, ◌++◌, ℕ, zero, suc, ◌+◌, ◌-◌, ◌*◌, ◌/◌, ◌%◌, ◌^◌, ◌≤◌, ◌<◌, length}
use Rattle.std.proofs.Common.{sym, ap, ◌∙◌, arith, lt-ltb, le-ltb, ne_eqb}
use Rattle.rules.specs.meaning.Text.{Front, front, refused, next}
use Rattle.rules.specs.meaning.Leb.{leb_up_to, leb128, carried, leb_value, of64, read_leb}
use Rattle.rules.proofs.laws.line.Numbers.{below}

-- ---- the bytes of a number
up_small : (k n : ℕ) → n < 128 → leb_up_to (suc k) n ≡ n ∷ []
unfolding leb_up_to
up_small k n h = rw (lt-ltb n 128 h)

up_large : (k n : ℕ) → 128 ≤ n → leb_up_to (suc k) n ≡ (128 + n % 128) ∷ leb_up_to k (n / 128)
unfolding leb_up_to
up_large k n h = rw (le-ltb n 128 h)

-- more room changes nothing where there is enough
up_enough : (k n : ℕ) → n < 128 ^ suc k → leb_up_to (suc k) n ≡ leb_up_to (suc (suc k)) n
up_enough zero n h = let s : n < 128 = omega arith in up_small 0 n s ∙ sym (up_small 1 n s)
up_enough (suc k) n h =
    below n 128 (λ s. up_small (suc k) n s ∙ sym (up_small (suc (suc k)) n s))
    (λ l. up_large (suc k) n l ∙ ap (λ (t : List ℕ). (128 + n % 128) ∷ t) (up_enough k (n / 128) (omega arith)) ∙ sym (up_large (suc (suc k)) n l))

-- a number of seven bits is its own byte
pub leb_small : (n : ℕ) → n < 128 → leb128 n ≡ n ∷ []
unfolding leb128
leb_small n h = up_small 9 n h

-- "seven bits to a byte, the lowest first, and 128 more in each byte but the last"
pub leb_large : (n : ℕ) → 128 ≤ n → n < 2 ^ 64 → leb128 n ≡ (128 + n % 128) ∷ leb128 (n / 128)
unfolding leb128
leb_large n l h = up_large 9 n l ∙ ap (λ (t : List ℕ). (128 + n % 128) ∷ t) (up_enough 8 (n / 128) (omega arith))

-- ---- reading
value_last : (b : ℕ) (bs : List ℕ) → b < 128 → leb_value (b ∷ bs) ≡ front b bs
unfolding leb_value
value_last b bs h = rw (lt-ltb b 128 h)

value_more : (b : ℕ) (bs : List ℕ) → 128 ≤ b → b < 256 → leb_value (b ∷ bs) ≡ next (leb_value bs) (carried (b - 128))
unfolding leb_value
value_more b bs l h = rw (le-ltb b 128 l, lt-ltb b 256 h)

value_none : (b : ℕ) (bs : List ℕ) → 256 ≤ b → leb_value (b ∷ bs) ≡ refused
unfolding leb_value
value_none b bs h = rw (le-ltb b 128 (omega arith), le-ltb b 256 h)

value_up : (k n : ℕ) (rest : List ℕ) → n < 128 ^ suc k → leb_value (leb_up_to (suc k) n ++ rest) ≡ front n rest
unfolding carried
value_up zero n rest h = let s : n < 128 = omega arith in rw (up_small 0 n s) (value_last n rest s)
value_up (suc k) n rest h =
    below n 128 (λ s. rw (up_small (suc k) n s) (value_last n rest s))
    (λ l. rw (up_large (suc k) n l) (value_more (128 + n % 128) (leb_up_to (suc k) (n / 128) ++ rest) (omega arith) (omega arith)
    ∙ rw (value_up k (n / 128) rest (omega arith), ne_eqb (n / 128) 0 (λ z. omega arith)) (ap (λ (v : ℕ). front v rest) (omega arith))))

-- a number that was written is read back, and the rest with it
pub leb_read : (n : ℕ) (rest : List ℕ) → n < 2 ^ 64 → read_leb (leb128 n ++ rest) ≡ front n rest
unfolding read_leb leb128 of64
leb_read n rest h = rw (value_up 9 n rest (omega arith), lt-ltb n (2 ^ 64) h)

-- what a byte of 128 or more and a number say together
carried_says : (low v : ℕ) (r : List ℕ) (n : ℕ) (rest : List ℕ) → carried low v r ≡ front n rest → (0 < v) × (n ≡ low + 128 * v) × (r ≡ rest)
unfolding carried
carried_says low zero r n rest e = absurd (let z : ◌≡◌ {A = ℕ} 0 1 = cc in omega arith)
carried_says low (suc v) r n rest e =
    let k : front (low + 128 * suc v) r ≡ front n rest = rw (ne_eqb (suc v) 0 (λ z. omega arith)) at e in
    (omega arith, cc, cc)

text_more : (b : ℕ) (bs : List ℕ) (f : Front) (n : ℕ) (rest : List ℕ) → 128 ≤ b → b < 256 → n < 2 ^ 64 → next f (carried (b - 128)) ≡ front n rest
    → ((v : ℕ) → v < 2 ^ 64 → f ≡ front v rest → bs ≡ leb128 v ++ rest) → b ∷ bs ≡ leb128 n ++ rest
text_more b bs (front v r) n rest l s h e before =
    let c = carried_says (b - 128) v r n rest e in
    let kd : n / 128 ≡ v = omega arith in
    let km : 128 + n % 128 ≡ b = omega arith in
    rw (leb_large n (omega arith) h, kd, km) (ap (λ (t : List ℕ). b ∷ t) (before v (omega arith) (ap (front v) c.2)))
text_more b bs refused n rest l s h e before = absurd (let z : ◌≡◌ {A = ℕ} 0 1 = cc in omega arith)

value_text : (bs : List ℕ) (n : ℕ) (rest : List ℕ) → n < 2 ^ 64 → leb_value bs ≡ front n rest → bs ≡ leb128 n ++ rest
unfolding leb_value
value_text [] n rest h e = absurd (let z : ◌≡◌ {A = ℕ} 0 1 = cc in omega arith)
value_text (b ∷ bs) n rest h e =
    below b 128
    (λ s.
    let q : front b bs ≡ front n rest = sym (value_last b bs s) ∙ e in
    let kn : b ≡ n = cc in
    let kr : bs ≡ rest = cc in
    rw (← kn, ← kr, leb_small b s))
    (λ l.
    below b 256
    (λ s. text_more b bs (leb_value bs) n rest l s h (sym (value_more b bs l s) ∙ e) (λ v g q. value_text bs v rest g q))
    (λ g. absurd (let q : refused ≡ front n rest = sym (value_none b bs g) ∙ e in let z : ◌≡◌ {A = ℕ} 0 1 = cc in omega arith)))

-- a number that is read is written back: so only the shortest form is read
pub read_leb_law : (bs : List ℕ) (n : ℕ) (rest : List ℕ) → read_leb bs ≡ front n rest → (bs ≡ leb128 n ++ rest) × (n < 2 ^ 64)
unfolding read_leb of64
read_leb_law bs n rest e = go (leb_value bs) refl e
  where
    go : (f : Front) → leb_value bs ≡ f → next f of64 ≡ front n rest → (bs ≡ leb128 n ++ rest) × (n < 2 ^ 64)
    go (front v r) is q =
        below v (2 ^ 64)
        (λ s. let k : front v r ≡ front n rest = rw (lt-ltb v (2 ^ 64) s) at q in
        let kn : v ≡ n = cc in
        let h : n < 2 ^ 64 = omega arith in
        (value_text bs n rest h (is ∙ k), h))
        (λ l. absurd (let k : refused ≡ front n rest = rw (le-ltb v (2 ^ 64) l) at q in let z : ◌≡◌ {A = ℕ} 0 1 = cc in omega arith))
    go refused is q = absurd (let z : ◌≡◌ {A = ℕ} 0 1 = cc in omega arith)

-- ---- how many bytes a number takes
up_within : (j n k : ℕ) → 1 ≤ k → n < 128 ^ k → length (leb_up_to j n) ≤ k
unfolding leb_up_to
up_within zero n k p h = omega arith
up_within (suc j) n zero p h = absurd (omega arith)
up_within (suc j) n (suc zero) p h = rw (lt-ltb n 128 (omega arith)) (omega arith)
up_within (suc j) n (suc (suc k)) p h =
    below n 128 (λ s. rw (lt-ltb n 128 s) (omega arith))
    (λ l. rw (le-ltb n 128 l) (let g : length (leb_up_to j (n / 128)) ≤ suc k = up_within j (n / 128) (suc k) (omega arith) (omega arith) in omega arith))

-- a number of 7 * k bits takes at most k bytes
pub leb_within : (n k : ℕ) → 1 ≤ k → n < 128 ^ k → length (leb128 n) ≤ k
unfolding leb128
leb_within n k p h = up_within 10 n k p h

power : (k : ℕ) → 1 ≤ 128 ^ k
power zero = omega arith
power (suc k) = omega (arith, power k)

up_beyond : (j n k : ℕ) → 128 ^ k ≤ n → n < 128 ^ j → suc k ≤ length (leb_up_to j n)
unfolding leb_up_to
up_beyond zero n k l h = absurd (omega (arith, power k))
up_beyond (suc j) n zero l h = below n 128 (λ s. rw (lt-ltb n 128 s) (omega arith)) (λ g. rw (le-ltb n 128 g) (omega arith))
up_beyond (suc j) n (suc k) l h =
    rw (le-ltb n 128 (omega (arith, power k))) (let g : suc k ≤ length (leb_up_to j (n / 128)) = up_beyond j (n / 128) k (omega arith) (omega arith) in omega arith)

-- and a larger one takes more
pub leb_beyond : (n k : ℕ) → 128 ^ k ≤ n → n < 2 ^ 64 → suc k ≤ length (leb128 n)
unfolding leb128
leb_beyond n k l h = up_beyond 10 n k l (omega arith)

-- every number takes a byte
pub leb_some : (n : ℕ) → 1 ≤ length (leb128 n)
unfolding leb128 leb_up_to
leb_some n = below n 128 (λ s. rw (lt-ltb n 128 s) (omega arith)) (λ g. rw (le-ltb n 128 g) (omega arith))
