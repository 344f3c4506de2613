-- "Prove that two results which both satisfy it are equal". A contract here is an equation for the result and one for each thing lent, or a record of
-- such equations: for each of those records, the result and the final contents that it leaves.
-- Assumes nothing.
use Rattle.std.specs.Prelude.{ℕ, ◌≡◌, ◌≤◌, List, [], ◌∷◌, get_or, Result, Ok, Err}
use Rattle.std.proofs.Common.{sym, ap, ◌∙◌, refl, arith}
use Rattle.rules.specs.declared.Refusal.{Refusal}
use Rattle.rules.specs.declared.Refusal.TheVariants.{BadSizes, Unsound, NoSite, SameSite, NoParcel, NothingToSend, LengthsOut, NoRoom, NoSlot, CountFull, NoStep, InputLong, ShortBuffer, ManyIds, NoOrder, NothingHeard, NoGroup}
use Rattle.rules.specs.meaning.Refusals.{number_of, number_in, value_in}
use Rattle.rules.specs.meaning.Operations.{Answer}
use Rattle.rules.specs.declared.Run.{Run}
use Rattle.rules.specs.declared.Step.{Step}
use Rattle.rules.specs.meaning.Reports.{Reported}
use Rattle.rules.specs.meaning.Groups.{Grouped}
use Rattle.rules.specs.meaning.States.{State}
use Rattle.rules.specs.meaning.Runs.{Stepped, Freshened}
use Rattle.rules.specs.meaning.Calls.{Called}
use Rattle.rules.specs.meaning.Acts.{Acted}
use Rattle.rules.specs.meaning.Bursts.{Handled}
use Rattle.rules.specs.meaning.Members.{Answered}
use Rattle.rules.specs.meaning.Writing.{Filled}
use Rattle.rules.specs.meaning.Reports.{Told, Printed}
use Rattle.rules.specs.meaning.Groups.{Written, Entered}
use Rattle.rules.specs.meaning.Events.{Event, Happened}

-- "two results which both satisfy it are equal", for every contract that names its result
pub one_result : {A : Type 0} {result r r' : A} → r ≡ result → r' ≡ result → r ≡ r'
one_result p q = p ∙ sym q

-- the same for every contract that names its result and "the final contents of everything lent to it"
pub one_outcome : {A B : Type 0} {result r r' : A} {left now now' : B} → (r ≡ result) × (now ≡ left) → (r' ≡ result) × (now' ≡ left) → (r ≡ r') × (now ≡ now')
one_outcome p q = (one_result p.0 q.0, one_result p.1 q.1)

-- the contract of `step` leaves one answer and one state: words, slots and ledger
pub stepped_determined : (run : Run) (before : State) (step : Step) {r r' : Answer} {left left' : State}
    → Stepped run before step r left → Stepped run before step r' left' → (r ≡ r') × (left ≡ left')
stepped_determined run before step p q = one_outcome (p.answer, p.state) (q.answer, q.state)

-- the contract of `fresh` leaves one refusal number and one state
pub freshened_determined : (run : Run) (first : ℕ) (before : State) {r r' : ℕ} {left left' : State}
    → Freshened run first before r left → Freshened run first before r' left' → (r ≡ r') × (left ≡ left')
freshened_determined run first before p q = one_outcome (p.refusal, p.state) (q.refusal, q.state)

-- the contract of a step by its four numbers leaves one refusal, one other result and one state
pub called_determined : (run : Run) (before : State) (kind first second id : ℕ) {r r' v v' : ℕ} {left left' : State}
    → Called run before kind first second id r v left → Called run before kind first second id r' v' left' → (r ≡ r') × (v ≡ v') × (left ≡ left')
called_determined run before kind first second id p q = (one_result p.refusal q.refusal, one_result p.other q.other, one_result p.state q.state)

-- the contract of the inner step leaves one answer and one state
pub acted_determined : (refused : ℕ) (run : Run) (before : State) (step : Step) {r r' : Answer} {left left' : State}
    → Acted refused run before step r left → Acted refused run before step r' left' → (r ≡ r') × (left ≡ left')
acted_determined refused run before step p q = one_outcome (p.answer, p.state) (q.answer, q.state)

-- the contract of a burst leaves one refusal, one state and one list of answers
pub handled_determined : (run : Run) (before : State) (asks given : List ℕ) {r r' : ℕ} {left left' : State} {said said' : List ℕ}
    → Handled run before asks given r left said → Handled run before asks given r' left' said' → (r ≡ r') × (left ≡ left') × (said ≡ said')
handled_determined run before asks given p q = (one_result p.refusal q.refusal, one_result p.state q.state, one_result p.answers q.answers)

-- the contract of bulk membership leaves one refusal and one buffer
pub answered_determined : (t ids before : List ℕ) {r r' : ℕ} {now now' : List ℕ} → Answered t ids before r now → Answered t ids before r' now' → (r ≡ r') × (now ≡ now')
answered_determined t ids before p q = one_outcome (p.refusal, p.bytes) (q.refusal, q.bytes)

-- the contract of the line writer leaves one count and one buffer
pub filled_determined : (kind first second id : ℕ) (before : List ℕ) {n n' : ℕ} {now now' : List ℕ}
    → Filled kind first second id before now n → Filled kind first second id before now' n' → (n ≡ n') × (now ≡ now')
filled_determined kind first second id before p q = one_outcome (p.count, p.bytes) (q.count, q.bytes)

-- the contract of `report` leaves one answer and one buffer
same_report : (r r' : Reported) → r.refusal ≡ r'.refusal → r.written ≡ r'.written → r ≡ r'
same_report r r' p q = ap (λ (k : ℕ). record { refusal = k; written = r.written }) p ∙ ap (λ (k : ℕ). record { refusal = r'.refusal; written = k }) q

pub told_determined : (input before : List ℕ) {r r' : Reported} {now now' : List ℕ} → Told input before r now → Told input before r' now' → (r ≡ r') × (now ≡ now')
told_determined input before {r} {r'} a b =
    (same_report r r' (one_result a.refusal b.refusal) (one_result a.written b.written), one_result a.bytes b.bytes)

-- and so does that of what the program prints
pub printed_determined : (input before : List ℕ) {n n' : ℕ} {now now' : List ℕ} → Printed input before n now → Printed input before n' now' → (n ≡ n') × (now ≡ now')
printed_determined input before p q = one_outcome (p.count, p.bytes) (q.count, q.bytes)

-- the contract of an operation that is no step leaves one answer and one state
pub happened_determined : (run : Run) (before : State) (event : Event) {r r' : Answer} {left left' : State}
    → Happened run before event r left → Happened run before event r' left' → (r ≡ r') × (left ≡ left')
happened_determined run before event p q = one_outcome (p.answer, p.state) (q.answer, q.state)

-- the contracts of the writer and the reader of groups leave one answer, and one buffer or one list of words
same_grouped : (r r' : Grouped) → r.refusal ≡ r'.refusal → r.count ≡ r'.count → r ≡ r'
same_grouped r r' p q = ap (λ (k : ℕ). record { refusal = k; count = r.count }) p ∙ ap (λ (k : ℕ). record { refusal = r'.refusal; count = k }) q

pub written_determined : (es before : List ℕ) {r r' : Grouped} {now now' : List ℕ} → Written es before r now → Written es before r' now' → (r ≡ r') × (now ≡ now')
written_determined es before {r} {r'} a b =
    (same_grouped r r' (one_result a.refusal b.refusal) (one_result a.count b.count), one_result a.bytes b.bytes)

pub entered_determined : (bs before : List ℕ) {r r' : Grouped} {now now' : List ℕ} → Entered bs before r now → Entered bs before r' now' → (r ≡ r') × (now ≡ now')
entered_determined bs before {r} {r'} a b =
    (same_grouped r r' (one_result a.refusal b.refusal) (one_result a.count b.count), one_result a.words b.words)

-- ---- a call's answer, a value or an error, is determined by what its contract says of it: its number and its value
-- the refusal of a number, to come back from it
named : ℕ → Refusal
named n = get_or (BadSizes ∷ BadSizes ∷ Unsound ∷ NoSite ∷ SameSite ∷ NoParcel ∷ NothingToSend ∷ LengthsOut ∷ NoRoom ∷ NoSlot ∷ CountFull ∷ NoStep ∷ InputLong ∷ ShortBuffer ∷ ManyIds ∷ NoOrder ∷ NothingHeard ∷ NoGroup ∷ []) n NoGroup

named_back : (r : Refusal) → named (number_of r) ≡ r
unfolding named
named_back BadSizes = refl
named_back Unsound = refl
named_back NoSite = refl
named_back SameSite = refl
named_back NoParcel = refl
named_back NothingToSend = refl
named_back LengthsOut = refl
named_back NoRoom = refl
named_back NoSlot = refl
named_back CountFull = refl
named_back NoStep = refl
named_back InputLong = refl
named_back ShortBuffer = refl
named_back ManyIds = refl
named_back NoOrder = refl
named_back NothingHeard = refl
named_back NoGroup = refl

-- no refusal has the number 0, which is none
pub numbered : (r : Refusal) → 1 ≤ number_of r
numbered BadSizes = omega arith
numbered Unsound = omega arith
numbered NoSite = omega arith
numbered SameSite = omega arith
numbered NoParcel = omega arith
numbered NothingToSend = omega arith
numbered LengthsOut = omega arith
numbered NoRoom = omega arith
numbered NoSlot = omega arith
numbered CountFull = omega arith
numbered NoStep = omega arith
numbered InputLong = omega arith
numbered ShortBuffer = omega arith
numbered ManyIds = omega arith
numbered NoOrder = omega arith
numbered NothingHeard = omega arith
numbered NoGroup = omega arith

pub numbers_apart : (r s : Refusal) → number_of r ≡ number_of s → r ≡ s
numbers_apart r s e = sym (named_back r) ∙ ap named e ∙ named_back s

pub answer_determined : {A : Type 0} (none : A) (r r' : Result A Refusal) → number_in r ≡ number_in r' → value_in none r ≡ value_in none r' → r ≡ r'
answer_determined none (Ok x) (Ok y) p q = ap Ok q
answer_determined none (Ok x) (Err s) p q = absurd (let k = numbered s in omega arith)
answer_determined none (Err r) (Ok y) p q = absurd (let k = numbered r in omega arith)
answer_determined none (Err r) (Err s) p q = ap Err (numbers_apart r s p)
