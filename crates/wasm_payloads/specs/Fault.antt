-- Reading up to the first fault. What stands whole before it is told, what stands behind it isn't read, and no fault refuses.
use Rattle.std.specs.Prelude.{◌≡◌, ℕ, zero, suc, List, [], ◌∷◌, ◌++◌, Option, Some, None, ◌⊎◌}
use Rattle.wasm_forms.specs.Grammar.{Form, Is, U32}

-- no front of the bytes is a text of the form
abbrev pub Lacks : {A : Type 0} → Form A → List ℕ → Type 0
Lacks {A} f bytes = (front rest : List ℕ) (a : A) → bytes ≡ front ++ rest → Is f front a → ⊥

-- what bytes tell: these values, in order, and behind them either this rest is left (Some), or there is a fault (None)
abbrev pub Telling : Type 0 → Type 1
Telling A = List ℕ → List A → Option (List ℕ) → Type 0

-- these values, and no byte is used
abbrev pub Tells : {A : Type 0} → List A → Telling A
Tells xs bytes told end = (told ≡ xs) × (end ≡ Some bytes)

-- nothing, and all bytes are passed over
abbrev pub PassesOver : {A : Type 0} → Telling A
PassesOver bytes told end = (told ≡ []) × (end ≡ Some [])

-- a text of the form, and behind it what its value leads to. Where no front is a text of the form, that is a fault, and nothing is told
abbrev pub Behind : {A B : Type 0} → Form A → (A → Telling B) → Telling B
Behind {A} f T bytes told end =
    ((a : A) × ((front : List ℕ) × ((rest : List ℕ) × ((bytes ≡ front ++ rest) × Is f front a × T a rest told end))))
    ⊎ (Lacks f bytes × (told ≡ []) × (end ≡ None))

-- so many, one behind the other; or, up to the first fault, fewer, and what the one with the fault tells before it
abbrev pub Times : {A : Type 0} → Telling A → ℕ → Telling A
Times T zero bytes told end = Tells [] bytes told end
Times {A} T (suc n) bytes told end =
    ((first : List A) × ((later : List A) × ((rest : List ℕ) × ((told ≡ first ++ later) × T bytes first (Some rest) × Times T n rest later end))))
    ⊎ (T bytes told None × (end ≡ None))

-- a count, and that many
abbrev pub Counted : {A : Type 0} → Telling A → Telling A
Counted T = Behind U32 (λ n. Times T n)

-- as many as there are, up to the end of the bytes or the first fault
abbrev pub Through : {A : Type 0} → Telling A → List ℕ → List A → Type 0
Through T bytes told = (n : ℕ) × (Times T n bytes told (Some []) ⊎ Times T n bytes told None)

-- what is left behind a content, of which this is left itself: these bytes; but a byte left in the content is a fault
abbrev pub closed : Option (List ℕ) → List ℕ → Option (List ℕ)
closed None bytes = None
closed (Some []) bytes = Some bytes
closed (Some (b ∷ left)) bytes = None

-- what the content tells, and the bytes behind it
abbrev pub Inside : {A : Type 0} → Telling A → List ℕ → Telling A
Inside T content bytes told end = (left : Option (List ℕ)) × (T content told left × (end ≡ closed left bytes))

-- these values, where no byte is left; a byte that is left is a fault, and nothing is told
abbrev pub Alone : {A : Type 0} → List A → Telling A
Alone xs [] told end = (told ≡ xs) × (end ≡ Some [])
Alone xs (b ∷ bytes) told end = (told ≡ []) × (end ≡ None)
