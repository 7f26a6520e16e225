-- The steps of readers and writers, each answered at once.
use Rattle.std.proofs.Common.{◌≡◌, ℕ, map, nat_eq, eqb-true, ◌+◌, ◌<◌, ◌≤◌, Bool, true, false, List, [], ◌∷◌, ◌++◌, length, take, refl, sym, ap, subst, ◌∙◌, arith, append_assoc, append-nil, length-append, Vec, vec_capacity, vec_len}
use Rattle.std.specs.Prelude.{Option, Some, None, Result, Ok, Err, alloc_error}
use Rattle.std.specs.Result.{IsErrAnd}
use Rattle.wasm_forms.specs.declared.error.WireError.{WireError}
use Rattle.wasm_forms.specs.declared.error.WireError.TheVariants.{Malformed, Memory, TooLarge}
use Rattle.wasm_forms.specs.Reading.{Gives, Refuses, ◌>>=◌}
use Rattle.wasm_forms.specs.Grammar.{Form, Led, Made, ◌then◌, Vector, U32, U64, at, choose}
use Rattle.wasm_forms.specs.Writing.{Adds, Keeps, TakesRoom}
use Rattle.std.proofs.lemmas.List.{map-id}
use Rattle.wasm_forms.specs.declared.types.RawVal.{RawVal}
use Rattle.wasm_forms.specs.Types.{value_from, value_type}
use Rattle.wasm_forms.proofs.Refused.{refused}
use Rattle.wasm_entries.specs.declared.record.RawStorage.TheVariants as storages
use Rattle.wasm_entries.specs.Record.{Expression, ActiveElements}
use Rattle.wasm_entries.specs.TypeForms.{storage_from, signature, size_form}
use Rattle.wasm_entries.specs.Forms.{expression_form, in_first}
use Rattle.std.proofs.lemmas.Bool.{false_from_ne_true as false_unless}
use Rattle.wasm_forms.proofs.Floats.{take_whole as keeps_self}

-- ---- readers

-- the exit of a `?`: the whole has nothing where the part has nothing
pub passes : {X A B : Type 0} (r : Result X WireError) (view : X → B) (e : WireError) (part : Option A) (whole : Option B) → IsErrAnd r (λ y. y ≡ e) → Refuses e part → (part ≡ None → whole ≡ None) → Gives view r whole
passes (Ok v) view e part whole x h none = absurd x
passes (Err y) view e part whole x h none = subst (λ (d : WireError). Refuses d whole) (sym x) (refused e part whole h none)

pub made_gives : {A B : Type 0} (make : A → B) (f : Form A) (bytes rest : List ℕ) (a : A) → at f bytes ≡ Some (a, rest) → at (Made make f) bytes ≡ Some (make a, rest)
made_gives make f bytes rest a e = ap (λ o. o >>= λ x. Some (make x.0, x.1)) e

pub made_none : {A B : Type 0} (make : A → B) (f : Form A) (bytes : List ℕ) → at f bytes ≡ None → at (Made make f) bytes ≡ None
made_none make f bytes e = ap (λ o. o >>= λ x. Some (make x.0, x.1)) e

pub then_gives : {A B : Type 0} (f : Form A) (g : Form B) (bytes mid rest : List ℕ) (a : A) (b : B) → at f bytes ≡ Some (a, mid) → at g mid ≡ Some (b, rest) → at (f then g) bytes ≡ Some ((a, b), rest)
then_gives f g bytes mid rest a b e h = ap (λ o. o >>= λ x. at g x.1 >>= λ y. Some ((x.0, y.0), y.1)) e ∙ ap (λ o. o >>= λ y. Some ((a, y.0), y.1)) h

pub then_first : {A B : Type 0} (f : Form A) (g : Form B) (bytes : List ℕ) → at f bytes ≡ None → at (f then g) bytes ≡ None
then_first f g bytes e = ap (λ o. o >>= λ x. at g x.1 >>= λ y. Some ((x.0, y.0), y.1)) e

pub then_second : {A B : Type 0} (f : Form A) (g : Form B) (bytes mid : List ℕ) (a : A) → at f bytes ≡ Some (a, mid) → at g mid ≡ None → at (f then g) bytes ≡ None
then_second f g bytes mid a e h = ap (λ o. o >>= λ x. at g x.1 >>= λ y. Some ((x.0, y.0), y.1)) e ∙ ap (λ o. o >>= λ y. Some ((a, y.0), y.1)) h

pub led_gives : {A B : Type 0} (f : Form A) (g : A → Form B) (bytes mid : List ℕ) (a : A) → at f bytes ≡ Some (a, mid) → at (Led f g) bytes ≡ at (g a) mid
led_gives f g bytes mid a e = ap (λ o. o >>= λ x. at (g x.0) x.1) e

pub led_none : {A B : Type 0} (f : Form A) (g : A → Form B) (bytes : List ℕ) → at f bytes ≡ None → at (Led f g) bytes ≡ None
led_none f g bytes e = ap (λ o. o >>= λ x. at (g x.0) x.1) e

pub choose_yes : {A : Type 0} (t : Bool) (f g : Form A) (bytes : List ℕ) → t ≡ true → at (choose t f g) bytes ≡ at f bytes
choose_yes t f g bytes e = ap (λ u. at (choose u f g) bytes) e

pub choose_no : {A : Type 0} (t : Bool) (f g : Form A) (bytes : List ℕ) → t ≡ false → at (choose t f g) bytes ≡ at g bytes
choose_no t f g bytes e = ap (λ u. at (choose u f g) bytes) e

-- which field, function type, size and segment stand there
storage_value : (b : ℕ) (bytes : List ℕ) → (b ≡ 120 → ⊥) → (b ≡ 119 → ⊥) → at (storage_from b) bytes ≡ at (Made storages.Val (value_from b)) bytes
unfolding storage_from
storage_value b bytes p q =
    let p' : nat_eq b 120 ≡ false = false_unless (nat_eq b 120) (λ t. p (eqb-true b 120 t)) in
    let q' : nat_eq b 119 ≡ false = false_unless (nat_eq b 119) (λ t. q (eqb-true b 119 t)) in
    choose_no (nat_eq b 120) _ _ bytes p' ∙ choose_no (nat_eq b 119) _ _ bytes q'

pub storage_gives : (b : ℕ) (bytes rest : List ℕ) (v : RawVal) → (b ≡ 120 → ⊥) → (b ≡ 119 → ⊥) → at (value_from b) bytes ≡ Some (v, rest) → at (storage_from b) bytes ≡ Some (storages.Val v, rest)
storage_gives b bytes rest v p q e = storage_value b bytes p q ∙ made_gives storages.Val (value_from b) bytes rest v e

pub storage_none : (b : ℕ) (bytes : List ℕ) → (b ≡ 120 → ⊥) → (b ≡ 119 → ⊥) → at (value_from b) bytes ≡ None → at (storage_from b) bytes ≡ None
storage_none b bytes p q e = storage_value b bytes p q ∙ made_none storages.Val (value_from b) bytes e

seen_alike : (bytes mid : List ℕ) (p : List RawVal) → at (Vector value_type) bytes ≡ Some (map (λ v. v) p, mid) → at (Vector value_type) bytes ≡ Some (p, mid)
seen_alike bytes mid p e = e ∙ ap (λ l. Some (l, mid)) (map-id p)

pub signature_gives : (bytes mid rest : List ℕ) (p q : List RawVal) → at (Vector value_type) bytes ≡ Some (map (λ v. v) p, mid) → at (Vector value_type) mid ≡ Some (map (λ v. v) q, rest) → at signature bytes ≡ Some (record { params = p; results = q }, rest)
unfolding signature
signature_gives bytes mid rest p q e h =
    made_gives (λ (x : List RawVal × List RawVal). record { params = x.0; results = x.1 }) (Vector value_type then Vector value_type) bytes rest (p, q)
    (then_gives (Vector value_type) (Vector value_type) bytes mid rest p q (seen_alike bytes mid p e) (seen_alike mid rest q h))

pub signature_first : (bytes : List ℕ) → at (Vector value_type) bytes ≡ None → at signature bytes ≡ None
unfolding signature
signature_first bytes e = made_none _ (Vector value_type then Vector value_type) bytes (then_first (Vector value_type) (Vector value_type) bytes e)

pub signature_second : (bytes mid : List ℕ) (p : List RawVal) → at (Vector value_type) bytes ≡ Some (map (λ v. v) p, mid) → at (Vector value_type) mid ≡ None → at signature bytes ≡ None
unfolding signature
signature_second bytes mid p e h = made_none _ (Vector value_type then Vector value_type) bytes (then_second (Vector value_type) (Vector value_type) bytes mid p (seen_alike bytes mid p e) h)

pub size_wide : (wide : Bool) (bytes : List ℕ) → wide ≡ true → at (size_form wide) bytes ≡ at U64 bytes
unfolding size_form
size_wide wide bytes e = choose_yes wide U64 U32 bytes e

pub size_narrow : (wide : Bool) (bytes : List ℕ) → wide ≡ false → at (size_form wide) bytes ≡ at U32 bytes
unfolding size_form
size_narrow wide bytes e = choose_no wide U64 U32 bytes e

pub first_gives : (bytes rest : List ℕ) (e : Expression) → at expression_form bytes ≡ Some (e, rest) → at in_first bytes ≡ Some (ActiveElements None e, rest)
unfolding in_first
first_gives bytes rest e h = made_gives (ActiveElements None) expression_form bytes rest e h

pub first_none : (bytes : List ℕ) → at expression_form bytes ≡ None → at in_first bytes ≡ None
unfolding in_first
first_none bytes h = made_none (ActiveElements None) expression_form bytes h

-- ---- writers

-- behind what was appended before
pub put_behind : (old between new front back : List ℕ) → between ≡ old ++ front → new ≡ between ++ back → new ≡ old ++ (front ++ back)
put_behind old between new front back e h = h ∙ ap (λ l. l ++ back) e ∙ append_assoc old front back

-- what was there stays in front
keeps_front : (old front : List ℕ) → take (length old) (old ++ front) ≡ old
keeps_front [] front = refl
keeps_front (x ∷ xs) front = ap (λ l. x ∷ l) (keeps_front xs front)

pub keeps_same : (old new : List ℕ) → new ≡ old → Keeps old new
keeps_same old new e = subst (λ l. Keeps old l) (sym e) (keeps_self old)

pub keeps_put : (old new front : List ℕ) → new ≡ old ++ front → Keeps old new
keeps_put old new front e = subst (λ l. Keeps old l) (sym e) (keeps_front old front)

-- a refusal that is passed on
pub adds_exit : {X : Type 0} (Y : Type 0) (r : Result X WireError) (e : WireError) (old new spelled old' new' spelled' : List ℕ) (fits fits' : Type 0) → IsErrAnd r (λ y. y ≡ e) → (fits' → fits) → Adds {X = Y} (Err e) old new spelled fits → Adds r old' new' spelled' fits'
adds_exit Y (Ok v) e old new spelled old' new' spelled' fits fits' x g w = absurd x
adds_exit Y (Err y) Malformed old new spelled old' new' spelled' fits fits' x g w = absurd w
adds_exit {X = X} Y (Err y) (Memory m) old new spelled old' new' spelled' fits fits' x g w = subst (λ (d : WireError). Adds {X = X} (Err d) old' new' spelled' fits') (sym x) tt
adds_exit {X = X} Y (Err y) TooLarge old new spelled old' new' spelled' fits fits' x g w = subst (λ (d : WireError). Adds {X = X} (Err d) old' new' spelled' fits') (sym x) (λ k. w (g k))

-- memory ran out
pub adds_spent : {X : Type 0} (r : Result X WireError) (old new spelled : List ℕ) (fits : Type 0) → IsErrAnd r (λ y. y ≡ Memory alloc_error) → Adds r old new spelled fits
adds_spent (Ok v) old new spelled fits x = absurd x
adds_spent {X = X} (Err y) old new spelled fits x = subst (λ (d : WireError). Adds {X = X} (Err d) old new spelled fits) (sym x) tt

pub room_spent : {X A : Type 0} (r : Result X WireError) (old between new : Vec ℕ A) (front spelled : List ℕ) (more : ℕ) → IsErrAnd r (λ y. y ≡ Memory alloc_error) → between.items ≡ old.items ++ front → vec_capacity old ≤ vec_capacity between
    → vec_capacity between < vec_len between + more → length front + more ≤ length spelled → TakesRoom r old new spelled
room_spent (Ok v) old between new front spelled more x k c h s = absurd x
room_spent {X = X} (Err y) old between new front spelled more x k c h s =
    let few : vec_capacity old < vec_len old + length spelled = omega (arith, old.ok.0, between.ok.0, ap length k, length-append old.items front) in
    subst (λ (d : WireError). TakesRoom {X = X} (Err d) old new spelled) (sym x) few

-- a byte, and then what can be refused for lack of memory alone
pub byte_room : {X A : Type 0} (r : Result X WireError) (old new : Vec ℕ A) (byte : ℕ) (back : List ℕ) → IsErrAnd r (λ y. y ≡ Memory alloc_error) → vec_capacity old ≤ vec_len old → TakesRoom r old new (byte ∷ back)
byte_room r old new byte back x h = room_spent r old old new [] (byte ∷ back) 1 x (sym (append-nil old.items)) (omega arith) (omega arith) (omega arith)
