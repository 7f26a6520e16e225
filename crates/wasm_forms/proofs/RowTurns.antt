-- One more operator of an expression, and one more entry that is written.
use Rattle.std.proofs.Common.{◌≡◌, ℕ, zero, suc, ◌+◌, ◌<◌, ◌≤◌, length, get_or, take, map, Bool, true, false, List, [], ◌∷◌, ◌++◌, refl, sym, ap, ◌∙◌, append_assoc, append-nil, arith, Vec, vec_capacity}
use Rattle.std.specs.Prelude.{Option, Some, None, Err, nat_eq, if◌then◌else◌}
use Rattle.wasm_forms.specs.declared.error.WireError.{WireError}
use Rattle.wasm_forms.specs.Reading.{◌>>=◌, byte_at}
use Rattle.wasm_forms.specs.Grammar.{until_at, behind}
use Rattle.wasm_forms.specs.Spelling.{row_bytes}
use Rattle.wasm_forms.specs.Writing.{TakesRoom}
use Rattle.wasm_forms.proofs.Items.{row_push}
use Rattle.wasm_forms.proofs.Room.{room_as, row_refused}

abbrev Choice : Type 0 → Type 0
Choice A = ℕ → List ℕ → Option (A × List ℕ)

-- what stands behind an operator
abbrev then_until : {A : Type 0} → Choice A → ℕ → ℕ → A × List ℕ → Option (List A × List ℕ)
then_until p stop most x = until_at p stop most x.1 >>= λ xs. Some (x.0 ∷ xs.0, xs.1)

abbrev led_until : {A : Type 0} → Choice A → ℕ → ℕ → ℕ × List ℕ → Option (List A × List ℕ)
led_until p stop most b = if nat_eq b.0 stop then Some ([], b.1) else (p b.0 b.1 >>= then_until p stop most)

until_more : {A : Type 0} (p : Choice A) (stop most : ℕ) (bytes : List ℕ) → until_at p stop (suc most) bytes ≡ (byte_at bytes >>= led_until p stop most)
unfolding until_at
until_more p stop most bytes = refl

pub behind_more : {A : Type 0} (done : List A) (x : A) (o : Option (List A × List ℕ)) → ((o >>= λ xs. Some (x ∷ xs.0, xs.1)) >>= behind done) ≡ (o >>= behind (done ++ x ∷ []))
behind_more done x None = refl
behind_more done x (Some xs) = ap (λ l. Some (l, xs.1)) (sym (append_assoc done (x ∷ []) xs.0))

until_led : {A : Type 0} (p : Choice A) (stop most : ℕ) (bytes : List ℕ) (done : List A) (o : Option (ℕ × List ℕ)) → byte_at bytes ≡ o → (until_at p stop (suc most) bytes >>= behind done) ≡ ((o >>= led_until p stop most) >>= behind done)
until_led p stop most bytes done o e = ap (λ o. o >>= behind done) (until_more p stop most bytes ∙ ap (λ o. o >>= led_until p stop most) e)

pub until_none : {A : Type 0} (p : Choice A) (stop most : ℕ) (bytes : List ℕ) (done : List A) → byte_at bytes ≡ None → (until_at p stop (suc most) bytes >>= behind done) ≡ None
until_none p stop most bytes done e = until_led p stop most bytes done None e

until_else : {A : Type 0} (p : Choice A) (stop most b : ℕ) (bytes after : List ℕ) (done : List A) (t : Bool) → byte_at bytes ≡ Some (b, after) → nat_eq b stop ≡ t
    → (until_at p stop (suc most) bytes >>= behind done) ≡ ((if t then Some ([], after) else (p b after >>= then_until p stop most)) >>= behind done)
until_else p stop most b bytes after done t e h = until_led p stop most bytes done (Some (b, after)) e ∙ ap (λ t. (if t then Some ([], after) else (p b after >>= then_until p stop most)) >>= behind done) h

pub until_stop : {A : Type 0} (p : Choice A) (stop most b : ℕ) (bytes after : List ℕ) (done : List A) → byte_at bytes ≡ Some (b, after) → nat_eq b stop ≡ true → (until_at p stop (suc most) bytes >>= behind done) ≡ Some (done, after)
until_stop p stop most b bytes after done e h = until_else p stop most b bytes after done true e h ∙ ap (λ l. Some (l, after)) (append-nil done)

pub until_stuck : {A : Type 0} (p : Choice A) (stop most b : ℕ) (bytes after : List ℕ) (done : List A) → byte_at bytes ≡ Some (b, after) → nat_eq b stop ≡ false → p b after ≡ None → (until_at p stop (suc most) bytes >>= behind done) ≡ None
until_stuck p stop most b bytes after done e h n = until_else p stop most b bytes after done false e h ∙ ap (λ o. (o >>= then_until p stop most) >>= behind done) n

pub until_turn : {A : Type 0} (p : Choice A) (stop most b : ℕ) (bytes after rest : List ℕ) (done : List A) (x : A) → byte_at bytes ≡ Some (b, after) → nat_eq b stop ≡ false → p b after ≡ Some (x, rest)
    → (until_at p stop (suc most) bytes >>= behind done) ≡ (until_at p stop most rest >>= behind (done ++ x ∷ []))
until_turn p stop most b bytes after rest done x e h s =
    until_else p stop most b bytes after done false e h ∙ ap (λ o. (o >>= then_until p stop most) >>= behind done) s ∙ behind_more done x (until_at p stop most rest)

-- one operator and the byte that stops
pub until_single : {A : Type 0} (p : Choice A) (stop most b e : ℕ) (bytes after behind rest : List ℕ) (x : A) → byte_at bytes ≡ Some (b, after) → nat_eq b stop ≡ false → p b after ≡ Some (x, behind) → byte_at behind ≡ Some (e, rest) → nat_eq e stop ≡ true
    → until_at p stop (suc (suc most)) bytes ≡ Some (x ∷ [], rest)
until_single p stop most b e bytes after behind rest x first other operator second ends =
    until_more p stop (suc most) bytes ∙ ap (λ o. o >>= led_until p stop (suc most)) first
    ∙ ap (λ t. if t then Some ([], after) else (p b after >>= then_until p stop (suc most))) other
    ∙ ap (λ o. o >>= then_until p stop (suc most)) operator
    ∙ ap (λ o. o >>= λ xs. Some (x ∷ xs.0, xs.1))
    (until_more p stop most behind ∙ ap (λ o. o >>= led_until p stop most) second ∙ ap (λ t. if t then Some ([], rest) else (p e rest >>= then_until p stop most)) ends)

pub until_out : {A : Type 0} (p : Choice A) (stop : ℕ) (bytes : List ℕ) (done : List A) → (until_at p stop zero bytes >>= behind done) ≡ None
unfolding until_at
until_out p stop bytes done = refl

-- one more that is written
pub row_map : {X Y : Type 0} (spell : Y → List ℕ) (view : X → Y) (xs : List X) → row_bytes spell (map view xs) ≡ row_bytes (λ x. spell (view x)) xs
row_map spell view [] = refl
row_map spell view (x ∷ xs) = ap (λ l. spell (view x) ++ l) (row_map spell view xs)

pub written_more : {X : Type 0} (spell : X → List ℕ) (xs : List X) (i : ℕ) (x : X) (front now new : List ℕ) → i < length xs → x ≡ get_or xs i x → now ≡ front ++ row_bytes spell (take i xs) → new ≡ now ++ spell x → new ≡ front ++ row_bytes spell (take (i + 1) xs)
written_more spell xs i x front now new l e h k = k ∙ ap (λ y. y ++ spell x) h ∙ append_assoc front (row_bytes spell (take i xs)) (spell x) ∙ ap (λ y. front ++ y) (row_push spell xs i x l e)

pub written_seen : {X Y : Type 0} (spell : Y → List ℕ) (view : X → Y) (xs : List X) (i : ℕ) (x : X) (front now new : List ℕ) → i < length xs → x ≡ get_or xs i x → now ≡ front ++ row_bytes spell (map view (take i xs)) → new ≡ now ++ spell (view x)
    → new ≡ front ++ row_bytes spell (map view (take (i + 1) xs))
written_seen spell view xs i x front now new l e h k =
    written_more (λ x. spell (view x)) xs i x front now new l e (h ∙ ap (λ y. front ++ y) (row_map spell view (take i xs))) k ∙ ap (λ y. front ++ y) (sym (row_map spell view (take (i + 1) xs)))

pub default_any : {X : Type 0} (xs : List X) (i : ℕ) (d e : X) → i < length xs → get_or xs i d ≡ get_or xs i e
default_any [] i d e l = absurd (omega arith)
default_any (x ∷ xs) zero d e l = refl
default_any (x ∷ xs) (suc i) d e l = default_any xs i d e (omega arith)

pub written_at : {X : Type 0} (spell : X → List ℕ) (xs : List X) (i : ℕ) (d : X) (front now new : List ℕ) → i < length xs → now ≡ front ++ row_bytes spell (take i xs) → new ≡ now ++ spell (get_or xs i d) → new ≡ front ++ row_bytes spell (take (i + 1) xs)
written_at spell xs i d front now new l h k = written_more spell xs i (get_or xs i d) front now new l (default_any xs i d (get_or xs i d) l) h k

-- one more that is refused
pub refused_at : {X A : Type 0} (spell : X → List ℕ) (xs : List X) (i : ℕ) (d : X) (e : WireError) (old between new : Vec ℕ A) → i < length xs → between.items ≡ old.items ++ row_bytes spell (take i xs) → vec_capacity old ≤ vec_capacity between
    → TakesRoom {X = Unit {0}} (Err e) between new (spell (get_or xs i d)) → TakesRoom {X = Unit {0}} (Err e) old new (row_bytes spell xs)
refused_at spell xs i d e old between new l h c w = row_refused spell xs i (get_or xs i d) e old between new l (default_any xs i d (get_or xs i d) l) h c w

pub refused_seen : {X Y A : Type 0} (spell : Y → List ℕ) (view : X → Y) (xs : List X) (i : ℕ) (x : X) (e : WireError) (old between new : Vec ℕ A) → i < length xs → x ≡ get_or xs i x → between.items ≡ old.items ++ row_bytes spell (map view (take i xs))
    → vec_capacity old ≤ vec_capacity between → TakesRoom {X = Unit {0}} (Err e) between new (spell (view x)) → TakesRoom {X = Unit {0}} (Err e) old new (row_bytes spell (map view xs))
refused_seen spell view xs i x e old between new l k h c w =
    room_as {X = Unit {0}} (Err e) old new (row_bytes (λ x. spell (view x)) xs) (row_bytes spell (map view xs)) (sym (row_map spell view xs))
    (row_refused (λ x. spell (view x)) xs i x e old between new l k (h ∙ ap (λ y. old.items ++ y) (row_map spell view (take i xs))) c w)
