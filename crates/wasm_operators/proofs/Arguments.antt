-- Arguments that are read one behind another.
use Rattle.std.proofs.Common.{◌≡◌, ℕ, ◌+◌, ◌<◌, ◌≤◌, true, false, suc, List, [], ◌∷◌, ◌++◌, length, get_or, drop, drop-cons, refl, sym, ap, ap₂, ◌∙◌, append_assoc, append-nil, arith}
use Rattle.std.specs.Prelude.{Option, Some, None, if◌then◌else◌}
use Rattle.std.proofs.lemmas.List.{drop_all}
use Rattle.wasm_forms.specs.Reading.{◌>>=◌}
use Rattle.wasm_forms.specs.Grammar.{Form, Gives, ◌then◌, at, behind}
use Rattle.wasm_forms.proofs.Bind.{some_same}
use Rattle.wasm_operators.specs.declared.kind.Kind.{Kind}
use Rattle.wasm_operators.specs.declared.kind.Kind.TheVariants.{Nothing}
use Rattle.wasm_operators.specs.declared.operator.RawArg.{RawArg}
use Rattle.wasm_operators.specs.Operators.{Op}
use Rattle.wasm_operators.specs.Table.{is_argument, listed, kinds_of}
use Rattle.wasm_operators.specs.Forms.{arg_form, args_form, with_args, operator_of, behind as behind_op}
use Rattle.wasm_operators.specs.Pushing.{push_at}

abbrev Args : Type 0
Args = List RawArg × List ℕ

-- what stands behind the first argument
abbrev then_args : Form (List RawArg) → Args → Option ((List RawArg × List RawArg) × List ℕ)
then_args f x = at f x.1 >>= λ y. Some ((x.0, y.0), y.1)

abbrev joined : (List RawArg × List RawArg) × List ℕ → Option Args
joined x = Some (x.0.0 ++ x.0.1, x.1)

more : (kind : Kind) (kinds : List Kind) (done : List RawArg) (bytes : List ℕ) (o : Option Args) → at (arg_form kind) bytes ≡ o
    → push_at done (args_form (kind ∷ kinds)) bytes ≡ (((o >>= then_args (args_form kinds)) >>= joined) >>= behind done)
unfolding args_form
more kind kinds done bytes o e = ap (λ o. ((o >>= then_args (args_form kinds)) >>= joined) >>= behind done) e

joined_more : (done xs : List RawArg) (o : Option Args) → (((o >>= λ y. Some ((xs, y.0), y.1)) >>= joined) >>= behind done) ≡ (o >>= behind (done ++ xs))
joined_more done xs None = refl
joined_more done xs (Some y) = ap (λ l. Some (l, y.1)) (sym (append_assoc done xs y.0))

turn_at : (kind : Kind) (kinds : List Kind) (done done' : List RawArg) (bytes rest : List ℕ) (o : Option Args) → at (arg_form kind) bytes ≡ o → (o >>= behind done) ≡ Some (done', rest)
    → push_at done (args_form (kind ∷ kinds)) bytes ≡ push_at done' (args_form kinds) rest
turn_at kind kinds done done' bytes rest None e h = cc
turn_at kind kinds done done' bytes rest (Some x) e h =
    let p = some_same (done ++ x.0, x.1) (done', rest) h in
    let d : done ++ x.0 ≡ done' = ap (λ (y : Args). y.0) p in
    let r : x.1 ≡ rest = ap (λ (y : Args). y.1) p in
    more kind kinds done bytes (Some x) e ∙ joined_more done x.0 (at (args_form kinds) x.1) ∙ ap₂ (λ l b. push_at l (args_form kinds) b) d r

stuck_at : (kind : Kind) (kinds : List Kind) (done : List RawArg) (bytes : List ℕ) (o : Option Args) → at (arg_form kind) bytes ≡ o → (o >>= behind done) ≡ None → push_at done (args_form (kind ∷ kinds)) bytes ≡ None
stuck_at kind kinds done bytes None e h = more kind kinds done bytes None e
stuck_at kind kinds done bytes (Some x) e h = cc

full : (done : List RawArg) (bytes : List ℕ) → push_at done (args_form []) bytes ≡ Some (done, bytes)
unfolding args_form
full done bytes = ap (λ l. Some (l, bytes)) (append-nil done)

-- ---- kinds, up to the first Nothing

drop_next : (kinds : List Kind) (i : ℕ) → i < length kinds → drop i kinds ≡ get_or kinds i Nothing ∷ drop (i + 1) kinds
drop_next kinds i l =
    let n : suc i ≡ i + 1 = omega arith in
    drop-cons kinds i Nothing l ∙ ap (λ k. get_or kinds i Nothing ∷ drop k kinds) n

listed_more : (kind : Kind) (kinds : List Kind) → is_argument kind ≡ true → listed (kind ∷ kinds) ≡ kind ∷ listed kinds
listed_more kind kinds h = ap (λ t. if t then kind ∷ listed kinds else []) h

listed_end : (kind : Kind) (kinds : List Kind) → is_argument kind ≡ false → listed (kind ∷ kinds) ≡ []
listed_end kind kinds h = ap (λ t. if t then kind ∷ listed kinds else []) h

pub kinds_next : (kinds : List Kind) (i : ℕ) → i < length kinds → is_argument (get_or kinds i Nothing) ≡ true → listed (drop i kinds) ≡ get_or kinds i Nothing ∷ listed (drop (i + 1) kinds)
kinds_next kinds i l h = ap listed (drop_next kinds i l) ∙ listed_more (get_or kinds i Nothing) (drop (i + 1) kinds) h

pub kinds_stop : (kinds : List Kind) (i : ℕ) → i < length kinds → is_argument (get_or kinds i Nothing) ≡ false → listed (drop i kinds) ≡ []
kinds_stop kinds i l h = ap listed (drop_next kinds i l) ∙ listed_end (get_or kinds i Nothing) (drop (i + 1) kinds) h

pub kinds_over : (kinds : List Kind) (i : ℕ) → length kinds ≤ i → listed (drop i kinds) ≡ []
kinds_over kinds i l = ap listed (drop_all i kinds l)

-- one more kind
pub kinds_turn : (kinds : List Kind) (i : ℕ) (done done' : List RawArg) (bytes rest : List ℕ) → i < length kinds → is_argument (get_or kinds i Nothing) ≡ true → push_at done (arg_form (get_or kinds i Nothing)) bytes ≡ Some (done', rest)
    → push_at done (args_form (listed (drop i kinds))) bytes ≡ push_at done' (args_form (listed (drop (i + 1) kinds))) rest
kinds_turn kinds i done done' bytes rest l h p =
    let kind = get_or kinds i Nothing in
    ap (λ ks. push_at done (args_form ks) bytes) (kinds_next kinds i l h)
    ∙ turn_at kind (listed (drop (i + 1) kinds)) done done' bytes rest (at (arg_form kind) bytes) refl p

pub kinds_stuck : (kinds : List Kind) (i : ℕ) (done : List RawArg) (bytes : List ℕ) → i < length kinds → is_argument (get_or kinds i Nothing) ≡ true → push_at done (arg_form (get_or kinds i Nothing)) bytes ≡ None
    → push_at done (args_form (listed (drop i kinds))) bytes ≡ None
kinds_stuck kinds i done bytes l h p =
    let kind = get_or kinds i Nothing in
    ap (λ ks. push_at done (args_form ks) bytes) (kinds_next kinds i l h)
    ∙ stuck_at kind (listed (drop (i + 1) kinds)) done bytes (at (arg_form kind) bytes) refl p

pub kinds_end : (kinds : List Kind) (i : ℕ) (done : List RawArg) (bytes : List ℕ) → i < length kinds → is_argument (get_or kinds i Nothing) ≡ false → push_at done (args_form (listed (drop i kinds))) bytes ≡ Some (done, bytes)
kinds_end kinds i done bytes l h = ap (λ ks. push_at done (args_form ks) bytes) (kinds_stop kinds i l h) ∙ full done bytes

pub kinds_full : (kinds : List Kind) (i : ℕ) (done : List RawArg) (bytes : List ℕ) → length kinds ≤ i → push_at done (args_form (listed (drop i kinds))) bytes ≡ Some (done, bytes)
kinds_full kinds i done bytes l = ap (λ ks. push_at done (args_form ks) bytes) (kinds_over kinds i l) ∙ full done bytes

start_at : (o : Option Args) → o ≡ (o >>= behind [])
start_at None = refl
start_at (Some x) = refl

pub kinds_start : (kinds : List Kind) (bytes : List ℕ) → at (args_form kinds) bytes ≡ push_at [] (args_form kinds) bytes
kinds_start kinds bytes = start_at (at (args_form kinds) bytes)

-- no kind, and one
pub none_listed : (kinds : List Kind) → is_argument (get_or kinds 0 Nothing) ≡ false → listed kinds ≡ []
none_listed [] h = refl
none_listed (kind ∷ kinds) h = listed_end kind kinds h

one_listed : (kinds : List Kind) → is_argument (get_or kinds 0 Nothing) ≡ true → is_argument (get_or kinds 1 Nothing) ≡ false → listed kinds ≡ get_or kinds 0 Nothing ∷ []
one_listed [] h k = cc
one_listed (kind ∷ kinds) h k = listed_more kind kinds h ∙ ap (λ ks. kind ∷ ks) (none_listed kinds k)

pub none_found : (kinds : List Kind) (bytes : List ℕ) → is_argument (get_or kinds 0 Nothing) ≡ false → at (args_form (listed kinds)) bytes ≡ Some ([], bytes)
unfolding args_form
none_found kinds bytes h = ap (λ ks. at (args_form ks) bytes) (none_listed kinds h)

alone : (kind : Kind) (bytes : List ℕ) (o : Option Args) → at (arg_form kind) bytes ≡ o → at (args_form (kind ∷ [])) bytes ≡ o
unfolding args_form
alone kind bytes None e = ap (λ o. (o >>= then_args (Gives [])) >>= joined) e
alone kind bytes (Some x) e = ap (λ o. (o >>= then_args (Gives [])) >>= joined) e ∙ ap (λ l. Some (l, x.1)) (append-nil x.0)

pub one_found : (kinds : List Kind) (bytes : List ℕ) (o : Option Args) → is_argument (get_or kinds 0 Nothing) ≡ true → is_argument (get_or kinds 1 Nothing) ≡ false → at (arg_form (get_or kinds 0 Nothing)) bytes ≡ o → at (args_form (listed kinds)) bytes ≡ o
one_found kinds bytes o h k e = ap (λ ks. at (args_form ks) bytes) (one_listed kinds h k) ∙ alone (get_or kinds 0 Nothing) bytes o e

-- ---- an operator with its arguments

abbrev named : ℕ → Args → Option (Op × List ℕ)
named op x = Some (with_args op x.0, x.1)

pub no_operator : (op : ℕ) (bytes : List ℕ) → None ≡ kinds_of op → at (operator_of op) bytes ≡ None
unfolding operator_of
no_operator op bytes h = ap (λ k. at (behind_op op k) bytes) (sym h)

pub some_operator : (op : ℕ) (kinds : List Kind) (bytes : List ℕ) → Some kinds ≡ kinds_of op → at (operator_of op) bytes ≡ (at (args_form kinds) bytes >>= named op)
unfolding operator_of
some_operator op kinds bytes h = ap (λ k. at (behind_op op k) bytes) (sym h)

pub operator_read : (op : ℕ) (kinds : List Kind) (bytes rest : List ℕ) (args : List RawArg) → Some kinds ≡ kinds_of op → at (args_form kinds) bytes ≡ Some (args, rest) → at (operator_of op) bytes ≡ Some (with_args op args, rest)
operator_read op kinds bytes rest args h e = some_operator op kinds bytes h ∙ ap (λ o. o >>= named op) e

pub operator_refused : (op : ℕ) (kinds : List Kind) (bytes : List ℕ) → Some kinds ≡ kinds_of op → at (args_form kinds) bytes ≡ None → at (operator_of op) bytes ≡ None
operator_refused op kinds bytes h e = some_operator op kinds bytes h ∙ ap (λ o. o >>= named op) e
