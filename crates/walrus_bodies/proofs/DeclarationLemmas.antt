-- The locals that a body declares.
use Rattle.std.proofs.Common.{◌≡◌, ℕ, zero, suc, List, [], ◌∷◌, ◌++◌, Option, Some, None, option_map, map, Result, Ok, Err, replicate, refl, ap, ◌∙◌, sym, append_assoc}
use Rattle.wasm_forms.specs.declared.types.RawVal.{RawVal}
use Rattle.wasm_forms.specs.Reading.{◌>>=◌}
use Rattle.wasm_forms.specs.Grammar.{at}
use Rattle.wasm_forms.proofs.Bind.{bind_at, some_not_none}
use Rattle.wasm_forms.proofs.Exact.{exact}
use Rattle.walrus_base.specs.Types.{ValType}
use Rattle.walrus_code.specs.declared.error.IrError.{IrError}
use Rattle.walrus_code.specs.declared.error.IrError.TheVariants.{Malformed, Memory, NoIndex, NotWritable, TooLarge}
use Rattle.walrus_code.specs.FromRaw.{val_of}
use Rattle.walrus_code.specs.Names.{Lookup, named_val}
use Rattle.walrus_bodies.specs.Body.{declarations, declared_types}
use Rattle.walrus_bodies.specs.Declarations.{ReadsDeclarations}
use Rattle.walrus_bodies.specs.Reader.{Gives}

-- what the function on lists says is what the relation says
pub reads_declarations : {X : Type 0} (view : X → List (ℕ × RawVal) × List ℕ) (bytes : List ℕ) (result : Result X IrError) → Gives view result (at declarations bytes) → ReadsDeclarations view bytes result
reads_declarations view bytes (Ok x) gives = (exact declarations).takes bytes (view x) gives
reads_declarations view bytes (Err Malformed) gives = λ front rest ds parts is. some_not_none (ds, rest) (sym ((exact declarations).again front rest ds is) ∙ ap (at declarations) (sym parts) ∙ gives)
reads_declarations view bytes (Err (Memory e)) gives = tt
reads_declarations view bytes (Err NoIndex) gives = gives
reads_declarations view bytes (Err NotWritable) gives = gives
reads_declarations view bytes (Err TooLarge) gives = gives

-- further types behind these
abbrev pub types_behind : List (ValType ℕ) → Option (List (ValType ℕ)) → Option (List (ValType ℕ))
types_behind done rest = option_map (λ types. done ++ types) rest

pub types_behind-more : (done new : List (ValType ℕ)) (rest : Option (List (ValType ℕ))) → types_behind (done ++ new) rest ≡ types_behind done (rest >>= λ types. Some (new ++ types))
types_behind-more done new None = refl
types_behind-more done new (Some types) = ap Some (append_assoc done new types)

-- one more declaration
pub types_behind-next : (names : Lookup) (done new : List (ValType ℕ)) (d : ℕ × RawVal) (rest : List (ℕ × RawVal)) (v : ValType ℕ) (whole : Option (List (ValType ℕ))) → named_val names (val_of d.1) ≡ Some v → new ≡ done ++ replicate d.0 v → types_behind done (declared_types names (d ∷ rest)) ≡ whole → types_behind new (declared_types names rest) ≡ whole
types_behind-next names done new d rest v whole found is so_far =
    ap (λ (ts : List (ValType ℕ)). types_behind ts (declared_types names rest)) is
    ∙ types_behind-more done (replicate d.0 v) (declared_types names rest)
    ∙ ap (types_behind done) (sym (bind_at (named_val names (val_of d.1)) (λ w. declared_types names rest >>= λ others. Some (replicate d.0 w ++ others)) v found))
    ∙ so_far

pub map-replicate : {A B : Type 0} (f : A → B) (n : ℕ) (x : A) → map f (replicate n x) ≡ replicate n (f x)
map-replicate f zero x = refl
map-replicate {B = B} f (suc n) x = ap (λ (ys : List B). f x ∷ ys) (map-replicate f n x)

pub replicate_more : {A : Type 0} (n : ℕ) (x : A) → replicate n x ++ x ∷ [] ≡ replicate (suc n) x
replicate_more zero x = refl
replicate_more {A = A} (suc n) x = ap (λ (xs : List A). x ∷ xs) (replicate_more n x)

pub some_of : {A B : Type 0} (f : A → B) (x : A) (o : Option B) → option_map f (Some x) ≡ o → o ≡ Some (f x)
some_of f x o is = sym is
