use Rattle.std.proofs.Common.{◌≡◌, ◌+◌, ◌<◌, ◌≤◌, [], ◌∷◌, Some, ◌++◌, length, get_or, map, drop, replicate, sym, ap, ◌∙◌, arith, add-one, Option, List, ℕ}
use Rattle.std.proofs.lemmas.List.{map-append, append-nil, drop_all}
use Rattle.std.proofs.Math.Seq.{drop-cons}
use Rattle.wasm_forms.specs.declared.types.RawVal.TheVariants.{I32}
use Rattle.walrus_base.specs.Types.{ValType}
use Rattle.walrus_base.specs.Value.{val_type}
use Rattle.walrus_code.specs.Indices.{ids_at}
use Rattle.walrus_bodies.specs.declared.declarations.Declaration.{Declaration}
use Rattle.walrus_bodies.specs.Body.{declared_types}
use Rattle.walrus_bodies.specs.Declarations.{declaration, declarations_of}
use Rattle.walrus_bodies.proofs.DeclarationLemmas.{types_behind, types_behind-next, map-replicate}
use Rattle.std.proofs.lemmas.Result.{err_from_is_err_and}
use Rattle.walrus_bodies.proofs.declarations.name_types.Goals as goal

pub loop-declaration-preserved : goal.loop-declaration-preserved
loop-declaration-preserved c =
    let names = ids_at c.args.indices.now in
    let ds = c.args.declarations.now in
    let i = c.loop-declaration.declaration-index in
    let zero : Declaration = record { count = 0; value = I32 } in
    let d : Declaration = get_or ds i zero in
    let below : i < length ds = omega arith in
    let done : List (ValType ℕ) = map val_type c.loop-declaration.types.items in
    let whole : Option (List (ValType ℕ)) = declared_types names (declarations_of ds) in
    let left : declarations_of (drop i ds) ≡ declaration d ∷ declarations_of (drop (i + 1) ds) =
    ap declarations_of (drop-cons ds i zero below) ∙ ap (λ (n : ℕ). declaration d ∷ declarations_of (drop n ds)) (sym (add-one i)) in
    let so_far : types_behind done (declared_types names (declaration d ∷ declarations_of (drop (i + 1) ds))) ≡ whole = ap (λ xs. types_behind done (declared_types names xs)) (sym left) ∙ c.loop-declaration.invariant in
    let pushed : map val_type c.push_times.new.types.items ≡ done ++ replicate d.count (val_type c.in-Some.ty) =
    ap (map val_type) c.in_ok-push_times.ensures ∙ map-append val_type c.loop-declaration.types.items (replicate d.count c.in-Some.ty) ∙ ap (λ (ts : List (ValType ℕ)). done ++ ts) (map-replicate val_type d.count c.in-Some.ty) in
    types_behind-next names done (map val_type c.push_times.new.types.items) (declaration d) (declarations_of (drop (i + 1) ds)) (val_type c.in-Some.ty) whole (sym c.in-Some.ensures) pushed so_far

pub returns-in_err-push_times : goal.returns-in_err-push_times
returns-in_err-push_times c = let p = err_from_is_err_and c.from_residual.result c.from_residual.ensures.1 in rw (p.1, p.2) tt

pub returns : goal.returns
returns c =
    let ds = c.args.declarations.now in
    let past : length ds ≤ c.loop-declaration.declaration-index = omega arith in
    let names = ids_at c.args.indices.now in
    let done : List (ValType ℕ) = map val_type c.loop-declaration.types.items in
    let none : declarations_of (drop c.loop-declaration.declaration-index ds) ≡ [] = ap declarations_of (drop_all c.loop-declaration.declaration-index ds past) in
    sym c.loop-declaration.invariant ∙ ap (λ xs. types_behind done (declared_types names xs)) none ∙ ap Some (append-nil done)
