use Rattle.std.proofs.Common.{◌≡◌, ◌≤◌, ◌<◌, ◌^◌, [], ◌++◌, inl, inr, ℕ, Bool, List, length, map, Result, Ok, Err, IfOk, sym, ap, ap₂, ◌∙◌, subst, arith, rules}
use Rattle.std.specs.Prelude.{Vec, nat_eq}
use Rattle.std.specs.Global.{Global}
use Rattle.walrus_bodies.specs.declared.declarations.Declaration.{Declaration}
use Rattle.std.specs.List.{IsDistinct, list_any}
use Rattle.std.proofs.lemmas.List.{length-map, map-append}
use Rattle.wasm_forms.specs.declared.types.RawVal.{RawVal}
use Rattle.walrus_base.specs.Id.{place}
use Rattle.walrus_base.specs.declared.id.Id.{Id}
use Rattle.walrus_base.specs.declared.keys.LocalKey.{LocalKey}
use Rattle.walrus_base.specs.Locals.{locals}
use Rattle.walrus_base.specs.Operators.{Op, locals_of}
use Rattle.walrus_base.specs.Shape.{place_in}
use Rattle.walrus_bodies.specs.Function.{body_of, args_of}
use Rattle.walrus_code.specs.Indices.{index_of, local_index}
use Rattle.walrus_code.specs.declared.error.IrError.{IrError}
use Rattle.walrus_code.specs.declared.local_numbers.LocalNumbers.{LocalNumbers}
use Rattle.walrus_bodies.specs.Blocks.{blocks_hold}
use Rattle.walrus_bodies.specs.Declarations.{declaration, declarations_of}
use Rattle.walrus_bodies.specs.FunctionTypes.{is_function_at}
use Rattle.walrus_functions.specs.Code.{ops_of_code}
use Rattle.walrus_functions.specs.Declaring.{AreOnce}
use Rattle.walrus_functions.specs.EmittedBody.{FitsType, source_of, types_of}
use Rattle.walrus_functions.specs.Writing.{DeclaresLocals, LocalsDeclared}
use Rattle.walrus_functions.specs.declared.emit.KnownBody.{KnownBody}
use Rattle.walrus_functions.proofs.AmongLemmas.{of_places}
use Rattle.walrus_functions.proofs.WrittenLemmas.{emitted, refused_declared, refused_found, all_there, all_differ, few_declarations, fits_type}
use Rattle.std.proofs.lemmas.Result.{err_from_is_err_and}
use Rattle.walrus_functions.proofs.FitLemmas.{untrue}
use Rattle.walrus_functions.proofs.emit.append_all.Goals as goal

abbrev Local : Type 0
Local = Id LocalKey

abbrev view_ids : Vec Local Global → List ℕ
view_ids ids = map place ids.items

abbrev view_declarations : Vec Declaration Global → List (ℕ × RawVal)
view_declarations ds = declarations_of ds.items

-- the places of all locals
all_places : (all declared first second : List Local) (args : List ℕ) → all ≡ first ++ second → map place first ≡ args → second ≡ declared → map place all ≡ args ++ map place declared
all_places all declared first second args is one two = ap (map place) is ∙ map-append place first second ∙ ap₂ (λ (xs : List ℕ) (ys : List Local). xs ++ map place ys) one two

-- what three clauses say of an answer
all_known : {X E A B C : Type 0} (f : X → A) (g : X → B) (h : X → C) (a : A) (b : B) (c : C) → (r : Result X E) → IfOk r (λ x. f x ≡ a) → IfOk r (λ x. g x ≡ b) → IfOk r (λ x. h x ≡ c) → IfOk r (λ x. (f x ≡ a) × (g x ≡ b) × (h x ≡ c))
all_known f g h a b c (Ok x) p q s = (p, q, s)
all_known f g h a b c (Err e) p q s = tt

-- what is handed on is what is known
known : (numbers : LocalNumbers) (order : Vec Local Global) (used : Vec Bool Global) (r : Result KnownBody IrError) → IfOk r (λ body. (body.locals ≡ numbers) × (body.order ≡ order) × (body.used ≡ used))
    → IfOk r (λ body. (local_index body.locals ≡ local_index numbers) × (map place body.order.items ≡ map place order.items) × (body.used.items ≡ used.items))
known numbers order used (Ok body) h = (ap local_index h.0, ap view_ids h.1, ap (λ (marks : Vec Bool Global). marks.items) h.2)
known numbers order used (Err e) h = tt

-- whether each local is used, by the operators
marks : (had ops : List Op) (slice all : List Local) (used : List Bool) → used ≡ map (λ id. list_any (nat_eq (place id)) (locals_of had)) slice → had ≡ ops → slice ≡ all → used ≡ map (λ x. list_any (nat_eq x) (locals_of ops)) (map place all)
marks had ops slice all used is same one =
    is
    ∙ ap₂ (λ (os : List Op) (xs : List Local). map (λ id. list_any (nat_eq (place id)) (locals_of os)) xs) same one
    ∙ of_places (λ x. list_any (nat_eq x) (locals_of ops)) all

pub find_declared-requires-clause-named : goal.find_declared-requires-clause-named
find_declared-requires-clause-named c =
    subst (λ (ids : List Local). AreOnce (locals_of (body_of c.args.function.now)) (map place ids)) (sym c.as_slice.ensures.value)
    (subst (λ (ops : List Op). AreOnce (locals_of ops) (map place c.in_ok-named.named.items)) c.requires.body c.in_ok-named.ensures)

pub code_uses-requires-clause-named : goal.code_uses-requires-clause-named
code_uses-requires-clause-named c = subst (λ (ids : List Local). AreOnce (locals_of (ops_of_code c.args.code.now)) (map place ids)) (sym c.as_slice-6.ensures.value) c.in_ok-named.ensures

pub returns-in_err-declared-clause-written : goal.returns-in_err-declared-clause-written
returns-in_err-declared-clause-written c =
    let p = err_from_is_err_and c.from_residual-in_err-declared.result c.from_residual-in_err-declared.ensures.1 in
    ([], [], (refused_found (source_of c.args.indices.now c.args.module_locals.now c.args.types.now c.args.function.now c.args.features.now) _ _ _ _ _ view_ids c.from_residual-in_err-declared.result c.in_err-declared.field-0.0 c.from_residual-in_err-declared.ensures.1 c.in_err-declared.ensures, rw p.1 tt))

pub returns-then-len-2-clause-written : goal.returns-then-len-2-clause-written
returns-then-len-2-clause-written c =
    let order = map place c.in_ok-declared.declared.items in
    let are = all_places c.in_ok-all.all.items c.in_ok-declared.declared.items c.as_slice-args.result.now c.as_slice-2.result.now (args_of c.args.function.now) c.in_ok-all.ensures (ap (map place) c.as_slice-args.ensures.value ∙ c.in_ok-parameters.ensures) c.as_slice-2.ensures.value in
    let size : c.len-2.result ≡ length c.in_ok-all.all.items = search rules in
    let counted : length (args_of c.args.function.now ++ order) ≡ length c.in_ok-all.all.items = sym (ap length are) ∙ length-map c.in_ok-all.all.items place in
    let many = c.if-len-2.true in
    let large : 2 ^ 32 < length (args_of c.args.function.now ++ order) = omega (arith, size, counted, many) in
    ([], [], ((order, (c.in_ok-declared.ensures.1, inr large)), tt))

pub returns-then-len-clause-written : goal.returns-then-len-clause-written
returns-then-len-clause-written c =
    let order = map place c.in_ok-declared.declared.items in
    let size : c.len.result ≡ length c.in_ok-declared.declared.items = search rules in
    let counted = length-map c.in_ok-declared.declared.items place in
    let many = c.if-len.true in
    let large : 2 ^ 32 ≤ length order = omega (arith, size, counted, many) in
    ([], [], ((order, (c.in_ok-declared.ensures.1, inl large)), tt))

pub declare-requires-clause-there : goal.declare-requires-clause-there
declare-requires-clause-there c =
    all_there (source_of c.args.indices.now c.args.module_locals.now c.args.types.now c.args.function.now c.args.features.now) (map place c.in_ok-declared.declared.items) c.in_ok-declared.ensures.1 place c.as_slice-3.result.now (ap (map place) c.as_slice-3.ensures.value)

pub returns-in_err-declarations-clause-written : goal.returns-in_err-declarations-clause-written
returns-in_err-declarations-clause-written c =
    let p = err_from_is_err_and c.from_residual-in_err-declarations.result c.from_residual-in_err-declarations.ensures.1 in (
      [],
      [],
      (
        refused_declared (source_of c.args.indices.now c.args.module_locals.now c.args.types.now c.args.function.now c.args.features.now) (map place c.in_ok-declared.declared.items) c.in_ok-declared.ensures.1 _ _ _ _ _ view_declarations c.from_residual-in_err-declarations.result c.in_err-declarations.field-0.0 c.from_residual-in_err-declarations.ensures.1
            (subst (λ (ids : List Local). DeclaresLocals (index_of c.args.indices.now) (types_of (locals c.args.module_locals.now)) (map place ids) view_declarations (Err c.in_err-declarations.field-0.0)) c.as_slice-3.ensures.value c.in_err-declarations.ensures),
        rw p.1 tt,
      ),
    )

pub number_locals-requires-clause-distinct : goal.number_locals-requires-clause-distinct
number_locals-requires-clause-distinct c =
    let are = all_places c.in_ok-all.all.items c.in_ok-declared.declared.items c.as_slice-args.result.now c.as_slice-2.result.now (args_of c.args.function.now) c.in_ok-all.ensures (ap (map place) c.as_slice-args.ensures.value ∙ c.in_ok-parameters.ensures) c.as_slice-2.ensures.value in
    subst (λ (ps : List ℕ). IsDistinct nat_eq ps) (sym (ap (map place) c.as_slice-4.ensures.value ∙ are))
    (all_differ (source_of c.args.indices.now c.args.module_locals.now c.args.types.now c.args.function.now c.args.features.now) (map place c.in_ok-declared.declared.items) c.in_ok-declared.ensures.1 c.in_ok-declared.ensures.0)

pub write_body-requires-clause-few : goal.write_body-requires-clause-few
write_body-requires-clause-few c =
    let order = map place c.in_ok-declared.declared.items in
    let ds = c.in_ok-declarations.declarations.items in
    let written : LocalsDeclared (index_of c.args.indices.now) (types_of (locals c.args.module_locals.now)) order (declarations_of ds) = subst (λ (ids : List Local). LocalsDeclared (index_of c.args.indices.now) (types_of (locals c.args.module_locals.now)) (map place ids) (declarations_of c.in_ok-declarations.declarations.items)) c.as_slice-3.ensures.value c.in_ok-declarations.ensures in
    let size : c.len.result ≡ length c.in_ok-declared.declared.items = search rules in
    let counted = length-map c.in_ok-declared.declared.items place in
    let under = c.if-len.false in
    let few : length order < 2 ^ 32 = omega (arith, size, counted, under) in
    let small = few_declarations (source_of c.args.indices.now c.args.module_locals.now c.args.types.now c.args.function.now c.args.features.now) order c.in_ok-declared.ensures.1 (declarations_of ds) written few in
    let same = length-map ds declaration in
    let slice = ap length c.as_slice-7.ensures.value in
    omega (arith, small, same, slice)

pub returns-clause-written : goal.returns-clause-written
returns-clause-written c =
    let s = source_of c.args.indices.now c.args.module_locals.now c.args.types.now c.args.function.now c.args.features.now in
    let order = map place c.in_ok-declared.declared.items in
    let are = all_places c.in_ok-all.all.items c.in_ok-declared.declared.items c.as_slice-args.result.now c.as_slice-2.result.now (args_of c.args.function.now) c.in_ok-all.ensures (ap (map place) c.as_slice-args.ensures.value ∙ c.in_ok-parameters.ensures) c.as_slice-2.ensures.value in
    let ds = declarations_of c.in_ok-declarations.declarations.items in
    let written : LocalsDeclared (index_of c.args.indices.now) (types_of (locals c.args.module_locals.now)) order ds = subst (λ (ids : List Local). LocalsDeclared (index_of c.args.indices.now) (types_of (locals c.args.module_locals.now)) (map place ids) (declarations_of c.in_ok-declarations.declarations.items)) c.as_slice-3.ensures.value c.in_ok-declarations.ensures in
    let size : c.len.result ≡ length c.in_ok-declared.declared.items = search rules in
    let counted = length-map c.in_ok-declared.declared.items place in
    let under = c.if-len.false in
    let few : length order < 2 ^ 32 = omega (arith, size, counted, under) in
    let numbers = local_index c.in_ok-locals.locals in
    let bytes = c.write_body.ensures.written.0 in
    let places = c.write_body.ensures.written.1 in
    let made = emitted s order c.in_ok-declared.ensures.1 ds written
    (fits_type s (c.parameters_fit-fits.ensures.0 c.if-not-fits.false) c.in_ok-declared.ensures.0)
    (ap (blocks_hold (is_function_at c.args.types.now)) (sym c.requires.body) ∙ sym c.in_ok-hold.ensures ∙ c.if-not-hold.false)
    few numbers
    (λ x. c.in_ok-locals.ensures x ∙ ap (λ (ps : List ℕ). place_in ps x) (ap (map place) c.as_slice-4.ensures.value ∙ are))
    (map place c.in_ok-all.all.items) are c.in_ok-used.used.items
    (marks (ops_of_code c.args.code.now) s.ops c.as_slice-5.result.now c.in_ok-all.all.items c.in_ok-used.used.items c.in_ok-used.ensures c.requires.body c.as_slice-5.ensures.value)
    (λ _. bytes) (λ _. places) (λ body. local_index body.locals) (λ body. map place body.order.items) (λ body. body.used.items) c.write_body.result
    (known c.in_ok-locals.locals c.in_ok-all.all c.in_ok-used.used c.write_body.result (all_known (λ body. body.locals) (λ body. body.order) (λ body. body.used) c.in_ok-locals.locals c.in_ok-all.all c.in_ok-used.used c.write_body.result c.write_body.ensures.numbered c.write_body.ensures.ordered c.write_body.ensures.marked))
    (rw (c.requires.body, c.as_slice-7.ensures.value) at c.write_body.ensures.written.2.0) in
    (bytes, places, (made, c.write_body.ensures.written.2.1))

pub returns-in_err-all-clause-written : goal.returns-in_err-all-clause-written
returns-in_err-all-clause-written c = let p = err_from_is_err_and c.from_residual-in_err-all.result c.from_residual-in_err-all.ensures.1 in rw (p.1, p.2) ([], [], (tt, tt))

pub returns-in_err-all-clause-located : goal.returns-in_err-all-clause-located
returns-in_err-all-clause-located c = let p = err_from_is_err_and c.from_residual-in_err-all.result c.from_residual-in_err-all.ensures.1 in rw p.1 tt

pub returns-in_err-locals-clause-written : goal.returns-in_err-locals-clause-written
returns-in_err-locals-clause-written c = let p = err_from_is_err_and c.from_residual-in_err-locals.result c.from_residual-in_err-locals.ensures.1 in rw (p.1, p.2) ([], [], (tt, tt))

pub returns-in_err-locals-clause-located : goal.returns-in_err-locals-clause-located
returns-in_err-locals-clause-located c = let p = err_from_is_err_and c.from_residual-in_err-locals.result c.from_residual-in_err-locals.ensures.1 in rw p.1 tt

pub returns-in_err-declared-clause-located : goal.returns-in_err-declared-clause-located
returns-in_err-declared-clause-located c = let p = err_from_is_err_and c.from_residual-in_err-declared.result c.from_residual-in_err-declared.ensures.1 in rw p.1 tt

pub returns-in_err-declarations-clause-located : goal.returns-in_err-declarations-clause-located
returns-in_err-declarations-clause-located c = let p = err_from_is_err_and c.from_residual-in_err-declarations.result c.from_residual-in_err-declarations.ensures.1 in rw p.1 tt

pub returns-then-not-fits-clause-located : goal.returns-then-not-fits-clause-located
returns-then-not-fits-clause-located c = tt

pub returns-then-not-hold-clause-located : goal.returns-then-not-hold-clause-located
returns-then-not-hold-clause-located c = tt

pub returns-then-len-clause-located : goal.returns-then-len-clause-located
returns-then-len-clause-located c = tt

pub returns-then-len-2-clause-located : goal.returns-then-len-2-clause-located
returns-then-len-2-clause-located c = tt

pub returns-in_err-named-clause-written : goal.returns-in_err-named-clause-written
returns-in_err-named-clause-written c = let p = err_from_is_err_and c.from_residual-in_err-named.result c.from_residual-in_err-named.ensures.1 in rw (p.1, p.2) ([], [], (tt, tt))

pub returns-in_err-named-clause-located : goal.returns-in_err-named-clause-located
returns-in_err-named-clause-located c = let p = err_from_is_err_and c.from_residual-in_err-named.result c.from_residual-in_err-named.ensures.1 in rw p.1 tt

pub returns-in_err-used-clause-written : goal.returns-in_err-used-clause-written
returns-in_err-used-clause-written c = let p = err_from_is_err_and c.from_residual-in_err-used.result c.from_residual-in_err-used.ensures.1 in rw (p.1, p.2) ([], [], (tt, tt))

pub returns-in_err-used-clause-located : goal.returns-in_err-used-clause-located
returns-in_err-used-clause-located c = let p = err_from_is_err_and c.from_residual-in_err-used.result c.from_residual-in_err-used.ensures.1 in rw p.1 tt

pub returns-then-not-fits-clause-written : goal.returns-then-not-fits-clause-written
returns-then-not-fits-clause-written c =
    let s = source_of c.args.indices.now c.args.module_locals.now c.args.types.now c.args.function.now c.args.features.now in
    let unfit : FitsType s.def s.slots s.parameters → ⊥ = (λ fits. untrue _ (c.parameters_fit-fits.ensures.1 (fits.types, (fits.taken, fits.typed))) c.if-not-fits.true) in
    ([], [], (inr (inr (inl unfit)), tt))

pub returns-then-not-hold-clause-written : goal.returns-then-not-hold-clause-written
returns-then-not-hold-clause-written c =
    ([], [], (inr (inl (ap (blocks_hold (is_function_at c.args.types.now)) (sym c.requires.body) ∙ sym c.in_ok-hold.ensures ∙ c.if-not-hold.true)), tt))

pub returns-in_err-parameters-clause-written : goal.returns-in_err-parameters-clause-written
returns-in_err-parameters-clause-written c = let p = err_from_is_err_and c.from_residual.result c.from_residual.ensures.1 in rw (p.1, p.2) ([], [], (tt, tt))

pub returns-in_err-parameters-clause-located : goal.returns-in_err-parameters-clause-located
returns-in_err-parameters-clause-located c = let p = err_from_is_err_and c.from_residual.result c.from_residual.ensures.1 in rw p.1 tt

pub returns-in_err-hold-clause-written : goal.returns-in_err-hold-clause-written
returns-in_err-hold-clause-written c = let p = err_from_is_err_and c.from_residual-in_err-hold.result c.from_residual-in_err-hold.ensures.1 in rw (p.1, p.2) ([], [], (tt, tt))

pub returns-in_err-hold-clause-located : goal.returns-in_err-hold-clause-located
returns-in_err-hold-clause-located c = let p = err_from_is_err_and c.from_residual-in_err-hold.result c.from_residual-in_err-hold.ensures.1 in rw p.1 tt
