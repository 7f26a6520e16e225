use Rattle.std.proofs.Common.{ℕ, ◌≤◌, length, List, [], ◌∷◌, ◌++◌, get_or, map, take, sym, ap, ◌∙◌, subst, arith}
use Rattle.wasm_forms.specs.declared.types.RawVal.{RawVal}
use Rattle.walrus_base.specs.Types.{ValType}
use Rattle.walrus_base.specs.Value.{val_type}
use Rattle.walrus_base.specs.declared.value.ValType.{ValType as DeclaredValType}
use Rattle.walrus_base.specs.declared.value.ValType.TheVariants as declared_value
use Rattle.walrus_bodies.specs.declared.declarations.Declaration.{Declaration}
use Rattle.walrus_code.specs.Indices.{index_of}
use Rattle.walrus_bodies.specs.Declarations.{declaration, declarations_of}
use Rattle.walrus_functions.specs.Declaring.{AreDeclarations, group_of}
use Rattle.walrus_base.proofs.Turns.{split_at, map_more, map_snoc}
use Rattle.walrus_functions.proofs.DeclarationLemmas.{declared-more, declares-refused}
use Rattle.std.proofs.lemmas.List.{take_all}
use Rattle.std.proofs.lemmas.Result.{err_from_is_err_and}
use Rattle.walrus_functions.proofs.groups.declarations.Goals as goal

pub returns-in_err-value : goal.returns-in_err-value
returns-in_err-value c =
    let parts = split_at group_of c.args.groups.now c.loop-count.count-index _ c.loop-count-test.true in
    declares-refused (index_of c.args.indices.now) (map group_of (take c.loop-count.count-index c.args.groups.now)) _ _ parts.0 (map group_of c.args.groups.now) c.from_residual-in_err-value.result c.in_err-value.field-0.0 _ parts.1 c.from_residual-in_err-value.ensures.1 c.in_err-value.ensures.indexed

pub loop-count-preserved : goal.loop-count-preserved
loop-count-preserved c =
    let names = index_of c.args.indices.now in
    let i = c.loop-count.count-index in
    let zero : ℕ × DeclaredValType = (0, declared_value.I32) in
    let x : ℕ × DeclaredValType = get_or c.args.groups.now i zero in
    let one : Declaration = record { count = x.0; value = c.in_ok-value.value } in
    let done = map group_of (take i c.args.groups.now) in
    let had = declarations_of c.loop-count.declarations.items in
    subst (λ (gs : List (ℕ × ValType ℕ)). AreDeclarations names gs (declarations_of c.push.new.self.items)) (sym (map_more group_of c.args.groups.now i zero c.loop-count-test.true))
    (subst (λ (ds : List (ℕ × RawVal)). AreDeclarations names (done ++ group_of x ∷ []) ds) (sym (ap declarations_of c.in_ok-push.ensures.items ∙ map_snoc declaration c.loop-count.declarations.items one))
    (declared-more names done had x.0 (val_type x.1) c.in_ok-value.value c.loop-count.invariant c.in_ok-value.ensures.indexed.0 c.in_ok-value.ensures.spelled))

pub returns-in_err-declarations : goal.returns-in_err-declarations
returns-in_err-declarations c = let p = err_from_is_err_and c.from_residual.result c.from_residual.ensures.1 in rw (p.1, p.2) tt

pub returns-in_err-push : goal.returns-in_err-push
returns-in_err-push c = let p = err_from_is_err_and c.from_residual-in_err-push.result c.from_residual-in_err-push.ensures.1 in rw (p.1, p.2) tt

pub returns : goal.returns
returns c =
    let past : length c.args.groups.now ≤ c.loop-count.count-index = omega arith in
    subst (λ (gs : List (ℕ × DeclaredValType)). AreDeclarations (index_of c.args.indices.now) (map group_of gs) (declarations_of c.loop-count.declarations.items)) (take_all c.loop-count.count-index c.args.groups.now past) c.loop-count.invariant
