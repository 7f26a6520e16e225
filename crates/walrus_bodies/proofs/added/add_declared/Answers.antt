use Rattle.std.proofs.Common.{◌≡◌, ℕ, ◌+◌, ◌<◌, List, ◌∷◌, length, drop, get_or, ap, sym, ◌∙◌, subst, arith, add-one}
use Rattle.std.proofs.Math.Seq.{drop-cons}
use Rattle.wasm_forms.specs.declared.types.RawVal.{RawVal}
use Rattle.wasm_forms.specs.declared.types.RawVal.TheVariants.{I32}
use Rattle.walrus_base.specs.Locals.{locals}
use Rattle.walrus_code.specs.Indices.{ids_at}
use Rattle.walrus_bodies.specs.declared.declarations.Declaration.{Declaration}
use Rattle.walrus_bodies.specs.Declarations.{declaration, declarations_of}
use Rattle.walrus_bodies.proofs.AddedLemmas.{DeclaredSoFar, declared_next}
use Rattle.walrus_bodies.proofs.added.add_declared.Goals as goal

pub declarations-preserved : goal.declarations-preserved
declarations-preserved c =
    let names = ids_at c.args.indices.now in
    let ds = c.args.declarations.now in
    let i = c.declarations.declaration-index in
    let zero : Declaration = record { count = 0; value = I32 } in
    let d : Declaration = get_or ds i zero in
    let below : i < length ds = omega arith in
    let old = locals c.args.module_locals.now in
    let now = locals c.declarations.module_locals in
    let left : declarations_of (drop i ds) ≡ declaration d ∷ declarations_of (drop (i + 1) ds) =
    ap declarations_of (drop-cons ds i zero below) ∙ ap (λ (n : ℕ). declaration d ∷ declarations_of (drop n ds)) (sym (add-one i)) in
    let so_far = subst (λ (xs : List (ℕ × RawVal)). DeclaredSoFar names xs (declarations_of ds) old now) left c.declarations.invariant in
    declared_next names (declarations_of ds) old now (declaration d) (declarations_of (drop (i + 1) ds)) (locals c.add_times.new.module_locals) c.in-Some.ty so_far c.in-Some.ensures c.in_ok-add_times.ensures.added
