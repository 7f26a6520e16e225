-- A function's parameters become locals, and then its declared locals.
use Rattle.std.proofs.Common.{◌≡◌, ℕ, ◌+◌, List, ◌++◌, length, map, Option, Result, Ok, Err, IsErrAnd, slice_get, ap, ◌∙◌, sym, subst}
use Rattle.std.proofs.lemmas.List.{length-map}
use Rattle.std.specs.List.{range_with_len}
use Rattle.walrus_base.specs.Arena.{item_at}
use Rattle.walrus_base.specs.Id.{place}
use Rattle.walrus_base.specs.declared.id.Id.{Id}
use Rattle.walrus_base.specs.declared.keys.LocalKey.{LocalKey}
use Rattle.walrus_base.specs.Value.{val_type}
use Rattle.walrus_base.specs.declared.locals.Local.{Local}
use Rattle.walrus_base.specs.declared.value.ValType.{ValType as DeclaredValType}
use Rattle.walrus_code.specs.declared.error.IrError.{IrError}
use Rattle.walrus_code.specs.declared.error.IrError.TheVariants.{Malformed, Memory, NoIndex, NotWritable, TooLarge}
use Rattle.walrus_bodies.specs.declared.function.LocalFunction.{LocalFunction}
use Rattle.walrus_bodies.specs.Body.{Context, BodyReads}
use Rattle.walrus_bodies.specs.BodyRead.{body_locals, new_locals, AddsLocals, ReadsBody}
use Rattle.walrus_functions.specs.Handlers.{params_of}
use Rattle.walrus_functions.specs.ReadFunction.{Slots, locals_from, ReadsFunction, StaysInFront}
use Rattle.walrus_bodies.proofs.AddedLemmas.{longer, range-both}

module _ (old new : List (Option Local)) (ids : List (Id LocalKey)) (types : List DeclaredValType) (adds : AddsLocals old new ids types) where
  pub adds_stay : StaysInFront old new
  adds_stay = (new_locals ids types, adds.added)

  -- the places of a body's locals are one range
  pub one_range : (count : ℕ) → body_locals (map place ids) (length new) count ≡ locals_from (length old) (length types + count)
  one_range count =
      let look_up : List ℕ → ℕ → Option ℕ = λ ns index. slice_get ns index in
      ap look_up (ap (λ (ps : List ℕ). ps ++ range_with_len (length new) count) adds.places ∙ ap (λ (n : ℕ). range_with_len (length old) (length types) ++ range_with_len n count) (longer old new ids types adds) ∙ range-both (length old) (length types) count)

-- no body
pub no_body : (c : Context) (tags : ℕ → Option ℕ) (ty : ℕ) (old_types new_types : Slots) (old middle new : List (Option Local)) (args : List (Id LocalKey)) (params : List DeclaredValType) (bytes : List ℕ) (result : Result LocalFunction IrError) (e : IrError) → AddsLocals old middle args params → map val_type params ≡ params_of (item_at old_types.types ty) → IsErrAnd result (λ x. x ≡ e) → ReadsBody c (map place args) middle new bytes (Err e) → ReadsFunction c tags ty old_types new_types old new bytes result
no_body c tags ty old_types new_types old middle new args params bytes (Ok f) e adds takes is reads = absurd is
no_body c tags ty old_types new_types old middle new args params bytes (Err Malformed) e adds takes is reads =
    let none = rw (← is) at reads in
    λ types ops body.
    let count : length (params_of (item_at old_types.types ty)) ≡ length params = ap length (sym takes) ∙ length-map params val_type in
    let places : locals_from (length old) (length (params_of (item_at old_types.types ty)) + length types) ≡ body_locals (map place args) (length middle) (length types) =
    ap (λ (n : ℕ). locals_from (length old) (n + length types)) count ∙ sym (one_range old middle args params adds (length types)) in
    none types ops (subst (λ (l : ℕ → Option ℕ). BodyReads c l bytes types ops) places body)
no_body c tags ty old_types new_types old middle new args params bytes (Err (Memory m)) e adds takes is reads = tt
no_body c tags ty old_types new_types old middle new args params bytes (Err NoIndex) e adds takes is reads = rw (← is) at reads
no_body c tags ty old_types new_types old middle new args params bytes (Err NotWritable) e adds takes is reads = rw (← is) at reads
no_body c tags ty old_types new_types old middle new args params bytes (Err TooLarge) e adds takes is reads = rw (← is) at reads
