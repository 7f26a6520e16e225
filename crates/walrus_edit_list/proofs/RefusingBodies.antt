-- What a refusal of reading says of bytes.
use Rattle.std.proofs.Common.{◌≡◌, ℕ, false, ◌++◌, List, [], ◌∷◌, map, refl, sym, subst, inl, inr, Err}
use Rattle.std.specs.Prelude.{Option, slice_get}
use Rattle.walrus_base.specs.Id.{place}
use Rattle.walrus_base.specs.Locals.{locals}
use Rattle.walrus_base.specs.Operators.{Op}
use Rattle.walrus_base.specs.declared.id.Id.{Id}
use Rattle.walrus_base.specs.declared.keys.LocalKey.{LocalKey}
use Rattle.walrus_base.specs.declared.locals.ModuleLocals.{ModuleLocals}
use Rattle.walrus_base.specs.declared.module_types.ModuleTypes.{ModuleTypes}
use Rattle.walrus_bodies.specs.Body.{context}
use Rattle.walrus_bodies.specs.FunctionTypes.{is_function_at}
use Rattle.walrus_bodies.specs.Results.{ReadsOperators}
use Rattle.walrus_bodies.specs.declared.features.Features.{Features}
use Rattle.walrus_code.specs.Names.{Lookup}
use Rattle.walrus_code.specs.declared.error.IrError.{IrError}
use Rattle.walrus_code.specs.declared.error.IrError.TheVariants as ir
use Rattle.walrus_functions.specs.ReadFunction.{ReadsFunction}
use Rattle.walrus_functions.specs.Signatures.{slots_of}
use Rattle.walrus_items.specs.Errors.{error_of_ir}
use Rattle.walrus_items.specs.Function.{KeepsOthers, args_of, body_of}
use Rattle.walrus_items.specs.LocalFunction.{LocalFunction}
use Rattle.walrus_items.specs.declared.error.Error.{Error}
use Rattle.walrus_items.specs.declared.error.Error.TheVariants.{Caller, DeadItem, InvalidWasm, Memory, NoIndex, NoMemory, NotExported, NotFound, NotImported, NotReplaceable, NotWritable, SeveralFunctionTables, SeveralMemories, TooLarge, TwoIndices}
use Rattle.walrus_items.specs.declared.function_kind.FunctionKind.{FunctionKind}
use Rattle.walrus_items.specs.declared.function_kind.FunctionKind.TheVariants.{Local}
use Rattle.walrus_edit_list.specs.Fronts.{FrontsKind, IsFront, IsNoFront, RefusesKind, but_last}
use Rattle.walrus_edit_list.specs.Functions.{DeclaresNone, RefusesBody, RefusesForm}
use Rattle.walrus_edit_list.specs.Joined.{Fronts, LeadsToItself}
use Rattle.walrus_edit_list.specs.declared.front.TheConstants.{END}

module _ (names : Lookup) (tags : ℕ → Option ℕ) (f : Features) (ty : ℕ) (code : List ℕ) (types : ModuleTypes) (all : ModuleLocals) where
  -- what declares none is no body
  pub uncounted : (e : Error) → RefusesForm (DeclaresNone code) e → RefusesBody names tags f ty code types all e
  uncounted (Memory e) h = tt
  uncounted (InvalidWasm kind) (inl many) = inl many
  uncounted (InvalidWasm kind) (inr none) = inr (λ declared ops r. none r.front r.back r.declared r.parts r.declares)
  uncounted DeadItem h = absurd h
  uncounted NoIndex h = absurd h
  uncounted TwoIndices h = absurd h
  uncounted TooLarge h = absurd h
  uncounted NotWritable h = absurd h
  uncounted NotFound h = absurd h
  uncounted SeveralMemories h = absurd h
  uncounted NoMemory h = absurd h
  uncounted SeveralFunctionTables h = absurd h
  uncounted NotExported h = absurd h
  uncounted NotImported h = absurd h
  uncounted NotReplaceable h = absurd h
  uncounted (Caller text) h = absurd h

  pub unread : (new_types : ModuleTypes) (new_locals : ModuleLocals) (e : IrError) → ReadsFunction (context names (is_function_at types) f) tags ty (slots_of types) (slots_of new_types) (locals all) (locals new_locals) code (Err e)
      → RefusesBody names tags f ty code types all (error_of_ir e)
  unread new_types new_locals ir.Malformed h = inr h
  unread new_types new_locals (ir.Memory e) h = tt
  unread new_types new_locals ir.NoIndex h = absurd h
  unread new_types new_locals ir.NotWritable h = absurd h
  unread new_types new_locals ir.TooLarge h = absurd h

pub no_front : {X : Type 0} (view : X → List Op) (names : Lookup) (types : ModuleTypes) (f : Features) (bytes parameters closed : List ℕ) (e : IrError) → closed ≡ bytes ++ END ∷ []
    → ReadsOperators (context names (is_function_at types) (record f { legacy_exceptions = false })) (slice_get parameters) view closed (Err e)
    → RefusesForm (IsNoFront names types f bytes parameters) (error_of_ir e)
no_front view names types f bytes parameters closed ir.Malformed is h =
    subst (λ (l : List ℕ). ReadsOperators (context names (is_function_at types) (record f { legacy_exceptions = false })) (slice_get parameters) view l (Err ir.Malformed)) is h
no_front view names types f bytes parameters closed (ir.Memory e) is h = tt
no_front view names types f bytes parameters closed ir.NoIndex is h = absurd h
no_front view names types f bytes parameters closed ir.NotWritable is h = absurd h
no_front view names types f bytes parameters closed ir.TooLarge is h = absurd h

-- ---- a function of a kind that has a body

module _ (names : Lookup) (types : ModuleTypes) (f : Features) (bytes : List ℕ) (kind : FunctionKind) (own : LocalFunction) (parameters : List (Id LocalKey)) (is : kind ≡ Local own) (are : map place parameters ≡ args_of own) where
  pub kind_refuses : (e : Error) → RefusesForm (IsNoFront names types f bytes (map place parameters)) e → RefusesKind names types f bytes kind e
  kind_refuses e h =
      subst (λ (k : FunctionKind). RefusesKind names types f bytes k e) (sym is)
      (subst (λ (ps : List ℕ). RefusesForm (IsNoFront names types f bytes ps) e) are h)

  pub kind_fronts : (read : List Op) (made : LocalFunction) → IsFront names types f bytes (map place parameters) read → body_of made ≡ but_last read ++ body_of own → KeepsOthers own made
      → FrontsKind names types f bytes kind (Local made)
  kind_fronts read made front operators others =
      subst (λ (k : FunctionKind). FrontsKind names types f bytes k (Local made)) (sym is)
      (made, refl, record { read = read; front = subst (λ (ps : List ℕ). IsFront names types f bytes ps read) are front; operators = operators; others = others })

  -- the same of what a text was made of
  pub text_fronts : (read : List Op) (made : LocalFunction) → LeadsToItself names → IsFront names types f bytes (map place parameters) read → Fronts bytes own made → FrontsKind names types f bytes kind (Local made)
  text_fronts read made in_place front fronts =
      kind_fronts read made front (fronts.operators names (is_function_at types) f read in_place (subst (λ (ps : List ℕ). IsFront names types f bytes ps read) are front)) fronts.others
