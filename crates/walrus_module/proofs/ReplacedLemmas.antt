-- What replacing a function does to a module, from what its steps answer.
use Rattle.std.proofs.Common.{◌≡◌, ℕ, Bool, List, [], ◌∷◌, ◌++◌, length, Option, Some, None, Result, Ok, Err, IsSome, MatchResult, map, option_map, slice_set, refl, sym, ap, subst, inl, inr, ◌∙◌}
use Rattle.std.specs.Borrow.{Bor}
use Rattle.std.proofs.lemmas.List.{map-set}
use Rattle.walrus_base.specs.Arena.{item_at}
use Rattle.walrus_base.specs.Id.{place}
use Rattle.walrus_base.specs.declared.id.Id.{Id}
use Rattle.walrus_base.specs.declared.keys.FunctionKey.{FunctionKey}
use Rattle.walrus_base.specs.declared.keys.LocalKey.{LocalKey}
use Rattle.walrus_base.specs.declared.keys.TypeKey.{TypeKey}
use Rattle.walrus_base.specs.Locals.{locals}
use Rattle.walrus_base.specs.ModuleTypes.{type_slots}
use Rattle.walrus_base.specs.Operators.{function_item}
use Rattle.walrus_base.specs.TypeDef.{TypeDef}
use Rattle.walrus_base.specs.Value.{val_type}
use Rattle.walrus_base.specs.declared.value.ValType.{ValType}
use Rattle.walrus_items.specs.Function.{function_type, name_of}
use Rattle.walrus_items.specs.LocalFunction.{LocalFunction}
use Rattle.walrus_model.specs.BodyRead.{AddsLocals}
use Rattle.walrus_model.specs.BlockHandlers.{params_of}
use Rattle.walrus_items.specs.Errors.{out_of_memory}
use Rattle.walrus_items.specs.declared.error.Error.{Error}
use Rattle.walrus_items.specs.declared.function_kind.FunctionKind.{FunctionKind}
use Rattle.walrus_items.specs.declared.function_kind.FunctionKind.TheVariants.{Import, Local, Uninitialized}
use Rattle.walrus_items.specs.declared.function_kind.ImportedFunction.{ImportedFunction}
use Rattle.walrus_items.specs.Exports.{ExportValue, exports, exports_item}
use Rattle.walrus_items.specs.Functions.{FunctionValue, functions}
use Rattle.walrus_items.specs.Imports.{ImportValue, imported_function, imports, imports_item}
use Rattle.walrus_items.specs.Searches.{first}
use Rattle.walrus_base.proofs.SearchFound.{IsFound, is_found}
use Rattle.walrus_module.specs.Replaced.{AddsParameters, AreParameters, Builds, IsMadeLocal, IsNew, LendsBody, LendsKind, MakesBroughtLocal, MakesFoundLocal, MakesImportedLocal, MakesKindLocal, MakesLocal, MakesSlotLocal, OnlyLocals, Refuses, RefusesBody, RefusesLocal, ReplacesExported, ReplacesFound, ReplacesImported, ReplacesKind, SameFunctions, TellsBrought, TellsFunction, TellsKind, TellsType, naming, with_body}
use Rattle.walrus_module.specs.declared.module.Module.{Module}

-- an item that is changed at its place
pub put_seen : {T U : Type 0} (value : T → U) (change : U → U) (slots : List (Option T)) (n : ℕ) (last : T) (v : U) → item_at (map (option_map value) slots) n ≡ Some v → value last ≡ change v
    → map (option_map value) (slice_set slots n (Some last)) ≡ slice_set (map (option_map value) slots) n (option_map change (item_at (map (option_map value) slots) n))
put_seen {T} {U} value change slots n last v there is =
    map-set (option_map value) slots n (Some last) ∙ ap (λ (o : Option U). slice_set (map (option_map value) slots) n o) (ap Some is ∙ ap (option_map change) (sym there))

-- the place of what was found is live
pub found_lives : {T : Type 0} (p : ℕ × T → Bool) (ss : List (Option T)) (n : ℕ) → IsFound p ss n → IsSome (item_at ss n)
found_lives p ss n found = subst (λ o. IsSome o) (sym found.item) refl

-- what is answered is no refusal
wrong : {A E : Type 0} {x : A} {e : E} → ◌≡◌ {A = Result A E} (Ok x) (Err e) → ⊥
wrong same = cc

-- ---- what stands at a place

-- a function with this body
pub record HasBody (s : Option FunctionValue) (l : LocalFunction) : Type 0 where
  pub function : FunctionValue
  pub there : s ≡ Some function
  pub kind : function.kind ≡ Local l

pub has_body : (s : Option FunctionValue) (b : Bor LocalFunction) → LendsBody s (Ok b) → HasBody s b.now
has_body None b h = absurd (wrong h)
has_body (Some f) b h = record { function = f; there = refl; kind = by_kind f.kind h } where
  by_kind : (k : FunctionKind) → LendsKind k (Ok b) → k ≡ Local b.now
  by_kind (Local l) same = ap (λ (x : LocalFunction). Local x) (sym same)
  by_kind (Import i) h = absurd (wrong h)
  by_kind (Uninitialized ty) h = absurd (wrong h)

-- an imported function of this type
pub record HasType (s : Option FunctionValue) (ty : Id TypeKey) : Type 0 where
  pub function : FunctionValue
  pub imported : ImportedFunction
  pub there : s ≡ Some function
  pub kind : function.kind ≡ Import imported
  pub typed : imported.ty ≡ ty

pub has_type : (s : Option FunctionValue) (ty : Id TypeKey) → TellsType s (Ok ty) → HasType s ty
has_type None ty h = absurd (wrong h)
has_type (Some f) ty h = by_kind f.kind refl h where
  by_kind : (k : FunctionKind) → f.kind ≡ k → TellsKind k (Ok ty) → HasType (Some f) ty
  by_kind (Import i) is same = record { function = f; imported = i; there = refl; kind = is; typed = let q : ◌≡◌ {A = Result (Id TypeKey) Error} (Ok ty) (Ok i.ty) = same in sym (the_ok q) } where
    the_ok : {a b : Id TypeKey} → ◌≡◌ {A = Result (Id TypeKey) Error} (Ok a) (Ok b) → a ≡ b
    the_ok q = cc
  by_kind (Local l) is h = absurd (wrong h)
  by_kind (Uninitialized t) is h = absurd (wrong h)

-- an import that brings this function
pub record BringsFunction (slot : Option ImportValue) (fid : Id FunctionKey) : Type 0 where
  pub value : ImportValue
  pub there : slot ≡ Some value
  pub function : imported_function value.kind ≡ Some fid

pub brings_function : (slot : Option ImportValue) (fid : Id FunctionKey) → TellsBrought slot (Ok fid) → BringsFunction slot fid
brings_function None fid h = absurd (wrong h)
brings_function (Some x) fid h = record { value = x; there = refl; function = by_function (imported_function x.kind) h } where
  by_function : (o : Option (Id FunctionKey)) → TellsFunction o (Ok fid) → o ≡ Some fid
  by_function None h = absurd (wrong h)
  by_function (Some f) same = ap Some (sym (the_ok same)) where
    the_ok : {a b : Id FunctionKey} → ◌≡◌ {A = Result (Id FunctionKey) Error} (Ok a) (Ok b) → a ≡ b
    the_ok q = cc

-- where an import's place brings no function, nothing changes
pub not_brought : {S : Type 0} (post : Builds) (n : ℕ) (slot : Option ImportValue) (e : Error) (m : Module S) → TellsBrought slot (Err e) → MakesImportedLocal post n slot m m (Err e)
not_brought post n None e m h = (h, refl)
not_brought post n (Some x) e m h = by_function (imported_function x.kind) h where
  by_function : (o : Option (Id FunctionKey)) → TellsFunction o (Err e) → MakesBroughtLocal post n o m m (Err e)
  by_function None h = (h, refl)
  by_function (Some f) h = absurd (wrong (sym h))

-- where it brings one, that is made local
pub by_brought : {S : Type 0} (post : Builds) (fid : Id FunctionKey) (n : ℕ) (slot : Option ImportValue) (old new : Module S) (result : Result (Id FunctionKey) Error)
    → TellsBrought slot (Ok fid) → MakesSlotLocal post fid n (item_at (functions old.funcs) (place fid)) old new result → MakesImportedLocal post n slot old new result
by_brought post fid n slot old new result told made =
    let b = brings_function slot fid told in
    subst (λ (o : Option ImportValue). MakesImportedLocal post n o old new result) (sym b.there)
    (subst (λ (o : Option (Id FunctionKey)). MakesBroughtLocal post n o old new result) (sym b.function) made)

module _ {S : Type 0} (post : Builds) (fid : Id FunctionKey) (old new : Module S) where
  -- ---- an exported function

  module _ (n : ℕ) (b : Bor LocalFunction)
      (named : Some n ≡ option_map (λ e. e.0) (first (exports_item (function_item (place fid))) (exports old.exports)))
      (lent : LendsBody (item_at (functions old.funcs) (place fid)) (Ok b)) where
    abbrev found : IsFound (λ (e : ℕ × ExportValue). exports_item (function_item (place fid)) e.1) (exports old.exports) n
    found = is_found (λ (e : ℕ × ExportValue). exports_item (function_item (place fid)) e.1) (exports old.exports) n named

    abbrev body : HasBody (item_at (functions old.funcs) (place fid)) b.now
    body = has_body (item_at (functions old.funcs) (place fid)) b lent

    pub export_lives : IsSome (item_at (exports old.exports) n)
    export_lives = found_lives _ (exports old.exports) n found

    exported : (result : Result (Id FunctionKey) Error) → ReplacesKind post found.entry (Local b.now) old new result → ReplacesExported post fid old new result
    exported result given =
        subst (λ o. ReplacesFound post o (item_at (functions old.funcs) (place fid)) old new result) (sym found.found)
        (subst (λ s. ReplacesFound post (Some found.entry) s old new result) (sym body.there)
        (subst (λ k. ReplacesKind post found.entry k old new result) (sym body.kind) given))

    -- memory ran out while the parameters were listed
    pub export_no_room : (e : Error) → e ≡ out_of_memory → SameFunctions old new → ReplacesExported post fid old new (Err e)
    export_no_room e is same = exported (Err e) (inl is, same)

    -- with these parameters
    module _ (ty : Id TypeKey) (args : List (Id LocalKey)) (typed : ty ≡ function_type b.now) (taken : AreParameters args b.now) where
      pub export_refused : (e : Error) → Refuses post args e → SameFunctions old new → ReplacesExported post fid old new (Err e)
      export_refused e refuses same = exported (Err e) (by_cause refuses, same) where
        by_cause : Refuses post args e → RefusesBody post b.now e
        by_cause (inl memory) = inl memory
        by_cause (inr closure) = inr (args, taken, closure)

      pub export_replaced : (function : LocalFunction) (id : Id FunctionKey) → IsNew post ty args function → place id ≡ length (functions old.funcs)
          → functions new.funcs ≡ functions old.funcs ++ Some (record { id = place id; kind = Local function; name = name_of function }) ∷ []
          → exports new.exports ≡ slice_set (exports old.exports) n (option_map (naming id) (item_at (exports old.exports) n))
          → new ≡ record old { funcs = new.funcs; exports = new.exports } → ReplacesExported post fid old new (Ok id)
      export_replaced function id made next funcs redirected others = exported (Ok id) (record {
        is_next = next;
        args = args;
        parameters = taken;
        function = function;
        is_new = subst (λ t. IsNew post t args function) typed made;
        funcs = funcs ∙ ap (λ (name : Option (List ℕ)). functions old.funcs ++ Some (record { id = place id; kind = Local function; name = name }) ∷ []) made.unnamed;
        exported = redirected ∙ ap (λ (o : Option ExportValue). slice_set (exports old.exports) n (option_map (naming id) o)) found.item ∙ ap (λ (i : ℕ). slice_set (exports old.exports) i (Some (naming id found.entry.1))) (sym found.at_place);
        others = others;
      })

  -- ---- an imported function

  module _ (n : ℕ) (named : Some n ≡ option_map (λ e. e.0) (first (imports_item (function_item (place fid))) (imports old.imports))) where
    abbrev found_import : IsFound (λ (e : ℕ × ImportValue). imports_item (function_item (place fid)) e.1) (imports old.imports) n
    found_import = is_found (λ (e : ℕ × ImportValue). imports_item (function_item (place fid)) e.1) (imports old.imports) n named

    pub import_lives : IsSome (item_at (imports old.imports) n)
    import_lives = found_lives _ (imports old.imports) n found_import

    pub by_first_import : (result : Result (Id FunctionKey) Error) → MakesSlotLocal post fid n (item_at (functions old.funcs) (place fid)) old new result → ReplacesImported post fid old new result
    by_first_import result given =
        subst (λ o. MakesFoundLocal post fid o (item_at (functions old.funcs) (place fid)) old new result) (sym found_import.found)
        (subst (λ i. MakesSlotLocal post fid i (item_at (functions old.funcs) (place fid)) old new result) (sym found_import.at_place) given)

  module _ (n : ℕ) (ty : Id TypeKey) (told : TellsType (item_at (functions old.funcs) (place fid)) (Ok ty)) where
    abbrev has : HasType (item_at (functions old.funcs) (place fid)) ty
    has = has_type (item_at (functions old.funcs) (place fid)) ty told

    abbrev Makes : Result (Id FunctionKey) Error → Type 0
    Makes result = MakesSlotLocal post fid n (item_at (functions old.funcs) (place fid)) old new result

    imported : (result : Result (Id FunctionKey) Error) → MakesLocal post fid n has.function ty (item_at (type_slots old.types) (place ty)) old new result → Makes result
    imported result given =
        subst (λ s. MakesSlotLocal post fid n s old new result) (sym has.there)
        (subst (λ k. MakesKindLocal post fid n has.function k old new result) (sym has.kind)
        (subst (λ t. MakesLocal post fid n has.function t (item_at (type_slots old.types) (place t)) old new result) (sym has.typed) given))

    -- of a live type
    module _ (live : IsSome (item_at (type_slots old.types) (place ty))) where
      with_type : (o : Option TypeDef) → IsSome o → (result : Result (Id FunctionKey) Error)
          → ((def : TypeDef) → o ≡ Some def → MatchResult result (IsMadeLocal post fid n has.function ty def old new) (λ e. RefusesLocal post def old new e × OnlyLocals old new))
          → MakesLocal post fid n has.function ty o old new result
      with_type None none result given = absurd cc
      with_type (Some def) there result given = given def refl

      by_def : (result : Result (Id FunctionKey) Error)
          → ((def : TypeDef) → item_at (type_slots old.types) (place ty) ≡ Some def → MatchResult result (IsMadeLocal post fid n has.function ty def old new) (λ e. RefusesLocal post def old new e × OnlyLocals old new))
          → Makes result
      by_def result given = imported result (with_type (item_at (type_slots old.types) (place ty)) live result given)

      -- memory ran out while locals were added
      pub import_no_room : (e : Error) → e ≡ out_of_memory → OnlyLocals old new → Makes (Err e)
      import_no_room e is only = by_def (Err e) (λ def is_def. (inl is, only))

      module _ (types : List ValType) (args : List (Id LocalKey)) (takes : map val_type types ≡ params_of (item_at (type_slots old.types) (place ty)))
          (added : AddsLocals (locals old.locals) (locals new.locals) args types) where
        parameters : (def : TypeDef) → item_at (type_slots old.types) (place ty) ≡ Some def → AddsParameters def old new args
        parameters def is_def = record { types = types; taken = takes ∙ ap params_of is_def; added = added }

        -- the closure refused, or memory ran out behind it
        pub import_refused : (e : Error) → Refuses post args e → OnlyLocals old new → Makes (Err e)
        import_refused e refuses only = by_def (Err e) (λ def is_def. (by_cause def is_def refuses, only)) where
          by_cause : (def : TypeDef) → item_at (type_slots old.types) (place ty) ≡ Some def → Refuses post args e → RefusesLocal post def old new e
          by_cause def is_def (inl memory) = inl memory
          by_cause def is_def (inr closure) = inr (args, parameters def is_def, closure)

        pub import_replaced : (function : LocalFunction) → IsNew post ty args function
            → functions new.funcs ≡ slice_set (functions old.funcs) (place fid) (option_map (with_body function) (item_at (functions old.funcs) (place fid)))
            → imports new.imports ≡ slice_set (imports old.imports) n None
            → new ≡ record old { funcs = new.funcs; imports = new.imports; locals = new.locals } → Makes (Ok fid)
        import_replaced function made funcs gone others = by_def (Ok fid) (λ def is_def. record {
          same = refl;
          args = args;
          parameters = parameters def is_def;
          function = function;
          is_new = made;
          funcs = funcs ∙ ap (λ (o : Option FunctionValue). slice_set (functions old.funcs) (place fid) (option_map (with_body function) o)) has.there;
          gone = gone;
          others = others;
        })
