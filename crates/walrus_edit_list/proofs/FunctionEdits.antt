-- What edits of functions make, from what their steps answer.
use Rattle.std.proofs.Common.{◌≡◌, ℕ, ◌+◌, true, List, [], ◌∷◌, ◌++◌, length, Option, Some, option_map, slice_set, sym, ap, ◌∙◌, subst, inr, Err}
use Rattle.wasm_entries.specs.Record.{Group}
use Rattle.walrus_base.specs.Arena.{item_at}
use Rattle.walrus_base.specs.Id.{place}
use Rattle.walrus_base.specs.ModuleTypes.{type_slots}
use Rattle.walrus_base.specs.TypeDef.{TypeDef}
use Rattle.walrus_base.specs.declared.id.Id.{Id}
use Rattle.walrus_base.specs.declared.keys.FunctionKey.{FunctionKey}
use Rattle.walrus_base.specs.declared.keys.ImportKey.{ImportKey}
use Rattle.walrus_base.specs.declared.keys.TypeKey.{TypeKey}
use Rattle.walrus_base.proofs.Standing.{some_inj}
use Rattle.walrus_bodies.specs.declared.features.Features.{Features}
use Rattle.walrus_code.specs.Names.{Lookup}
use Rattle.walrus_code.specs.declared.error.IrError.{IrError}
use Rattle.walrus_code.specs.declared.error.IrError.TheVariants as ir
use Rattle.walrus_contents.specs.declared.parts.Contents.{Contents}
use Rattle.walrus_groups.specs.Groups.{ReadsTypes}
use Rattle.walrus_items.specs.Errors.{error_of_ir}
use Rattle.walrus_items.specs.Function.{name_of}
use Rattle.walrus_items.specs.FunctionKinds.{IsImport, kind_type}
use Rattle.walrus_items.specs.Functions.{FunctionValue, functions}
use Rattle.walrus_items.specs.Imports.{imports}
use Rattle.walrus_items.specs.LocalFunction.{LocalFunction}
use Rattle.walrus_items.specs.declared.function_kind.FunctionKind.{FunctionKind}
use Rattle.walrus_items.specs.declared.function_kind.FunctionKind.TheVariants as kinds
use Rattle.walrus_items.specs.declared.kinds.ImportKind.TheVariants.{Function}
use Rattle.walrus_module.specs.Replaced.{with_body}
use Rattle.walrus_edit_list.specs.Bringing.{BringsFunction}
use Rattle.walrus_edit_list.specs.Fronts.{FrontsFunction, FrontsKind}
use Rattle.walrus_edit_list.specs.Functions.{AddsFunction, IsBodyOf, IsReadAs, SetsFunction, brought_by, without}
use Rattle.walrus_edit_list.specs.Held.{Held}
use Rattle.walrus_edit_list.specs.Ids.{ids_of, tag_types}
use Rattle.walrus_edit_list.specs.Types.{RefusesTypes}

-- ---- types

pub untyped : (groups : List Group) (old : Held) (new : List (Option TypeDef)) (e : IrError) → ReadsTypes groups (type_slots old.contents.types) new (Err e) → RefusesTypes groups old (error_of_ir e)
untyped groups old new ir.Malformed h = inr h
untyped groups old new ir.TooLarge h = h
untyped groups old new (ir.Memory e) h = tt
untyped groups old new ir.NoIndex h = absurd h
untyped groups old new ir.NotWritable h = absurd h

-- ---- a body that was read

module _ (f : Features) (number : ℕ) (code : List ℕ) (old new : Contents) (names : Lookup) (tags : ℕ → Option ℕ) (is : names ≡ ids_of old) (are : tags ≡ tag_types old.tags) where
  read_so : (ty : ℕ) → ty ≡ number → (made : LocalFunction) → IsBodyOf names tags f ty code old.types new.types old.locals new.locals made → IsReadAs f number code old new made
  read_so ty at made read =
      subst (λ (ns : Lookup). IsBodyOf ns (tag_types old.tags) f number code old.types new.types old.locals new.locals made) is
      (subst (λ (ts : ℕ → Option ℕ). IsBodyOf names ts f number code old.types new.types old.locals new.locals made) are
      (subst (λ (t : ℕ). IsBodyOf names tags f t code old.types new.types old.locals new.locals made) at read))

-- ---- functions

module _ (f : Features) (number : ℕ) (code : List ℕ) (old new : Held) (names : Lookup) (tags : ℕ → Option ℕ) (is : names ≡ ids_of old.contents) (are : tags ≡ tag_types old.contents.tags) where
  pub adds_so : (ty : ℕ) → ty ≡ number → (made : LocalFunction) → IsBodyOf names tags f ty code old.contents.types new.contents.types old.contents.locals new.contents.locals made
      → (id : ℕ) → id ≡ length (functions old.contents.funcs) → functions new.contents.funcs ≡ functions old.contents.funcs ++ Some (record { id = id; kind = kinds.Local made; name = name_of made }) ∷ []
      → new ≡ record old { contents = record old.contents { types = new.contents.types; locals = new.contents.locals; funcs = new.contents.funcs }; has_read = true }
      → AddsFunction f number code old new
  adds_so ty at made read id last added others = record {
    made = made;
    read = read_so f number code old.contents new.contents names tags is are ty at made read;
    added = added
        ∙ ap (λ (n : ℕ). let g : FunctionValue = record { id = n; kind = kinds.Local made; name = name_of made } in functions old.contents.funcs ++ Some g ∷ []) last
        ∙ ap (λ (n : Option (List ℕ)). let g : FunctionValue = record { id = length (functions old.contents.funcs); kind = kinds.Local made; name = n } in functions old.contents.funcs ++ Some g ∷ []) read.read.unnamed;
    others = others;
  }

  pub sets_so : (id : ℕ) → id ≡ number → (g : FunctionValue) → item_at (functions old.contents.funcs) id ≡ Some g → (ty : Id TypeKey) → ty ≡ kind_type g.kind → (made : LocalFunction)
      → IsBodyOf names tags f (place ty) code old.contents.types new.contents.types old.contents.locals new.contents.locals made
      → functions new.contents.funcs ≡ slice_set (functions old.contents.funcs) id (option_map (with_body made) (item_at (functions old.contents.funcs) id))
      → (dropped : Option ℕ) → dropped ≡ brought_by g.kind → imports new.contents.imports ≡ without dropped (imports old.contents.imports)
      → new ≡ record old { contents = record old.contents { types = new.contents.types; locals = new.contents.locals; funcs = new.contents.funcs; imports = new.contents.imports }; has_read = true }
      → SetsFunction f number code old new
  sets_so id at g there ty typed made read set dropped from own others = record {
    function = g;
    there = subst (λ (n : ℕ). item_at (functions old.contents.funcs) n ≡ Some g) at there;
    made = made;
    read = read_so f (place (kind_type g.kind)) code old.contents new.contents names tags is are (place ty) (ap place typed) made read;
    set = set ∙ ap (λ (o : Option FunctionValue). slice_set (functions old.contents.funcs) id (option_map (with_body made) o)) there
        ∙ ap (λ (n : ℕ). slice_set (functions old.contents.funcs) n (Some (with_body made g))) at;
    own = own ∙ ap (λ (o : Option ℕ). without o (imports old.contents.imports)) from;
    others = others;
  }

-- ---- a function that is brought, and one with operators in front

module _ (number id : ℕ) (at : id ≡ number) (old new : Contents) where
  pub brings_so : (from name : List ℕ) (function again : FunctionValue) → (IsImport function.kind → ⊥) → item_at (functions old.funcs) id ≡ Some function → item_at (functions old.funcs) id ≡ Some again
      → (brought : Id FunctionKey) → place brought ≡ id → (by : Id ImportKey) → place by ≡ length (imports old.imports)
      → imports new.imports ≡ imports old.imports ++ Some (record { id = place by; module_name = from; name = name; kind = Function brought }) ∷ []
      → (ty : Id TypeKey) → ty ≡ kind_type function.kind
      → functions new.funcs ≡ slice_set (functions old.funcs) id (Some (record again { kind = kinds.Import (record { ty = ty; «import» = by }) }))
      → new ≡ record old { funcs = new.funcs; imports = new.imports } → BringsFunction number from name old new
  brings_so from name function again own there stands brought is by next added ty typed set others =
      let same : again ≡ function = some_inj again function (sym stands ∙ there) in
      record {
        function = function;
        there = subst (λ (n : ℕ). item_at (functions old.funcs) n ≡ Some function) at there;
        own = own;
        brought = brought;
        is = is ∙ at;
        by = by;
        next = next;
        import_added = added;
        set = set
            ∙ ap (λ (g : FunctionValue). slice_set (functions old.funcs) id (Some (record g { kind = kinds.Import (record { ty = ty; «import» = by }) }))) same
            ∙ ap (λ (t : Id TypeKey). slice_set (functions old.funcs) id (Some (record function { kind = kinds.Import (record { ty = t; «import» = by }) }))) typed
            ∙ ap (λ (n : ℕ). slice_set (functions old.funcs) n (Some (record function { kind = kinds.Import (record { ty = kind_type function.kind; «import» = by }) }))) at;
        others = others;
      }

  pub fronts_so : (f : Features) (bytes : List ℕ) (g : FunctionValue) → item_at (functions old.funcs) id ≡ Some g → (kind : FunctionKind) (names : Lookup) → names ≡ ids_of old
      → FrontsKind names old.types f bytes g.kind kind → functions new.funcs ≡ slice_set (functions old.funcs) id (Some (record g { kind = kind })) → new ≡ record old { funcs = new.funcs }
      → FrontsFunction f number bytes old new
  fronts_so f bytes g there kind names is fronts set others = record {
    function = g;
    there = subst (λ (n : ℕ). item_at (functions old.funcs) n ≡ Some g) at there;
    kind = kind;
    fronts = subst (λ (ns : Lookup). FrontsKind ns old.types f bytes g.kind kind) is fronts;
    set = set ∙ ap (λ (n : ℕ). slice_set (functions old.funcs) n (Some (record g { kind = kind }))) at;
    others = others;
  }
