-- Each function of the sections is held: those that imports bring, and behind them those with bodies.
use Rattle.std.proofs.Common.{◌≡◌, ℕ, ◌+◌, List, [], ◌∷◌, ◌++◌, length, map, refl, sym, subst, arith, inl, inr, ◌⊎◌}
use Rattle.std.specs.Prelude.{Option, Some, option_to_list, zip}
use Rattle.std.specs.List.{AllZip, AllByRecursion}
use Rattle.wasm_entries.specs.declared.record.RawDesc.{RawDesc}
use Rattle.wasm_entries.specs.declared.record.RawDesc.TheVariants as descs
use Rattle.wasm_entries.specs.Record as entries
use Rattle.wasm_frames.specs.Record as wire
use Rattle.walrus_base.specs.Locals.{locals}
use Rattle.walrus_base.specs.declared.locals.ModuleLocals.{ModuleLocals}
use Rattle.walrus_bodies.specs.declared.features.Features.{Features}
use Rattle.walrus_functions.specs.EmittedBody.{types_of as local_types}
use Rattle.walrus_bodies.proofs.LawNamed.{each_append}
use Rattle.walrus_items.specs.Functions.{FunctionValue, functions}
use Rattle.walrus_model.specs.Abstract.{Function, ImportedFunction}
use Rattle.walrus_model.specs.Reads.{ReadsBodyWith}
use Rattle.walrus_model.specs.Sections.{Said, function_with, functions_of, imported, imported_function, types_of}
use Rattle.walrus_model.proofs.AlongRecords.{zip_append}
use Rattle.walrus_contents.specs.View.{function}
use Rattle.walrus_contents.specs.declared.parts.Contents.{Contents}
use Rattle.walrus_reading.specs.Held.{HoldsImportedFunction}
use Rattle.walrus_reading.specs.Placed.{AllPlaced}
use Rattle.walrus_reading.specs.Taken.{HasTaken}
use Rattle.walrus_reading.proofs.Held.{HeldFunction, held, starts_taken}

-- ---- what imports bring has no body

abbrev pub IsImported : Function → Type 0
IsImported g = (p : ℕ) × (g.kind ≡ ImportedFunction p)

one_imported : (i : ℕ) (d : RawDesc) → AllByRecursion IsImported (option_to_list (imported_function i d))
one_imported i (descs.Function ty) = ((i, refl), tt)
one_imported i (descs.Table t) = tt
one_imported i (descs.Memory l) = tt
one_imported i (descs.Global g) = tt
one_imported i (descs.Tag ty) = tt

pub all_imported : (i : ℕ) (xs : List entries.Import) → AllByRecursion IsImported (imported imported_function i xs)
all_imported i [] = tt
all_imported i (x ∷ xs) = each_append IsImported (option_to_list (imported_function i x.desc)) (imported imported_function (i + 1) xs) (one_imported i x.desc) (all_imported (i + 1) xs)

-- ---- slot by slot

module _ (c : Features) (r : wire.Module) (starts : List ℕ) (all : ModuleLocals) where
  -- a slot holds this function, which an import brings
  pub record IsBrought (g : Function) (slot : Option FunctionValue) : Type 0 where
    pub value : FunctionValue
    pub is : slot ≡ Some value
    pub read : function all value ≡ g
    pub by : IsImported g

  -- a slot holds this function, whose body was read
  pub record IsOwn (g : Function) (slot : Option FunctionValue) : Type 0 where
    pub pair : ℕ × Said
    pub says : g ≡ function_with r pair
    pub text : wire.Body
    pub holds : HeldFunction (types_of r) starts (local_types (locals all)) pair slot
    pub read : ReadsBodyWith c r (pair.0, text) pair.1

  abbrev pub Fits : Function → Option FunctionValue → Type 0
  Fits g slot = IsBrought g slot ⊎ IsOwn g slot

  brought_fit : (k : ℕ) (gs : List Function) (slots : List (Option FunctionValue)) → AllByRecursion IsImported gs → AllPlaced HoldsImportedFunction k gs slots → AllZip Fits gs slots
  brought_fit k [] [] by h = tt
  brought_fit k [] (s ∷ slots) by h = absurd h
  brought_fit k (g ∷ gs) [] by h = absurd h
  brought_fit k (g ∷ gs) (s ∷ slots) by h = (inl (record { value = h.0.value; is = h.0.is; read = h.0.read all; by = by.0 }), brought_fit (k + 1) gs slots by.1 h.1)

  own_fit : (fs : List ℕ) (bs : List wire.Body) (saids : List Said) (slots : List (Option FunctionValue)) → length bs ≡ length fs → AllZip (ReadsBodyWith c r) (zip fs bs) saids → AllZip (HeldFunction (types_of r) starts (local_types (locals all))) (zip fs saids) slots
      → AllZip Fits (map (function_with r) (zip fs saids)) slots
  own_fit [] [] [] [] many read h = tt
  own_fit [] [] [] (s ∷ slots) many read h = absurd h
  own_fit [] [] (said ∷ saids) slots many read h = absurd read
  own_fit [] (b ∷ bs) saids slots many read h = absurd (omega (arith, many))
  own_fit (f ∷ fs) [] saids slots many read h = absurd (omega (arith, many))
  own_fit (f ∷ fs) (b ∷ bs) [] slots many read h = absurd read
  own_fit (f ∷ fs) (b ∷ bs) (said ∷ saids) [] many read h = absurd h
  own_fit (f ∷ fs) (b ∷ bs) (said ∷ saids) (s ∷ slots) many read h =
      (inr (record { pair = (f, said); says = refl; text = b; holds = h.0; read = read.0 }), own_fit fs bs saids slots (omega (arith, many)) read.1 h.1)

-- all of them
pub all_fit : (c : Features) (r : wire.Module) (m : Contents) (t : HasTaken c r m) → length r.bodies ≡ length r.functions → AllZip (Fits c r (starts_taken c r m t) m.locals) (functions_of r t.bodies) (functions m.funcs)
all_fit c r m t many =
    let brought : List Function = imported imported_function 0 r.imports in
    let own : List Function = map (function_with r) (zip r.functions t.bodies) in
    subst (λ (l : List (Option FunctionValue)). AllZip (Fits c r (starts_taken c r m t) m.locals) (brought ++ own) l) (sym t.functions.own.behind)
    (zip_append (Fits c r (starts_taken c r m t) m.locals) brought own t.functions.front t.functions.own.added
    (brought_fit c r (starts_taken c r m t) m.locals 0 brought t.functions.front (all_imported 0 r.imports) t.functions.brings)
    (own_fit c r (starts_taken c r m t) m.locals r.functions r.bodies t.bodies t.functions.own.added many t.read (held c r m t)))
