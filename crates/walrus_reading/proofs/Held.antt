-- What a module that took in the sections holds, function by function, with the types of its locals where they stand.
use Rattle.std.proofs.Common.{◌≡◌, ℕ, zero, suc, ◌+◌, ◌<◌, List, [], ◌∷◌, ◌++◌, length, map, flat_map, refl, sym, ap, ap₂, ◌∙◌, arith, append_assoc, length-append}
use Rattle.std.specs.Prelude.{Option, Some, None, slice_get, option_map, zip}
use Rattle.std.specs.List.{AllZip, range_with_len}
use Rattle.std.proofs.lemmas.List.{map-append, length-map, get_or-append-add}
use Rattle.walrus_base.specs.Arena.{item_at, entries_from}
use Rattle.walrus_base.specs.Id.{place}
use Rattle.walrus_base.specs.Types.{ValType}
use Rattle.walrus_base.specs.Locals.{locals, local_type}
use Rattle.walrus_base.specs.TypeDef.{TypeDef}
use Rattle.walrus_base.specs.Value.{val_type}
use Rattle.walrus_base.specs.declared.locals.Local.{Local}
use Rattle.walrus_items.specs.Function.{function_type, body_of, args_of}
use Rattle.walrus_items.specs.LocalFunction.{LocalFunction}
use Rattle.walrus_bodies.specs.declared.features.Features.{Features}
use Rattle.walrus_functions.specs.EmittedBody.{types_of as local_types}
use Rattle.walrus_functions.specs.Handlers.{params_of}
use Rattle.walrus_functions.specs.Laws.{moved_op}
use Rattle.walrus_items.specs.Exports.{ExportValue, exports}
use Rattle.walrus_items.specs.Functions.{FunctionValue}
use Rattle.walrus_items.specs.declared.function_kind.FunctionKind.TheVariants as variants
use Rattle.walrus_model.specs.Abstract.{Export}
use Rattle.walrus_model.specs.Sections.{Said, types_of, export_of}
use Rattle.walrus_contents.specs.View as view
use Rattle.walrus_contents.specs.declared.parts.Contents.{Contents}
use Rattle.walrus_reading.specs.TakenNames.{place_of, starts_from}
use Rattle.walrus_reading.specs.Placed.{AllPlaced}
use Rattle.walrus_reading.specs.Taken.{HasTaken, HoldsExport, HoldsLocal, HoldFunctions, local_counts, locals_said, starts_of}
use Rattle.walrus_reading.proofs.LocalStarts.{place_first, place_own}
use Rattle.wasm_entries.specs.Record as entries
use Rattle.wasm_frames.specs.Record as wire
use Rattle.walrus_model.proofs.PlacedTypes.{item_there as item_some}

-- a function holds a body that was read, among locals of these types
pub record HeldBody (slots : List (Option (ValType ℕ))) (ty : ℕ) (params : List (ValType ℕ)) (body : Said) (f : LocalFunction) : Type 0 where
  pub typed : place (function_type f) ≡ ty
  pub first : ℕ
  pub parameters : args_of f ≡ range_with_len first (length params)
  pub local_types : (x : ℕ) → x < length (params ++ body.0) → item_at slots (first + x) ≡ slice_get (params ++ body.0) x
  pub operators : body_of f ≡ map (moved_op first) body.1

-- a slot holds such a function, whose locals stand where these starts say
pub record HeldFunction (types : ℕ → Option TypeDef) (starts : List ℕ) (slots : List (Option (ValType ℕ))) (f : ℕ × Said) (slot : Option FunctionValue) : Type 0 where
  pub value : FunctionValue
  pub is : slot ≡ Some value
  pub local : LocalFunction
  pub kind : value.kind ≡ variants.Local local
  pub body : HeldBody slots f.0 (params_of (types f.0)) f.1 local
  pub places : (x : ℕ) → x < length (locals_said types f) → place_of starts value.id x ≡ Some (body.first + x)

-- ---- lists

-- what stands behind a list
past_front : {A : Type 0} (xs : List (Option A)) (ys : List A) (first x : ℕ) → length xs ≡ first → item_at (xs ++ map Some ys) (first + x) ≡ slice_get ys x
past_front xs ys first x long = ap (λ (n : ℕ). item_at (xs ++ map Some ys) (n + x)) (sym long) ∙ get_or-append-add xs (map Some ys) x None ∙ item_some ys x

pub in_front : {A : Type 0} (xs ys : List A) (x : ℕ) → x < length xs → slice_get (xs ++ ys) x ≡ slice_get xs x
in_front [] ys x lt = absurd (omega arith)
in_front (y ∷ xs) ys zero lt = refl
in_front (y ∷ xs) ys (suc x) lt = in_front xs ys x (omega arith)

-- ---- locals

locals_typed : (k : ℕ) (types : List (ValType ℕ)) (slots : List (Option Local)) → AllPlaced HoldsLocal k types slots → local_types slots ≡ map Some types
locals_typed k [] [] h = refl
locals_typed k [] (s ∷ slots) h = absurd h
locals_typed k (t ∷ types) [] h = absurd h
locals_typed k (t ∷ types) (s ∷ slots) h =
    let seen : Option Local → Option (ValType ℕ) = option_map (λ (l : Local). val_type (local_type l)) in
    ap₂ (λ (o : Option (ValType ℕ)) (l : List (Option (ValType ℕ))). o ∷ l) (ap seen h.0.is ∙ ap Some h.0.typed) (locals_typed (k + 1) types slots h.1)

-- ---- functions

module _ (types : ℕ → Option TypeDef) (starts : List ℕ) (all : List (Option (ValType ℕ))) where
  abbrev row : List (ℕ × Said) → List (ValType ℕ)
  row ps = flat_map (locals_said types) ps

  -- from a function on, the starts are those of these functions
  abbrev StandFrom : ℕ → ℕ → List (ℕ × Said) → Type 0
  StandFrom id first ps = (j x : ℕ) → place_of starts (id + j) x ≡ place_of (starts_from first (local_counts types ps)) j x

  each_held : (front : List (ValType ℕ)) (id first : ℕ) (ps : List (ℕ × Said)) (slots : List (Option FunctionValue)) → all ≡ map Some (front ++ row ps) → length front ≡ first → StandFrom id first ps → HoldFunctions types id first ps slots → AllZip (HeldFunction types starts all) ps slots
  each_held front id first [] [] is long stand h = tt
  each_held front id first [] (s ∷ slots) is long stand h = absurd h
  each_held front id first (p ∷ ps) [] is long stand h = absurd h
  each_held front id first (p ∷ ps) (s ∷ slots) is long stand h =
      let own : List (ValType ℕ) = locals_said types p in (
        record {
          value = record { id = id; kind = variants.Local h.0.local; name = None };
          is = h.0.is;
          local = h.0.local;
          kind = refl;
          body = record {
            typed = h.0.body.typed;
            first = first;
            parameters = h.0.body.parameters;
            local_types = λ x lt.
                ap (λ (l : List (Option (ValType ℕ))). item_at l (first + x)) (is ∙ map-append Some front (own ++ row ps))
                ∙ past_front (map Some front) (own ++ row ps) first x (length-map front Some ∙ long)
                ∙ in_front own (row ps) x lt;
            operators = h.0.body.operators;
          };
          places = λ x lt.
              let here : id ≡ id + 0 = omega arith in
              ap (λ (n : ℕ). place_of starts n x) here ∙ stand 0 x ∙ place_first first (length own) (local_counts types ps) x lt;
        },
        each_held (front ++ own) (id + 1) (first + length own) ps slots (is ∙ ap (map Some) (sym (append_assoc front own (row ps)))) (length-append front own ∙ ap (λ (n : ℕ). n + length own) long)
            (λ j x. let next : id + 1 + j ≡ id + suc j = omega arith in ap (λ (n : ℕ). place_of starts n x) next ∙ stand (suc j) x) h.1,
      )

-- ---- exports

exports_seen : (k n : ℕ) (es : List entries.Export) (slots : List (Option ExportValue)) → AllPlaced HoldsExport k es slots → map view.export_of (map (λ e. e.1) (entries_from n slots)) ≡ map export_of es
exports_seen k n [] [] h = refl
exports_seen k n [] (s ∷ slots) h = absurd h
exports_seen k n (e ∷ es) [] h = absurd h
exports_seen k n (e ∷ es) (s ∷ slots) h =
    ap (λ (o : Option ExportValue). map view.export_of (map (λ e. e.1) (entries_from n (o ∷ slots)))) h.0.is
    ∙ ap₂ (λ (x : Export) (l : List Export). x ∷ l) h.0.read (exports_seen (k + 1) (n + 1) es slots h.1)

-- ---- all

module _ (c : Features) (r : wire.Module) (m : Contents) (t : HasTaken c r m) where
  -- where the locals of each function begin
  abbrev pub starts_taken : List ℕ
  starts_taken = starts_of (types_of r) (length t.functions.front) (zip r.functions t.bodies)

  pub held : AllZip (HeldFunction (types_of r) starts_taken (local_types (locals m.locals))) (zip r.functions t.bodies) t.functions.own.added
  held =
      let all : List (ℕ × Said) = zip r.functions t.bodies in
      each_held (types_of r) starts_taken (local_types (locals m.locals)) [] (length t.functions.front) 0 all t.functions.own.added (locals_typed 0 (flat_map (locals_said (types_of r)) all) (locals m.locals) t.locals) refl
      (place_own (types_of r) (length t.functions.front) all) t.functions.own.held

  pub exported : view.exports_of m.exports ≡ map export_of r.exports
  exported = exports_seen 0 0 r.exports (exports m.exports) t.exports
