-- A segment is found exactly where each item that it names has a number.
use Rattle.std.proofs.Common.{ℕ, List, [], ◌∷◌, map, Some, refl}
use Rattle.std.specs.Prelude.{IsSome, flat_map}
use Rattle.wasm_forms.specs.Reading.{◌>>=◌}
use Rattle.walrus_base.specs.Types.{RefType, heap_names}
use Rattle.walrus_base.specs.Operators.{Functions, Tables, Memories, Op, type_item, function_item, names_of}
use Rattle.walrus_code.specs.Names.{Lookup, named_heap}
use Rattle.walrus_groups.specs.Named.{each}
use Rattle.walrus_model.specs.Abstract.{ElementKind, PassiveElements, DeclaredElements, ActiveElements, ElementItems, ListedFunctions, Expressions, Element, DataKind, PassiveData, ActiveData, DataSegment}
use Rattle.walrus_model.specs.Refers.{element_kind_names, element_item_names, element_names, data_kind_names, data_names}
use Rattle.walrus_constants.specs.Named.{named_const, named_ref}
use Rattle.walrus_constants.specs.Segments.{named_element_kind, named_element_items, named_element, named_data_kind, named_data}
use Rattle.walrus_constants.specs.Laws.{HaveNumbers}
use Rattle.walrus_constants.proofs.Causes.{Told, told_last, told_then, told_none, told_number, told_heap, told_ops, found_by, all_found}

module _ (names : Lookup) where
  told_ref : (r : RefType ℕ) → Told names (map type_item (heap_names r.heap)) (named_ref names r)
  told_ref r = told_last names (map type_item (heap_names r.heap)) (named_heap names r.heap) (λ heap. let made : RefType ℕ = record { nullable = r.nullable; heap = heap } in made) (told_heap names r.heap)

  told_functions : (fs : List ℕ) → Told names (map function_item fs) (each (names Functions) fs)
  told_functions [] = told_none names
  told_functions (f ∷ fs) =
      told_then names (function_item f ∷ []) (map function_item fs) (names Functions f) (λ n. each (names Functions) fs >>= λ others. Some (n ∷ others)) (told_number names (function_item f) (names Functions f) refl)
      (λ n. told_last names (map function_item fs) (each (names Functions) fs) (λ others. n ∷ others) (told_functions fs))

  told_consts : (es : List (List Op)) → Told names (flat_map names_of es) (each (named_const names) es)
  told_consts [] = told_none names
  told_consts (e ∷ es) =
      told_then names (names_of e) (flat_map names_of es) (named_const names e) (λ ops. each (named_const names) es >>= λ others. Some (ops ∷ others)) (told_ops names e)
      (λ ops. told_last names (flat_map names_of es) (each (named_const names) es) (λ others. ops ∷ others) (told_consts es))

  told_element_kind : (k : ElementKind) → Told names (element_kind_names k) (named_element_kind names k)
  told_element_kind PassiveElements = told_none names
  told_element_kind DeclaredElements = told_none names
  told_element_kind (ActiveElements table offset) =
      told_then names ((Tables, table) ∷ []) (names_of offset) (names Tables table) (λ n. named_const names offset >>= λ ops. Some (ActiveElements n ops)) (told_number names (Tables, table) (names Tables table) refl)
      (λ n. told_last names (names_of offset) (named_const names offset) (λ ops. ActiveElements n ops) (told_ops names offset))

  told_element_items : (x : ElementItems) → Told names (element_item_names x) (named_element_items names x)
  told_element_items (ListedFunctions fs) = told_last names (map function_item fs) (each (names Functions) fs) (λ found. ListedFunctions found) (told_functions fs)
  told_element_items (Expressions ty es) =
      told_then names (map type_item (heap_names ty.heap)) (flat_map names_of es) (named_ref names ty) (λ element. each (named_const names) es >>= λ found. Some (Expressions element found)) (told_ref ty)
      (λ element. told_last names (flat_map names_of es) (each (named_const names) es) (λ found. Expressions element found) (told_consts es))

  told_element : (e : Element) → Told names (element_names e) (named_element names e)
  told_element e =
      told_then names (element_kind_names e.kind) (element_item_names e.items) (named_element_kind names e.kind) (λ k. named_element_items names e.items >>= λ x. Some (let made : Element = record { kind = k; items = x } in made)) (told_element_kind e.kind)
      (λ k. told_last names (element_item_names e.items) (named_element_items names e.items) (λ x. let made : Element = record { kind = k; items = x } in made) (told_element_items e.items))

  told_data_kind : (k : DataKind) → Told names (data_kind_names k) (named_data_kind names k)
  told_data_kind PassiveData = told_none names
  told_data_kind (ActiveData memory offset) =
      told_then names ((Memories, memory) ∷ []) (names_of offset) (names Memories memory) (λ n. named_const names offset >>= λ ops. Some (ActiveData n ops)) (told_number names (Memories, memory) (names Memories memory) refl)
      (λ n. told_last names (names_of offset) (named_const names offset) (λ ops. ActiveData n ops) (told_ops names offset))

  told_data : (d : DataSegment) → Told names (data_names d) (named_data names d)
  told_data d = told_last names (data_kind_names d.kind) (named_data_kind names d.kind) (λ k. let made : DataSegment = record { kind = k; value = d.value } in made) (told_data_kind d.kind)

  -- ---- each item that is named has a number, and so the segment is found, and the other way round

  pub element_named : (e : Element) → HaveNumbers names (element_names e) → IsSome (named_element names e)
  element_named e h = found_by names (element_names e) (named_element names e) (told_element e) h

  pub element_numbers : (e : Element) → IsSome (named_element names e) → HaveNumbers names (element_names e)
  element_numbers e found = all_found names (element_names e) (named_element names e) (told_element e) found

  pub data_named : (d : DataSegment) → HaveNumbers names (data_names d) → IsSome (named_data names d)
  data_named d h = found_by names (data_names d) (named_data names d) (told_data d) h

  pub data_numbers : (d : DataSegment) → IsSome (named_data names d) → HaveNumbers names (data_names d)
  data_numbers d found = all_found names (data_names d) (named_data names d) (told_data d) found
