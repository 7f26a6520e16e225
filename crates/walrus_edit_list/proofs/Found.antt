-- What is found for an entry, of what is found for its parts.
use Rattle.std.proofs.Common.{◌≡◌, ℕ, List, refl, sym, ap, subst, ◌∙◌}
use Rattle.std.specs.Prelude.{Option, Some, None}
use Rattle.wasm_entries.specs.Record as entries
use Rattle.wasm_forms.specs.Reading.{◌>>=◌}
use Rattle.walrus_base.specs.Operators.{Op}
use Rattle.walrus_base.specs.Types.{ValType}
use Rattle.walrus_code.specs.FromRaw.{val_of}
use Rattle.walrus_code.specs.Names.{Lookup, named_val}
use Rattle.walrus_constants.specs.Named.{named_const, named_global}
use Rattle.walrus_constants.specs.Segments.{named_element_items}
use Rattle.walrus_items.specs.Memories.{MemoryValue}
use Rattle.walrus_items.specs.Tables.{TableValue}
use Rattle.walrus_model.specs.Abstract.{DataKind, DataSegment, Defined, Element, ElementItems, ElementKind, Global}
use Rattle.walrus_model.specs.Constants.{consts_of}
use Rattle.walrus_model.specs.Sections as said
use Rattle.walrus_edit_list.specs.Data.{data_kind_there, data_there}
use Rattle.walrus_edit_list.specs.Elements.{element_kind_there, element_there}

module _ (names ids : Lookup) (same : names ≡ ids) where
  -- ---- globals

  module _ (g : entries.Global) where
    abbrev made : ValType ℕ → List Op → Global
    made ty ops = record { origin = Defined; ty = record { value = ty; mutable = g.ty.mutable; shared = g.ty.shared }; initialiser = Some ops }

    abbrev with_ops : ValType ℕ → Option (List Op) → Option Global
    with_ops ty found = found >>= λ ops. Some (made ty ops)

    abbrev with_type : Option (ValType ℕ) → Option Global
    with_type found = found >>= λ ty. with_ops ty (named_const names (consts_of g.initial))

    -- with the steps of `named_global` in another order
    steps : named_global names (said.global_of g) ≡ with_type (named_val names (val_of g.ty.value))
    steps = by_cases (named_val names (val_of g.ty.value)) (named_const names (consts_of g.initial)) where
      by_cases : (typed : Option (ValType ℕ)) (began : Option (List Op))
          → (typed >>= λ value. (began >>= λ ops. Some (Some ops)) >>= λ initialiser. Some (record { origin = Defined; ty = record { value = value; mutable = g.ty.mutable; shared = g.ty.shared }; initialiser = initialiser }))
          ≡ (typed >>= λ ty. with_ops ty began)
      by_cases None began = refl
      by_cases (Some ty) None = refl
      by_cases (Some ty) (Some ops) = refl

    -- a type and an initialiser were found
    pub global_found : (ty : ValType ℕ) (ops : List Op) → named_val names (val_of g.ty.value) ≡ Some ty → named_const names (consts_of g.initial) ≡ Some ops
        → named_global ids (said.global_of g) ≡ Some (record { origin = Defined; ty = record { value = ty; mutable = g.ty.mutable; shared = g.ty.shared }; initialiser = Some ops })
    global_found ty ops typed began =
        subst (λ (n : Lookup). named_global n (said.global_of g) ≡ Some (made ty ops)) same (steps ∙ ap with_type typed ∙ ap (with_ops ty) began)

    -- no type was found
    pub global_untyped : named_val names (val_of g.ty.value) ≡ None → named_global ids (said.global_of g) ≡ None
    global_untyped none = subst (λ (n : Lookup). named_global n (said.global_of g) ≡ None) same (steps ∙ ap with_type none)

    -- no initialiser was found
    pub global_unbegun : (ty : ValType ℕ) → named_val names (val_of g.ty.value) ≡ Some ty → named_const names (consts_of g.initial) ≡ None → named_global ids (said.global_of g) ≡ None
    global_unbegun ty typed none = subst (λ (n : Lookup). named_global n (said.global_of g) ≡ None) same (steps ∙ ap with_type typed ∙ ap (with_ops ty) none)

  -- ---- data segments

  module _ (slots : List (Option MemoryValue)) (d : entries.Segment) where
    abbrev with_bytes : Option DataKind → Option DataSegment
    with_bytes found = found >>= λ kind. Some (record { kind = kind; value = d.bytes })

    -- how it is used was found
    pub data_found : (kind : DataKind) (value : List ℕ) → data_kind_there names slots (said.data_kind d.mode) ≡ Some kind → value ≡ d.bytes
        → data_there ids slots (said.data_of d) ≡ Some (record { kind = kind; value = value })
    data_found kind value found bytes =
        subst (λ (n : Lookup). data_there n slots (said.data_of d) ≡ Some (record { kind = kind; value = value })) same
        (ap with_bytes found ∙ ap (λ (b : List ℕ). let made : DataSegment = record { kind = kind; value = b } in Some made) (sym bytes))

    -- it wasn't
    pub data_lost : data_kind_there names slots (said.data_kind d.mode) ≡ None → data_there ids slots (said.data_of d) ≡ None
    data_lost none = subst (λ (n : Lookup). data_there n slots (said.data_of d) ≡ None) same (ap with_bytes none)

  -- ---- element segments

  module _ (slots : List (Option TableValue)) (e : entries.Element) where
    abbrev with_items : ElementKind → Option ElementItems → Option Element
    with_items kind found = found >>= λ items. Some (record { kind = kind; items = items })

    abbrev with_kind : Option ElementKind → Option Element
    with_kind found = found >>= λ kind. with_items kind (named_element_items names (said.element_items e.items))

    -- how it is used was found, and what it lists
    pub element_found : (kind : ElementKind) (items : ElementItems) → element_kind_there names slots (said.element_kind e.mode) ≡ Some kind
        → named_element_items names (said.element_items e.items) ≡ Some items → element_there ids slots (said.element_of e) ≡ Some (record { kind = kind; items = items })
    element_found kind items found listed =
        subst (λ (n : Lookup). element_there n slots (said.element_of e) ≡ Some (record { kind = kind; items = items })) same (ap with_kind found ∙ ap (with_items kind) listed)

    -- how it is used wasn't
    pub element_lost : element_kind_there names slots (said.element_kind e.mode) ≡ None → element_there ids slots (said.element_of e) ≡ None
    element_lost none = subst (λ (n : Lookup). element_there n slots (said.element_of e) ≡ None) same (ap with_kind none)

    -- what it lists wasn't
    pub element_unlisted : (kind : ElementKind) → element_kind_there names slots (said.element_kind e.mode) ≡ Some kind → named_element_items names (said.element_items e.items) ≡ None
        → element_there ids slots (said.element_of e) ≡ None
    element_unlisted kind found none = subst (λ (n : Lookup). element_there n slots (said.element_of e) ≡ None) same (ap with_kind found ∙ ap (with_items kind) none)
