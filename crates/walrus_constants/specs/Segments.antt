-- Segments of elements and of data, put through a look-up of what they name: from indices to places, or back.
use Rattle.std.specs.Prelude.{Option, Some}
use Rattle.wasm_forms.specs.Reading.{◌>>=◌}
use Rattle.walrus_base.specs.Operators.{Functions, Tables, Memories}
use Rattle.walrus_code.specs.Names.{Lookup}
use Rattle.walrus_groups.specs.Named.{each}
use Rattle.walrus_model.specs.Abstract.{ElementKind, PassiveElements, DeclaredElements, ActiveElements, ElementItems, ListedFunctions, Expressions, Element, DataKind, PassiveData, ActiveData, DataSegment}
use Rattle.walrus_constants.specs.Named.{named_const, named_ref}

module _ (names : Lookup) where
  -- the table of an active segment, and the operators of its offset
  abbrev pub named_element_kind : ElementKind → Option ElementKind
  named_element_kind PassiveElements = Some PassiveElements
  named_element_kind DeclaredElements = Some DeclaredElements
  named_element_kind (ActiveElements table offset) = names Tables table >>= λ found. named_const names offset >>= λ ops. Some (ActiveElements found ops)

  -- each function that is listed, or the type of the expressions and the operators of each
  abbrev pub named_element_items : ElementItems → Option ElementItems
  named_element_items (ListedFunctions fs) = each (names Functions) fs >>= λ found. Some (ListedFunctions found)
  named_element_items (Expressions ty es) = named_ref names ty >>= λ element. each (named_const names) es >>= λ found. Some (Expressions element found)

  abbrev pub named_element : Element → Option Element
  named_element e = named_element_kind e.kind >>= λ kind. named_element_items e.items >>= λ items. Some (record { kind = kind; items = items })

  -- the memory of active data, and the operators of its offset
  abbrev pub named_data_kind : DataKind → Option DataKind
  named_data_kind PassiveData = Some PassiveData
  named_data_kind (ActiveData memory offset) = names Memories memory >>= λ found. named_const names offset >>= λ ops. Some (ActiveData found ops)

  -- the bytes stay
  abbrev pub named_data : DataSegment → Option DataSegment
  named_data d = named_data_kind d.kind >>= λ kind. Some (record { kind = kind; value = d.value })
