-- Element segments that come, or go ("Structure > Modules > Element Segments").
use Rattle.std.specs.Prelude.{ℕ, Bool, true, false, List, [], ◌∷◌, ◌++◌, length, Option, Some, None, slice_set, ◌≡◌}
use Rattle.wasm_entries.specs.Record as entries
use Rattle.wasm_forms.specs.Reading.{◌>>=◌}
use Rattle.walrus_base.specs.Arena.{item_at}
use Rattle.walrus_base.specs.Operators.{Tables}
use Rattle.walrus_code.specs.Names.{Lookup}
use Rattle.walrus_constants.specs.Named.{named_const}
use Rattle.walrus_constants.specs.Segments.{named_element_items}
use Rattle.walrus_contents.specs.View.{element_kind_of, element_of}
use Rattle.walrus_contents.specs.declared.parts.Contents.{Contents}
use Rattle.walrus_items.specs.Elements.{ElementValue, elements}
use Rattle.walrus_items.specs.Tables.{TableValue, tables}
use Rattle.walrus_items.specs.declared.error.Error.{Error}
use Rattle.walrus_model.specs.Abstract.{ActiveElements, DeclaredElements, Element, ElementKind, PassiveElements}
use Rattle.walrus_model.specs.Sections as said
use Rattle.walrus_edit_list.specs.Ids.{HasTooMany, ids_of}
use Rattle.walrus_edit_list.specs.Places.{IsGone}
use Rattle.walrus_edit_list.specs.Refuses.{Refuses}
use Rattle.walrus_edit_list.specs.SegmentSets.{changed_at, table_in, table_with, there}
use Rattle.walrus_edit_list.specs.Turns.{InTurn, RefusesOne}

module _ (names : Lookup) (slots : List (Option TableValue)) where
  -- how elements are used, with the id for each number, where the table is there
  abbrev pub element_kind_there : ElementKind → Option ElementKind
  element_kind_there PassiveElements = Some PassiveElements
  element_kind_there DeclaredElements = Some DeclaredElements
  element_kind_there (ActiveElements table offset) = there slots (names Tables table) >>= λ at. named_const names offset >>= λ ops. Some (ActiveElements at ops)

  -- the segment so
  abbrev pub element_there : Element → Option Element
  element_there e = element_kind_there e.kind >>= λ kind. named_element_items names e.items >>= λ items. Some (record { kind = kind; items = items })

-- the table that elements of this kind are active in has the segment in its set, or hasn't
abbrev pub in_table : Bool → ElementKind → ℕ → List (Option TableValue) → List (Option TableValue)
in_table is_in kind segment slots = changed_at (table_with is_in segment) (table_in kind) slots

-- what an entry says of the segments of a module; nothing where it names what isn't there
abbrev pub element_in : Contents → entries.Element → Option Element
element_in m e = element_there (ids_of m) (tables m.tables) (said.element_of e)

-- a segment that an entry says stands behind the others, and is in the set of its table
pub record AddsElement (e : entries.Element) (old new : Contents) : Type 0 where
  pub value : ElementValue
  pub says : element_in old e ≡ Some (element_of value)
  pub own_id : value.id ≡ length (elements old.elements)
  pub unnamed : value.name ≡ None
  pub comes : elements new.elements ≡ elements old.elements ++ Some value ∷ []
  pub kept : tables new.tables ≡ in_table true (element_kind_of value.kind) value.id (tables old.tables)
  pub only : new ≡ record old { elements = new.elements; tables = new.tables }

-- it names what isn't there
abbrev pub RefusesElement : entries.Element → Contents → Error → Type 0
RefusesElement e m error = Refuses (element_in m e ≡ None) (HasTooMany m) error

-- each of these came, one behind the other
abbrev pub AddsElements : List entries.Element → (old new : Contents) → Type 0
AddsElements es old new = InTurn AddsElement es old new

abbrev pub RefusesElements : List entries.Element → Contents → Error → Type 0
RefusesElements es m error = RefusesOne AddsElement RefusesElement es m error

-- the segment of this id is gone, and in no set of a table that it was active in
pub record DeletesElement (number : ℕ) (old new : Contents) : Type 0 where
  pub was : ElementValue
  pub stood : item_at (elements old.elements) number ≡ Some was
  pub gone : elements new.elements ≡ slice_set (elements old.elements) number None
  pub freed : tables new.tables ≡ in_table false (element_kind_of was.kind) number (tables old.tables)
  pub only : new ≡ record old { elements = new.elements; tables = new.tables }

-- it isn't there
abbrev pub RefusesDeleteElement : ℕ → Contents → Error → Type 0
RefusesDeleteElement number m e = Refuses (IsGone (elements m.elements) number) ⊥ e
