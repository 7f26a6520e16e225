-- Segments meet their records.
use Rattle.std.proofs.Common.{◌≡◌, ◌∙◌, List, [], ◌∷◌, map, Option, Some, refl, sym}
use Rattle.wasm_forms.specs.Reading.{◌>>=◌}
use Rattle.wasm_entries.specs.Record as entries
use Rattle.walrus_base.specs.Types.{map_ref}
use Rattle.walrus_base.specs.Operators.{Types, Functions, Tables, Memories}
use Rattle.walrus_code.specs.Names.{Lookup}
use Rattle.walrus_groups.specs.Named.{each}
use Rattle.walrus_model.specs.Abstract.{ElementKind, PassiveElements, DeclaredElements, ActiveElements, ElementItems, ListedFunctions, Expressions, Element, DataKind, PassiveData, ActiveData, DataSegment}
use Rattle.walrus_model.specs.Renaming.{Renaming, unchanged, renamed_const, renamed_element_kind, renamed_element_items, renamed_element, renamed_data_kind, renamed_data}
use Rattle.walrus_model.specs.Sections.{element_of, data_of}
use Rattle.walrus_model.proofs.PipelineSame.{element_stays, data_stays}
use Rattle.walrus_constants.specs.Named.{named_const, named_ref}
use Rattle.walrus_constants.specs.Segments.{named_element_kind, named_element_items, named_element, named_data_kind, named_data}
use Rattle.walrus_constants.specs.Laws.{AgreesWith, IsInPlace}
use Rattle.walrus_constants.proofs.Renamed.{Agrees, agreed, agrees_last, agrees_then, number_agrees, const_agrees, ref_agrees, in_place}

-- what is found of each is each renamed
each_agrees : {X Y : Type 0} (f : X → Y) (find : X → Option Y) (xs : List X) → ((x : X) → Agrees (f x) (find x)) → Agrees (map f xs) (each find xs)
each_agrees f find [] h = refl
each_agrees f find (x ∷ xs) h =
    agrees_then (f x) (find x) (λ y. each find xs >>= λ others. Some (y ∷ others)) (f x ∷ map f xs) (h x)
    (agrees_last (map f xs) (each find xs) (λ others. f x ∷ others) (each_agrees f find xs h))

abbrev element_with : ElementKind → ElementItems → Element
element_with kind items = record { kind = kind; items = items }

abbrev data_with : DataSegment → DataKind → DataSegment
data_with d kind = record { kind = kind; value = d.value }

module _ (r : Renaming) (names : Lookup) (agrees : AgreesWith r names) where
  element_kind_agrees : (k : ElementKind) → Agrees (renamed_element_kind r k) (named_element_kind names k)
  element_kind_agrees PassiveElements = refl
  element_kind_agrees DeclaredElements = refl
  element_kind_agrees (ActiveElements table offset) =
      let found = r.numbers Tables table in
      agrees_then found (names Tables table) (λ n. named_const names offset >>= λ ops. Some (ActiveElements n ops)) _ (number_agrees r names agrees Tables table (names Tables table) refl)
      (agrees_last (renamed_const r offset) (named_const names offset) (λ ops. ActiveElements found ops) (const_agrees r names agrees offset))

  element_items_agree : (x : ElementItems) → Agrees (renamed_element_items r x) (named_element_items names x)
  element_items_agree (ListedFunctions fs) =
      agrees_last (map (r.numbers Functions) fs) (each (names Functions) fs) (λ found. ListedFunctions found)
      (each_agrees (r.numbers Functions) (names Functions) fs (λ f. number_agrees r names agrees Functions f (names Functions f) refl))
  element_items_agree (Expressions ty es) =
      let element = map_ref (r.numbers Types) ty in
      agrees_then element (named_ref names ty) (λ x. each (named_const names) es >>= λ found. Some (Expressions x found)) _ (ref_agrees r names agrees ty)
      (agrees_last (map (renamed_const r) es) (each (named_const names) es) (λ found. Expressions element found) (each_agrees (renamed_const r) (named_const names) es (const_agrees r names agrees)))

  element_agrees : (e : Element) → Agrees (renamed_element r e) (named_element names e)
  element_agrees e =
      let kind = renamed_element_kind r e.kind in
      agrees_then kind (named_element_kind names e.kind) (λ k. named_element_items names e.items >>= λ items. Some (element_with k items)) _ (element_kind_agrees e.kind)
      (agrees_last (renamed_element_items r e.items) (named_element_items names e.items) (element_with kind) (element_items_agree e.items))

  -- what is found of a segment is the segment renamed
  pub element_renamed : (e found : Element) → named_element names e ≡ Some found → renamed_element r e ≡ found
  element_renamed e found is = agreed (renamed_element r e) found (named_element names e) (element_agrees e) is

  data_kind_agrees : (k : DataKind) → Agrees (renamed_data_kind r k) (named_data_kind names k)
  data_kind_agrees PassiveData = refl
  data_kind_agrees (ActiveData memory offset) =
      let found = r.numbers Memories memory in
      agrees_then found (names Memories memory) (λ n. named_const names offset >>= λ ops. Some (ActiveData n ops)) _ (number_agrees r names agrees Memories memory (names Memories memory) refl)
      (agrees_last (renamed_const r offset) (named_const names offset) (λ ops. ActiveData found ops) (const_agrees r names agrees offset))

  pub data_renamed : (d found : DataSegment) → named_data names d ≡ Some found → renamed_data r d ≡ found
  data_renamed d found is =
      agreed (renamed_data r d) found (named_data names d)
      (agrees_last (renamed_data_kind r d.kind) (named_data_kind names d.kind) (data_with d) (data_kind_agrees d.kind)) is

-- what is read of a record is what the record says

pub element_read : (names : Lookup) → IsInPlace names → (e : entries.Element) (x : Element) → named_element names (element_of e) ≡ Some x → x ≡ element_of e
element_read names h e x is = sym (element_renamed unchanged names (in_place names h) (element_of e) x is) ∙ element_stays unchanged (λ space n. refl) (λ n. refl) (element_of e)

pub data_read : (names : Lookup) → IsInPlace names → (d : entries.Segment) (x : DataSegment) → named_data names (data_of d) ≡ Some x → x ≡ data_of d
data_read names h d x is = sym (data_renamed unchanged names (in_place names h) (data_of d) x is) ∙ data_stays unchanged (λ space n. refl) (λ n. refl) (data_of d)
