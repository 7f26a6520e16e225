-- An element segment is told by what it says, and by the choice between the two ways to say table 0.
use Rattle.std.proofs.Common.{◌≡◌, ℕ, List, [], map, refl, sym, ap, ap₂, ◌∙◌, subst}
use Rattle.std.specs.Prelude.{Some, None, All}
use Rattle.wasm_forms.specs.declared.types.RawRef.{RawRef}
use Rattle.wasm_forms.specs.Types.{HeapStands}
use Rattle.wasm_entries.specs.Record as entries
use Rattle.wasm_entries.specs.Spelling.{ExpressionStands, ElementsStand, ElementStands}
use Rattle.walrus_base.specs.Operators.{Op}
use Rattle.walrus_model.specs.Abstract.{Abstract, ElementKind, PassiveElements, DeclaredElements, ActiveElements, ElementItems, ListedFunctions, Expressions, Element}
use Rattle.walrus_model.specs.Sections.{element_kind, element_items, element_of}
use Rattle.walrus_model.specs.Constants.{consts_of}
use Rattle.walrus_theorem.specs.Spelling.{IsShort, IsChosen}
use Rattle.walrus_model.proofs.OneEntry.{raw_consts, consts_back, all_consts_back, raw_ref, ref_back}

-- ---- items

abbrev raw_items : ElementItems → entries.Items
raw_items (ListedFunctions fs) = entries.Functions fs
raw_items (Expressions ty es) = entries.Expressions (raw_ref ty) (map raw_consts es)

abbrev ItemsStand : entries.Items → Type 0
ItemsStand (entries.Functions fs) = Unit {0}
ItemsStand (entries.Expressions ty es) = HeapStands ty.heap × All ExpressionStands es

items_back : (i : entries.Items) → ItemsStand i → raw_items (element_items i) ≡ i
items_back (entries.Functions fs) h = refl
items_back (entries.Expressions ty es) h = ap₂ entries.Expressions (ref_back ty h.0) (all_consts_back es h.1)

items_stand : (m : entries.ElementMode) (i : entries.Items) → ElementsStand m i → ItemsStand i
items_stand m (entries.Functions fs) h = tt
items_stand (entries.ActiveElements None offset) (entries.Expressions ty es) h = (subst (λ (r : RawRef). HeapStands r.heap) (sym h.1) refl, h.2)
items_stand (entries.ActiveElements (Some table) offset) (entries.Expressions ty es) h = (h.2, h.3)
items_stand entries.PassiveElements (entries.Expressions ty es) h = h
items_stand entries.DeclaredElements (entries.Expressions ty es) h = h

-- ---- mode

abbrev ModeStands : entries.ElementMode → Type 0
ModeStands (entries.ActiveElements table offset) = ExpressionStands offset
ModeStands entries.PassiveElements = Unit {0}
ModeStands entries.DeclaredElements = Unit {0}

mode_stands : (m : entries.ElementMode) (i : entries.Items) → ElementsStand m i → ModeStands m
mode_stands (entries.ActiveElements None offset) (entries.Functions fs) h = h.0
mode_stands (entries.ActiveElements None offset) (entries.Expressions ty es) h = h.0
mode_stands (entries.ActiveElements (Some table) offset) (entries.Functions fs) h = h.1
mode_stands (entries.ActiveElements (Some table) offset) (entries.Expressions ty es) h = h.1
mode_stands entries.PassiveElements i h = tt
mode_stands entries.DeclaredElements i h = tt

abbrev offset_in : ElementKind → List Op
offset_in (ActiveElements table offset) = offset
offset_in PassiveElements = []
offset_in DeclaredElements = []

abbrev table_in : ElementKind → ℕ
table_in (ActiveElements table offset) = table
table_in PassiveElements = 0
table_in DeclaredElements = 0

one_offset : (o p : entries.Expression) → ExpressionStands o → ExpressionStands p → consts_of o ≡ consts_of p → o ≡ p
one_offset o p h k e = sym (consts_back o h) ∙ ap raw_consts e ∙ consts_back p k

one_mode : (n : Abstract) (m k : entries.ElementMode) (i : entries.Items) → ModeStands m → ModeStands k → IsChosen n m i → IsChosen n k i → element_kind m ≡ element_kind k → m ≡ k
one_mode n (entries.ActiveElements None o) (entries.ActiveElements None p) i h g c d e = ap (entries.ActiveElements None) (one_offset o p h g (ap offset_in e))
one_mode n (entries.ActiveElements None o) (entries.ActiveElements (Some t) p) i h g c d e = absurd (d (subst (λ (u : ℕ). IsShort n u i) (ap table_in e) c))
one_mode n (entries.ActiveElements (Some t) o) (entries.ActiveElements None p) i h g c d e = absurd (c (subst (λ (u : ℕ). IsShort n u i) (sym (ap table_in e)) d))
one_mode n (entries.ActiveElements (Some t) o) (entries.ActiveElements (Some u) p) i h g c d e = ap₂ (λ (v : ℕ) (q : entries.Expression). entries.ActiveElements (Some v) q) (ap table_in e) (one_offset o p h g (ap offset_in e))
one_mode n (entries.ActiveElements t o) entries.PassiveElements i h g c d e = absurd cc
one_mode n (entries.ActiveElements t o) entries.DeclaredElements i h g c d e = absurd cc
one_mode n entries.PassiveElements (entries.ActiveElements t p) i h g c d e = absurd cc
one_mode n entries.PassiveElements entries.PassiveElements i h g c d e = refl
one_mode n entries.PassiveElements entries.DeclaredElements i h g c d e = absurd cc
one_mode n entries.DeclaredElements (entries.ActiveElements t p) i h g c d e = absurd cc
one_mode n entries.DeclaredElements entries.PassiveElements i h g c d e = absurd cc
one_mode n entries.DeclaredElements entries.DeclaredElements i h g c d e = refl

-- ---- the whole

abbrev pub ElementGood : Abstract → entries.Element → Type 0
ElementGood n e = ElementStands e × IsChosen n e.mode e.items

pub one_element : (n : Abstract) (e f : entries.Element) → ElementGood n e → ElementGood n f → element_of e ≡ element_of f → e ≡ f
one_element n e f h g same =
    let items : e.items ≡ f.items = sym (items_back e.items (items_stand e.mode e.items h.0)) ∙ ap (λ (x : Element). raw_items x.items) same ∙ items_back f.items (items_stand f.mode f.items g.0) in
    let chosen : IsChosen n f.mode e.items = subst (λ (i : entries.Items). IsChosen n f.mode i) (sym items) g.1 in
    let mode : e.mode ≡ f.mode = one_mode n e.mode f.mode e.items (mode_stands e.mode e.items h.0) (mode_stands f.mode f.items g.0) h.1 chosen (ap (λ (x : Element). x.kind) same) in
    ap₂ (λ (m : entries.ElementMode) (i : entries.Items). record { mode = m; items = i }) mode items
