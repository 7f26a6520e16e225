-- What makes an item a root: what each search finds, and that a root is one by something.
use Rattle.std.proofs.Common.{◌≡◌, ℕ, Bool, true, false, List, ◌∷◌, [], Option, Some, None, map, refl, sym, ap, ◌∙◌, subst, eqb-true}
use Rattle.std.specs.Prelude.{Contains, slice_get, is_some, nat_eq, option_map, if◌then◌else◌}
use Rattle.walrus.specs.Base.Arena.{entries, item_at, items}
use Rattle.walrus.specs.Base.Id.{place}
use Rattle.walrus.specs.Base.Operators.{Space, Types, Tables, Memories, Tags, Globals, Elements, DataSegments, Item, function_item}
use Rattle.walrus.specs.Base.IdValue.{Id}
use Rattle.walrus.specs.Base.DataKey.{DataKey}
use Rattle.walrus.specs.Base.ElementKey.{ElementKey}
use Rattle.walrus.specs.Base.FunctionKey.{FunctionKey}
use Rattle.walrus.specs.Code.Code.{item_of}
use Rattle.walrus.specs.Code.ItemId.{ItemId}
use Rattle.walrus.specs.Code.ItemId.TheVariants as items_of_kinds
use Rattle.walrus.proofs.Base.Lists.{Contains-map, Contains-none}
use Rattle.walrus.proofs.Base.SearchFound.{found-item, found-passes}
use Rattle.walrus.specs.Model.Abstract.{Abstract, DataSegment, Element, Export, ActiveElements, DeclaredElements, PassiveElements, ElementKind}
use Rattle.walrus.specs.Model.Roots.{IsRoot, IsRootData, IsRootElement, exported, start, data_segment, element_segment, asked_for}
use Rattle.walrus.proofs.Model.Reach.{Contains-unmap}
use Rattle.walrus.proofs.Model.Slots.{entry_in}
use Rattle.walrus.specs.Items.Data.{DataValue, data_segments}
use Rattle.walrus.specs.Items.Elements.{ElementValue, elements}
use Rattle.walrus.specs.Items.Exports.{ExportValue, exports, exports_item}
use Rattle.walrus.specs.Items.Items.{is_item}
use Rattle.walrus.specs.Items.Kinds.{exported as exported_item}
use Rattle.walrus.specs.Items.Searches.{first}
use Rattle.walrus.specs.Items.ExportItem.{ExportItem}
use Rattle.walrus.specs.Items.DataKind.{DataKind as HeldDataKind}
use Rattle.walrus.specs.Items.DataKind.TheVariants as data_kinds
use Rattle.walrus.specs.Items.ElementKind.{ElementKind as HeldElementKind}
use Rattle.walrus.specs.Items.ElementKind.TheVariants as element_kinds
use Rattle.walrus.proofs.Items.ItemLemmas.{is_item-same, same-is_item}
use Rattle.walrus.specs.Contents.View.{contents_view, data_kind_of, data_of, element_kind_of, element_of, export_of}
use Rattle.walrus.specs.Contents.Contents.{Contents}
use Rattle.walrus.proofs.Theorem.EditKept.{none_isnt, some_is}
use Rattle.walrus_tools.proofs.ImportMatches.{finds}
use Rattle.walrus_tools.specs.Links.{IsActive, IsActiveKind, IsDeclared, IsExported, IsStart}
use Rattle.walrus_tools.specs.RootSteps.{FindsChainRoot, FindsRoot, by_data, by_data_kind, by_element, by_element_kind, by_start}
use Rattle.walrus_tools.specs.declared.roots.Root.{Root}
use Rattle.walrus_tools.specs.declared.roots.Root.TheVariants as roots

-- items that are told apart aren't one
pub differ : (x y : Item) → is_item x y ≡ false → x ≡ y → ⊥
differ x y apart same = let no_such : true ≡ false = sym (same-is_item x y same) ∙ apart in cc

-- ---- exports

-- what exports can't name isn't exported
pub not_named : (x : Item) → ((e : ExportItem) → exported_item e ≡ x → ⊥) → (all : List (Option ExportValue)) → false ≡ is_some (first (exports_item x) all)
not_named x none all = by (first (exports_item x) all) refl where
  by : (o : Option (ℕ × ExportValue)) → first (exports_item x) all ≡ o → false ≡ is_some o
  by None found = refl
  by (Some e) found = absurd (none e.1.item (is_item-same (exported_item e.1.item) x (found-passes (λ (d : ℕ × ExportValue). exports_item x d.1) all e found)))

module _ (c : Contents) (x : Item) where
  abbrev v : Abstract
  v = contents_view c

  abbrev all : List (Option ExportValue)
  all = exports c.exports

  pub exported_so : true ≡ is_some (first (exports_item x) all) → IsExported v x
  exported_so h = by (first (exports_item x) all) refl h where
    by : (o : Option (ℕ × ExportValue)) → first (exports_item x) all ≡ o → true ≡ is_some o → IsExported v x
    by None found h = absurd (let no_such : true ≡ false = h in cc)
    by (Some e) found h =
        let at : Contains (items all) e.1 = Contains-map (λ (d : ℕ × ExportValue). d.1) e (entries all) (entry_in all e.0 e.1 (found-item (λ (d : ℕ × ExportValue). exports_item x d.1) all e found)) in
        (export_of e.1, Contains-map export_of e.1 (items all) at, sym (is_item-same (exported_item e.1.item) x (found-passes (λ (d : ℕ × ExportValue). exports_item x d.1) all e found)))

  pub not_exported : false ≡ is_some (first (exports_item x) all) → IsExported v x → ⊥
  not_exported h (e, at, is) =
      let back = Contains-unmap export_of (items all) e at in
      let entry = Contains-unmap (λ (d : ℕ × ExportValue). d.1) (entries all) back.0 back.1 in
      let same : x ≡ exported_item entry.0.1.item = is ∙ ap (λ (o : Export). o.item) (sym back.2) ∙ ap (λ (o : ExportValue). exported_item o.item) (sym entry.2) in
      by (first (exports_item x) all) refl h entry.0 entry.1 (same-is_item (exported_item entry.0.1.item) x (sym same))
    where
      by : (o : Option (ℕ × ExportValue)) → first (exports_item x) all ≡ o → false ≡ is_some o → (d : ℕ × ExportValue) → Contains (entries all) d → exports_item x d.1 ≡ true → ⊥
      by None found h d there passes = finds (λ (d : ℕ × ExportValue). exports_item x d.1) (entries all) d there passes found
      by (Some e) found h d there passes = let no_such : false ≡ true = h in cc

  -- nothing makes the item a root
  pub no_root : (IsExported v x → ⊥) → (IsStart v x → ⊥) → (IsActive v x → ⊥) → (IsDeclared v x → ⊥) → FindsRoot v x None
  no_root out started active declared roots.Exported h = out h
  no_root out started active declared roots.Start h = started h.1
  no_root out started active declared roots.Active h = active h
  no_root out started active declared roots.Declared h = declared h

-- ---- kind by kind

module _ (c : Contents) (i : ℕ) where
  -- only functions start
  pub no_start : (s : Space) → is_item (s, i) (function_item i) ≡ false → IsStart (contents_view c) (s, i) → ⊥
  no_start s apart (f, started, is) = differ (s, i) (function_item i) apart (ap (λ (x : Item). (x.0, i)) is)

  pub function_root : (IsExported (contents_view c) (function_item i) → ⊥) → FindsRoot (contents_view c) (function_item i) (by_start c.start i)
  function_root out = by c.start refl where
    by : (o : Option (Id FunctionKey)) → c.start ≡ o → FindsRoot (contents_view c) (function_item i) (by_start o i)
    by None is = no_root c (function_item i) out (λ h. none_isnt (ap (option_map place) (sym is) ∙ h.1)) (λ h. h) (λ h. h)
    by (Some id) is = at (nat_eq (place id) i) refl where
      at : (b : Bool) → nat_eq (place id) i ≡ b → FindsRoot (contents_view c) (function_item i) (if b then Some roots.Start else None)
      at true same = (out, (place id, ap (option_map place) is, ap function_item (sym (eqb-true (place id) i same))))
      at false apart = no_root c (function_item i) out
          (λ h. differ (function_item (place id)) (function_item i) apart (ap function_item (some_is (ap (option_map place) (sym is) ∙ h.1)) ∙ sym h.2)) (λ h. h) (λ h. h)

  -- the segment at the place
  pub element_root : (IsExported (contents_view c) (Elements, i) → ⊥) → FindsRoot (contents_view c) (Elements, i) (by_element (item_at (elements c.elements) i))
  element_root out = by (item_at (elements c.elements) i) refl where
    by : (o : Option ElementValue) → item_at (elements c.elements) i ≡ o → FindsRoot (contents_view c) (Elements, i) (by_element o)
    by None none = no_root c (Elements, i) out (no_start Elements refl)
        (λ h. none_isnt (ap (option_map element_of) (sym none) ∙ h.1)) (λ h. none_isnt (ap (option_map element_of) (sym none) ∙ h.1))
    by (Some e) there = kind e.kind refl where
      is : option_map element_of (item_at (elements c.elements) i) ≡ Some (element_of e)
      is = ap (option_map element_of) there

      -- it is the one that is there
      same_kind : (d : Element) → option_map element_of (item_at (elements c.elements) i) ≡ Some d → element_kind_of e.kind ≡ d.kind
      same_kind d at = ap (λ (x : Element). x.kind) (some_is (sym is ∙ at))

      kind : (k : HeldElementKind) → e.kind ≡ k → FindsRoot (contents_view c) (Elements, i) (by_element_kind k)
      kind (element_kinds.Active table offset) k = (element_of e, is, subst IsActiveKind (ap element_kind_of (sym k)) tt)
      kind element_kinds.Declared k = (element_of e, is, ap element_kind_of k)
      kind element_kinds.Passive k = no_root c (Elements, i) out (no_start Elements refl)
          (λ h. subst IsActiveKind (sym (ap element_kind_of (sym k) ∙ same_kind h.0 h.1)) h.2)
          (λ h. passive_isnt (ap element_kind_of (sym k) ∙ same_kind h.0 h.1 ∙ h.2))
        where
          passive_isnt : PassiveElements ≡ DeclaredElements → ⊥
          passive_isnt e = cc

  pub data_root : (IsExported (contents_view c) (DataSegments, i) → ⊥) → FindsRoot (contents_view c) (DataSegments, i) (by_data (item_at (data_segments c.data_) i))
  data_root out = by (item_at (data_segments c.data_) i) refl where
    by : (o : Option DataValue) → item_at (data_segments c.data_) i ≡ o → FindsRoot (contents_view c) (DataSegments, i) (by_data o)
    by None none = no_root c (DataSegments, i) out (no_start DataSegments refl) (λ h. none_isnt (ap (option_map data_of) (sym none) ∙ h.1)) (λ h. h)
    by (Some d) there = kind d.kind refl where
      is : option_map data_of (item_at (data_segments c.data_) i) ≡ Some (data_of d)
      is = ap (option_map data_of) there

      kind : (k : HeldDataKind) → d.kind ≡ k → FindsRoot (contents_view c) (DataSegments, i) (by_data_kind k)
      kind (data_kinds.Active memory offset) k = (data_of d, is, subst IsRootData (ap data_kind_of (sym k)) tt)
      kind data_kinds.Passive k = no_root c (DataSegments, i) out (no_start DataSegments refl)
          (λ h. subst IsRootData (sym (ap data_kind_of (sym k) ∙ ap (λ (x : DataSegment). x.kind) (some_is (sym is ∙ h.1)))) h.2) (λ h. h)

-- ---- of a chain

-- what is a root in the sense of the model is one by something
pub root_by : (m : Abstract) (x : Item) → m.section_roots ≡ [] → FindsRoot m x None → IsRoot m x → ⊥
root_by m x none lacks (exported e at is) = lacks roots.Exported (e, at, is)
root_by m x none lacks (start f at is) = lacks roots.Start ((λ h. lacks roots.Exported h), (f, at, is))
root_by m x none lacks (data_segment i d at root is) = lacks roots.Active (subst (IsActive m) (sym is) (d, at, root))
root_by m x none lacks (element_segment i e at root is) = by e.kind refl root where
  by : (k : ElementKind) → e.kind ≡ k → IsRootElement k → ⊥
  by PassiveElements k h = h
  by DeclaredElements k h = lacks roots.Declared (subst (IsDeclared m) (sym is) (e, at, k))
  by (ActiveElements table offset) k h = lacks roots.Active (subst (IsActive m) (sym is) (e, at, subst IsActiveKind (sym k) tt))
root_by m x none lacks (asked_for at) = Contains-none x (subst (λ (xs : List Item). Contains xs x) none at)

-- ---- items that can be exported alone

module _ (c : Contents) where
  abbrev seen : Abstract
  seen = contents_view c

  plain : (s : Space) (i : ℕ) → (IsExported seen (s, i) → ⊥) → is_item (s, i) (function_item i) ≡ false → (IsActive seen (s, i) → ⊥) → (IsDeclared seen (s, i) → ⊥) → FindsRoot seen (s, i) None
  plain s i out apart active declared = no_root c (s, i) out (no_start c i s apart) active declared

  -- no other item is a root
  pub plain_root : (item : ItemId) → (IsExported seen (item_of item) → ⊥) → ((id : Id FunctionKey) → item ≡ items_of_kinds.Function id → ⊥) → ((id : Id ElementKey) → item ≡ items_of_kinds.Element id → ⊥)
      → ((id : Id DataKey) → item ≡ items_of_kinds.Data id → ⊥) → FindsRoot seen (item_of item) None
  plain_root (items_of_kinds.«Type» id) out f e d = plain Types (place id) out refl (λ h. h) (λ h. h)
  plain_root (items_of_kinds.Table id) out f e d = plain Tables (place id) out refl (λ h. h) (λ h. h)
  plain_root (items_of_kinds.Memory id) out f e d = plain Memories (place id) out refl (λ h. h) (λ h. h)
  plain_root (items_of_kinds.Tag id) out f e d = plain Tags (place id) out refl (λ h. h) (λ h. h)
  plain_root (items_of_kinds.Global id) out f e d = plain Globals (place id) out refl (λ h. h) (λ h. h)
  plain_root (items_of_kinds.Function id) out f e d = absurd (f id refl)
  plain_root (items_of_kinds.Element id) out f e d = absurd (e id refl)
  plain_root (items_of_kinds.Data id) out f e d = absurd (d id refl)

-- what was found of the first item is found of its chain
pub chain_found : (v : Abstract) (ids : List ItemId) (id : ItemId) (r : Option Root) → Some id ≡ slice_get ids 0 → FindsRoot v (item_of id) r → FindsChainRoot v (Some (map item_of ids)) r
chain_found v [] id r at found = absurd (none_isnt (sym at))
chain_found v (x ∷ ids) id r at found = subst (λ (y : ItemId). FindsRoot v (item_of y) r) (some_is at) found
