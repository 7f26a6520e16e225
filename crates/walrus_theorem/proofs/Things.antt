-- The items of both modules, space by space.
use Rattle.std.proofs.Common.{◌≡◌, ℕ, ◌<◌, List, [], ◌∷◌, map, refl, sym, ap, ap₂, ◌∙◌, subst, arith, inl, inr, ⊎_elim}
use Rattle.std.specs.Prelude.{Option, Some, None, IsSome, Contains, option_map, flat_map}
pub use Rattle.wasm_forms.proofs.Bind.{some_same}
use Rattle.walrus_base.specs.Types.{ValType, sub_names, val_names}
use Rattle.walrus_base.specs.Operators.{Types, Functions, Tables, Memories, Tags, Globals, Elements, DataSegments, Item, type_item, function_item, Op, op_names, names_of}
use Rattle.walrus_model.specs.BlockHandlers.{params_of}
use Rattle.walrus_model.specs.Abstract.{Abstract, TypeDef, Body, FunctionKind, ImportedFunction, LocalFunction, Uninitialised, Function, Table, Memory, Tag, Global, Element, DeclaredElements, ListedFunctions, DataSegment, Import}
use Rattle.walrus_model.specs.Carried.{Carries, In}
use Rattle.walrus_model.specs.Config.{Config}
use Rattle.walrus_model.specs.Kept.{IsImportOf}
use Rattle.walrus_model.specs.Live.{IsLive}
use Rattle.walrus_model.specs.Declared.{ref_func, IsRefInBody, IsRefInGlobal, IsUndeclared, HasDeclaredSegment}
use Rattle.walrus_model.specs.Names.{body_of, body_of_function, body_of_kind}
use Rattle.walrus_model.specs.Sections.{Said, body_with}
use Rattle.walrus_model.specs.Refers.{named_by, written_in, IsUsed, used_locals, local_names, body_names, kind_names, type_names, function_names, table_names, tag_names, global_names, element_names, data_names}
use Rattle.walrus_model.specs.Renaming.{Renaming, renamed_table, renamed_memory, renamed_tag, renamed_global, renamed_element, renamed_data, renamed_import}
use Rattle.walrus_model.specs.Same.{BothAnd, SameType, SameBody, SameKind, SameFunction}
use Rattle.walrus_model.specs.WellMade.{import_in, import_of, origin_import, kind_import}
use Rattle.walrus_theorem.specs.Once.{Premises}
use Rattle.walrus_theorem.specs.Spelling.{UsesAll}
use Rattle.walrus_base.proofs.Agree.{same_looks, Compared, compared}
use Rattle.walrus_model.proofs.Alike.{On, OnImport, on_1, on_2, on_head, on_tail, type_one, table_one, memory_one, tag_one, global_one, element_one, data_one, import_one, exports_one, functions_one}
use Rattle.walrus_base.proofs.Lists.{Contains-map, Contains-none, Contains-uncons, Contains-head, Contains-tail, Contains-append_1, Contains-append_2}
use Rattle.walrus_theorem.proofs.Numbers.{numbers_one, imports_one, named_import_one}
use Rattle.walrus_model.proofs.SpaceList.{one_rising}
use Rattle.walrus_model.proofs.Seen.{same_sub}
use Rattle.walrus_model.proofs.Orders.{is_some_by}
use Rattle.walrus_model.proofs.TypeRules.{Contains-flat_map}
use Rattle.walrus_theorem.proofs.Shaped.{Side}
use Rattle.walrus_model.proofs.TypesAlike.{sub_alike}
use Rattle.walrus_theorem.proofs.UsedLocals.{Comes, one_said, used_one}

-- what stands at both numbers of a chosen item
abbrev pub Both : {X : Type 0} → (S : X → X → Type 0) → Option X → Option X → Type 0
Both {X} S a b = (x : X) × (y : X) × (a ≡ Some x) × (b ≡ Some y) × S x y

pub both_there : {X : Type 0} (S : X → X → Type 0) (a b : Option X) → BothAnd S a b → Both S a b
both_there S (Some x) (Some y) h = (x, y, refl, refl, h)
both_there S (Some x) None h = absurd h
both_there S None b h = absurd h

pub there : {X : Type 0} (K A B : ℕ → Type 0) (r s : ℕ → ℕ) (S T : ℕ → X → X → Type 0) (xs ys zs : ℕ → Option X)
    → Carries K A r S xs ys → Carries K B s T xs zs → ((i : ℕ) → K i → r i ≡ s i)
    → ((i : ℕ) (x y z : X) → K i → xs i ≡ Some x → ys (r i) ≡ Some y → zs (s i) ≡ Some z → S i x y → T i x z → y ≡ z)
    → ((j : ℕ) (y : X) → A j → ys j ≡ Some y → zs j ≡ Some y)
    → (j : ℕ) (y : X) → ys j ≡ Some y → zs j ≡ Some y
there {X} K A B r s S T xs ys zs c d one law added j y e = ⊎_elim
    (λ (found : (i : ℕ) × K i × (r i ≡ j)).
    let p = both_there (S found.0) (xs found.0) (ys (r found.0)) (c.same found.0 found.1) in
    let q = both_there (T found.0) (xs found.0) (zs (s found.0)) (d.same found.0 found.1) in
    let first : q.0 ≡ p.0 = some_same q.0 p.0 (sym q.2 ∙ p.2) in
    let twin : T found.0 p.0 q.1 = subst (λ w. T found.0 w q.1) first q.4 in
    let same : p.1 ≡ q.1 = law found.0 p.0 p.1 q.1 found.1 p.2 p.3 q.3 p.4 twin in
    let is : p.1 ≡ y = some_same p.1 y (sym p.3 ∙ ap ys found.2 ∙ e) in
    let place : s found.0 ≡ j = sym (one found.0 found.1) ∙ found.2 in
    ap zs (sym place) ∙ q.3 ∙ ap Some (sym same ∙ is))
    (λ (a : A j). added j y a e)
    (c.onto j (is_some_by (ys j) y e))

-- the same, where what stands at the new number is made of the old one
pub made : {X : Type 0} (K A B : ℕ → Type 0) (r s : ℕ → ℕ) (f g : X → X) (xs ys zs : ℕ → Option X)
    → Carries K A r (λ i x y. y ≡ f x) xs ys → Carries K B s (λ i x y. y ≡ g x) xs zs → ((i : ℕ) → K i → r i ≡ s i)
    → ((i : ℕ) (x : X) → K i → xs i ≡ Some x → f x ≡ g x)
    → ((j : ℕ) (y : X) → A j → ys j ≡ Some y → zs j ≡ Some y)
    → (j : ℕ) (y : X) → ys j ≡ Some y → zs j ≡ Some y
made K A B r s f g xs ys zs c d one law added = there K A B r s (λ i x y. y ≡ f x) (λ i x y. y ≡ g x) xs ys zs c d one (λ i x y z k e ey ez p q. p ∙ law i x k e ∙ sym q) added

module _ (c : Config) (v : Abstract) (p : Premises v) (n m : Abstract) (a : Side c v n) (b : Side c v m) where
  abbrev pub r : Renaming
  r = a.is.written.renaming

  abbrev pub s : Renaming
  s = b.is.written.renaming

  -- all that is named in a live item
  pub on_item : (x : Item) → On r s (written_in v x)
  on_item x y at = numbers_one c v n m a b y.0 y.1 (p.written x y at)

  named : {X : Type 0} (names : X → List Item) (o : Option X) (x : X) → o ≡ Some x → On r s (named_by names o) → On r s (names x)
  named names o x e on = subst (λ q. On r s (named_by names q)) e on

  -- the import of a live item
  on_import : (x : Item) (o : Option ℕ) → IsLive v x → import_of v x ≡ o → OnImport r s o
  on_import x o live e i f = named_import_one c v n m a b x i live (e ∙ f)

  import_at : {X : Type 0} (get : X → Option ℕ) (o : Option X) (x : X) → o ≡ Some x → import_in get o ≡ get x
  import_at get o x e = ap (import_in get) e

  pub types_there : (j : ℕ) (y : TypeDef) → n.types j ≡ Some y → m.types j ≡ Some y
  types_there = there _ _ _ (r.numbers Types) (s.numbers Types) (SameType (r.numbers Types)) (SameType (s.numbers Types)) v.types n.types m.types a.is.written.carried.types b.is.written.carried.types (numbers_one c v n m a b Types) law (λ j y none. absurd none)
    where
      law : (i : ℕ) (x y z : TypeDef) → IsLive v (Types, i) → v.types i ≡ Some x → n.types (r.numbers Types i) ≡ Some y → m.types (s.numbers Types i) ≡ Some z → SameType (r.numbers Types) i x y → SameType (s.numbers Types) i x z → y ≡ z
      law i x y z k e ey ez same other =
          let on : On r s (type_names x) = named type_names (v.types i) x e (on_item (Types, i)) in
          let groups : y.group ≡ z.group = same.group ∙ type_one r s x on ∙ sym other.group in
          let agree : (t : ℕ) → Contains (sub_names x.sub) t → r.numbers Types t ≡ s.numbers Types t = λ t at. on_2 r s (map type_item x.group) (map type_item (sub_names x.sub)) on (type_item t) (item t at) in
          let subs : y.sub ≡ z.sub = same_sub (r.numbers Types) i x y same ∙ sub_alike (r.numbers Types) (s.numbers Types) x.sub agree ∙ sym (same_sub (s.numbers Types) i x z other) in
          ap₂ (λ g t. record { group = g; sub = t }) groups subs
        where
          item : (t : ℕ) → Contains (sub_names x.sub) t → Contains (map type_item (sub_names x.sub)) (type_item t)
          item t at = Contains-map type_item t (sub_names x.sub) at

  pub imports_there : (j : ℕ) (y : Import) → n.imports j ≡ Some y → m.imports j ≡ Some y
  imports_there = made _ _ _ r.imports s.imports (renamed_import r) (renamed_import s) v.imports n.imports m.imports a.is.written.carried.imports b.is.written.carried.imports (imports_one c v n m a b) law (λ j y none. absurd none)
    where
      law : (i : ℕ) (x : Import) → IsImportOf (IsLive v) v i → v.imports i ≡ Some x → renamed_import r x ≡ renamed_import s x
      law i x k e =
          let same : k.0 ≡ x = some_same k.0 x (sym k.1 ∙ e) in
          import_one r s x (numbers_one c v n m a b x.item.0 x.item.1 (subst (λ (y : Import). IsLive v y.item) same k.2))

  pub tables_there : (j : ℕ) (y : Table) → n.tables j ≡ Some y → m.tables j ≡ Some y
  tables_there = made _ _ _ (r.numbers Tables) (s.numbers Tables) (renamed_table r) (renamed_table s) v.tables n.tables m.tables a.is.written.carried.tables b.is.written.carried.tables (numbers_one c v n m a b Tables)
      (λ i x k e. table_one r s x (named table_names (v.tables i) x e (on_item (Tables, i))) (on_import (Tables, i) (origin_import x.origin) k (import_at (λ t. origin_import t.origin) (v.tables i) x e)))
      (λ j y none. absurd none)

  pub memories_there : (j : ℕ) (y : Memory) → n.memories j ≡ Some y → m.memories j ≡ Some y
  memories_there = made _ _ _ (r.numbers Memories) (s.numbers Memories) (renamed_memory r) (renamed_memory s) v.memories n.memories m.memories a.is.written.carried.memories b.is.written.carried.memories (numbers_one c v n m a b Memories)
      (λ i x k e. memory_one r s x (on_import (Memories, i) (origin_import x.origin) k (import_at (λ t. origin_import t.origin) (v.memories i) x e)))
      (λ j y none. absurd none)

  pub tags_there : (j : ℕ) (y : Tag) → n.tags j ≡ Some y → m.tags j ≡ Some y
  tags_there = made _ _ _ (r.numbers Tags) (s.numbers Tags) (renamed_tag r) (renamed_tag s) v.tags n.tags m.tags a.is.written.carried.tags b.is.written.carried.tags (numbers_one c v n m a b Tags)
      (λ i x k e. tag_one r s x (named tag_names (v.tags i) x e (on_item (Tags, i))) (on_import (Tags, i) (origin_import x.origin) k (import_at (λ t. origin_import t.origin) (v.tags i) x e)))
      (λ j y none. absurd none)

  pub globals_there : (j : ℕ) (y : Global) → n.globals j ≡ Some y → m.globals j ≡ Some y
  globals_there = made _ _ _ (r.numbers Globals) (s.numbers Globals) (renamed_global r) (renamed_global s) v.globals n.globals m.globals a.is.written.carried.globals b.is.written.carried.globals (numbers_one c v n m a b Globals)
      (λ i x k e. global_one r s x (named global_names (v.globals i) x e (on_item (Globals, i))) (on_import (Globals, i) (origin_import x.origin) k (import_at (λ t. origin_import t.origin) (v.globals i) x e)))
      (λ j y none. absurd none)

  pub data_there : (j : ℕ) (y : DataSegment) → n.data_segments j ≡ Some y → m.data_segments j ≡ Some y
  data_there = made _ _ _ (r.numbers DataSegments) (s.numbers DataSegments) (renamed_data r) (renamed_data s) v.data_segments n.data_segments m.data_segments a.is.written.carried.data_segments b.is.written.carried.data_segments (numbers_one c v n m a b DataSegments)
      (λ i x k e. data_one r s x (named data_names (v.data_segments i) x e (on_item (DataSegments, i))))
      (λ j y none. absurd none)

  pub exports_same : n.exports ≡ m.exports
  exports_same = a.is.written.carried.exports ∙ exports_one r s v.exports (λ e at. numbers_one c v n m a b e.item.0 e.item.1 (p.exports e at)) ∙ sym b.is.written.carried.exports

  start_one : (o : Option ℕ) → v.start ≡ o → option_map (r.numbers Functions) o ≡ option_map (s.numbers Functions) o
  start_one None e = refl
  start_one (Some f) e = ap Some (numbers_one c v n m a b Functions f (p.start f e))

  pub start_same : n.start ≡ m.start
  start_same = a.is.written.carried.start ∙ start_one v.start refl ∙ sym b.is.written.carried.start

-- ---- functions

pub body_at : (o : Option Function) (b : Body) → body_of_function o ≡ Some b → (g : Function) × (o ≡ Some g) × (g.kind ≡ LocalFunction b)
body_at None b e = absurd (cc)
body_at (Some g) b e = (g, refl, by g.kind e)
  where
    by : (k : FunctionKind) → body_of_kind k ≡ Some b → k ≡ LocalFunction b
    by (LocalFunction d) h = ap LocalFunction (some_same d b h)
    by (ImportedFunction q) h = absurd (cc)
    by Uninitialised h = absurd (cc)

pub body_is : (n : Abstract) (i : ℕ) (g : Function) (b : Body) → n.functions i ≡ Some g → g.kind ≡ LocalFunction b → body_of n i ≡ Some b
body_is n i g b e k = ap body_of_function e ∙ ap body_of_kind k

pub local_kind : (r : Renaming) (i : ℕ) (a : Body) (k : FunctionKind) → SameKind r i (LocalFunction a) k → (b : Body) × (k ≡ LocalFunction b) × SameBody r i a b
local_kind r i a (LocalFunction b) h = (b, refl, h)
local_kind r i a (ImportedFunction q) h = absurd h
local_kind r i a Uninitialised h = absurd h

local_as : (k : FunctionKind) (b d : Body) → k ≡ LocalFunction b → b ≡ d → k ≡ LocalFunction d
local_as k b d e h = e ∙ ap LocalFunction h

module _ (c : Config) (v : Abstract) (p : Premises v) where
  abbrev pub Typed : Body → Type 0
  Typed b = (x : ℕ) → IsUsed b x → IsSome (b.local_type x)

  module _ (n : Abstract) (a : Side c v n) where
    abbrev q : Renaming
    q = a.is.written.renaming

    -- what stands for a local function
    pub record Stands (i : ℕ) (x : Function) (body : Body) (typed : Typed body) : Type 0 where
      pub function : Function
      pub at : n.functions (q.numbers Functions i) ≡ Some function
      pub ty : function.ty ≡ q.numbers Types x.ty
      pub said : Said
      pub kind : function.kind ≡ LocalFunction (body_with (params_of (n.types function.ty)) said)
      pub comes : Comes body i (params_of (n.types function.ty)) typed q said

    pub stands : (i : ℕ) (x : Function) (body : Body) (typed : Typed body) → v.functions i ≡ Some x → x.kind ≡ LocalFunction body → Stands i x body typed
    stands i x body typed e k =
        let live : IsLive v (Functions, i) = is_some_by (v.functions i) x e in
        let both = both_there (SameFunction q i) (v.functions i) (n.functions (q.numbers Functions i)) (a.is.written.carried.functions.same i live) in
        let first : both.0 ≡ x = some_same both.0 x (sym both.2 ∙ e) in
        let same : SameFunction q i x both.1 = subst (λ w. SameFunction q i w both.1) first both.4 in
        let local = local_kind q i body both.1.kind (subst (λ w. SameKind q i w both.1.kind) k same.kind) in
        let shape = a.shaped.bodies (q.numbers Functions i) both.1 local.0 both.3 local.1 in
        let uses : UsesAll local.0 = a.shaped.uses (q.numbers Functions i) local.0 (body_is n (q.numbers Functions i) both.1 local.0 both.3 local.1) in
        record {
          function = both.1;
          at = both.3;
          ty = same.ty;
          said = shape.0;
          kind = local_as both.1.kind local.0 (body_with (params_of (n.types both.1.ty)) shape.0) local.1 shape.1;
          comes = record {
            same = subst (SameBody q i body) {y = body_with (params_of (n.types both.1.ty)) shape.0} shape.1 local.2;
            uses = subst UsesAll {y = body_with (params_of (n.types both.1.ty)) shape.0} shape.1 uses;
            rises = λ y z dy dz before. a.is.pinned.locals i body y z (body_is v i x body e k) dy dz before;
          };
        }

  module _ (n m : Abstract) (a : Side c v n) (b : Side c v m) where
    abbrev f : Renaming
    f = a.is.written.renaming

    abbrev g : Renaming
    g = b.is.written.renaming

    pub types_same : n.types ≡ m.types
    types_same = same_looks n.types m.types (types_there c v p n m a b) (types_there c v p m n b a)

    on_function : (i : ℕ) (x : Function) → v.functions i ≡ Some x → On f g (function_names x)
    on_function i x e = subst (λ o. On f g (named_by function_names o)) e (on_item c v p n m a b (Functions, i))

    type_of : (i : ℕ) (x : Function) → v.functions i ≡ Some x → f.numbers Types x.ty ≡ g.numbers Types x.ty
    type_of i x e = on_head f g (type_item x.ty) (kind_names x.kind) (on_function i x e)

    on_body : (i : ℕ) (x : Function) (body : Body) → v.functions i ≡ Some x → x.kind ≡ LocalFunction body → On f g (body_names body)
    on_body i x body e k = subst (λ w. On f g (kind_names w)) k (on_tail f g (type_item x.ty) (kind_names x.kind) (on_function i x e))

    on_ops : (body : Body) → On f g (body_names body) → On f g (names_of body.operators)
    on_ops body on = on_1 f g (names_of body.operators) (flat_map (local_names body) (used_locals body)) on

    on_locals : (body : Body) → On f g (body_names body) → (x : ℕ) → IsUsed body x → On f g (local_names body x)
    on_locals body on x u y at = on_2 f g (names_of body.operators) (flat_map (local_names body) (used_locals body)) on y (Contains-flat_map (local_names body) (used_locals body) x y u at)

    module _ (i : ℕ) (x : Function) (body : Body) (e : v.functions i ≡ Some x) (k : x.kind ≡ LocalFunction body) where
      typed : Typed body
      typed y u = p.locals i body y (body_is v i x body e k) u

      left : Stands n a i x body typed
      left = stands n a i x body typed e k

      right : Stands m b i x body typed
      right = stands m b i x body typed e k

      same_params : (l : Stands n a i x body typed) (r : Stands m b i x body typed) → params_of (m.types r.function.ty) ≡ params_of (n.types l.function.ty)
      same_params l r = ap₂ (λ (types : ℕ → Option TypeDef) (t : ℕ). params_of (types t)) (sym types_same) (r.ty ∙ sym (type_of i x e) ∙ sym l.ty)

      same_used : (l : Stands n a i x body typed) (r : Stands m b i x body typed) → (y : ℕ) → IsUsed body y → f.locals i y ≡ g.locals i y
      same_used l r = used_one body i (params_of (n.types l.function.ty)) typed f g l.said r.said l.comes (subst (λ ps. Comes body i ps typed g r.said) (same_params l r) r.comes)

      same_function : (l : Stands n a i x body typed) (r : Stands m b i x body typed) → l.function ≡ r.function
      same_function l r =
          let on : On f g (body_names body) = on_body i x body e k in
          let said : l.said ≡ r.said = one_said body i (params_of (n.types l.function.ty)) typed f g l.said r.said l.comes (subst (λ ps. Comes body i ps typed g r.said) (same_params l r) r.comes) (on_ops body on) (on_locals body on) in
          let kinds : l.function.kind ≡ r.function.kind = l.kind ∙ ap₂ (λ (ps : List (ValType ℕ)) (t : Said). LocalFunction (body_with ps t)) (sym (same_params l r)) said ∙ sym r.kind in
          let types : l.function.ty ≡ r.function.ty = l.ty ∙ type_of i x e ∙ sym r.ty in
          ap₂ (λ (t : ℕ) (w : FunctionKind). record { ty = t; kind = w }) types kinds

      pub locals_one : (y : ℕ) → IsUsed body y → f.locals i y ≡ g.locals i y
      locals_one = same_used left right

      pub function_one : (y z : Function) → n.functions (f.numbers Functions i) ≡ Some y → m.functions (g.numbers Functions i) ≡ Some z → y ≡ z
      function_one y z ey ez = some_same y left.function (sym ey ∙ left.at) ∙ same_function left right ∙ some_same right.function z (sym right.at ∙ ez)

    kind_law : (i : ℕ) (x y z : Function) (k h l : FunctionKind) → v.functions i ≡ Some x → n.functions (f.numbers Functions i) ≡ Some y → m.functions (g.numbers Functions i) ≡ Some z → x.kind ≡ k → y.kind ≡ h → z.kind ≡ l → y.ty ≡ z.ty → SameKind f i k h → SameKind g i k l → y ≡ z
    kind_law i x y z (ImportedFunction q) (ImportedFunction t) (ImportedFunction u) e ey ez kx ky kz ty same other =
        let at : import_of v (Functions, i) ≡ Some q = import_at c v p n m a b (λ w. kind_import w.kind) (v.functions i) x e ∙ ap kind_import kx in
        let one : f.imports q ≡ g.imports q = on_import c v p n m a b (Functions, i) (Some q) (is_some_by (v.functions i) x e) at q refl in
        let kinds : y.kind ≡ z.kind = ky ∙ ap ImportedFunction (same ∙ one ∙ sym other) ∙ sym kz in
        ap₂ (λ (t : ℕ) (w : FunctionKind). record { ty = t; kind = w }) ty kinds
    kind_law i x y z (LocalFunction body) h l e ey ez kx ky kz ty same other = function_one i x body e kx y z ey ez
    kind_law i x y z (ImportedFunction q) (LocalFunction t) l e ey ez kx ky kz ty same other = absurd same
    kind_law i x y z (ImportedFunction q) Uninitialised l e ey ez kx ky kz ty same other = absurd same
    kind_law i x y z (ImportedFunction q) (ImportedFunction t) (LocalFunction u) e ey ez kx ky kz ty same other = absurd other
    kind_law i x y z (ImportedFunction q) (ImportedFunction t) Uninitialised e ey ez kx ky kz ty same other = absurd other
    kind_law i x y z Uninitialised h l e ey ez kx ky kz ty same other = absurd same

    pub functions_there : (j : ℕ) (y : Function) → n.functions j ≡ Some y → m.functions j ≡ Some y
    functions_there = there _ _ _ (f.numbers Functions) (g.numbers Functions) (SameFunction f) (SameFunction g) v.functions n.functions m.functions a.is.written.carried.functions b.is.written.carried.functions (numbers_one c v n m a b Functions)
        (λ i x y z k e ey ez same other. kind_law i x y z x.kind y.kind z.kind e ey ez refl refl refl (same.ty ∙ type_of i x e ∙ sym other.ty) same.kind other.kind)
        (λ j y none. absurd none)

    -- ---- element segments

    live_ref : (i w : ℕ) (body : Body) → body_of v i ≡ Some body → Contains body.operators (ref_func w) → IsLive v (Functions, w)
    live_ref i w body e at =
        let x = body_at (v.functions i) body e in
        let in_op : Contains (op_names (ref_func w)) (function_item w) = Contains-head (function_item w) [] in
        let in_ops : Contains (names_of body.operators) (function_item w) = Contains-flat_map op_names body.operators (ref_func w) (function_item w) at in_op in
        let in_body : Contains (body_names body) (function_item w) = Contains-append_1 (function_item w) (names_of body.operators) (flat_map (local_names body) (used_locals body)) in_ops in
        let in_kind : Contains (kind_names x.0.kind) (function_item w) = subst (λ t. Contains (kind_names t) (function_item w)) (sym x.2) in_body in
        let in_function : Contains (function_names x.0) (function_item w) = Contains-tail (type_item x.0.ty) (function_item w) (kind_names x.0.kind) in_kind in
        p.written (Functions, i) (function_item w) (subst (λ o. Contains (named_by function_names o) (function_item w)) (sym x.1) in_function)

    live_get : (i w : ℕ) (x : Global) (ops : List Op) → v.globals i ≡ Some x → x.initialiser ≡ Some ops → Contains ops (ref_func w) → IsLive v (Functions, w)
    live_get i w x ops e k at =
        let in_op : Contains (op_names (ref_func w)) (function_item w) = Contains-head (function_item w) [] in
        let in_ops : Contains (names_of ops) (function_item w) = Contains-flat_map op_names ops (ref_func w) (function_item w) at in_op in
        let in_value : Contains (named_by names_of x.initialiser) (function_item w) = subst (λ o. Contains (named_by names_of o) (function_item w)) (sym k) in_ops in
        let in_global : Contains (global_names x) (function_item w) = Contains-append_2 (function_item w) (map type_item (val_names x.ty.value)) (named_by names_of x.initialiser) in_value in
        p.written (Globals, i) (function_item w) (subst (λ o. Contains (named_by global_names o) (function_item w)) (sym e) in_global)

    live_undeclared : (w : ℕ) → IsUndeclared (IsLive v) v w → IsLive v (Functions, w)
    live_undeclared w u = ⊎_elim
        (λ (h : IsRefInBody (IsLive v) v w). live_ref h.0 w h.1 h.3 h.4)
        (λ (h : IsRefInGlobal (IsLive v) v w). live_get h.0 w h.1 h.2 h.4 h.5 h.6)
        u.named

    functions_undeclared : a.is.written.declares.functions ≡ b.is.written.declares.functions
    functions_undeclared =
        let one = a.is.written.declares.undeclared in
        let two = b.is.written.declares.undeclared in
        one_rising b.is.written.declares.functions a.is.written.declares.functions two.rising one.rising
        (λ w at. (one.are w).1 ((two.are w).0 at))
        (λ w at. (two.are w).1 ((one.are w).0 at))

    -- the other one has no segment behind this one
    not_behind : (j k : ℕ) → ((i : ℕ) → IsLive v (Elements, i) → f.numbers Elements i < j) → b.is.written.segment ≡ Some k → IsSome (m.elements k) → j < k → ⊥
    not_behind j k last e h lt = ⊎_elim
        (λ (found : (i : ℕ) × In (IsLive v) Elements i × (g.numbers Elements i ≡ j)).
        let low : f.numbers Elements found.0 < j = last found.0 found.1 in
        let one : f.numbers Elements found.0 ≡ g.numbers Elements found.0 = numbers_one c v n m a b Elements found.0 found.1 in
        omega (arith, low, one, found.2))
        (λ (added : b.is.written.segment ≡ Some j). let same : j ≡ k = some_same j k (sym added ∙ e) in omega (arith, same, lt))
        (b.is.written.carried.elements.onto j (b.shaped.elements k j lt h))

  module _ (n m : Abstract) (a : Side c v n) (b : Side c v m) where
    segment_one : (fs gs : List ℕ) (j : ℕ) (y : Element) → fs ≡ gs → ((w : ℕ) → Contains fs w → IsLive v (Functions, w))
        → HasDeclaredSegment (IsLive v) a.is.written.renaming v n fs a.is.written.segment → HasDeclaredSegment (IsLive v) b.is.written.renaming v m gs b.is.written.segment
        → a.is.written.segment ≡ Some j → n.elements j ≡ Some y → m.elements j ≡ Some y
    segment_one [] gs j y same live h k e ey = absurd (let none : Some j ≡ None = sym e ∙ h in cc)
    segment_one (u ∷ us) [] j y same live h k e ey = absurd (cc)
    segment_one (u ∷ us) (w ∷ ws) j y same live h k e ey =
        let here : h.0 ≡ j = some_same h.0 j (sym h.1 ∙ e) in
        let first : n.elements j ≡ Some (record { kind = DeclaredElements; items = ListedFunctions (map (a.is.written.renaming.numbers Functions) (u ∷ us)) }) = subst (λ i. n.elements i ≡ _) here h.2.is in
        let last : (i : ℕ) → IsLive v (Elements, i) → a.is.written.renaming.numbers Elements i < j = λ i li. subst (λ t. a.is.written.renaming.numbers Elements i < t) here (h.2.last i li) in
        let not_here : h.0 < k.0 → ⊥ = not_behind n m a b h.0 k.0 h.2.last k.1 (is_some_by (m.elements k.0) _ k.2.is) in
        let not_there : k.0 < h.0 → ⊥ = not_behind m n b a k.0 h.0 k.2.last h.1 (is_some_by (n.elements h.0) _ h.2.is) in
        let place : k.0 ≡ j = by h.0 k.0 j here not_here not_there (compared h.0 k.0) in
        let listed : map (a.is.written.renaming.numbers Functions) (u ∷ us) ≡ map (b.is.written.renaming.numbers Functions) (w ∷ ws) =
        functions_one a.is.written.renaming b.is.written.renaming (u ∷ us) (on (u ∷ us) live) ∙ ap (map (b.is.written.renaming.numbers Functions)) same in
        let is : y ≡ record { kind = DeclaredElements; items = ListedFunctions (map (a.is.written.renaming.numbers Functions) (u ∷ us)) } = some_same _ _ (sym ey ∙ first) in
        subst (λ i. m.elements i ≡ Some y) place (k.2.is ∙ ap (λ (l : List ℕ). Some (record { kind = DeclaredElements; items = ListedFunctions l })) (sym listed) ∙ ap Some (sym is))
      where
        by : (h k j : ℕ) → h ≡ j → (h < k → ⊥) → (k < h → ⊥) → Compared h k → k ≡ j
        by h k j e l r (inl t) = absurd (l t)
        by h k j e l r (inr (inl t)) = sym t ∙ e
        by h k j e l r (inr (inr t)) = absurd (r t)

        on_from : (fs : List ℕ) → ((t : ℕ) → Contains fs t → IsLive v (Functions, t)) → (x : Item) → Contains (map function_item fs) x → IsLive v x
        on_from [] h x at = absurd (Contains-none x at)
        on_from (t ∷ ts) h x at = ⊎_elim
            (λ (e : function_item t ≡ x). subst (IsLive v) e (h t (Contains-head t ts)))
            (λ (rest : Contains (map function_item ts) x). on_from ts (λ q has. h q (Contains-tail t q ts has)) x rest)
            (Contains-uncons (function_item t) x (map function_item ts) at)

        on : (fs : List ℕ) → ((t : ℕ) → Contains fs t → IsLive v (Functions, t)) → On a.is.written.renaming b.is.written.renaming (map function_item fs)
        on fs h x at = numbers_one c v n m a b x.0 x.1 (on_from fs h x at)

    pub elements_there : (j : ℕ) (y : Element) → n.elements j ≡ Some y → m.elements j ≡ Some y
    elements_there = made _ _ _ (a.is.written.renaming.numbers Elements) (b.is.written.renaming.numbers Elements) (renamed_element a.is.written.renaming) (renamed_element b.is.written.renaming) v.elements n.elements m.elements a.is.written.carried.elements b.is.written.carried.elements (numbers_one c v n m a b Elements)
        (λ i x k e. element_one a.is.written.renaming b.is.written.renaming x (named c v p n m a b element_names (v.elements i) x e (on_item c v p n m a b (Elements, i))))
        (λ j y added e. segment_one a.is.written.declares.functions b.is.written.declares.functions j y (functions_undeclared n m a b) (λ w at. live_undeclared n m a b w ((a.is.written.declares.undeclared.are w).0 at)) a.is.written.declares.declared b.is.written.declares.declared added e)
