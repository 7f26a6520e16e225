-- What ref.func names undeclared is the same on records.
use Rattle.std.proofs.Common.{inl, inr, ◌≡◌, ◌⊎◌, ⊎_elim, ℕ, ◌+◌, ◌<◌, List, [], ◌∷◌, length, map, get_or, refl, sym, ap, ap₂, subst, ◌∙◌, arith}
use Rattle.std.specs.Prelude.{Option, Some, None, is_some, Contains, slice_get, zip, option_map, option_to_list}
use Rattle.std.specs.List.{AllByRecursion}
use Rattle.std.proofs.lemmas.Option.{slice_get-get_or}
use Rattle.wasm_entries.specs.declared.record.RawDesc.{RawDesc}
use Rattle.wasm_entries.specs.declared.record.RawDesc.TheVariants as descs
use Rattle.wasm_entries.specs.declared.record.RawConst.{RawConst}
use Rattle.wasm_entries.specs.declared.record.RawConst.TheVariants as ops
use Rattle.wasm_entries.specs.declared.record.RawExportKind.{RawExportKind}
use Rattle.wasm_entries.specs.declared.record.RawExportKind.TheVariants as kinds
use Rattle.wasm_entries.specs.Record as entries
use Rattle.wasm_entries.specs.Record.{Expression}
use Rattle.wasm_frames.specs.Record as wire
use Rattle.walrus_base.specs.Operators.{Functions, Item, Arg, Index, Op, function_item}
use Rattle.walrus_functions.specs.Handlers.{params_of}
use Rattle.walrus_bodies.proofs.LawNamed.{each_append}
use Rattle.walrus_model.specs.Abstract.{Abstract, Body, Function, Global, Element, Export}
use Rattle.walrus_model.specs.Constants.{const_of, consts_of}
use Rattle.walrus_model.specs.Declared.{ref_func, Lists, IsRefInBody, IsRefInGlobal, IsUndeclared}
use Rattle.walrus_model.specs.Live.{IsLive}
use Rattle.walrus_model.specs.Names.{body_of_function, body_of_kind}
use Rattle.walrus_model.specs.Sections.{Said, types_of, imported, imported_function, imported_global, function_with, body_with, global_of, element_of, element_items, export_of, space_of, functions_of, module_of}
use Rattle.walrus_base.proofs.Lists.{Contains-head, Contains-tail, Contains-map}
use Rattle.walrus_model.proofs.PipelineOps.{from_map}
use Rattle.walrus_base.proofs.Standing.{some_inj, got_where, got_in}
use Rattle.walrus_theorem.proofs.TextShaped.{all_at}
use Rattle.walrus_base.proofs.Lookups.{mapped_some, got_map, got_both, heads}
use Rattle.walrus_groups.proofs.TypeLists.{got_either, got_right as behind}
use Rattle.walrus_theorem.specs.Declared.{BodiesName, GlobalsName, Exports, ItemsList, SegmentsList, IsUndeclaredIn, ReferencesAgree}
use Rattle.walrus_theorem.proofs.Initialisers.{Brought, brought_globals}

-- ---- ref.func as a constant

-- a constant with another number is another one
other : {A : Type 0} (f : ℕ) (o : Op) (n : ℕ) → (n ≡ 210 → ⊥) → o.op ≡ n → o ≡ ref_func f → A
other f o n apart is e = absurd (apart (sym is ∙ ap (λ (x : Op). x.op) e))

same_function : (g f : ℕ) → ◌≡◌ {A = List Arg} (Index (Functions, g) ∷ []) (Index (Functions, f) ∷ []) → g ≡ f
same_function g f e = let p : ◌≡◌ {A = Item} (Functions, g) (Functions, f) = cc in ap (λ (x : Item). x.1) p

ref_was : (f : ℕ) (k : RawConst) → const_of k ≡ ref_func f → k ≡ ops.RefFunc f
ref_was f (ops.RefFunc g) e = ap ops.RefFunc (same_function g f (ap (λ (x : Op). x.args) e))
ref_was f (ops.GlobalGet g) e = other f (const_of (ops.GlobalGet g)) 35 (λ is. omega (arith, is)) refl e
ref_was f (ops.I32Const z) e = other f (const_of (ops.I32Const z)) 65 (λ is. omega (arith, is)) refl e
ref_was f (ops.I64Const z) e = other f (const_of (ops.I64Const z)) 66 (λ is. omega (arith, is)) refl e
ref_was f (ops.F32Const bits) e = other f (const_of (ops.F32Const bits)) 67 (λ is. omega (arith, is)) refl e
ref_was f (ops.F64Const bits) e = other f (const_of (ops.F64Const bits)) 68 (λ is. omega (arith, is)) refl e
ref_was f (ops.V128Const bytes) e = other f (const_of (ops.V128Const bytes)) 16580620 (λ is. omega (arith, is)) refl e
ref_was f ops.I32Add e = other f (const_of ops.I32Add) 106 (λ is. omega (arith, is)) refl e
ref_was f ops.I32Sub e = other f (const_of ops.I32Sub) 107 (λ is. omega (arith, is)) refl e
ref_was f ops.I32Mul e = other f (const_of ops.I32Mul) 108 (λ is. omega (arith, is)) refl e
ref_was f ops.I64Add e = other f (const_of ops.I64Add) 124 (λ is. omega (arith, is)) refl e
ref_was f ops.I64Sub e = other f (const_of ops.I64Sub) 125 (λ is. omega (arith, is)) refl e
ref_was f ops.I64Mul e = other f (const_of ops.I64Mul) 126 (λ is. omega (arith, is)) refl e
ref_was f (ops.RefNull h) e = other f (const_of (ops.RefNull h)) 208 (λ is. omega (arith, is)) refl e
ref_was f (ops.StructNew t) e = other f (const_of (ops.StructNew t)) 16449536 (λ is. omega (arith, is)) refl e
ref_was f (ops.StructNewDefault t) e = other f (const_of (ops.StructNewDefault t)) 16449537 (λ is. omega (arith, is)) refl e
ref_was f (ops.ArrayNew t) e = other f (const_of (ops.ArrayNew t)) 16449542 (λ is. omega (arith, is)) refl e
ref_was f (ops.ArrayNewDefault t) e = other f (const_of (ops.ArrayNewDefault t)) 16449543 (λ is. omega (arith, is)) refl e
ref_was f (ops.ArrayNewFixed t n) e = other f (const_of (ops.ArrayNewFixed t n)) 16449544 (λ is. omega (arith, is)) refl e
ref_was f ops.AnyConvertExtern e = other f (const_of ops.AnyConvertExtern) 16449562 (λ is. omega (arith, is)) refl e
ref_was f ops.ExternConvertAny e = other f (const_of ops.ExternConvertAny) 16449563 (λ is. omega (arith, is)) refl e
ref_was f ops.RefI31 e = other f (const_of ops.RefI31) 16449564 (λ is. omega (arith, is)) refl e

names_was : (f : ℕ) (x : Expression) → Contains (consts_of x) (ref_func f) → Contains x (ops.RefFunc f)
names_was f x at = let w = from_map const_of (ref_func f) x at in subst (λ (k : RawConst). Contains x k) (ref_was f w.0 w.2) w.1

names_by : (f : ℕ) (x : Expression) → Contains x (ops.RefFunc f) → Contains (consts_of x) (ref_func f)
names_by f x at = Contains-map const_of (ops.RefFunc f) x at

alone_was : (f : ℕ) (x : Expression) → consts_of x ≡ ref_func f ∷ [] → x ≡ ops.RefFunc f ∷ []
alone_was f [] e = absurd (cc)
alone_was f (k ∷ []) e = ap (λ (c : RawConst). c ∷ []) (ref_was f k (heads (const_of k) (ref_func f) [] [] e).0)
alone_was f (k ∷ l ∷ rest) e = absurd (cc)

-- ---- items of segments

lists_by : (f : ℕ) (x : entries.Items) → ItemsList x f → Lists (element_items x) f
lists_by f (entries.Functions fs) h = h
lists_by f (entries.Expressions ty es) h = Contains-map consts_of (ops.RefFunc f ∷ []) es h

lists_was : (f : ℕ) (x : entries.Items) → Lists (element_items x) f → ItemsList x f
lists_was f (entries.Functions fs) h = h
lists_was f (entries.Expressions ty es) h =
    let w = from_map consts_of (ref_func f ∷ []) es h in
    subst (λ (x : Expression). Contains es x) (alone_was f w.0 w.2) w.1

-- ---- exports

function_kind : (k : RawExportKind) → space_of k ≡ Functions → k ≡ kinds.Function
function_kind kinds.Function e = refl
function_kind kinds.Table e = absurd (cc)
function_kind kinds.Memory e = absurd (cc)
function_kind kinds.Global e = absurd (cc)
function_kind kinds.Tag e = absurd (cc)

-- ---- bodies

module _ (s : wire.Module) (bodies : List Said) where
  abbrev M : Abstract
  M = module_of s bodies

  -- a body that it has says what one of the bodies says
  abbrev Says : Function → Type 0
  Says f = (b : Body) → body_of_kind f.kind ≡ Some b → (said : Said) × Contains bodies said × (b.operators ≡ said.1)

  desc_says : (i : ℕ) (d : RawDesc) → AllByRecursion Says (option_to_list (imported_function i d))
  desc_says i (descs.Function ty) = ((λ b e. absurd (cc)), tt)
  desc_says i (descs.Table t) = tt
  desc_says i (descs.Memory l) = tt
  desc_says i (descs.Global g) = tt
  desc_says i (descs.Tag ty) = tt

  imports_say : (i : ℕ) (ws : List entries.Import) → AllByRecursion Says (imported imported_function i ws)
  imports_say i [] = tt
  imports_say i (w ∷ ws) = each_append Says (option_to_list (imported_function i w.desc)) (imported imported_function (i + 1) ws) (desc_says i w.desc) (imports_say (i + 1) ws)

  local_says : (fs : List ℕ) (saids : List Said) → ((said : Said) → Contains saids said → Contains bodies said) → AllByRecursion Says (map (function_with s) (zip fs saids))
  local_says [] saids among = tt
  local_says (f ∷ fs) [] among = tt
  local_says (f ∷ fs) (said ∷ saids) among = (
    (λ b e. (said, among said (Contains-head said saids), sym (ap (λ (x : Body). x.operators) (some_inj (body_with (params_of (types_of s f)) said) b e)))),
    local_says fs saids (λ x at. among x (Contains-tail said x saids at)),
  )

  all_say : AllByRecursion Says (functions_of s bodies)
  all_say = each_append Says (imported imported_function 0 s.imports) (map (function_with s) (zip s.functions bodies)) (imports_say 0 s.imports) (local_says s.functions bodies (λ said at. at))

  said_by : (o : Option Function) (b : Body) → body_of_function o ≡ Some b → ((f : Function) → o ≡ Some f → Says f) → (said : Said) × Contains bodies said × (b.operators ≡ said.1)
  said_by None b e h = absurd (cc)
  said_by (Some f) b e h = h f refl b e

  bodies_was : (f : ℕ) → IsRefInBody (IsLive M) M f → BodiesName bodies f
  bodies_was f (i, b, live, is, at) =
      let w = said_by (slice_get (functions_of s bodies) i) b is (λ g there. all_at Says (functions_of s bodies) i g all_say there) in
      (w.0, w.1, subst (λ (l : List Op). Contains l (ref_func f)) w.2 at)

  bodies_by : length bodies ≡ length s.functions → (f : ℕ) → BodiesName bodies f → IsRefInBody (IsLive M) M f
  bodies_by many f (said, among, at) =
      let lt : among.0 < length s.functions = omega (arith, among.1, many) in
      let pair : slice_get (zip s.functions bodies) among.0 ≡ Some (get_or s.functions among.0 0, said) = got_both s.functions bodies among.0 (get_or s.functions among.0 0) said (slice_get-get_or s.functions among.0 0 lt) (got_where bodies said among) in
      let here : slice_get (map (function_with s) (zip s.functions bodies)) among.0 ≡ Some (function_with s (get_or s.functions among.0 0, said)) = got_map (function_with s) (zip s.functions bodies) among.0 ∙ ap (option_map (function_with s)) pair in
      let there : M.functions (length (imported imported_function 0 s.imports) + among.0) ≡ Some (function_with s (get_or s.functions among.0 0, said)) =
      behind (imported imported_function 0 s.imports) (map (function_with s) (zip s.functions bodies)) among.0 (length (imported imported_function 0 s.imports) + among.0) refl ∙ here in
      (length (imported imported_function 0 s.imports) + among.0, body_with (params_of (types_of s (get_or s.functions among.0 0))) said, ap is_some there, ap body_of_function there, at)

  -- ---- globals

  globals_was : (f : ℕ) → IsRefInGlobal (IsLive M) M f → GlobalsName s f
  globals_was f (i, g, os, live, is, has, at) = ⊎_elim
      (λ (e : slice_get (imported imported_global 0 s.imports) i ≡ Some g). absurd (let p : None ≡ Some os = sym (all_at Brought (imported imported_global 0 s.imports) i g (brought_globals 0 s.imports) e).1 ∙ has in cc))
      (λ later.
      let w = mapped_some global_of (slice_get s.globals later.0) g (sym (got_map global_of s.globals later.0) ∙ later.2) in
      let same : consts_of w.0.initial ≡ os = some_inj (consts_of w.0.initial) os (sym (ap (λ (y : Global). y.initialiser) w.2) ∙ has) in
      let stands = got_in s.globals later.0 w.0 w.1 in
      (w.0, (later.0, stands.0, stands.1 w.0), names_was f w.0.initial (subst (λ (l : List Op). Contains l (ref_func f)) (sym same) at)))
      (got_either (imported imported_global 0 s.imports) (map global_of s.globals) i g is)

  globals_by : (f : ℕ) → GlobalsName s f → IsRefInGlobal (IsLive M) M f
  globals_by f (x, among, at) =
      let here : slice_get (map global_of s.globals) among.0 ≡ Some (global_of x) = got_map global_of s.globals among.0 ∙ ap (option_map global_of) (got_where s.globals x among) in
      let there : M.globals (length (imported imported_global 0 s.imports) + among.0) ≡ Some (global_of x) =
      behind (imported imported_global 0 s.imports) (map global_of s.globals) among.0 (length (imported imported_global 0 s.imports) + among.0) refl ∙ here in
      (length (imported imported_global 0 s.imports) + among.0, global_of x, consts_of x.initial, ap is_some there, there, refl, names_by f x.initial at)

  -- ---- what declares it

  exported_by : (f : ℕ) → ((e : Export) → Contains M.exports e → e.item ≡ function_item f → ⊥) → Exports s f → ⊥
  exported_by f h (x, among, kind, index) = h (export_of x) (Contains-map export_of x s.exports among) (ap₂ (λ (k : RawExportKind) (i : ℕ). (space_of k, i)) kind index)

  exported_was : (f : ℕ) → (Exports s f → ⊥) → (e : Export) → Contains M.exports e → e.item ≡ function_item f → ⊥
  exported_was f h e at is =
      let w = from_map export_of e s.exports at in
      let same : ◌≡◌ {A = Item} (space_of w.0.kind, w.0.index) (Functions, f) = ap (λ (y : Export). y.item) w.2 ∙ is in
      h (w.0, w.1, function_kind w.0.kind (ap (λ (y : Item). y.0) same), ap (λ (y : Item). y.1) same)

  listed_by : (f : ℕ) → ((i : ℕ) (e : Element) → M.elements i ≡ Some e → Lists e.items f → ⊥) → SegmentsList s f → ⊥
  listed_by f h (x, among, lists) =
      h among.0 (element_of x) (got_map element_of s.elements among.0 ∙ ap (option_map element_of) (got_where s.elements x among)) (lists_by f x.items lists)

  listed_was : (f : ℕ) → (SegmentsList s f → ⊥) → (i : ℕ) (e : Element) → M.elements i ≡ Some e → Lists e.items f → ⊥
  listed_was f h i e at lists =
      let w = mapped_some element_of (slice_get s.elements i) e (sym (got_map element_of s.elements i) ∙ at) in
      let stands = got_in s.elements i w.0 w.1 in
      h (w.0, (i, stands.0, stands.1 w.0), lists_was f w.0.items (subst (λ (y : Element). Lists y.items f) w.2 lists))

  undeclared_was : (f : ℕ) → IsUndeclared (IsLive M) M f → IsUndeclaredIn s bodies f
  undeclared_was f u = record {
    named = ⊎_elim {C = BodiesName bodies f ⊎ GlobalsName s f} (λ b. inl (bodies_was f b)) (λ g. inr (globals_was f g)) u.named;
    not_exported = exported_by f u.not_exported;
    not_listed = listed_by f (λ i e at. u.not_listed i e (ap is_some at) at);
  }

  undeclared_by : length bodies ≡ length s.functions → (f : ℕ) → IsUndeclaredIn s bodies f → IsUndeclared (IsLive M) M f
  undeclared_by many f u = record {
    named = ⊎_elim {C = IsRefInBody (IsLive M) M f ⊎ IsRefInGlobal (IsLive M) M f} (λ b. inl (bodies_by many f b)) (λ g. inr (globals_by f g)) u.named;
    not_exported = exported_was f u.not_exported;
    not_listed = λ i e live at lists. listed_was f u.not_listed i e at lists;
  }

pub references_agree : ReferencesAgree
references_agree s bodies many f = (undeclared_was s bodies f, undeclared_by s bodies many f)
