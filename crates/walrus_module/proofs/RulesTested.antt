-- What the tests of a check tell of the rules of a module.
use Rattle.std.proofs.Common.{◌≡◌, ◌≢◌, ℕ, ◌≤◌, Bool, true, false, not, ◌&&◌, ◌||◌, List, [], ◌∷◌, Some, None, refl, sym, ap, ap₂, ◌∙◌, subst, nat_eq, nat_le}
use Rattle.std.specs.Prelude.{Contains, IsSome, Option, is_some, option_map}
use Rattle.std.specs.Bool.{Decides}
use Rattle.std.specs.List.{list_all}
use Rattle.std.proofs.lemmas.Bool.{false≢true}
use Rattle.std.proofs.lemmas.Bool.Decides.{Decides-and, Decides-eqb, Decides-or}
use Rattle.walrus_base.specs.Arena.{item_at, items}
use Rattle.walrus_base.specs.Id.{place}
use Rattle.walrus_base.specs.Types.{CompType, Func, Struct, Array}
use Rattle.walrus_base.specs.ModuleTypes.{type_slots}
use Rattle.walrus_base.specs.Operators.{Block, OfType, Arg, Op}
use Rattle.walrus_base.specs.TypeDef.{TypeDef}
use Rattle.walrus_bodies.specs.Blocks.{args_hold, block_holds, blocks_hold}
use Rattle.walrus_bodies.specs.FunctionTypes.{is_function_at, is_function_def}
use Rattle.walrus_items.specs.Exports.{exports}
use Rattle.walrus_items.specs.Function.{body_of}
use Rattle.walrus_items.specs.declared.function_kind.FunctionKind.{FunctionKind}
use Rattle.walrus_items.specs.declared.function_kind.FunctionKind.TheVariants as kinds
use Rattle.walrus_items.specs.FunctionKinds.{kind_type}
use Rattle.walrus_items.specs.Functions.{FunctionValue, functions}
use Rattle.walrus_items.specs.Memories.{MemoryValue, memories}
use Rattle.walrus_items.specs.Tables.{TableValue, tables}
use Rattle.walrus_items.specs.Tags.{TagValue, tags}
use Rattle.walrus_contents.specs.View.{body, contents_view, export_of, function, kind_of, memory_of, table_of, tag_of}
use Rattle.walrus_contents.specs.declared.parts.Contents.{Contents}
use Rattle.walrus_base.proofs.Lookups.{mapped_some}
use Rattle.walrus_model.specs.Abstract as abstract
use Rattle.walrus_model.specs.Abstract.{Abstract}
use Rattle.walrus_model.specs.Names.{body_of_function, body_of_kind}
use Rattle.walrus_base.proofs.Standing.{some_inj}
use Rattle.walrus_model.specs.Rules.{FunctionTypesHold, IsAtMost, IsEmptyFunctionType, IsExponent, IsFunctionComp, IsFunctionType, LimitsHold, MaximumIsAtMost, MemoryHolds}
use Rattle.walrus_model.proofs.NestedBack.{blocks_fine, function_def}
use Rattle.walrus_plan.proofs.ReadsBefore.{each_passes}
use Rattle.walrus_module.specs.Check.{NamesAreApart, StartHolds}
use Rattle.walrus_module.specs.Tested.{AreNamedApart, function_blocks_hold, function_is_empty, function_is_typed, is_at_most, is_empty_comp, is_empty_def, is_exponent, is_nothing, kind_blocks_hold, maximum_is_at_most, memory_is_limited, most_pages, pages_are_few, start_is_empty, table_is_limited, tag_is_typed}
use Rattle.walrus_model.proofs.Deciding.{decides_by, leb_decides, passed, passes}
use Rattle.walrus_module.proofs.NamesApart.{mapped_pairs, unmapped_pairs}
use Rattle.walrus_theorem.proofs.EditSound.{comp_said as function_comp_back}

-- ---- limits

at_most : (n : ℕ) (m : Option ℕ) → Decides (is_at_most n m) (IsAtMost n m)
at_most n None = (λ e. tt, λ h. refl)
at_most n (Some most) = leb_decides n most

maximum_at_most : (m : Option ℕ) (most : ℕ) → Decides (maximum_is_at_most m most) (MaximumIsAtMost m most)
maximum_at_most None most = (λ e. tt, λ h. refl)
maximum_at_most (Some n) most = leb_decides n most

exponent : (p : Option ℕ) → Decides (is_exponent p) (IsExponent p)
exponent None = (λ e. tt, λ h. refl)
exponent (Some p) = Decides-or (nat_eq p 0) (nat_eq p 16) (Decides-eqb p 0) (Decides-eqb p 16)

has_maximum : (shared : Bool) (m : Option ℕ) → Decides (not shared || is_some m) (shared ≡ true → IsSome m)
has_maximum false m = (λ e t. absurd (false≢true t), λ h. refl)
has_maximum true (Some n) = (λ e t. refl, λ h. refl)
has_maximum true None = (λ e. absurd (false≢true e), λ h. h refl)

abbrev Pages : MemoryValue → Type 0
Pages m = (m.initial ≤ most_pages m.memory64 m.page_size_log2) × MaximumIsAtMost m.maximum (most_pages m.memory64 m.page_size_log2)

abbrev AllLimits : MemoryValue → Type 0
AllLimits m = ((IsAtMost m.initial m.maximum × (m.shared ≡ true → IsSome m.maximum)) × IsExponent m.page_size_log2) × Pages m

memory_limited : (m : MemoryValue) → Decides (memory_is_limited m) (MemoryHolds (memory_of m).ty)
memory_limited m =
    let most = most_pages m.memory64 m.page_size_log2 in
    let ordered = is_at_most m.initial m.maximum in
    let bounded = not m.shared || is_some m.maximum in
    let allowed = is_exponent m.page_size_log2 in
    let pages : Decides (pages_are_few m) (Pages m) = Decides-and (nat_le m.initial most) (maximum_is_at_most m.maximum most) (leb_decides m.initial most) (maximum_at_most m.maximum most) in
    let both = Decides-and ordered bounded (at_most m.initial m.maximum) (has_maximum m.shared m.maximum) in
    let three = Decides-and (ordered && bounded) allowed both (exponent m.page_size_log2) in
    decides_by {P = AllLimits m} {Q = MemoryHolds (memory_of m).ty}
    (λ h. record { ordered = h.0.0.0; shared = h.0.0.1; exponent = h.0.1; minimum = h.1.0; maximum = h.1.1 })
    (λ k. (((k.ordered, k.shared), k.exponent), (k.minimum, k.maximum)))
    (memory_is_limited m)
    (Decides-and (ordered && bounded && allowed) (pages_are_few m) three pages)

table_limited : (t : TableValue) → Decides (table_is_limited t) (IsAtMost (table_of t).ty.limits.minimum (table_of t).ty.limits.maximum)
table_limited t = at_most t.initial t.maximum

-- ---- the start function

nothing : {X : Type 0} (xs : List X) → Decides (is_nothing xs) (xs ≡ [])
nothing [] = (λ e. refl, λ h. refl)
nothing (x ∷ xs) = (λ e. absurd (false≢true e), λ h. absurd (cc))

abbrev IsEmptyComp : CompType ℕ → Type 0
IsEmptyComp comp = comp ≡ Func [] []

empty_comp : (comp : CompType ℕ) → Decides (is_empty_comp comp) (IsEmptyComp comp)
empty_comp (Func params results) =
    decides_by
    (λ (h : (params ≡ []) × (results ≡ [])). ap₂ Func h.0 h.1)
    (λ (e : IsEmptyComp (Func params results)). ((let p : params ≡ [] = cc in p), (let q : results ≡ [] = cc in q)))
    (is_nothing params && is_nothing results) (Decides-and (is_nothing params) (is_nothing results) (nothing params) (nothing results))
empty_comp (Struct fields) = (λ e. absurd (false≢true e), λ h. absurd (cc))
empty_comp (Array element) = (λ e. absurd (false≢true e), λ h. absurd (cc))

-- ---- the type of a function

function_def_back : (o : Option TypeDef) → is_function_def o ≡ true → (x : TypeDef) × (o ≡ Some x) × IsFunctionComp x.sub.comp
function_def_back (Some x) h = (x, refl, function_comp_back x.sub.comp h)
function_def_back None h = absurd (false≢true h)

empty_def : (o : Option TypeDef) → Decides (is_empty_def o) ((x : TypeDef) × (o ≡ Some x) × IsEmptyComp x.sub.comp)
empty_def None = (λ e. absurd (false≢true e), λ h. absurd (let no : None ≡ Some h.0 = h.1 in cc))
empty_def (Some x) = (
  λ e. (x, refl, (empty_comp x.sub.comp).0 e),
  λ h. (empty_comp x.sub.comp).1 (subst (λ (y : TypeDef). IsEmptyComp y.sub.comp) (sym (some_inj x h.0 h.1)) h.2),
)

-- ---- blocks

module _ (p : ℕ → Bool) where
  args_back : (args : List Arg) (t : ℕ) → args_hold p args ≡ true → Contains args (Block (OfType t)) → p t ≡ true
  args_back args t h at = each_passes (block_holds p) args (Block (OfType t)) h at

  ops_back : (ops : List Op) (o : Op) (t : ℕ) → blocks_hold p ops ≡ true → Contains ops o → Contains o.args (Block (OfType t)) → p t ≡ true
  ops_back ops o t h at has = args_back o.args t (each_passes (λ (x : Op). args_hold p x.args) ops o h at) has

module _ (c : Contents) where
  abbrev V : Abstract
  V = contents_view c

  abbrev TableLimits : TableValue → Type 0
  TableLimits y = IsAtMost (table_of y).ty.limits.minimum (table_of y).ty.limits.maximum

  abbrev MemoryLimits : MemoryValue → Type 0
  MemoryLimits y = MemoryHolds (memory_of y).ty

  pub limits_hold : list_all table_is_limited (items (tables c.tables)) ≡ true → list_all memory_is_limited (items (memories c.memories)) ≡ true → LimitsHold V
  limits_hold a b = record {
    tables = λ i t at. let x = mapped_some table_of (item_at (tables c.tables) i) t at in
        subst (λ (u : abstract.Table). IsAtMost u.ty.limits.minimum u.ty.limits.maximum) (sym x.2) (passed table_is_limited TableLimits table_limited (tables c.tables) a i x.0 x.1);
    memories = λ i m at. let x = mapped_some memory_of (item_at (memories c.memories) i) m at in
        subst (λ (u : abstract.Memory). MemoryHolds u.ty) (sym x.2) (passed memory_is_limited MemoryLimits memory_limited (memories c.memories) b i x.0 x.1);
  }

  pub tables_kept : LimitsHold V → list_all table_is_limited (items (tables c.tables)) ≡ true
  tables_kept rules = passes table_is_limited TableLimits table_limited (tables c.tables) (λ i x at. rules.tables i (table_of x) (ap (option_map table_of) at))

  pub memories_kept : LimitsHold V → list_all memory_is_limited (items (memories c.memories)) ≡ true
  memories_kept rules = passes memory_is_limited MemoryLimits memory_limited (memories c.memories) (λ i x at. rules.memories i (memory_of x) (ap (option_map memory_of) at))

  -- ---- types of functions

  type_decides : (t : ℕ) → Decides (is_function_at c.types t) (IsFunctionType V t)
  type_decides t = (λ e. function_def_back (item_at (type_slots c.types) t) e, λ h. function_def V t h)

  function_decides : (f : FunctionValue) → Decides (function_is_typed c.types f) (IsFunctionType V (function c.locals f).ty)
  function_decides f = type_decides (place (kind_type f.kind))

  tag_decides : (t : TagValue) → Decides (tag_is_typed c.types t) (IsFunctionType V (tag_of t).ty)
  tag_decides t = type_decides t.ty

  -- the types of the blocks of a body
  abbrev BlocksHold : Option abstract.Body → Type 0
  BlocksHold o = (b : abstract.Body) (x : Op) (t : ℕ) → o ≡ Some b → Contains b.operators x → Contains x.args (Block (OfType t)) → IsFunctionType V t

  kind_decides : (k : FunctionKind) → Decides (kind_blocks_hold c.types k) (BlocksHold (body_of_kind (kind_of c.locals k)))
  kind_decides (kinds.Local f) = (
    λ e b x t is at has. (type_decides t).0 (ops_back (is_function_at c.types) (body_of f) x t e (subst (λ (d : abstract.Body). Contains d.operators x) (sym (some_inj (body c.locals f) b is)) at) has),
    λ law. blocks_fine (is_function_at c.types) (body_of f) (λ t x at has. (type_decides t).1 (law (body c.locals f) x t refl at has)),
  )
  kind_decides (kinds.Import i) = (λ e b x t is. absurd (let no : ◌≡◌ {A = Option abstract.Body} None (Some b) = is in cc), λ h. refl)
  kind_decides (kinds.Uninitialized ty) = (λ e b x t is. absurd (let no : ◌≡◌ {A = Option abstract.Body} None (Some b) = is in cc), λ h. refl)

  blocks_decide : (f : FunctionValue) → Decides (function_blocks_hold c.types f) (BlocksHold (body_of_kind (function c.locals f).kind))
  blocks_decide f = kind_decides f.kind

  body_seen : (o : Option FunctionValue) (b : abstract.Body) → body_of_function (option_map (function c.locals) o) ≡ Some b → (f : FunctionValue) × (o ≡ Some f) × (body_of_kind (function c.locals f).kind ≡ Some b)
  body_seen None b e = absurd (let no : ◌≡◌ {A = Option abstract.Body} None (Some b) = e in cc)
  body_seen (Some f) b e = (f, refl, e)

  abbrev Typed : FunctionValue → Type 0
  Typed f = IsFunctionType V (function c.locals f).ty

  abbrev Blocks : FunctionValue → Type 0
  Blocks f = BlocksHold (body_of_kind (function c.locals f).kind)

  -- a test of all functions, of all tags, and of all bodies
  pub types_hold : list_all (function_is_typed c.types) (items (functions c.funcs)) ≡ true → list_all (tag_is_typed c.types) (items (tags c.tags)) ≡ true → list_all (function_blocks_hold c.types) (items (functions c.funcs)) ≡ true → FunctionTypesHold V
  types_hold a b d = record {
    functions = λ i f at. let x = mapped_some (function c.locals) (item_at (functions c.funcs) i) f at in
        subst (λ (u : abstract.Function). IsFunctionType V u.ty) (sym x.2) (passed (function_is_typed c.types) Typed function_decides (functions c.funcs) a i x.0 x.1);
    tags = λ i t at. let x = mapped_some tag_of (item_at (tags c.tags) i) t at in
        subst (λ (u : abstract.Tag). IsFunctionType V u.ty) (sym x.2) (passed (tag_is_typed c.types) (λ y. IsFunctionType V (tag_of y).ty) tag_decides (tags c.tags) b i x.0 x.1);
    blocks = λ f t b o at in_body in_args. let x = body_seen (item_at (functions c.funcs) f) b at in
        passed (function_blocks_hold c.types) Blocks blocks_decide (functions c.funcs) d f x.0 x.1 b o t x.2 in_body in_args;
  }

  pub functions_typed : FunctionTypesHold V → list_all (function_is_typed c.types) (items (functions c.funcs)) ≡ true
  functions_typed rules = passes (function_is_typed c.types) Typed function_decides (functions c.funcs) (λ i x at. rules.functions i (function c.locals x) (ap (option_map (function c.locals)) at))

  pub tags_typed : FunctionTypesHold V → list_all (tag_is_typed c.types) (items (tags c.tags)) ≡ true
  tags_typed rules = passes (tag_is_typed c.types) (λ y. IsFunctionType V (tag_of y).ty) tag_decides (tags c.tags) (λ i x at. rules.tags i (tag_of x) (ap (option_map tag_of) at))

  pub blocks_typed : FunctionTypesHold V → list_all (function_blocks_hold c.types) (items (functions c.funcs)) ≡ true
  blocks_typed rules = passes (function_blocks_hold c.types) Blocks blocks_decide (functions c.funcs)
      (λ i x at b o t is in_body in_args. rules.blocks i t b o (ap (λ (z : Option FunctionValue). body_of_function (option_map (function c.locals) z)) at ∙ is) in_body in_args)

  -- ---- exports and the start function

  start_at : (o : Option FunctionValue) → Decides (function_is_empty c.types o) ((f : abstract.Function) → option_map (function c.locals) o ≡ Some f → IsEmptyFunctionType V f.ty)
  start_at None = (λ e f at. absurd (let no : ◌≡◌ {A = Option abstract.Function} None (Some f) = at in cc), λ h. refl)
  start_at (Some x) = (
    λ e f at. subst (λ (u : abstract.Function). IsEmptyFunctionType V u.ty) (some_inj (function c.locals x) f at) ((empty_def (item_at (type_slots c.types) (place (kind_type x.kind)))).0 e),
    λ law. (empty_def (item_at (type_slots c.types) (place (kind_type x.kind)))).1 (law (function c.locals x) refl),
  )

  start_of : (s : Option ℕ) → Decides (start_is_empty c.types (functions c.funcs) s) ((i : ℕ) (f : abstract.Function) → s ≡ Some i → V.functions i ≡ Some f → IsEmptyFunctionType V f.ty)
  start_of None = (λ e i f is. absurd (let no : ◌≡◌ {A = Option ℕ} None (Some i) = is in cc), λ h. refl)
  start_of (Some n) = (
    λ e i f is at. (start_at (item_at (functions c.funcs) n)).0 e f (subst (λ (k : ℕ). V.functions k ≡ Some f) (sym (some_inj n i is)) at),
    λ law. (start_at (item_at (functions c.funcs) n)).1 (λ f at. law n f refl at),
  )

  abbrev Other : abstract.Export → abstract.Export → Type 0
  Other d e = d.name ≢ e.name

  pub start_holds : start_is_empty c.types (functions c.funcs) (option_map place c.start) ≡ true → StartHolds V
  start_holds e = (start_of (option_map place c.start)).0 e

  pub start_kept : StartHolds V → start_is_empty c.types (functions c.funcs) (option_map place c.start) ≡ true
  start_kept rule = (start_of (option_map place c.start)).1 rule

  pub names_hold : AreNamedApart (items (exports c.exports)) → NamesAreApart V
  names_hold h = mapped_pairs export_of Other (items (exports c.exports)) h

  pub names_kept : NamesAreApart V → AreNamedApart (items (exports c.exports))
  names_kept rule = unmapped_pairs export_of Other (items (exports c.exports)) rule
