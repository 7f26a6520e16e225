-- What a check answers, of all that was tested.
use Rattle.std.proofs.Common.{◌≡◌, ℕ, ◌<◌, ◌≤◌, ◌^◌, true, List, [], length, map, Some, None, refl, sym, ap, ◌∙◌, subst, arith}
use Rattle.std.specs.Prelude.{All, AllPairs, Contains, IsSome, Option, option_map, slice_index_or}
use Rattle.std.proofs.lemmas.List.Elements.{All-contains, Contains-append_right}
use Rattle.walrus_base.specs.Arena.{entries, item_at, items}
use Rattle.walrus_base.specs.Composite.{supertypes}
use Rattle.walrus_base.specs.Operators.{Space, Tables, Globals, Op, names_of, type_item}
use Rattle.walrus_base.specs.TypeDef.{TypeDef, type_def}
use Rattle.walrus_base.proofs.SlotLemmas.{item_at-map}
use Rattle.walrus_base.specs.Types.{heap_names, val_names}
use Rattle.walrus_base.specs.declared.id.Id.{Id}
use Rattle.walrus_base.specs.declared.keys.TypeKey.{TypeKey}
use Rattle.walrus_items.specs.declared.function_kind.FunctionKind.{FunctionKind}
use Rattle.walrus_items.specs.declared.function_kind.FunctionKind.TheVariants as kinds
use Rattle.walrus_items.specs.Functions.{FunctionValue, functions}
use Rattle.walrus_contents.specs.There.{IsRefusal}
use Rattle.walrus_contents.specs.View.{body, contents_view, function, kind_of, lent, parts_view}
use Rattle.walrus_contents.specs.declared.parts.Contents.{Contents}
use Rattle.walrus_contents.specs.declared.parts.Parts.{Parts}
use Rattle.walrus_base.proofs.Lookups.{mapped_some}
use Rattle.walrus_model.proofs.Slots.{entry_in, item_seen}
use Rattle.walrus_model.specs.Abstract as abstract
use Rattle.walrus_model.specs.Abstract.{Abstract}
use Rattle.walrus_model.specs.Dead.{HasDead}
use Rattle.walrus_model.specs.Live.{Has}
use Rattle.walrus_model.specs.Names.{body_of_function, body_of_kind}
use Rattle.walrus_model.specs.Order.{ByImport}
use Rattle.walrus_model.specs.Refers.{global_names, named_by, table_names}
use Rattle.walrus_model.specs.Rules.{LocalsHold, RulesHold}
use Rattle.walrus_base.proofs.Lists.{Contains-map}
use Rattle.walrus_model.proofs.Living.{AllLive, all_live}
use Rattle.walrus_model.proofs.Spaces.{live_to}
use Rattle.walrus_base.proofs.Standing.{some_inj}
use Rattle.walrus_items.specs.declared.error.Error.{Error}
use Rattle.walrus_items.specs.declared.error.Error.TheVariants.{DeadItem, InvalidWasm, Memory, NoIndex, TooLarge, TwoIndices}
use Rattle.walrus_base.proofs.Counting.{no_longer}
use Rattle.walrus_theorem.proofs.NoCause.{two}
use Rattle.walrus_theorem.specs.WellMade.{IsCounted}
use Rattle.walrus_plan.specs.Places.{places}
use Rattle.walrus_plan.specs.Prepared.{IsPrepared}
use Rattle.walrus_plan.specs.Refusals.{RefusesPlan}
use Rattle.walrus_plan.specs.declared.prepared.Prepared.{Prepared}
use Rattle.walrus_plan.proofs.RefusesPlanned.{lacks_none}
use Rattle.walrus_writing.proofs.RefusesLarge.{too_many_items}
use Rattle.walrus_module.specs.Check.{IsFlaw, PassesCheck, RefusesCheck}
use Rattle.walrus_module.specs.Flaws.{error_of_flaw}
use Rattle.walrus_module.specs.declared.flaw.Flaw.{Flaw}
use Rattle.walrus_module.specs.declared.flaw.Flaw.TheVariants.{Form, Rule}
use Rattle.walrus_module.specs.Tested.{KeepsRules, KindDeclaresFew, forms_are_spelled}
use Rattle.walrus_module.proofs.CountedBodies.{held_counted}
use Rattle.walrus_model.proofs.Deciding.{all_so}
use Rattle.walrus_module.proofs.FewLocals.{counted_few, few_counted}
use Rattle.walrus_module.proofs.FormsTested.{const_heaps_fine, consts_fine, heaps_fine}

-- ---- refusals of what is called

pub live_refused : (v : Abstract) (e : Error) → IsRefusal (HasDead v) e → IsFlaw v (Form e)
live_refused v (Memory m) h = tt
live_refused v DeadItem h = h
live_refused v _ h = absurd h

pub plan_refused : (p : Parts) (e : Error) → RefusesPlan p e → IsFlaw (parts_view p) (Form e)
plan_refused p (Memory m) h = tt
plan_refused p TwoIndices h = h
plan_refused p NoIndex h = h
plan_refused p TooLarge h = λ c. too_many_items c p [] [] h.2
plan_refused p _ h = absurd h

-- what is wrong is a cause of the error that stands for it
pub flaw_refused : (v : Abstract) (f : Flaw) → IsFlaw v f → RefusesCheck v (error_of_flaw f)
flaw_refused v (Rule rule) h = (rule, h)
flaw_refused v (Form (InvalidWasm kind)) h = absurd h
flaw_refused v (Form _) h = h

-- ---- types

supertype_alone : (o : Option (Id TypeKey)) → length (supertypes o) ≤ 1
supertype_alone None = omega arith
supertype_alone (Some id) = omega arith

-- ---- locals

module _ (c : Contents) (there : HasDead (contents_view c) → ⊥) where
  abbrev V : Abstract
  V = contents_view c

  abbrev Few : FunctionValue → Type 0
  Few f = KindDeclaresFew f.kind

  is_counted : (f : ℕ) (b : abstract.Body) → body_of_function (V.functions f) ≡ Some b → IsCounted b
  is_counted f b at = held_counted c (all_live V there).locals f b at

  kind_few : (k : FunctionKind) (b : abstract.Body) → body_of_kind (kind_of c.locals k) ≡ Some b → IsCounted b → KindDeclaresFew k → b.declared ≤ 50_000
  kind_few (kinds.Local f) b is counted few =
      let same : body c.locals f ≡ b = some_inj (body c.locals f) b is in
      subst (λ (d : abstract.Body). d.declared ≤ 50_000) same (counted_few f c.locals (subst (λ (d : abstract.Body). IsCounted d) (sym same) counted) few)
  kind_few (kinds.Import i) b is counted few = absurd (let no : ◌≡◌ {A = Option abstract.Body} None (Some b) = is in cc)
  kind_few (kinds.Uninitialized ty) b is counted few = absurd (let no : ◌≡◌ {A = Option abstract.Body} None (Some b) = is in cc)

  few_kind : (k : FunctionKind) → ((b : abstract.Body) → body_of_kind (kind_of c.locals k) ≡ Some b → IsCounted b × (b.declared ≤ 50_000)) → KindDeclaresFew k
  few_kind (kinds.Local f) law = let h = law (body c.locals f) refl in few_counted f c.locals h.0 h.1
  few_kind (kinds.Import i) law = tt
  few_kind (kinds.Uninitialized ty) law = tt

  at_slot : (i : ℕ) (o : Option FunctionValue) (b : abstract.Body) → item_at (functions c.funcs) i ≡ o → body_of_function (option_map (function c.locals) o) ≡ Some b → IsCounted b → All Few (items (functions c.funcs)) → b.declared ≤ 50_000
  at_slot i None b at is counted all = absurd (let no : ◌≡◌ {A = Option abstract.Body} None (Some b) = is in cc)
  at_slot i (Some x) b at is counted all =
      kind_few x.kind b is counted (All-contains Few (items (functions c.funcs)) x all (Contains-map (λ (e : ℕ × FunctionValue). e.1) (i, x) (entries (functions c.funcs)) (entry_in (functions c.funcs) i x at)))

  pub locals_hold : All Few (items (functions c.funcs)) → LocalsHold V
  locals_hold all f b at = at_slot f (item_at (functions c.funcs) f) b refl at (is_counted f b at) all

  pub locals_kept : LocalsHold V → All Few (items (functions c.funcs))
  locals_kept rule = all_so Few (items (functions c.funcs))
      (λ x c_in. let i = item_seen (functions c.funcs) x c_in in
      few_kind x.kind (λ b is.
      let at : body_of_function (V.functions i.0) ≡ Some b = ap (λ (o : Option FunctionValue). body_of_function (option_map (function c.locals) o)) i.1 ∙ is in
      (is_counted i.0 b at, rule i.0 b at)))

-- ---- all of it

module _ (p : Parts) (prepared : Prepared) (there : HasDead (parts_view p) → ⊥) (is : IsPrepared p prepared) (forms : forms_are_spelled (lent p) ≡ true) (rules : KeepsRules (parts_view p)) where
  abbrev W : Abstract
  W = parts_view p

  live : AllLive W
  live = all_live W there

  one_supertype : (t : ℕ) (x : TypeDef) → W.types t ≡ Some x → length x.sub.supertypes ≤ 1
  one_supertype t x at =
      let y = mapped_some type_def (item_at p.types.now.places.items t) x (sym (item_at-map type_def p.types.now.places.items t) ∙ at) in
      subst (λ (z : TypeDef). length z.sub.supertypes ≤ 1) (sym y.2) (supertype_alone y.0.supertype)

  table_reads : (i g : ℕ) (t : abstract.Table) (os : List Op) → W.tables i ≡ Some t → t.initialiser ≡ Some os → Contains (names_of os) (Globals, g) → IsSome (W.globals g)
  table_reads i g t os at init has = live.written (Tables, i) (Globals, g)
      (subst (λ (o : Option abstract.Table). Contains (named_by table_names o) (Globals, g)) (sym at)
      (Contains-append_right (map type_item (heap_names t.ty.element.heap)) (named_by names_of t.initialiser) (Globals, g)
      (subst (λ (o : Option (List Op)). Contains (named_by names_of o) (Globals, g)) (sym init) has)))

  global_reads : (i g : ℕ) (x : abstract.Global) (os : List Op) → W.globals i ≡ Some x → x.initialiser ≡ Some os → Contains (names_of os) (Globals, g) → IsSome (W.globals g)
  global_reads i g x os at init has = live.written (Globals, i) (Globals, g)
      (subst (λ (o : Option abstract.Global). Contains (named_by global_names o) (Globals, g)) (sym at)
      (Contains-append_right (map type_item (val_names x.ty.value)) (named_by names_of x.initialiser) (Globals, g)
      (subst (λ (o : Option (List Op)). Contains (named_by names_of o) (Globals, g)) (sym init) has)))

  few : (space : Space) (numbers : List ℕ) → AllPairs (λ (i : ℕ) (j : ℕ). i < j) numbers → All (Has W space) numbers → length numbers < 2 ^ 32
  few space numbers rise has =
      let within : length numbers ≤ length (places prepared.plan space) = no_longer numbers (places prepared.plan space)
      (λ i j d less last same. omega (arith, rise i j d less last, same))
      (λ k d lt. (is.is_plan.holds space).all (slice_index_or numbers k d) (live_to W space (slice_index_or numbers k d) (has k d lt))) in
      omega (arith, within, is.few space)

  all_rules : RulesHold (ByImport W) W
  all_rules = record {
    types = record {
      one_supertype = one_supertype;
      supertypes = λ t u x at named. is.in_order.supertypes t u x at named;
      others = λ t u x at named. is.in_order.others t u x at named;
    };
    indices = record {
      written = live.written;
      locals = live.locals;
      exports = live.exports;
      start = live.start;
      tables = λ i g t os at init has. is.reads.tables i g (t, (os, (at, init, has))) (table_reads i g t os at init has);
      globals = λ i g x os at init has. is.reads.globals i g (x, (os, (at, init, has))) (global_reads i g x os at init has);
    };
    function_types = rules.function_types;
    limits = rules.limits;
    exports = rules.exports;
    offsets = rules.offsets;
    locals = rules.locals;
  }

  pub all_pass : PassesCheck W
  all_pass = record {
    all_there = there;
    one_index = two W is.matched;
    indices = lacks_none p is.matched is.reads is.in_order;
    few = few;
    heaps = heaps_fine (lent p) forms;
    const_heaps = const_heaps_fine (lent p) forms;
    consts = consts_fine (lent p) forms;
    rules = all_rules;
  }
