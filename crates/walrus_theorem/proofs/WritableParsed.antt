-- What was parsed can be written.
use Rattle.std.proofs.Common.{◌≡◌, ℕ, zero, suc, ◌<◌, ◌≤◌, List, [], ◌∷◌, ◌++◌, length, map, refl, sym, ap, ap₂, ◌∙◌, subst, ⊎_elim}
use Rattle.std.specs.Prelude.{Option, Some, None, IsSome, Contains, flat_map, slice_get}
use Rattle.std.proofs.lemmas.Bool.{cases_lt}
use Rattle.walrus_base.specs.Types.{HeapType, ValType, CompType, IsNotExact, val_heaps, comp_heaps}
use Rattle.walrus_base.specs.Operators.{Types, Functions, Tables, Memories, Tags, Globals, Elements, DataSegments, Item, Arg, Local, Op}
use Rattle.walrus_model.specs.BlockHandlers.{params_of}
use Rattle.walrus_model.specs.Abstract.{Abstract, TypeDef, Body, Function, FunctionKind, LocalFunction, ImportedFunction, Uninitialised}
use Rattle.walrus_model.specs.Config.{Config}
use Rattle.walrus_model.specs.Handlers.{tag_type}
use Rattle.walrus_model.specs.Names.{body_of, body_of_kind, body_of_function}
use Rattle.walrus_model.specs.Sections.{body_with}
use Rattle.walrus_model.specs.Refers.{used_locals}
use Rattle.walrus_model.specs.Rules.{Holds}
use Rattle.walrus_model.specs.WellMade.{IsWritable, heaps_by, heaps_in, consts_by, consts_in, arg_heaps, op_heaps, kind_heaps, option_consts, element_kind_consts, element_item_consts, data_kind_consts}
use Rattle.walrus_theorem.specs.Chain.{ParsedAs, handlers_by}
use Rattle.walrus_theorem.specs.WellMadeLaws.{ParsedWell}
use Rattle.walrus_theorem.proofs.BehindAlone.{IsAlone, all_alone, none_yet}
use Rattle.walrus_model.proofs.Follow.{used_follow}
use Rattle.walrus_base.proofs.Lists.{Contains-none}
use Rattle.walrus_model.proofs.MovedBody.{moved_arg, moved_op, ops_are}
use Rattle.walrus_theorem.proofs.ParsedWell.{Was, was, parsed_well}
use Rattle.walrus_model.proofs.PlainBodies.{ops_named, types_named}
use Rattle.walrus_theorem.proofs.PlainModule.{AllFine, OpsFine, read_fine}
use Rattle.walrus_model.proofs.PlainTypes.{Plain, plain_append, plain_left, plain_right, ValsPlain, params_plain, handlers_plain, TypePlain}
use Rattle.walrus_theorem.proofs.ReadBodies.{IsRead, is_read}
use Rattle.walrus_theorem.proofs.StepHandlers.{Contains-split}
use Rattle.walrus_theorem.proofs.StepParsed.{in_place, tables_stay, globals_stay, elements_stay, datas_stay, types_stay, initialised, by_below}
use Rattle.walrus_model.proofs.StepPlain.{IsPlain}
use Rattle.walrus_theorem.proofs.StepRead.{read_is_plain}
use Rattle.walrus_theorem.proofs.Things.{body_at}
use Rattle.walrus_theorem.proofs.UsedLocals.{unmap}
use Rattle.walrus_theorem.proofs.HandlersLive.{un_flat}
use Rattle.walrus_base.proofs.Lookups.{there as slice_there}
use Rattle.walrus_model.proofs.Parsing.{each_in}

abbrev NE : HeapType ℕ → Type 0
NE h = IsNotExact h

from_heaps : {X : Type 0} (get : X → List (HeapType ℕ)) (o : Option X) (h : HeapType ℕ) → Contains (heaps_by get o) h → (x : X) × (o ≡ Some x) × Contains (get x) h
from_heaps get (Some x) h at = (x, refl, at)
from_heaps get None h at = absurd (Contains-none h at)

from_consts : {X : Type 0} (get : X → List (List Op)) (o : Option X) (ops : List Op) → Contains (consts_by get o) ops → (x : X) × (o ≡ Some x) × Contains (get x) ops
from_consts get (Some x) ops at = (x, refl, at)
from_consts get None ops at = absurd (Contains-none ops at)

val_at : (vs : List (ValType ℕ)) (k : ℕ) (v : ValType ℕ) → ValsPlain vs → slice_get vs k ≡ Some v → Plain (val_heaps v)
val_at [] k v h e = absurd (cc)
val_at (w ∷ vs) zero v h e = let p : w ≡ v = cc in subst (λ (x : ValType ℕ). Plain (val_heaps x)) p (plain_left (val_heaps w) (flat_map val_heaps vs) h)
val_at (w ∷ vs) (suc k) v h e = val_at vs k v (plain_right (val_heaps w) (flat_map val_heaps vs) h) e

plain_assoc : (vs ws : List (ValType ℕ)) → ValsPlain vs → ValsPlain ws → ValsPlain (vs ++ ws)
plain_assoc [] ws h k = k
plain_assoc (v ∷ vs) ws h k = plain_append (val_heaps v) (flat_map val_heaps (vs ++ ws)) (plain_left (val_heaps v) (flat_map val_heaps vs) h) (plain_assoc vs ws (plain_right (val_heaps v) (flat_map val_heaps vs) h) k)

arg_same : (l : ℕ → ℕ) (a : Arg) → arg_heaps (moved_arg l a) ≡ arg_heaps a
arg_same l (Local n) = refl
arg_same l a = refl

args_same : (l : ℕ → ℕ) (args : List Arg) → flat_map arg_heaps (map (moved_arg l) args) ≡ flat_map arg_heaps args
args_same l [] = refl
args_same l (a ∷ args) = ap₂ (λ (x y : List (HeapType ℕ)). x ++ y) (arg_same l a) (args_same l args)

ops_same : (l : ℕ → ℕ) (ops : List Op) → flat_map op_heaps (map (moved_op l) ops) ≡ flat_map op_heaps ops
ops_same l [] = refl
ops_same l (o ∷ ops) = ap₂ (λ (x y : List (HeapType ℕ)). x ++ y) (args_same l o.args) (ops_same l ops)

module _ (c : Config) (m v : Abstract) (p : ParsedAs c m v) (plain : IsPlain m) (holds : Holds m) (read : IsRead c m) (all : AllFine m) where
  ops_plain : (f : ℕ) (b : Body) → body_of m f ≡ Some b → Plain (flat_map op_heaps b.operators)
  ops_plain f b at =
      let g = body_at (m.functions f) b at in
      let a = read.bodies f g.0 b g.1 g.2 in
      subst (λ (x : Body). Plain (flat_map op_heaps x.operators)) (sym a.is) (ops_named read.names _ a.read.operators.texts a.said.1 a.read.operators.named)

  comps_plain : (f : ℕ) (o : Option Body) → body_of m f ≡ o → (k : CompType ℕ) → Contains (handlers_by m o) k → Plain (comp_heaps k)
  comps_plain f None at k has = absurd (Contains-none k has)
  comps_plain f (Some b) at k has = handlers_plain m.types (tag_type m) all.types b.operators (ops_plain f b at) k has

  type_plain : (i : ℕ) (x : TypeDef) → v.types i ≡ Some x → TypePlain x
  type_plain i x at = ⊎_elim
      (λ (lt : i < length p.types).
      let live : IsSome (m.types i) = subst IsSome (sym (p.types_read i)) (slice_there p.types i lt) in
      all.types i x (sym (types_stay c m v p i live) ∙ at))
      (λ (le : length p.types ≤ i).
      let a : IsAlone (length p.types) (λ k. Plain (comp_heaps k)) i x = all_alone (length p.types) (λ k. Plain (comp_heaps k)) m v.handler_types (λ f. by_below c m v p plain holds f (body_of m f) refl) (λ f k h. comps_plain f (body_of m f) refl k h) _ p.types p.all_types p.handlers (none_yet (λ k. Plain (comp_heaps k)) p.types) i x le (sym (p.types_made i) ∙ at) in
      subst TypePlain (sym a.is) a.of)
      (cases_lt i (length p.types))

  local_plain : (i : ℕ) (b : Body) (w : Was c m v p plain holds read i b) (h : HeapType ℕ) → Contains (flat_map (λ x. heaps_by val_heaps (b.local_type x)) (used_locals b)) h → NE h
  local_plain i b w h at =
      let ps = params_of (m.types w.function.ty) in
      let l = p.renaming.locals w.index in
      let found = un_flat (λ x. heaps_by val_heaps (b.local_type x)) (used_locals b) h at in
      let u = unmap (p.renaming.locals w.index) (used_locals (body_with (params_of (m.types w.function.ty)) w.said)) found.0 (subst (λ xs. Contains xs found.0) (used_follow (in_place c m v p) w.index (body_with (params_of (m.types w.function.ty)) w.said) b w.same) found.1) in
      by u.0 (slice_get (params_of (m.types w.function.ty) ++ w.said.0) u.0) refl (w.typed u.0 u.1) (subst (λ x. Contains (heaps_by val_heaps (b.local_type x)) h) (sym u.2) found.2)
    where
      vals : ValsPlain (params_of (m.types w.function.ty) ++ w.said.0)
      vals = plain_assoc (params_of (m.types w.function.ty)) w.said.0 (params_plain m.types (tag_type m) all.types (m.types w.function.ty) (all.types w.function.ty)) (types_named read.names w.reads.declared w.said.0 w.reads.typed)

      by : (u : ℕ) (o : Option (ValType ℕ)) → slice_get (params_of (m.types w.function.ty) ++ w.said.0) u ≡ o → IsSome o → Contains (heaps_by val_heaps (b.local_type (p.renaming.locals w.index u))) h → NE h
      by u (Some x) e there has = each_in NE (val_heaps x) h (val_at (params_of (m.types w.function.ty) ++ w.said.0) u x vals e) (subst (λ (o : Option (ValType ℕ)). Contains (heaps_by val_heaps o) h) (w.whole.types u x e) has)
      by u None e there has = absurd (cc)

  kind_plain : (i : ℕ) (g : Function) (k : FunctionKind) → v.functions i ≡ Some g → g.kind ≡ k → (h : HeapType ℕ) → Contains (kind_heaps k) h → NE h
  kind_plain i g (LocalFunction b) at is h has =
      let w = was c m v p plain holds read i b (ap body_of_function at ∙ ap body_of_kind is) in
      ⊎_elim
      (λ in_ops. each_in NE (flat_map op_heaps b.operators) h
      (subst Plain (sym (ap (flat_map op_heaps) (w.same.operators ∙ ops_are (in_place c m v p) (λ s i. refl) (λ i. refl) (p.renaming.locals w.index) w.said.1) ∙ ops_same (p.renaming.locals w.index) w.said.1))
      (ops_plain w.index (body_with (params_of (m.types w.function.ty)) w.said) w.body_at)) in_ops)
      (λ in_locals. local_plain i b w h in_locals)
      (Contains-split h (flat_map op_heaps b.operators) (flat_map (λ x. heaps_by val_heaps (b.local_type x)) (used_locals b)) has)
  kind_plain i g (ImportedFunction n) at is h has = absurd (Contains-none h has)
  kind_plain i g Uninitialised at is h has = absurd (Contains-none h has)

  heaps_fine : (x : Item) (h : HeapType ℕ) → Contains (heaps_in v x) h → NE h
  heaps_fine (Types, i) h at = let f = from_heaps _ (v.types i) h at in each_in NE (comp_heaps f.0.sub.comp) h (type_plain i f.0 f.1) f.2
  heaps_fine (Functions, i) h at = let f = from_heaps _ (v.functions i) h at in kind_plain i f.0 f.0.kind f.1 refl h f.2
  heaps_fine (Tables, i) h at = let f = from_heaps _ (v.tables i) h at in each_in NE (f.0.ty.element.heap ∷ []) h ((all.tables i f.0 (sym (tables_stay c m v p i) ∙ f.1)).0, tt) f.2
  heaps_fine (Globals, i) h at = let f = from_heaps _ (v.globals i) h at in each_in NE (val_heaps f.0.ty.value) h (all.globals i f.0 (sym (globals_stay c m v p i) ∙ f.1)).0 f.2
  heaps_fine (Elements, i) h at = let f = from_heaps _ (v.elements i) h at in each_in NE _ h (all.elements i f.0 (sym (elements_stay c m v p i) ∙ f.1)).0 f.2
  heaps_fine (Memories, i) h at = absurd (Contains-none h at)
  heaps_fine (Tags, i) h at = absurd (Contains-none h at)
  heaps_fine (DataSegments, i) h at = absurd (Contains-none h at)

  consts_fine : (x : Item) (ops : List Op) → Contains (consts_in v x) ops → OpsFine ops
  consts_fine (Tables, i) ops at = let f = from_consts _ (v.tables i) ops at in each_in OpsFine (option_consts f.0.initialiser) ops (all.tables i f.0 (sym (tables_stay c m v p i) ∙ f.1)).1 f.2
  consts_fine (Globals, i) ops at = let f = from_consts _ (v.globals i) ops at in each_in OpsFine (option_consts f.0.initialiser) ops (all.globals i f.0 (sym (globals_stay c m v p i) ∙ f.1)).1 f.2
  consts_fine (Elements, i) ops at = let f = from_consts _ (v.elements i) ops at in each_in OpsFine (element_kind_consts f.0.kind ++ element_item_consts f.0.items) ops (all.elements i f.0 (sym (elements_stay c m v p i) ∙ f.1)).1 f.2
  consts_fine (DataSegments, i) ops at = let f = from_consts _ (v.data_segments i) ops at in each_in OpsFine (data_kind_consts f.0.kind) ops (all.data_segments i f.0 (sym (datas_stay c m v p i) ∙ f.1)) f.2
  consts_fine (Types, i) ops at = absurd (Contains-none ops at)
  consts_fine (Functions, i) ops at = absurd (Contains-none ops at)
  consts_fine (Memories, i) ops at = absurd (Contains-none ops at)
  consts_fine (Tags, i) ops at = absurd (Contains-none ops at)

  pub writable : IsWritable v
  writable = record {
    heaps = heaps_fine;
    const_heaps = λ x ops h at has. each_in NE (flat_map op_heaps ops) h (consts_fine x ops at).1 has;
    consts = λ x ops at. (consts_fine x ops at).0;
    initialised = λ i f at un. initialised c m v p i f at un;
  }

pub parsed_is_well : ParsedWell
parsed_is_well c bytes m v reads holds p =
    let plain = read_is_plain c bytes m reads in
    let read = is_read c bytes m reads in
    parsed_well c m v p plain holds read (writable c m v p plain holds read (read_fine c bytes m reads))
