-- An item that an edit keeps stays sound, where of what it names so much stays as it rests on.
use Rattle.std.proofs.Common.{◌≡◌, ◌≢◌, ℕ, Bool, List, [], ◌∷◌, ◌++◌, map, flat_map, refl, sym, ap, ap₂, ◌∙◌, subst, inl, inr, ⊎_elim}
use Rattle.std.specs.Prelude.{Option, Some, None, AllPairs, Contains, option_map, slice_get}
use Rattle.walrus_base.specs.Types.{HeapType, ValType, heap_names, val_names}
use Rattle.walrus_base.specs.Operators.{Space, Types, Functions, Tables, Memories, Tags, Globals, Elements, DataSegments, Item, Arg, Index, Op, names_of, op_names, type_item}
use Rattle.walrus_bodies.specs.Body.{BodyReads, context}
use Rattle.walrus_bodies.specs.FunctionTypes.{is_function_def}
use Rattle.walrus_model.specs.Abstract.{Abstract, Origin, Body, FunctionKind, ImportedFunction, LocalFunction, Uninitialised, Function, Table, Memory, Global, ElementKind, Element, DataKind, DataSegment}
use Rattle.walrus_model.specs.BlockHandlers.{params_of}
use Rattle.walrus_model.specs.Config.{Config}
use Rattle.walrus_model.specs.Live.{IsLive}
use Rattle.walrus_model.specs.Order.{OriginsInOrder}
use Rattle.walrus_model.specs.Refers.{body_names, data_kind_names, element_item_names, element_kind_names, function_names, kind_names, local_names, named_by, used_locals, written_in}
use Rattle.walrus_model.specs.Roots.{IsImported}
use Rattle.walrus_model.specs.Rules.{IsFunctionType, IsGetOf, IsImportedGlobal, OffsetHolds, offset_type}
use Rattle.walrus_model.specs.Same.{BothAnd}
use Rattle.walrus_model.specs.Spaces.{Thing, look}
use Rattle.walrus_model.specs.WellMade.{consts_by, consts_in, heaps_by, heaps_in, kind_heaps}
use Rattle.walrus_base.proofs.Lists.{Contains-append_1, Contains-append_2, Contains-head, Contains-none, Contains-tail}
use Rattle.walrus_base.proofs.Standing.{some_inj, some_of}
use Rattle.walrus_model.proofs.TypeRules.{Contains-flat_map}
use Rattle.walrus_theorem.specs.Edits.{KeepsBody, KeepsFunction, KeepsKind}
use Rattle.walrus_theorem.specs.Features.{features_of}
use Rattle.walrus_theorem.specs.Sound.{BodyHolds, ElementHolds, DataHolds, FunctionHolds, IsSound, KindHolds, ThingHolds}
use Rattle.walrus_theorem.specs.WellMade.{IsWellFormed}
use Rattle.walrus_theorem.proofs.EditKept.{IsKept, KeepsOutline, by_space, consts_same, few_still, heaps_same, live_on, none_isnt, same_heaps, same_names, thing_there, typed_still, written_same, written_there}
use Rattle.walrus_theorem.proofs.WellStays.{well_formed_in}

-- of an item that isn't there nothing is asked
pub absent_sound : (c : Config) (m : Abstract) (s : Space) (i : ℕ) → look m s i ≡ None → IsSound c m (s, i)
absent_sound c m s i none = record {
  names = λ y at. let t = thing_there m s i y at in absurd (none_isnt (sym none ∙ t.1));
  heaps = λ h at. absurd (Contains-none h (subst (λ l. Contains l h) (no_heaps s none) at));
  consts = λ ops at. absurd (Contains-none ops (subst (λ l. Contains l ops) (no_consts s none) at));
  const_heaps = λ ops h at has. absurd (Contains-none ops (subst (λ l. Contains l ops) (no_consts s none) at));
  holds = λ t at. absurd (none_isnt (sym none ∙ at));
} where
  no_heaps : (s : Space) → look m s i ≡ None → heaps_in m (s, i) ≡ []
  no_heaps = by_space (λ s. look m s i ≡ None → heaps_in m (s, i) ≡ [])
      (λ e. ap (heaps_by _) e) (λ e. ap (heaps_by _) e) (λ e. ap (heaps_by _) e) (λ e. refl) (λ e. refl) (λ e. ap (heaps_by _) e) (λ e. ap (heaps_by _) e) (λ e. refl)

  no_consts : (s : Space) → look m s i ≡ None → consts_in m (s, i) ≡ []
  no_consts = by_space (λ s. look m s i ≡ None → consts_in m (s, i) ≡ [])
      (λ e. refl) (λ e. refl) (λ e. ap (consts_by _) e) (λ e. refl) (λ e. refl) (λ e. ap (consts_by _) e) (λ e. ap (consts_by _) e) (λ e. ap (consts_by _) e)

-- ---- what rests on the outlines of what stands written

module _ (v w : Abstract) (written : List Item) (lives : (y : Item) → Contains written y → IsLive v y) (stays : (y : Item) → Contains written y → KeepsOutline v w y) where
  type_same : (t : ℕ) → Contains written (type_item t) → w.types t ≡ v.types t
  type_same t at =
      let x = some_of (v.types t) (lives (type_item t) at) in
      let now = stays (type_item t) at x.0 x.1 in
      now.1 ∙ ap Some now.2 ∙ sym x.1

  function_type_on : (t : ℕ) → Contains written (type_item t) → IsFunctionType v t → IsFunctionType w t
  function_type_on t at h = (h.0, type_same t at ∙ h.1, h.2)

  imported_on : (g : ℕ) → Contains written (Globals, g) → IsImportedGlobal v g → IsImportedGlobal w g
  imported_on g at h = let now = stays (Globals, g) at h.0 h.1 in (now.0, now.1, subst IsImported (sym now.2.0) h.2)

  origin_same : (g : ℕ) → Contains written (Globals, g) → option_map (λ (x : Global). x.origin) (w.globals g) ≡ option_map (λ (x : Global). x.origin) (v.globals g)
  origin_same g at =
      let x = some_of (v.globals g) (lives (Globals, g) at) in
      let now = stays (Globals, g) at x.0 x.1 in
      ap (option_map (λ (x : Global). x.origin)) now.1 ∙ ap Some now.2.0 ∙ ap (option_map (λ (x : Global). x.origin)) (sym x.1)

  get_on : (ty : ValType ℕ) (o : Op) → ((y : Item) → Contains (names_of (o ∷ [])) y → Contains written y) → IsGetOf v ty o → IsGetOf w ty o
  get_on ty o within h =
      let stands : Contains o.args (Index (Globals, h.1.0)) = subst (λ (l : List Arg). Contains l (Index (Globals, h.1.0))) (sym h.1.2) (Contains-head (Index (Globals, h.1.0)) []) in
      let named = Contains-flat_map op_names (o ∷ []) o (Globals, h.1.0) (Contains-head o []) (Contains-flat_map _ o.args (Index (Globals, h.1.0)) (Globals, h.1.0) stands (Contains-head (Globals, h.1.0) [])) in
      let now = stays (Globals, h.1.0) (within (Globals, h.1.0) named) h.1.1 h.1.3 in
      (h.0, (h.1.0, now.0, h.1.2, now.1, now.2.1 ∙ h.1.4))

  offset_on : (wide : Bool) (ops : List Op) → ((y : Item) → Contains (names_of ops) y → Contains written y) → OffsetHolds v wide ops → OffsetHolds w wide ops
  offset_on wide [] within h = tt
  offset_on wide (o ∷ []) within h = λ plain. ⊎_elim (λ const. inl const) (λ get. inr (get_on (offset_type wide) o within get)) (h plain)
  offset_on wide (o ∷ p ∷ ops) within h = tt

  element_on : (e : Element) → ((y : Item) → Contains (element_kind_names e.kind) y → Contains written y) → ElementHolds v e → ElementHolds w e
  element_on e within h table t offset kind there =
      let named : (y : Item) → Contains ((Tables, table) ∷ names_of offset) y → Contains written y = λ y at. within y (subst (λ (k : ElementKind). Contains (element_kind_names k) y) (sym kind) at) in
      let here = named (Tables, table) (Contains-head (Tables, table) (names_of offset)) in
      let x = some_of (v.tables table) (lives (Tables, table) here) in
      let now = stays (Tables, table) here x.0 x.1 in
      let same : t.ty.limits.wide ≡ x.0.ty.limits.wide = ap (λ (z : Table). z.ty.limits.wide) (some_inj _ _ (sym there ∙ now.1)) ∙ now.2 in
      subst (λ (b : Bool). OffsetHolds w b offset) (sym same) (offset_on x.0.ty.limits.wide offset (λ y at. named y (Contains-tail (Tables, table) y (names_of offset) at)) (h table x.0 offset kind x.1))

  data_on : (d : DataSegment) → ((y : Item) → Contains (data_kind_names d.kind) y → Contains written y) → DataHolds v d → DataHolds w d
  data_on d within h memory t offset kind there =
      let named : (y : Item) → Contains ((Memories, memory) ∷ names_of offset) y → Contains written y = λ y at. within y (subst (λ (k : DataKind). Contains (data_kind_names k) y) (sym kind) at) in
      let here = named (Memories, memory) (Contains-head (Memories, memory) (names_of offset)) in
      let x = some_of (v.memories memory) (lives (Memories, memory) here) in
      let now = stays (Memories, memory) here x.0 x.1 in
      let same : t.ty.limits.wide ≡ x.0.ty.limits.wide = ap (λ (z : Memory). z.ty.limits.wide) (some_inj _ _ (sym there ∙ now.1)) ∙ now.2 in
      subst (λ (b : Bool). OffsetHolds w b offset) (sym same) (offset_on x.0.ty.limits.wide offset (λ y at. named y (Contains-tail (Memories, memory) y (names_of offset) at)) (h memory x.0 offset kind x.1))

  -- ---- a body, and one that has as many operators and no fewer locals

  body_on : (c : Config) (ty : ℕ) (x : Body) → ((y : Item) → Contains (type_item ty ∷ body_names x) y → Contains written y) → BodyHolds c v ty x → BodyHolds c w ty x
  body_on c ty x within h = record {
    well =
        well_formed_in c v w ty x (type_same ty (within (type_item ty) (Contains-head (type_item ty) (body_names x))))
        (λ t has. type_same t (within (type_item t) (Contains-tail (type_item ty) (type_item t) (body_names x) (Contains-append_1 (type_item t) (names_of x.operators) (flat_map (local_names x) (used_locals x)) has))))
        h.well;
    typed = h.typed;
    few = h.few;
  }

  kind_on : (c : Config) (ty : ℕ) (k : FunctionKind) → ((y : Item) → Contains (type_item ty ∷ kind_names k) y → Contains written y) → KindHolds c v ty k → KindHolds c w ty k
  kind_on c ty (ImportedFunction i) within h = tt
  kind_on c ty (LocalFunction x) within h = body_on c ty x within h
  kind_on c ty Uninitialised within h = h

typed_on : (f g : ℕ → Option (ValType ℕ)) → ((l : ℕ) (t : ValType ℕ) → f l ≡ Some t → g l ≡ Some t) → (ls : List ℕ) (ts : List (ValType ℕ)) → map f ls ≡ map Some ts → map g ls ≡ map Some ts
typed_on f g on [] [] e = refl
typed_on f g on [] (t ∷ ts) e = absurd cc
typed_on f g on (l ∷ ls) [] e = absurd cc
typed_on f g on (l ∷ ls) (t ∷ ts) e =
    let first : f l ≡ Some t = cc in
    let rest : map f ls ≡ map Some ts = cc in
    ap₂ (λ (a : Option (ValType ℕ)) (b : List (Option (ValType ℕ))). a ∷ b) (on l t first) (typed_on f g on ls ts rest)

-- a body that is kept reads from the same bytes
same_well : (c : Config) (v : Abstract) (ty : ℕ) (x y : Body) → KeepsBody x y → IsWellFormed c v ty x → IsWellFormed c v ty y
same_well c v ty x y s well = record {
  function_type = well.function_type;
  distinct = subst (λ (ps : List ℕ). AllPairs (λ (k : ℕ) (l : ℕ). k ≢ l) ps) (sym s.parameters) well.distinct;
  typed = ap (map y.local_type) s.parameters ∙ typed_on x.local_type y.local_type s.types x.parameters (params_of (v.types ty)) well.typed;
  names = well.names;
  further = well.further;
  types = well.types;
  further_typed = sym (typed_on x.local_type y.local_type s.types well.further well.types (sym well.further_typed));
  text = well.text;
  read =
      subst (λ (ops : List Op). BodyReads (context well.names (λ k. is_function_def (v.types k)) (features_of c)) (slice_get (y.parameters ++ well.further)) well.text well.types ops) (sym s.operators)
      (subst (λ (ps : List ℕ). BodyReads (context well.names (λ k. is_function_def (v.types k)) (features_of c)) (slice_get (ps ++ well.further)) well.text well.types x.operators) (sym s.parameters) well.read);
}

-- ---- an item

module _ (c : Config) (v w : Abstract) where
  -- what it names keeps its outline
  abbrev pub Rests : Item → Type 0
  Rests x = (y : Item) → Contains (written_in v x) y → KeepsOutline v w y

  -- what holds of it by its kind
  holds_on : (s : Space) (i : ℕ) (t : Thing s) → look w s i ≡ look v s i → look v s i ≡ Some t → Rests (s, i) → IsSound c v (s, i) → ThingHolds c v s i t → ThingHolds c w s i t
  holds_on Types i x e at rests sound h = h
  holds_on Functions i f e at rests sound h = record {
    typed = function_type_on v w (written_in v (Functions, i)) sound.names rests f.ty (written_there v Functions i f (type_item f.ty) at (Contains-head (type_item f.ty) (kind_names f.kind))) h.typed;
    kind = kind_on v w (written_in v (Functions, i)) sound.names rests c f.ty f.kind (λ y has. written_there v Functions i f y at has) h.kind;
  }
  holds_on Tables i t e at rests sound h = record {
    limits = h.limits;
    initialiser = λ g ops is has.
        let named : Contains (named_by names_of t.initialiser) (Globals, g) = subst (λ (o : Option (List Op)). Contains (named_by names_of o) (Globals, g)) (sym is) has in
        let here = written_there v Tables i t (Globals, g) at (Contains-append_2 (Globals, g) (map type_item (heap_names t.ty.element.heap)) (named_by names_of t.initialiser) named) in
        imported_on v w (written_in v (Tables, i)) sound.names rests g here (h.initialiser g ops is has);
  }
  holds_on Memories i x e at rests sound h = h
  holds_on Tags i t e at rests sound h = function_type_on v w (written_in v (Tags, i)) sound.names rests t.ty (written_there v Tags i t (type_item t.ty) at (Contains-head (type_item t.ty) [])) h
  holds_on Globals i x e at rests sound h = λ g ops is has.
      let named : Contains (named_by names_of x.initialiser) (Globals, g) = subst (λ (o : Option (List Op)). Contains (named_by names_of o) (Globals, g)) (sym is) has in
      let here = written_there v Globals i x (Globals, g) at (Contains-append_2 (Globals, g) (map type_item (val_names x.ty.value)) (named_by names_of x.initialiser) named) in
      let origin : Option Global → Option Origin = option_map (λ (y : Global). y.origin) in
      ⊎_elim
      (λ brought. inl (imported_on v w (written_in v (Globals, i)) sound.names rests g here brought))
      (λ before. inr (subst (λ (o : Option Origin). BothAnd (OriginsInOrder g i) o (origin (w.globals i))) (sym (origin_same v w (written_in v (Globals, i)) sound.names rests g here))
      (subst (λ (o : Option Global). BothAnd (OriginsInOrder g i) (origin (v.globals g)) (origin o)) (sym e) before)))
      (h g ops is has)
  holds_on Elements i x e at rests sound h =
      element_on v w (written_in v (Elements, i)) sound.names rests x (λ y has. written_there v Elements i x y at (Contains-append_1 y (element_kind_names x.kind) (element_item_names x.items) has)) h
  holds_on DataSegments i d e at rests sound h = data_on v w (written_in v (DataSegments, i)) sound.names rests d (λ y has. written_there v DataSegments i d y at has) h

  -- the same stands at its number
  slot_stays : (s : Space) (i : ℕ) → look w s i ≡ look v s i → Rests (s, i) → IsSound c v (s, i) → IsSound c w (s, i)
  slot_stays s i e rests sound = record {
    names = λ y at. let was = subst (λ l. Contains l y) (written_same v w i s e) at in live_on v w y (rests y was) (sound.names y was);
    heaps = λ h at. sound.heaps h (subst (λ l. Contains l h) (heaps_same v w i s e) at);
    consts = λ ops at. sound.consts ops (subst (λ l. Contains l ops) (consts_same v w i s e) at);
    const_heaps = λ ops h at has. sound.const_heaps ops h (subst (λ l. Contains l ops) (consts_same v w i s e) at) has;
    holds = λ t at. holds_on s i t e (sym e ∙ at) rests sound (sound.holds t (sym e ∙ at));
  }

  -- a function whose locals became more
  module _ (i : ℕ) (ty : ℕ) (x y : Body) (was : v.functions i ≡ Some (record { ty = ty; kind = LocalFunction x })) (is : w.functions i ≡ Some (record { ty = ty; kind = LocalFunction y })) (kept : KeepsBody x y)
      (sound : IsSound c v (Functions, i)) where
    old : FunctionHolds c v (record { ty = ty; kind = LocalFunction x })
    old = sound.holds (record { ty = ty; kind = LocalFunction x }) was

    names_back : (z : Item) → Contains (written_in w (Functions, i)) z → Contains (written_in v (Functions, i)) z
    names_back z at =
        subst (λ (o : Option Function). Contains (named_by function_names o) z) (sym was)
        (subst (λ (ns : List Item). Contains (type_item ty ∷ ns) z) (same_names x y kept old.kind.typed) (subst (λ (o : Option Function). Contains (named_by function_names o) z) is at))

    module _ (rests : Rests (Functions, i)) where
      body_stays : IsSound c w (Functions, i)
      body_stays = record {
        names = λ z at. let back = names_back z at in live_on v w z (rests z back) (sound.names z back);
        heaps = λ h at. sound.heaps h (subst (λ (hs : List (HeapType ℕ)). Contains hs h)
            (ap (heaps_by (λ (f : Function). kind_heaps f.kind)) is ∙ same_heaps x y kept old.kind.typed ∙ sym (ap (heaps_by (λ (f : Function). kind_heaps f.kind)) was)) at);
        consts = λ ops at. absurd (Contains-none ops at);
        const_heaps = λ ops h at has. absurd (Contains-none ops at);
        holds = λ t at. subst (λ (f : Function). FunctionHolds c w f) (some_inj _ _ (sym is ∙ at)) now;
      } where
        now : FunctionHolds c w (record { ty = ty; kind = LocalFunction y })
        now =
            let within : (z : Item) → Contains (type_item ty ∷ body_names x) z → Contains (written_in v (Functions, i)) z = λ z has. written_there v Functions i (record { ty = ty; kind = LocalFunction x }) z was has in
            let on : BodyHolds c w ty x = body_on v w (written_in v (Functions, i)) sound.names rests c ty x within old.kind in
            record {
              typed = on.well.function_type;
              kind = record { well = same_well c w ty x y kept on.well; typed = typed_still x y kept old.kind.typed; few = few_still x y kept old.kind.typed old.kind.few };
            }

  function_stays : (i : ℕ) (a b : Option Function) → v.functions i ≡ a → w.functions i ≡ b → KeepsFunction a b → Rests (Functions, i) → IsSound c v (Functions, i) → IsSound c w (Functions, i)
  function_stays i None b was is e rests sound = absent_sound c w Functions i (is ∙ e)
  function_stays i (Some f) b was is k rests sound = by f.kind refl k.2 where
    by : (l : FunctionKind) → f.kind ≡ l → KeepsKind l k.0 → IsSound c w (Functions, i)
    by (LocalFunction x) e h = body_stays i f.ty x h.0 (was ∙ ap (λ (l : FunctionKind). Some (record { ty = f.ty; kind = l })) e) (is ∙ k.1 ∙ ap (λ (l : FunctionKind). Some (record { ty = f.ty; kind = l })) h.1) h.2 sound rests
    by (ImportedFunction p) e h = slot_stays Functions i (is ∙ k.1 ∙ ap (λ (l : FunctionKind). Some (record { ty = f.ty; kind = l })) (h ∙ sym e) ∙ sym was) rests sound
    by Uninitialised e h = slot_stays Functions i (is ∙ k.1 ∙ ap (λ (l : FunctionKind). Some (record { ty = f.ty; kind = l })) (h ∙ sym e) ∙ sym was) rests sound

  pub item_stays : (s : Space) (i : ℕ) → IsKept v w (s, i) → Rests (s, i) → IsSound c v (s, i) → IsSound c w (s, i)
  item_stays Types i e = slot_stays Types i e
  item_stays Functions i k = function_stays i (v.functions i) (w.functions i) refl refl k
  item_stays Tables i e = slot_stays Tables i e
  item_stays Memories i e = slot_stays Memories i e
  item_stays Tags i e = slot_stays Tags i e
  item_stays Globals i e = slot_stays Globals i e
  item_stays Elements i e = slot_stays Elements i e
  item_stays DataSegments i e = slot_stays DataSegments i e

  function_back : (i : ℕ) (y : Item) (a b : Option Function) → v.functions i ≡ a → w.functions i ≡ b → KeepsFunction a b → IsSound c v (Functions, i) → Contains (written_in w (Functions, i)) y → Contains (written_in v (Functions, i)) y
  function_back i y None b was is e sound at = absurd (Contains-none y (subst (λ (o : Option Function). Contains (named_by function_names o) y) (is ∙ e) at))
  function_back i y (Some f) b was is k sound at = by f.kind refl k.2 where
    same : (l : FunctionKind) → f.kind ≡ l → k.0 ≡ l → Contains (written_in v (Functions, i)) y
    same l e h = subst (λ l. Contains l y) (written_same v w i Functions (is ∙ k.1 ∙ ap (λ (l : FunctionKind). Some (record { ty = f.ty; kind = l })) (h ∙ sym e) ∙ sym was)) at

    by : (l : FunctionKind) → f.kind ≡ l → KeepsKind l k.0 → Contains (written_in v (Functions, i)) y
    by (LocalFunction x) e h = names_back i f.ty x h.0 (was ∙ ap (λ (l : FunctionKind). Some (record { ty = f.ty; kind = l })) e) (is ∙ k.1 ∙ ap (λ (l : FunctionKind). Some (record { ty = f.ty; kind = l })) h.1) h.2 sound y at
    by (ImportedFunction p) e h = same (ImportedFunction p) e h
    by Uninitialised e h = same Uninitialised e h

  -- what stands written in a kept item stood there
  pub written_back : (s : Space) (i : ℕ) (y : Item) → IsKept v w (s, i) → IsSound c v (s, i) → Contains (written_in w (s, i)) y → Contains (written_in v (s, i)) y
  written_back Types i y e sound at = subst (λ l. Contains l y) (written_same v w i Types e) at
  written_back Functions i y k sound at = function_back i y (v.functions i) (w.functions i) refl refl k sound at
  written_back Tables i y e sound at = subst (λ l. Contains l y) (written_same v w i Tables e) at
  written_back Memories i y e sound at = subst (λ l. Contains l y) (written_same v w i Memories e) at
  written_back Tags i y e sound at = subst (λ l. Contains l y) (written_same v w i Tags e) at
  written_back Globals i y e sound at = subst (λ l. Contains l y) (written_same v w i Globals e) at
  written_back Elements i y e sound at = subst (λ l. Contains l y) (written_same v w i Elements e) at
  written_back DataSegments i y e sound at = subst (λ l. Contains l y) (written_same v w i DataSegments e) at
