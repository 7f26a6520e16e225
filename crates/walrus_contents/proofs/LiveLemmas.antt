-- Where each item is whole, and what is exported is there, nothing that is named is missing; and where nothing is, all is there.
use Rattle.std.proofs.Common.{◌≡◌, ℕ, ◌<◌, ◌+◌, List, [], ◌∷◌, length, map, take, get_or, Some, None, sym, ap, ◌∙◌, subst, refl, ⊎_elim}
use Rattle.std.specs.Prelude.{◌↔◌, Option, IsSome, Contains, option_map, Result, MatchResult}
use Rattle.walrus_base.specs.Arena.{item_at, items}
use Rattle.walrus_base.specs.Operators.{Space, Types, Functions, Tables, Memories, Tags, Globals, Elements, DataSegments, Item}
use Rattle.walrus_code.specs.Code.{item_of}
use Rattle.walrus_code.specs.declared.items.ItemId.{ItemId}
use Rattle.walrus_items.specs.Kinds.{exported, imported}
use Rattle.walrus_items.specs.Data.{DataValue}
use Rattle.walrus_items.specs.Elements.{ElementValue}
use Rattle.walrus_items.specs.Exports.{ExportValue, exports}
use Rattle.walrus_model.specs.Abstract as abstract
use Rattle.walrus_model.specs.Abstract.{Abstract}
use Rattle.walrus_model.specs.Dead.{HasDead, DeadName, DeadLocal, DeadExport, DeadStart, DeadImport, NoKind}
use Rattle.walrus_model.specs.Live.{IsLive}
use Rattle.walrus_model.specs.Names.{body_of_kind, body_of_function}
use Rattle.walrus_model.specs.Refers.{named_by, written_in, type_names, function_names, table_names, memory_names, tag_names, global_names, element_names, data_names}
use Rattle.walrus_base.proofs.Lists.{Contains-head, Contains-map, Contains-none, Contains-tail, Contains-uncons}
use Rattle.walrus_model.proofs.Reach.{Contains-unmap}
use Rattle.walrus_items.specs.declared.error.Error.{Error}
use Rattle.walrus_contents.specs.Named.{active_names, export_names, other_roots, own_written, root_elements, start_names}
use Rattle.walrus_contents.specs.There.{AreLive, AreWhole, ImportsAreLive, IsRefusal, IsSound, IsThere, IsUnsound, IsWhole, NoBody, NoLocal, OneIsDead}
use Rattle.walrus_items.specs.Imports.{ImportValue}
use Rattle.walrus_contents.specs.View.{contents_view, data_of, element_of, export_of, import_of}
use Rattle.walrus_contents.specs.declared.parts.Contents.{Contents}
use Rattle.walrus_contents.proofs.Groups.{GroupsAreWhole, own_is_written, written_split}
use Rattle.walrus_base.proofs.Lookups.{mapped_some}
use Rattle.walrus_contents.proofs.NamedLemmas.{among, result_map, row_more, same_some}
use Rattle.walrus_contents.proofs.RootNames.{named_active, named_root_element, named_start, other_cases, start_is_other, start_named}
use Rattle.walrus_model.proofs.Walked.{Walked, next_there, walk_goes}
use Rattle.walrus_model.proofs.KeptFollow.{none_unless as none_where, not_none as some_none}

-- what something is written in is there
live_where : {X : Type 0} (names : X → List Item) (o : Option X) (y : Item) → Contains (named_by names o) y → IsSome o
live_where names (Some x) y at = refl
live_where names None y at = absurd (Contains-none y at)

pub written_is_live : (v : Abstract) (x y : Item) → Contains (written_in v x) y → IsLive v x
written_is_live v (Types, i) y at = live_where type_names (v.types i) y at
written_is_live v (Functions, i) y at = live_where function_names (v.functions i) y at
written_is_live v (Tables, i) y at = live_where table_names (v.tables i) y at
written_is_live v (Memories, i) y at = live_where memory_names (v.memories i) y at
written_is_live v (Tags, i) y at = live_where tag_names (v.tags i) y at
written_is_live v (Globals, i) y at = live_where global_names (v.globals i) y at
written_is_live v (Elements, i) y at = live_where element_names (v.elements i) y at
written_is_live v (DataSegments, i) y at = live_where data_names (v.data_segments i) y at

-- ---- bodies

local_kind : (k : abstract.FunctionKind) (b : abstract.Body) → body_of_kind k ≡ Some b → k ≡ abstract.LocalFunction b
local_kind (abstract.LocalFunction d) b e = let is : d ≡ b = cc in ap abstract.LocalFunction is
local_kind (abstract.ImportedFunction p) b e = absurd cc
local_kind abstract.Uninitialised b e = absurd cc

local_function : (o : Option abstract.Function) (b : abstract.Body) → body_of_function o ≡ Some b → (f : abstract.Function) × (o ≡ Some f) × (f.kind ≡ abstract.LocalFunction b)
local_function None b e = absurd cc
local_function (Some f) b e = (f, refl, local_kind f.kind b e)

-- ---- items that are named

module _ (v : Abstract) (ids : List ItemId) (i : ℕ) (d : ItemId) (lt : i < length ids) where
  pub live_more : AreLive v (map item_of (take i ids)) → IsLive v (item_of (get_or ids i d)) → AreLive v (map item_of (take (i + 1) ids))
  live_more before now = row_more item_of (λ x. IsLive v x) ids i d lt before now

  pub one_dead : (IsLive v (item_of (get_or ids i d)) → ⊥) → OneIsDead v (map item_of ids)
  one_dead dead = (item_of (get_or ids i d), (among item_of ids i d lt, dead))

-- ---- exports, where those to come decide

-- what the exports to come name decides of what all of them name
pub record Decide (v : Abstract) (left all : List Item) : Type 0 where
  pub live : AreLive v left → AreLive v all
  pub dead : OneIsDead v left → OneIsDead v all

-- at the beginning all are to come
pub decide_all : (v : Abstract) (left all : List Item) → left ≡ all → Decide v left all
decide_all v left all same = subst (λ (xs : List Item). Decide v left xs) same (record { live = λ h. h; dead = λ h. h })

module _ (v : Abstract) (left after all : List Item) (x : Item) (steps : left ≡ x ∷ after) (d : Decide v left all) where
  -- a step past what is there
  pub decide_goes : IsLive v x → Decide v after all
  decide_goes live = record {
    live = λ rest. d.live (subst (λ (xs : List Item). AreLive v xs) (sym steps) (λ y at. ⊎_elim (λ (same : x ≡ y). subst (λ (z : Item). IsLive v z) same live) (λ h. rest y h) (Contains-uncons x y after at)));
    dead = λ one. d.dead (subst (λ (xs : List Item). OneIsDead v xs) (sym steps) (one.0, (Contains-tail x one.0 after one.1.0, one.1.1)));
  }

  -- a stop at what isn't
  pub decide_stops : (IsLive v x → ⊥) → OneIsDead v all
  decide_stops dead = d.dead (subst (λ (xs : List Item). OneIsDead v xs) (sym steps) (x, (Contains-head x after, dead)))

-- at the end none is to come
pub decide_none : (v : Abstract) (left all : List Item) → left ≡ [] → Decide v left all → AreLive v all
decide_none v left all none d = d.live (subst (λ (xs : List Item). AreLive v xs) (sym none) (λ x at. absurd (Contains-none x at)))

-- ---- what isn't there

pub unsound_dead : (v : Abstract) (x : Item) → IsUnsound v x → HasDead v
unsound_dead v x (NoBody i f same at e) = NoKind i f at e
unsound_dead v x (NoLocal i f b l same at e used none) = DeadLocal i l b (ap body_of_function at ∙ ap body_of_kind e) used none

-- what was named is what is written in an item itself; the members of its group are there
pub item_checked : {T : Type 0} (v : Abstract) → GroupsAreWhole v → (x : Item) (named : List Item) → ((y : Item) → Contains named y ↔ Contains (own_written v x) y) → IsSound v x → (r : Result T Error)
    → MatchResult r (λ _. AreLive v named) (IsRefusal (OneIsDead v named)) → MatchResult r (λ _. IsWhole v x) (IsRefusal (HasDead v))
item_checked v groups x named are sound r h = result_map (AreLive v named) (IsWhole v x) (OneIsDead v named) (HasDead v)
    (λ live. record {
      sound = sound;
      written = λ y at. ⊎_elim (λ member. (groups x y member).0) (λ own. live y ((are y).1 own)) (written_split v x y at);
    })
    (λ dead. DeadName x dead.0 (own_is_written v x dead.0 ((are dead.0).0 dead.1.0)) dead.1.1)
    r h

-- ---- what is seen of a thing is there where the thing is

pub seen_there : {A B : Type 0} (f : A → B) (o : Option A) (x : A) → o ≡ Some x → IsSome (option_map f o)
seen_there {A} f o x e = subst (λ (s : Option A). IsSome (option_map f s)) (sym e) refl

-- what isn't a function is sound where it is there
other_sound : (v : Abstract) (s : Space) (i : ℕ) → (s ≡ Functions → ⊥) → IsLive v (s, i) → IsSound v (s, i)
other_sound v s i other live = record {
  live = live;
  initialised = λ j f same. absurd (other (ap (λ (x : Item). x.0) same));
  locals = λ j f b l same. absurd (other (ap (λ (x : Item). x.0) same));
}

-- memories name nothing
no_names : (o : Option abstract.Memory) (x : Item) → Contains (named_by memory_names o) x → ⊥
no_names (Some m) x at = Contains-none x at
no_names None x at = Contains-none x at

memories_whole : (v : Abstract) → AreWhole v Memories
memories_whole v i live = record {
  sound = other_sound v Memories i (λ (same : Memories ≡ Functions). absurd (cc)) live;
  written = λ x at. absurd (no_names (v.memories i) x at);
}

module _ (c : Contents) where
  abbrev V : Abstract
  V = contents_view c

  export_dead : (x : Item) → Contains (export_names c.exports) x → (IsLive V x → ⊥) → HasDead V
  export_dead x at dead =
      let from = Contains-unmap (λ (e : ExportValue). exported e.item) (items (exports c.exports)) x at in
      DeadExport (export_of from.0) (Contains-map export_of from.0 (items (exports c.exports)) from.1) (λ live. dead (subst (λ (y : Item). IsLive V y) from.2 live))

  pub exports_dead : OneIsDead V (export_names c.exports) → HasDead V
  exports_dead dead = export_dead dead.0 dead.1.0 dead.1.1

  start_dead : (x : Item) → Contains (start_names c.start) x → (IsLive V x → ⊥) → HasDead V
  start_dead x at dead =
      let from = named_start c.start x at in
      DeadStart from.0 from.1 (none_where (V.functions from.0) (λ live. dead (subst (λ (y : Item). IsLive V y) (sym from.2) live)))

  active_live : (x : Item) → Contains (active_names c.data_) x → IsLive V x
  active_live x at =
      let from = named_active c.data_ x at in
      subst (λ (y : Item). IsLive V y) (sym from.4) (subst (λ (o : Option DataValue). IsSome (option_map data_of o)) (sym from.2) refl)

  root_element_live : (x : Item) → Contains (root_elements c.elements) x → IsLive V x
  root_element_live x at =
      let from = named_root_element c.elements x at in
      subst (λ (y : Item). IsLive V y) (sym from.4) (subst (λ (o : Option ElementValue). IsSome (option_map element_of o)) (sym from.2) refl)

  pub others_dead : OneIsDead V (other_roots c) → HasDead V
  others_dead dead = ⊎_elim
      (λ h. start_dead dead.0 h dead.1.1)
      (λ segments. absurd (dead.1.1 (⊎_elim (λ h. active_live dead.0 h) (λ h. root_element_live dead.0 h) segments)))
      (other_cases c dead.0 dead.1.0)

  -- what the check has found before it comes to the functions
  pub record Checked : Type 0 where
    pub exports : AreLive V (export_names c.exports)
    pub others : AreLive V (other_roots c)
    pub imports : ImportsAreLive V
    pub types : AreWhole V Types
    pub tables : AreWhole V Tables
    pub tags : AreWhole V Tags
    pub globals : AreWhole V Globals
    pub elements : AreWhole V Elements
    pub data_segments : AreWhole V DataSegments

  module _ (k : Checked) (fs : AreWhole V Functions) where
    whole_at : (x : Item) → IsLive V x → IsWhole V x
    whole_at (Types, i) live = k.types i live
    whole_at (Functions, i) live = fs i live
    whole_at (Tables, i) live = k.tables i live
    whole_at (Memories, i) live = memories_whole V i live
    whole_at (Tags, i) live = k.tags i live
    whole_at (Globals, i) live = k.globals i live
    whole_at (Elements, i) live = k.elements i live
    whole_at (DataSegments, i) live = k.data_segments i live

    all_there : IsThere V
    all_there = record {
      written = λ x y at. (whole_at x (written_is_live V x y at)).written y at;
      locals = λ i b x is used.
          let at = local_function (V.functions i) b is in
          (fs i (subst (λ (o : Option abstract.Function). IsSome o) (sym at.1) refl)).sound.locals i at.0 b x refl at.1 at.2 used;
      exports = λ x at.
          let from = Contains-unmap export_of (items (exports c.exports)) x at in
          subst (λ (y : abstract.Export). IsLive V y.item) from.2 (k.exports (exported from.0.item) (Contains-map (λ (y : ExportValue). exported y.item) from.0 (items (exports c.exports)) from.1));
      imports = k.imports;
      start = λ f is. k.others (Functions, f) (start_is_other c (Functions, f) (start_named c.start f is));
      initialised = λ i g at. (fs i (subst (λ (o : Option abstract.Function). IsSome o) (sym at) refl)).sound.initialised i g refl at;
    }

  there_dead : IsThere V → HasDead V → ⊥
  there_dead h (DeadName x y at dead) = dead (h.written x y at)
  there_dead h (DeadLocal f x b is used none) = some_none (b.local_type x) (h.locals f b x is used) none
  there_dead h (DeadExport e at dead) = dead (h.exports e at)
  there_dead h (DeadStart f is none) = some_none (V.functions f) (h.start f is) none
  there_dead h (DeadImport i x at dead) = dead (h.imports i x at)
  there_dead h (NoKind i f at none) = h.initialised i f at none

  -- at the end of the check the functions decide
  pub functions_checked : {T : Type 0} → Checked → (r : Result T Error)
      → MatchResult r (λ _. AreWhole V Functions) (IsRefusal (HasDead V)) → MatchResult r (λ _. HasDead V → ⊥) (IsRefusal (HasDead V))
  functions_checked k r h = result_map (AreWhole V Functions) (HasDead V → ⊥) (HasDead V) (HasDead V) (λ fs. there_dead (all_there k fs)) (λ dead. dead) r h

-- the import at a place, where what it brings is there
pub imported_live : (v : Abstract) (o : Option ImportValue) (e : ImportValue) → o ≡ Some e → IsLive v (imported e.kind) → (x : abstract.Import) → option_map import_of o ≡ Some x → IsLive v x.item
imported_live v o e is live x at =
    let from = mapped_some import_of o x at in
    let same : e ≡ from.0 = same_some o e from.0 is from.1 in
    subst (λ (y : abstract.Import). IsLive v y.item) (sym from.2) (subst (λ (y : ImportValue). IsLive v (imported y.kind)) same live)

-- where what is there of each import is live, so is what each import brings
pub import_there : (v : Abstract) (o : Option ImportValue) → (IsSome o → (x : abstract.Import) → option_map import_of o ≡ Some x → IsLive v x.item) → (x : abstract.Import) → option_map import_of o ≡ Some x → IsLive v x.item
import_there v (Some e) h x at = h refl x at
import_there v None h x at = absurd cc

-- what the import at a place brings, if one stands there, is there
abbrev pub BringsLive : Abstract → List (Option ImportValue) → ℕ → Type 0
BringsLive v slots i = (x : abstract.Import) → option_map import_of (item_at slots i) ≡ Some x → IsLive v x.item

module _ (v : Abstract) (slots : List (Option ImportValue)) (left after : List (ℕ × ImportValue)) (e : ℕ × ImportValue) (steps : left ≡ e ∷ after) where
  pub import_goes : IsLive v (imported e.1.kind) → Walked (BringsLive v slots) slots left → Walked (BringsLive v slots) slots after
  import_goes live w = walk_goes (BringsLive v slots) slots left after e steps (λ x at. imported_live v (item_at slots e.0) e.1 (next_there (BringsLive v slots) slots left after e steps w) live x at) w

  pub import_stops : ((i : ℕ) → v.imports i ≡ option_map import_of (item_at slots i)) → (IsLive v (imported e.1.kind) → ⊥) → Walked (BringsLive v slots) slots left → HasDead v
  import_stops same dead w = DeadImport e.0 (import_of e.1) (same e.0 ∙ ap (option_map import_of) (next_there (BringsLive v slots) slots left after e steps w)) dead
