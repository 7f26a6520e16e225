-- Data segments have to be counted where one is passive or a body names one: that the tests of these are the standard's.
use Rattle.std.proofs.Common.{◌≡◌, ◌⊎◌, inl, inr, ⊎_elim, ℕ, Bool, true, false, List, [], ◌∷◌, map, refl, sym, ap, ◌∙◌, subst, Some, None}
use Rattle.std.specs.Prelude.{flat_map, Contains, IsSome, Option, option_map}
use Rattle.std.specs.List.{list_any}
use Rattle.std.proofs.lemmas.Bool.{false≢true}
use Rattle.std.proofs.lemmas.List.Elements.{Contains-append_cases, Contains-append_left}
use Rattle.std.proofs.lemmas.List.Folds.{list_any_at}
use Rattle.walrus_base.specs.Arena.{entries, item_at, items}
use Rattle.walrus_base.specs.Types.{heap_names, val_names}
use Rattle.walrus_base.specs.Operators.{Space, Types, Functions, Tables, Memories, Tags, Globals, Elements, DataSegments, Item, Arg, Index, Label, Local, Number, Count, Byte, S32, S64, Bits32, Bits64, Value, Heap, Block, Access, Op, arg_names, block_names, names_of, op_names, type_item}
use Rattle.walrus_base.specs.declared.locals.ModuleLocals.{ModuleLocals}
use Rattle.walrus_items.specs.Function.{body_of}
use Rattle.walrus_items.specs.Data.{DataValue, data_segments, is_passive_data}
use Rattle.walrus_items.specs.Functions.{FunctionValue, functions}
use Rattle.walrus_items.specs.declared.function_kind.FunctionKind.{FunctionKind}
use Rattle.walrus_items.specs.declared.function_kind.FunctionKind.TheVariants as kind
use Rattle.walrus_items.specs.declared.segments.DataKind.{DataKind}
use Rattle.walrus_items.specs.declared.segments.DataKind.TheVariants.{Active, Passive}
use Rattle.walrus_contents.specs.View.{data_kind_of, data_of, function, kind_of, parts_view}
use Rattle.walrus_contents.specs.declared.parts.Parts.{Parts}
use Rattle.walrus_model.proofs.Slots.{entry_in, item_seen}
use Rattle.walrus_model.specs.Abstract.{Abstract, Function, FunctionKind as Kind, ImportedFunction, LocalFunction, PassiveData, Uninitialised}
use Rattle.walrus_model.specs.Dead.{DeadName, HasDead}
use Rattle.walrus_model.specs.Live.{IsLive}
use Rattle.walrus_model.specs.Names.{body_of_function, body_of_kind}
use Rattle.walrus_model.specs.Refers.{function_names, kind_names, local_names, named_by, used_locals}
use Rattle.walrus_base.proofs.Lists.{Contains-head, Contains-map, Contains-none, Contains-tail, Contains-uncons}
use Rattle.walrus_model.proofs.Reach.{Contains-unmap}
use Rattle.walrus_model.proofs.TypeRules.{Contains-flat_map}
use Rattle.walrus_theorem.specs.Spelling.{IsPassive, NamesData, NeedsCount}
use Rattle.walrus_plan.specs.Count.{arg_is_data, is_passive_value, kind_names_data, one_names_data, op_names_data}
use Rattle.walrus_groups.proofs.WrittenCauses.{any_found}

-- ---- lists

any_at : {X : Type 0} (p : X → Bool) (xs : List X) (x : X) → Contains xs x → p x ≡ true → list_any p xs ≡ true
any_at p xs x c h = list_any_at p xs c.0 x c.1 (ap p c.2 ∙ h)

from_flat : {X Y : Type 0} (f : X → List Y) (xs : List X) (y : Y) → Contains (flat_map f xs) y → (x : X) × (Contains xs x × Contains (f x) y)
from_flat f [] y at = absurd (Contains-none y at)
from_flat f (x ∷ xs) y at = ⊎_elim
    (λ (here : Contains (f x) y). (x, (Contains-head x xs, here)))
    (λ later. let r = from_flat f xs y later in (r.0, (Contains-tail x r.0 xs r.1.0, r.1.1)))
    (Contains-append_cases (f x) (flat_map f xs) y at)

-- ---- operators

-- what stands alone is of the other's space
alone : (s t : Space) (i d : ℕ) → Contains {X = Item} ((s, i) ∷ []) (t, d) → s ≡ t
alone s t i d at = ⊎_elim (λ same. ap (λ (x : Item). x.0) same) (λ later. absurd (Contains-none (t, d) later)) (Contains-uncons (s, i) (t, d) [] at)

no_type : (ts : List ℕ) (d : ℕ) → Contains (map type_item ts) (DataSegments, d) → ⊥
no_type ts d at = let e : Types ≡ DataSegments = ap (λ (x : Item). x.0) (Contains-unmap type_item ts (DataSegments, d) at).2 in cc

arg_found : (a : Arg) → arg_is_data a ≡ true → (d : ℕ) × Contains (arg_names a) (DataSegments, d)
arg_found (Index (DataSegments, d)) h = (d, Contains-head (DataSegments, d) [])
arg_found (Index (Types, i)) h = absurd (false≢true h)
arg_found (Index (Functions, i)) h = absurd (false≢true h)
arg_found (Index (Tables, i)) h = absurd (false≢true h)
arg_found (Index (Memories, i)) h = absurd (false≢true h)
arg_found (Index (Tags, i)) h = absurd (false≢true h)
arg_found (Index (Globals, i)) h = absurd (false≢true h)
arg_found (Index (Elements, i)) h = absurd (false≢true h)
arg_found (Label n) h = absurd (false≢true h)
arg_found (Local n) h = absurd (false≢true h)
arg_found (Number n) h = absurd (false≢true h)
arg_found (Count n) h = absurd (false≢true h)
arg_found (Byte n) h = absurd (false≢true h)
arg_found (S32 z) h = absurd (false≢true h)
arg_found (S64 z) h = absurd (false≢true h)
arg_found (Bits32 n) h = absurd (false≢true h)
arg_found (Bits64 n) h = absurd (false≢true h)
arg_found (Value v) h = absurd (false≢true h)
arg_found (Heap t) h = absurd (false≢true h)
arg_found (Block b) h = absurd (false≢true h)
arg_found (Access flags memory offset) h = absurd (false≢true h)

other_space : (s : Space) (i d : ℕ) → (s ≡ DataSegments → ⊥) → Contains {X = Item} ((s, i) ∷ []) (DataSegments, d) → false ≡ true
other_space s i d differs at = absurd (differs (alone s DataSegments i d at))

arg_seen : (a : Arg) (d : ℕ) → Contains (arg_names a) (DataSegments, d) → arg_is_data a ≡ true
arg_seen (Index (DataSegments, i)) d at = refl
arg_seen (Index (Types, i)) d at = other_space Types i d (λ e. cc) at
arg_seen (Index (Functions, i)) d at = other_space Functions i d (λ e. cc) at
arg_seen (Index (Tables, i)) d at = other_space Tables i d (λ e. cc) at
arg_seen (Index (Memories, i)) d at = other_space Memories i d (λ e. cc) at
arg_seen (Index (Tags, i)) d at = other_space Tags i d (λ e. cc) at
arg_seen (Index (Globals, i)) d at = other_space Globals i d (λ e. cc) at
arg_seen (Index (Elements, i)) d at = other_space Elements i d (λ e. cc) at
arg_seen (Access flags memory offset) d at = other_space Memories memory d (λ e. cc) at
arg_seen (Value v) d at = absurd (no_type (val_names v) d at)
arg_seen (Heap t) d at = absurd (no_type (heap_names t) d at)
arg_seen (Block b) d at = absurd (no_type (block_names b) d at)
arg_seen (Label n) d at = absurd (Contains-none (DataSegments, d) at)
arg_seen (Local n) d at = absurd (Contains-none (DataSegments, d) at)
arg_seen (Number n) d at = absurd (Contains-none (DataSegments, d) at)
arg_seen (Count n) d at = absurd (Contains-none (DataSegments, d) at)
arg_seen (Byte n) d at = absurd (Contains-none (DataSegments, d) at)
arg_seen (S32 z) d at = absurd (Contains-none (DataSegments, d) at)
arg_seen (S64 z) d at = absurd (Contains-none (DataSegments, d) at)
arg_seen (Bits32 n) d at = absurd (Contains-none (DataSegments, d) at)
arg_seen (Bits64 n) d at = absurd (Contains-none (DataSegments, d) at)

op_found : (o : Op) → op_names_data o ≡ true → (d : ℕ) × Contains (op_names o) (DataSegments, d)
op_found o h =
    let m = any_found arg_is_data o.args h in
    let n = arg_found m.0 m.1.1 in
    (n.0, Contains-flat_map arg_names o.args m.0 (DataSegments, n.0) m.1.0 n.1)

op_seen : (o : Op) (d : ℕ) → Contains (op_names o) (DataSegments, d) → op_names_data o ≡ true
op_seen o d at =
    let r = from_flat arg_names o.args (DataSegments, d) at in
    any_at arg_is_data o.args r.0 r.1.0 (arg_seen r.0 d r.1.1)

ops_found : (os : List Op) → list_any op_names_data os ≡ true → (d : ℕ) × Contains (names_of os) (DataSegments, d)
ops_found os h =
    let m = any_found op_names_data os h in
    let n = op_found m.0 m.1.1 in
    (n.0, Contains-flat_map op_names os m.0 (DataSegments, n.0) m.1.0 n.1)

ops_seen : (os : List Op) (d : ℕ) → Contains (names_of os) (DataSegments, d) → list_any op_names_data os ≡ true
ops_seen os d at =
    let r = from_flat op_names os (DataSegments, d) at in
    any_at op_names_data os r.0 r.1.0 (op_seen r.0 d r.1.1)

-- ---- functions

kind_found : (all : ModuleLocals) (k : FunctionKind) → kind_names_data k ≡ true → (d : ℕ) × NamesData (body_of_kind (kind_of all k)) d
kind_found all (kind.Local f) h = ops_found (body_of f) h
kind_found all (kind.Import i) h = absurd (false≢true h)
kind_found all (kind.Uninitialized ty) h = absurd (false≢true h)

kind_seen : (all : ModuleLocals) (k : FunctionKind) (d : ℕ) → NamesData (body_of_kind (kind_of all k)) d → kind_names_data k ≡ true
kind_seen all (kind.Local f) d at = ops_seen (body_of f) d at
kind_seen all (kind.Import i) d at = absurd at
kind_seen all (kind.Uninitialized ty) d at = absurd at

function_seen : (all : ModuleLocals) (o : Option FunctionValue) (d : ℕ) → NamesData (body_of_function (option_map (function all) o)) d → (x : FunctionValue) × ((o ≡ Some x) × (one_names_data x ≡ true))
function_seen all None d at = absurd at
function_seen all (Some x) d at = (x, (refl, kind_seen all x.kind d at))

-- what a body names stands written in its function
written_kind : (k : Kind) (d : ℕ) → NamesData (body_of_kind k) d → Contains (kind_names k) (DataSegments, d)
written_kind (LocalFunction b) d at = Contains-append_left (names_of b.operators) (flat_map (local_names b) (used_locals b)) (DataSegments, d) at
written_kind (ImportedFunction i) d at = absurd at
written_kind Uninitialised d at = absurd at

written_body : (o : Option Function) (d : ℕ) → NamesData (body_of_function o) d → Contains (named_by function_names o) (DataSegments, d)
written_body None d at = absurd at
written_body (Some f) d at = Contains-tail (type_item f.ty) (DataSegments, d) (kind_names f.kind) (written_kind f.kind d at)

-- ---- segments

passive_found : (k : DataKind) → is_passive_data k ≡ true → data_kind_of k ≡ PassiveData
passive_found Passive h = refl
passive_found (Active memory offset) h = absurd (false≢true h)

passive_seen : (k : DataKind) → data_kind_of k ≡ PassiveData → is_passive_data k ≡ true
passive_seen Passive h = refl
passive_seen (Active memory offset) h = absurd cc

there_of : (o : Option DataValue) → IsSome (option_map data_of o) → (x : DataValue) × (o ≡ Some x)
there_of None h = absurd (false≢true h)
there_of (Some x) h = (x, refl)

segment_seen : (o : Option DataValue) → IsPassive (option_map data_of o) → (x : DataValue) × ((o ≡ Some x) × (is_passive_value x ≡ true))
segment_seen None h = absurd h
segment_seen (Some x) h = (x, (refl, passive_seen x.kind h))

-- ---- the module

pub item_in : {X : Type 0} (slots : List (Option X)) (i : ℕ) (x : X) → item_at slots i ≡ Some x → Contains (items slots) x
item_in {X} slots i x e = Contains-map (λ (entry : ℕ × X). entry.1) (i, x) (entries slots) (entry_in slots i x e)

module _ (p : Parts) where
  abbrev V : Abstract
  V = parts_view p

  abbrev pub HasPassive : Type 0
  HasPassive = list_any is_passive_value (items (data_segments p.data_.now)) ≡ true

  abbrev pub HasNames : Type 0
  HasNames = list_any one_names_data (items (functions p.funcs.now)) ≡ true

  pub passive_needs : HasPassive → NeedsCount V
  passive_needs h =
      let m = any_found is_passive_value (items (data_segments p.data_.now)) h in
      let s = item_seen (data_segments p.data_.now) m.0 m.1.0 in
      inl (s.0, subst (λ (o : Option DataValue). IsPassive (option_map data_of o)) (sym s.1) (passive_found m.0.kind m.1.1))

  pub names_need : HasNames → NeedsCount V
  names_need h =
      let m = any_found one_names_data (items (functions p.funcs.now)) h in
      let s = item_seen (functions p.funcs.now) m.0 m.1.0 in
      let n = kind_found p.locals.now m.0.kind m.1.1 in
      inr (s.0, (n.0, subst (λ (o : Option FunctionValue). NamesData (body_of_function (option_map (function p.locals.now) o)) n.0) (sym s.1) n.1))

  pub needs : NeedsCount V → HasPassive ⊎ HasNames
  needs (inl (d, h)) =
      let s = segment_seen (item_at (data_segments p.data_.now) d) h in
      inl (any_at is_passive_value (items (data_segments p.data_.now)) s.0 (item_in (data_segments p.data_.now) d s.0 s.1.0) s.1.1)
  needs (inr (f, (d, h))) =
      let s = function_seen p.locals.now (item_at (functions p.funcs.now) f) d h in
      inr (any_at one_names_data (items (functions p.funcs.now)) s.0 (item_in (functions p.funcs.now) f s.0 s.1.0) s.1.1)

  -- where no segment is passive, only names are left
  pub needs_names : (b : Bool) → list_any is_passive_value (items (data_segments p.data_.now)) ≡ b → b ≡ false → NeedsCount V → HasNames
  needs_names b is none h = ⊎_elim (λ (has : HasPassive). absurd (false≢true (sym none ∙ sym is ∙ has))) (λ has. has) (needs h)

  -- where there is no segment, and nothing is named that isn't there
  module _ (none : items (data_segments p.data_.now) ≡ []) (whole : HasDead V → ⊥) where
    no_segment : (d : ℕ) (x : DataValue) → item_at (data_segments p.data_.now) d ≡ Some x → ⊥
    no_segment d x at = Contains-none x (subst (λ (xs : List DataValue). Contains xs x) none (item_in (data_segments p.data_.now) d x at))

    not_there : (d : ℕ) → IsLive V (DataSegments, d) → ⊥
    not_there d live = let s = there_of (item_at (data_segments p.data_.now) d) live in no_segment d s.0 s.1

    pub needs_none : NeedsCount V → ⊥
    needs_none (inl (d, h)) = let s = segment_seen (item_at (data_segments p.data_.now) d) h in no_segment d s.0 s.1.0
    needs_none (inr (f, (d, h))) = whole (DeadName (Functions, f) (DataSegments, d) (written_body (V.functions f) d h) (not_there d))
