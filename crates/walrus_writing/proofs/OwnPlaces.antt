-- The places of the items that the module defines: no import brings these, they stand behind what imports bring, and what is seen of them is what is seen of
-- the items.
use Rattle.std.proofs.Common.{◌≡◌, ℕ, Bool, true, false, List, [], ◌∷◌, ◌++◌, map, cond, refl, sym, ap, ◌∙◌, Some, None}
use Rattle.std.specs.Prelude.{Option, IsSome, All, Contains, filter_map, option_and_then, option_map}
use Rattle.std.specs.List.{cons_option}
use Rattle.std.proofs.lemmas.List.Elements.{All-cons, All-head, All-tail}
use Rattle.walrus_base.specs.Arena.{entries as entries_in, item_at, items}
use Rattle.walrus_base.specs.Id.{place}
use Rattle.walrus_base.specs.Operators.{Space, Types, Functions, Tables, Memories, Tags, Globals, Elements, DataSegments}
use Rattle.walrus_items.specs.Globals.{GlobalValue, globals}
use Rattle.walrus_items.specs.Memories.{MemoryValue, memories}
use Rattle.walrus_items.specs.Tables.{TableValue, tables}
use Rattle.walrus_items.specs.Tags.{TagValue, tags}
use Rattle.walrus_items.specs.Kinds.{imported}
use Rattle.walrus_items.specs.Imports.{ImportValue, imports}
use Rattle.walrus_items.specs.declared.kinds.ImportKind.{ImportKind}
use Rattle.walrus_items.specs.declared.kinds.ImportKind.TheVariants as kind
use Rattle.walrus_contents.specs.View as seen
use Rattle.walrus_contents.specs.View.{parts_view}
use Rattle.walrus_contents.specs.declared.parts.Parts.{Parts}
use Rattle.walrus_model.proofs.Slots.{stands_at}
use Rattle.walrus_model.specs.Abstract.{Global, Memory, Origin, Defined, Table, Tag}
use Rattle.walrus_model.specs.Imported.{import_number, number_in}
use Rattle.walrus_base.proofs.Lists.{Contains-head, Contains-tail}
use Rattle.walrus_base.proofs.Standing.{some_inj}
use Rattle.walrus_plan.specs.Brought.{import_numbers, own_of, own_places, places_brought}
use Rattle.walrus_plan.specs.Local.{is_own}
use Rattle.walrus_plan.specs.Places.{places, places_own}
use Rattle.walrus_writing.specs.Records.{AreDefined}
use Rattle.walrus_plan.specs.declared.plan.Plan.{Plan}
use Rattle.walrus_plan.proofs.BroughtBy.{brought_numbers}
use Rattle.walrus_plan.proofs.OrdersSpaces.{own_defined}

-- ---- no import brings them

origin_told : {Y : Type 0} (origin : Y → Origin) (o : Option Y) (y : Y) → option_map origin o ≡ Some Defined → o ≡ Some y → origin y ≡ Defined
origin_told origin o y told is = some_inj (origin y) Defined (sym (ap (option_map origin) is) ∙ told)

pub defined_own : (p : Parts) (plan : Plan) → AreDefined (parts_view p) (places_own p plan)
defined_own p plan = record {
  tables = λ i t at is.
      origin_told (λ (x : Table). x.origin) ((parts_view p).tables i) t (own_defined (λ (x : TableValue). x.imported_by) seen.table_of (λ (x : Table). x.origin) (λ x. refl) (tables p.tables.now) i at) is;
  memories = λ i m at is.
      origin_told (λ (x : Memory). x.origin) ((parts_view p).memories i) m (own_defined (λ (x : MemoryValue). x.imported_by) seen.memory_of (λ (x : Memory). x.origin) (λ x. refl) (memories p.memories.now) i at) is;
  tags = λ i t at is.
      origin_told (λ (x : Tag). x.origin) ((parts_view p).tags i) t (own_defined (λ (x : TagValue). x.imported_by) seen.tag_of (λ (x : Tag). x.origin) (λ x. refl) (tags p.tags.now) i at) is;
  globals = λ i g at is.
      origin_told (λ (x : Global). x.origin) ((parts_view p).globals i) g (own_defined (λ (x : GlobalValue). x.imported_by) seen.global_of (λ (x : Global). x.origin) (λ x. refl) (globals p.globals.now) i at) is;
}

-- ---- they stand behind what imports bring

none_chosen : {A B : Type 0} (f : A → Option B) → ((x : A) → f x ≡ None) → (xs : List A) → filter_map f xs ≡ []
none_chosen f none [] = refl
none_chosen {A} {B} f none (x ∷ xs) = ap (λ (o : Option B). cons_option o (filter_map f xs)) (none x) ∙ none_chosen f none xs

-- imports bring no types and no segments
no_type : (k : ImportKind) → number_in Types (imported k) ≡ None
no_type (kind.Function i) = refl
no_type (kind.Table i) = refl
no_type (kind.Memory i) = refl
no_type (kind.Global i) = refl
no_type (kind.Tag i) = refl

no_element : (k : ImportKind) → number_in Elements (imported k) ≡ None
no_element (kind.Function i) = refl
no_element (kind.Table i) = refl
no_element (kind.Memory i) = refl
no_element (kind.Global i) = refl
no_element (kind.Tag i) = refl

no_data : (k : ImportKind) → number_in DataSegments (imported k) ≡ None
no_data (kind.Function i) = refl
no_data (kind.Table i) = refl
no_data (kind.Memory i) = refl
no_data (kind.Global i) = refl
no_data (kind.Tag i) = refl

module _ (p : Parts) (plan : Plan)
    (brought_functions : map place plan.brought_functions.items ≡ places_brought Functions (items (imports p.imports.now)))
    (all_tables : map place plan.tables.items ≡ places_brought Tables (items (imports p.imports.now)) ++ own_places (λ (t : TableValue). t.imported_by) (entries_in (tables p.tables.now)))
    (all_memories : map place plan.memories.items ≡ places_brought Memories (items (imports p.imports.now)) ++ own_places (λ (m : MemoryValue). m.imported_by) (entries_in (memories p.memories.now)))
    (all_tags : map place plan.tags.items ≡ places_brought Tags (items (imports p.imports.now)) ++ own_places (λ (t : TagValue). t.imported_by) (entries_in (tags p.tags.now)))
    (all_globals : map place plan.globals.items ≡ places_brought Globals (items (imports p.imports.now)) ++ own_places (λ (g : GlobalValue). g.imported_by) (entries_in (globals p.globals.now))) where
  abbrev numbers : Space → List ℕ
  numbers s = filter_map (import_number (parts_view p) s) (import_numbers p)

  behind : (s : Space) → places plan s ≡ places_brought s (items (imports p.imports.now)) ++ places_own p plan s → places plan s ≡ numbers s ++ places_own p plan s
  behind s is = is ∙ ap (λ (l : List ℕ). l ++ places_own p plan s) (sym (brought_numbers p s))

  none_brought : (s : Space) → ((k : ImportKind) → number_in s (imported k) ≡ None) → places plan s ≡ places_own p plan s → places plan s ≡ numbers s ++ places_own p plan s
  none_brought s none same =
      same ∙ ap (λ (l : List ℕ). l ++ places_own p plan s) (sym (brought_numbers p s ∙ none_chosen (λ (i : ImportValue). number_in s (imported i.kind)) (λ i. none i.kind) (items (imports p.imports.now))))

  pub parted_own : (s : Space) → places plan s ≡ filter_map (import_number (parts_view p) s) (import_numbers p) ++ places_own p plan s
  parted_own Types = none_brought Types no_type refl
  parted_own Functions = behind Functions (ap (λ (first : List ℕ). first ++ places_own p plan Functions) brought_functions)
  parted_own Tables = behind Tables all_tables
  parted_own Memories = behind Memories all_memories
  parted_own Tags = behind Tags all_tags
  parted_own Globals = behind Globals all_globals
  parted_own Elements = none_brought Elements no_element refl
  parted_own DataSegments = none_brought DataSegments no_data refl

-- ---- what is seen of them

module _ {T X W : Type 0} (by : T → Option ℕ) (seen_as : T → X) (f : X → Option W) (slots : List (Option T)) where
  abbrev at_place : ℕ → Option W
  at_place i = option_and_then f (option_map seen_as (item_at slots i))

  abbrev kept : List (ℕ × T) → List (ℕ × T)
  kept es = own_of (λ (e : ℕ × T). by e.1) es

  kept_step : (e : ℕ × T) (es : List (ℕ × T)) (b : Bool) → item_at slots e.0 ≡ Some e.1 → map at_place (map (λ d. d.0) (kept es)) ≡ map (λ t. f (seen_as t)) (own_of by (map (λ d. d.1) es))
      → map at_place (map (λ d. d.0) (cond b (e ∷ kept es) (kept es))) ≡ map (λ t. f (seen_as t)) (cond b (e.1 ∷ own_of by (map (λ d. d.1) es)) (own_of by (map (λ d. d.1) es)))
  kept_step e es true at same =
      ap (λ (o : Option T). option_and_then f (option_map seen_as o) ∷ map at_place (map (λ (d : ℕ × T). d.0) (kept es))) at ∙ ap (λ (l : List (Option W)). f (seen_as e.1) ∷ l) same
  kept_step e es false at same = same

  kept_seen : (es : List (ℕ × T)) → ((e : ℕ × T) → Contains es e → item_at slots e.0 ≡ Some e.1) → map at_place (map (λ d. d.0) (kept es)) ≡ map (λ t. f (seen_as t)) (own_of by (map (λ d. d.1) es))
  kept_seen [] at = refl
  kept_seen (e ∷ es) at = kept_step e es (is_own (by e.1)) (at e (Contains-head e es)) (kept_seen es (λ d c. at d (Contains-tail e d es c)))

  pub seen_by_own : map (λ i. option_and_then f (option_map seen_as (item_at slots i))) (own_places by (entries_in slots)) ≡ map (λ t. f (seen_as t)) (own_of by (items slots))
  seen_by_own = kept_seen (entries_in slots) (stands_at slots)

-- where all have an index, so have the module's own
module _ {T W : Type 0} (by : T → Option ℕ) (g : T → Option W) where
  indexed_step : (x : T) (xs : List T) (b : Bool) → IsSome (g x) → All (λ o. IsSome o) (map g (own_of by xs)) → All (λ o. IsSome o) (map g (cond b (x ∷ own_of by xs) (own_of by xs)))
  indexed_step x xs true first rest = All-cons (λ (o : Option W). IsSome o) (g x) (map g (own_of by xs)) first rest
  indexed_step x xs false first rest = rest

  pub own_indexed : (xs : List T) → All (λ o. IsSome o) (map g xs) → All (λ o. IsSome o) (map g (own_of by xs))
  own_indexed [] h = h
  own_indexed (x ∷ xs) h = indexed_step x xs (is_own (by x)) (All-head (λ (o : Option W). IsSome o) (g x) (map g xs) h) (own_indexed xs (All-tail (λ (o : Option W). IsSome o) (g x) (map g xs) h))
