-- Each module that bytes read as is plain.
use Rattle.std.proofs.Common.{◌≡◌, ℕ, zero, suc, ◌+◌, ◌<◌, ◌≤◌, Bool, true, false, List, [], ◌∷◌, ◌++◌, map, filter, zip, not, refl, sym, ap, ◌∙◌, subst, arith}
use Rattle.std.proofs.lemmas.Option.{slice_get-map}
use Rattle.std.specs.Prelude.{Option, Some, None, IsSome, IsTrue, option_map, option_to_list, slice_get, Contains}
use Rattle.wasm_entries.specs.declared.record.RawDesc.{RawDesc}
use Rattle.wasm_entries.specs.declared.record.RawDesc.TheVariants as descs
use Rattle.wasm_entries.specs.Record as entries
use Rattle.wasm_frames.specs.Record as wire
use Rattle.wasm_payloads.specs.Names.{Named}
use Rattle.wasm_forms.proofs.Bind.{some_same}
use Rattle.walrus_base.specs.Operators.{Space, Types, Functions, Tables, Memories, Tags, Globals, Elements, DataSegments, Item}
use Rattle.walrus_model.specs.Abstract.{Abstract, Origin, ImportedBy, Defined, Function, FunctionKind, ImportedFunction, LocalFunction, Uninitialised, Table, Memory, Tag, Global, Element, DataSegment, Import, Custom, Indices, ProducerField}
use Rattle.walrus_model.specs.Config.{Config}
use Rattle.walrus_model.specs.Names.{body_of_kind}
use Rattle.walrus_model.specs.Same.{BothAnd}
use Rattle.walrus_model.specs.Live.{IsLive}
use Rattle.walrus_model.specs.Refers.{KeepsToo}
use Rattle.walrus_model.specs.Order.{FunctionsByIndex, FunctionsByImport, OriginsInOrder, ByIndex, ByImport}
use Rattle.walrus_model.specs.Sections.{Said, imported, imported_function, imported_table, imported_memory, imported_tag, imported_global, item_after, imports_after, function_with, table_of, memory_of, tag_of, global_of, is_apart, custom_of, is_on_table, is_on_memory, passes}
use Rattle.walrus_model.specs.Out.{Out}
use Rattle.walrus_model.specs.Rules.{Holds}
use Rattle.walrus_theorem.specs.Chain.{BringsTo}
use Rattle.walrus_theorem.specs.Headline.{ReadsModule}
use Rattle.walrus_theorem.specs.Pinned.{IsWrittenAs}
use Rattle.walrus_model.proofs.StepPlain.{IsPlain}
use Rattle.walrus_theorem.specs.Sections.{module_of}
use Rattle.walrus_base.proofs.Lists.{Contains-none}
use Rattle.walrus_model.proofs.PipelineOps.{from_map, both_at, at_both}
use Rattle.walrus_theorem.proofs.StepOut.{plain_steps_come_out}
use Rattle.walrus_theorem.proofs.StepCatches.{all_said, AllCatches, local_catches, all_append, catches_at}
use Rattle.walrus_base.proofs.Standing.{some_of}

-- ---- rising numbers of imports, and then none

abbrev AllNone : List (Option ℕ) → Type 0
AllNone [] = Unit {0}
AllNone (None ∷ os) = AllNone os
AllNone (Some i ∷ os) = ⊥

abbrev RisesFrom : ℕ → List (Option ℕ) → Type 0
RisesFrom k [] = Unit {0}
RisesFrom k (Some i ∷ os) = (k ≤ i) × RisesFrom (suc i) os
RisesFrom k (None ∷ os) = AllNone os

abbrev Before : Option ℕ → Option ℕ → Type 0
Before (Some p) (Some q) = p < q
Before (Some p) None = Unit {0}
Before None None = Unit {0}
Before None (Some q) = ⊥

rises_weaker : (k l : ℕ) (os : List (Option ℕ)) → k ≤ l → RisesFrom l os → RisesFrom k os
rises_weaker k l [] le h = tt
rises_weaker k l (Some i ∷ os) le h = ((let least : l ≤ i = h.0 in omega arith), h.1)
rises_weaker k l (None ∷ os) le h = h

none_rises : (k : ℕ) (os : List (Option ℕ)) → AllNone os → RisesFrom k os
none_rises k [] h = tt
none_rises k (None ∷ os) h = h
none_rises k (Some i ∷ os) h = absurd h

all_none : (os : List (Option ℕ)) → AllNone os → (j : ℕ) (o : Option ℕ) → slice_get os j ≡ Some o → o ≡ None
all_none [] h j o e = absurd (cc)
all_none (None ∷ os) h zero o e = sym (some_same None o e)
all_none (None ∷ os) h (suc j) o e = all_none os h j o e
all_none (Some i ∷ os) h j o e = absurd h

at_least : (k : ℕ) (os : List (Option ℕ)) → RisesFrom k os → (j q : ℕ) → slice_get os j ≡ Some (Some q) → k ≤ q
at_least k [] h j q e = absurd (cc)
at_least k (Some i ∷ os) h zero q e = subst (λ x. k ≤ x) (some_same i q (some_same (Some i) (Some q) e)) h.0
at_least k (Some i ∷ os) h (suc j) q e = let more : suc i ≤ q = at_least (suc i) os h.1 j q e in let least : k ≤ i = h.0 in omega arith
at_least k (None ∷ os) h zero q e = let no_one : None ≡ Some q = some_same None (Some q) e in absurd (cc)
at_least k (None ∷ os) h (suc j) q e = let no_one : Some q ≡ None = all_none os h j (Some q) e in absurd (cc)

before_first : (o : Option ℕ) (k : ℕ) (os : List (Option ℕ)) → RisesFrom k (o ∷ os) → (j : ℕ) (b : Option ℕ) → slice_get os j ≡ Some b → Before o b
before_first (Some i) k os h j (Some q) e = let more : suc i ≤ q = at_least (suc i) os h.1 j q e in omega arith
before_first (Some i) k os h j None e = tt
before_first None k os h j b e = subst (λ x. Before None x) (sym (all_none os h j b e)) tt

rest_rises : (o : Option ℕ) (k : ℕ) (os : List (Option ℕ)) → RisesFrom k (o ∷ os) → (l : ℕ) × RisesFrom l os
rest_rises (Some i) k os h = (suc i, h.1)
rest_rises None k os h = (0, none_rises 0 os h)

in_order : (k : ℕ) (os : List (Option ℕ)) → RisesFrom k os → (i j : ℕ) → i < j → (a b : Option ℕ) → slice_get os i ≡ Some a → slice_get os j ≡ Some b → Before a b
in_order k [] h i j lt a b e f = absurd (cc)
in_order k (o ∷ os) h zero zero lt a b e f = absurd (omega arith)
in_order k (o ∷ os) h zero (suc j) lt a b e f = subst (λ x. Before x b) (some_same o a e) (before_first o k os h j b f)
in_order k (o ∷ os) h (suc i) zero lt a b e f = absurd (omega arith)
in_order k (o ∷ os) h (suc i) (suc j) lt a b e f = let rest = rest_rises o k os h in in_order rest.0 os rest.1 i j (let less : i < j = omega arith in less) a b e f

module _ {X : Type 0} (number : X → Option ℕ) (get : ℕ → RawDesc → Option X) (numbered : (i : ℕ) (d : RawDesc) (x : X) → get i d ≡ Some x → number x ≡ Some i) where
  -- what is imported comes first, in the order of the imports
  one_more : (i : ℕ) (o : Option X) → ((x : X) → o ≡ Some x → number x ≡ Some i) → (rest ys : List X) → RisesFrom (suc i) (map number (rest ++ ys)) → RisesFrom i (map number ((option_to_list o ++ rest) ++ ys))
  one_more i None h rest ys rises = rises_weaker i (suc i) (map number (rest ++ ys)) (let le : i ≤ suc i = omega arith in le) rises
  one_more i (Some x) h rest ys rises = subst (λ (o : Option ℕ). RisesFrom i (o ∷ map number (rest ++ ys))) (sym (h x refl)) ((let le : i ≤ i = omega arith in le), rises)

  imported_rises : (i : ℕ) (xs : List entries.Import) (ys : List X) → AllNone (map number ys) → RisesFrom i (map number (imported get i xs ++ ys))
  imported_rises i [] ys none = none_rises i (map number ys) none
  imported_rises i (x ∷ xs) ys none =
      one_more i (get i x.desc) (λ y e. numbered i x.desc y e) (imported get (i + 1) xs) ys
      (rises_weaker (suc i) (i + 1) (map number (imported get (i + 1) xs ++ ys)) (let le : suc i ≤ i + 1 = omega arith in le) (imported_rises (i + 1) xs ys none))

  number_at : (xs : List X) (i : ℕ) (x : X) → slice_get xs i ≡ Some x → slice_get (map number xs) i ≡ Some (number x)
  number_at xs i x e = slice_get-map number xs i ∙ ap (option_map number) e

  pub imported_order : (xs : List entries.Import) (ys : List X) → AllNone (map number ys) → (i j : ℕ) → i < j → (x y : X) → slice_get (imported get 0 xs ++ ys) i ≡ Some x → slice_get (imported get 0 xs ++ ys) j ≡ Some y → Before (number x) (number y)
  imported_order xs ys none i j lt x y e f =
      in_order 0 (map number (imported get 0 xs ++ ys)) (imported_rises 0 xs ys none) i j lt (number x) (number y)
      (number_at (imported get 0 xs ++ ys) i x e) (number_at (imported get 0 xs ++ ys) j y f)

all_made : {X Y : Type 0} (number : X → Option ℕ) (make : Y → X) → ((y : Y) → number (make y) ≡ None) → (ys : List Y) → AllNone (map number (map make ys))
all_made number make none [] = tt
all_made number make none (y ∷ ys) = subst (λ (o : Option ℕ). AllNone (o ∷ map number (map make ys))) (sym (none y)) (all_made number make none ys)

-- ---- the numbers of imports

abbrev of_origin : Origin → Option ℕ
of_origin (ImportedBy i) = Some i
of_origin Defined = None

abbrev of_kind : FunctionKind → Option ℕ
of_kind (ImportedFunction i) = Some i
of_kind (LocalFunction b) = None
of_kind Uninitialised = None

origins_in_order : (i j : ℕ) → i < j → (a b : Origin) → Before (of_origin a) (of_origin b) → OriginsInOrder i j a b
origins_in_order i j lt (ImportedBy p) (ImportedBy q) h = h
origins_in_order i j lt (ImportedBy p) Defined h = tt
origins_in_order i j lt Defined Defined h = lt
origins_in_order i j lt Defined (ImportedBy q) h = h

kinds_in_order : (i j : ℕ) (a b : FunctionKind) → (i < j → Before (of_kind a) (of_kind b)) → FunctionsByIndex i j a b → FunctionsByImport i j a b
kinds_in_order i j (ImportedFunction p) (ImportedFunction q) h lt = h lt
kinds_in_order i j (LocalFunction a) (LocalFunction b) h larger = larger
kinds_in_order i j (ImportedFunction p) (LocalFunction b) h none = absurd none
kinds_in_order i j (ImportedFunction p) Uninitialised h none = absurd none
kinds_in_order i j (LocalFunction a) (ImportedFunction q) h none = absurd none
kinds_in_order i j (LocalFunction a) Uninitialised h none = absurd none
kinds_in_order i j Uninitialised b h none = absurd none

function_numbered : (i : ℕ) (d : RawDesc) (x : Function) → imported_function i d ≡ Some x → of_kind x.kind ≡ Some i
function_numbered i (descs.Function ty) x e = sym (ap (λ (f : Function). of_kind f.kind) (some_same (record { ty = ty; kind = ImportedFunction i }) x e))
function_numbered i (descs.Table ty) x e = absurd (cc)
function_numbered i (descs.Memory l) x e = absurd (cc)
function_numbered i (descs.Global ty) x e = absurd (cc)
function_numbered i (descs.Tag ty) x e = absurd (cc)

some_to : {X Y : Type 0} (h : X → Y) (a x : X) → Some a ≡ Some x → h x ≡ h a
some_to h a x e = sym (ap h (some_same a x e))

table_numbered : (i : ℕ) (d : RawDesc) (x : Table) → imported_table i d ≡ Some x → of_origin x.origin ≡ Some i
table_numbered i (descs.Table ty) x e = some_to (λ (t : Table). of_origin t.origin) _ x e
table_numbered i (descs.Function ty) x e = absurd (cc)
table_numbered i (descs.Memory l) x e = absurd (cc)
table_numbered i (descs.Global ty) x e = absurd (cc)
table_numbered i (descs.Tag ty) x e = absurd (cc)

memory_numbered : (i : ℕ) (d : RawDesc) (x : Memory) → imported_memory i d ≡ Some x → of_origin x.origin ≡ Some i
memory_numbered i (descs.Memory l) x e = some_to (λ (t : Memory). of_origin t.origin) _ x e
memory_numbered i (descs.Function ty) x e = absurd (cc)
memory_numbered i (descs.Table ty) x e = absurd (cc)
memory_numbered i (descs.Global ty) x e = absurd (cc)
memory_numbered i (descs.Tag ty) x e = absurd (cc)

tag_numbered : (i : ℕ) (d : RawDesc) (x : Tag) → imported_tag i d ≡ Some x → of_origin x.origin ≡ Some i
tag_numbered i (descs.Tag ty) x e = some_to (λ (t : Tag). of_origin t.origin) _ x e
tag_numbered i (descs.Function ty) x e = absurd (cc)
tag_numbered i (descs.Table ty) x e = absurd (cc)
tag_numbered i (descs.Memory l) x e = absurd (cc)
tag_numbered i (descs.Global ty) x e = absurd (cc)

global_numbered : (i : ℕ) (d : RawDesc) (x : Global) → imported_global i d ≡ Some x → of_origin x.origin ≡ Some i
global_numbered i (descs.Global ty) x e = some_to (λ (t : Global). of_origin t.origin) _ x e
global_numbered i (descs.Function ty) x e = absurd (cc)
global_numbered i (descs.Table ty) x e = absurd (cc)
global_numbered i (descs.Memory l) x e = absurd (cc)
global_numbered i (descs.Tag ty) x e = absurd (cc)

imported_body : (i : ℕ) (d : RawDesc) (f : Function) → imported_function i d ≡ Some f → (p : ℕ) × (f.kind ≡ ImportedFunction p)
imported_body i (descs.Function ty) f e = (i, some_to (λ (g : Function). g.kind) (record { ty = ty; kind = ImportedFunction i }) f e)
imported_body i (descs.Table ty) f e = absurd (cc)
imported_body i (descs.Memory l) f e = absurd (cc)
imported_body i (descs.Global ty) f e = absurd (cc)
imported_body i (descs.Tag ty) f e = absurd (cc)

-- ---- the module of sections

item_no_type : (before : List entries.Import) (d : RawDesc) → (item_after before d).0 ≡ Types → ⊥
item_no_type before (descs.Function ty) e = cc
item_no_type before (descs.Table ty) e = cc
item_no_type before (descs.Memory l) e = cc
item_no_type before (descs.Global ty) e = cc
item_no_type before (descs.Tag ty) e = cc

imports_no_type : (before xs : List entries.Import) (i : ℕ) (x : Import) → slice_get (imports_after before xs) i ≡ Some x → x.item.0 ≡ Types → ⊥
imports_no_type before [] i x e is = absurd (cc)
imports_no_type before (y ∷ xs) zero x e is = item_no_type before y.desc (ap (λ (z : Import). z.item.0) (some_same (record { module_name = y.from; name = y.name; item = item_after before y.desc }) x e) ∙ is)
imports_no_type before (y ∷ xs) (suc i) x e is = imports_no_type (before ++ y ∷ []) xs i x e is

passes_there : {X : Type 0} (test : X → Bool) (o : Option X) → IsTrue (passes test o) → IsSome o
passes_there test (Some x) h = refl
passes_there test None h = let none : false ≡ true = h in absurd (cc)

module _ (c : Config) (s : wire.Module) (bodies : List Said) (fields : List ProducerField) (namings : List Named) where
  abbrev m : Abstract
  m = module_of s bodies fields namings

  module _ {X : Type 0} (origin : X → Origin) (get : ℕ → RawDesc → Option X) (numbered : (i : ℕ) (d : RawDesc) (x : X) → get i d ≡ Some x → of_origin (origin x) ≡ Some i) (ys : List X) (none : AllNone (map (λ x. of_origin (origin x)) ys)) where
    ordered : (i j : ℕ) → IsSome (slice_get (imported get 0 s.imports ++ ys) i) → IsSome (slice_get (imported get 0 s.imports ++ ys) j) → i < j → BothAnd (OriginsInOrder i j) (option_map origin (slice_get (imported get 0 s.imports ++ ys) i)) (option_map origin (slice_get (imported get 0 s.imports ++ ys) j))
    ordered i j hi hj lt =
        let x = some_of (slice_get (imported get 0 s.imports ++ ys) i) hi in
        let y = some_of (slice_get (imported get 0 s.imports ++ ys) j) hj in
        at_both origin (OriginsInOrder i j) (slice_get (imported get 0 s.imports ++ ys) i) (slice_get (imported get 0 s.imports ++ ys) j) x.0 y.0 x.1 y.1
        (origins_in_order i j lt (origin x.0) (origin y.0) (imported_order (λ x. of_origin (origin x)) get numbered s.imports ys none i j lt x.0 y.0 x.1 y.1))

  functions_ordered : (i j : ℕ) → IsSome (m.functions i) → IsSome (m.functions j) → ByIndex m Functions i j → ByImport m Functions i j
  functions_ordered i j hi hj h =
      let x = some_of (m.functions i) hi in
      let y = some_of (m.functions j) hj in
      at_both (λ (f : Function). f.kind) (FunctionsByImport i j) (m.functions i) (m.functions j) x.0 y.0 x.1 y.1
      (kinds_in_order i j x.0.kind y.0.kind
      (λ lt. imported_order (λ (f : Function). of_kind f.kind) imported_function function_numbered s.imports (map (function_with s) (zip s.functions bodies)) (all_made (λ (f : Function). of_kind f.kind) (function_with s) (λ f. refl) (zip s.functions bodies)) i j lt x.0 y.0 x.1 y.1)
      (both_at (λ (f : Function). f.kind) (FunctionsByIndex i j) (m.functions i) (m.functions j) x.0 y.0 x.1 y.1 h))

  all_ordered : (space : Space) → (space ≡ Types → ⊥) → (i j : ℕ) → IsLive m (space, i) → IsLive m (space, j) → ByIndex m space i j → ByImport m space i j
  all_ordered Types other i j hi hj h = absurd (other refl)
  all_ordered Functions other i j hi hj h = functions_ordered i j hi hj h
  all_ordered Tables other i j hi hj h = ordered (λ (t : Table). t.origin) imported_table table_numbered (map table_of s.tables) (all_made (λ (t : Table). of_origin t.origin) table_of (λ t. refl) s.tables) i j hi hj h
  all_ordered Memories other i j hi hj h = ordered (λ (t : Memory). t.origin) imported_memory memory_numbered (map memory_of s.memories) (all_made (λ (t : Memory). of_origin t.origin) memory_of (λ t. refl) s.memories) i j hi hj h
  all_ordered Tags other i j hi hj h = ordered (λ (t : Tag). t.origin) imported_tag tag_numbered (map tag_of s.tags) (all_made (λ (t : Tag). of_origin t.origin) tag_of (λ t. refl) s.tags) i j hi hj h
  all_ordered Globals other i j hi hj h = ordered (λ (t : Global). t.origin) imported_global global_numbered (map global_of s.globals) (all_made (λ (t : Global). of_origin t.origin) global_of (λ t. refl) s.globals) i j hi hj h
  all_ordered Elements other i j hi hj h = h
  all_ordered DataSegments other i j hi hj h = h

  sets_there : (x y : Item) → KeepsToo m x y → IsLive m y
  sets_there (Functions, f) y (t, at, is) = absurd (Contains-none t at)
  sets_there (Tables, t) y (e, held, is) = subst (λ (z : Item). IsLive m z) (sym is) (passes_there (λ (x : Element). is_on_table t x.kind) (m.elements e) held)
  sets_there (Memories, i) y (d, held, is) = subst (λ (z : Item). IsLive m z) (sym is) (passes_there (λ (x : DataSegment). is_on_memory i x.kind) (m.data_segments d) held)
  sets_there (Types, i) y none = absurd none
  sets_there (Tags, i) y none = absurd none
  sets_there (Globals, i) y none = absurd none
  sets_there (Elements, i) y none = absurd none
  sets_there (DataSegments, i) y none = absurd none

  customs_plain : (x : Custom) → Contains m.customs x → (a b : Indices) → x.data_under a ≡ x.data_under b
  customs_plain x at a b =
      let found = from_map custom_of x (filter (λ (c : wire.Custom). not (is_apart c.name)) s.customs) at in
      subst (λ (y : Custom). y.data_under a ≡ y.data_under b) found.2 refl

  imported_catch : (i : ℕ) (xs : List entries.Import) → AllCatches c s (imported imported_function i xs)
  imported_catch i [] = tt
  imported_catch i (x ∷ xs) = all_append c s (option_to_list (imported_function i x.desc)) (imported imported_function (i + 1) xs) (one (imported_function i x.desc) (imported_body i x.desc)) (imported_catch (i + 1) xs) where
    one : (o : Option Function) → ((f : Function) → o ≡ Some f → (p : ℕ) × (f.kind ≡ ImportedFunction p)) → AllCatches c s (option_to_list o)
    one None h = tt
    one (Some f) h = ((λ b e. let is = h f refl in let none : body_of_kind (ImportedFunction is.0) ≡ Some b = subst (λ k. body_of_kind k ≡ Some b) is.1 e in absurd (cc)), tt)

  plain_of : AllCatches c s (map (function_with s) (zip s.functions bodies)) → IsPlain m
  plain_of local = record {
    in_order = all_ordered;
    imports = λ i x at is. imports_no_type [] s.imports i x at is;
    customs = customs_plain;
    catches = λ f b at. catches_at c s (imported imported_function 0 s.imports ++ map (function_with s) (zip s.functions bodies))
        (all_append c s (imported imported_function 0 s.imports) (map (function_with s) (zip s.functions bodies)) (imported_catch 0 s.imports) local) f b at;
    handler_types = λ f. refl;
    section_roots = refl;
    sets = sets_there;
  }

pub read_is_plain : (c : Config) (bytes : List ℕ) (m : Abstract) → ReadsModule c bytes m → IsPlain m
read_is_plain c bytes m read = subst IsPlain (sym read.is)
    (plain_of c read.sections read.bodies _ _
    (local_catches c read.sections read.sections.functions read.bodies (all_said c read.sections (zip read.sections.functions read.sections.bodies) read.bodies read.read)))

-- ---- the law of the headline

pub steps_come_out_lem : (c : Config) (bytes : List ℕ) (m u n : Abstract) → ReadsModule c bytes m → Holds m → BringsTo c m u → IsWrittenAs c u n → Out c m n
steps_come_out_lem c bytes m u n reads holds brings written = plain_steps_come_out c m u n (read_is_plain c bytes m reads) holds brings written
