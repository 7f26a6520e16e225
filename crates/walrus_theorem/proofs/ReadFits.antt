-- What bytes read as has counts, limits and numbers of locals that 32 bits hold.
use Rattle.std.proofs.Common.{◌≡◌, ℕ, zero, suc, ◌+◌, ◌≤◌, ◌<◌, ◌^◌, false, List, [], ◌∷◌, ◌++◌, length, map, zip, refl, sym, ap, subst, arith, inl, inr, length-append}
use Rattle.std.specs.Prelude.{Option, Some, None, IsSome, Contains, slice_get, option_to_list}
use Rattle.std.specs.List.{AllByRecursion, AllZip, range_with_len}
use Rattle.std.proofs.lemmas.List.{length-map}
use Rattle.std.proofs.lemmas.List.FromFn.{length-range_with_len}
use Rattle.wasm_forms.specs.Grammar.{◌then◌, U32}
use Rattle.wasm_forms.specs.Types.{value_type}
use Rattle.wasm_entries.specs.declared.record.RawLimits.{RawLimits}
use Rattle.wasm_entries.specs.declared.record.RawDesc.{RawDesc}
use Rattle.wasm_entries.specs.declared.record.RawDesc.TheVariants as descs
use Rattle.wasm_entries.specs.Record as entries
use Rattle.wasm_entries.specs.Spelling.{DescFits}
use Rattle.wasm_entries.specs.TypeForms.{memory_type}
use Rattle.wasm_entries.specs.TypeSpelling.{FitsWide, MaximumFits, LimitsFit}
use Rattle.wasm_entries.specs.Forms.{import_form, table_form}
use Rattle.wasm_frames.specs.Record as wire
use Rattle.wasm_frames.specs.Frames.{AreBodies}
use Rattle.wasm_operators.specs.declared.operator.RawArg.{RawArg}
use Rattle.wasm_operators.specs.declared.operator.RawArg.TheVariants as raw
use Rattle.wasm_operators.specs.Operators as wire_operators
use Rattle.wasm_operators.specs.Forms.{operator}
use Rattle.wasm_payloads.specs.Names.{Named}
use Rattle.walrus_base.specs.Operators.{Space, Types, Functions, Tables, Memories, Tags, Globals, Elements, DataSegments, locals_of}
use Rattle.walrus_base.specs.TypeDef.{TypeDef}
use Rattle.walrus_code.specs.FromRaw.{arg_of, ops_of}
use Rattle.walrus_bodies.specs.Body.{declarations}
use Rattle.walrus_model.specs.BlockHandlers.{params_of}
use Rattle.walrus_model.specs.ReadFunction.{locals_from}
use Rattle.walrus_model.specs.Groups.{types_from}
use Rattle.walrus_model.specs.Abstract.{Abstract, Body, FunctionKind, LocalFunction, Function, Table, Memory, ProducerField}
use Rattle.walrus_model.specs.Config.{Config}
use Rattle.walrus_model.specs.Live.{Has}
use Rattle.walrus_model.specs.Names.{body_of, body_of_kind, body_of_function}
use Rattle.walrus_model.specs.Reads.{declared}
use Rattle.walrus_model.specs.Sections.{Said, body_with, limits_of, types_of, imported, imported_function, imported_table, imported_memory, imported_tag, imported_global, function_with, table_of, memory_of, tag_of, global_of, element_of, data_of}
use Rattle.walrus_model.specs.Refers.{IsUsed}
use Rattle.walrus_theorem.specs.Headline.{ReadsBody}
use Rattle.walrus_theorem.specs.OneRun.{Fits, ReadFits}
use Rattle.walrus_theorem.specs.Refused.{PassesLimit}
use Rattle.walrus_theorem.specs.Sections.{module_of}
use Rattle.walrus_model.proofs.FormLimits.{row_all, memory_fits, table_fits, import_fits, DefTakesFew, types_take_few, types_long}
use Rattle.walrus_model.proofs.LeastLengths.{number_long, vector_long, few_imports, few_tables, few_memories, few_tags, few_globals, few_elements, few_data}
use Rattle.wasm_frames.proofs.SectionRows.{Rows, rows}
use Rattle.walrus_theorem.proofs.TextShaped.{all_at, Fine, functions_fine}
use Rattle.wasm_operators.proofs.TextsStand.{ArgGood, operator_good}
use Rattle.walrus_theorem.proofs.UsedFound.{ArgHolds, OpsHold, ops_found}
use Rattle.walrus_bodies.proofs.LawNamed.{each_append as all_append}

-- ---- counts

pub some_there : {X : Type 0} (xs : List X) (i : ℕ) → IsSome (slice_get xs i) → i < length xs
some_there [] i h = absurd cc
some_there (x ∷ xs) zero h = omega arith
some_there (x ∷ xs) (suc i) h = omega (arith, some_there xs i h)

pub one_long : {X : Type 0} (o : Option X) → length (option_to_list o) ≤ 1
one_long None = omega arith
one_long (Some x) = omega arith

imported_long : {X : Type 0} (get : ℕ → RawDesc → Option X) (i : ℕ) (xs : List entries.Import) → length (imported get i xs) ≤ length xs
imported_long get i [] = omega arith
imported_long get i (x ∷ xs) = omega (arith, length-append (option_to_list (get i x.desc)) (imported get (i + 1) xs), one_long (get i x.desc), imported_long get (i + 1) xs)

both_few : {X Y : Type 0} (get : ℕ → RawDesc → Option X) (is : List entries.Import) (make : Y → X) (ys : List Y) (i top : ℕ) → IsSome (slice_get (imported get 0 is ++ map make ys) i) → length is + length is < top → length ys + length ys < top → i + 1 < top
both_few get is make ys i top there a b =
    omega (arith, some_there (imported get 0 is ++ map make ys) i there, length-append (imported get 0 is) (map make ys), length-map ys make, imported_long get 0 is, a, b)

own_few : {X Y : Type 0} (make : Y → X) (ys : List Y) (i top : ℕ) → IsSome (slice_get (map make ys) i) → length ys < top → i + 1 < top
own_few make ys i top there a = omega (arith, some_there (map make ys) i there, length-map ys make, a)

-- ---- bodies: each takes two bytes or more

pub zip_short : {A B : Type 0} (as_ : List A) (bs : List B) → length (zip as_ bs) ≤ length bs
zip_short [] [] = omega arith
zip_short [] (b ∷ bs) = omega arith
zip_short (a ∷ as_) [] = omega arith
zip_short (a ∷ as_) (b ∷ bs) = omega (arith, zip_short as_ bs)

-- ---- what holds of each body holds of each function, since an imported one has none

module _ (Q : Body → Type 0) where
  abbrev pub OnBody : Function → Type 0
  OnBody g = (b : Body) → g.kind ≡ LocalFunction b → Q b

  import_on : (i : ℕ) (d : RawDesc) → AllByRecursion OnBody (option_to_list (imported_function i d))
  import_on i (descs.Function ty) = ((λ b e. absurd cc), tt)
  import_on i (descs.Table ty) = tt
  import_on i (descs.Memory l) = tt
  import_on i (descs.Global ty) = tt
  import_on i (descs.Tag ty) = tt

  pub imports_on : (i : ℕ) (xs : List entries.Import) → AllByRecursion OnBody (imported imported_function i xs)
  imports_on i [] = tt
  imports_on i (x ∷ xs) = all_append OnBody (option_to_list (imported_function i x.desc)) (imported imported_function (i + 1) xs) (import_on i x.desc) (imports_on (i + 1) xs)

-- each used local has a small number
abbrev pub UsesSmall : Body → Type 0
UsesSmall b = (y : ℕ) → IsUsed b y → y < 2 ^ 32

-- ---- locals: their numbers are indices that were read

local_small : (x : RawArg) → ArgGood x → ArgHolds (λ n. n < 2 ^ 32) (arg_of x)
local_small (raw.Local n) h = h
local_small x h = tt

args_small : (xs : List RawArg) → AllByRecursion ArgGood xs → AllByRecursion (ArgHolds (λ n. n < 2 ^ 32)) (map arg_of xs)
args_small [] h = tt
args_small (x ∷ xs) h = (local_small x h.0, args_small xs h.1)

pub ops_small : (os : List wire_operators.Op) → AllByRecursion (λ (o : wire_operators.Op). AllByRecursion ArgGood o.args) os → OpsHold (λ n. n < 2 ^ 32) (ops_of os)
ops_small [] h = tt
ops_small (o ∷ os) h = (args_small o.args h.0, ops_small os h.1)

module _ (c : Config) (s : wire.Module) where
  body_long : (f : ℕ × wire.Body) (x : Said) → ReadsBody c s f x → 1 ≤ length f.1.bytes
  unfolding declarations
  body_long f x h = omega (arith, ap length h.parts, length-append h.front h.back, vector_long (U32 then value_type) h.front h.declared h.declares)

  bodies_long : (fs : List ℕ) (bs : List wire.Body) (said : List Said) (place : ℕ) (bytes : List ℕ) → AreBodies place bytes bs → AllZip (ReadsBody c s) (zip fs bs) said → length said + length said ≤ length bytes
  bodies_long [] [] [] place bytes are all = omega arith
  bodies_long [] [] (x ∷ xs) place bytes are all = absurd all
  bodies_long [] (b ∷ bs) [] place bytes are all = omega arith
  bodies_long [] (b ∷ bs) (x ∷ xs) place bytes are all = absurd all
  bodies_long (f ∷ fs) [] [] place bytes are all = omega arith
  bodies_long (f ∷ fs) [] (x ∷ xs) place bytes are all = absurd all
  bodies_long (f ∷ fs) (b ∷ bs) [] place bytes are all = absurd all
  bodies_long (f ∷ fs) (b ∷ bs) (x ∷ xs) place bytes are all =
      let one = are.1.1.1 in
      let first : 2 ≤ length are.0 = omega (arith, ap length one.spelled, length-append one.size b.bytes, number_long 5 (2 ^ 32) one.size (length b.bytes) one.sized, body_long (f, b) x all.0) in
      omega (arith, ap length are.1.1.0, length-append are.0 are.1.0, first, bodies_long fs bs xs (place + length are.0) are.1.0 are.1.1.2 all.1)

  range_at : (first count n x : ℕ) → slice_get (range_with_len first count) n ≡ Some x → x ≡ first + n
  range_at first zero n x e = absurd cc
  range_at first (suc count) zero x e = let f : first ≡ x = cc in omega (arith, f)
  range_at first (suc count) (suc n) x e = omega (arith, range_at (first + 1) count n x e)

  used_small : (f : ℕ × wire.Body) (x : Said) → ReadsBody c s f x → (y : ℕ) → Contains (locals_of x.1) y → y < 2 ^ 32
  used_small f x h y at =
      let count : ℕ = length (params_of (types_of s f.0)) + length x.0 in
      let good = row_all operator (λ (o : wire_operators.Op). AllByRecursion ArgGood o.args) operator_good h.back h.operators.texts h.operators.spelled in
      let found = ops_found (declared s) (locals_from 0 count) (λ n. n < 2 ^ 32) (ops_of h.operators.texts) x.1 (ops_small h.operators.texts good) h.operators.named y at in
      omega (arith, range_at 0 count found.0 y found.1.1, found.1.0)

  same_body : (b d : Body) → LocalFunction b ≡ LocalFunction d → b ≡ d
  same_body b d e = cc

  bodies_use : (fs : List ℕ) (bs : List wire.Body) (said : List Said) → AllZip (ReadsBody c s) (zip fs bs) said → AllByRecursion (OnBody UsesSmall) (map (function_with s) (zip fs said))
  bodies_use [] [] [] all = tt
  bodies_use [] [] (x ∷ xs) all = absurd all
  bodies_use [] (b ∷ bs) [] all = tt
  bodies_use [] (b ∷ bs) (x ∷ xs) all = absurd all
  bodies_use (f ∷ fs) [] [] all = tt
  bodies_use (f ∷ fs) [] (x ∷ xs) all = absurd all
  bodies_use (f ∷ fs) (b ∷ bs) [] all = absurd all
  bodies_use (f ∷ fs) (b ∷ bs) (x ∷ xs) all =
      ((λ d e y used. used_small (f, b) x all.0 y (subst (λ z. IsUsed z y) (sym (same_body (body_with (params_of (types_of s f)) x) d e)) used)), bodies_use fs bs xs all.1)

-- ---- limits

pub no_pass : (l : RawLimits) → LimitsFit l → PassesLimit (limits_of l) → ⊥
no_pass l fit (narrow, inl big) = let lt : l.minimum < 2 ^ 32 = subst (λ w. FitsWide w l.minimum) narrow fit.0 in omega (arith, lt, big)
no_pass l fit (narrow, inr (n, (is, big))) = let lt : n < 2 ^ 32 = subst (MaximumFits false) is (subst (λ w. MaximumFits w l.maximum) narrow fit.1) in omega (arith, lt, big)

TableFine : Table → Type 0
TableFine t = PassesLimit t.ty.limits → ⊥

MemoryFine : Memory → Type 0
MemoryFine t = PassesLimit t.ty.limits → ⊥

abbrev ImportFine : entries.Import → Type 0
ImportFine x = DescFits x.desc

table_in : (i : ℕ) (d : RawDesc) → DescFits d → AllByRecursion TableFine (option_to_list (imported_table i d))
unfolding TableFine
table_in i (descs.Table ty) h = ((λ pass. no_pass ty.limits h pass), tt)
table_in i (descs.Function ty) h = tt
table_in i (descs.Memory l) h = tt
table_in i (descs.Global ty) h = tt
table_in i (descs.Tag ty) h = tt

memory_in : (i : ℕ) (d : RawDesc) → DescFits d → AllByRecursion MemoryFine (option_to_list (imported_memory i d))
unfolding MemoryFine
memory_in i (descs.Memory l) h = ((λ pass. no_pass l h pass), tt)
memory_in i (descs.Function ty) h = tt
memory_in i (descs.Table ty) h = tt
memory_in i (descs.Global ty) h = tt
memory_in i (descs.Tag ty) h = tt

imports_in : {X : Type 0} (P : X → Type 0) (get : ℕ → RawDesc → Option X) → ((i : ℕ) (d : RawDesc) → DescFits d → AllByRecursion P (option_to_list (get i d))) → (i : ℕ) (xs : List entries.Import) → AllByRecursion ImportFine xs → AllByRecursion P (imported get i xs)
imports_in P get law i [] h = tt
imports_in P get law i (x ∷ xs) h = all_append P (option_to_list (get i x.desc)) (imported get (i + 1) xs) (law i x.desc h.0) (imports_in P get law (i + 1) xs h.1)

tables_in : (ts : List entries.Table) → AllByRecursion (λ (t : entries.Table). LimitsFit t.ty.limits) ts → AllByRecursion TableFine (map table_of ts)
unfolding TableFine
tables_in [] h = tt
tables_in (t ∷ ts) h = ((λ pass. no_pass t.ty.limits h.0 pass), tables_in ts h.1)

memories_in : (ls : List RawLimits) → AllByRecursion LimitsFit ls → AllByRecursion MemoryFine (map memory_of ls)
unfolding MemoryFine
memories_in [] h = tt
memories_in (l ∷ ls) h = ((λ pass. no_pass l h.0 pass), memories_in ls h.1)

-- ---- parameters

params_few : (o : Option TypeDef) → ((d : TypeDef) → o ≡ Some d → DefTakesFew d) → length (params_of o) < 2 ^ 32
params_few None h = omega arith
params_few (Some d) h = h d refl

-- ---- all of it

kind_body : (k : FunctionKind) (b : Body) → body_of_kind k ≡ Some b → k ≡ LocalFunction b
kind_body (LocalFunction d) b e = let f : d ≡ b = cc in ap LocalFunction f
kind_body k b e = absurd cc

pub function_body : (o : Option Function) (b : Body) → body_of_function o ≡ Some b → (g : Function) × ((o ≡ Some g) × (g.kind ≡ LocalFunction b))
function_body None b e = absurd cc
function_body (Some g) b e = (g, (refl, kind_body g.kind b e))

module _ (s : wire.Module) (r : Rows s) (said : List Said) (few_said : length said + length said < 2 ^ 32) (uses : AllByRecursion (OnBody UsesSmall) (map (function_with s) (zip s.functions said))) (fields : List ProducerField) (namings : List Named) where
  abbrev the : Abstract
  the = module_of s said fields namings

  few_zipped : length (zip s.functions said) + length (zip s.functions said) < 2 ^ 32
  few_zipped = omega (arith, zip_short s.functions said, few_said)

  items : (space : Space) (i : ℕ) → Has the space i → i + 1 < 2 ^ 32
  items Types i h = omega (arith, some_there (types_from 0 s.types) i h, types_long 0 s.types r.types.0 r.types.1.1, r.types.1.0)
  items Functions i h = both_few imported_function s.imports (function_with s) (zip s.functions said) i (2 ^ 32) h (few_imports s.imports r.imports) few_zipped
  items Tables i h = both_few imported_table s.imports table_of s.tables i (2 ^ 32) h (few_imports s.imports r.imports) (few_tables s.tables r.tables)
  items Memories i h = both_few imported_memory s.imports memory_of s.memories i (2 ^ 32) h (few_imports s.imports r.imports) (few_memories s.memories r.memories)
  items Tags i h = both_few imported_tag s.imports tag_of s.tags i (2 ^ 32) h (few_imports s.imports r.imports) (few_tags s.tags r.tags)
  items Globals i h = both_few imported_global s.imports global_of s.globals i (2 ^ 32) h (few_imports s.imports r.imports) (few_globals s.globals r.globals)
  items Elements i h = own_few element_of s.elements i (2 ^ 32) h (few_elements s.elements r.elements)
  items DataSegments i h = own_few data_of s.data_segments i (2 ^ 32) h (few_data s.data_segments r.data_segments)

  functions : List Function
  functions = imported imported_function 0 s.imports ++ map (function_with s) (zip s.functions said)

  function_at : (f : ℕ) (b : Body) → body_of the f ≡ Some b → (g : Function) × ((slice_get functions f ≡ Some g) × (g.kind ≡ LocalFunction b))
  unfolding functions
  function_at f b e = function_body (slice_get functions f) b e

  parameters : (f : ℕ) (b : Body) → body_of the f ≡ Some b → length b.parameters ≤ 2 ^ 32
  unfolding functions
  parameters f b e =
      let g = function_at f b e in
      let fine = all_at (Fine s) functions f g.0 (functions_fine s said fields namings) g.1.0 b g.1.1 in
      let few = params_few (types_of s g.0.ty) (λ d is. all_at DefTakesFew (types_from 0 s.types) g.0.ty d (types_take_few r.types.0 s.types r.types.1.1) is) in
      omega (arith, ap (λ (d : Body). length d.parameters) fine.1, length-range_with_len 0 (length (params_of (types_of s g.0.ty))), few)

  used : (f : ℕ) (b : Body) (x : ℕ) → body_of the f ≡ Some b → IsUsed b x → x < 2 ^ 32
  unfolding functions
  used f b x e =
      let g = function_at f b e in
      all_at (OnBody UsesSmall) functions f g.0
      (all_append (OnBody UsesSmall) (imported imported_function 0 s.imports) (map (function_with s) (zip s.functions said)) (imports_on UsesSmall 0 s.imports) uses)
      g.1.0 b g.1.1 x

  imports_fine : AllByRecursion ImportFine s.imports
  imports_fine = row_all import_form ImportFine import_fits r.imports.0 s.imports r.imports.1.1

  tables : (i : ℕ) (t : Table) → the.tables i ≡ Some t → PassesLimit t.ty.limits → ⊥
  unfolding TableFine
  tables i t e =
      all_at TableFine (imported imported_table 0 s.imports ++ map table_of s.tables) i t
      (all_append TableFine (imported imported_table 0 s.imports) (map table_of s.tables)
      (imports_in TableFine imported_table table_in 0 s.imports imports_fine)
      (tables_in s.tables (row_all table_form (λ (y : entries.Table). LimitsFit y.ty.limits) table_fits r.tables.0 s.tables r.tables.1.1))) e

  memories : (i : ℕ) (t : Memory) → the.memories i ≡ Some t → PassesLimit t.ty.limits → ⊥
  unfolding MemoryFine
  memories i t e =
      all_at MemoryFine (imported imported_memory 0 s.imports ++ map memory_of s.memories) i t
      (all_append MemoryFine (imported imported_memory 0 s.imports) (map memory_of s.memories)
      (imports_in MemoryFine imported_memory memory_in 0 s.imports imports_fine)
      (memories_in s.memories (row_all memory_type LimitsFit memory_fits r.memories.0 s.memories r.memories.1.1))) e

  pub all_fits : Fits the
  all_fits = record { items = items; parameters = parameters; used = used; tables = tables; memories = memories }

pub read_fits : ReadFits
read_fits c bytes n h =
    let s = h.sections in
    let r = rows bytes s h.framed h.in_order in
    let few : length h.bodies + length h.bodies < 2 ^ 32 = omega (arith, bodies_long c s s.functions s.bodies h.bodies r.bodies.0 r.bodies.1.0 r.bodies.1.1.1 h.read, r.bodies.1.1.0) in
    subst Fits (sym h.is) (all_fits s r h.bodies few (bodies_use c s s.functions s.bodies h.bodies h.read) _ _)
