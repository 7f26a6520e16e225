-- What was read can be written: no exact heap type, and no empty constant expression.
use Rattle.std.proofs.Common.{◌≡◌, ◌≢◌, ℕ, ◌+◌, true, false, List, [], ◌∷◌, ◌++◌, map, refl, sym, subst}
use Rattle.std.specs.Prelude.{Option, Some, None, flat_map, option_map, option_to_list}
use Rattle.std.specs.List.{AllByRecursion}
use Rattle.wasm_entries.specs.declared.record.RawConst.{RawConst}
use Rattle.wasm_entries.specs.declared.record.RawConst.TheVariants as ops
use Rattle.wasm_entries.specs.declared.record.RawDesc.{RawDesc}
use Rattle.wasm_entries.specs.declared.record.RawDesc.TheVariants as descs
use Rattle.wasm_entries.specs.Record as entries
use Rattle.wasm_frames.specs.Record as wire
use Rattle.wasm_payloads.specs.Names.{Named}
use Rattle.walrus_base.specs.Types.{IsNotExact, val_heaps}
use Rattle.walrus_base.specs.Operators.{Byte, Op}
use Rattle.walrus_model.specs.Groups.{types_from}
use Rattle.walrus_model.specs.Abstract.{Abstract, TypeDef, Table, Global, Element, DataSegment, ProducerField}
use Rattle.walrus_model.specs.Config.{Config}
use Rattle.walrus_model.specs.Sections.{Said, imported, imported_table, imported_global, table_of, global_of, element_of, data_of}
use Rattle.walrus_model.specs.WellMade.{arg_heaps, op_heaps, option_consts, element_kind_consts, element_item_consts, data_kind_consts, element_item_heaps}
use Rattle.walrus_model.specs.Constants.{const_of, consts_of}
use Rattle.walrus_theorem.specs.Headline.{ReadsModule}
use Rattle.walrus_theorem.specs.Sections.{module_of}
use Rattle.walrus_model.proofs.FilledConsts.{Filled, TableFilled, GlobalFilled, ElementFilled, SegmentFilled, AllFilled, all_filled}
use Rattle.walrus_model.proofs.PlainTypes.{Plain, plain_append, heap_plain, val_plain, TypePlain, types_plain}
use Rattle.walrus_theorem.proofs.TextShaped.{all_at}
use Rattle.walrus_bodies.proofs.LawNamed.{each_append as all_append}

abbrev pub OpsFine : List Op → Type 0
OpsFine ops = (ops ≢ []) × Plain (flat_map op_heaps ops)

abbrev pub ConstsFine : List (List Op) → Type 0
ConstsFine es = AllByRecursion OpsFine es

bytes_plain : (bytes : List ℕ) → Plain (flat_map arg_heaps (map Byte bytes))
bytes_plain [] = tt
bytes_plain (b ∷ bytes) = bytes_plain bytes

const_plain : (k : RawConst) → Plain (op_heaps (const_of k))
const_plain (ops.GlobalGet g) = tt
const_plain (ops.I32Const z) = tt
const_plain (ops.I64Const z) = tt
const_plain (ops.F32Const bits) = tt
const_plain (ops.F64Const bits) = tt
const_plain (ops.V128Const bytes) = bytes_plain bytes
const_plain ops.I32Add = tt
const_plain ops.I32Sub = tt
const_plain ops.I32Mul = tt
const_plain ops.I64Add = tt
const_plain ops.I64Sub = tt
const_plain ops.I64Mul = tt
const_plain (ops.RefNull h) = (heap_plain h, tt)
const_plain (ops.RefFunc f) = tt
const_plain (ops.StructNew t) = tt
const_plain (ops.StructNewDefault t) = tt
const_plain (ops.ArrayNew t) = tt
const_plain (ops.ArrayNewDefault t) = tt
const_plain (ops.ArrayNewFixed t n) = tt
const_plain ops.AnyConvertExtern = tt
const_plain ops.ExternConvertAny = tt
const_plain ops.RefI31 = tt

consts_plain : (e : List RawConst) → Plain (flat_map op_heaps (consts_of e))
consts_plain [] = tt
consts_plain (k ∷ e) = plain_append (op_heaps (const_of k)) (flat_map op_heaps (consts_of e)) (const_plain k) (consts_plain e)

fine : (e : List RawConst) → Filled e → OpsFine (consts_of e)
fine [] h = let no : false ≡ true = h in absurd (cc)
fine (k ∷ e) h = ((λ none. cc), consts_plain (k ∷ e))

all_mapped : {X Y : Type 0} (Q : X → Type 0) (P : Y → Type 0) (f : X → Y) → ((x : X) → Q x → P (f x)) → (xs : List X) → AllByRecursion Q xs → AllByRecursion P (map f xs)
all_mapped Q P f law [] h = tt
all_mapped Q P f law (x ∷ xs) h = (law x h.0, all_mapped Q P f law xs h.1)

all_imported : {X : Type 0} (P : X → Type 0) (get : ℕ → RawDesc → Option X) → ((i : ℕ) (d : RawDesc) → AllByRecursion P (option_to_list (get i d))) → (i : ℕ) (xs : List entries.Import) → AllByRecursion P (imported get i xs)
all_imported P get law i [] = tt
all_imported P get law i (x ∷ xs) = all_append P (option_to_list (get i x.desc)) (imported get (i + 1) xs) (law i x.desc) (all_imported P get law (i + 1) xs)

-- ---- item by item

abbrev pub TableFine : Table → Type 0
TableFine t = IsNotExact (t.ty.element.heap) × ConstsFine (option_consts t.initialiser)

abbrev pub GlobalFine : Global → Type 0
GlobalFine g = Plain (val_heaps g.ty.value) × ConstsFine (option_consts g.initialiser)

abbrev pub ElementFine : Element → Type 0
ElementFine e = Plain (element_item_heaps e.items) × ConstsFine (element_kind_consts e.kind ++ element_item_consts e.items)

abbrev pub DataFine : DataSegment → Type 0
DataFine d = ConstsFine (data_kind_consts d.kind)

table_by : (t : entries.Table) (o : Option entries.Expression) → t.initial ≡ o → TableFilled t → ConstsFine (option_consts (option_map consts_of o))
table_by t None e h = tt
table_by t (Some x) e h = (fine x (subst (λ (o : Option entries.Expression). TableFilled (record t { initial = o })) e h), tt)

imported_tables : (i : ℕ) (d : RawDesc) → AllByRecursion TableFine (option_to_list (imported_table i d))
imported_tables i (descs.Table ty) = ((heap_plain ty.element.heap, tt), tt)
imported_tables i (descs.Function ty) = tt
imported_tables i (descs.Memory l) = tt
imported_tables i (descs.Global ty) = tt
imported_tables i (descs.Tag ty) = tt

imported_globals : (i : ℕ) (d : RawDesc) → AllByRecursion GlobalFine (option_to_list (imported_global i d))
imported_globals i (descs.Global ty) = ((val_plain ty.value, tt), tt)
imported_globals i (descs.Function ty) = tt
imported_globals i (descs.Memory l) = tt
imported_globals i (descs.Table ty) = tt
imported_globals i (descs.Tag ty) = tt

element_by : (m : entries.ElementMode) (k : entries.Items) → ElementFilled (record { mode = m; items = k }) → ElementFine (element_of (record { mode = m; items = k }))
element_by (entries.ActiveElements table offset) (entries.Functions fs) h = (tt, (fine offset h.0, tt))
element_by (entries.ActiveElements table offset) (entries.Expressions ty es) h = ((heap_plain ty.heap, tt), (fine offset h.0, all_mapped Filled OpsFine consts_of fine es h.1))
element_by entries.PassiveElements (entries.Functions fs) h = (tt, tt)
element_by entries.PassiveElements (entries.Expressions ty es) h = ((heap_plain ty.heap, tt), all_mapped Filled OpsFine consts_of fine es h.1)
element_by entries.DeclaredElements (entries.Functions fs) h = (tt, tt)
element_by entries.DeclaredElements (entries.Expressions ty es) h = ((heap_plain ty.heap, tt), all_mapped Filled OpsFine consts_of fine es h.1)

data_by : (m : entries.DataMode) (bytes : List ℕ) → SegmentFilled (record { mode = m; bytes = bytes }) → DataFine (data_of (record { mode = m; bytes = bytes }))
data_by (entries.ActiveData memory offset) bytes h = (fine offset h, tt)
data_by entries.PassiveData bytes h = tt

-- ---- the module

pub record AllFine (m : Abstract) : Type 0 where
  pub types : (i : ℕ) (x : TypeDef) → m.types i ≡ Some x → TypePlain x
  pub tables : (i : ℕ) (x : Table) → m.tables i ≡ Some x → TableFine x
  pub globals : (i : ℕ) (x : Global) → m.globals i ≡ Some x → GlobalFine x
  pub elements : (i : ℕ) (x : Element) → m.elements i ≡ Some x → ElementFine x
  pub data_segments : (i : ℕ) (x : DataSegment) → m.data_segments i ≡ Some x → DataFine x

module_fine : (s : wire.Module) (bodies : List Said) (fields : List ProducerField) (namings : List Named) → AllFilled s → AllFine (module_of s bodies fields namings)
module_fine s bodies fields namings h = record {
  types = λ i x at. all_at TypePlain (types_from 0 s.types) i x (types_plain 0 s.types) at;
  tables = λ i x at. all_at TableFine (imported imported_table 0 s.imports ++ map table_of s.tables) i x
      (all_append TableFine (imported imported_table 0 s.imports) (map table_of s.tables) (all_imported TableFine imported_table imported_tables 0 s.imports)
      (all_mapped TableFilled TableFine table_of (λ t f. (heap_plain t.ty.element.heap, table_by t t.initial refl f)) s.tables h.tables)) at;
  globals = λ i x at. all_at GlobalFine (imported imported_global 0 s.imports ++ map global_of s.globals) i x
      (all_append GlobalFine (imported imported_global 0 s.imports) (map global_of s.globals) (all_imported GlobalFine imported_global imported_globals 0 s.imports)
      (all_mapped GlobalFilled GlobalFine global_of (λ g f. (val_plain g.ty.value, (fine g.initial f, tt))) s.globals h.globals)) at;
  elements = λ i x at. all_at ElementFine (map element_of s.elements) i x (all_mapped ElementFilled ElementFine element_of (λ e f. element_by e.mode e.items f) s.elements h.elements) at;
  data_segments = λ i x at. all_at DataFine (map data_of s.data_segments) i x (all_mapped SegmentFilled DataFine data_of (λ d f. data_by d.mode d.bytes f) s.data_segments h.data_segments) at;
}

pub read_fine : (c : Config) (bytes : List ℕ) (m : Abstract) → ReadsModule c bytes m → AllFine m
read_fine c bytes m read = subst AllFine (sym read.is) (module_fine read.sections read.bodies _ _ (all_filled bytes read.sections read.framed))
