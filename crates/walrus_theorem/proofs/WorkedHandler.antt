-- The steps, one by one, on a legacy handler: the type that it needs is added when the module is parsed, and is kept for the function.
use Rattle.std.proofs.Common.{◌≡◌, ◌≢◌, ℕ, zero, suc, ◌<◌, ◌≤◌, Bool, true, false, List, [], ◌∷◌, length, refl, sym, ap, ◌∙◌, subst, arith, inl, inr, ⊎_elim}
use Rattle.std.specs.Prelude.{Option, Some, None, IsSome, All, Contains, slice_get, codes, pos, ◌↔◌, ◌⊎◌}
use Rattle.std.specs.List.{AllByRecursion}
use Rattle.std.proofs.lemmas.List.Elements.{All-nil, All-cons}
use Rattle.std.proofs.lemmas.List.Kept.{AllPairs-cons}
use Rattle.wasm_forms.specs.Grammar.{Is, at}
use Rattle.wasm_forms.specs.Number.{number_at, leb_at, integer_at, sleb_at}
use Rattle.wasm_forms.specs.Spelling.{number_bytes, integer_bytes, groups}
use Rattle.wasm_forms.specs.Types.{ValueStands, value_from}
use Rattle.wasm_forms.specs.declared.types.RawVal.{RawVal}
use Rattle.wasm_forms.specs.declared.types.RawVal.TheVariants as vals
use Rattle.wasm_entries.specs.Record as entries
use Rattle.wasm_entries.specs.TypeSpelling.{GroupStands, SubStands}
use Rattle.wasm_entries.specs.Spelling.{ExportStands}
use Rattle.wasm_frames.specs.Frames as frames
use Rattle.wasm_frames.specs.Frames.{Section, gathered}
use Rattle.wasm_writer.specs.Spelling.{SectionStands, SectionFits}
use Rattle.wasm_operators.specs.declared.operator.RawArg.TheVariants as args
use Rattle.wasm_operators.specs.declared.operator.RawBlock.TheVariants as blocks
use Rattle.wasm_operators.specs.Forms.{arg_form, args_form, operator_of, operator_from, operator, block_type, block_from}
use Rattle.wasm_operators.specs.Table.{kinds_of}
use Rattle.walrus_base.specs.Types.{I32, CompType, Func, comp_names}
use Rattle.walrus_base.specs.Operators as items
use Rattle.walrus_base.specs.Operators.{Space, Types, Functions, Tables, Memories, Globals, Elements, DataSegments, Item, Index, S32, Block, OneResult, OfType, Op, names_of}
use Rattle.walrus_bodies.specs.Blocks.{are_nested}
use Rattle.walrus_bodies.specs.Features.{are_allowed}
use Rattle.walrus_model.specs.Abstract.{Abstract, Name, Subject, ProducerField, TypeDef, Function, Body, LocalFunction, Uninitialised, Defined, Tag, Export}
use Rattle.walrus_model.specs.Carried.{Carries, Carried}
use Rattle.walrus_model.specs.Config.{Config}
use Rattle.walrus_model.specs.Declared.{ref_func, IsRefInBody, IsRefInGlobal}
use Rattle.walrus_model.specs.Kept.{Kept}
use Rattle.walrus_model.specs.Live.{IsLive}
use Rattle.walrus_model.specs.Names.{body_of, body_of_function, body_of_kind, own_name, name_of, WritesNames}
use Rattle.walrus_model.specs.Order.{ByImport}
use Rattle.walrus_model.specs.Out.{IsTheSegment}
use Rattle.walrus_model.specs.Pipeline.{Collected}
use Rattle.walrus_model.specs.Producers.{produced, if_written}
use Rattle.walrus_model.specs.Reached.{Reached, root, step}
use Rattle.walrus_model.specs.Refers.{written_in, IsUsed}
use Rattle.walrus_model.specs.Renaming.{unchanged}
use Rattle.walrus_model.specs.Roots.{exported}
use Rattle.walrus_model.specs.Rules.{Holds, IsFunctionType}
use Rattle.walrus_model.specs.Same.{BothAnd, SameType}
use Rattle.walrus_model.specs.Sections.{body_with}
use Rattle.walrus_model.proofs.Examples.{only_one}
use Rattle.walrus_base.proofs.Lists.{Contains-head, Contains-tail, Contains-none, Contains-uncons}
use Rattle.walrus_theorem.specs.Chain.{ParsedAs, BringsTo, AndThose, NoFunction, NoMore, AndThen, TypeIsFoundOrAdded, Added, IsLoneTypeAt, alone, IsBehind, IsWholeBody}
use Rattle.walrus_theorem.specs.Examples.{the_end}
use Rattle.walrus_theorem.specs.Features.{features_of}
use Rattle.walrus_theorem.specs.Headline.{ReadsModule, ComesTo}
use Rattle.walrus_theorem.specs.Pinned.{IsWrittenAs}
use Rattle.walrus_theorem.specs.Spelling.{BodyStands, UsesAll, NeedsCount, IsSpelledAs}
use Rattle.walrus_theorem.specs.SpelledLaws.{BodiesNest}
use Rattle.walrus_theorem.specs.Text.{said, sections_of, said_by, unplaced}
use Rattle.walrus_theorem.specs.WorkedHandler.{takes_one, catches, catching_text, catching_bytes, handled_text, handled_bytes}
use Rattle.walrus_theorem.specs.WorkedSections.{ComesToAlone}
use Rattle.walrus_theorem.proofs.BodiesBack.{bodies_hold}
use Rattle.walrus_theorem.proofs.NeedsBase.{no_item, one_item, given, are_given, declares_none, NamesNone}
use Rattle.walrus_theorem.proofs.Runs.{comes_to, brings_itself}
use Rattle.walrus_theorem.proofs.SegmentStep.{carried_itself}
use Rattle.walrus_theorem.proofs.SpelledReads.{nested_reads}
use Rattle.walrus_theorem.proofs.WorkedParts.{runs, said_unnamed, no_name, is_text, all_one, f_export, function_section, functions_stand, functions_fit, export_section}
use Rattle.walrus_theorem.proofs.WorkedSingle.{name_list, last_of_list, nothing_there, all_of}
use Rattle.walrus_model.proofs.RisingLists.{less_not_itself as differ}
use Rattle.walrus_theorem.proofs.ReadExample.{reads_whole}

-- ---- the modules

abbrev from_one : TypeDef
from_one = alone 0 (Func (I32 ∷ []) [])

abbrev to_one : TypeDef
to_one = alone 1 (Func (I32 ∷ []) (I32 ∷ []))

abbrev the_ops : List Op
the_ops =
    record { op = 0x06; args = Block (OneResult I32) ∷ [] } ∷ record { op = 0x41; args = S32 (pos 0) ∷ [] }
    ∷ record { op = 0x07; args = Index (items.Tags, 0) ∷ [] } ∷ record { op = 0x0B; args = [] }
    ∷ record { op = 0x1A; args = [] } ∷ record { op = 0x0B; args = [] } ∷ []

abbrev the_body : Body
the_body = body_with (I32 ∷ []) ([], the_ops)

abbrev the_function : Function
the_function = record { ty = 0; kind = LocalFunction the_body }

abbrev the_export : Export
the_export = record { name = codes "f"; item = (Functions, 0) }

abbrev with_types : List TypeDef → List ProducerField → (Subject → List Name) → (ℕ → List ℕ) → Abstract
with_types types producers named handlers = record {
  types = slice_get types;
  imports = slice_get [];
  functions = slice_get (the_function ∷ []);
  tables = slice_get [];
  memories = slice_get [];
  tags = slice_get (record { origin = Defined; ty = 0 } ∷ []);
  globals = slice_get [];
  elements = slice_get [];
  data_segments = slice_get [];
  exports = the_export ∷ [];
  start = None;
  customs = [];
  producers = producers;
  named = named;
  table_segments = λ t e. false;
  memory_segments = λ t d. false;
  handler_types = handlers;
  section_roots = [];
}

abbrev module_read : Abstract
module_read = with_types (from_one ∷ []) [] (λ y. []) (λ f. [])

abbrev handlers : ℕ → List ℕ
handlers zero = 1 ∷ []
handlers (suc f) = []

abbrev in_memory : Config → Abstract
in_memory c = with_types (from_one ∷ to_one ∷ []) (produced []) (λ y. name_list (name_of c module_read y)) handlers

abbrev module_written : Abstract
module_written = with_types (from_one ∷ to_one ∷ []) [] (λ y. []) (λ f. [])

catching_says : said_by catching_text ≡ module_read
catching_says = said_unnamed (gathered (sections_of catching_text)) (said catches ∷ []) []

handled_says : said_by handled_text ≡ module_written
handled_says = said_unnamed (gathered (sections_of handled_text)) (said catches ∷ []) []

-- ---- the operators

try_read : Is operator (0x06 ∷ 0x7F ∷ []) (record { op = 0x06; args = args.Block (blocks.OneResult vals.I32) ∷ [] })
unfolding operator operator_from operator_of args_form arg_form kinds_of block_type block_from value_from
try_read = reads_whole operator (0x06 ∷ 0x7F ∷ []) (record { op = 0x06; args = args.Block (blocks.OneResult vals.I32) ∷ [] }) refl

const_read : Is operator (0x41 ∷ 0x00 ∷ []) (record { op = 0x41; args = args.S32 (pos 0) ∷ [] })
unfolding operator operator_from operator_of args_form arg_form kinds_of integer_at sleb_at
const_read = reads_whole operator (0x41 ∷ 0x00 ∷ []) (record { op = 0x41; args = args.S32 (pos 0) ∷ [] }) refl

catch_read : Is operator (0x07 ∷ 0x00 ∷ []) (record { op = 0x07; args = args.Tag 0 ∷ [] })
unfolding operator operator_from operator_of args_form arg_form kinds_of number_at leb_at
catch_read = reads_whole operator (0x07 ∷ 0x00 ∷ []) (record { op = 0x07; args = args.Tag 0 ∷ [] }) refl

drop_read : Is operator (0x1A ∷ []) (record { op = 0x1A; args = [] })
unfolding operator operator_from operator_of args_form kinds_of
drop_read = reads_whole operator (0x1A ∷ []) (record { op = 0x1A; args = [] }) refl

end_read : Is operator (0x0B ∷ []) the_end
unfolding operator operator_from operator_of args_form kinds_of
end_read = reads_whole operator (0x0B ∷ []) the_end refl

body_stands : BodyStands catches
unfolding number_bytes groups integer_bytes
body_stands = record {
  apart = λ i j d less at. absurd (omega arith);
  filled = All-nil _;
  ranked = λ i j d less at. absurd (omega arith);
  types = All-nil _;
  operators = (try_read, (const_read, (catch_read, (end_read, (drop_read, (end_read, tt))))));
}

each : {A : Type 0} (P : A → Type 0) (xs : List A) → AllByRecursion P xs → (x : A) → Contains xs x → P x
each P [] h x has = absurd (Contains-none x has)
each P (y ∷ ys) h x has = ⊎_elim (λ e. subst P e h.0) (λ rest. each P ys h.1 x rest) (Contains-uncons y x ys has)

abbrev NamesNoFunction : Op → Type 0
NamesNoFunction o = o.op ≡ 0xD2 → ⊥

none_named : AllByRecursion NamesNoFunction the_ops
none_named = (differ 0x06 0xD2 (omega arith), (differ 0x41 0xD2 (omega arith), (differ 0x07 0xD2 (omega arith), (differ 0x0B 0xD2 (omega arith), (differ 0x1A 0xD2 (omega arith), (differ 0x0B 0xD2 (omega arith), tt))))))

abbrev HasNoType : Op → Type 0
HasNoType o = (t : ℕ) → Contains o.args (Block (OfType t)) → ⊥

none_typed : AllByRecursion HasNoType the_ops
none_typed = (
  (λ t has. let is = only_one (Block (OneResult I32)) (Block (OfType t)) has in absurd (cc)),
  (
    (λ t has. let is = only_one (S32 (pos 0)) (Block (OfType t)) has in absurd (cc)),
    (
      (λ t has. let is = only_one (Index (items.Tags, 0)) (Block (OfType t)) has in absurd (cc)),
      ((λ t has. Contains-none (Block (OfType t)) has), ((λ t has. Contains-none (Block (OfType t)) has), ((λ t has. Contains-none (Block (OfType t)) has), tt))),
    ),
  ),
)

-- ---- what holds of all of these modules

module _ (types : List TypeDef) (producers : List ProducerField) (named : Subject → List Name) (kept : ℕ → List ℕ) where
  abbrev m : Abstract
  m = with_types types producers named kept

  function_at : (f : ℕ) (g : Function) → m.functions f ≡ Some g → the_function ≡ g
  function_at zero g e = cc
  function_at (suc f) g e = absurd (nothing_there g e)

  body_at : (f : ℕ) (b : Body) → body_of m f ≡ Some b → the_body ≡ b
  body_at zero b e = cc
  body_at (suc f) b e = absurd (nothing_there b e)

  itself : Carried (IsLive m) (λ x. ⊥) unchanged m m
  itself = carried_itself m
      (λ i f is un. let e : LocalFunction the_body ≡ Uninitialised = ap (λ (g : Function). g.kind) (function_at i f is) ∙ un in absurd (cc))
      (λ i x is. absurd (nothing_there x is))

  uses : (f : ℕ) (b : Body) → body_of m f ≡ Some b → UsesAll b
  uses f b e = subst UsesAll (body_at f b e) (λ x low high. absurd (omega (arith, low, high)))

  no_data_named : (d : ℕ) → Contains (names_of the_ops) (DataSegments, d) → ⊥
  no_data_named d has = let space : items.Tags ≡ DataSegments = ap (λ (x : Item). x.0) (only_one (items.Tags, 0) (DataSegments, d) has) in absurd (cc)

  no_data : NeedsCount m → ⊥
  no_data (inl (d, p)) = p
  no_data (inr (zero, (d, has))) = no_data_named d has
  no_data (inr (suc f, (d, has))) = has

  names_none : NamesNone m
  names_none f u = ⊎_elim
      (λ (h : IsRefInBody (IsLive m) m f). each NamesNoFunction the_ops none_named (ref_func f) (subst (λ (b : Body). Contains b.operators (ref_func f)) (sym (body_at h.0 h.1 h.3)) h.4) refl)
      (λ (h : IsRefInGlobal (IsLive m) m f). nothing_there h.1 h.4)
      u.named

  no_local : (f : ℕ) (b : Body) (x : ℕ) → body_of m f ≡ Some b → IsUsed b x → ⊥
  no_local f b x e used = Contains-none x (subst (λ (d : Body). IsUsed d x) (sym (body_at f b e)) used)

-- ---- spelled

one_stands : All ValueStands (vals.I32 ∷ [])
one_stands = all_one ValueStands vals.I32 tt

type_stands : (results : List RawVal) → All ValueStands results → GroupStands (takes_one results)
type_stands results stand = All-cons SubStands _ [] (All-nil _, (one_stands, stand)) (All-nil SubStands)

abbrev IsFilled : entries.Group → Type 0
IsFilled g = g ≢ []

filled : (results : List RawVal) → takes_one results ≢ []
filled results e = cc

abbrev one_type : Section
one_type = frames.Types (takes_one [] ∷ [])

abbrev two_types : Section
two_types = frames.Types (takes_one [] ∷ takes_one (vals.I32 ∷ []) ∷ [])

abbrev tag_section : Section
tag_section = frames.Tags (0 ∷ [])

abbrev code_section : Section
code_section = frames.Code (unplaced catches ∷ [])

on_all : (P : Section → Type 0) (types : Section) → P types → P function_section → P tag_section → P export_section → P code_section → All P (types ∷ function_section ∷ tag_section ∷ export_section ∷ code_section ∷ [])
on_all P types first functions tags exports code =
    All-cons P types (function_section ∷ tag_section ∷ export_section ∷ code_section ∷ []) first
    (All-cons P function_section (tag_section ∷ export_section ∷ code_section ∷ []) functions
    (All-cons P tag_section (export_section ∷ code_section ∷ []) tags
    (All-cons P export_section (code_section ∷ []) exports (all_one P code_section code))))

exports_stand : SectionStands export_section
exports_stand = all_one ExportStands f_export (record { name = is_text (0x66 ∷ []) refl; index = omega arith })

one_fits : SectionFits one_type
unfolding number_bytes groups integer_bytes
one_fits = ((omega arith, ((omega arith, ((omega arith, (omega arith, omega arith)), tt)), tt)), omega arith)

two_fit : SectionFits two_types
unfolding number_bytes groups integer_bytes
two_fit = ((omega arith, ((omega arith, ((omega arith, (omega arith, omega arith)), tt)), ((omega arith, ((omega arith, (omega arith, omega arith)), tt)), tt))), omega arith)

tags_fit : SectionFits tag_section
unfolding number_bytes groups integer_bytes
tags_fit = (omega arith, omega arith)

exports_fit : SectionFits export_section
unfolding number_bytes groups integer_bytes
exports_fit = ((omega arith, (omega arith, tt)), omega arith)

code_fits : SectionFits code_section
unfolding number_bytes groups integer_bytes
code_fits = ((omega arith, (omega arith, tt)), omega arith)

read_fits : All SectionFits (sections_of catching_text)
read_fits = on_all SectionFits one_type one_fits functions_fit tags_fit exports_fit code_fits

written_fits : All SectionFits (sections_of handled_text)
written_fits = on_all SectionFits two_types two_fit functions_fit tags_fit exports_fit code_fits

read_spelled : IsSpelledAs module_read catching_bytes
unfolding number_bytes groups integer_bytes
read_spelled = record {
  text = catching_text;
  spells = record {
    says = sym catching_says;
    stand = on_all SectionStands one_type (all_one GroupStands (takes_one []) (type_stands [] (All-nil _))) functions_stand functions_stand exports_stand tt;
    filled = all_one IsFilled (takes_one []) (filled []);
    bodies = all_one BodyStands catches body_stands;
    used = uses (from_one ∷ []) [] (λ y. []) (λ f. []);
    as_many_bodies = refl;
    elements = All-nil _;
    data_count = no_data (from_one ∷ []) [] (λ y. []) (λ f. []);
    names = record {
      module_name = tt;
      items = λ space. ((λ i j d less at. absurd (omega arith)), All-nil _);
      functions = λ i j d less at. absurd (omega arith);
      locals = All-nil _;
      are_there = All-nil _;
    };
    producers = All-nil _;
    dylinks = All-nil _;
    others = All-nil _;
  };
  written = refl;
}

written_spelled : IsSpelledAs module_written handled_bytes
unfolding number_bytes groups integer_bytes
written_spelled = record {
  text = handled_text;
  spells = record {
    says = sym handled_says;
    stand = on_all SectionStands two_types
        (All-cons GroupStands (takes_one []) (takes_one (vals.I32 ∷ []) ∷ []) (type_stands [] (All-nil _)) (all_one GroupStands (takes_one (vals.I32 ∷ [])) (type_stands (vals.I32 ∷ []) one_stands)))
        functions_stand functions_stand exports_stand tt;
    filled = All-cons IsFilled (takes_one []) (takes_one (vals.I32 ∷ []) ∷ []) (filled []) (all_one IsFilled (takes_one (vals.I32 ∷ [])) (filled (vals.I32 ∷ [])));
    bodies = all_one BodyStands catches body_stands;
    used = uses (from_one ∷ to_one ∷ []) [] (λ y. []) (λ f. []);
    as_many_bodies = refl;
    elements = All-nil _;
    data_count = no_data (from_one ∷ to_one ∷ []) [] (λ y. []) (λ f. []);
    names = record {
      module_name = tt;
      items = λ space. ((λ i j d less at. absurd (omega arith)), All-nil _);
      functions = λ i j d less at. absurd (omega arith);
      locals = All-nil _;
      are_there = All-nil _;
    };
    producers = All-nil _;
    dylinks = All-nil _;
    others = All-nil _;
  };
  written = refl;
}

-- ---- read: the rules hold

type_at : (t : ℕ) (x : TypeDef) → module_read.types t ≡ Some x → from_one ≡ x
type_at zero x e = cc
type_at (suc t) x e = absurd (nothing_there x e)

at_body : (f : ℕ) (b : Body) → body_of module_read f ≡ Some b → the_body ≡ b
at_body = body_at (from_one ∷ []) [] (λ y. []) (λ f. [])

at_function : (f : ℕ) (g : Function) → module_read.functions f ≡ Some g → the_function ≡ g
at_function = function_at (from_one ∷ []) [] (λ y. []) (λ f. [])

type_is_live : (y : Item) → Contains ((Types, 0) ∷ []) y → IsLive module_read y
type_is_live y has = subst (IsLive module_read) (only_one (Types, 0) y has) refl

written_live : (x y : Item) → Contains (written_in module_read x) y → IsLive module_read y
written_live (Types, zero) y has = type_is_live y has
written_live (Types, suc i) y has = absurd (Contains-none y has)
written_live (Functions, zero) y has = ⊎_elim
    (λ e. subst (IsLive module_read) e refl)
    (λ more. subst (IsLive module_read) (only_one (items.Tags, 0) y more) refl)
    (Contains-uncons (Types, 0) y ((items.Tags, 0) ∷ []) has)
written_live (Functions, suc i) y has = absurd (Contains-none y has)
written_live (Tables, i) y has = absurd (Contains-none y has)
written_live (Memories, i) y has = absurd (Contains-none y has)
written_live (items.Tags, zero) y has = type_is_live y has
written_live (items.Tags, suc i) y has = absurd (Contains-none y has)
written_live (Globals, i) y has = absurd (Contains-none y has)
written_live (Elements, i) y has = absurd (Contains-none y has)
written_live (DataSegments, i) y has = absurd (Contains-none y has)

tag_type : (i : ℕ) (t : Tag) → module_read.tags i ≡ Some t → IsFunctionType module_read t.ty
tag_type zero t e = subst (λ k. IsFunctionType module_read k) (let is : 0 ≡ t.ty = cc in is) (from_one, refl, tt)
tag_type (suc i) t e = absurd (nothing_there t e)

abbrev DifferentNames : Export → Export → Type 0
DifferentNames d e = d.name ≢ e.name

read_holds : Holds module_read
read_holds = record {
  types = record {
    one_supertype = λ t x e. subst (λ (y : TypeDef). length y.sub.supertypes ≤ 1) (type_at t x e) (omega arith);
    supertypes = λ t u x e has. absurd (Contains-none u (subst (λ (y : TypeDef). Contains y.sub.supertypes u) (sym (type_at t x e)) has));
    others = λ t u x e has. absurd (Contains-none u (subst (λ (y : TypeDef). Contains (comp_names y.sub.comp) u) (sym (type_at t x e)) has));
  };
  indices = record {
    written = written_live;
    locals = λ f b x e used. absurd (no_local (from_one ∷ []) [] (λ y. []) (λ f. []) f b x e used);
    exports = λ e has. subst (λ (d : Export). IsLive module_read d.item) (only_one the_export e has) refl;
    start = λ f e. absurd (nothing_there f e);
    tables = λ i g t ops e is has. absurd (nothing_there t e);
    globals = λ i g x ops e is has. absurd (nothing_there x e);
  };
  function_types = record {
    functions = λ i f e. subst (λ (g : Function). IsFunctionType module_read g.ty) (at_function i f e) (from_one, refl, tt);
    tags = tag_type;
    blocks = λ f t b o e has block. absurd (each HasNoType the_ops none_typed o (subst (λ (d : Body). Contains d.operators o) (sym (at_body f b e)) has) t block);
  };
  limits = record { tables = λ i t e. absurd (nothing_there t e); memories = λ i x e. absurd (nothing_there x e) };
  exports = record {
    distinct = AllPairs-cons DifferentNames the_export [] (All-nil _) (λ i j d less at. absurd (omega arith));
    start = λ i f is e. absurd (nothing_there i is);
  };
  offsets = record { elements = λ i table e t offset is kind at. absurd (nothing_there e is); data_segments = λ i memory d x offset is kind at. absurd (nothing_there d is) };
  locals = λ f b e. subst (λ (d : Body). d.declared ≤ 50_000) (at_body f b e) (omega arith);
}

is_allowed_with : (legacy stable : Bool) → legacy ≡ true → are_allowed (record { legacy_exceptions = legacy; only_stable = stable }) the_ops ≡ true
is_allowed_with true stable e = refl
is_allowed_with false stable e = absurd (let no_such : false ≡ true = e in cc)

read_nests : (c : Config) → c.legacy_exceptions ≡ true → BodiesNest c module_read
read_nests c legacy f g b is kind = subst (λ (d : Body). (are_nested d.operators ≡ true) × (are_allowed (features_of c) d.operators ≡ true)) (at_body f b (ap body_of_function is ∙ ap body_of_kind kind))
    (refl, is_allowed_with c.legacy_exceptions c.only_stable_features legacy)

is_read : (c : Config) → c.legacy_exceptions ≡ true → ReadsModule c catching_bytes module_read
unfolding read_spelled
is_read c legacy = nested_reads c module_read catching_bytes read_spelled read_fits (read_nests c legacy) (bodies_hold module_read read_holds)

-- ---- parsed: the type is added

more : {X : Type 0} {K A : ℕ → Type 0} {r : ℕ → ℕ} {S : ℕ → X → X → Type 0} {xs ys : ℕ → Option X} → Carries K (λ j. ⊥) r S xs ys → Carries K A r S xs ys
more c = record { same = c.same; onto = λ j h. ⊎_elim (λ k. inl k) (λ none. absurd none) (c.onto j h) }

abbrev results_in : CompType ℕ → ℕ
results_in (Func params results) = length results
results_in other = 0

-- how many results a type has
abbrev results_of : Option TypeDef → ℕ
results_of None = 0
results_of (Some t) = results_in t.sub.comp

-- no type that is there is the one of the handler
not_found : (p : ℕ) → IsLoneTypeAt (Func (I32 ∷ []) (I32 ∷ [])) (from_one ∷ []) p → ⊥
not_found zero h = let same : 0 ≡ 1 = ap results_of h.0 in omega (arith, same)
not_found (suc p) h = nothing_there (alone (suc p) (Func (I32 ∷ []) (I32 ∷ []))) h.0

is_added : TypeIsFoundOrAdded (Func (I32 ∷ []) (I32 ∷ [])) (from_one ∷ []) (from_one ∷ to_one ∷ []) 1
is_added = Added not_found refl refl

same_type : SameType (λ i. i) 0 from_one from_one
same_type = record { group = refl; position = refl; sub = refl }

types_same : (i : ℕ) → IsSome (slice_get (from_one ∷ []) i) → BothAnd (SameType (λ k. k) i) (slice_get (from_one ∷ []) i) (slice_get (from_one ∷ to_one ∷ []) i)
types_same zero h = same_type
types_same (suc i) h = absurd (no_item i h)

types_onto : (j : ℕ) → IsSome (slice_get (from_one ∷ to_one ∷ []) j) → ((i : ℕ) × IsSome (slice_get (from_one ∷ []) i) × (i ≡ j)) ⊎ IsBehind 1 (Types, j)
types_onto zero h = inl (0, refl, refl)
types_onto (suc j) h = inr (refl, omega arith)

one_there : (f : ℕ) → IsSome (module_read.functions f) ↔ (f < 1)
one_there zero = (λ h. omega arith, λ l. refl)
one_there (suc f) = (λ h. absurd (no_item f h), λ (l : suc f < 1). absurd (omega (arith, l)))

no_handlers : (f : ℕ) → 1 ≤ f → handlers f ≡ []
no_handlers zero low = absurd (omega (arith, low))
no_handlers (suc f) low = refl

whole_body : (f : ℕ) → IsWholeBody unchanged f the_body the_body
whole_body f = record {
  parameters = refl;
  types = λ x v e. e;
  counted = record {
    locals = [];
    distinct = λ i j d less at. absurd (omega arith);
    are = λ x. (λ has. absurd (Contains-none x has), λ d. absurd (Contains-none x d.0));
    count = refl;
  };
  rise = λ x y hx hy less. less;
}

module _ (c : Config) where
  abbrev v : Abstract
  v = in_memory c

  abbrev names : Subject → List Name
  names = λ y. name_list (name_of c module_read y)

  from_read : Carried (IsLive module_read) (λ x. ⊥) unchanged module_read module_read
  from_read = itself (from_one ∷ []) [] (λ y. []) (λ f. [])

  parsed_carried : Carried (IsLive module_read) (IsBehind 1) unchanged module_read v
  parsed_carried = record {
    types = record { same = types_same; onto = types_onto };
    imports = from_read.imports;
    functions = more from_read.functions;
    tables = more from_read.tables;
    memories = more from_read.memories;
    tags = more from_read.tags;
    globals = more from_read.globals;
    elements = more from_read.elements;
    data_segments = more from_read.data_segments;
    imports_apart = from_read.imports_apart;
    apart = from_read.apart;
    exports = from_read.exports;
    start = from_read.start;
  }

  is_parsed : ParsedAs c module_read v
  is_parsed = record {
    types = from_one ∷ [];
    functions = 1;
    all_types = from_one ∷ to_one ∷ [];
    types_read = λ i. refl;
    functions_read = one_there;
    handlers = AndThose 0 [] (from_one ∷ []) (from_one ∷ to_one ∷ []) (from_one ∷ to_one ∷ [])
        (AndThen (Func (I32 ∷ []) (I32 ∷ [])) [] (from_one ∷ []) (from_one ∷ to_one ∷ []) (from_one ∷ to_one ∷ []) 1 [] is_added (NoMore _)) (NoFunction _);
    types_made = λ i. refl;
    no_handlers = no_handlers;
    renaming = unchanged;
    carried = parsed_carried;
    bodies = λ f a b is was. subst (λ (d : Body). IsWholeBody unchanged f d b) (at_body f a is) (subst (IsWholeBody unchanged f the_body) (body_at (from_one ∷ to_one ∷ []) (produced []) names handlers f b was) (whole_body f));
    in_place = λ x. refl;
    imports_in_place = λ i. refl;
    table_segments = λ table segment. refl;
    memory_segments = λ memory segment. refl;
    section_roots = refl;
    customs = refl;
    producers = refl;
    own = last_of_list _;
    items = λ x live. last_of_list _;
    added = λ i past. last_of_list _ ∙ no_name c module_read (Types, i) refl refl;
    locals = λ f b x is there. last_of_list _;
  }

  -- ---- kept: all of it, and the added type since the function keeps it

  function_reached : Reached v (Functions, 0)
  function_reached = root (Functions, 0) (exported the_export (Contains-head the_export []) refl)

  function_kept : (i : ℕ) → IsSome (v.functions i) → Kept v (Functions, i)
  function_kept zero h = inl function_reached
  function_kept (suc i) h = absurd (no_item i h)

  tag_kept : (i : ℕ) → IsSome (v.tags i) → Kept v (items.Tags, i)
  tag_kept zero h = inl (step (Functions, 0) (items.Tags, 0) function_reached (inl (Contains-tail (Types, 0) (items.Tags, 0) ((items.Tags, 0) ∷ []) (Contains-head (items.Tags, 0) []))))
  tag_kept (suc i) h = absurd (no_item i h)

  type_kept : (i : ℕ) → IsSome (v.types i) → Kept v (Types, i)
  type_kept zero h = inl (step (Functions, 0) (Types, 0) function_reached (inl (Contains-head (Types, 0) ((items.Tags, 0) ∷ []))))
  type_kept (suc zero) h = inl (step (Functions, 0) (Types, 1) function_reached (inr (1, Contains-head 1 [], refl)))
  type_kept (suc (suc i)) h = absurd (no_item i h)

  is_collected : Collected v v
  is_collected = record {
    types = all_of _ _ type_kept;
    imports = record { kept = λ i k. refl; left = λ i x is. absurd (nothing_there x is) };
    functions = all_of _ _ function_kept;
    tables = all_of _ _ (λ i h. absurd (no_item i h));
    memories = all_of _ _ (λ i h. absurd (no_item i h));
    tags = all_of _ _ tag_kept;
    globals = all_of _ _ (λ i h. absurd (no_item i h));
    elements = all_of _ _ (λ i h. absurd (no_item i h));
    data_segments = all_of _ _ (λ i h. absurd (no_item i h));
    exports = refl;
    start = refl;
    customs = refl;
    producers = refl;
    named = λ y h. refl;
    table_segments = λ table k segment. refl;
    memory_segments = λ memory k segment. refl;
    handler_types = λ f k. refl;
    section_roots = refl;
  }

  brings : BringsTo c module_read v
  brings = brings_itself c module_read v v is_parsed is_collected (names_none (from_one ∷ to_one ∷ []) (produced []) names handlers)

  -- ---- written

  still : (space : Space) → (space ≡ Types → ⊥) → (i j : ℕ) → IsLive v (space, i) → IsLive v (space, j) → ByImport v space i j → i < j
  still Types away i j li lj before = absurd (away refl)
  still Functions away i j li lj before =
      let here : ByImport v Functions 0 0 = subst (λ k. ByImport v Functions 0 k) (one_item the_function j lj) (subst (λ k. ByImport v Functions k j) (one_item the_function i li) before) in
      absurd (⊎_elim (λ (less : 6 < 6). omega (arith, less)) (λ same. let l : 0 < 0 = same.1 in omega (arith, l)) here)
  still items.Tags away i j li lj before =
      let here : ByImport v items.Tags 0 0 = subst (λ k. ByImport v items.Tags 0 k) (one_item _ j lj) (subst (λ k. ByImport v items.Tags k j) (one_item _ i li) before) in
      absurd (let l : 0 < 0 = here in omega (arith, l))
  still Tables away i j li lj before = absurd (no_item i li)
  still Memories away i j li lj before = absurd (no_item i li)
  still Globals away i j li lj before = absurd (no_item i li)
  still Elements away i j li lj before = before
  still DataSegments away i j li lj before = before

  from_memory : Carried (IsLive v) (λ x. ⊥) unchanged v v
  from_memory = itself (from_one ∷ to_one ∷ []) (produced []) names handlers

  written_carried : Carried (IsLive v) (λ x. IsTheSegment None x) unchanged v module_written
  written_carried = record {
    types = more from_memory.types;
    imports = from_memory.imports;
    functions = more from_memory.functions;
    tables = more from_memory.tables;
    memories = more from_memory.memories;
    tags = more from_memory.tags;
    globals = more from_memory.globals;
    elements = more from_memory.elements;
    data_segments = more from_memory.data_segments;
    imports_apart = from_memory.imports_apart;
    apart = from_memory.apart;
    exports = from_memory.exports;
    start = from_memory.start;
  }

  is_written : c.writes_names ≡ false → c.writes_producers ≡ false → IsWrittenAs c v module_written
  is_written no_names no_producers = record {
    written = record {
      renaming = unchanged;
      segment = None;
      indices = given v unchanged;
      carried = written_carried;
      rises = record { items = still; imports = λ i j li lj less. less };
      declares = declares_none v module_written unchanged (names_none (from_one ∷ to_one ∷ []) (produced []) names handlers);
      names = subst (λ b. WritesNames b (own_name v) (IsLive v) unchanged v module_written) (sym no_names) (λ y. refl);
      producers = subst (λ b. module_written.producers ≡ if_written b v.producers) (sym no_producers) refl;
      indexed = are_given v unchanged;
      customs = refl;
    };
    pinned = record {
      types_rise = λ i j li lj less. less;
      type_names = λ e. absurd (let no_such : false ≡ true = sym no_names ∙ e in cc);
      locals = λ f b x y e dx dy g. absurd (no_local (from_one ∷ to_one ∷ []) (produced []) names handlers f b x e dx.0);
    };
  }

  comes : c.writes_names ≡ false → c.writes_producers ≡ false → c.legacy_exceptions ≡ true → ComesTo c catching_bytes handled_bytes
  unfolding written_spelled
  comes no_names no_producers legacy = comes_to c catching_bytes handled_bytes module_read v module_written (is_read c legacy) read_holds brings (is_written no_names no_producers) written_spelled written_fits

pub handler_runs : (c : Config) → c.writes_names ≡ false → c.writes_producers ≡ false → c.legacy_exceptions ≡ true → ComesToAlone c catching_bytes handled_bytes
handler_runs c no_names no_producers legacy = runs c catching_bytes handled_bytes (comes c no_names no_producers legacy)
