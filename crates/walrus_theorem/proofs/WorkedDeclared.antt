-- The steps, one by one, for a function that `ref.func` names and nothing declares: all is kept, and the segment is added.
use Rattle.std.proofs.Common.{◌≡◌, ◌≢◌, ℕ, zero, suc, ◌<◌, ◌≤◌, Bool, true, false, List, [], ◌∷◌, length, refl, sym, ap, ◌∙◌, subst, arith, inl, inr, ⊎_elim}
use Rattle.std.specs.Prelude.{Some, None, All, Contains, slice_get, if◌then◌else◌}
use Rattle.std.proofs.lemmas.List.Elements.{All-nil, All-cons}
use Rattle.wasm_forms.specs.Grammar.{Is, at}
use Rattle.wasm_forms.specs.Number.{number_at, leb_at}
use Rattle.wasm_forms.specs.Spelling.{number_bytes, groups}
use Rattle.wasm_entries.specs.Record as entries
use Rattle.wasm_entries.specs.TypeSpelling.{GroupStands, SubStands}
use Rattle.wasm_entries.specs.Spelling.{IsIndex, ElementStands}
use Rattle.wasm_frames.specs.Frames as frames
use Rattle.wasm_frames.specs.Frames.{Section, gathered}
use Rattle.wasm_writer.specs.Spelling.{SectionStands, SectionFits}
use Rattle.wasm_operators.specs.declared.operator.RawArg.TheVariants as args
use Rattle.wasm_operators.specs.Forms.{arg_form, args_form, operator_of, operator_from, operator}
use Rattle.wasm_operators.specs.Table.{kinds_of}
use Rattle.walrus_base.specs.Types.{comp_names}
use Rattle.walrus_base.specs.Operators as items
use Rattle.walrus_base.specs.Operators.{Types, Functions, Tables, Memories, Globals, Elements, DataSegments, Item, Arg, Block, OfType, Op, names_of}
use Rattle.walrus_model.specs.Abstract.{Abstract, Name, Subject, AnItem, ProducerField, TypeDef, Function, Body, Element, DeclaredElements, ListedFunctions}
use Rattle.walrus_model.specs.Config.{Config}
use Rattle.walrus_model.specs.Declared.{ref_func, IsRefInBody, IsRefInGlobal, IsUndeclared, AreUndeclared}
use Rattle.walrus_model.specs.Live.{IsLive}
use Rattle.walrus_model.specs.Names.{body_of, body_of_function, body_of_kind, last_name, own_name, name_of, names_that_count, or_else, WritesNames, synthetic_name}
use Rattle.walrus_model.specs.Producers.{produced, if_written}
use Rattle.walrus_model.specs.Out.{IsTheSegment}
use Rattle.walrus_model.specs.Pipeline.{Collected}
use Rattle.walrus_model.specs.Reached.{Reached, root}
use Rattle.walrus_model.specs.Refers.{written_in, IsUsed}
use Rattle.walrus_model.specs.Renaming.{unchanged}
use Rattle.walrus_model.specs.Roots.{start}
use Rattle.walrus_model.specs.Rules.{Holds, IsFunctionType, IsEmptyFunctionType}
use Rattle.walrus_model.proofs.Examples.{only_one}
use Rattle.walrus_base.proofs.Lists.{Contains-head, Contains-none, Contains-uncons}
use Rattle.walrus_theorem.specs.Chain.{BringsTo, Leaves, ParsedAs}
use Rattle.walrus_theorem.specs.Examples.{no_values, the_end}
use Rattle.walrus_bodies.specs.Blocks.{are_nested}
use Rattle.walrus_bodies.specs.Features.{are_allowed}
use Rattle.walrus_theorem.specs.Features.{features_of}
use Rattle.walrus_theorem.specs.Headline.{ReadsModule, ComesTo}
use Rattle.walrus_theorem.specs.Pinned.{IsWrittenAs, LocalGoesBefore}
use Rattle.walrus_theorem.specs.Spelling.{BodyStands, UsesAll, NeedsCount, IsChosen, IsSpelledAs}
use Rattle.walrus_theorem.specs.SpelledLaws.{BodiesNest}
use Rattle.walrus_theorem.specs.Text.{said, sections_of, said_by, unplaced}
use Rattle.walrus_theorem.specs.WorkedDeclared.{names_itself, undeclared_text, undeclared_bytes, declared_text, declared_bytes}
use Rattle.walrus_theorem.specs.WorkedSections.{ComesToAlone}
use Rattle.walrus_theorem.proofs.BodiesBack.{bodies_hold}
use Rattle.walrus_theorem.proofs.NeedsBase.{no_item, given, are_given, declares_none, NamesNone}
use Rattle.walrus_theorem.proofs.ReadPlain.{said_alone}
use Rattle.walrus_theorem.proofs.Runs.{comes_to}
use Rattle.walrus_theorem.proofs.SpelledReads.{nested_reads}
use Rattle.walrus_theorem.proofs.WorkedParts.{runs}
use Rattle.walrus_theorem.proofs.WorkedSingle.{name_list, last_of_list, nothing_there, the_body, the_function, single, function_at, body_at, all_carried, all_rises, parsed, single_parsed, single_collected}
use Rattle.walrus_theorem.proofs.WorkedWritten.{the_type}
use Rattle.walrus_theorem.proofs.ReadExample.{reads_whole}

-- ---- the modules

abbrev the_ops : List Op
the_ops = ref_func 0 ∷ record { op = 0x1A; args = [] } ∷ record { op = 0x0B; args = [] } ∷ []

abbrev the_segment : Element
the_segment = record { kind = DeclaredElements; items = ListedFunctions (0 ∷ []) }

abbrev module_read : Abstract
module_read = single the_ops [] (Some 0) [] [] [] [] (λ y. [])

abbrev module_kept : Config → Abstract
module_kept c = parsed the_ops [] (Some 0) c [] [] (λ y. [])

abbrev module_left : Config → Abstract
module_left c = single the_ops [] (Some 0) (the_segment ∷ []) [] [] (produced []) (λ y. name_list (name_of c module_read y))

abbrev module_written : Abstract
module_written = single the_ops [] (Some 0) (the_segment ∷ []) (the_segment ∷ []) [] [] (λ y. [])

text_says : said_by undeclared_text ≡ module_read
text_says = said_alone (gathered (sections_of undeclared_text)) (said names_itself ∷ [])

declared_says : said_by declared_text ≡ module_written
declared_says = said_alone (gathered (sections_of declared_text)) (said names_itself ∷ [])

-- ---- the operators

ref_read : Is operator (0xD2 ∷ 0x00 ∷ []) (record { op = 0xD2; args = args.Function 0 ∷ [] })
unfolding operator operator_from operator_of args_form arg_form kinds_of number_at leb_at
ref_read = reads_whole operator (0xD2 ∷ 0x00 ∷ []) (record { op = 0xD2; args = args.Function 0 ∷ [] }) refl

drop_read : Is operator (0x1A ∷ []) (record { op = 0x1A; args = [] })
unfolding operator operator_from operator_of args_form kinds_of
drop_read = reads_whole operator (0x1A ∷ []) (record { op = 0x1A; args = [] }) refl

end_read : Is operator (0x0B ∷ []) the_end
unfolding operator operator_from operator_of args_form kinds_of
end_read = reads_whole operator (0x0B ∷ []) the_end refl

body_stands : BodyStands names_itself
unfolding number_bytes groups
body_stands = record {
  apart = λ i j d less at. absurd (omega arith);
  filled = All-nil _;
  ranked = λ i j d less at. absurd (omega arith);
  types = All-nil _;
  operators = (ref_read, (drop_read, (end_read, tt)));
}

abbrev number_in : List Arg → ℕ
number_in (items.Index x ∷ args) = x.1
number_in args = 0

-- f is function 0, where an operator is ref.func f
one_of_them : (f : ℕ) → Contains the_ops (ref_func f) → 0 ≡ f
one_of_them f has = ⊎_elim
    (λ (e : ref_func 0 ≡ ref_func f). ap (λ (o : Op). number_in o.args) e)
    (λ more. ⊎_elim
    (λ e. absurd (differ 0x1A 0xD2 (omega arith) (ap (λ (o : Op). o.op) e)))
    (λ last. absurd (differ 0x0B 0xD2 (omega arith) (ap (λ (o : Op). o.op) (only_one (record { op = 0x0B; args = [] }) (ref_func f) last))))
    (Contains-uncons (record { op = 0x1A; args = [] }) (ref_func f) (record { op = 0x0B; args = [] } ∷ []) more))
    (Contains-uncons (ref_func 0) (ref_func f) (record { op = 0x1A; args = [] } ∷ record { op = 0x0B; args = [] } ∷ []) has)
  where
    differ : (a b : ℕ) → a < b → a ≡ b → ⊥
    differ a b l e = omega (arith, l, e)

-- ---- spelled

types_stand : SectionStands (frames.Types (no_values ∷ []))
types_stand = All-cons GroupStands no_values [] (All-cons SubStands _ [] (All-nil _, (All-nil _, All-nil _)) (All-nil SubStands)) (All-nil GroupStands)

zero_stands : All IsIndex (0 ∷ [])
zero_stands = All-cons IsIndex 0 [] (omega arith) (All-nil IsIndex)

abbrev IsFilled : entries.Group → Type 0
IsFilled g = g ≢ []

not_empty : no_values ≢ []
not_empty e = cc

all_one : {A : Type 0} (P : A → Type 0) (a : A) → P a → All P (a ∷ [])
all_one P a p = All-cons P a [] p (All-nil P)

module _ (elements : List Element) where
  abbrev n : Abstract
  n = single the_ops [] (Some 0) elements elements [] [] (λ y. [])

  uses : (f : ℕ) (b : Body) → body_of n f ≡ Some b → UsesAll b
  uses f b e = subst UsesAll (body_at the_ops [] (Some 0) elements elements [] [] (λ y. []) f b e) (λ x low high. absurd (omega (arith, low, high)))

  no_data_named : (d : ℕ) → Contains (names_of the_ops) (DataSegments, d) → ⊥
  no_data_named d at = let space : Functions ≡ DataSegments = ap (λ (x : Item). x.0) (only_one (Functions, 0) (DataSegments, d) at) in absurd (cc)

  no_data : NeedsCount n → ⊥
  no_data (inl (d, p)) = p
  no_data (inr (zero, (d, at))) = no_data_named d at
  no_data (inr (suc f, (d, at))) = at

abbrev raw_segment : entries.Element
raw_segment = record { mode = entries.DeclaredElements; items = entries.Functions (0 ∷ []) }

abbrev type_section : Section
type_section = frames.Types (no_values ∷ [])

abbrev function_section : Section
function_section = frames.Functions (0 ∷ [])

abbrev start_section : Section
start_section = frames.Start 0

abbrev element_section : Section
element_section = frames.Elements (raw_segment ∷ [])

abbrev code_section : Section
code_section = frames.Code (unplaced names_itself ∷ [])

-- what holds of these sections holds of all that the texts have
on_read : (P : Section → Type 0) → P type_section → P function_section → P start_section → P code_section → All P (sections_of undeclared_text)
on_read P types functions starts code =
    All-cons P type_section (function_section ∷ start_section ∷ code_section ∷ []) types
    (All-cons P function_section (start_section ∷ code_section ∷ []) functions
    (All-cons P start_section (code_section ∷ []) starts (all_one P code_section code)))

on_written : (P : Section → Type 0) → P type_section → P function_section → P start_section → P element_section → P code_section → All P (sections_of declared_text)
on_written P types functions starts elements code =
    All-cons P type_section (function_section ∷ start_section ∷ element_section ∷ code_section ∷ []) types
    (All-cons P function_section (start_section ∷ element_section ∷ code_section ∷ []) functions
    (All-cons P start_section (element_section ∷ code_section ∷ []) starts
    (All-cons P element_section (code_section ∷ []) elements (all_one P code_section code))))

read_spelled : IsSpelledAs module_read undeclared_bytes
unfolding number_bytes groups
read_spelled = record {
  text = undeclared_text;
  spells = record {
    says = sym text_says;
    stand = on_read SectionStands types_stand zero_stands (omega arith) tt;
    filled = all_one IsFilled no_values not_empty;
    bodies = all_one BodyStands names_itself body_stands;
    used = uses [];
    as_many_bodies = refl;
    elements = All-nil _;
    data_count = no_data [];
    names = record {
      module_name = tt;
      items = λ space. ((λ i j d less at. absurd (omega arith)), All-nil _);
      functions = λ i j d less at. absurd (omega arith);
      locals = All-nil _;
      are_there = All-nil _;
    };
    producers = All-nil _;
    dylinks = All-nil _;
    others = All-nil _;
  };
  written = refl;
}

written_spelled : IsSpelledAs module_written declared_bytes
unfolding number_bytes groups
written_spelled = record {
  text = declared_text;
  spells = record {
    says = sym declared_says;
    stand = on_written SectionStands types_stand zero_stands (omega arith) (all_one ElementStands raw_segment zero_stands) tt;
    filled = all_one IsFilled no_values not_empty;
    bodies = all_one BodyStands names_itself body_stands;
    used = uses (the_segment ∷ []);
    as_many_bodies = refl;
    elements = all_one (λ (e : entries.Element). IsChosen module_written e.mode e.items) raw_segment tt;
    data_count = no_data (the_segment ∷ []);
    names = record {
      module_name = tt;
      items = λ space. ((λ i j d less at. absurd (omega arith)), All-nil _);
      functions = λ i j d less at. absurd (omega arith);
      locals = All-nil _;
      are_there = All-nil _;
    };
    producers = All-nil _;
    dylinks = All-nil _;
    others = All-nil _;
  };
  written = refl;
}

types_fit : SectionFits (frames.Types (no_values ∷ []))
unfolding number_bytes groups
types_fit = ((omega arith, (((omega arith, ((omega arith, (omega arith, omega arith)), tt)), tt))), omega arith)

functions_fit : SectionFits (frames.Functions (0 ∷ []))
unfolding number_bytes groups
functions_fit = (omega arith, omega arith)

start_fits : SectionFits (frames.Start 0)
unfolding number_bytes groups
start_fits = (tt, omega arith)

elements_fit : SectionFits (frames.Elements (raw_segment ∷ []))
unfolding number_bytes groups
elements_fit = ((omega arith, (omega arith, tt)), omega arith)

code_fits : SectionFits (frames.Code (unplaced names_itself ∷ []))
unfolding number_bytes groups
code_fits = ((omega arith, (omega arith, tt)), omega arith)

read_fits : All SectionFits (sections_of undeclared_text)
read_fits = on_read SectionFits types_fit functions_fit start_fits code_fits

written_fits : All SectionFits (sections_of declared_text)
written_fits = on_written SectionFits types_fit functions_fit start_fits elements_fit code_fits

-- ---- read: the rules hold

type_at : (t : ℕ) (x : TypeDef) → module_read.types t ≡ Some x → the_type ≡ x
type_at zero x e = cc
type_at (suc t) x e = absurd (nothing_there x e)

at_function : (f : ℕ) (g : Function) → module_read.functions f ≡ Some g → the_function the_ops [] (Some 0) ≡ g
at_function = function_at the_ops [] (Some 0) [] [] [] [] (λ y. [])

at_body : (f : ℕ) (b : Body) → body_of module_read f ≡ Some b → the_body the_ops [] (Some 0) ≡ b
at_body = body_at the_ops [] (Some 0) [] [] [] [] (λ y. [])

written_live : (x y : Item) → Contains (written_in module_read x) y → IsLive module_read y
written_live (Types, zero) y at = subst (IsLive module_read) (only_one (Types, 0) y at) refl
written_live (Types, suc i) y at = absurd (Contains-none y at)
written_live (Functions, zero) y at = ⊎_elim
    (λ e. subst (IsLive module_read) e refl)
    (λ more. subst (IsLive module_read) (only_one (Functions, 0) y more) refl)
    (Contains-uncons (Types, 0) y ((Functions, 0) ∷ []) at)
written_live (Functions, suc i) y at = absurd (Contains-none y at)
written_live (Tables, i) y at = absurd (Contains-none y at)
written_live (Memories, i) y at = absurd (Contains-none y at)
written_live (items.Tags, i) y at = absurd (Contains-none y at)
written_live (Globals, i) y at = absurd (Contains-none y at)
written_live (Elements, i) y at = absurd (Contains-none y at)
written_live (DataSegments, i) y at = absurd (Contains-none y at)

no_block_arg : (t : ℕ) (o : Op) → Contains the_ops o → Contains o.args (Block (OfType t)) → ⊥
no_block_arg t o at block = ⊎_elim
    (λ (e : ref_func 0 ≡ o). let is = only_one (items.Index (Functions, 0)) (Block (OfType t)) (subst (λ (p : Op). Contains p.args (Block (OfType t))) (sym e) block) in absurd (cc))
    (λ more. ⊎_elim
    (λ (e : record { op = 0x1A; args = [] } ≡ o). Contains-none (Block (OfType t)) (subst (λ (p : Op). Contains p.args (Block (OfType t))) (sym e) block))
    (λ last. Contains-none (Block (OfType t)) (subst (λ (p : Op). Contains p.args (Block (OfType t))) (sym (only_one (record { op = 0x0B; args = [] }) o last)) block))
    (Contains-uncons (record { op = 0x1A; args = [] }) o (record { op = 0x0B; args = [] } ∷ []) more))
    (Contains-uncons (ref_func 0) o (record { op = 0x1A; args = [] } ∷ record { op = 0x0B; args = [] } ∷ []) at)

read_holds : Holds module_read
read_holds = record {
  types = record {
    one_supertype = λ t x e. subst (λ (y : TypeDef). length y.sub.supertypes ≤ 1) (type_at t x e) (omega arith);
    supertypes = λ t u x e at. absurd (Contains-none u (subst (λ (y : TypeDef). Contains y.sub.supertypes u) (sym (type_at t x e)) at));
    others = λ t u x e at. absurd (Contains-none u (subst (λ (y : TypeDef). Contains (comp_names y.sub.comp) u) (sym (type_at t x e)) at));
  };
  indices = record {
    written = written_live;
    locals = λ f b x e at. absurd (Contains-none x (subst (λ (d : Body). IsUsed d x) (sym (at_body f b e)) at));
    exports = λ e at. absurd (Contains-none e at);
    start = λ f e. let is : 0 ≡ f = cc in subst (λ k. IsLive module_read (Functions, k)) is refl;
    tables = λ i g t ops e is at. absurd (nothing_there t e);
    globals = λ i g x ops e is at. absurd (nothing_there x e);
  };
  function_types = record {
    functions = λ i f e. subst (λ (g : Function). IsFunctionType module_read g.ty) (at_function i f e) (the_type, refl, tt);
    tags = λ i t e. absurd (nothing_there t e);
    blocks = λ f t b o e at block. absurd (no_block_arg t o (subst (λ (d : Body). Contains d.operators o) (sym (at_body f b e)) at) block);
  };
  limits = record { tables = λ i t e. absurd (nothing_there t e); memories = λ i x e. absurd (nothing_there x e) };
  exports = record {
    distinct = λ i j d less at. absurd (omega arith);
    start = λ i f is at. subst (λ (g : Function). IsEmptyFunctionType module_read g.ty) (at_function i f at) (the_type, refl, refl);
  };
  offsets = record { elements = λ i table e t offset is kind at. absurd (nothing_there e is); data_segments = λ i memory d x offset is kind at. absurd (nothing_there d is) };
  locals = λ f b e. subst (λ (d : Body). d.declared ≤ 50_000) (at_body f b e) (omega arith);
}

read_nests : (c : Config) → BodiesNest c module_read
read_nests c f g b is kind = subst (λ (d : Body). (are_nested d.operators ≡ true) × (are_allowed (features_of c) d.operators ≡ true)) (at_body f b (ap body_of_function is ∙ ap body_of_kind kind)) (refl, refl)

is_read : (c : Config) → ReadsModule c undeclared_bytes module_read
unfolding read_spelled
is_read c = nested_reads c module_read undeclared_bytes read_spelled read_fits (read_nests c) (bodies_hold module_read read_holds)

-- ---- parsed and kept

-- nothing that isn't there has a name
no_name : (c : Config) (x : Item) → synthetic_name module_read (AnItem x) ≡ None → name_of c module_read (AnItem x) ≡ None
no_name c x none = by c.synthetic_names
  where
    by : (b : Bool) → or_else (last_name (names_that_count b module_read (AnItem x))) (if b then synthetic_name module_read (AnItem x) else None) ≡ None
    by true = none
    by false = refl

module _ (c : Config) where
  is_parsed : ParsedAs c module_read (module_kept c)
  is_parsed = single_parsed the_ops [] (Some 0) c [] [] (λ y. []) refl refl (λ i past. no_name c (Types, i) refl)

  is_reached : Reached (module_kept c) (Functions, 0)
  is_reached = root (Functions, 0) (start 0 refl refl)

  is_collected : Collected (module_kept c) (module_kept c)
  is_collected = single_collected the_ops [] (Some 0) c [] [] (λ y. []) is_reached

  -- ---- the segment is added

  is_undeclared : IsUndeclared (IsLive (module_kept c)) (module_kept c) 0
  is_undeclared = record {
    named = inl (0, the_body the_ops [] (Some 0), refl, refl, Contains-head (ref_func 0) (record { op = 0x1A; args = [] } ∷ record { op = 0x0B; args = [] } ∷ []));
    not_exported = λ e at is. Contains-none e at;
    not_listed = λ i e live at lists. nothing_there e at;
  }

  named_zero : (elements on_tables : List Element) (f : ℕ) (names : Subject → List Name) (fields : List ProducerField) → IsUndeclared (IsLive (single the_ops [] (Some 0) elements on_tables [] fields names)) (single the_ops [] (Some 0) elements on_tables [] fields names) f → 0 ≡ f
  named_zero elements on_tables f names fields u =
      let m : Abstract = single the_ops [] (Some 0) elements on_tables [] fields names in
      ⊎_elim
      (λ (h : IsRefInBody (IsLive m) m f). one_of_them f (subst (λ (b : Body). Contains b.operators (ref_func f)) (sym (body_at the_ops [] (Some 0) elements on_tables [] fields names h.0 h.1 h.3)) h.4))
      (λ (h : IsRefInGlobal (IsLive m) m f). absurd (nothing_there h.1 h.4))
      u.named

  abbrev names : Subject → List Name
  names = λ y. name_list (name_of c module_read y)

  are_undeclared : AreUndeclared (IsLive (module_kept c)) (module_kept c) (0 ∷ [])
  are_undeclared = record {
    rising = λ i j d less at. absurd (omega (arith, less, at));
    are = λ f. (
      λ at. subst (IsUndeclared (IsLive (module_kept c)) (module_kept c)) (only_one 0 f at) is_undeclared,
      λ u. subst (Contains (0 ∷ [])) (named_zero [] [] f names (produced []) u) (Contains-head 0 []),
    );
  }

  other_elements : (i : ℕ) → i ≢ 0 → slice_get (the_segment ∷ []) i ≡ slice_get [] i
  other_elements zero away = absurd (away refl)
  other_elements (suc i) away = refl

  is_left : Leaves (module_kept c) (module_left c)
  is_left = record {
    functions = 0 ∷ [];
    undeclared = are_undeclared;
    added = (
      record {
        id = 0;
        is = refl;
        last = λ i there. absurd (no_item i there);
        unnamed = last_of_list _ ∙ no_name c (Elements, 0) refl;
        others = other_elements;
      },
      refl,
    );
  }

  brings : BringsTo c module_read (module_left c)
  brings = record { module_parsed = module_kept c; module_kept = module_kept c; parsed = is_parsed; collected = is_collected; leaves = is_left }

  -- ---- written

  none_undeclared : NamesNone (module_left c)
  none_undeclared f u = u.not_listed 0 the_segment refl refl (subst (Contains (0 ∷ [])) (named_zero (the_segment ∷ []) [] f names (produced []) u) (Contains-head 0 []))

  no_local : (f : ℕ) (b : Body) (x y : ℕ) → body_of (module_left c) f ≡ Some b → LocalGoesBefore b x y → ⊥
  no_local f b x y e g =
      let here : LocalGoesBefore (the_body the_ops [] (Some 0)) x y = subst (λ (d : Body). LocalGoesBefore d x y) (sym (body_at the_ops [] (Some 0) (the_segment ∷ []) [] [] (produced []) names f b e)) g in
      nothing_there here.0 here.1.1.0

  is_written : c.writes_names ≡ false → c.writes_producers ≡ false → IsWrittenAs c (module_left c) module_written
  is_written no_names no_producers = record {
    written = record {
      renaming = unchanged;
      segment = None;
      indices = given (module_left c) unchanged;
      carried = all_carried the_ops [] (Some 0) (the_segment ∷ []) [] [] (produced []) names (λ x. IsTheSegment None x) (the_segment ∷ []) [] [] (λ y. []);
      rises = all_rises the_ops [] (Some 0) (the_segment ∷ []) [] [] (produced []) names;
      declares = declares_none (module_left c) module_written unchanged none_undeclared;
      names = subst (λ b. WritesNames b (own_name (module_left c)) (IsLive (module_left c)) unchanged (module_left c) module_written) (sym no_names) (λ y. refl);
      producers = subst (λ b. module_written.producers ≡ if_written b (module_left c).producers) (sym no_producers) refl;
      indexed = are_given (module_left c) unchanged;
      customs = refl;
    };
    pinned = record {
      types_rise = λ i j li lj less. less;
      type_names = λ e. absurd (let no_such : false ≡ true = sym no_names ∙ e in cc);
      locals = λ f b x y e dx dy g. absurd (no_local f b x y e g);
    };
  }

  comes : c.writes_names ≡ false → c.writes_producers ≡ false → ComesTo c undeclared_bytes declared_bytes
  unfolding written_spelled
  comes no_names no_producers = comes_to c undeclared_bytes declared_bytes module_read (module_left c) module_written (is_read c) read_holds brings (is_written no_names no_producers) written_spelled written_fits

pub declared_runs : (c : Config) → c.writes_names ≡ false → c.writes_producers ≡ false → ComesToAlone c undeclared_bytes declared_bytes
declared_runs c no_names no_producers = runs c undeclared_bytes declared_bytes (comes c no_names no_producers)
