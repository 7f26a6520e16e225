-- What the sections of a module of one empty function, which is exported, stand and fit by; and a run from its text to another.
use Rattle.std.proofs.Common.{◌≡◌, ◌≢◌, ℕ, Bool, true, false, List, [], ◌∷◌, refl, sym, ap, subst, arith, ltb, ltb-true}
use Rattle.std.specs.Prelude.{None, if◌then◌else◌, All, codes}
use mathlib.Core.Path.{fun_ext}
use Rattle.std.specs.List.{list_all}
use Rattle.std.specs.Str.{IsUtf8, IsAscii}
use Rattle.std.proofs.lemmas.Str.Ascii.{IsAscii-nil, IsAscii-cons}
use Rattle.std.proofs.lemmas.Str.{IsUtf8-from_ascii}
use Rattle.std.proofs.lemmas.List.Elements.{All-nil, All-cons}
use Rattle.wasm_forms.specs.Grammar.{Is}
use Rattle.wasm_forms.specs.Spelling.{number_bytes, groups}
use Rattle.wasm_entries.specs.Record as entries
use Rattle.wasm_entries.specs.declared.record.RawExportKind.TheVariants as kinds
use Rattle.wasm_entries.specs.TypeSpelling.{GroupStands, SubStands}
use Rattle.wasm_entries.specs.Spelling.{IsIndex, ExportStands}
use Rattle.wasm_frames.specs.Frames as frames
use Rattle.wasm_frames.specs.Frames.{Section}
use Rattle.wasm_writer.specs.Spelling.{SectionStands, SectionFits}
use Rattle.wasm_operators.specs.Forms.{args_form, operator_of, operator_from, operator}
use Rattle.wasm_operators.specs.Table.{kinds_of}
use Rattle.wasm_frames.specs.Record as wire
use Rattle.walrus_base.specs.Operators.{Item}
use Rattle.walrus_model.specs.Abstract.{Abstract, Name, Subject, AnItem, ProducerField}
use Rattle.walrus_model.specs.Names.{last_name, names_that_count, or_else, synthetic_name, name_of}
use Rattle.walrus_model.specs.Sections.{Said}
use Rattle.walrus_theorem.specs.Namings.{is_in_range}
use Rattle.walrus_theorem.specs.Sections.{items_of, module_of}
use Rattle.walrus_model.specs.Config.{Config}
use Rattle.walrus_theorem.specs.Examples.{no_values, the_end, empty_body}
use Rattle.walrus_theorem.specs.Headline.{ComesTo}
use Rattle.walrus_theorem.specs.Spelling.{BodyStands}
use Rattle.walrus_theorem.specs.Text.{unplaced}
use Rattle.walrus_theorem.specs.WorkedSections.{ComesToAlone}
use Rattle.walrus_theorem.proofs.NeedsBase.{empty_if}
use Rattle.walrus_theorem.proofs.NotBoth.{not_both}
use Rattle.walrus_theorem.proofs.OneOutput.{one_output}
use Rattle.std.proofs.lemmas.Bool.{and_parts as and_both}

pub runs : (c : Config) (input output : List ℕ) → ComesTo c input output → ComesToAlone c input output
runs c input output comes = record { comes = comes; alone = λ other run. one_output c input output other comes run; not_too_large = not_both c input output comes }

-- a text without names says what its sections say, with its producers
pub said_unnamed : (s : wire.Module) (bodies : List Said) (fields : List ProducerField) → module_of s bodies fields [] ≡ items_of s bodies fields
said_unnamed s bodies fields = ap (λ (named : Subject → List Name). record (items_of s bodies fields) { named = named }) (fun_ext (λ x. empty_if (is_in_range (items_of s bodies fields) x) [] refl))

-- an item that isn't named, and gets no name, has none
pub no_name : (c : Config) (m : Abstract) (x : Item) → m.named (AnItem x) ≡ [] → synthetic_name m (AnItem x) ≡ None → name_of c m (AnItem x) ≡ None
no_name c m x unnamed none =
    by_flag c.synthetic_names
  where
    by_flag : (b : Bool) → or_else (last_name (names_that_count b m (AnItem x))) (if b then synthetic_name m (AnItem x) else None) ≡ None
    by_flag true = subst (λ names. or_else (last_name names) (synthetic_name m (AnItem x)) ≡ None) (sym unnamed) none
    by_flag false = subst (λ names. or_else (last_name names) None ≡ None) (sym unnamed) refl

-- ---- text

ascii : (bytes : List ℕ) → list_all (λ b. ltb b 128) bytes ≡ true → IsAscii bytes
ascii [] e = IsAscii-nil
ascii (b ∷ bytes) e =
    let both = and_both (ltb b 128) (list_all (λ b. ltb b 128) bytes) e in
    IsAscii-cons b bytes (ltb-true b 128 both.0) (ascii bytes both.1)

-- bytes below 128 are text
pub is_text : (bytes : List ℕ) → list_all (λ b. ltb b 128) bytes ≡ true → IsUtf8 bytes
is_text bytes e = IsUtf8-from_ascii bytes (ascii bytes e)

pub all_one : {A : Type 0} (P : A → Type 0) (a : A) → P a → All P (a ∷ [])
all_one P a p = All-cons P a [] p (All-nil P)

-- ---- the sections

abbrev pub IsFilled : entries.Group → Type 0
IsFilled g = g ≢ []

pub not_empty : no_values ≢ []
not_empty e = cc

abbrev pub f_export : entries.Export
f_export = record { name = codes "f"; kind = kinds.Function; index = 0 }

abbrev pub type_section : Section
type_section = frames.Types (no_values ∷ [])

abbrev pub function_section : Section
function_section = frames.Functions (0 ∷ [])

abbrev pub export_section : Section
export_section = frames.Exports (f_export ∷ [])

abbrev pub code_section : Section
code_section = frames.Code (unplaced empty_body ∷ [])

end_read : Is operator (0x0B ∷ []) the_end
unfolding operator operator_from operator_of args_form kinds_of
end_read = (0x0B, (0x0B ∷ [], ([], (refl, refl, ([], (refl, (refl, refl)))))))

pub body_stands : BodyStands empty_body
body_stands = record {
  apart = λ i j d less at. absurd (omega arith);
  filled = All-nil _;
  ranked = λ i j d less at. absurd (omega arith);
  types = All-nil _;
  operators = (end_read, tt);
}

pub types_stand : SectionStands type_section
types_stand = All-cons GroupStands no_values [] (All-cons SubStands _ [] (All-nil _, (All-nil _, All-nil _)) (All-nil SubStands)) (All-nil GroupStands)

pub functions_stand : SectionStands function_section
functions_stand = All-cons IsIndex 0 [] (omega arith) (All-nil IsIndex)

exports_stand : SectionStands export_section
exports_stand = all_one ExportStands f_export (record { name = is_text (0x66 ∷ []) refl; index = omega arith })

pub types_fit : SectionFits type_section
unfolding number_bytes groups
types_fit = ((omega arith, (((omega arith, ((omega arith, (omega arith, omega arith)), tt)), tt))), omega arith)

pub functions_fit : SectionFits function_section
unfolding number_bytes groups
functions_fit = (omega arith, omega arith)

exports_fit : SectionFits export_section
unfolding number_bytes groups
exports_fit = ((omega arith, (omega arith, tt)), omega arith)

code_fits : SectionFits code_section
unfolding number_bytes groups
code_fits = ((omega arith, (omega arith, tt)), omega arith)

-- those of the module, and further ones
all_four : (P : Section → Type 0) → P type_section → P function_section → P export_section → P code_section → (further : List Section) → All P further → All P (type_section ∷ function_section ∷ export_section ∷ code_section ∷ further)
all_four P types functions exports code further rest =
    All-cons P type_section (function_section ∷ export_section ∷ code_section ∷ further) types
    (All-cons P function_section (export_section ∷ code_section ∷ further) functions
    (All-cons P export_section (code_section ∷ further) exports (All-cons P code_section further code rest)))

pub empty_stand : (further : List Section) → All SectionStands further → All SectionStands (type_section ∷ function_section ∷ export_section ∷ code_section ∷ further)
empty_stand = all_four SectionStands types_stand functions_stand exports_stand tt

pub empty_fit : (further : List Section) → All SectionFits further → All SectionFits (type_section ∷ function_section ∷ export_section ∷ code_section ∷ further)
empty_fit = all_four SectionFits types_fit functions_fit exports_fit code_fits
