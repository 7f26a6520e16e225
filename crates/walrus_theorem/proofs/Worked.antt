-- The worked row is spelled; wrong texts aren't.
use Rattle.std.proofs.Common.{◌≡◌, true, false, ℕ, zero, suc, List, [], ◌∷◌, refl, sym, subst, arith, inl, inr, ap, ◌∙◌}
use Rattle.std.specs.Prelude.{codes, All, Some, ◌≢◌, ◌++◌, Bool}
use Rattle.std.proofs.lemmas.Str.Ascii.{IsAscii-nil, IsAscii-cons}
use Rattle.std.proofs.lemmas.Str.{IsUtf8-from_ascii}
use Rattle.std.proofs.lemmas.List.Elements.{All-nil, All-cons}
use Rattle.wasm_forms.specs.Grammar.{Is}
use Rattle.wasm_forms.specs.Spelling.{number_bytes, groups}
use Rattle.wasm_entries.specs.Record as entries
use Rattle.wasm_entries.specs.declared.record.RawExportKind.TheVariants as kinds
use Rattle.wasm_entries.specs.TypeSpelling.{GroupStands, SubStands}
use Rattle.wasm_entries.specs.Spelling.{IsIndex, ExportStands}
use Rattle.wasm_frames.specs.Frames.{Types, Functions, Exports, Code}
use Rattle.wasm_writer.specs.Spelling.{SectionStands}
use Rattle.wasm_operators.specs.Forms.{args_form, operator_of, operator_from, operator, arg_form}
use Rattle.wasm_operators.specs.Table.{kinds_of}
use Rattle.walrus_model.specs.Abstract.{Body}
use Rattle.walrus_model.specs.Names.{body_of}
use Rattle.walrus_model.specs.Sections.{body_with}
use Rattle.walrus_theorem.specs.Text.{unplaced}
use Rattle.wasm_forms.specs.declared.types.RawVal.TheVariants as vals
use Rattle.wasm_operators.specs.declared.operator.RawArg.TheVariants as args
use Rattle.wasm_operators.specs.Operators as wire
use Rattle.walrus_base.proofs.Lists.{Contains-none}
use Rattle.walrus_theorem.specs.Spelling.{BodyStands, UsesAll, NeedsCount, IsNarrow, IsSpelledAs, written_as}
use Rattle.walrus_theorem.specs.Examples.{no_values, the_end, empty_body, one_text, one_function, one_function_bytes, padded_bytes, AreRefused}

end_read : Is operator (0x0B ∷ []) the_end
unfolding operator operator_from operator_of args_form kinds_of
end_read = (0x0B, (0x0B ∷ [], ([], (refl, refl, ([], (refl, (refl, refl)))))))

types_stand : SectionStands (Types (no_values ∷ []))
types_stand = All-cons GroupStands no_values [] (All-cons SubStands _ [] (All-nil _, (All-nil _, All-nil _)) (All-nil SubStands)) (All-nil GroupStands)

abbrev f_export : entries.Export
f_export = record { name = codes "f"; kind = kinds.Function; index = 0 }

body_stands : BodyStands empty_body
body_stands = record {
  apart = λ i j d less at. absurd (omega arith);
  filled = All-nil _;
  ranked = λ i j d less at. absurd (omega arith);
  types = All-nil _;
  operators = (end_read, tt);
}

the_body : (b : Body) → body_of one_function 0 ≡ Some b → body_with [] ([], record { op = 0x0B; args = [] } ∷ []) ≡ b
the_body b e = cc

uses : (f : ℕ) (b : Body) → body_of one_function f ≡ Some b → UsesAll b
uses zero b e = subst UsesAll (the_body b e) (λ x low high. absurd (omega arith))
uses (suc f) b e = absurd (cc)

no_data : NeedsCount one_function → ⊥
no_data (inl (zero, p)) = p
no_data (inl (suc d, p)) = p
no_data (inr (zero, (d, c))) = Contains-none _ c
no_data (inr (suc f, (d, c))) = c

all_four : {A : Type 0} (P : A → Type 0) (a b c d : A) → P a → P b → P c → P d → All P (a ∷ b ∷ c ∷ d ∷ [])
all_four P a b c d p q r s = All-cons P a (b ∷ c ∷ d ∷ []) p (All-cons P b (c ∷ d ∷ []) q (All-cons P c (d ∷ []) r (All-cons P d [] s (All-nil P))))

export_stands : ExportStands f_export
export_stands = record { name = IsUtf8-from_ascii (0x66 ∷ []) (IsAscii-cons 0x66 [] (omega arith) IsAscii-nil); index = omega arith }

abbrev IsFilled : entries.Group → Type 0
IsFilled g = g ≢ []

not_empty : no_values ≢ []
not_empty e = cc

pub one_spelled : IsSpelledAs one_function one_function_bytes
unfolding number_bytes groups
one_spelled = record {
  text = one_text;
  spells = record {
    says = refl;
    stand = all_four SectionStands (Types (no_values ∷ [])) (Functions (0 ∷ [])) (Exports (f_export ∷ [])) (Code (unplaced empty_body ∷ []))
        types_stand
        (All-cons IsIndex 0 [] (omega arith) (All-nil IsIndex))
        (All-cons ExportStands f_export [] export_stands (All-nil ExportStands))
        tt;
    filled = All-cons IsFilled no_values [] not_empty (All-nil IsFilled);
    bodies = All-cons BodyStands empty_body [] body_stands (All-nil BodyStands);
    used = uses;
    as_many_bodies = refl;
    elements = All-nil _;
    data_count = no_data;
    names = record {
      module_name = tt;
      items = λ space. ((λ i j d less at. absurd (omega arith)), All-nil _);
      functions = λ i j d less at. absurd (omega arith);
      locals = All-nil _;
      are_there = All-nil _;
    };
    producers = All-nil _;
    dylinks = All-nil _;
    others = All-nil _;
  };
  written = refl;
}

abbrev padded_op : wire.Op
padded_op = record { op = 0x41; args = args.Byte 0x80 ∷ args.Byte 0x00 ∷ [] }

no_constant : (back : List ℕ) → Is (operator_from 0x41) back padded_op → ⊥
unfolding operator_from operator_of args_form arg_form kinds_of
no_constant back (found, (is, (x, (made, (f, (b, (cut, (z, (is_one, si)), rest))))))) =
    let e : (args.Byte 0x80 ∷ args.Byte 0x00 ∷ []) ≡ x.0 ++ x.1 = ap (λ (o : wire.Op). o.args) is ∙ made in
    let apart : (args.Byte 0x80 ∷ args.Byte 0x00 ∷ []) ≡ args.S32 z ∷ x.1 = subst (λ l. (args.Byte 0x80 ∷ args.Byte 0x00 ∷ []) ≡ l ++ x.1) is_one e in
    absurd (cc)

no_padded : Is operator (0x41 ∷ 0x80 ∷ 0x00 ∷ []) padded_op → ⊥
unfolding operator
no_padded (b, (front, (back, (cut, first, rest)))) =
    let e : b ≡ 0x41 = cc in
    no_constant back (subst (λ k. Is (operator_from k) back padded_op) e rest)

no_padded_size : padded_bytes ≡ written_as one_text → ⊥
unfolding number_bytes groups
no_padded_size e = absurd (cc)

is_wide : {b : Bool} → b ≡ false → b ≡ true → ⊥
is_wide f t = absurd (cc)

pub are_refused : AreRefused
unfolding one_spelled
are_refused = record {
  padded_operator = λ s. no_padded s.operators.0;
  types_turned = λ s. let low = s.ranked 0 1 (0, vals.I32) (omega arith) (omega arith) in omega arith;
  type_twice = λ s. s.apart 0 1 (0, vals.I32) (omega arith) (omega arith) refl;
  none = λ s. let low = s.filled 0 (0, vals.I32) (omega arith) in omega arith;
  unused = λ u. Contains-none 0 (u 0 (omega arith) (omega arith));
  empty_group = λ n s. s.filled 0 [] (omega arith) refl;
  table_named = λ n t at narrow c. c (refl, subst IsNarrow (sym at) narrow, tt);
  table_unnamed = λ n t at wide c. is_wide (subst IsNarrow at c.1) wide;
  idle_count = λ c. no_data c.0;
  named_twice = λ m. let low = m.0 0 1 (0, []) (omega arith) (omega arith) in omega arith;
  turned_names = λ m. let low = m.0 0 1 (0, []) (omega arith) (omega arith) in omega arith;
  padded_size = λ once s. no_padded_size (s.written ∙ ap written_as (once one_function one_text s.text one_spelled.spells s.spells));
}
