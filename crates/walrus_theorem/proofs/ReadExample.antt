-- What the bytes of the two worked modules read as, under any configuration.
use Rattle.std.proofs.Common.{◌≡◌, true, drop, ℕ, ◌+◌, ◌<◌, List, [], ◌∷◌, length, refl, sym, ◌∙◌, subst, arith, append-nil}
use Rattle.std.specs.Prelude.{AllPairs, slice_get, Option, Some, None}
use Rattle.wasm_forms.specs.Number.{IsU32, number_at, leb_at}
use Rattle.wasm_forms.specs.Grammar.{Form, Is, at, Vector, U32, row_at, block_at}
use Rattle.std.specs.Str.{is_utf8}
use Rattle.std.proofs.lemmas.Str.{is_utf8-from_IsUtf8, IsUtf8-from_ascii}
use Rattle.std.proofs.lemmas.Str.Ascii.{IsAscii-nil, IsAscii-cons}
use Rattle.std.proofs.lemmas.List.Elements.{All-nil, All-cons}
use Rattle.std.proofs.lemmas.List.Kept.{AllPairs-cons}
use Rattle.wasm_forms.proofs.Exact.{exact}
use Rattle.wasm_forms.specs.Types.{value_type}
use Rattle.wasm_entries.specs.TypeForms.{group_form, group_from, sub_from, comp_from, signature}
use Rattle.wasm_entries.specs.Forms.{export_form, kind_form, kind_from}
use Rattle.wasm_entries.specs.Record as entries
use Rattle.wasm_frames.specs.Frames.{Frames, Section, Types, Functions, Exports, Code, IsSection, IsBody, IsCode, IsContent, id_of}
use Rattle.wasm_frames.specs.Order.{StandsBefore, standard_order}
use Rattle.wasm_operators.specs.Operators as wire
use Rattle.wasm_operators.specs.Forms.{args_form, operator_of, operator_from, operator}
use Rattle.wasm_operators.specs.Table.{kinds_of}
use Rattle.walrus_bodies.specs.Body.{declarations, BodyReads}
use Rattle.walrus_model.specs.ReadFunction.{locals_from}
use Rattle.wasm_frames.specs.Record as frames
use Rattle.walrus_model.specs.Config.{Config}
use Rattle.walrus_model.specs.Reads.{context_with}
use Rattle.walrus_theorem.specs.Features.{features_of}
use Rattle.walrus_theorem.specs.Headline.{ReadsModule}
use Rattle.walrus_theorem.proofs.ReadPlain.{reads_plain, said_alone}
use Rattle.walrus_theorem.specs.Examples as worked
use Rattle.walrus_theorem.specs.Examples.{two_functions_bytes, one_function_bytes}
use Rattle.walrus_theorem.specs.Spelling.{IsSpelledAs}
use Rattle.walrus_theorem.proofs.Worked.{one_spelled}
use Rattle.walrus_model.specs.Examples.{no_values, export_f, empty_body, just_end, two_functions_sections, one_function_sections, two_functions, one_function}

-- bytes that are read to their end are a text of the form
pub reads_whole : {A : Type 0} (g : Form A) (bytes : List ℕ) (a : A) → at g bytes ≡ Some (a, []) → Is g bytes a
reads_whole g bytes a e =
    let taken = (exact g).takes bytes (a, []) e in
    subst (λ b. Is g b a) (sym (taken.1.0 ∙ append-nil taken.0)) taken.1.1

-- a number of one byte
one_byte : (n : ℕ) → n < 128 → IsU32 (n ∷ []) n
one_byte n less = record { spelled = (less, refl); short = omega arith; small = omega arith }

-- the one group of types, and the one export, as sections hold them

abbrev one_group : entries.Group
one_group = no_values

types_read : Is (Vector group_form) (0x01 ∷ 0x60 ∷ 0x00 ∷ 0x00 ∷ []) (one_group ∷ [])
unfolding group_form group_from sub_from comp_from signature value_type number_at leb_at row_at
types_read = reads_whole (Vector group_form) (0x01 ∷ 0x60 ∷ 0x00 ∷ 0x00 ∷ []) (one_group ∷ []) refl

two_read : Is (Vector U32) (0x02 ∷ 0x00 ∷ 0x00 ∷ []) (0 ∷ 0 ∷ [])
unfolding number_at leb_at row_at
two_read = reads_whole (Vector U32) (0x02 ∷ 0x00 ∷ 0x00 ∷ []) (0 ∷ 0 ∷ []) refl

one_read : Is (Vector U32) (0x01 ∷ 0x00 ∷ []) (0 ∷ [])
unfolding number_at leb_at row_at
one_read = reads_whole (Vector U32) (0x01 ∷ 0x00 ∷ []) (0 ∷ []) refl

f_is_text : is_utf8 (0x66 ∷ []) ≡ true
f_is_text = is_utf8-from_IsUtf8 (0x66 ∷ []) (IsUtf8-from_ascii (0x66 ∷ []) (IsAscii-cons 0x66 [] (omega arith) IsAscii-nil))

export_1 : Is (Vector export_form) (0x01 ∷ 0x01 ∷ 0x66 ∷ 0x00 ∷ 0x01 ∷ []) (export_f 1 ∷ [])
unfolding export_form kind_form kind_from number_at leb_at row_at block_at
export_1 = reads_whole (Vector export_form) (0x01 ∷ 0x01 ∷ 0x66 ∷ 0x00 ∷ 0x01 ∷ []) (export_f 1 ∷ []) (rw f_is_text refl)

export_0 : Is (Vector export_form) (0x01 ∷ 0x01 ∷ 0x66 ∷ 0x00 ∷ 0x00 ∷ []) (export_f 0 ∷ [])
unfolding export_form kind_form kind_from number_at leb_at row_at block_at
export_0 = reads_whole (Vector export_form) (0x01 ∷ 0x01 ∷ 0x66 ∷ 0x00 ∷ 0x00 ∷ []) (export_f 0 ∷ []) (rw f_is_text refl)

-- the end, as it is spelled
abbrev the_end : wire.Op
the_end = record { op = 0x0B; args = [] }

end_read : Is operator (0x0B ∷ []) the_end
unfolding operator operator_from operator_of args_form kinds_of
end_read = reads_whole operator (0x0B ∷ []) the_end refl

no_declarations : Is declarations (0x00 ∷ []) []
unfolding declarations number_at leb_at row_at
no_declarations = reads_whole declarations (0x00 ∷ []) [] refl

body_read : (c : Config) (r : frames.Module) (locals : ℕ → Option ℕ) → BodyReads (context_with (features_of c) r) locals (0x00 ∷ 0x0B ∷ []) [] just_end
body_read c r locals = record {
  front = 0x00 ∷ [];
  back = 0x0B ∷ [];
  parts = refl;
  declared = [];
  declares = no_declarations;
  typed = refl;
  operators = record { texts = the_end ∷ []; spelled = (0x0B ∷ [], ([], (refl, end_read, refl))); named = refl; nested = refl; allowed = refl; blocks = refl };
}

-- ---- the sections

a_body : (place : ℕ) → IsBody place (0x02 ∷ 0x00 ∷ 0x0B ∷ []) (empty_body (place + 1))
a_body place = record { size = 0x02 ∷ []; spelled = refl; sized = one_byte 2 (omega arith); starts = refl }

-- the two modules' code sections, from the count on

two_codes : IsCode 28 (0x02 ∷ 0x02 ∷ 0x00 ∷ 0x0B ∷ 0x02 ∷ 0x00 ∷ 0x0B ∷ []) (empty_body 30 ∷ empty_body 33 ∷ [])
two_codes = record {
  count = 0x02 ∷ [];
  row = 0x02 ∷ 0x00 ∷ 0x0B ∷ 0x02 ∷ 0x00 ∷ 0x0B ∷ [];
  spelled = refl;
  counted = one_byte 2 (omega arith);
  bodies = (0x02 ∷ 0x00 ∷ 0x0B ∷ [], (0x02 ∷ 0x00 ∷ 0x0B ∷ [], (refl, a_body 29, (0x02 ∷ 0x00 ∷ 0x0B ∷ [], ([], (refl, a_body 32, refl))))));
}

one_code : IsCode 27 (0x01 ∷ 0x02 ∷ 0x00 ∷ 0x0B ∷ []) (empty_body 29 ∷ [])
one_code = record {
  count = 0x01 ∷ [];
  row = 0x02 ∷ 0x00 ∷ 0x0B ∷ [];
  spelled = refl;
  counted = one_byte 1 (omega arith);
  bodies = (0x02 ∷ 0x00 ∷ 0x0B ∷ [], ([], (refl, a_body 28, refl)));
}

-- a section whose size is one byte
a_section : (place n : ℕ) (content : List ℕ) (s : Section) → n < 128 → n ≡ length content → IsContent (place + 1 + 1) content s → IsSection place (id_of s ∷ n ∷ content) s
a_section place n content s small is used = record { size = n ∷ []; content = content; spelled = refl; sized = subst (IsU32 (n ∷ [])) is (one_byte n small); used = used }

two_frames : Frames two_functions_bytes two_functions_sections
two_frames = record {
  rest = drop 8 two_functions_bytes;
  parts = Types (one_group ∷ []) ∷ Functions (0 ∷ 0 ∷ []) ∷ Exports (export_f 1 ∷ []) ∷ Code (empty_body 30 ∷ empty_body 33 ∷ []) ∷ [];
  headed = refl;
  framed = (
    0x01 ∷ 0x04 ∷ 0x01 ∷ 0x60 ∷ 0x00 ∷ 0x00 ∷ [],
    (
      drop 14 two_functions_bytes,
      (
        refl,
        a_section 8 4 (0x01 ∷ 0x60 ∷ 0x00 ∷ 0x00 ∷ []) (Types (one_group ∷ [])) (omega arith) refl types_read,
        (
          0x03 ∷ 0x03 ∷ 0x02 ∷ 0x00 ∷ 0x00 ∷ [],
          (
            drop 19 two_functions_bytes,
            (
              refl,
              a_section 14 3 (0x02 ∷ 0x00 ∷ 0x00 ∷ []) (Functions (0 ∷ 0 ∷ [])) (omega arith) refl two_read,
              (
                0x07 ∷ 0x05 ∷ 0x01 ∷ 0x01 ∷ 0x66 ∷ 0x00 ∷ 0x01 ∷ [],
                (
                  drop 26 two_functions_bytes,
                  (
                    refl,
                    a_section 19 5 (0x01 ∷ 0x01 ∷ 0x66 ∷ 0x00 ∷ 0x01 ∷ []) (Exports (export_f 1 ∷ [])) (omega arith) refl export_1,
                    (drop 26 two_functions_bytes, ([], (refl, a_section 26 7 (0x02 ∷ 0x02 ∷ 0x00 ∷ 0x0B ∷ 0x02 ∷ 0x00 ∷ 0x0B ∷ []) (Code (empty_body 30 ∷ empty_body 33 ∷ [])) (omega arith) refl two_codes, refl))),
                  ),
                ),
              ),
            ),
          ),
        ),
      ),
    ),
  );
  holds = refl;
}

one_frames : Frames one_function_bytes one_function_sections
one_frames = record {
  rest = drop 8 one_function_bytes;
  parts = Types (one_group ∷ []) ∷ Functions (0 ∷ []) ∷ Exports (export_f 0 ∷ []) ∷ Code (empty_body 29 ∷ []) ∷ [];
  headed = refl;
  framed = (
    0x01 ∷ 0x04 ∷ 0x01 ∷ 0x60 ∷ 0x00 ∷ 0x00 ∷ [],
    (
      drop 14 one_function_bytes,
      (
        refl,
        a_section 8 4 (0x01 ∷ 0x60 ∷ 0x00 ∷ 0x00 ∷ []) (Types (one_group ∷ [])) (omega arith) refl types_read,
        (
          0x03 ∷ 0x02 ∷ 0x01 ∷ 0x00 ∷ [],
          (
            drop 18 one_function_bytes,
            (
              refl,
              a_section 14 2 (0x01 ∷ 0x00 ∷ []) (Functions (0 ∷ [])) (omega arith) refl one_read,
              (
                0x07 ∷ 0x05 ∷ 0x01 ∷ 0x01 ∷ 0x66 ∷ 0x00 ∷ 0x00 ∷ [],
                (
                  drop 25 one_function_bytes,
                  (
                    refl,
                    a_section 18 5 (0x01 ∷ 0x01 ∷ 0x66 ∷ 0x00 ∷ 0x00 ∷ []) (Exports (export_f 0 ∷ [])) (omega arith) refl export_0,
                    (drop 25 one_function_bytes, ([], (refl, a_section 25 4 (0x01 ∷ 0x02 ∷ 0x00 ∷ 0x0B ∷ []) (Code (empty_body 29 ∷ [])) (omega arith) refl one_code, refl))),
                  ),
                ),
              ),
            ),
          ),
        ),
      ),
    ),
  );
  holds = refl;
}

stands : (i j a b : ℕ) → i < j → slice_get standard_order i ≡ Some a → slice_get standard_order j ≡ Some b → StandsBefore a b
stands i j a b less p q = record { place_of_a = i; place_of_b = j; earlier = less; a_stands = p; b_stands = q }

-- the four sections stand in order
in_order : AllPairs StandsBefore (1 ∷ 3 ∷ 7 ∷ 10 ∷ [])
in_order =
    AllPairs-cons StandsBefore 1 (3 ∷ 7 ∷ 10 ∷ [])
    (All-cons (StandsBefore 1) 3 (7 ∷ 10 ∷ []) (stands 0 2 1 3 (omega arith) refl refl)
    (All-cons (StandsBefore 1) 7 (10 ∷ []) (stands 0 7 1 7 (omega arith) refl refl)
    (All-cons (StandsBefore 1) 10 [] (stands 0 11 1 10 (omega arith) refl refl) (All-nil (StandsBefore 1)))))
    (AllPairs-cons StandsBefore 3 (7 ∷ 10 ∷ [])
    (All-cons (StandsBefore 3) 7 (10 ∷ []) (stands 2 7 3 7 (omega arith) refl refl)
    (All-cons (StandsBefore 3) 10 [] (stands 2 11 3 10 (omega arith) refl refl) (All-nil (StandsBefore 3))))
    (AllPairs-cons StandsBefore 7 (10 ∷ [])
    (All-cons (StandsBefore 7) 10 [] (stands 7 11 7 10 (omega arith) refl refl) (All-nil (StandsBefore 7)))
    (AllPairs-cons StandsBefore 10 [] (All-nil (StandsBefore 10)) (λ i j d less at. absurd (omega arith)))))

no_count : (n : ℕ) {X : Type 0} → ◌≡◌ {A = Option ℕ} None (Some n) → X
no_count n e = absurd (cc)

pub two_functions_read : (c : Config) → ReadsModule c two_functions_bytes two_functions
two_functions_read c =
    reads_plain c two_functions_bytes two_functions_sections (([], just_end) ∷ ([], just_end) ∷ []) two_frames refl in_order refl (λ n is. no_count n is)
    (body_read c two_functions_sections (locals_from 0 0), (body_read c two_functions_sections (locals_from 0 0), tt))

pub one_function_read : (c : Config) → ReadsModule c one_function_bytes one_function
one_function_read c =
    reads_plain c one_function_bytes one_function_sections (([], just_end) ∷ []) one_frames refl in_order refl (λ n is. no_count n is)
    (body_read c one_function_sections (locals_from 0 0), tt)

-- what the text of the worked row says is this module
pub same_modules : worked.one_function ≡ one_function
same_modules = said_alone one_function_sections (([], just_end) ∷ [])

pub left_spelled : IsSpelledAs one_function one_function_bytes
left_spelled = subst (λ n. IsSpelledAs n one_function_bytes) same_modules one_spelled
