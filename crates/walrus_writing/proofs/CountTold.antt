-- The place that is told of the count of functions is where it stands in a module's bytes.
use Rattle.std.proofs.Common.{◌≡◌, ℕ, ◌+◌, List, [], ◌∷◌, ◌++◌, length, map, sym, ap, ◌∙◌, arith, append_assoc, length-append, Some, None}
use Rattle.std.specs.Prelude.{◌≢◌, All, Option}
use Rattle.std.proofs.lemmas.List.Elements.{All-append, All-cons, All-nil}
use Rattle.wasm_forms.specs.Spelling.{number_bytes}
use Rattle.wasm_frames.specs.Record as wire
use Rattle.wasm_frames.specs.Frames.{Section, Code, CustomSection, DataCount, DataSegments, Elements, Exports, Functions, Globals, Imports, Memories, Start, Tables, Tags, Types, header, id_of}
use Rattle.wasm_writer.specs.Spelling.{all_spelled, content_bytes, count_place}
use Rattle.wasm_wire.specs.ModuleSpelling.{before_code, code_place, customs_behind, customs_of, if_any, if_given, module_bytes}
use Rattle.wasm_wire.specs.declared.written.CustomGroup.TheVariants.{Dylink}
use Rattle.wasm_wire.proofs.ModuleFramed.{spelled-append}
use Rattle.walrus_writing.specs.Transform.{CountStandsAt}

-- ---- no section before it is a code section

abbrev IsNoCode : Section → Type 0
IsNoCode s = id_of s ≢ 10

none_custom : (cs : List wire.Custom) → All IsNoCode (map CustomSection cs)
none_custom [] = All-nil IsNoCode
none_custom (c ∷ cs) = All-cons IsNoCode (CustomSection c) (map CustomSection cs) (λ e. cc) (none_custom cs)

any : {A : Type 0} (make : List A → Section) (xs : List A) → IsNoCode (make xs) → All IsNoCode (if_any make xs)
any make [] h = All-nil IsNoCode
any make (x ∷ xs) h = All-cons IsNoCode (make (x ∷ xs)) [] h (All-nil IsNoCode)

given : (make : ℕ → Section) (o : Option ℕ) → ((n : ℕ) → IsNoCode (make n)) → All IsNoCode (if_given make o)
given make None h = All-nil IsNoCode
given make (Some n) h = All-cons IsNoCode (make n) [] (h n) (All-nil IsNoCode)

then : (xs ys : List Section) → All IsNoCode xs → All IsNoCode ys → All IsNoCode (xs ++ ys)
then xs ys h k = All-append IsNoCode xs ys h k

module _ (m : wire.Module) where
  none_before : All IsNoCode (before_code m)
  none_before =
      then _ _ (then _ _ (then _ _ (then _ _ (then _ _ (then _ _ (then _ _ (then _ _ (then _ _ (then _ _
      (any Types m.types (λ e. cc)) (any Imports m.imports (λ e. cc))) (any Functions m.functions (λ e. cc))) (any Tables m.tables (λ e. cc)))
      (any Memories m.memories (λ e. cc))) (any Tags m.tags (λ e. cc))) (any Globals m.globals (λ e. cc))) (any Exports m.exports (λ e. cc)))
      (given Start m.start (λ n e. cc))) (any Elements m.elements (λ e. cc))) (given DataCount m.data_count (λ n e. cc))

  abbrev front : List Section
  front = customs_of Dylink m ++ before_code m

  abbrev rest : List Section
  rest = if_any DataSegments m.data_segments ++ customs_behind m

  parted : (bs : List wire.Body) (code : List Section) → code ≡ Code bs ∷ [] → customs_of Dylink m ++ (before_code m ++ code ++ if_any DataSegments m.data_segments) ++ customs_behind m ≡ front ++ Code bs ∷ rest
  parted bs code is =
      ap (λ (l : List Section). customs_of Dylink m ++ (before_code m ++ l ++ if_any DataSegments m.data_segments) ++ customs_behind m) is
      ∙ regrouped (customs_of Dylink m) (before_code m) (if_any DataSegments m.data_segments) (customs_behind m)
    where
      regrouped : (a b d e : List Section) → a ++ (b ++ Code bs ∷ [] ++ d) ++ e ≡ (a ++ b) ++ Code bs ∷ (d ++ e)
      regrouped a b d e =
          append_assoc a (b ++ Code bs ∷ [] ++ d) e
          ∙ ap (λ (l : List Section). a ++ l) (ap (λ (l : List Section). l ++ e) (append_assoc b (Code bs ∷ []) d) ∙ append_assoc b (Code bs ∷ d) e)
          ∙ sym (append_assoc a b (Code bs ∷ d ++ e))

  module _ (b : wire.Body) (bs : List wire.Body) (some : m.bodies ≡ b ∷ bs) where
    abbrev code : Section
    code = Code (b ∷ bs)

    split : module_bytes m ≡ header ++ all_spelled (front ++ code ∷ rest)
    split = ap (λ (l : List Section). header ++ all_spelled l) (parted (b ∷ bs) (if_any Code m.bodies) (ap (if_any Code) some))

    abbrev size : List ℕ
    size = number_bytes (length (content_bytes code))

    long : length (module_bytes m) ≡ code_place m + 1 + length size + length (content_bytes code ++ all_spelled rest)
    long =
        let whole : length (module_bytes m) ≡ length (header ++ all_spelled (front ++ code ∷ rest)) = ap length split in
        let one : length (header ++ all_spelled (front ++ code ∷ rest)) ≡ length header + length (all_spelled (front ++ code ∷ rest)) = length-append header (all_spelled (front ++ code ∷ rest)) in
        let two : length (all_spelled (front ++ code ∷ rest)) ≡ length (all_spelled front ++ all_spelled (code ∷ rest)) = ap length (spelled-append front (code ∷ rest)) in
        let three : length (all_spelled front ++ all_spelled (code ∷ rest)) ≡ length (all_spelled front) + length (all_spelled (code ∷ rest)) = length-append (all_spelled front) (all_spelled (code ∷ rest)) in
        let four : length (all_spelled front) ≡ length (all_spelled (customs_of Dylink m) ++ all_spelled (before_code m)) = ap length (spelled-append (customs_of Dylink m) (before_code m)) in
        let five : length (all_spelled (customs_of Dylink m) ++ all_spelled (before_code m)) ≡ length (all_spelled (customs_of Dylink m)) + length (all_spelled (before_code m)) = length-append (all_spelled (customs_of Dylink m)) (all_spelled (before_code m)) in
        let six : length (all_spelled (code ∷ rest)) ≡ 1 + length (size ++ content_bytes code ++ all_spelled rest) = omega arith in
        let seven : length (size ++ content_bytes code ++ all_spelled rest) ≡ length (size ++ (content_bytes code ++ all_spelled rest)) = ap length (append_assoc size (content_bytes code) (all_spelled rest)) in
        let eight : length (size ++ (content_bytes code ++ all_spelled rest)) ≡ length size + length (content_bytes code ++ all_spelled rest) = length-append size (content_bytes code ++ all_spelled rest) in
        omega (arith, whole, one, two, three, four, five, six, seven, eight)

    pub count_stands : CountStandsAt (module_bytes m) (count_place (code_place m) m.bodies)
    count_stands = record {
      before = front;
      bodies = b ∷ bs;
      behind = rest;
      written = split;
      first = then (customs_of Dylink m) (before_code m) (none_custom _) none_before;
      stands = long ∙ ap (λ (l : List wire.Body). count_place (code_place m) l + length (content_bytes code ++ all_spelled rest)) (sym some);
    }
