-- What is spelled in sections that fit has counts, limits and numbers of locals that 32 bits hold, whatever its bodies are.
use Rattle.std.proofs.Common.{◌≡◌, ℕ, ◌+◌, ◌≤◌, ◌<◌, ◌^◌, List, [], ◌∷◌, ◌++◌, length, map, zip, sym, subst, arith, length-append, ⊎_elim}
use Rattle.std.specs.Prelude.{Some, All, Contains, flat_map, slice_get}
use Rattle.std.specs.List.{AllByRecursion}
use Rattle.std.proofs.lemmas.List.Elements.{All-head, recursion_from_All}
use Rattle.std.proofs.lemmas.List.{length-map}
use Rattle.wasm_forms.specs.Spelling.{number_bytes, row_bytes}
use Rattle.wasm_forms.specs.Writing.{FitsLength, EachFits}
use Rattle.wasm_frames.specs.Frames as frames
use Rattle.wasm_frames.specs.Frames.{Section, CustomSection}
use Rattle.wasm_frames.specs.Record as wire
use Rattle.wasm_frames.specs.Spelling.{body_bytes}
use Rattle.wasm_operators.specs.declared.operator.RawArg.{RawArg}
use Rattle.wasm_operators.specs.declared.operator.RawArg.TheVariants as raw
use Rattle.wasm_operators.specs.Operators as wire_operators
use Rattle.wasm_operators.specs.Forms.{operator}
use Rattle.wasm_operators.specs.Spelling.{arg_bytes, code_bytes, op_bytes}
use Rattle.wasm_writer.specs.Spelling.{SectionFits}
use Rattle.walrus_base.specs.Operators.{Arg, Index, Label, Local, Number, Count, Byte, S32, S64, Bits32, Bits64, Value, Heap, Block, Access, Op, arg_locals, op_locals, locals_of}
use Rattle.walrus_code.specs.FromRaw.{arg_of, op_of, ops_of}
use Rattle.walrus_model.specs.EmittedBody.{declaration_bytes, declarations_bytes}
use Rattle.walrus_model.specs.BlockHandlers.{params_of}
use Rattle.walrus_model.specs.Abstract.{Body, Function, LocalFunction}
use Rattle.walrus_model.specs.Names.{body_of}
use Rattle.walrus_model.specs.Sections.{body_with, types_of, imported, imported_function, function_with}
use Rattle.walrus_model.specs.Refers.{IsUsed, used_locals}
use Rattle.walrus_base.proofs.Lists.{Contains-none, Contains-uncons}
use Rattle.walrus_theorem.specs.OneRun.{Fits}
use Rattle.walrus_theorem.specs.Sections.{module_of}
use Rattle.walrus_theorem.specs.Spelling.{BodyStands, IsSpelling, written_as}
use Rattle.walrus_theorem.specs.Text.{BodyText, Text, listed, if_some, sections_of, said, text_bytes, unplaced, namings_of}
use Rattle.walrus_theorem.proofs.BodiesBack.{row_is}
use Rattle.walrus_model.proofs.FormLimits.{row_all}
use Rattle.walrus_model.proofs.OneList.{All-front, All-back}
use Rattle.walrus_theorem.proofs.OneSections.{laid}
use Rattle.walrus_theorem.proofs.OneSpelling.{told}
use Rattle.walrus_theorem.proofs.ReadFits.{OnBody, imports_on, UsesSmall, ops_small, function_body, all_fits}
use Rattle.walrus_theorem.proofs.ReadsBack.{held, held_laid, held_in_order, framed_back}
use Rattle.wasm_frames.proofs.SectionRows.{rows}
use Rattle.walrus_theorem.proofs.StepHandlers.{Contains-split}
use Rattle.walrus_theorem.proofs.TextShaped.{all_at}
use Rattle.wasm_operators.proofs.TextsStand.{ArgGood, operator_good}
use Rattle.walrus_theorem.proofs.UsedFound.{ArgHolds, OpsHold}
use Rattle.walrus_theorem.proofs.SpelledFits.{number_long}
use Rattle.walrus_bodies.proofs.LawNamed.{each_append as all_append}

-- ---- operators have no more uses of locals than bytes

least : (n : ℕ) → 0 ≤ n
least n = omega arith

arg_uses : (a : RawArg) → length (arg_locals (arg_of a)) ≤ length (arg_bytes a)
arg_uses (raw.Local n) = number_long n
arg_uses a = least (length (arg_bytes a))

args_use : (xs : List RawArg) → length (flat_map arg_locals (map arg_of xs)) ≤ length (row_bytes arg_bytes xs)
args_use [] = omega arith
args_use (x ∷ xs) = omega (arith, length-append (arg_locals (arg_of x)) (flat_map arg_locals (map arg_of xs)), length-append (arg_bytes x) (row_bytes arg_bytes xs), arg_uses x, args_use xs)

op_uses : (o : wire_operators.Op) → length (op_locals (op_of o)) ≤ length (op_bytes o)
op_uses o = omega (arith, args_use o.args, length-append (code_bytes o.op) (row_bytes arg_bytes o.args))

ops_use : (os : List wire_operators.Op) → length (locals_of (ops_of os)) ≤ length (row_bytes op_bytes os)
ops_use [] = omega arith
ops_use (o ∷ os) = omega (arith, length-append (op_locals (op_of o)) (locals_of (ops_of os)), length-append (op_bytes o) (row_bytes op_bytes os), op_uses o, ops_use os)

text_uses : (x : BodyText) → length (locals_of (said x).1) ≤ length (text_bytes x)
text_uses x = omega (arith, ops_use x.operators, length-append (declarations_bytes x.declarations) (row_bytes op_bytes x.operators))

text_some : (x : BodyText) → 1 ≤ length (text_bytes x)
text_some x = omega (arith, number_long (length x.declarations), length-append (number_bytes (length x.declarations)) (row_bytes declaration_bytes x.declarations), length-append (declarations_bytes x.declarations) (row_bytes op_bytes x.operators))

-- ---- and these name small ones

module _ (P : ℕ → Type 0) where
  arg_holds : (a : Arg) → ArgHolds P a → (y : ℕ) → Contains (arg_locals a) y → P y
  arg_holds (Local n) h y at = ⊎_elim (λ (e : n ≡ y). subst P e h) (λ rest. absurd (Contains-none y rest)) (Contains-uncons n y [] at)
  arg_holds (Index x) h y at = absurd (Contains-none y at)
  arg_holds (Access flags memory offset) h y at = absurd (Contains-none y at)
  arg_holds (Value v) h y at = absurd (Contains-none y at)
  arg_holds (Heap k) h y at = absurd (Contains-none y at)
  arg_holds (Block b) h y at = absurd (Contains-none y at)
  arg_holds (Label n) h y at = absurd (Contains-none y at)
  arg_holds (Number n) h y at = absurd (Contains-none y at)
  arg_holds (Count n) h y at = absurd (Contains-none y at)
  arg_holds (Byte n) h y at = absurd (Contains-none y at)
  arg_holds (S32 n) h y at = absurd (Contains-none y at)
  arg_holds (S64 n) h y at = absurd (Contains-none y at)
  arg_holds (Bits32 n) h y at = absurd (Contains-none y at)
  arg_holds (Bits64 n) h y at = absurd (Contains-none y at)

  args_hold : (xs : List Arg) → AllByRecursion (ArgHolds P) xs → (y : ℕ) → Contains (flat_map arg_locals xs) y → P y
  args_hold [] h y at = absurd (Contains-none y at)
  args_hold (x ∷ xs) h y at = ⊎_elim (λ here. arg_holds x h.0 y here) (λ rest. args_hold xs h.1 y rest) (Contains-split y (arg_locals x) (flat_map arg_locals xs) at)

  ops_hold : (os : List Op) → OpsHold P os → (y : ℕ) → Contains (locals_of os) y → P y
  ops_hold [] h y at = absurd (Contains-none y at)
  ops_hold (o ∷ os) h y at = ⊎_elim (λ here. args_hold o.args h.0 y here) (λ rest. ops_hold os h.1 y rest) (Contains-split y (op_locals o) (locals_of os) at)

text_small : (x : BodyText) → BodyStands x → (y : ℕ) → Contains (locals_of (said x).1) y → y < 2 ^ 32
text_small x stands y at =
    let good = row_all operator (λ (o : wire_operators.Op). AllByRecursion ArgGood o.args) operator_good (row_bytes op_bytes x.operators) x.operators (row_is x.operators stands.operators) in
    ops_hold (λ n. n < 2 ^ 32) (ops_of x.operators) (ops_small x.operators good) y at

-- ---- the code section

bodies_take : (xs : List BodyText) → length xs + length xs ≤ length (row_bytes body_bytes (map unplaced xs))
bodies_take [] = omega arith
bodies_take (x ∷ xs) =
    let size : List ℕ = number_bytes (length (text_bytes x)) in
    omega (arith, length-append (size ++ text_bytes x) (row_bytes body_bytes (map unplaced xs)), length-append size (text_bytes x), number_long (length (text_bytes x)), text_some x, bodies_take xs)

few_bodies : (xs : List BodyText) → All SectionFits (listed frames.Code (map unplaced xs)) → length xs + length xs < 2 ^ 32
few_bodies [] h = omega arith
few_bodies (x ∷ xs) h =
    let bs : List wire.Body = map unplaced (x ∷ xs) in
    let fit : length (number_bytes (length bs) ++ row_bytes body_bytes bs) < 2 ^ 32 = (All-head SectionFits (frames.Code bs) [] h).1 in
    omega (arith, fit, length-append (number_bytes (length bs)) (row_bytes body_bytes bs), bodies_take (x ∷ xs))

abbrev BodyFits : wire.Body → Type 0
BodyFits b = FitsLength b.bytes

bodies_fit : (xs : List BodyText) → All SectionFits (listed frames.Code (map unplaced xs)) → EachFits BodyFits (map unplaced xs)
bodies_fit [] h = tt
bodies_fit (x ∷ xs) h = (All-head SectionFits (frames.Code (map unplaced (x ∷ xs))) [] h).0.1

-- as many uses of locals as 32 bits count
abbrev pub UsesFew : Body → Type 0
UsesFew b = length (used_locals b) < 2 ^ 32

local_same : (b d : Body) → LocalFunction b ≡ LocalFunction d → b ≡ d
local_same b d e = cc

module _ (s : wire.Module) where
  functions_small : (fs : List ℕ) (xs : List BodyText) → AllByRecursion BodyStands xs → AllByRecursion (OnBody UsesSmall) (map (function_with s) (zip fs (map said xs)))
  functions_small [] xs h = tt
  functions_small (f ∷ fs) [] h = tt
  functions_small (f ∷ fs) (x ∷ xs) h =
      ((λ b e y used. text_small x h.0 y (subst (λ (z : Body). IsUsed z y) (sym (local_same (body_with (params_of (types_of s f)) (said x)) b e)) used)), functions_small fs xs h.1)

  functions_few : (fs : List ℕ) (xs : List BodyText) → EachFits BodyFits (map unplaced xs) → AllByRecursion (OnBody UsesFew) (map (function_with s) (zip fs (map said xs)))
  functions_few [] xs h = tt
  functions_few (f ∷ fs) [] h = tt
  functions_few (f ∷ fs) (x ∷ xs) h =
      let low : length (locals_of (said x).1) < 2 ^ 32 = omega (arith, h.0, text_uses x) in
      ((λ b e. subst UsesFew (local_same (body_with (params_of (types_of s f)) (said x)) b e) low), functions_few fs xs h.1)

-- ---- all of it

module _ (t : Text) (spells : IsSpelling (told t) t) (fits : All SectionFits (sections_of t)) where
  abbrev before : List Section
  before = map CustomSection t.dylinks ++ listed frames.Types t.types ++ listed frames.Imports t.imports ++ listed frames.Functions t.functions ++ listed frames.Tables t.tables ++ listed frames.Memories t.memories
      ++ listed frames.Tags t.tags ++ listed frames.Globals t.globals ++ listed frames.Exports t.exports ++ if_some frames.Start t.start ++ listed frames.Elements t.elements
      ++ if_some frames.DataCount t.data_count

  abbrev code : List Section
  code = listed frames.Code (map unplaced t.bodies)

  abbrev with_data : List Section
  with_data = listed frames.DataSegments t.data_segments

  code_fits : All SectionFits (listed frames.Code (map unplaced t.bodies))
  code_fits =
      All-back SectionFits before code
      (All-front SectionFits (before ++ code) with_data
      (All-front SectionFits (before ++ code ++ with_data) _
      (All-front SectionFits _ _
      (All-front SectionFits _ (map CustomSection t.others) fits))))

  few : length (map said t.bodies) + length (map said t.bodies) < 2 ^ 32
  few = let n : length (map said t.bodies) ≡ length t.bodies = length-map t.bodies said in omega (arith, n, few_bodies t.bodies code_fits)

  stand : AllByRecursion BodyStands t.bodies
  stand = recursion_from_All BodyStands t.bodies spells.bodies

  pub text_fits : Fits (told t)
  text_fits =
      subst (λ (s : wire.Module). Fits (module_of s (map said t.bodies) t.producers (namings_of t.names))) (held_laid t)
      (all_fits (held t) (rows (written_as t) (held t) (framed_back t spells.stand fits) (held_in_order t)) (map said t.bodies) few
      (subst (λ (s : wire.Module). AllByRecursion (OnBody UsesSmall) (map (function_with s) (zip s.functions (map said t.bodies)))) (sym (held_laid t)) (functions_small (laid t) t.functions t.bodies stand))
      t.producers (namings_of t.names))

  pub few_uses : (f : ℕ) (b : Body) → body_of (told t) f ≡ Some b → UsesFew b
  few_uses f b e =
      let all : List Function = imported imported_function 0 t.imports ++ map (function_with (laid t)) (zip t.functions (map said t.bodies)) in
      let g = function_body (slice_get all f) b e in
      all_at (OnBody UsesFew) all f g.0
      (all_append (OnBody UsesFew) (imported imported_function 0 t.imports) (map (function_with (laid t)) (zip t.functions (map said t.bodies))) (imports_on UsesFew 0 t.imports) (functions_few (laid t) t.functions t.bodies (bodies_fit t.bodies code_fits)))
      g.1.0 b g.1.1
