-- The code transform of a module that is written: where the bodies of its functions, their operators and the count of functions stand in
-- its bytes.
use Rattle.std.specs.Prelude.{ℕ, ◌+◌, Bool, true, false, List, [], ◌∷◌, ◌++◌, All, length, map, Option, Some, None, Result, Err, IfOk, ◌≡◌, ◌≢◌}
use Rattle.std.specs.Global.{Vec}
use Rattle.wasm_forms.specs.declared.types.RawVal.{RawVal}
use Rattle.wasm_forms.specs.Grammar.{Is}
use Rattle.wasm_forms.specs.Spelling.{row_bytes}
use Rattle.wasm_operators.specs.Operators as operators
use Rattle.wasm_operators.specs.Spelling.{op_bytes}
use Rattle.wasm_frames.specs.Record as wire
use Rattle.wasm_frames.specs.Frames.{Section, Code, Frames, header, id_of}
use Rattle.wasm_writer.specs.Spelling.{all_spelled, content_bytes}
use Rattle.wasm_wire.specs.ModuleSpelling.{group_of}
use Rattle.wasm_wire.specs.declared.written.CustomGroup.TheVariants.{Dylink}
use Rattle.walrus_code.specs.Location.{location}
use Rattle.walrus_code.specs.Names.{Lookup}
use Rattle.walrus_items.specs.Function.{locations_of}
use Rattle.walrus_items.specs.LocalFunction.{LocalFunction}
use Rattle.walrus_bodies.specs.Body as bodies
use Rattle.walrus_bodies.specs.Emitting.{AllStand, places_from}
use Rattle.walrus_functions.specs.Transform.{Transform}
use Rattle.walrus_items.specs.Functions.{functions}
use Rattle.walrus_items.specs.Transform.{transform_of}
use Rattle.walrus_items.specs.declared.error.Error.{Error}
use Rattle.walrus_items.specs.declared.transform.CodeTransform.{CodeTransform}
use Rattle.walrus_contents.specs.declared.parts.Parts.{Parts}
use Rattle.walrus_model.specs.Abstract.{Abstract}
use Rattle.walrus_model.specs.Config.{Config}
use Rattle.walrus_model.specs.Sections.{imported, imported_function}
use Rattle.walrus_model.specs.Transform.{IsBodyOf, IsLocalFunction, TrueOf}
use Rattle.walrus_theorem.specs.Pinned.{IsWrittenAs}
use Rattle.walrus_theorem.specs.Refused.{IsSayable, RefusesToWrite}
use Rattle.walrus_theorem.specs.Spelling.{IsSpelledAs}
use Rattle.walrus_writing.specs.declared.write.Choices.{Choices}
use Rattle.walrus_writing.specs.Customs.{IsAsked, task}
use Rattle.walrus_writing.specs.Emitted.{IsEmitted, IsWrittenWith, refusal_of, told}
use Rattle.walrus_writing.specs.Parts.{local_in}
use Rattle.walrus_writing.specs.Records.{Spells}

-- ---- places in bytes

-- The count of functions stands at this place: in the first code section, behind its id and its size, so that from there on the bytes are
-- its count and its bodies, and the sections behind it ("Binary Format > Modules > Code Section").
pub record CountStandsAt (bytes : List ℕ) (place : ℕ) : Type 0 where
  pub before : List Section
  pub bodies : List wire.Body
  pub behind : List Section
  pub written : bytes ≡ header ++ all_spelled (before ++ Code bodies ∷ behind)
  pub first : All (λ s. id_of s ≢ id_of (Code bodies)) before
  pub stands : length bytes ≡ place + length (content_bytes (Code bodies) ++ all_spelled behind)

-- The bytes of a body are declarations of locals and operators, the first bytes of which have these places ("Binary Format > Modules >
-- Code Section").
pub record OperatorsStandAt (bytes places : List ℕ) : Type 0 where
  pub front : List ℕ
  pub declared : List (ℕ × RawVal)
  pub declares : Is bodies.declarations front declared
  pub texts : List operators.Op
  pub stand : AllStand texts
  pub spelled : bytes ≡ front ++ row_bytes op_bytes texts
  pub placed : places ≡ places_from (length front) texts

-- how many functions a module imports
abbrev pub imported_functions : wire.Module → ℕ
imported_functions raw = length (imported imported_function 0 raw.imports)

-- ---- the transform

-- `locations f`: the locations of the operators of local function f, one after another.
-- The bytes are the one spelling of what v is written as, and frame the module `raw`; and of its places, under the numbering with which v
-- was written, the transform is true.
pub record IsTransformOf (c : Config) (keeps_locations : Bool) (locations : ℕ → List ℕ) (v : Abstract) (bytes : List ℕ) (x : Transform) : Type 0 where
  pub module_written : Abstract
  pub written : IsWrittenAs c v module_written
  pub spelled : IsSpelledAs module_written bytes
  pub raw : wire.Module
  pub framed : Frames bytes raw
  pub offsets : ℕ → List (ℕ × ℕ)
  pub located : (f : ℕ) → IsLocalFunction v f → map (λ o. o.0) (offsets f) ≡ locations f
  pub stand : (f : ℕ) (b : wire.Body) → IsLocalFunction v f → IsBodyOf (imported_functions raw) written.written.renaming raw f b
      → OperatorsStandAt b.bytes (map (λ o. o.1) (offsets f))
  pub no_others : (f : ℕ) → (IsLocalFunction v f → ⊥) → offsets f ≡ []
  pub holds : TrueOf (imported_functions raw) offsets CountStandsAt keeps_locations x bytes raw written.written.renaming v

-- no bytes have two
abbrev pub OneTransform : Type 0
OneTransform =
    (c : Config) (keeps_locations : Bool) (locations : ℕ → List ℕ) (v : Abstract) (bytes : List ℕ) (x y : Transform)
    → IsTransformOf c keeps_locations locations v bytes x → IsTransformOf c keeps_locations locations v bytes y → x ≡ y

-- ---- of parts

-- the locations of the operators of the function with a body at a place; none where none is there
abbrev pub locations_in : Option (ℕ × LocalFunction) → List ℕ
locations_in None = []
locations_in (Some f) = map location (locations_of f.1)

abbrev pub locations_at : Parts → ℕ → List ℕ
locations_at p number = locations_in (local_in (functions p.funcs.now) number)

-- Whatever bytes these parts are written as, with custom sections among which those of dynamic linking are these: of a module that is seen
-- so, and asks for them, it is the transform.
abbrev pub TellsTransform : Parts → Choices → Lookup → (dylinks : List wire.Custom) → Bool → CodeTransform → Type 0
TellsTransform p choices names dylinks keeps_locations x =
    (c : Config) (v : Abstract) (sections : List wire.Custom) (bytes : List ℕ) → IsWrittenWith c choices → IsAsked p names sections v → IsSayable v
    → group_of Dylink sections ≡ dylinks → Spells p (task choices names sections) bytes
    → IsTransformOf c keeps_locations (locations_at p) v bytes (transform_of x)

-- what is answered where parts are written, of a module that is seen as them
pub record EmitsParts (asked : Bool) (c : Config) (p : Parts) (v : Abstract) (answer : Result (Vec ℕ × CodeTransform) Error) : Type 0 where
  -- the bytes are the one spelling of what the module is written as
  pub emitted : IfOk answer (λ r. IsEmitted c v r.0.items)
  -- a refusal has its cause, and where a cause stands it is refused
  pub refused : RefusesToWrite ⊥ c v (told answer)
  -- where it is asked for, and a module of indices can say the custom sections, the transform is that of the bytes, without locations
  pub transform : asked ≡ true → IfOk answer (λ r. IsSayable v → IsTransformOf c false (locations_at p) v r.0.items (transform_of r.1))

-- the error has a cause of its own, of each module that is seen as the parts and asks for such sections
abbrev pub HasCause : Config → Abstract → Error → Type 0
HasCause c v e = RefusesToWrite {X = Unit {0}} ⊥ c v (Err (refusal_of e))

abbrev pub RefusesTransform : Parts → Choices → Lookup → (dylinks : List wire.Custom) → Error → Type 0
RefusesTransform p choices names dylinks e =
    (c : Config) (v : Abstract) (sections : List wire.Custom) → IsWrittenWith c choices → IsAsked p names sections v → group_of Dylink sections ≡ dylinks → HasCause c v e
