-- What bytes read as at full breadth, and what a run comes to.
use Rattle.std.specs.Prelude.{ℕ, Bool, List, map, filter, flat_map, length, zip, Some, codes, bytes_eq, nat_lt, ◌≡◌}
use Rattle.std.specs.List.{AllZip}
use Rattle.wasm_frames.specs.Record as wire
use Rattle.wasm_frames.specs.Frames.{Frames}
use Rattle.wasm_frames.specs.Order.{InOrder}
use Rattle.wasm_payloads.specs.Names.{Named, Names}
use Rattle.wasm_payloads.specs.Producers.{Field, Fields}
use Rattle.walrus_model.specs.Abstract.{Abstract, Name, ProducerValue, ProducerField}
use Rattle.walrus_model.specs.Config.{Config}
use Rattle.walrus_model.specs.Out.{Out}
use Rattle.walrus_model.specs.Reads.{ReadsBodyWith}
use Rattle.walrus_model.specs.Sections.{Said, function_types}
use Rattle.walrus_model.specs.Rules.{Holds}
use Rattle.walrus_theorem.specs.Chain.{BringsTo}
use Rattle.walrus_theorem.specs.Features.{features_of}
use Rattle.walrus_theorem.specs.Pinned.{IsWrittenAs}
use Rattle.walrus_theorem.specs.Refused.{PassesLimits}
use Rattle.walrus_theorem.specs.Sections.{module_of}
use Rattle.walrus_theorem.specs.Spelling.{IsSpelledAs}

-- ---- bodies, legacy exceptions included where the configuration has them

-- the bytes of a function's body say this, the types of its declared locals and its operators, with the proposals that the configuration allows
abbrev pub ReadsBody : Config → wire.Module → ℕ × wire.Body → Said → Type 0
ReadsBody c s f body = ReadsBodyWith (features_of c) s f body

-- ---- names and producers: of each payload what stands whole before its first fault

-- the data of each custom section of this name, in the order in which they stand
abbrev pub payloads : Name → wire.Module → List (List ℕ)
payloads name s = map (λ (c : wire.Custom). c.bytes) (filter (λ (c : wire.Custom). bytes_eq c.name name) s.customs)

-- it is the index of a function
abbrev pub has_function : wire.Module → ℕ → Bool
has_function s f = nat_lt f (length (function_types s))

-- a data count counts the data segments
abbrev pub DataCountHolds : wire.Module → Type 0
DataCountHolds s = (n : ℕ) → s.data_count ≡ Some n → n ≡ length s.data_segments

-- a value of the producers section, from its name and its version (tool-conventions, "Producers Section")
abbrev pub value_of : List ℕ × List ℕ → ProducerValue
value_of v = record { name = v.0; version = v.1 }

-- a field of the producers section, from its name and its values (tool-conventions, "Producers Section")
abbrev pub field_of : Field → ProducerField
field_of f = record { name = f.0; values = map value_of f.1 }

-- the bytes read as the module m: sections in the standard's order, a body that reads for each function that is no import, a data count that is right, and
-- of names and producers what stands whole before the first fault, out-of-range names left out; that m keeps the rules of validation is not said here
pub record ReadsModule (c : Config) (bytes : List ℕ) (m : Abstract) : Type 0 where
  pub sections : wire.Module
  pub framed : Frames bytes sections
  pub in_order : InOrder sections.order
  pub as_many_bodies : length sections.bodies ≡ length sections.functions
  pub data_count : DataCountHolds sections
  pub bodies : List Said
  pub read : AllZip (ReadsBody c sections) (zip sections.functions sections.bodies) bodies
  pub namings : List (List Named)
  pub named : AllZip (Names (has_function sections)) (payloads (codes "name") sections) namings
  pub fields : List (List Field)
  pub produced : AllZip Fields (payloads (codes "producers") sections) fields
  pub is : m ≡ module_of sections bodies (flat_map (map field_of) fields) (flat_map (λ xs. xs) namings)

-- the bytes are accepted: they read as a module that keeps the rules
abbrev pub Accepts : Config → List ℕ → Type 0
Accepts c bytes = (m : Abstract) × ReadsModule c bytes m × Holds m

-- The bytes read as a module that keeps the rules. The steps bring it to one module in memory, and the output is the one spelling of what
-- that is written as, and keeps the rules. What this comes to for a reader is `out`.
pub record ComesTo (c : Config) (bytes output : List ℕ) : Type 0 where
  pub module_read : Abstract
  pub reads : ReadsModule c bytes module_read
  pub holds : Holds module_read
  pub module_left : Abstract
  pub brought : BringsTo c module_read module_left
  pub module_written : Abstract
  pub written : IsWrittenAs c module_left module_written
  pub spelled : IsSpelledAs module_written output
  pub output_reads : ReadsModule c output module_written
  pub output_holds : Holds module_written
  pub out : Out c module_read module_written

-- the bytes are accepted, but what the same steps bring them to has a count, a size or a limit past 32 bits
pub record ComesOutTooLarge (c : Config) (bytes : List ℕ) : Type 0 where
  pub module_read : Abstract
  pub reads : ReadsModule c bytes module_read
  pub holds : Holds module_read
  pub module_left : Abstract
  pub brought : BringsTo c module_read module_left
  pub too_large : PassesLimits c module_left

-- ---- laws that show that the words leave nothing open

-- what comes out is one function of what was read
abbrev pub OneOutput : Type 0
OneOutput = (c : Config) (bytes a b : List ℕ) → ComesTo c bytes a → ComesTo c bytes b → b ≡ a

-- no run may call too large what another may write
abbrev pub NotBoth : Type 0
NotBoth = (c : Config) (bytes output : List ℕ) → ComesTo c bytes output → ComesOutTooLarge c bytes → ⊥

-- what is said of the steps gives what is said of the module that was read
abbrev pub StepsComeOut : Type 0
StepsComeOut = (c : Config) (bytes : List ℕ) (m u n : Abstract) → ReadsModule c bytes m → Holds m → BringsTo c m u → IsWrittenAs c u n → Out c m n
