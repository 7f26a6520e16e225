-- What is answered where a global that the module defines is written as a record.
use Rattle.std.specs.Prelude.{◌≡◌, ⊤, List, true, Option, Some, None, Result, Ok, Err, Contains}
use Rattle.wasm_entries.specs.Record.{expression, global_entry}
use Rattle.wasm_entries.specs.Spelling.{GlobalStands}
use Rattle.wasm_entries.specs.declared.record.RawExpression.{RawExpression}
use Rattle.wasm_entries.specs.declared.record.RawGlobal.{RawGlobal}
use Rattle.walrus_base.specs.Operators.{Op}
use Rattle.walrus_code.specs.Names.{Lookup}
use Rattle.walrus_code.specs.Results.{val_is_exact}
use Rattle.walrus_code.specs.declared.error.IrError.{IrError}
use Rattle.walrus_code.specs.declared.error.IrError.TheVariants.{Malformed, Memory, NoIndex, NotWritable, TooLarge}
use Rattle.walrus_items.specs.Globals.{GlobalValue}
use Rattle.walrus_contents.specs.View as seen
use Rattle.walrus_items.specs.declared.error.Error.{Error}
use Rattle.walrus_items.specs.declared.error.Error.TheVariants as errors
use Rattle.walrus_model.specs.Abstract.{Global}
use Rattle.walrus_model.specs.Constants.{consts_of}
use Rattle.walrus_model.specs.Sections.{global_of}
use Rattle.walrus_constants.specs.Named.{named_global}
use Rattle.walrus_constants.specs.Written.{IndexesConst, IsUnspelled}

-- no bytes spell it: its type is an exact heap type, or no bytes spell its initialiser
pub data GlobalIsUnspelled (g : Global) : Type 0 where
  ExactValue : val_is_exact g.ty.value ≡ true → GlobalIsUnspelled g
  UnspelledInitialiser : (ops : List Op) → g.initialiser ≡ Some ops → IsUnspelled ops → GlobalIsUnspelled g

-- an initialiser, where there is one
abbrev pub IndexesInitialiser : Lookup → Option (List Op) → Result RawExpression IrError → Type 0
IndexesInitialiser names None result = ⊥
IndexesInitialiser names (Some ops) result = IndexesConst (λ raw. consts_of (expression raw)) names ops result

-- the record is that of the global under the look-up; refused only with a cause, and never Ok with one
abbrev pub IndexesGlobal : Lookup → Global → Result RawGlobal IrError → Type 0
IndexesGlobal names g (Ok raw) = (named_global names g ≡ Some (global_of (global_entry raw))) × GlobalStands (global_entry raw) × (GlobalIsUnspelled g → ⊥)
IndexesGlobal names g (Err NoIndex) = named_global names g ≡ None
IndexesGlobal names g (Err NotWritable) = GlobalIsUnspelled g
IndexesGlobal names g (Err (Memory e)) = ⊤
IndexesGlobal names g (Err Malformed) = ⊥
IndexesGlobal names g (Err TooLarge) = ⊥

-- the globals of a module are written: no bytes spell one of them
abbrev pub RefusesGlobals : List GlobalValue → Error → Type 0
RefusesGlobals all (errors.Memory e) = ⊤
RefusesGlobals all errors.NotWritable = (g : GlobalValue) × Contains all g × GlobalIsUnspelled (seen.global_of g)
RefusesGlobals all _ = ⊥

-- bytes spell it
abbrev pub IsSpelledGlobal : GlobalValue → Type 0
IsSpelledGlobal g = GlobalIsUnspelled (seen.global_of g) → ⊥
