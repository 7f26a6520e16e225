-- What is answered where a table that the module defines is written as a record.
use Rattle.std.specs.Prelude.{◌≡◌, ⊤, List, true, Option, Some, None, Result, Ok, Err, Contains}
use Rattle.std.specs.Global.{Box}
use Rattle.wasm_entries.specs.Record.{expression, table_entry}
use Rattle.wasm_entries.specs.Spelling.{TableStands}
use Rattle.wasm_entries.specs.declared.record.RawExpression.{RawExpression}
use Rattle.wasm_entries.specs.declared.record.RawTable.{RawTable}
use Rattle.walrus_base.specs.Operators.{Op}
use Rattle.walrus_code.specs.Names.{Lookup}
use Rattle.walrus_code.specs.Results.{heap_is_exact}
use Rattle.walrus_code.specs.declared.error.IrError.{IrError}
use Rattle.walrus_code.specs.declared.error.IrError.TheVariants.{Malformed, Memory, NoIndex, NotWritable, TooLarge}
use Rattle.walrus_items.specs.Tables.{TableValue}
use Rattle.walrus_contents.specs.View as seen
use Rattle.walrus_items.specs.declared.error.Error.{Error}
use Rattle.walrus_items.specs.declared.error.Error.TheVariants as errors
use Rattle.walrus_model.specs.Abstract.{Table}
use Rattle.walrus_model.specs.Constants.{consts_of}
use Rattle.walrus_model.specs.Sections.{table_of}
use Rattle.walrus_constants.specs.Named.{named_table}
use Rattle.walrus_constants.specs.Written.{IndexesConst, IsUnspelled}

-- no bytes spell it: its elements are of an exact heap type, or no bytes spell its initialiser
pub data TableIsUnspelled (t : Table) : Type 0 where
  ExactElement : heap_is_exact t.ty.element.heap ≡ true → TableIsUnspelled t
  UnspelledInitialiser : (ops : List Op) → t.initialiser ≡ Some ops → IsUnspelled ops → TableIsUnspelled t

-- an initialiser, if there is one
abbrev pub IndexesInitial : Lookup → Option (List Op) → Result (Option (Box RawExpression)) IrError → Type 0
IndexesInitial names None result = result ≡ Ok None
IndexesInitial names (Some ops) (Ok None) = ⊥
IndexesInitial names (Some ops) (Ok (Some raw)) = IndexesConst (λ r. consts_of (expression r)) names ops (Ok raw.value)
IndexesInitial names (Some ops) (Err e) = IndexesConst {X = RawExpression} (λ r. consts_of (expression r)) names ops (Err e)

-- the record is that of the table under the look-up; refused only with a cause, and never Ok with one
abbrev pub IndexesTable : Lookup → Table → Result RawTable IrError → Type 0
IndexesTable names t (Ok raw) = (named_table names t ≡ Some (table_of (table_entry raw))) × TableStands (table_entry raw) × (TableIsUnspelled t → ⊥)
IndexesTable names t (Err NoIndex) = named_table names t ≡ None
IndexesTable names t (Err NotWritable) = TableIsUnspelled t
IndexesTable names t (Err (Memory e)) = ⊤
IndexesTable names t (Err Malformed) = ⊥
IndexesTable names t (Err TooLarge) = ⊥

-- the tables of a module are written: no bytes spell one of them
abbrev pub RefusesTables : List TableValue → Error → Type 0
RefusesTables all (errors.Memory e) = ⊤
RefusesTables all errors.NotWritable = (t : TableValue) × Contains all t × TableIsUnspelled (seen.table_of t)
RefusesTables all _ = ⊥

-- bytes spell it
abbrev pub IsSpelledTable : TableValue → Type 0
IsSpelledTable t = TableIsUnspelled (seen.table_of t) → ⊥
