-- Why types are refused where each type that one names has an index.
use Rattle.wasm_entries.specs.Record.{Group}
use Rattle.std.specs.Prelude.{Option, List, Err}
use Rattle.walrus_base.specs.Arena.{items}
use Rattle.walrus_base.specs.TypeDef.{TypeDef}
use Rattle.walrus_code.specs.Names.{Lookup}
use Rattle.walrus_code.specs.declared.error.IrError.{IrError}
use Rattle.walrus_code.specs.declared.error.IrError.TheVariants as Ir
use Rattle.walrus_groups.specs.Indexed.{LacksAnIndex, IndexesTypes}
use Rattle.walrus_items.specs.Errors.{error_of_ir}
use Rattle.walrus_writing.specs.Refusals.{RefusesTypes}

pub index_refused : {X : Type 0} (view : X → List Group) (names : Lookup) (types : List (Option TypeDef)) (e : IrError) → (LacksAnIndex names (items types) → ⊥) → IndexesTypes view names (items types) (Err e) → RefusesTypes types (error_of_ir e)
index_refused view names types Ir.NoIndex indexed lacks = absurd (indexed lacks)
index_refused view names types Ir.NotWritable indexed exact = exact
index_refused view names types Ir.TooLarge indexed u = absurd u
index_refused view names types (Ir.Memory m) indexed u = tt
index_refused view names types Ir.Malformed indexed u = absurd u
