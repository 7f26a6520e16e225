-- What the kind of a function ends as, where its part is lent.
use Rattle.std.specs.Borrow.{Lends, Fml, MutBor}
use Rattle.walrus_ir.specs.FunctionRow as local
use Rattle.walrus_ir.specs.LocalFunction.{LocalFunction}
use Rattle.walrus_items.specs.contracts.function_kind.FunctionKind.{the_row}
use Rattle.walrus_items.specs.contracts.function_kind.ImportedFunction as imported
use Rattle.walrus_items.specs.declared.function_kind.FunctionKind.{FunctionKind}
use Rattle.walrus_items.specs.declared.function_kind.FunctionKind.TheVariants.{Import, Local}
use Rattle.walrus_items.specs.declared.function_kind.ImportedFunction.{ImportedFunction}

-- once the borrow r ends, the function is of an import, with the last value written through r
abbrev pub LendsImported : MutBor FunctionKind → MutBor ImportedFunction → Fml
LendsImported kind r = Lends the_row imported.the_row kind r (λ last. Import last)

-- once the borrow r ends, the function is a local one, with the last value written through r
abbrev pub LendsLocal : MutBor FunctionKind → MutBor LocalFunction → Fml
LendsLocal kind r = Lends the_row local.the_row kind r (λ last. Local last)
