-- The number and the error of what is wrong with a module in memory.
use Rattle.std.specs.Prelude.{ℕ}
use Rattle.wasm_wire.specs.declared.rules.broken.BrokenRule.{BrokenRule}
use Rattle.wasm_wire.specs.declared.rules.broken.BrokenRule.TheVariants as rules
use Rattle.walrus_items.specs.Errors.{invalid_wasm}
use Rattle.walrus_items.specs.declared.error.Error.{Error}
use Rattle.walrus_items.specs.declared.error.Error.TheVariants.{DeadItem, NoIndex, NotWritable, TwoIndices}
use Rattle.walrus_module.specs.declared.flaw.Flaw.{Flaw}
use Rattle.walrus_module.specs.declared.flaw.Flaw.TheVariants.{Form, Rule}

-- a rule by its number
abbrev pub rule_number : BrokenRule → ℕ
rule_number rules.Order = 1
rule_number rules.Types = 2
rule_number rules.Indices = 3
rule_number rules.FunctionTypes = 4
rule_number rules.Limits = 5
rule_number rules.Counts = 6
rule_number rules.ExportNames = 7
rule_number rules.Start = 8
rule_number rules.Offsets = 9
rule_number rules.Locals = 10

-- a cause beside the rules by its number: what is named is gone, has two indices, none, or no spelling
abbrev pub form_number : Error → ℕ
form_number DeadItem = 11
form_number TwoIndices = 12
form_number NoIndex = 13
form_number NotWritable = 14
form_number e = 0

abbrev pub flaw_number : Flaw → ℕ
flaw_number (Rule rule) = rule_number rule
flaw_number (Form e) = form_number e

-- the error that stands for what is wrong
abbrev pub error_of_flaw : Flaw → Error
error_of_flaw (Rule rule) = invalid_wasm
error_of_flaw (Form e) = e
