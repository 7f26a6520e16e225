use Rattle.std.proofs.Common.{List, map, drop, Option, Result}
use Rattle.wasm_entries.specs.Record.{group}
use Rattle.walrus_base.specs.ModuleTypes.{type_names, type_slots}
use Rattle.walrus_base.specs.TypeDef.{TypeDef}
use Rattle.walrus_code.specs.declared.error.IrError.{IrError}
use Rattle.walrus_groups.specs.Groups.{ReadsTypes}
use Rattle.walrus_groups.specs.Reading.{AddsUnnamed, TypesInPlace, OnlyTypesChange}
use Rattle.walrus_groups.proofs.read.read_types.Given as goal

-- what reading the groups that are left answers, reading all does
abbrev pub invariant-loop-members : goal.invariant-loop-members
invariant-loop-members l = record {
  in_place : TypesInPlace l.indices (type_slots l.types);
  only_types : OnlyTypesChange l.fn.indices l.indices;
  unnamed : AddsUnnamed (type_names l.fn.types) (type_names l.types);
  told : (new : List (Option TypeDef)) (r : Result Unit IrError) → ReadsTypes (map group (drop l.members-index l.groups)) (type_slots l.types) new r → ReadsTypes (map group l.groups) (type_slots l.fn.types) new r;
}
