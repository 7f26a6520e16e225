use Rattle.std.specs.Global.{Vec}
use Rattle.std.specs.List.{range_with_len}
use Rattle.std.proofs.Common.{List, length, map, sym, ap, subst, ◌∙◌}
use Rattle.std.specs.Prelude.{All}
use Rattle.wasm_entries.specs.declared.record.RawImport.{RawImport}
use Rattle.wasm_entries.specs.declared.record.RawSub.{RawSub}
use Rattle.wasm_entries.specs.Record.{Import, group, import_entry}
use Rattle.wasm_frames.specs.Record.{sections}
use Rattle.walrus_code.specs.Indices.{ids_at}
use Rattle.walrus_groups.specs.Groups.{types_from, AreDeclared}
use Rattle.walrus_theorem.proofs.TypesRefer.{types_declared}
use Rattle.walrus_reading.specs.Stays.{DescStays}
use Rattle.walrus_reading.proofs.Numbered.{imports_stay}
use Rattle.walrus_reading.proofs.contents.read_imported.Goals as goal

pub add_types-requires-clause-declared : goal.add_types-requires-clause-declared
add_types-requires-clause-declared c =
    subst (λ (l : List (Vec RawSub)). AreDeclared 0 (map group l)) (sym c.deref.ensures.value) (types_declared (map group c.args.raw.now.types.items) c.requires.rules.types_refer)

pub add_imports-requires-clause-stay : goal.add_imports-requires-clause-stay
add_imports-requires-clause-stay c =
    let numbered = c.in_ok-add_types.ensures.numbered ∙ ap (λ (l : List (Vec RawSub)). range_with_len 0 (length (types_from 0 (map group l)))) c.deref.ensures.value in
    subst (λ (l : List RawImport). All (λ (x : Import). DescStays (ids_at c.add_types.new.indices) x.desc) (map import_entry l)) (sym c.deref-2.ensures.value)
    (imports_stay (sections c.args.raw.now) c.add_types.new.indices numbered c.requires.rules.indices)
