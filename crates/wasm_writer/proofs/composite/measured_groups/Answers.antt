use Rattle.std.proofs.Common.{map}
use Rattle.wasm_forms.proofs.Adding.{vector_map, fits_map, fits_unmap}
use Rattle.wasm_forms.specs.Writing.{FitsVector}
use Rattle.wasm_entries.specs.Record.{group}
use Rattle.wasm_entries.specs.TypeSpelling.{group_bytes, GroupFits}
use Rattle.wasm_writer.proofs.Groups.{measures_as}
use Rattle.wasm_writer.proofs.composite.measured_groups.Goals as goal

pub returns : goal.returns
returns c =
    measures_as c.measured_counted.result _ _ (FitsVector (λ g. GroupFits (group g)) c.args.groups.now) (FitsVector GroupFits (map group c.args.groups.now)) (vector_map group group_bytes c.args.groups.now)
    (fits_map group GroupFits c.args.groups.now) (fits_unmap group GroupFits c.args.groups.now) c.measured_counted.ensures
