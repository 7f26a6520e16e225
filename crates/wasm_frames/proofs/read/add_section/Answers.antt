use Rattle.std.proofs.Common.{[], ◌∷◌, ◌∙◌}
use Rattle.wasm_entries.specs.Record.{group, import_entry, table_entry, global_entry, export_entry, element_entry, data_entry}
use Rattle.wasm_frames.specs.Record.{body_record, custom_record, sections}
use Rattle.wasm_frames.proofs.Added.{seen, not_ok, by_section, customs_added, types_added, imports_added, functions_added, tables_added, memories_added, globals_added, exports_added, start_added, elements_added, bodies_added, segments_added, data_count_added, tags_added}
use Rattle.wasm_frames.proofs.read.add_section.Goals as goal

pub returns-in_err-push-in-Custom : goal.returns-in_err-push-in-Custom
returns-in_err-push-in-Custom c = not_ok _ c.from_residual.result _ c.from_residual.ensures.1

pub returns-in_ok-push-in-Custom : goal.returns-in_ok-push-in-Custom
returns-in_ok-push-in-Custom c = customs_added (sections c.args.raw.now) _ _ (seen custom_record _ _ (_ ∷ []) c.in_ok-push-in-Custom.ensures.items) ∙ by_section (sections c.args.raw.now) _ _ c.in-Custom.is

pub returns-in_err-append-in-Types : goal.returns-in_err-append-in-Types
returns-in_err-append-in-Types c = not_ok _ c.from_residual-in_err-append-in-Types.result _ c.from_residual-in_err-append-in-Types.ensures.1

pub returns-in_ok-append-in-Types : goal.returns-in_ok-append-in-Types
returns-in_ok-append-in-Types c = types_added (sections c.args.raw.now) _ _ _ c.in_ok-append-in-Types.ensures.ordered (seen group _ _ _ c.in_ok-append-in-Types.ensures.longer) ∙ by_section (sections c.args.raw.now) _ _ c.in-Types.is

pub returns-in_err-append-in-Imports : goal.returns-in_err-append-in-Imports
returns-in_err-append-in-Imports c = not_ok _ c.from_residual-in_err-append-in-Imports.result _ c.from_residual-in_err-append-in-Imports.ensures.1

pub returns-in_ok-append-in-Imports : goal.returns-in_ok-append-in-Imports
returns-in_ok-append-in-Imports c = imports_added (sections c.args.raw.now) _ _ _ c.in_ok-append-in-Imports.ensures.ordered (seen import_entry _ _ _ c.in_ok-append-in-Imports.ensures.longer) ∙ by_section (sections c.args.raw.now) _ _ c.in-Imports.is

pub returns-in_err-append-in-Functions : goal.returns-in_err-append-in-Functions
returns-in_err-append-in-Functions c = not_ok _ c.from_residual-in_err-append-in-Functions.result _ c.from_residual-in_err-append-in-Functions.ensures.1

pub returns-in_ok-append-in-Functions : goal.returns-in_ok-append-in-Functions
returns-in_ok-append-in-Functions c = functions_added (sections c.args.raw.now) _ _ _ c.in_ok-append-in-Functions.ensures.ordered c.in_ok-append-in-Functions.ensures.longer ∙ by_section (sections c.args.raw.now) _ _ c.in-Functions.is

pub returns-in_err-append-in-Tables : goal.returns-in_err-append-in-Tables
returns-in_err-append-in-Tables c = not_ok _ c.from_residual-in_err-append-in-Tables.result _ c.from_residual-in_err-append-in-Tables.ensures.1

pub returns-in_ok-append-in-Tables : goal.returns-in_ok-append-in-Tables
returns-in_ok-append-in-Tables c = tables_added (sections c.args.raw.now) _ _ _ c.in_ok-append-in-Tables.ensures.ordered (seen table_entry _ _ _ c.in_ok-append-in-Tables.ensures.longer) ∙ by_section (sections c.args.raw.now) _ _ c.in-Tables.is

pub returns-in_err-append-in-Memories : goal.returns-in_err-append-in-Memories
returns-in_err-append-in-Memories c = not_ok _ c.from_residual-in_err-append-in-Memories.result _ c.from_residual-in_err-append-in-Memories.ensures.1

pub returns-in_ok-append-in-Memories : goal.returns-in_ok-append-in-Memories
returns-in_ok-append-in-Memories c = memories_added (sections c.args.raw.now) _ _ _ c.in_ok-append-in-Memories.ensures.ordered c.in_ok-append-in-Memories.ensures.longer ∙ by_section (sections c.args.raw.now) _ _ c.in-Memories.is

pub returns-in_err-append-in-Globals : goal.returns-in_err-append-in-Globals
returns-in_err-append-in-Globals c = not_ok _ c.from_residual-in_err-append-in-Globals.result _ c.from_residual-in_err-append-in-Globals.ensures.1

pub returns-in_ok-append-in-Globals : goal.returns-in_ok-append-in-Globals
returns-in_ok-append-in-Globals c = globals_added (sections c.args.raw.now) _ _ _ c.in_ok-append-in-Globals.ensures.ordered (seen global_entry _ _ _ c.in_ok-append-in-Globals.ensures.longer) ∙ by_section (sections c.args.raw.now) _ _ c.in-Globals.is

pub returns-in_err-append-in-Exports : goal.returns-in_err-append-in-Exports
returns-in_err-append-in-Exports c = not_ok _ c.from_residual-in_err-append-in-Exports.result _ c.from_residual-in_err-append-in-Exports.ensures.1

pub returns-in_ok-append-in-Exports : goal.returns-in_ok-append-in-Exports
returns-in_ok-append-in-Exports c = exports_added (sections c.args.raw.now) _ _ _ c.in_ok-append-in-Exports.ensures.ordered (seen export_entry _ _ _ c.in_ok-append-in-Exports.ensures.longer) ∙ by_section (sections c.args.raw.now) _ _ c.in-Exports.is

pub returns-in_err-push-in-Start : goal.returns-in_err-push-in-Start
returns-in_err-push-in-Start c = not_ok _ c.from_residual-in_err-push-in-Start.result _ c.from_residual-in_err-push-in-Start.ensures.1

pub returns-in_ok-push-in-Start : goal.returns-in_ok-push-in-Start
returns-in_ok-push-in-Start c = start_added (sections c.args.raw.now) _ _ c.in_ok-push-in-Start.ensures.items ∙ by_section (sections c.args.raw.now) _ _ c.in-Start.is

pub returns-in_err-append-in-Elements : goal.returns-in_err-append-in-Elements
returns-in_err-append-in-Elements c = not_ok _ c.from_residual-in_err-append-in-Elements.result _ c.from_residual-in_err-append-in-Elements.ensures.1

pub returns-in_ok-append-in-Elements : goal.returns-in_ok-append-in-Elements
returns-in_ok-append-in-Elements c = elements_added (sections c.args.raw.now) _ _ _ c.in_ok-append-in-Elements.ensures.ordered (seen element_entry _ _ _ c.in_ok-append-in-Elements.ensures.longer) ∙ by_section (sections c.args.raw.now) _ _ c.in-Elements.is

pub returns-in_err-append-in-Code : goal.returns-in_err-append-in-Code
returns-in_err-append-in-Code c = not_ok _ c.from_residual-in_err-append-in-Code.result _ c.from_residual-in_err-append-in-Code.ensures.1

pub returns-in_ok-append-in-Code : goal.returns-in_ok-append-in-Code
returns-in_ok-append-in-Code c = bodies_added (sections c.args.raw.now) _ _ _ c.in_ok-append-in-Code.ensures.ordered (seen body_record _ _ _ c.in_ok-append-in-Code.ensures.longer) ∙ by_section (sections c.args.raw.now) _ _ c.in-Code.is

pub returns-in_err-append-in-DataSegments : goal.returns-in_err-append-in-DataSegments
returns-in_err-append-in-DataSegments c = not_ok _ c.from_residual-in_err-append-in-DataSegments.result _ c.from_residual-in_err-append-in-DataSegments.ensures.1

pub returns-in_ok-append-in-DataSegments : goal.returns-in_ok-append-in-DataSegments
returns-in_ok-append-in-DataSegments c = segments_added (sections c.args.raw.now) _ _ _ c.in_ok-append-in-DataSegments.ensures.ordered (seen data_entry _ _ _ c.in_ok-append-in-DataSegments.ensures.longer) ∙ by_section (sections c.args.raw.now) _ _ c.in-DataSegments.is

pub returns-in_err-push-in-DataCount : goal.returns-in_err-push-in-DataCount
returns-in_err-push-in-DataCount c = not_ok _ c.from_residual-in_err-push-in-DataCount.result _ c.from_residual-in_err-push-in-DataCount.ensures.1

pub returns-in_ok-push-in-DataCount : goal.returns-in_ok-push-in-DataCount
returns-in_ok-push-in-DataCount c = data_count_added (sections c.args.raw.now) _ _ c.in_ok-push-in-DataCount.ensures.items ∙ by_section (sections c.args.raw.now) _ _ c.in-DataCount.is

pub returns-in_err-append-in-Tags : goal.returns-in_err-append-in-Tags
returns-in_err-append-in-Tags c = not_ok _ c.from_residual-in_err-append-in-Tags.result _ c.from_residual-in_err-append-in-Tags.ensures.1

pub returns-in_ok-append-in-Tags : goal.returns-in_ok-append-in-Tags
returns-in_ok-append-in-Tags c = tags_added (sections c.args.raw.now) _ _ _ c.in_ok-append-in-Tags.ensures.ordered c.in_ok-append-in-Tags.ensures.longer ∙ by_section (sections c.args.raw.now) _ _ c.in-Tags.is
