use Rattle.std.proofs.Common.{ℕ, List, ◌++◌, map, ap}
use Rattle.wasm_entries.specs.Record.{export_entry, element_entry}
use Rattle.wasm_frames.specs.Record.{Module, sections}
use Rattle.wasm_frames.specs.Frames.{Section, Exports, Start, Elements, DataCount}
use Rattle.wasm_writer.specs.Writing.{written}
use Rattle.wasm_wire.specs.ModuleSpelling.{if_any, if_given, up_to_globals}
use Rattle.wasm_wire.proofs.ModuleWritten.{grown, listed_grown, at_last}
use Rattle.wasm_wire.proofs.written.write_before_code.Goals as goal

pub returns : goal.returns
returns c =
    let m : Module = sections c.args.raw.now in
    let old : List ℕ = written c.args.writer.now in
    let d1 : List Section = up_to_globals m in
    let d2 : List Section = d1 ++ if_any Exports m.exports in
    let d3 : List Section = d2 ++ if_given Start m.start in
    let d4 : List Section = d3 ++ if_any Elements m.elements in
    let h2 = listed_grown old _ (written c.export_section.new.self) d1 Exports _ m.exports (ap (map export_entry) c.deref.ensures.value) c.in_ok-write_up_to_globals.ensures c.in_ok-export_section.ensures.appends.0 in
    let h3 = grown old _ (written c.write_start.new.writer) d2 (if_given Start m.start) h2 c.in_ok-write_start.ensures in
    let h4 = listed_grown old _ (written c.element_section.new.self) d3 Elements _ m.elements (ap (map element_entry) c.deref-2.ensures.value) h3 c.in_ok-element_section.ensures.appends.0 in
    at_last c.write_data_count.result old _ (written c.write_data_count.new.writer) d4 (if_given DataCount m.data_count) h4 c.write_data_count.ensures
