use Rattle.std.proofs.Common.{rules, ◌≡◌, false, ap}
use Rattle.walrus.specs.Model.Sections.{is_apart}
use Rattle.walrus.specs.Modules.Flags.{config_of, defaults}
use Rattle.walrus.specs.Modules.Settings.{settings}
use Rattle.walrus_examples.proofs.MetadataEnds.{answered_whole}
use Rattle.walrus_examples.proofs.examples.with_metadata.with_metadata.Goals as goal

pub returns : goal.returns
returns c =
    let free : is_apart c.args.name.now ≡ false = search rules in
    answered_whole _ c.in_ok-module.module c.add.new.self c.in_ok-module.ensures.kept.raws c.in_ok-section.section c.in_ok-module.ensures.kept.are c.in_ok-add.ensures.1
    (config_of defaults) c.args.bytes.now c.args.name.now c.args.payload.now free c.in_ok-section.ensures.name c.in_ok-section.ensures.payload c.in_ok-module.ensures.found
    c.emit_wasm.new.self c.emit_wasm.ensures.raw (settings c.in_ok-module.module) (ap config_of c.in_ok-module.ensures.configured) c.emit_wasm.result c.emit_wasm.ensures.left c.emit_wasm.ensures.well_made
