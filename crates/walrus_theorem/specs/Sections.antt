-- What the sections of a module say of it, with its names and its producers ("Binary Format > Modules").
use Rattle.std.specs.Prelude.{List}
use Rattle.wasm_frames.specs.Record as wire
use Rattle.wasm_payloads.specs.Names.{Named}
use Rattle.walrus_model.specs.Abstract.{Abstract, ProducerField}
use Rattle.walrus_model.specs.Sections as sections
use Rattle.walrus_model.specs.Sections.{Said}
use Rattle.walrus_theorem.specs.Namings.{names_in_range}

-- the items of these sections, whose bodies say this, with these producers, and nothing named
abbrev pub items_of : wire.Module → List Said → List ProducerField → Abstract
items_of s bodies fields = record (sections.module_of s bodies) { producers = fields }

-- the module of these sections, bodies, producers and namings, those out of range left out
abbrev pub module_of : wire.Module → List Said → List ProducerField → List Named → Abstract
module_of s bodies fields namings = record (items_of s bodies fields) { named = names_in_range (items_of s bodies fields) namings }
