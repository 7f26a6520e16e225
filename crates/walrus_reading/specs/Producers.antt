-- What a module holds of the producers sections that were read (tool-conventions, "Producers Section").
use Rattle.std.specs.Prelude.{List, map, codes, flat_map, ◌++◌, ◌≡◌}
use Rattle.std.specs.List.{AllZip}
use Rattle.wasm_frames.specs.Record as wire
use Rattle.wasm_payloads.specs.Producers.{Field, Fields}
use Rattle.walrus_producers.specs.Seen.{producers}
use Rattle.walrus_producers.specs.declared.producers.ModuleProducers.{ModuleProducers}
use Rattle.walrus_model.specs.Producers.{ProducerField, produced}
use Rattle.walrus_theorem.specs.Headline.{field_of, payloads}

-- The fields of each section that is called `producers`, those of one section behind those of another: of each the fields that stand whole
-- before its first fault. With them, this program.
pub record HoldsProducers (r : wire.Module) (made : ModuleProducers) : Type 0 where
  pub fields : List (List Field)
  pub read : AllZip Fields (payloads (codes "producers") r) fields
  pub are : producers made ≡ produced (flat_map (map field_of) fields)

-- ---- for the functions inside

-- the sections of a module that has these custom ones alone
abbrev pub only_customs : List wire.Custom → wire.Module
only_customs customs = record wire.no_sections { customs = customs }

-- the fields of these sections stand behind those that were there
pub record AddsSections (customs : List wire.Custom) (old new : List ProducerField) : Type 0 where
  pub fields : List (List Field)
  pub read : AllZip Fields (payloads (codes "producers") (only_customs customs)) fields
  pub are : new ≡ old ++ flat_map (map field_of) fields
