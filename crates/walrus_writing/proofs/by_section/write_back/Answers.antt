use Rattle.std.proofs.Common.{◌∙◌, ℕ, List, ap, map, subst}
use Rattle.wasm_entries.specs.Record.{data_entry}
use Rattle.wasm_frames.specs.Frames.{DataSegments}
use Rattle.wasm_frames.specs.Record as wire
use Rattle.wasm_frames.specs.Record.{custom_record}
use Rattle.walrus_base.specs.Arena.{items}
use Rattle.walrus_code.specs.Indices.{index_of}
use Rattle.walrus_items.specs.Data.{data_segments}
use Rattle.walrus_plan.specs.Places.{places}
use Rattle.walrus_writing.specs.BySection.{AreSegments, Writes, WritesBack}
use Rattle.walrus_writing.proofs.Indexed.{data_indexed}
use Rattle.walrus_writing.proofs.by_section.write_back.Goals as goal

pub write_data-requires : goal.write_data-requires
write_data-requires c = record {
  indexed = data_indexed c.args.parts c.requires.there (index_of c.args.prepared.now.indices) (places c.args.prepared.now.plan) c.requires.planned.is_plan c.requires.planned.numbered;
}

pub returns : goal.returns
returns c =
    subst (λ (all : List wire.Custom). WritesBack c.args.parts (index_of c.args.prepared.now.indices) all c.args.to.now.items c.append_customs-3.new.to.items)
    (ap (map custom_record) c.as_slice-customs.ensures.value ∙ c.in_ok-listed.ensures.value)
    (record {
      fit = c.in_ok-measure_customs.ensures;
      behind_segments = c.write_data.new.to.items;
      segments_stand = subst (λ (l : List ℕ). Writes DataSegments (map data_entry) (AreSegments (index_of c.args.prepared.now.indices) (items (data_segments c.args.parts.data_.now))) l c.write_data.new.to.items) c.room_behind.ensures c.in_ok-write_data.ensures;
      behind_names = c.append_customs.new.to.items;
      names_stand = c.in_ok-append_customs.ensures;
      behind_producers = c.append_customs-2.new.to.items;
      producers_stand = c.in_ok-append_customs-2.ensures;
      others_stand = c.in_ok-append_customs-3.ensures;
    })
