-- Where functions and tags have been taken in, all else is what imports brought.
use Rattle.std.proofs.Common.{◌≡◌, ℕ, List, [], sym, ap, subst, ◌∙◌}
use Rattle.wasm_frames.specs.Record as wire
use Rattle.walrus_bodies.specs.declared.features.Features.{Features}
use Rattle.walrus_contents.specs.declared.parts.Contents.{Contents}
use Rattle.walrus_items.specs.Data.{data_segments}
use Rattle.walrus_items.specs.Elements.{elements}
use Rattle.walrus_items.specs.Exports.{exports}
use Rattle.walrus_items.specs.Memories.{memories}
use Rattle.walrus_items.specs.Tables.{tables}
use Rattle.walrus_producers.specs.Seen.{producers}
use Rattle.walrus_model.specs.Sections.{imported, imported_memory, imported_table}
use Rattle.walrus_reading.specs.Held.{HoldsMemory, HoldsTable, none_kept}
use Rattle.walrus_reading.specs.Placed.{AllPlaced}
use Rattle.walrus_reading.specs.Taken.{HasFunctions}

module _ (features : Features) (r : wire.Module) (m : Contents) (starts : List ℕ) (h : HasFunctions features r m starts) where
  pub tables_still : AllPlaced (HoldsTable none_kept) 0 (imported imported_table 0 r.imports) (tables m.tables)
  tables_still = subst (λ (x : Contents). AllPlaced (HoldsTable none_kept) 0 (imported imported_table 0 r.imports) (tables x.tables)) (sym h.others) h.begun.brought.tables

  pub memories_still : AllPlaced (HoldsMemory none_kept) 0 (imported imported_memory 0 r.imports) (memories m.memories)
  memories_still = subst (λ (x : Contents). AllPlaced (HoldsMemory none_kept) 0 (imported imported_memory 0 r.imports) (memories x.memories)) (sym h.others) h.begun.brought.memories

  pub no_elements : elements m.elements ≡ []
  no_elements = ap (λ (x : Contents). elements x.elements) h.others ∙ h.begun.elements

  pub no_data : data_segments m.data_ ≡ []
  no_data = ap (λ (x : Contents). data_segments x.data_) h.others ∙ h.begun.data_segments

  pub no_exports : exports m.exports ≡ []
  no_exports = ap (λ (x : Contents). exports x.exports) h.others ∙ h.begun.exports

  pub no_producers : producers m.producers ≡ []
  no_producers = ap (λ (x : Contents). producers x.producers) h.others ∙ h.begun.producers
