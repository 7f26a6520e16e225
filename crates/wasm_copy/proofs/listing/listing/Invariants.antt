use Rattle.std.proofs.Common.{◌≡◌, map, take, string_bytes}
use Rattle.wasm_frames.specs.Record.{custom_record, sections}
use Rattle.wasm_copy.specs.Listing.{AreListed, is_below, has_function}
use Rattle.wasm_copy.proofs.listing.listing.Given as goal

abbrev pub invariant-sections : goal.invariant-sections
invariant-sections l =
    (is_below l.lines.functions ≡ has_function (sections l.records))
    × AreListed (has_function (sections l.records)) (map custom_record (take l.section-index l.section-items)) (string_bytes l.lines.text)
