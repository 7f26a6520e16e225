-- What emission tells of the places in the bytes that it wrote.
use Rattle.std.specs.Prelude.{ℕ, map}
use Rattle.std.specs.declared.ops.Range.{Range}
use Rattle.walrus_base.specs.declared.id.Id.{Id}
use Rattle.walrus_base.specs.declared.keys.FunctionKey.{FunctionKey}
use Rattle.walrus_base.specs.Id.{place}
use Rattle.walrus_code.specs.Location.{location}
use Rattle.walrus_code.specs.Transform.{Transform}
use Rattle.walrus_code.specs.declared.location.InstrLocId.{InstrLocId}
use Rattle.walrus_items.specs.declared.transform.CodeTransform.{CodeTransform}

-- the place of a function's id with the start and the end of its body
abbrev pub range_of : Id FunctionKey × Range ℕ → ℕ × (ℕ × ℕ)
range_of r = (place r.0, (r.1.start, r.1.end))

abbrev pub location_of : InstrLocId × ℕ → ℕ × ℕ
location_of x = (location x.0, x.1)

abbrev pub transform_of : CodeTransform → Transform
transform_of t = record {
  function_ranges = map range_of t.function_ranges.items;
  code_section_start = t.code_section_start;
  instruction_map = map location_of t.instruction_map.items;
}
