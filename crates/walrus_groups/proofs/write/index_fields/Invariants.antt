use Rattle.wasm_entries.specs.TypeSpelling.{FieldStands}
use Rattle.walrus_base.specs.Composite.{field_type}
use Rattle.walrus_groups.specs.Groups.{field_of}
use Rattle.walrus_code.specs.Indices.{index_of}
use Rattle.walrus_groups.specs.Named.{named_field}
use Rattle.walrus_groups.specs.Written.{field_is_exact}
use Rattle.walrus_groups.proofs.WrittenEach.{EachSoFar}
use Rattle.walrus_groups.proofs.write.index_fields.Given as goal

abbrev pub invariant-loop-field : goal.invariant-loop-field
invariant-loop-field l = EachSoFar (named_field (index_of l.indices)) field_is_exact FieldStands field_type field_of l.fields l.field-index l.raw.items
