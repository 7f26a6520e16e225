use Rattle.std.proofs.Common.{map, ap, sym, ◌++◌, ◌∙◌}
use Rattle.wasm_forms.proofs.Adding.{vector_map}
use Rattle.wasm_payloads.specs.Producers.{field_record}
use Rattle.wasm_payloads.specs.Spelling.{field_bytes, producers_bytes}
use Rattle.walrus_producers.specs.Seen.{fields_seen}
use Rattle.walrus_theorem.specs.Text.{raw_field}
use Rattle.walrus_writing.proofs.producers.spelled_fields.Goals as goal

pub returns-in-Ok : goal.returns-in-Ok
returns-in-Ok c =
    c.in-Ok.ensures.0
    ∙ ap (λ old. old ++ producers_bytes (map field_record c.as_slice.result.now)) c.new-bytes.ensures.items
    ∙ ap (λ raw. producers_bytes (map field_record raw)) c.as_slice.ensures.value
    ∙ ap producers_bytes c.in_ok-raw.ensures.value
    ∙ sym (vector_map raw_field field_bytes (fields_seen c.args.fields.now))
