use Rattle.std.proofs.Common.{◌++◌, ap, ◌∙◌, map, sym}
use Rattle.wasm_frames.specs.Record.{custom_record}
use Rattle.wasm_payloads.specs.Producers.{field_record}
use Rattle.walrus_producers.specs.Seen.{producers}
use Rattle.walrus_theorem.specs.Headline.{field_of}
use Rattle.walrus_reading.proofs.ProducersHeld.{fields_read}
use Rattle.walrus_reading.proofs.producers.add_fields.Goals as goal

pub returns-clause-added : goal.returns-clause-added
returns-clause-added c =
    let old = producers c.args.made.now in
    fields_read (custom_record c.args.custom.now) (map field_record c.in_ok-fields.fields.items) old (producers c.push_fields.new.made) (sym c.has.ensures ∙ c.if-not-has.false) c.in_ok-fields.ensures
    (c.in_ok-push_fields.ensures.added ∙ ap (λ fs. old ++ map field_of (map field_record fs)) c.deref.ensures.value)
