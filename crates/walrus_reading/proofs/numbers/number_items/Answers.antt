use Rattle.std.proofs.Common.{rules, ◌≡◌, ◌∙◌, ◌+◌, ap, length, sym, arith}
use Rattle.std.specs.Prelude.{unwrap_or}
use Rattle.std.specs.List.{range_with_len}
use Rattle.std.proofs.lemmas.List.{length-map}
use Rattle.wasm_entries.specs.Record.{element_entry, global_entry, table_entry}
use Rattle.wasm_frames.specs.Record.{sections}
use Rattle.walrus_model.specs.Sections.{elements_of, function_types, globals_of, memories_of, tables_of, tags_of}
use Rattle.walrus_reading.proofs.Numbered.{all_named, functions_counted, globals_counted, data_counted, elements_counted, memories_counted, tables_counted, tags_counted}
use Rattle.walrus_reading.proofs.numbers.number_items.Goals as goal

pub in_place-requires : goal.in_place-requires
in_place-requires c =
    let functions_long : c.len.result ≡ length c.args.raw.now.functions.items = search rules in
    let functions : c.index.result + c.len.result ≡ length (function_types (sections c.args.raw.now)) =
    functions_counted (sections c.args.raw.now) c.args.contents.now c.requires.held c.index.result c.len.result (c.index.ensures ∙ c.next_id.ensures) functions_long in
    record { room = omega (arith, functions, c.requires.room.functions) }

pub in_place-requires-2 : goal.in_place-requires-2
in_place-requires-2 c =
    let tables_long : c.len-2.result ≡ length c.args.raw.now.tables.items = search rules in
    let tables : c.index-2.result + c.len-2.result ≡ length (tables_of (sections c.args.raw.now)) =
    tables_counted (sections c.args.raw.now) c.args.contents.now c.requires.held c.index-2.result c.len-2.result (c.index-2.ensures ∙ c.next_id-2.ensures) (tables_long ∙ sym (length-map c.args.raw.now.tables.items table_entry)) in
    record { room = omega (arith, tables, c.requires.room.tables) }

pub in_place-requires-3 : goal.in_place-requires-3
in_place-requires-3 c =
    let memories_long : c.len-3.result ≡ length c.args.raw.now.memories.items = search rules in
    let memories : c.index-3.result + c.len-3.result ≡ length (memories_of (sections c.args.raw.now)) =
    memories_counted (sections c.args.raw.now) c.args.contents.now c.requires.held c.index-3.result c.len-3.result (c.index-3.ensures ∙ c.next_id-3.ensures) memories_long in
    record { room = omega (arith, memories, c.requires.room.memories) }

pub in_place-requires-4 : goal.in_place-requires-4
in_place-requires-4 c =
    let tags_long : c.len-4.result ≡ length c.args.raw.now.tags.items = search rules in
    let tags : c.index-4.result + c.len-4.result ≡ length (tags_of (sections c.args.raw.now)) =
    tags_counted (sections c.args.raw.now) c.args.contents.now c.requires.held c.index-4.result c.len-4.result (c.index-4.ensures ∙ c.next_id-4.ensures) tags_long in
    record { room = omega (arith, tags, c.requires.room.tags) }

pub in_place-requires-5 : goal.in_place-requires-5
in_place-requires-5 c =
    let globals_long : c.len-5.result ≡ length c.args.raw.now.globals.items = search rules in
    let globals : c.index-5.result + c.len-5.result ≡ length (globals_of (sections c.args.raw.now)) =
    globals_counted (sections c.args.raw.now) c.args.contents.now c.requires.held c.index-5.result c.len-5.result (c.index-5.ensures ∙ c.next_id-5.ensures) (globals_long ∙ sym (length-map c.args.raw.now.globals.items global_entry)) in
    record { room = omega (arith, globals, c.requires.room.globals) }

pub in_place-requires-6 : goal.in_place-requires-6
in_place-requires-6 c =
    let elements_long : c.len-6.result ≡ length c.args.raw.now.elements.items = search rules in
    let elements : 0 + c.len-6.result ≡ length (elements_of (sections c.args.raw.now)) =
    elements_counted (sections c.args.raw.now) c.len-6.result (elements_long ∙ sym (length-map c.args.raw.now.elements.items element_entry)) in
    record { room = omega (arith, elements, c.requires.room.elements) }

pub returns-clause-numbered : goal.returns-clause-numbered
returns-clause-numbered c =
    let functions_long : c.len.result ≡ length c.args.raw.now.functions.items = search rules in
    let functions : c.index.result + c.len.result ≡ length (function_types (sections c.args.raw.now)) =
    functions_counted (sections c.args.raw.now) c.args.contents.now c.requires.held c.index.result c.len.result (c.index.ensures ∙ c.next_id.ensures) functions_long in
    let tables_long : c.len-2.result ≡ length c.args.raw.now.tables.items = search rules in
    let tables : c.index-2.result + c.len-2.result ≡ length (tables_of (sections c.args.raw.now)) =
    tables_counted (sections c.args.raw.now) c.args.contents.now c.requires.held c.index-2.result c.len-2.result (c.index-2.ensures ∙ c.next_id-2.ensures) (tables_long ∙ sym (length-map c.args.raw.now.tables.items table_entry)) in
    let memories_long : c.len-3.result ≡ length c.args.raw.now.memories.items = search rules in
    let memories : c.index-3.result + c.len-3.result ≡ length (memories_of (sections c.args.raw.now)) =
    memories_counted (sections c.args.raw.now) c.args.contents.now c.requires.held c.index-3.result c.len-3.result (c.index-3.ensures ∙ c.next_id-3.ensures) memories_long in
    let tags_long : c.len-4.result ≡ length c.args.raw.now.tags.items = search rules in
    let tags : c.index-4.result + c.len-4.result ≡ length (tags_of (sections c.args.raw.now)) =
    tags_counted (sections c.args.raw.now) c.args.contents.now c.requires.held c.index-4.result c.len-4.result (c.index-4.ensures ∙ c.next_id-4.ensures) tags_long in
    let globals_long : c.len-5.result ≡ length c.args.raw.now.globals.items = search rules in
    let globals : c.index-5.result + c.len-5.result ≡ length (globals_of (sections c.args.raw.now)) =
    globals_counted (sections c.args.raw.now) c.args.contents.now c.requires.held c.index-5.result c.len-5.result (c.index-5.ensures ∙ c.next_id-5.ensures) (globals_long ∙ sym (length-map c.args.raw.now.globals.items global_entry)) in
    let elements_long : c.len-6.result ≡ length c.args.raw.now.elements.items = search rules in
    let elements : 0 + c.len-6.result ≡ length (elements_of (sections c.args.raw.now)) =
    elements_counted (sections c.args.raw.now) c.len-6.result (elements_long ∙ sym (length-map c.args.raw.now.elements.items element_entry)) in
    all_named (sections c.args.raw.now) _ (record {
      types = c.requires.types;
      functions = c.in_ok-indices.ensures.numbers ∙ ap (range_with_len 0) functions;
      tables = c.in_ok-indices-2.ensures.numbers ∙ ap (range_with_len 0) tables;
      memories = c.in_ok-indices-3.ensures.numbers ∙ ap (range_with_len 0) memories;
      tags = c.in_ok-indices-4.ensures.numbers ∙ ap (range_with_len 0) tags;
      globals = c.in_ok-indices-5.ensures.numbers ∙ ap (range_with_len 0) globals;
      elements = c.in_ok-indices-6.ensures.numbers ∙ ap (range_with_len 0) elements;
      data_segments = c.in_ok-indices-7.ensures.numbers ∙ ap (range_with_len 0) (data_counted c.data_count.result (unwrap_or (sections c.args.raw.now).data_count 0) c.data_count.ensures);
    })
