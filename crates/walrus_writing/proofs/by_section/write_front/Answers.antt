use Rattle.std.proofs.Common.{◌∙◌, ℕ, ap, subst}
use Rattle.std.specs.Prelude.{IfSome, Option}
use Rattle.wasm_frames.specs.Frames.{Start}
use Rattle.wasm_wire.specs.ModuleSpelling.{if_given}
use Rattle.wasm_writer.specs.Spelling.{SectionFits}
use Rattle.wasm_writer.specs.Writing.{written}
use Rattle.walrus_base.specs.Arena.{items}
use Rattle.walrus_base.specs.Operators.{Types}
use Rattle.walrus_base.specs.Shape.{place_in}
use Rattle.walrus_code.specs.Indices.{index_of}
use Rattle.walrus_constants.specs.Named.{named_global, named_table}
use Rattle.walrus_contents.specs.View.{global_of, parts_view, table_of, tag_of}
use Rattle.walrus_items.specs.Globals.{GlobalValue, globals}
use Rattle.walrus_items.specs.Tables.{TableValue, tables}
use Rattle.walrus_items.specs.Tags.{TagValue, tags}
use Rattle.walrus_plan.specs.Places.{places}
use Rattle.walrus_theorem.proofs.Matches.{imports_live}
use Rattle.walrus_writing.specs.BySection.{Stand}
use Rattle.walrus_writing.specs.Parts.{tag_index}
use Rattle.walrus_writing.proofs.ImportsIndexed.{imports_indexed, written_indexed}
use Rattle.walrus_writing.proofs.Indexed.{no_type_lacks, exports_indexed, elements_indexed, globals_indexed, tables_indexed, tags_indexed}
use Rattle.walrus_writing.proofs.OwnPlaces.{own_indexed}
use Rattle.walrus_writing.proofs.by_section.write_front.Goals as goal

pub write_types-requires : goal.write_types-requires
write_types-requires c = record {
  numbered = λ t. c.requires.planned.1.numbered Types t ∙ ap (λ ps. place_in ps t) c.requires.planned.1.lists.types;
  indexed = no_type_lacks c.args.parts c.requires.there (index_of c.args.indices.now) (places c.requires.planned.0.plan) c.requires.planned.1.is_plan c.requires.planned.1.numbered;
}

pub write_imports-requires : goal.write_imports-requires
write_imports-requires c = record {
  live = imports_live (parts_view c.args.parts) c.requires.there;
  indexed = imports_indexed (index_of c.args.indices.now) c.args.parts (written_indexed (index_of c.args.indices.now) (places c.requires.planned.0.plan) (parts_view c.args.parts) c.requires.planned.1.numbered c.requires.planned.1.is_plan c.requires.there);
}

pub write_tables-requires : goal.write_tables-requires
write_tables-requires c = record {
  indexed = own_indexed (λ (t : TableValue). t.imported_by) (λ t. named_table (index_of c.args.indices.now) (table_of t)) (items (tables c.args.parts.tables.now))
      (tables_indexed c.args.parts c.requires.there (index_of c.args.indices.now) (places c.requires.planned.0.plan) c.requires.planned.1.is_plan c.requires.planned.1.numbered);
}

pub write_tags-requires : goal.write_tags-requires
write_tags-requires c = record {
  indexed = own_indexed (λ (t : TagValue). t.imported_by) (λ t. tag_index (index_of c.args.indices.now) (tag_of t)) (items (tags c.args.parts.tags.now))
      (tags_indexed c.args.parts c.requires.there (index_of c.args.indices.now) (places c.requires.planned.0.plan) c.requires.planned.1.is_plan c.requires.planned.1.numbered);
}

pub write_globals-requires : goal.write_globals-requires
write_globals-requires c = record {
  indexed = own_indexed (λ (g : GlobalValue). g.imported_by) (λ g. named_global (index_of c.args.indices.now) (global_of g)) (items (globals c.args.parts.globals.now))
      (globals_indexed c.args.parts c.requires.there (index_of c.args.indices.now) (places c.requires.planned.0.plan) c.requires.planned.1.is_plan c.requires.planned.1.numbered);
}

pub write_exports-requires : goal.write_exports-requires
write_exports-requires c = record {
  indexed = exports_indexed c.args.parts c.requires.there (index_of c.args.indices.now) (places c.requires.planned.0.plan) c.requires.planned.1.is_plan c.requires.planned.1.numbered;
}

pub write_elements-requires : goal.write_elements-requires
write_elements-requires c = record {
  indexed = elements_indexed c.args.parts c.requires.there (index_of c.args.indices.now) (places c.requires.planned.0.plan) c.requires.planned.1.is_plan c.requires.planned.1.numbered;
}

pub returns : goal.returns
returns c = record {
  behind_dylinks = written c.write_customs.new.to;
  dylinks_stand = c.in_ok-write_customs.ensures;
  behind_types = written c.write_types.new.to;
  types_stand = c.in_ok-write_types.ensures;
  behind_imports = written c.write_imports.new.to;
  imports_stand = c.in_ok-write_imports.ensures;
  behind_functions = written c.function_section.new.self;
  functions_stand = c.in_ok-function_section.ensures.appends;
  behind_tables = written c.write_tables.new.to;
  tables_stand = c.in_ok-write_tables.ensures;
  behind_memories = written c.write_memories.new.to;
  memories_stand = c.in_ok-write_memories.ensures;
  behind_tags = written c.write_tags.new.to;
  tags_stand = c.in_ok-write_tags.ensures;
  behind_globals = written c.write_globals.new.to;
  globals_stand = c.in_ok-write_globals.ensures;
  behind_exports = written c.write_exports.new.to;
  exports_stand = c.in_ok-write_exports.ensures;
  behind_start = written c.write_start.new.to;
  start_stands = subst (λ (s : Option ℕ). Stand (written c.write_exports.new.to) (written c.write_start.new.to) (if_given Start s) × IfSome s (λ f. SectionFits (Start f))) c.raw_start.ensures c.in_ok-write_start.ensures;
  behind_elements = written c.write_elements.new.to;
  elements_stand = c.in_ok-write_elements.ensures;
  count_stands = c.in_ok-write_count.ensures;
}
