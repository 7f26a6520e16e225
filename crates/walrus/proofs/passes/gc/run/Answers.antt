use Rattle.walrus_base.specs.ModuleTypes.{type_names, type_slots}
use Rattle.std.proofs.Common.{refl}
use Rattle.walrus_base.specs.Marks.{is_marked}
use Rattle.walrus_base.specs.Operators.{DataSegments, Elements, Functions, Globals, Memories, Tables, Tags, Types}
use Rattle.walrus_items.specs.Data.{data_segments}
use Rattle.walrus_items.specs.Elements.{elements}
use Rattle.walrus_items.specs.Globals.{globals}
use Rattle.walrus_items.specs.Memories.{memories}
use Rattle.walrus_items.specs.Tables.{tables}
use Rattle.walrus_items.specs.Tags.{tags}
use Rattle.walrus_items.specs.Imports.{imports}
use Rattle.walrus_items.specs.Functions.{functions}
use Rattle.walrus_model.specs.Kept.{Kept}
use Rattle.walrus_model.proofs.PipelineCollected.{stays_collected_lem}
use Rattle.walrus_module.specs.View.{contents_of, view}
use Rattle.walrus.proofs.CollectedLemmas.{AreKept, imports_left, is_collected, keeps_only, left, marks_groups, marks_of, viewed}
use Rattle.walrus.proofs.passes.gc.run.Goals as goal

pub keep_only-requires-2 : goal.keep_only-requires-2
keep_only-requires-2 g c =
    let old = c.args.module.now in
    let G = λ (i : g.dyn-1.0.I). (g.dyn-1.0.entry i).1 in
    let v = view G old in
    marks_groups v.customs v.section_roots (contents_of old) (is_marked c.in_ok-marks.marks.types) (λ t. c.in_ok-marks.ensures.kept (Types, t))

pub returns : goal.returns
returns g c =
    let old = c.args.module.now in
    let G = λ (i : g.dyn-1.0.I). (g.dyn-1.0.entry i).1 in
    let v = view G old in
    let marks = c.in_ok-marks.marks in
    let kept = c.in_ok-marks.ensures.kept in
    let kept_items : AreKept v.customs v.section_roots (contents_of old) c.keep_only-2.new.self c.keep_only-3.new.self c.keep_only.new.self c.keep_only-4.new.self c.keep_only-5.new.self c.keep_only-6.new.self c.keep_only-7.new.self c.keep_only-8.new.self c.keep_only-9.new.self = record {
      types = keeps_only (is_marked marks.types) (λ i. Kept v (Types, i)) (λ i. kept (Types, i)) (type_slots old.types) (type_slots c.keep_only-2.new.self) c.keep_only-2.ensures.slots;
      type_names = keeps_only (is_marked marks.types) (λ i. Kept v (Types, i)) (λ i. kept (Types, i)) (type_names old.types) (type_names c.keep_only-2.new.self) c.keep_only-2.ensures.names;
      imports = imports_left v.customs v.section_roots (contents_of old) marks kept (marks_of marks) (imports c.keep_only-3.new.self) c.keep_only-3.ensures
          (record { funcs = refl; tables = refl; memories = refl; globals = refl; tags = refl });
      functions = keeps_only (is_marked marks.funcs) (λ i. Kept v (Functions, i)) (λ i. kept (Functions, i)) (functions old.funcs) (functions c.keep_only.new.self) c.keep_only.ensures;
      tables = keeps_only (is_marked marks.tables) (λ i. Kept v (Tables, i)) (λ i. kept (Tables, i)) (tables old.tables) (tables c.keep_only-4.new.self) c.keep_only-4.ensures;
      memories = keeps_only (is_marked marks.memories) (λ i. Kept v (Memories, i)) (λ i. kept (Memories, i)) (memories old.memories) (memories c.keep_only-5.new.self) c.keep_only-5.ensures;
      tags = keeps_only (is_marked marks.tags) (λ i. Kept v (Tags, i)) (λ i. kept (Tags, i)) (tags old.tags) (tags c.keep_only-6.new.self) c.keep_only-6.ensures;
      globals = keeps_only (is_marked marks.globals) (λ i. Kept v (Globals, i)) (λ i. kept (Globals, i)) (globals old.globals) (globals c.keep_only-7.new.self) c.keep_only-7.ensures;
      elements = keeps_only (is_marked marks.elements) (λ i. Kept v (Elements, i)) (λ i. kept (Elements, i)) (elements old.elements) (elements c.keep_only-8.new.self) c.keep_only-8.ensures;
      data_segments = keeps_only (is_marked marks.data_) (λ i. Kept v (DataSegments, i)) (λ i. kept (DataSegments, i)) (data_segments old.data_) (data_segments c.keep_only-9.new.self) c.keep_only-9.ensures;
    } in
    let collected = is_collected v.customs v.section_roots (contents_of old) c.keep_only-2.new.self c.keep_only-3.new.self c.keep_only.new.self c.keep_only-4.new.self c.keep_only-5.new.self c.keep_only-6.new.self c.keep_only-7.new.self c.keep_only-8.new.self c.keep_only-9.new.self kept_items in
    record {
      collected = collected;
      items = kept_items;
      others = record { locals = refl; exports = refl; customs = refl; settings = refl; producers = refl; start = refl; name = refl };
      own_ids = λ own. record {
        functions = λ i x here. own.functions i x (kept_items.functions.left i x here).1;
        exports = own.exports;
        locals = own.locals;
        imports = λ i x here. own.imports i x (kept_items.imports.left i x here).1;
        tables = λ i x here. own.tables i x (kept_items.tables.left i x here).1;
        memories = λ i x here. own.memories i x (kept_items.memories.left i x here).1;
        tags = λ i x here. own.tags i x (kept_items.tags.left i x here).1;
        globals = λ i x here. own.globals i x (kept_items.globals.left i x here).1;
        elements = λ i x here. own.elements i x (kept_items.elements.left i x here).1;
        data_segments = λ i x here. own.data_segments i x (kept_items.data_segments.left i x here).1;
      };
      sound = c.in_ok-marks.ensures.sound;
      settled = (stays_collected_lem v (viewed v.customs v.section_roots (left v.customs v.section_roots (contents_of old) c.keep_only-2.new.self c.keep_only-3.new.self c.keep_only.new.self c.keep_only-4.new.self c.keep_only-5.new.self c.keep_only-6.new.self c.keep_only-7.new.self c.keep_only-8.new.self c.keep_only-9.new.self)) collected).items;
    }
