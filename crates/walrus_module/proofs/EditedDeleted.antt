-- What deleting an item makes of the abstract module.
use Rattle.std.proofs.Common.{◌≡◌, ◌≢◌, ℕ, List, Option, Some, None, option_map, slice_set, refl, sym, ap, ◌∙◌, subst}
use Rattle.walrus_base.specs.Arena.{item_at}
use Rattle.walrus_base.specs.Operators.{Functions, Tables, Memories, Tags, Globals, Elements, DataSegments}
use Rattle.walrus_model.specs.Abstract.{Global, Memory, Table, Tag}
use Rattle.walrus_model.specs.WellMade.{import_in, kind_import, origin_import}
use Rattle.walrus_contents.specs.View.{data_of, element_of, function, global_of, handlers_at, kept_data, kept_elements, kind_of, memory_of, origin_of, table_of, tag_of}
use Rattle.walrus_items.specs.Data.{data_segments}
use Rattle.walrus_items.specs.Elements.{elements}
use Rattle.walrus_items.specs.Functions.{functions}
use Rattle.walrus_items.specs.Globals.{globals}
use Rattle.walrus_items.specs.Memories.{memories}
use Rattle.walrus_items.specs.Tables.{tables}
use Rattle.walrus_items.specs.Tags.{tags}
use Rattle.walrus_items.specs.declared.function_kind.FunctionKind.{FunctionKind}
use Rattle.walrus_theorem.specs.Edits.{LosesItem, Sets}
use Rattle.walrus_theorem.proofs.EditKept.{some_there}
use Rattle.walrus_module.specs.Edits.{DataDeleted, Edits, ElementDeleted, FunctionDeleted, GlobalDeleted, MemoryDeleted, TableDeleted, TagDeleted, seen}
use Rattle.walrus_theorem.proofs.EditedKeeps.{keeps_but, other_number}
use Rattle.walrus_reading.proofs.EditedSlots.{set_elsewhere, sets_seen}

module _ {A X : Type 0} (see : A → X) (old new : List (Option A)) (i : ℕ) (x : A) (there : item_at old i ≡ Some x) (gone : new ≡ slice_set old i None) where
  lost : Sets i (Some (see x)) None (λ k. option_map see (item_at old k)) (λ k. option_map see (item_at new k))
  lost = sets_seen see old new i (Some x) None there (some_there (item_at old i) there) gone

  elsewhere : {Y : Type 0} (get : Option A → Y) (k : ℕ) → k ≢ i → get (item_at new k) ≡ get (item_at old k)
  elsewhere get k differs = ap (λ xs. get (item_at xs k)) gone ∙ ap get (set_elsewhere old i k None differs)

pub function_deleted : FunctionDeleted
function_deleted old new j f l only there kind gone = subst (Edits (LosesItem Functions j (function old.locals f)) old) (sym only) (λ ss. record {
  item = lost (function old.locals) (functions old.funcs) (functions new.funcs) j f there gone;
  own = ap (λ o. import_in (λ g. kind_import g.kind) (option_map (function old.locals) o)) there ∙ ap (λ (k : FunctionKind). kind_import (kind_of old.locals k)) kind;
  keeps = keeps_but (seen ss old) (seen ss (record old { funcs = new.funcs })) (Functions, j) (λ i differs. elsewhere (function old.locals) (functions old.funcs) (functions new.funcs) j f there gone handlers_at i (other_number (λ n. (Functions, n)) differs)) (λ i differs. refl) (λ i differs. refl);
  others = refl;
})

pub table_deleted : TableDeleted
table_deleted old new i t only own there gone = subst (Edits (LosesItem Tables i (table_of t)) old) (sym only) (λ ss. record {
  item = lost table_of (tables old.tables) (tables new.tables) i t there gone;
  own = ap (λ o. import_in (λ (x : Table). origin_import x.origin) (option_map table_of o)) there ∙ ap (λ o. origin_import (origin_of o)) own;
  keeps = keeps_but (seen ss old) (seen ss (record old { tables = new.tables })) (Tables, i) (λ k differs. refl) (λ k differs. elsewhere table_of (tables old.tables) (tables new.tables) i t there gone kept_elements k (other_number (λ n. (Tables, n)) differs)) (λ k differs. refl);
  others = refl;
})

pub memory_deleted : MemoryDeleted
memory_deleted old new i m only own there gone = subst (Edits (LosesItem Memories i (memory_of m)) old) (sym only) (λ ss. record {
  item = lost memory_of (memories old.memories) (memories new.memories) i m there gone;
  own = ap (λ o. import_in (λ (x : Memory). origin_import x.origin) (option_map memory_of o)) there ∙ ap (λ o. origin_import (origin_of o)) own;
  keeps = keeps_but (seen ss old) (seen ss (record old { memories = new.memories })) (Memories, i) (λ k differs. refl) (λ k differs. refl) (λ k differs. elsewhere memory_of (memories old.memories) (memories new.memories) i m there gone kept_data k (other_number (λ n. (Memories, n)) differs));
  others = refl;
})

pub tag_deleted : TagDeleted
tag_deleted old new i t only own there gone = subst (Edits (LosesItem Tags i (tag_of t)) old) (sym only) (λ ss. record {
  item = lost tag_of (tags old.tags) (tags new.tags) i t there gone;
  own = ap (λ o. import_in (λ (x : Tag). origin_import x.origin) (option_map tag_of o)) there ∙ ap (λ o. origin_import (origin_of o)) own;
  keeps = keeps_but (seen ss old) (seen ss (record old { tags = new.tags })) (Tags, i) (λ k differs. refl) (λ k differs. refl) (λ k differs. refl);
  others = refl;
})

pub global_deleted : GlobalDeleted
global_deleted old new i g only own there gone = subst (Edits (LosesItem Globals i (global_of g)) old) (sym only) (λ ss. record {
  item = lost global_of (globals old.globals) (globals new.globals) i g there gone;
  own = ap (λ o. import_in (λ (x : Global). origin_import x.origin) (option_map global_of o)) there ∙ ap (λ o. origin_import (origin_of o)) own;
  keeps = keeps_but (seen ss old) (seen ss (record old { globals = new.globals })) (Globals, i) (λ k differs. refl) (λ k differs. refl) (λ k differs. refl);
  others = refl;
})

pub element_deleted : ElementDeleted
element_deleted old new i e only there gone = subst (Edits (LosesItem Elements i (element_of e)) old) (sym only) (λ ss. record {
  item = lost element_of (elements old.elements) (elements new.elements) i e there gone;
  own = refl;
  keeps = keeps_but (seen ss old) (seen ss (record old { elements = new.elements })) (Elements, i) (λ k differs. refl) (λ k differs. refl) (λ k differs. refl);
  others = refl;
})

pub data_deleted : DataDeleted
data_deleted old new i d only there gone = subst (Edits (LosesItem DataSegments i (data_of d)) old) (sym only) (λ ss. record {
  item = lost data_of (data_segments old.data_) (data_segments new.data_) i d there gone;
  own = refl;
  keeps = keeps_but (seen ss old) (seen ss (record old { data_ = new.data_ })) (DataSegments, i) (λ k differs. refl) (λ k differs. refl) (λ k differs. refl);
  others = refl;
})
