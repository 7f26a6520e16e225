-- How many items of each kind there are ("Structure > Modules > Indices").
use Rattle.std.specs.Prelude.{ℕ, List, Option, count_by, is_some, length}
use Rattle.std.specs.List.{range_with_len}
use Rattle.walrus.specs.Base.Arena.{item_at}
use Rattle.walrus.specs.Base.Operators.{Item, Functions, Tables, Memories, Tags, Globals, Elements, DataSegments}
use Rattle.walrus.specs.Contents.Contents.{Contents}
use Rattle.walrus.specs.Items.Data.{data_segments}
use Rattle.walrus.specs.Items.Elements.{elements}
use Rattle.walrus.specs.Items.Functions.{functions}
use Rattle.walrus.specs.Items.Globals.{globals}
use Rattle.walrus.specs.Items.Memories.{memories}
use Rattle.walrus.specs.Items.Tables.{tables}
use Rattle.walrus.specs.Items.Tags.{tags}
use Rattle.walrus.specs.Theorem.Report.{Counts}
use Rattle.walrus_tools.specs.declared.kinds.Kinds.{Kinds}

-- of each kind so many items are those of which P holds
pub record CountsKinds (P : Item → Type 0) (k : Kinds) : Type 0 where
  pub functions : Counts (λ i. P (Functions, i)) k.functions
  pub tables : Counts (λ i. P (Tables, i)) k.tables
  pub memories : Counts (λ i. P (Memories, i)) k.memories
  pub tags : Counts (λ i. P (Tags, i)) k.tags
  pub globals : Counts (λ i. P (Globals, i)) k.globals
  pub elements : Counts (λ i. P (Elements, i)) k.elements
  pub data_segments : Counts (λ i. P (DataSegments, i)) k.data_

-- ---- in memory

-- at how many places something stands
abbrev pub there : {T : Type 0} → List (Option T) → ℕ
there slots = count_by (λ i. is_some (item_at slots i)) (range_with_len 0 (length slots))

-- how many items of each kind there are
abbrev pub kinds_in : Contents → Kinds
kinds_in c = record {
  functions = there (functions c.funcs);
  tables = there (tables c.tables);
  memories = there (memories c.memories);
  tags = there (tags c.tags);
  globals = there (globals c.globals);
  elements = there (elements c.elements);
  data_ = there (data_segments c.data_);
}
