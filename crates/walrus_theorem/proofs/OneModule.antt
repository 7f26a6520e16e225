-- Two modules that v in memory is written as, each of a text that is a spelling, are one.
use Rattle.std.proofs.Common.{◌≡◌, ℕ, Bool, refl, sym, ap, ◌∙◌, inl, inr}
use Rattle.std.specs.Prelude.{Option, Some, None, IsSome}
use mathlib.Core.Path.{fun_ext}
use Rattle.walrus_base.specs.Operators.{Space, Types, Functions, Tables, Memories, Tags, Globals, Elements, DataSegments, Item}
use Rattle.walrus_model.specs.Abstract.{Abstract, Indices, Element, DataSegment}
use Rattle.walrus_model.specs.Config.{Config}
use Rattle.walrus_model.specs.Customs.{written_customs}
use Rattle.walrus_model.specs.Live.{IsLive}
use Rattle.walrus_theorem.specs.Once.{Premises}
use Rattle.walrus_model.specs.Sections.{passes, is_on_table, is_on_memory}
use Rattle.walrus_base.proofs.Agree.{same_looks}
use Rattle.walrus_theorem.proofs.NamesOnce.{named_same}
use Rattle.walrus_theorem.proofs.Numbers.{numbers_one}
use Rattle.walrus_base.proofs.SameVal.{Told}
use Rattle.walrus_theorem.proofs.Shaped.{Side}
use Rattle.walrus_theorem.proofs.Things.{imports_there, tables_there, memories_there, tags_there, globals_there, data_there, elements_there, functions_there, types_same, exports_same, start_same}

pub told_some : {X : Type 0} (o : Option X) → Told (IsSome o)
told_some (Some x) = inl refl
told_some None = inr (λ e. cc)

pub told_live : (v : Abstract) (space : Space) (i : ℕ) → Told (IsLive v (space, i))
told_live v Types i = told_some (v.types i)
told_live v Functions i = told_some (v.functions i)
told_live v Tables i = told_some (v.tables i)
told_live v Memories i = told_some (v.memories i)
told_live v Tags i = told_some (v.tags i)
told_live v Globals i = told_some (v.globals i)
told_live v Elements i = told_some (v.elements i)
told_live v DataSegments i = told_some (v.data_segments i)

abbrev on_tables : (ℕ → Option Element) → (table segment : ℕ) → Bool
on_tables es t e = passes (λ y. is_on_table t y.kind) (es e)

abbrev on_memories : (ℕ → Option DataSegment) → (memory segment : ℕ) → Bool
on_memories ds y d = passes (λ x. is_on_memory y x.kind) (ds d)

-- one module of its fields
pub same_fields : (n m : Abstract) → n.types ≡ m.types → n.imports ≡ m.imports → n.functions ≡ m.functions → n.tables ≡ m.tables → n.memories ≡ m.memories → n.tags ≡ m.tags → n.globals ≡ m.globals → n.elements ≡ m.elements → n.data_segments ≡ m.data_segments
    → n.exports ≡ m.exports → n.start ≡ m.start → n.customs ≡ m.customs → n.producers ≡ m.producers → n.named ≡ m.named → n.table_segments ≡ m.table_segments → n.memory_segments ≡ m.memory_segments → n.handler_types ≡ m.handler_types → n.section_roots ≡ m.section_roots → n ≡ m
same_fields n m a b c d e f g h j k l o p q r s t u = λ i. record {
  types = a i;
  imports = b i;
  functions = c i;
  tables = d i;
  memories = e i;
  tags = f i;
  globals = g i;
  elements = h i;
  data_segments = j i;
  exports = k i;
  start = l i;
  customs = o i;
  producers = p i;
  named = q i;
  table_segments = r i;
  memory_segments = s i;
  handler_types = t i;
  section_roots = u i;
}

module _ (c : Config) (v : Abstract) (p : Premises v) (n m : Abstract) (a : Side c v n) (b : Side c v m) where
  index_one : (x : Item) → Told (IsLive v x) → a.is.written.indices x ≡ b.is.written.indices x
  index_one x (inl live) = a.is.written.indexed.live x live ∙ ap Some (numbers_one c v n m a b x.0 x.1 live) ∙ sym (b.is.written.indexed.live x live)
  index_one x (inr dead) = a.is.written.indexed.dead x dead ∙ sym (b.is.written.indexed.dead x dead)

  indices_one : a.is.written.indices ≡ b.is.written.indices
  indices_one = fun_ext (λ x. index_one x (told_live v x.0 x.1))

  elements_same : n.elements ≡ m.elements
  elements_same = same_looks n.elements m.elements (elements_there c v p n m a b) (elements_there c v p m n b a)

  data_same : n.data_segments ≡ m.data_segments
  data_same = same_looks n.data_segments m.data_segments (data_there c v p n m a b) (data_there c v p m n b a)

  pub one_module : n ≡ m
  one_module = same_fields n m
      (types_same c v p n m a b)
      (same_looks n.imports m.imports (imports_there c v p n m a b) (imports_there c v p m n b a))
      (same_looks n.functions m.functions (functions_there c v p n m a b) (functions_there c v p m n b a))
      (same_looks n.tables m.tables (tables_there c v p n m a b) (tables_there c v p m n b a))
      (same_looks n.memories m.memories (memories_there c v p n m a b) (memories_there c v p m n b a))
      (same_looks n.tags m.tags (tags_there c v p n m a b) (tags_there c v p m n b a))
      (same_looks n.globals m.globals (globals_there c v p n m a b) (globals_there c v p m n b a))
      elements_same
      data_same
      (exports_same c v p n m a b)
      (start_same c v p n m a b)
      (a.is.written.customs ∙ ap (λ (indices : Indices). written_customs indices v.customs) indices_one ∙ sym b.is.written.customs)
      (a.is.written.producers ∙ sym b.is.written.producers)
      (named_same c v p n m a b)
      (a.shaped.table_segments ∙ ap on_tables elements_same ∙ sym b.shaped.table_segments)
      (a.shaped.memory_segments ∙ ap on_memories data_same ∙ sym b.shaped.memory_segments)
      (a.shaped.handler_types ∙ sym b.shaped.handler_types)
      (a.shaped.section_roots ∙ sym b.shaped.section_roots)
