-- Names and producers bear on no rule.
use Rattle.std.proofs.Common.{List, [], ◌∷◌, Bool}
use Rattle.std.specs.Prelude.{Contains}
use Rattle.walrus_base.specs.Operators.{Types, Functions, Tables, Memories, Tags, Globals, Elements, DataSegments, Item, Op}
use Rattle.walrus_model.specs.Abstract.{Abstract, Name, Subject, ProducerField}
use Rattle.walrus_model.specs.Live.{IsLive}
use Rattle.walrus_model.specs.Refers.{written_in}
use Rattle.walrus_model.specs.Rules.{Holds, OffsetHolds}

module _ (a : Abstract) (p : List ProducerField) (n : Subject → List Name) where
  abbrev b : Abstract
  b = record a { producers = p; named = n }

  live_too : (x : Item) → IsLive a x → IsLive b x
  live_too (Types, i) h = h
  live_too (Functions, i) h = h
  live_too (Tables, i) h = h
  live_too (Memories, i) h = h
  live_too (Tags, i) h = h
  live_too (Globals, i) h = h
  live_too (Elements, i) h = h
  live_too (DataSegments, i) h = h

  written_too : (x y : Item) → Contains (written_in b x) y → Contains (written_in a x) y
  written_too (Types, i) y h = h
  written_too (Functions, i) y h = h
  written_too (Tables, i) y h = h
  written_too (Memories, i) y h = h
  written_too (Tags, i) y h = h
  written_too (Globals, i) y h = h
  written_too (Elements, i) y h = h
  written_too (DataSegments, i) y h = h

  offset_too : (wide : Bool) (ops : List Op) → OffsetHolds a wide ops → OffsetHolds b wide ops
  offset_too wide [] h = tt
  offset_too wide (o ∷ []) h = h
  offset_too wide (o ∷ q ∷ ops) h = tt

  pub holds_beside : Holds a → Holds b
  holds_beside h = record {
    types = record { one_supertype = h.types.one_supertype; supertypes = h.types.supertypes; others = h.types.others };
    indices = record {
      written = λ x y c. live_too y (h.indices.written x y (written_too x y c));
      locals = h.indices.locals;
      exports = λ e c. live_too e.item (h.indices.exports e c);
      start = h.indices.start;
      tables = h.indices.tables;
      globals = h.indices.globals;
    };
    function_types = record { functions = h.function_types.functions; tags = h.function_types.tags; blocks = h.function_types.blocks };
    limits = record { tables = h.limits.tables; memories = h.limits.memories };
    exports = record { distinct = h.exports.distinct; start = h.exports.start };
    offsets = record {
      elements = λ i table e t offset at kind there. offset_too t.ty.limits.wide offset (h.offsets.elements i table e t offset at kind there);
      data_segments = λ i memory d x offset at kind there. offset_too x.ty.limits.wide offset (h.offsets.data_segments i memory d x offset at kind there);
    };
    locals = h.locals;
  }
