-- All names of a module: those that namings give, and behind them those that are given to what has none.
use Rattle.std.proofs.Common.{◌≡◌, ℕ, zero, suc, ◌<◌, Bool, true, false, List, [], ◌∷◌, length, refl, sym, ap, ◌∙◌, arith}
use Rattle.std.specs.Prelude.{Option, Some, None, if◌then◌else◌}
use Rattle.std.specs.List.{range_with_len}
use Rattle.wasm_frames.specs.Record as wire
use Rattle.wasm_payloads.specs.Names.{Named}
use Rattle.walrus_base.specs.Arena.{item_at}
use Rattle.walrus_base.specs.Operators.{Functions, Tables, Memories, Tags, Globals, Elements, DataSegments}
use Rattle.walrus_items.specs.Functions.{FunctionValue}
use Rattle.walrus_model.specs.Abstract.{Name}
use Rattle.walrus_reading.specs.Renamed.{last_given, nameless, renamed_from}
use Rattle.walrus_reading.specs.Shown.{IsRenamed, LocalValue, Shown, mend_function, mend_table, mend_memory, mend_tag, mend_global, mend_element, mend_data, mend_local}
use Rattle.walrus_reading.specs.Synthetic.{AreNamed, all_filled, filled_if, finished, named_by as all_by, parameters_at, text_of_function, text_of_local}
use Rattle.walrus_reading.specs.TakenNames.{Bounds, TakesNames, all_named, local_in, place_of, starts_from}
use Rattle.walrus_reading.proofs.AfterAll.{by, data_after, elements_after, functions_after, given, globals_after, locals_after, memories_after, others_after, tables_after, tags_after}
use Rattle.walrus_reading.proofs.Becoming.{renamed_same, renamed_twice, seen_renamed}
use Rattle.walrus_reading.proofs.Finished.{AreFilled, are_filled, others_filled}

-- the namings are taken, and then names are given
pub all_named_then : (b own : Bounds) (customs : List wire.Custom) (old middle new : Shown) → own ≡ b → TakesNames b customs old middle → new ≡ finished own middle → AreNamed b customs old new
all_named_then b own customs old middle new same h is = record {
  namings = h.namings;
  read = h.read;
  are = is ∙ ap (λ (c : Bounds). finished c middle) same ∙ ap (finished b) h.are;
}

abbrev Becomes : Type 0
Becomes = Option Name → Option Name

abbrev as_it_was : Becomes
as_it_was old = old

-- ---- all but the names

-- each item, and each local, is as it was but for its name, which becomes this, and all else is as it was
pub record Renames (old new : Shown) : Type 0 where
  pub types : new.types ≡ old.types
  pub functions_become : ℕ → Becomes
  pub functions : new.functions ≡ renamed_from mend_function functions_become 0 old.functions
  pub tables_become : ℕ → Becomes
  pub tables : new.tables ≡ renamed_from mend_table tables_become 0 old.tables
  pub memories_become : ℕ → Becomes
  pub memories : new.memories ≡ renamed_from mend_memory memories_become 0 old.memories
  pub tags_become : ℕ → Becomes
  pub tags : new.tags ≡ renamed_from mend_tag tags_become 0 old.tags
  pub globals_become : ℕ → Becomes
  pub globals : new.globals ≡ renamed_from mend_global globals_become 0 old.globals
  pub elements_become : ℕ → Becomes
  pub elements : new.elements ≡ renamed_from mend_element elements_become 0 old.elements
  pub data_become : ℕ → Becomes
  pub data_segments : new.data_segments ≡ renamed_from mend_data data_become 0 old.data_segments
  pub locals_become : ℕ → Becomes
  pub locals : new.locals ≡ renamed_from mend_local locals_become 0 old.locals
  pub imports : new.imports ≡ old.imports
  pub exports : new.exports ≡ old.exports
  pub start : new.start ≡ old.start
  pub producers : new.producers ≡ old.producers

-- without names, renamed items are as they were
nameless_then : {X : Type 0} (mend : Becomes → X → X) → ((g : Becomes) (x : X) → mend (λ name. None) (mend g x) ≡ mend (λ name. None) x)
    → (becomes : ℕ → Becomes) (old new : List (Option X)) → new ≡ renamed_from mend becomes 0 old → nameless mend new ≡ nameless mend old
nameless_then mend same becomes old new are = ap (nameless mend) are ∙ seen_renamed mend (mend (λ name. None)) same becomes 0 old

-- and so all is the same but for names
pub nothing_else : (old new : Shown) → Renames old new → IsRenamed old new
nothing_else old new h = λ j. record {
  types = h.types j;
  type_names = [];
  functions = nameless_then mend_function (λ g x. refl) h.functions_become old.functions new.functions h.functions j;
  tables = nameless_then mend_table (λ g x. refl) h.tables_become old.tables new.tables h.tables j;
  memories = nameless_then mend_memory (λ g x. refl) h.memories_become old.memories new.memories h.memories j;
  tags = nameless_then mend_tag (λ g x. refl) h.tags_become old.tags new.tags h.tags j;
  globals = nameless_then mend_global (λ g x. refl) h.globals_become old.globals new.globals h.globals j;
  elements = nameless_then mend_element (λ g x. refl) h.elements_become old.elements new.elements h.elements j;
  data_segments = nameless_then mend_data (λ g x. refl) h.data_become old.data_segments new.data_segments h.data_segments j;
  locals = nameless_then mend_local (λ g x. refl) h.locals_become old.locals new.locals h.locals j;
  name = None;
  imports = h.imports j;
  exports = h.exports j;
  start = h.start j;
  producers = h.producers j;
}

-- ---- where names are given, or not

abbrev filled_or_not : Bool → List ℕ → Shown → Shown
filled_or_not on starts s = if on then all_filled starts s (range_with_len 0 (length s.functions)) else s

there_below : (slots : List (Option FunctionValue)) (i parameters : ℕ) → parameters_at (item_at slots i) ≡ Some parameters → i < length slots
there_below [] i parameters e = absurd cc
there_below (s ∷ slots) zero parameters e = omega arith
there_below (s ∷ slots) (suc i) parameters e = let lt : i < length slots = there_below slots i parameters e in omega (arith, lt)

pub record Finishes (on : Bool) (starts : List ℕ) (old new : Shown) : Type 0 where
  pub functions_become : ℕ → Becomes
  pub functions : new.functions ≡ renamed_from mend_function functions_become 0 old.functions
  pub named : (i parameters : ℕ) → parameters_at (item_at old.functions i) ≡ Some parameters → functions_become i ≡ filled_if on (text_of_function i)
  pub imported : (i : ℕ) → parameters_at (item_at old.functions i) ≡ None → functions_become i ≡ as_it_was
  pub locals_become : ℕ → Becomes
  pub locals : new.locals ≡ renamed_from mend_local locals_become 0 old.locals
  pub locals_named : (many : List ℕ) → starts ≡ starts_from 0 many → (f x p parameters : ℕ) → parameters_at (item_at old.functions f) ≡ Some parameters → place_of starts f x ≡ Some p → locals_become p ≡ filled_if on (text_of_local parameters x)

pub finishes : (on : Bool) (starts : List ℕ) (s : Shown) → Finishes on starts s (filled_or_not on starts s)
finishes true starts s =
    let h : AreFilled starts 0 (length s.functions) s (all_filled starts s (range_with_len 0 (length s.functions))) = are_filled starts (length s.functions) 0 s in
    record {
      functions_become = h.functions_become;
      functions = h.functions;
      named = λ i parameters e. h.named i parameters (omega arith) (let lt : i < length s.functions = there_below s.functions i parameters e in omega (arith, lt)) e;
      imported = h.imported;
      locals_become = h.locals_become;
      locals = h.locals;
      locals_named = λ many are f x p parameters e is. h.locals_named many are f x p parameters (omega arith) (let lt : f < length s.functions = there_below s.functions f parameters e in omega (arith, lt)) e is;
    }
finishes false starts s = record {
  functions_become = λ i. as_it_was;
  functions = sym (renamed_same mend_function (λ x. refl) (λ i. as_it_was) 0 s.functions (λ n le. refl));
  named = λ i parameters e. refl;
  imported = λ i e. refl;
  locals_become = λ p. as_it_was;
  locals = sym (renamed_same mend_local (λ x. refl) (λ p. as_it_was) 0 s.locals (λ n le. refl));
  locals_named = λ many are f x p parameters e is. refl;
}

other_field : {Y : Type 0} (field : Shown → Y) → ((s : Shown) (fs : List (Option FunctionValue)) (ls : List (Option LocalValue)) → field (record s { functions = fs; locals = ls }) ≡ field s) → (on : Bool) (starts : List ℕ) (s : Shown) → field (filled_or_not on starts s) ≡ field s
other_field field same true starts s = others_filled field same starts (range_with_len 0 (length s.functions)) s
other_field field same false starts s = refl

-- ---- both

module _ (b : Bounds) (namings : List Named) (s : Shown) where
  abbrev taken : Shown
  taken = all_named b s namings

  pub finishing : Finishes b.synthetic b.starts taken (all_by b namings s)
  finishing = finishes b.synthetic b.starts taken

  -- what isn't named stays
  pub field_stays : {Y : Type 0} (field : Shown → Y) → ((s : Shown) (fs : List (Option FunctionValue)) (ls : List (Option LocalValue)) → field (record s { functions = fs; locals = ls }) ≡ field s) → field (all_by b namings s) ≡ field taken
  field_stays field same = other_field field same b.synthetic b.starts taken

  abbrev pub names_become : Renames s (all_by b namings s)
  names_become = record {
    types = field_stays (λ t. t.types) (λ t fs ls. refl) ∙ others_after (λ t. t.types) b (λ t naming. refl) namings s;
    functions_become = λ i old. finishing.functions_become i (by namings Functions i old);
    functions = finishing.functions ∙ ap (renamed_from mend_function finishing.functions_become 0) (functions_after b namings s) ∙ renamed_twice mend_function (λ f g x. refl) (by namings Functions) finishing.functions_become 0 s.functions;
    tables_become = by namings Tables;
    tables = field_stays (λ t. t.tables) (λ t fs ls. refl) ∙ tables_after b namings s;
    memories_become = by namings Memories;
    memories = field_stays (λ t. t.memories) (λ t fs ls. refl) ∙ memories_after b namings s;
    tags_become = by namings Tags;
    tags = field_stays (λ t. t.tags) (λ t fs ls. refl) ∙ tags_after b namings s;
    globals_become = by namings Globals;
    globals = field_stays (λ t. t.globals) (λ t fs ls. refl) ∙ globals_after b namings s;
    elements_become = by namings Elements;
    elements = field_stays (λ t. t.elements) (λ t fs ls. refl) ∙ elements_after b namings s;
    data_become = by namings DataSegments;
    data_segments = field_stays (λ t. t.data_segments) (λ t fs ls. refl) ∙ data_after b namings s;
    locals_become = λ p old. finishing.locals_become p (last_given (given (local_in b) namings p) old);
    locals = finishing.locals ∙ ap (renamed_from mend_local finishing.locals_become 0) (locals_after b namings s) ∙ renamed_twice mend_local (λ f g x. refl) (λ p. last_given (given (local_in b) namings p)) finishing.locals_become 0 s.locals;
    imports = field_stays (λ t. t.imports) (λ t fs ls. refl) ∙ others_after (λ t. t.imports) b (λ t naming. refl) namings s;
    exports = field_stays (λ t. t.exports) (λ t fs ls. refl) ∙ others_after (λ t. t.exports) b (λ t naming. refl) namings s;
    start = field_stays (λ t. t.start) (λ t fs ls. refl) ∙ others_after (λ t. t.start) b (λ t naming. refl) namings s;
    producers = field_stays (λ t. t.producers) (λ t fs ls. refl) ∙ others_after (λ t. t.producers) b (λ t naming. refl) namings s;
  }

  -- only names become others
  pub is_renamed : IsRenamed s (all_by b namings s)
  is_renamed = nothing_else s (all_by b namings s) names_become
