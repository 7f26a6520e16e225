-- Two modules that the same bytes are read as, and that are the same but for names, have the same names.
use Rattle.std.proofs.Common.{inl, inr, ◌≡◌, ℕ, zero, suc, ◌<◌, ◌≤◌, Bool, true, false, List, [], ◌∷◌, length, map, flat_map, refl, sym, ap, ap₂, subst, ◌∙◌, arith}
use Rattle.std.specs.Prelude.{Option, Some, None, IsSome, is_some, ◌⊎◌, nat_lt, option_map, option_to_list, slice_get, zip, if◌then◌else◌}
use Rattle.std.specs.List.{AllZip}
use Rattle.std.proofs.lemmas.Bool.{ltb-false, ltb-true, true≢false}
use Rattle.wasm_frames.specs.Record as wire
use Rattle.wasm_frames.proofs.Modules.{one_record_lem}
use Rattle.wasm_payloads.specs.Names.{Named}
use Rattle.walrus_base.specs.Arena.{item_at}
use Rattle.walrus_base.specs.Locals.{locals}
use Rattle.walrus_base.specs.Operators.{Space, Types, Functions, Tables, Memories, Tags, Globals, Elements, DataSegments, Item}
use Rattle.walrus_base.specs.TypeDef.{name_bytes, type_def, type_name}
use Rattle.walrus_base.specs.TypeSlots.{defs, names}
use Rattle.walrus_base.specs.declared.locals.Local.{Local}
use Rattle.walrus_base.specs.declared.types.Type.{«Type»}
use Rattle.walrus_items.specs.Data.{data_segments}
use Rattle.walrus_items.specs.Elements.{elements}
use Rattle.walrus_items.specs.Functions.{functions}
use Rattle.walrus_items.specs.Globals.{globals}
use Rattle.walrus_items.specs.Memories.{memories}
use Rattle.walrus_items.specs.Tables.{tables}
use Rattle.walrus_items.specs.Tags.{tags}
use Rattle.walrus_model.specs.Abstract.{Abstract, Name, ProducerField, AnItem, ALocal}
use Rattle.walrus_model.specs.Config.{Config}
use Rattle.walrus_model.specs.Live.{IsLive}
use Rattle.walrus_model.specs.Names.{last_name, name_of, own_name}
use Rattle.walrus_model.specs.Reads.{ReadsBodyWith}
use Rattle.walrus_model.specs.Sections.{Said, types_of}
use Rattle.walrus_model.proofs.ReadOnce.{bodies_once}
use Rattle.walrus_base.proofs.Standing.{some_inj}
use Rattle.walrus_theorem.specs.Chain.{IsBehind, ParsedAs}
use Rattle.walrus_theorem.specs.Features.{features_of}
use Rattle.walrus_theorem.specs.Headline.{field_of}
use Rattle.walrus_theorem.specs.Namings.{has}
use Rattle.walrus_theorem.specs.Sections.{module_of}
use Rattle.walrus_theorem.proofs.ReadsOnce.{reads_once_lem}
use Rattle.walrus_contents.specs.View as view
use Rattle.walrus_contents.specs.View.{name_at}
use Rattle.walrus_reading.specs.Renamed.{nameless}
use Rattle.walrus_reading.specs.Shown.{IsRenamed, Shown, local_values, shown, mend_function, mend_table, mend_memory, mend_tag, mend_global, mend_element, mend_data, mend_local}
use Rattle.walrus_reading.proofs.OwnNames.{last_of_one, name_of_value}
use Rattle.walrus_reading.proofs.View.{as_many_locals}
use Rattle.walrus_reading.specs.Parsed.{LocalsInTurn, read_view}
use Rattle.walrus_reading.specs.Taken.{HoldsLocal, locals_said}
use Rattle.walrus_reading.specs.Told.{NamesTold}
use Rattle.walrus_reading.specs.declared.module.ReadModule.{ReadModule}
use Rattle.walrus_reading.proofs.LocalsStand.{Stands, each_stands}
use Rattle.walrus_reading.proofs.Rows.{placed_length}
use Rattle.walrus_theorem.proofs.NeedsBase.{has_live as has_is, live_has as live_is}

-- ---- lists that are the same but for names, with the same names

same_name : (a b : Option Name) → last_name (option_to_list a) ≡ last_name (option_to_list b) → a ≡ b
same_name a b e = sym (last_of_one a) ∙ e ∙ last_of_one b

some_none : {A : Type 0} (x : A) → ◌≡◌ {A = Option A} (Some x) None → ⊥
some_none x e = cc

abbrev others : {X : Type 0} → List X → List X
others [] = []
others (x ∷ xs) = xs

module _ {X : Type 0} (mend : (Option Name → Option Name) → X → X) (name : X → Option Name) (whole : (x : X) → mend (λ old. name x) (mend (λ old. None) x) ≡ x) where
  abbrev none : X → X
  none x = mend (λ old. None) x

  one_slot : (a b : Option X) → option_map none b ≡ option_map none a → last_name (name_at name b) ≡ last_name (name_at name a) → b ≡ a
  one_slot None None e q = refl
  one_slot None (Some y) e q = absurd (some_none (none y) e)
  one_slot (Some x) None e q = absurd (some_none (none x) (sym e))
  one_slot (Some x) (Some y) e q =
      let named : name y ≡ name x = same_name (name y) (name x) q in
      ap Some (sym (whole y) ∙ ap (λ (o : Option Name). mend (λ old. o) (none y)) named ∙ ap (mend (λ old. name x)) (some_inj (none y) (none x) e) ∙ whole x)

  one_list : (old new : List (Option X)) → nameless mend new ≡ nameless mend old → ((i : ℕ) → last_name (name_at name (item_at new i)) ≡ last_name (name_at name (item_at old i))) → new ≡ old
  one_list [] [] e q = refl
  one_list [] (t ∷ new) e q = absurd cc
  one_list (s ∷ old) [] e q = absurd cc
  one_list (s ∷ old) (t ∷ new) e q =
      ap₂ (λ (o : Option X) (l : List (Option X)). o ∷ l) (one_slot s t (ap (λ (l : List (Option X)). item_at l 0) e) (q 0))
      (one_list old new (ap (λ (l : List (Option X)). others l) e) (λ i. q (suc i)))

-- the names of types, where the types are the same
names_alike : (a b : List (Option «Type»)) → defs b ≡ defs a → ((i : ℕ) → last_name (name_at (λ n. n) (item_at (names b) i)) ≡ last_name (name_at (λ n. n) (item_at (names a) i))) → names b ≡ names a
names_alike [] [] e q = refl
names_alike [] (t ∷ b) e q = absurd cc
names_alike (s ∷ a) [] e q = absurd cc
names_alike (None ∷ a) (None ∷ b) e q = ap (λ (l : List (Option (Option Name))). None ∷ l) (names_alike a b (ap others e) (λ i. q (suc i)))
names_alike (None ∷ a) (Some y ∷ b) e q = absurd (some_none (type_def y) (ap (λ l. item_at l 0) e))
names_alike (Some x ∷ a) (None ∷ b) e q = absurd (some_none (type_def x) (sym (ap (λ l. item_at l 0) e)))
names_alike (Some x ∷ a) (Some y ∷ b) e q = ap₂ (λ (n : Option Name) (l : List (Option (Option Name))). Some n ∷ l) (same_name (type_name y) (type_name x) (q 0)) (names_alike a b (ap others e) (λ i. q (suc i)))

pub past_end : {X : Type 0} (slots : List (Option X)) (p : ℕ) → length slots ≤ p → item_at slots p ≡ None
past_end [] p le = refl
past_end (s ∷ slots) zero le = absurd (omega (arith, le))
past_end (s ∷ slots) (suc p) le = past_end slots p (omega (arith, le))

-- ---- items

there_below : {X : Type 0} (xs : List X) (i : ℕ) → i < length xs → is_some (slice_get xs i) ≡ true
there_below [] i lt = absurd (omega (arith, lt))
there_below (x ∷ xs) zero lt = refl
there_below (x ∷ xs) (suc i) lt = there_below xs i (omega (arith, lt))

-- where nothing is seen at a place, nothing is named there
unseen : {X Y : Type 0} (name : X → Option Name) (see : X → Y) (o : Option X) → (IsSome (option_map see o) → ⊥) → last_name (name_at name o) ≡ None
unseen name see None gone = refl
unseen name see (Some x) gone = absurd (gone refl)

module _ (c : Config) (M : Abstract) (m : ReadModule) (p : ParsedAs c M (read_view m)) where
  nowhere : (space : Space) (i : ℕ) → has M (space, i) ≡ false → (space ≡ Types → ⊥) → ((k : ℕ) × IsLive M (space, k) × (p.renaming.numbers space k ≡ i)) ⊎ IsBehind (length p.types) (space, i) → ⊥
  nowhere space i gone other (inl h) =
      let here : h.0 ≡ i = sym (p.in_place (space, h.0)) ∙ h.2 in
      true≢false (sym (has_is M (space, i) (subst (λ (k : ℕ). IsLive M (space, k)) here h.1)) ∙ gone)
  nowhere space i gone other (inr behind) = other behind.0

  past_types : (i : ℕ) → has M (Types, i) ≡ false → (t : Bool) → nat_lt i (length p.types) ≡ t → length p.types ≤ i
  past_types i gone true e = absurd (true≢false (sym (there_below p.types i (ltb-true i (length p.types) e)) ∙ ap is_some (sym (p.types_read i)) ∙ gone))
  past_types i gone false e = ltb-false i (length p.types) e

  -- what wasn't read has no name
  absent : (x : Item) → has M x ≡ false → own_name (read_view m) (AnItem x) ≡ None
  absent (Types, i) gone = p.added i (past_types i gone (nat_lt i (length p.types)) refl)
  absent (Functions, i) gone = unseen (λ f. f.name) (view.function m.contents.locals) (item_at (functions m.contents.funcs) i) (λ some. nowhere Functions i gone (λ e. cc) (p.carried.functions.onto i some))
  absent (Tables, i) gone = unseen (λ x. x.name) view.table_of (item_at (tables m.contents.tables) i) (λ some. nowhere Tables i gone (λ e. cc) (p.carried.tables.onto i some))
  absent (Memories, i) gone = unseen (λ x. x.name) view.memory_of (item_at (memories m.contents.memories) i) (λ some. nowhere Memories i gone (λ e. cc) (p.carried.memories.onto i some))
  absent (Tags, i) gone = unseen (λ x. x.name) view.tag_of (item_at (tags m.contents.tags) i) (λ some. nowhere Tags i gone (λ e. cc) (p.carried.tags.onto i some))
  absent (Globals, i) gone = unseen (λ x. x.name) view.global_of (item_at (globals m.contents.globals) i) (λ some. nowhere Globals i gone (λ e. cc) (p.carried.globals.onto i some))
  absent (Elements, i) gone = unseen (λ x. x.name) view.element_of (item_at (elements m.contents.elements) i) (λ some. nowhere Elements i gone (λ e. cc) (p.carried.elements.onto i some))
  absent (DataSegments, i) gone = unseen (λ x. x.name) view.data_of (item_at (data_segments m.contents.data_) i) (λ some. nowhere DataSegments i gone (λ e. cc) (p.carried.data_segments.onto i some))

  told_item : (x : Item) (t : Bool) → has M x ≡ t → own_name (read_view m) (AnItem x) ≡ (if t then name_of c M (AnItem x) else None)
  told_item x true e = p.items x (live_is M x e)
  told_item x false e = absent x e

-- ---- both

module _ (c : Config) (r : wire.Module) (bodies : List Said) (ps : List ProducerField) (namings : List Named) where
  abbrev M : Abstract
  M = module_of r bodies ps namings

  abbrev Read : ReadModule → Type 0
  Read m = (p : ParsedAs c M (read_view m)) × LocalsInTurn M p.renaming

  told_local : (m : ReadModule) (h : Read m) (p : ℕ) → (s : Stands r bodies p) → own_name (read_view m) (ALocal s.f p) ≡ name_of c M (ALocal s.f s.x)
  told_local m h p s =
      ap (λ (q : ℕ). own_name (read_view m) (ALocal s.f q)) (sym s.at ∙ sym (h.1 s.f s.body s.x s.is s.typed))
      ∙ h.0.locals s.f s.body s.x s.is s.typed

  module _ (m n : ReadModule) (h : Read m) (k : Read n) (alike : IsRenamed (shown m.contents) (shown n.contents)) (long : length (locals m.contents.locals) ≡ length (flat_map (locals_said (types_of r)) (zip r.functions bodies))) where
    item_same : (x : Item) → own_name (read_view n) (AnItem x) ≡ own_name (read_view m) (AnItem x)
    item_same x = told_item c M n k.0 x (has M x) refl ∙ sym (told_item c M m h.0 x (has M x) refl)

    local_same : (p : ℕ) → own_name (read_view n) (ALocal 0 p) ≡ own_name (read_view m) (ALocal 0 p)
    local_same p = by (nat_lt p (length (locals m.contents.locals))) refl where
      by : (t : Bool) → nat_lt p (length (locals m.contents.locals)) ≡ t → own_name (read_view n) (ALocal 0 p) ≡ own_name (read_view m) (ALocal 0 p)
      by true e =
          let lt : p < length (locals m.contents.locals) = ltb-true p (length (locals m.contents.locals)) e in
          let s = each_stands r bodies p (omega (arith, lt, long)) in
          told_local n k p s ∙ sym (told_local m h p s)
      by false e =
          let ge : length (locals m.contents.locals) ≤ p = ltb-false p (length (locals m.contents.locals)) e in
          let as_many : length (locals n.contents.locals) ≡ length (locals m.contents.locals) = as_many_locals m.contents n.contents alike in
          ap (λ (o : Option Local). last_name (name_at (λ (l : Local). name_bytes l.name) o)) (past_end (locals n.contents.locals) p (omega (arith, ge, as_many)))
          ∙ sym (ap (λ (o : Option Local). last_name (name_at (λ (l : Local). name_bytes l.name) o)) (past_end (locals m.contents.locals) p ge))

    all_same : shown n.contents ≡ shown m.contents
    all_same = λ j. record {
      types = ap (λ (t : Shown). t.types) alike j;
      type_names = names_alike m.contents.types.places.items n.contents.types.places.items (ap (λ (t : Shown). t.types) alike) (λ i. item_same (Types, i)) j;
      functions = one_list mend_function (λ f. f.name) (λ f. refl) (functions m.contents.funcs) (functions n.contents.funcs) (ap (λ (t : Shown). t.functions) alike) (λ i. item_same (Functions, i)) j;
      tables = one_list mend_table (λ x. x.name) (λ x. refl) (tables m.contents.tables) (tables n.contents.tables) (ap (λ (t : Shown). t.tables) alike) (λ i. item_same (Tables, i)) j;
      memories = one_list mend_memory (λ x. x.name) (λ x. refl) (memories m.contents.memories) (memories n.contents.memories) (ap (λ (t : Shown). t.memories) alike) (λ i. item_same (Memories, i)) j;
      tags = one_list mend_tag (λ x. x.name) (λ x. refl) (tags m.contents.tags) (tags n.contents.tags) (ap (λ (t : Shown). t.tags) alike) (λ i. item_same (Tags, i)) j;
      globals = one_list mend_global (λ x. x.name) (λ x. refl) (globals m.contents.globals) (globals n.contents.globals) (ap (λ (t : Shown). t.globals) alike) (λ i. item_same (Globals, i)) j;
      elements = one_list mend_element (λ x. x.name) (λ x. refl) (elements m.contents.elements) (elements n.contents.elements) (ap (λ (t : Shown). t.elements) alike) (λ i. item_same (Elements, i)) j;
      data_segments = one_list mend_data (λ x. x.name) (λ x. refl) (data_segments m.contents.data_) (data_segments n.contents.data_) (ap (λ (t : Shown). t.data_segments) alike) (λ i. item_same (DataSegments, i)) j;
      locals = one_list mend_local (λ x. x.name) (λ x. refl) (local_values m.contents.locals) (local_values n.contents.locals) (ap (λ (t : Shown). t.locals) alike) local_named j;
      name = same_name (name_bytes n.contents.name) (name_bytes m.contents.name) (k.0.own ∙ sym h.0.own) j;
      imports = ap (λ (t : Shown). t.imports) alike j;
      exports = ap (λ (t : Shown). t.exports) alike j;
      start = ap (λ (t : Shown). t.start) alike j;
      producers = ap (λ (t : Shown). t.producers) alike j;
    } where
      local_named : (p : ℕ) → last_name (name_at (λ l. l.name) (item_at (local_values n.contents.locals) p)) ≡ last_name (name_at (λ l. l.name) (item_at (local_values m.contents.locals) p))
      local_named p = sym (ap last_name (name_of_value (locals n.contents.locals) p)) ∙ local_same p ∙ ap last_name (name_of_value (locals m.contents.locals) p)

pub names_told : NamesTold
names_told c bytes m n pm t pn alike =
    let x = pm.reads in
    let r : wire.Module = x.sections in
    let ps : List ProducerField = flat_map (map field_of) x.fields in
    let namings : List Named = flat_map (λ xs. xs) x.namings in
    let one : t.sections ≡ r = sym (one_record_lem bytes r t.sections x.framed t.framed) in
    let bodies : t.taken.bodies ≡ x.bodies =
    bodies_once (features_of c) r (zip r.functions r.bodies) t.taken.bodies x.bodies
    (subst (λ (z : wire.Module). AllZip (ReadsBodyWith (features_of c) z) (zip z.functions z.bodies) t.taken.bodies) one t.taken.read) x.read in
    let long : length (locals m.contents.locals) ≡ length (flat_map (locals_said (types_of r)) (zip r.functions x.bodies)) =
    as_many_locals t.unnamed m.contents t.renamed
    ∙ sym (placed_length HoldsLocal 0 (flat_map (locals_said (types_of t.sections)) (zip t.sections.functions t.taken.bodies)) (locals t.unnamed.locals) t.taken.locals)
    ∙ ap (λ (z : wire.Module). length (flat_map (locals_said (types_of z)) (zip z.functions t.taken.bodies))) one
    ∙ ap (λ (bs : List Said). length (flat_map (locals_said (types_of r)) (zip r.functions bs))) bodies in
    let first : Read c r x.bodies ps namings m = subst (λ (read : Abstract). (p : ParsedAs c read (read_view m)) × LocalsInTurn read p.renaming) x.is (pm.parsed, pm.in_turn) in
    let second : Read c r x.bodies ps namings n =
    subst (λ (read : Abstract). (p : ParsedAs c read (read_view n)) × LocalsInTurn read p.renaming) (reads_once_lem c bytes pm.module_read pn.module_read pm.reads pn.reads ∙ x.is) (pn.parsed, pn.in_turn) in
    all_same c r x.bodies ps namings m n first second alike long
