-- Each premise is needed.
use Rattle.std.proofs.Common.{◌≡◌, ℕ, List, [], ◌∷◌, refl, sym, ◌∙◌, arith, inl, inr, ap, ⊎_elim}
use Rattle.std.specs.Prelude.{codes, Option, Some, None}
use Rattle.std.proofs.lemmas.Str.Ascii.{IsAscii-nil, IsAscii-cons}
use Rattle.std.proofs.lemmas.Str.{IsUtf8-from_ascii}
use Rattle.std.proofs.lemmas.List.Elements.{All-nil, All-cons}
use Rattle.wasm_entries.specs.Spelling.{IsIndex, ExportStands}
use Rattle.wasm_entries.specs.Record as entries
use Rattle.wasm_entries.specs.declared.record.RawExportKind.TheVariants as kinds
use Rattle.wasm_frames.specs.Frames.{Start, Exports, Tags}
use Rattle.wasm_writer.specs.Spelling.{SectionStands}
use Rattle.walrus_base.specs.Operators as items
use Rattle.walrus_base.specs.Operators.{Space, Types, Functions, Tables, Memories, Globals, Elements, DataSegments}
use Rattle.walrus_model.specs.Abstract.{Abstract, Export, Tag}
use Rattle.walrus_model.specs.Live.{IsLive}
use Rattle.walrus_model.specs.Order.{ByImport}
use Rattle.walrus_model.specs.Renaming.{Renaming}
use Rattle.walrus_theorem.specs.Needs.{plain_config, IsWrittenTwice, start_text, export_text, tag_text, AreNeeded}
use Rattle.walrus_theorem.specs.Once.{NamesLive, TypesLocals, ExportsLive, StartsLive}
use Rattle.walrus_theorem.specs.Pinned.{IsWrittenAs}
use Rattle.walrus_model.specs.Sections.{tag_of}
use Rattle.walrus_theorem.specs.Spelling.{NeedsCount, IsSpelling}
use Rattle.walrus_theorem.specs.Text.{said_by}
use Rattle.walrus_base.proofs.Lists.{Contains-none}
use Rattle.walrus_theorem.proofs.NeedsBase.{no_item, one_item, one_carried, no_items, given, are_given, IsSmall, small_rises, empty_if, NamesNone, declares_none}
use Rattle.walrus_theorem.proofs.NeedsLocals.{local_needed}

-- a function that isn't there gets number k, and so does a type
abbrev moved_in : ℕ → Space → ℕ → ℕ
moved_in k Functions i = k
moved_in k Types i = k
moved_in k space i = i

abbrev moved : ℕ → Renaming
moved k = record { numbers = moved_in k; imports = λ i. i; locals = λ f x. x }

abbrev f_export : ℕ → entries.Export
f_export k = record { name = codes "f"; kind = kinds.Function; index = k }

export_stands : (k : ℕ) → IsIndex k → ExportStands (f_export k)
export_stands k low = record { name = IsUtf8-from_ascii (0x66 ∷ []) (IsAscii-cons 0x66 [] (omega arith) IsAscii-nil); index = low }

abbrev start_number : Option ℕ → ℕ
start_number None = 0
start_number (Some k) = k

abbrev export_number : List Export → ℕ
export_number [] = 0
export_number (e ∷ es) = e.item.1

abbrev tag_number : Option Tag → ℕ
tag_number None = 0
tag_number (Some t) = t.ty

-- ---- a start that isn't there

start_small : IsSmall (said_by (start_text 0))
start_small = record { single = single; still = still; no_import = λ i h. absurd (let e : None ≡ Some h.0 = h.1 in cc) }
  where
    single : (space : Space) (i : ℕ) → IsLive (said_by (start_text 0)) (space, i) → i ≡ 0
    single Types i h = absurd (no_item i h)
    single Functions i h = absurd (no_item i h)
    single Tables i h = absurd (no_item i h)
    single Memories i h = absurd (no_item i h)
    single items.Tags i h = absurd (no_item i h)
    single Globals i h = absurd (no_item i h)
    single Elements i h = absurd (no_item i h)
    single DataSegments i h = absurd (no_item i h)

    still : (space : Space) → ByImport (said_by (start_text 0)) space 0 0 → ⊥
    still Types h = absurd (omega (arith, h))
    still Functions h = h
    still Tables h = h
    still Memories h = h
    still items.Tags h = h
    still Globals h = h
    still Elements h = absurd (omega (arith, h))
    still DataSegments h = absurd (omega (arith, h))

start_names_none : NamesNone (said_by (start_text 0))
start_names_none f u = ⊎_elim (λ h. no_item h.0 h.2) (λ h. no_item h.0 h.3) u.named

start_written : (k : ℕ) → IsWrittenAs plain_config (said_by (start_text 0)) (said_by (start_text k))
start_written k = record {
  written = record {
    renaming = moved k;
    segment = None;
    indices = given (said_by (start_text 0)) (moved k);
    carried = record {
      types = no_items _ _ _ _ no_item;
      imports = no_items _ _ _ _ start_small.no_import;
      functions = no_items _ _ _ _ no_item;
      tables = no_items _ _ _ _ no_item;
      memories = no_items _ _ _ _ no_item;
      tags = no_items _ _ _ _ no_item;
      globals = no_items _ _ _ _ no_item;
      elements = no_items _ _ _ _ no_item;
      data_segments = no_items _ _ _ _ no_item;
      imports_apart = λ i j li lj e. e;
      apart = λ space away i j li lj e. start_small.single space i li ∙ sym (start_small.single space j lj);
      exports = refl;
      start = refl;
    };
    rises = small_rises (said_by (start_text 0)) (moved k) start_small;
    declares = declares_none (said_by (start_text 0)) (said_by (start_text k)) (moved k) start_names_none;
    names = λ y. empty_if _ [] refl;
    producers = refl;
    indexed = are_given (said_by (start_text 0)) (moved k);
    customs = refl;
  };
  pinned = record {
    types_rise = λ i j li lj lt. absurd (no_item i li);
    type_names = λ e. absurd (cc);
    locals = λ f b x y e dx dy g. absurd (let h : None ≡ Some b = e in cc);
  };
}

start_no_data : (k : ℕ) → NeedsCount (said_by (start_text k)) → ⊥
start_no_data k (inl (d, h)) = h
start_no_data k (inr (f, (d, h))) = h

start_spelled : (k : ℕ) → IsIndex k → IsSpelling (said_by (start_text k)) (start_text k)
start_spelled k low = record {
  says = refl;
  stand = All-cons SectionStands (Start k) [] (low) (All-nil SectionStands);
  filled = All-nil _;
  bodies = All-nil _;
  used = λ f b e. absurd (let h : None ≡ Some b = e in cc);
  as_many_bodies = refl;
  elements = All-nil _;
  data_count = start_no_data k;
  names = record {
    module_name = tt;
    items = λ space. ((λ i j d less at. absurd (omega arith)), All-nil _);
    functions = λ i j d less at. absurd (omega arith);
    locals = All-nil _;
    are_there = All-nil _;
  };
  producers = All-nil _;
  dylinks = All-nil _;
  others = All-nil _;
}

start_differs : said_by (start_text 0) ≡ said_by (start_text 1) → ⊥
start_differs same = let one : 0 ≡ 1 = ap (λ (e : Abstract). start_number e.start) same in omega (arith, one)

start_twice : IsWrittenTwice (said_by (start_text 0)) (start_text 0) (start_text 1)
start_twice = record { first_spells = start_spelled 0 (omega arith); second_spells = start_spelled 1 (omega arith); first = start_written 0; second = start_written 1; differ = start_differs }

-- ---- an export of what isn't there

export_small : IsSmall (said_by (export_text 0))
export_small = record { single = single; still = still; no_import = λ i h. absurd (let e : None ≡ Some h.0 = h.1 in cc) }
  where
    single : (space : Space) (i : ℕ) → IsLive (said_by (export_text 0)) (space, i) → i ≡ 0
    single Types i h = absurd (no_item i h)
    single Functions i h = absurd (no_item i h)
    single Tables i h = absurd (no_item i h)
    single Memories i h = absurd (no_item i h)
    single items.Tags i h = absurd (no_item i h)
    single Globals i h = absurd (no_item i h)
    single Elements i h = absurd (no_item i h)
    single DataSegments i h = absurd (no_item i h)

    still : (space : Space) → ByImport (said_by (export_text 0)) space 0 0 → ⊥
    still Types h = absurd (omega (arith, h))
    still Functions h = h
    still Tables h = h
    still Memories h = h
    still items.Tags h = h
    still Globals h = h
    still Elements h = absurd (omega (arith, h))
    still DataSegments h = absurd (omega (arith, h))

export_names_none : NamesNone (said_by (export_text 0))
export_names_none f u = ⊎_elim (λ h. no_item h.0 h.2) (λ h. no_item h.0 h.3) u.named

export_written : (k : ℕ) → IsWrittenAs plain_config (said_by (export_text 0)) (said_by (export_text k))
export_written k = record {
  written = record {
    renaming = moved k;
    segment = None;
    indices = given (said_by (export_text 0)) (moved k);
    carried = record {
      types = no_items _ _ _ _ no_item;
      imports = no_items _ _ _ _ export_small.no_import;
      functions = no_items _ _ _ _ no_item;
      tables = no_items _ _ _ _ no_item;
      memories = no_items _ _ _ _ no_item;
      tags = no_items _ _ _ _ no_item;
      globals = no_items _ _ _ _ no_item;
      elements = no_items _ _ _ _ no_item;
      data_segments = no_items _ _ _ _ no_item;
      imports_apart = λ i j li lj e. e;
      apart = λ space away i j li lj e. export_small.single space i li ∙ sym (export_small.single space j lj);
      exports = refl;
      start = refl;
    };
    rises = small_rises (said_by (export_text 0)) (moved k) export_small;
    declares = declares_none (said_by (export_text 0)) (said_by (export_text k)) (moved k) export_names_none;
    names = λ y. empty_if _ [] refl;
    producers = refl;
    indexed = are_given (said_by (export_text 0)) (moved k);
    customs = refl;
  };
  pinned = record {
    types_rise = λ i j li lj lt. absurd (no_item i li);
    type_names = λ e. absurd (cc);
    locals = λ f b x y e dx dy g. absurd (let h : None ≡ Some b = e in cc);
  };
}

export_no_data : (k : ℕ) → NeedsCount (said_by (export_text k)) → ⊥
export_no_data k (inl (d, h)) = h
export_no_data k (inr (f, (d, h))) = h

export_spelled : (k : ℕ) → IsIndex k → IsSpelling (said_by (export_text k)) (export_text k)
export_spelled k low = record {
  says = refl;
  stand = All-cons SectionStands (Exports (f_export k ∷ [])) [] (All-cons ExportStands (f_export k) [] (export_stands k low) (All-nil ExportStands)) (All-nil SectionStands);
  filled = All-nil _;
  bodies = All-nil _;
  used = λ f b e. absurd (let h : None ≡ Some b = e in cc);
  as_many_bodies = refl;
  elements = All-nil _;
  data_count = export_no_data k;
  names = record {
    module_name = tt;
    items = λ space. ((λ i j d less at. absurd (omega arith)), All-nil _);
    functions = λ i j d less at. absurd (omega arith);
    locals = All-nil _;
    are_there = All-nil _;
  };
  producers = All-nil _;
  dylinks = All-nil _;
  others = All-nil _;
}

export_differs : said_by (export_text 0) ≡ said_by (export_text 1) → ⊥
export_differs same = let one : 0 ≡ 1 = ap (λ (e : Abstract). export_number e.exports) same in omega (arith, one)

export_twice : IsWrittenTwice (said_by (export_text 0)) (export_text 0) (export_text 1)
export_twice = record { first_spells = export_spelled 0 (omega arith); second_spells = export_spelled 1 (omega arith); first = export_written 0; second = export_written 1; differ = export_differs }

-- ---- a tag of a type that isn't there

tag_small : IsSmall (said_by (tag_text 0))
tag_small = record { single = single; still = still; no_import = λ i h. absurd (let e : None ≡ Some h.0 = h.1 in cc) }
  where
    single : (space : Space) (i : ℕ) → IsLive (said_by (tag_text 0)) (space, i) → i ≡ 0
    single Types i h = absurd (no_item i h)
    single Functions i h = absurd (no_item i h)
    single Tables i h = absurd (no_item i h)
    single Memories i h = absurd (no_item i h)
    single items.Tags i h = one_item (tag_of 0) i h
    single Globals i h = absurd (no_item i h)
    single Elements i h = absurd (no_item i h)
    single DataSegments i h = absurd (no_item i h)

    still : (space : Space) → ByImport (said_by (tag_text 0)) space 0 0 → ⊥
    still Types h = absurd (omega (arith, h))
    still Functions h = h
    still Tables h = h
    still Memories h = h
    still items.Tags h = absurd (omega (arith, h))
    still Globals h = h
    still Elements h = absurd (omega (arith, h))
    still DataSegments h = absurd (omega (arith, h))

tag_names_none : NamesNone (said_by (tag_text 0))
tag_names_none f u = ⊎_elim (λ h. no_item h.0 h.2) (λ h. no_item h.0 h.3) u.named

tag_written : (k : ℕ) → IsWrittenAs plain_config (said_by (tag_text 0)) (said_by (tag_text k))
tag_written k = record {
  written = record {
    renaming = moved k;
    segment = None;
    indices = given (said_by (tag_text 0)) (moved k);
    carried = record {
      types = no_items _ _ _ _ no_item;
      imports = no_items _ _ _ _ tag_small.no_import;
      functions = no_items _ _ _ _ no_item;
      tables = no_items _ _ _ _ no_item;
      memories = no_items _ _ _ _ no_item;
      tags = one_carried _ (λ i. i) _ (tag_of 0) (tag_of k) refl refl;
      globals = no_items _ _ _ _ no_item;
      elements = no_items _ _ _ _ no_item;
      data_segments = no_items _ _ _ _ no_item;
      imports_apart = λ i j li lj e. e;
      apart = λ space away i j li lj e. tag_small.single space i li ∙ sym (tag_small.single space j lj);
      exports = refl;
      start = refl;
    };
    rises = small_rises (said_by (tag_text 0)) (moved k) tag_small;
    declares = declares_none (said_by (tag_text 0)) (said_by (tag_text k)) (moved k) tag_names_none;
    names = λ y. empty_if _ [] refl;
    producers = refl;
    indexed = are_given (said_by (tag_text 0)) (moved k);
    customs = refl;
  };
  pinned = record {
    types_rise = λ i j li lj lt. absurd (no_item i li);
    type_names = λ e. absurd (cc);
    locals = λ f b x y e dx dy g. absurd (let h : None ≡ Some b = e in cc);
  };
}

tag_no_data : (k : ℕ) → NeedsCount (said_by (tag_text k)) → ⊥
tag_no_data k (inl (d, h)) = h
tag_no_data k (inr (f, (d, h))) = h

tag_spelled : (k : ℕ) → IsIndex k → IsSpelling (said_by (tag_text k)) (tag_text k)
tag_spelled k low = record {
  says = refl;
  stand = All-cons SectionStands (Tags (k ∷ [])) [] (All-cons IsIndex k [] low (All-nil IsIndex)) (All-nil SectionStands);
  filled = All-nil _;
  bodies = All-nil _;
  used = λ f b e. absurd (let h : None ≡ Some b = e in cc);
  as_many_bodies = refl;
  elements = All-nil _;
  data_count = tag_no_data k;
  names = record {
    module_name = tt;
    items = λ space. ((λ i j d less at. absurd (omega arith)), All-nil _);
    functions = λ i j d less at. absurd (omega arith);
    locals = All-nil _;
    are_there = All-nil _;
  };
  producers = All-nil _;
  dylinks = All-nil _;
  others = All-nil _;
}

tag_differs : said_by (tag_text 0) ≡ said_by (tag_text 1) → ⊥
tag_differs same = let one : 0 ≡ 1 = ap (λ (e : Abstract). tag_number (e.tags 0)) same in omega (arith, one)

tag_twice : IsWrittenTwice (said_by (tag_text 0)) (tag_text 0) (tag_text 1)
tag_twice = record { first_spells = tag_spelled 0 (omega arith); second_spells = tag_spelled 1 (omega arith); first = tag_written 0; second = tag_written 1; differ = tag_differs }

start_names : NamesLive (said_by (start_text 0))
start_names (Types, i) y at = absurd (Contains-none y at)
start_names (Functions, i) y at = absurd (Contains-none y at)
start_names (Tables, i) y at = absurd (Contains-none y at)
start_names (Memories, i) y at = absurd (Contains-none y at)
start_names (items.Tags, i) y at = absurd (Contains-none y at)
start_names (Globals, i) y at = absurd (Contains-none y at)
start_names (Elements, i) y at = absurd (Contains-none y at)
start_names (DataSegments, i) y at = absurd (Contains-none y at)

export_names : NamesLive (said_by (export_text 0))
export_names (Types, i) y at = absurd (Contains-none y at)
export_names (Functions, i) y at = absurd (Contains-none y at)
export_names (Tables, i) y at = absurd (Contains-none y at)
export_names (Memories, i) y at = absurd (Contains-none y at)
export_names (items.Tags, i) y at = absurd (Contains-none y at)
export_names (Globals, i) y at = absurd (Contains-none y at)
export_names (Elements, i) y at = absurd (Contains-none y at)
export_names (DataSegments, i) y at = absurd (Contains-none y at)

start_needed : NamesLive (said_by (start_text 0)) × TypesLocals (said_by (start_text 0)) × ExportsLive (said_by (start_text 0)) × IsWrittenTwice (said_by (start_text 0)) (start_text 0) (start_text 1)
start_needed = (start_names, (λ f b x e u. absurd (let h : None ≡ Some b = e in cc)), (λ e at. absurd (Contains-none e at)), start_twice)

export_needed : NamesLive (said_by (export_text 0)) × TypesLocals (said_by (export_text 0)) × StartsLive (said_by (export_text 0)) × IsWrittenTwice (said_by (export_text 0)) (export_text 0) (export_text 1)
export_needed = (export_names, (λ f b x e u. absurd (let h : None ≡ Some b = e in cc)), (λ f e. absurd (let h : None ≡ Some f = e in cc)), export_twice)

tag_needed : TypesLocals (said_by (tag_text 0)) × ExportsLive (said_by (tag_text 0)) × StartsLive (said_by (tag_text 0)) × IsWrittenTwice (said_by (tag_text 0)) (tag_text 0) (tag_text 1)
tag_needed = ((λ f b x e u. absurd (let h : None ≡ Some b = e in cc)), (λ e at. absurd (Contains-none e at)), (λ f e. absurd (let h : None ≡ Some f = e in cc)), tag_twice)

pub are_needed : AreNeeded
are_needed = record { start = start_needed; exports = export_needed; names = tag_needed; locals = local_needed }
