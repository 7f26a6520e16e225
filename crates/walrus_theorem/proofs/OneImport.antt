-- Imports are told by their names, and by the items that they bring to each index space.
use Rattle.std.proofs.Common.{◌≡◌, ℕ, ◌+◌, List, [], ◌∷◌, ◌++◌, length, map, refl, sym, ap, ap₂, ◌∙◌}
use Rattle.std.specs.Prelude.{Option, All, option_to_list, ◌==◌, if◌then◌else◌}
use Rattle.std.proofs.lemmas.List.{length-append}
use Rattle.std.proofs.lemmas.List.Elements.{All-head, All-tail}
use Rattle.wasm_entries.specs.declared.record.RawDesc.{RawDesc}
use Rattle.wasm_entries.specs.declared.record.RawDesc.TheVariants as descs
use Rattle.wasm_entries.specs.Record as entries
use Rattle.wasm_entries.specs.Spelling.{DescStands, ImportStands}
use Rattle.walrus_base.specs.Operators.{Space, Functions, Tables, Memories, Tags, Globals}
use Rattle.walrus_model.specs.Abstract.{Function, Table, Memory, Tag, Global, Import}
use Rattle.walrus_theorem.specs.Namings.{subsection}
use Rattle.walrus_model.specs.Sections.{imported_function, imported_table, imported_memory, imported_global, imported_tag, imported, item_after, imports_after}
use Rattle.walrus_model.proofs.OneGroup.{split_same}
use Rattle.walrus_model.proofs.OneEntry.{raw_table_type, table_type_back, raw_memory, raw_global_type, global_type_back}
use Rattle.walrus_base.proofs.Lookups.{heads as cons_parts}

-- ---- what imports say beside the items that they bring: names and kinds

abbrev kind_of : RawDesc → Space
kind_of (descs.Function ty) = Functions
kind_of (descs.Table ty) = Tables
kind_of (descs.Memory l) = Memories
kind_of (descs.Global ty) = Globals
kind_of (descs.Tag ty) = Tags

abbrev kinds : List entries.Import → List Space
kinds xs = map (λ (x : entries.Import). kind_of x.desc) xs

kind_after : (before : List entries.Import) (d : RawDesc) → (item_after before d).0 ≡ kind_of d
kind_after before (descs.Function ty) = refl
kind_after before (descs.Table ty) = refl
kind_after before (descs.Memory l) = refl
kind_after before (descs.Global ty) = refl
kind_after before (descs.Tag ty) = refl

kinds_after : (before xs : List entries.Import) → map (λ (x : Import). x.item.0) (imports_after before xs) ≡ kinds xs
kinds_after before [] = refl
kinds_after before (x ∷ xs) = ap₂ ◌∷◌ (kind_after before x.desc) (kinds_after (before ++ x ∷ []) xs)

froms_after : (before xs : List entries.Import) → map (λ (x : Import). x.module_name) (imports_after before xs) ≡ map (λ (x : entries.Import). x.from) xs
froms_after before [] = refl
froms_after before (x ∷ xs) = ap (λ l. x.from ∷ l) (froms_after (before ++ x ∷ []) xs)

names_after : (before xs : List entries.Import) → map (λ (x : Import). x.name) (imports_after before xs) ≡ map (λ (x : entries.Import). x.name) xs
names_after before [] = refl
names_after before (x ∷ xs) = ap (λ l. x.name ∷ l) (names_after (before ++ x ∷ []) xs)

-- ---- how many imports bring to a space

abbrev one_if : Space → Space → ℕ
one_if a b = if subsection a == subsection b then 1 else 0

abbrev count : Space → List Space → ℕ
count a [] = 0
count a (b ∷ bs) = one_if a b + count a bs

abbrev Counts : {X : Type 0} → Space → (ℕ → RawDesc → Option X) → Type 0
Counts a get = (i : ℕ) (d : RawDesc) → length (option_to_list (get i d)) ≡ one_if a (kind_of d)

functions_count : Counts Functions imported_function
functions_count i (descs.Function ty) = refl
functions_count i (descs.Table ty) = refl
functions_count i (descs.Memory l) = refl
functions_count i (descs.Global ty) = refl
functions_count i (descs.Tag ty) = refl

tables_count : Counts Tables imported_table
tables_count i (descs.Function ty) = refl
tables_count i (descs.Table ty) = refl
tables_count i (descs.Memory l) = refl
tables_count i (descs.Global ty) = refl
tables_count i (descs.Tag ty) = refl

memories_count : Counts Memories imported_memory
memories_count i (descs.Function ty) = refl
memories_count i (descs.Table ty) = refl
memories_count i (descs.Memory l) = refl
memories_count i (descs.Global ty) = refl
memories_count i (descs.Tag ty) = refl

globals_count : Counts Globals imported_global
globals_count i (descs.Function ty) = refl
globals_count i (descs.Table ty) = refl
globals_count i (descs.Memory l) = refl
globals_count i (descs.Global ty) = refl
globals_count i (descs.Tag ty) = refl

tags_count : Counts Tags imported_tag
tags_count i (descs.Function ty) = refl
tags_count i (descs.Table ty) = refl
tags_count i (descs.Memory l) = refl
tags_count i (descs.Global ty) = refl
tags_count i (descs.Tag ty) = refl

module _ {X : Type 0} (a : Space) (get : ℕ → RawDesc → Option X) (counts : Counts a get) where
  long : (i : ℕ) (xs : List entries.Import) → length (imported get i xs) ≡ count a (kinds xs)
  long i [] = refl
  long i (x ∷ xs) = length-append (option_to_list (get i x.desc)) (imported get (i + 1) xs) ∙ ap₂ ◌+◌ (counts i x.desc) (long (i + 1) xs)

  -- what the imports bring is a front of what is there
  front : (xs ys : List entries.Import) (us vs : List X) → kinds xs ≡ kinds ys → imported get 0 xs ++ us ≡ imported get 0 ys ++ vs → (imported get 0 xs ≡ imported get 0 ys) × (us ≡ vs)
  front xs ys us vs same e = split_same (imported get 0 xs) (imported get 0 ys) us vs (long 0 xs ∙ ap (count a) same ∙ sym (long 0 ys)) e

  -- and the first import one of that
  first : (i : ℕ) (x y : entries.Import) (xs ys : List entries.Import) → kind_of x.desc ≡ kind_of y.desc → imported get i (x ∷ xs) ≡ imported get i (y ∷ ys) → (option_to_list (get i x.desc) ≡ option_to_list (get i y.desc)) × (imported get (i + 1) xs ≡ imported get (i + 1) ys)
  first i x y xs ys same e = split_same (option_to_list (get i x.desc)) (option_to_list (get i y.desc)) (imported get (i + 1) xs) (imported get (i + 1) ys) (counts i x.desc ∙ ap (one_if a) same ∙ sym (counts i y.desc)) e

-- ---- one import

one_some : {X : Type 0} (x y : X) → x ∷ [] ≡ y ∷ [] → x ≡ y
one_some x y e = cc

-- what is described, where each space gets the same
record SameDesc (i : ℕ) (d e : RawDesc) : Type 0 where
  kind : kind_of d ≡ kind_of e
  functions : option_to_list (imported_function i d) ≡ option_to_list (imported_function i e)
  tables : option_to_list (imported_table i d) ≡ option_to_list (imported_table i e)
  memories : option_to_list (imported_memory i d) ≡ option_to_list (imported_memory i e)
  globals : option_to_list (imported_global i d) ≡ option_to_list (imported_global i e)
  tags : option_to_list (imported_tag i d) ≡ option_to_list (imported_tag i e)

one_desc : (i : ℕ) (d e : RawDesc) → DescStands d → DescStands e → SameDesc i d e → d ≡ e
one_desc i (descs.Function t) (descs.Function u) h g s = ap (λ (f : Function). descs.Function f.ty) (one_some _ _ s.functions)
one_desc i (descs.Function t) (descs.Table u) h g s = absurd (cc (s.kind))
one_desc i (descs.Function t) (descs.Memory u) h g s = absurd (cc (s.kind))
one_desc i (descs.Function t) (descs.Global u) h g s = absurd (cc (s.kind))
one_desc i (descs.Function t) (descs.Tag u) h g s = absurd (cc (s.kind))
one_desc i (descs.Table t) (descs.Function u) h g s = absurd (cc (s.kind))
one_desc i (descs.Table t) (descs.Table u) h g s = ap descs.Table (sym (table_type_back t h) ∙ ap (λ (x : Table). raw_table_type x.ty) (one_some _ _ s.tables) ∙ table_type_back u g)
one_desc i (descs.Table t) (descs.Memory u) h g s = absurd (cc (s.kind))
one_desc i (descs.Table t) (descs.Global u) h g s = absurd (cc (s.kind))
one_desc i (descs.Table t) (descs.Tag u) h g s = absurd (cc (s.kind))
one_desc i (descs.Memory t) (descs.Function u) h g s = absurd (cc (s.kind))
one_desc i (descs.Memory t) (descs.Table u) h g s = absurd (cc (s.kind))
one_desc i (descs.Memory t) (descs.Memory u) h g s = ap (λ (x : Memory). descs.Memory (raw_memory x.ty)) (one_some _ _ s.memories)
one_desc i (descs.Memory t) (descs.Global u) h g s = absurd (cc (s.kind))
one_desc i (descs.Memory t) (descs.Tag u) h g s = absurd (cc (s.kind))
one_desc i (descs.Global t) (descs.Function u) h g s = absurd (cc (s.kind))
one_desc i (descs.Global t) (descs.Table u) h g s = absurd (cc (s.kind))
one_desc i (descs.Global t) (descs.Memory u) h g s = absurd (cc (s.kind))
one_desc i (descs.Global t) (descs.Global u) h g s = ap descs.Global (sym (global_type_back t h) ∙ ap (λ (x : Global). raw_global_type x.ty) (one_some _ _ s.globals) ∙ global_type_back u g)
one_desc i (descs.Global t) (descs.Tag u) h g s = absurd (cc (s.kind))
one_desc i (descs.Tag t) (descs.Function u) h g s = absurd (cc (s.kind))
one_desc i (descs.Tag t) (descs.Table u) h g s = absurd (cc (s.kind))
one_desc i (descs.Tag t) (descs.Memory u) h g s = absurd (cc (s.kind))
one_desc i (descs.Tag t) (descs.Global u) h g s = absurd (cc (s.kind))
one_desc i (descs.Tag t) (descs.Tag u) h g s = ap (λ (x : Tag). descs.Tag x.ty) (one_some _ _ s.tags)

-- ---- all imports

record SameImports (i : ℕ) (xs ys : List entries.Import) : Type 0 where
  froms : map (λ (x : entries.Import). x.from) xs ≡ map (λ (x : entries.Import). x.from) ys
  names : map (λ (x : entries.Import). x.name) xs ≡ map (λ (x : entries.Import). x.name) ys
  all_kinds : kinds xs ≡ kinds ys
  functions : imported imported_function i xs ≡ imported imported_function i ys
  tables : imported imported_table i xs ≡ imported imported_table i ys
  memories : imported imported_memory i xs ≡ imported imported_memory i ys
  globals : imported imported_global i xs ≡ imported imported_global i ys
  tags : imported imported_tag i xs ≡ imported imported_tag i ys

one_row : (i : ℕ) (xs ys : List entries.Import) → All ImportStands xs → All ImportStands ys → SameImports i xs ys → xs ≡ ys
one_row i [] [] h g s = refl
one_row i [] (y ∷ ys) h g s = absurd (cc (s.names))
one_row i (x ∷ xs) [] h g s = absurd (cc (s.names))
one_row i (x ∷ xs) (y ∷ ys) h g s =
    let from = cons_parts x.from y.from (map (λ (z : entries.Import). z.from) xs) (map (λ (z : entries.Import). z.from) ys) s.froms in
    let name = cons_parts x.name y.name (map (λ (z : entries.Import). z.name) xs) (map (λ (z : entries.Import). z.name) ys) s.names in
    let kind = cons_parts (kind_of x.desc) (kind_of y.desc) (kinds xs) (kinds ys) s.all_kinds in
    let f = first Functions imported_function functions_count i x y xs ys kind.0 s.functions in
    let t = first Tables imported_table tables_count i x y xs ys kind.0 s.tables in
    let m = first Memories imported_memory memories_count i x y xs ys kind.0 s.memories in
    let v = first Globals imported_global globals_count i x y xs ys kind.0 s.globals in
    let w = first Tags imported_tag tags_count i x y xs ys kind.0 s.tags in
    let a = All-head ImportStands x xs h in
    let b = All-head ImportStands y ys g in
    let desc : x.desc ≡ y.desc = one_desc i x.desc y.desc a.desc b.desc (record { kind = kind.0; functions = f.0; tables = t.0; memories = m.0; globals = v.0; tags = w.0 }) in
    let head : x ≡ y = ap₂ (λ (l : List ℕ) (d : RawDesc). record { from = l; name = x.name; desc = d }) from.0 desc ∙ ap (λ (l : List ℕ). record { from = y.from; name = l; desc = y.desc }) name.0 in
    ap₂ ◌∷◌ head
    (one_row (i + 1) xs ys (All-tail ImportStands x xs h) (All-tail ImportStands y ys g)
    (record { froms = from.1; names = name.1; all_kinds = kind.1; functions = f.1; tables = t.1; memories = m.1; globals = v.1; tags = w.1 }))

-- ---- with what stands behind them in each space

pub record SameSpaces (xs ys : List entries.Import) (fs gs : List Function) (ts us : List Table) (ms ns : List Memory) (vs ws : List Global) (ks ls : List Tag) : Type 0 where
  pub functions : imported imported_function 0 xs ++ fs ≡ imported imported_function 0 ys ++ gs
  pub tables : imported imported_table 0 xs ++ ts ≡ imported imported_table 0 ys ++ us
  pub memories : imported imported_memory 0 xs ++ ms ≡ imported imported_memory 0 ys ++ ns
  pub globals : imported imported_global 0 xs ++ vs ≡ imported imported_global 0 ys ++ ws
  pub tags : imported imported_tag 0 xs ++ ks ≡ imported imported_tag 0 ys ++ ls

pub record OneImports (xs ys : List entries.Import) (fs gs : List Function) (ts us : List Table) (ms ns : List Memory) (vs ws : List Global) (ks ls : List Tag) : Type 0 where
  pub imports : xs ≡ ys
  pub functions : fs ≡ gs
  pub tables : ts ≡ us
  pub memories : ms ≡ ns
  pub globals : vs ≡ ws
  pub tags : ks ≡ ls

pub one_imports : (xs ys : List entries.Import) (fs gs : List Function) (ts us : List Table) (ms ns : List Memory) (vs ws : List Global) (ks ls : List Tag) → All ImportStands xs → All ImportStands ys → imports_after [] xs ≡ imports_after [] ys → SameSpaces xs ys fs gs ts us ms ns vs ws ks ls → OneImports xs ys fs gs ts us ms ns vs ws ks ls
one_imports xs ys fs gs ts us ms ns vs ws ks ls h g e s =
    let same : kinds xs ≡ kinds ys = sym (kinds_after [] xs) ∙ ap (map (λ (x : Import). x.item.0)) e ∙ kinds_after [] ys in
    let f = front Functions imported_function functions_count xs ys fs gs same s.functions in
    let t = front Tables imported_table tables_count xs ys ts us same s.tables in
    let m = front Memories imported_memory memories_count xs ys ms ns same s.memories in
    let v = front Globals imported_global globals_count xs ys vs ws same s.globals in
    let w = front Tags imported_tag tags_count xs ys ks ls same s.tags in
    record {
      imports = one_row 0 xs ys h g (record {
        froms = sym (froms_after [] xs) ∙ ap (map (λ (x : Import). x.module_name)) e ∙ froms_after [] ys;
        names = sym (names_after [] xs) ∙ ap (map (λ (x : Import). x.name)) e ∙ names_after [] ys;
        all_kinds = same;
        functions = f.0;
        tables = t.0;
        memories = m.0;
        globals = v.0;
        tags = w.0;
      });
      functions = f.1;
      tables = t.1;
      memories = m.1;
      globals = v.1;
      tags = w.1;
    }
