-- The items of each index space are those that the records declare, as far as their types tell.
use Rattle.std.proofs.Common.{◌≡◌, ℕ, ◌+◌, List, [], ◌∷◌, ◌++◌, length, map, refl, sym, ap, ap₂, ◌∙◌, arith}
use Rattle.std.specs.Prelude.{Option, Some, None, option_map, option_to_list, zip}
use Rattle.std.specs.List.{cons_option}
use Rattle.wasm_entries.specs.declared.record.RawDesc.{RawDesc}
use Rattle.wasm_entries.specs.declared.record.RawDesc.TheVariants as descs
use Rattle.wasm_entries.specs.Record as entries
use Rattle.wasm_frames.specs.Record as wire
use Rattle.wasm_wire.specs.Context as context
use Rattle.wasm_wire.specs.Context.{context_of, desc_function, desc_table, desc_memory, desc_global, desc_tag}
use Rattle.walrus_base.specs.TypeDef.{TypeDef}
use Rattle.walrus_groups.specs.Groups.{sub_of, types_from}
use Rattle.walrus_model.specs.Abstract.{Function, Table, Memory, Global, Tag}
use Rattle.walrus_model.specs.Sections.{Said, imported, imported_type, imported_function, imported_table, imported_memory, imported_global, imported_tag, table_type_of, memory_type_of, global_type_of, function_with, function_types, table_of, memory_of, global_of, tag_of, functions_of, tables_of, memories_of, globals_of, tags_of}
use Rattle.walrus_base.proofs.Lists.{map-map}
use Rattle.walrus_base.proofs.Standing.{some_inj}
use Rattle.walrus_groups.proofs.TypeLists.{types_subs}
use Rattle.walrus_bodies.proofs.Lists.{looked_both}

-- ---- what imports bring

joined : {X A B : Type 0} (seen : X → B) (conv : A → B) (o : Option X) (k : Option A) (xs : List X) (ys : List A) → option_map seen o ≡ option_map conv k → map seen xs ≡ map conv ys → map seen (option_to_list o ++ xs) ≡ map conv (cons_option k ys)
joined seen conv None None xs ys e r = r
joined seen conv None (Some a) xs ys e r = absurd (cc)
joined seen conv (Some x) None xs ys e r = absurd (cc)
joined seen conv (Some x) (Some a) xs ys e r = ap₂ ◌∷◌ (some_inj (seen x) (conv a) e) r

imported_looks : {X A B : Type 0} (get : ℕ → RawDesc → Option X) (kind : RawDesc → Option A) (seen : X → B) (conv : A → B) → ((i : ℕ) (d : RawDesc) → option_map seen (get i d) ≡ option_map conv (kind d)) → (i : ℕ) (ws : List entries.Import) → map seen (imported get i ws) ≡ map conv (context.imported kind ws)
imported_looks get kind seen conv same i [] = refl
imported_looks get kind seen conv same i (w ∷ ws) = joined seen conv (get i w.desc) (kind w.desc) (imported get (i + 1) ws) (context.imported kind ws) (same i w.desc) (imported_looks get kind seen conv same (i + 1) ws)

function_looks : (i : ℕ) (d : RawDesc) → option_map (λ (f : Function). f.ty) (imported_function i d) ≡ option_map (λ (t : ℕ). t) (desc_function d)
function_looks i (descs.Function ty) = refl
function_looks i (descs.Table t) = refl
function_looks i (descs.Memory l) = refl
function_looks i (descs.Global g) = refl
function_looks i (descs.Tag ty) = refl

type_looks : (i : ℕ) (d : RawDesc) → option_map (λ (t : ℕ). t) (imported_type i d) ≡ option_map (λ (t : ℕ). t) (desc_function d)
type_looks i (descs.Function ty) = refl
type_looks i (descs.Table t) = refl
type_looks i (descs.Memory l) = refl
type_looks i (descs.Global g) = refl
type_looks i (descs.Tag ty) = refl

table_looks : (i : ℕ) (d : RawDesc) → option_map (λ (t : Table). t.ty) (imported_table i d) ≡ option_map table_type_of (desc_table d)
table_looks i (descs.Function ty) = refl
table_looks i (descs.Table t) = refl
table_looks i (descs.Memory l) = refl
table_looks i (descs.Global g) = refl
table_looks i (descs.Tag ty) = refl

memory_looks : (i : ℕ) (d : RawDesc) → option_map (λ (m : Memory). m.ty) (imported_memory i d) ≡ option_map memory_type_of (desc_memory d)
memory_looks i (descs.Function ty) = refl
memory_looks i (descs.Table t) = refl
memory_looks i (descs.Memory l) = refl
memory_looks i (descs.Global g) = refl
memory_looks i (descs.Tag ty) = refl

global_looks : (i : ℕ) (d : RawDesc) → option_map (λ (g : Global). g.ty) (imported_global i d) ≡ option_map global_type_of (desc_global d)
global_looks i (descs.Function ty) = refl
global_looks i (descs.Table t) = refl
global_looks i (descs.Memory l) = refl
global_looks i (descs.Global g) = refl
global_looks i (descs.Tag ty) = refl

tag_looks : (i : ℕ) (d : RawDesc) → option_map (λ (t : Tag). t.ty) (imported_tag i d) ≡ option_map (λ (t : ℕ). t) (desc_tag d)
tag_looks i (descs.Function ty) = refl
tag_looks i (descs.Table t) = refl
tag_looks i (descs.Memory l) = refl
tag_looks i (descs.Global g) = refl
tag_looks i (descs.Tag ty) = refl

-- ---- space by space

local_types : (s : wire.Module) (fs : List ℕ) (saids : List Said) → length saids ≡ length fs → map (λ (f : Function). f.ty) (map (function_with s) (zip fs saids)) ≡ map (λ (t : ℕ). t) fs
local_types s [] saids many = refl
local_types s (f ∷ fs) [] many = absurd (omega (arith, many))
local_types s (f ∷ fs) (said ∷ saids) many = ap (λ l. f ∷ l) (local_types s fs saids (omega (arith, many)))

module _ (s : wire.Module) where
  pub types_look : map (λ (x : TypeDef). x.sub) (types_from 0 s.types) ≡ map sub_of (context_of s).types
  types_look = types_subs 0 s.types

  pub functions_look : (bodies : List Said) → length bodies ≡ length s.functions → map (λ (f : Function). f.ty) (functions_of s bodies) ≡ map (λ (t : ℕ). t) (context_of s).functions
  functions_look bodies many =
      looked_both (λ (f : Function). f.ty) (λ (t : ℕ). t) (imported imported_function 0 s.imports) (map (function_with s) (zip s.functions bodies)) (context.imported desc_function s.imports) s.functions
      (imported_looks imported_function desc_function (λ (f : Function). f.ty) (λ (t : ℕ). t) function_looks 0 s.imports)
      (local_types s s.functions bodies many)

  pub function_types_look : map (λ (t : ℕ). t) (function_types s) ≡ map (λ (t : ℕ). t) (context_of s).functions
  function_types_look =
      looked_both (λ (t : ℕ). t) (λ (t : ℕ). t) (imported imported_type 0 s.imports) s.functions (context.imported desc_function s.imports) s.functions
      (imported_looks imported_type desc_function (λ (t : ℕ). t) (λ (t : ℕ). t) type_looks 0 s.imports)
      refl

  pub tables_look : map (λ (t : Table). t.ty) (tables_of s) ≡ map table_type_of (context_of s).tables
  tables_look =
      looked_both (λ (t : Table). t.ty) table_type_of (imported imported_table 0 s.imports) (map table_of s.tables) (context.imported desc_table s.imports) (map (λ (t : entries.Table). t.ty) s.tables)
      (imported_looks imported_table desc_table (λ (t : Table). t.ty) table_type_of table_looks 0 s.imports)
      (map-map (λ (t : Table). t.ty) table_of s.tables ∙ sym (map-map table_type_of (λ (t : entries.Table). t.ty) s.tables))

  pub memories_look : map (λ (m : Memory). m.ty) (memories_of s) ≡ map memory_type_of (context_of s).memories
  memories_look =
      looked_both (λ (m : Memory). m.ty) memory_type_of (imported imported_memory 0 s.imports) (map memory_of s.memories) (context.imported desc_memory s.imports) s.memories
      (imported_looks imported_memory desc_memory (λ (m : Memory). m.ty) memory_type_of memory_looks 0 s.imports)
      (map-map (λ (m : Memory). m.ty) memory_of s.memories)

  pub imported_globals_look : map (λ (g : Global). g.ty) (imported imported_global 0 s.imports) ≡ map global_type_of (context.imported desc_global s.imports)
  imported_globals_look = imported_looks imported_global desc_global (λ (g : Global). g.ty) global_type_of global_looks 0 s.imports

  pub globals_look : map (λ (g : Global). g.ty) (globals_of s) ≡ map global_type_of (context_of s).globals
  globals_look =
      looked_both (λ (g : Global). g.ty) global_type_of (imported imported_global 0 s.imports) (map global_of s.globals) (context.imported desc_global s.imports) (map (λ (g : entries.Global). g.ty) s.globals)
      imported_globals_look
      (map-map (λ (g : Global). g.ty) global_of s.globals ∙ sym (map-map global_type_of (λ (g : entries.Global). g.ty) s.globals))

  pub tags_look : map (λ (t : Tag). t.ty) (tags_of s) ≡ map (λ (t : ℕ). t) (context_of s).tags
  tags_look =
      looked_both (λ (t : Tag). t.ty) (λ (t : ℕ). t) (imported imported_tag 0 s.imports) (map tag_of s.tags) (context.imported desc_tag s.imports) s.tags
      (imported_looks imported_tag desc_tag (λ (t : Tag). t.ty) (λ (t : ℕ). t) tag_looks 0 s.imports)
      (map-map (λ (t : Tag). t.ty) tag_of s.tags)
