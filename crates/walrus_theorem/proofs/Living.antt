-- An item is there exactly where its index is below the number of those that the records declare.
use Rattle.std.proofs.Common.{◌≡◌, ℕ, ◌<◌, List, length, sym, subst}
use Rattle.std.specs.Prelude.{Some, IsSome, Contains, slice_get}
use Rattle.std.specs.List.{AllByRecursion}
use Rattle.std.proofs.lemmas.List.{length-map}
use Rattle.wasm_frames.specs.Record as wire
use Rattle.wasm_wire.specs.declared.rules.counts.Counts.{Counts}
use Rattle.wasm_wire.specs.Context.{context_of, counts_of}
use Rattle.walrus_base.specs.Operators.{Types, Functions, Tables, Memories, Tags, Globals, Elements, DataSegments, Item}
use Rattle.walrus_base.specs.TypeDef.{TypeDef}
use Rattle.walrus_groups.specs.Groups.{sub_of, types_from}
use Rattle.walrus_model.specs.Abstract.{Abstract, Function, Table, Memory, Global, Tag}
use Rattle.walrus_model.specs.Live.{IsLive}
use Rattle.walrus_model.specs.Refers.{named_by}
use Rattle.walrus_model.specs.Sections.{Said, functions_of, tables_of, memories_of, globals_of, tags_of, elements_of, data_segments_of, element_of, data_of, table_type_of, memory_type_of, global_type_of, module_of}
use Rattle.walrus_theorem.proofs.ReadFits.{some_there}
use Rattle.walrus_theorem.proofs.TextShaped.{all_at}
use Rattle.walrus_theorem.proofs.SpelledFits.{all_each}
use Rattle.walrus_base.proofs.Lookups.{there, as_long}
use Rattle.walrus_theorem.proofs.Images.{types_look, functions_look, tables_look, memories_look, globals_look, tags_look}
use Rattle.walrus_bodies.proofs.Lists.{all_in}
use Rattle.walrus_theorem.proofs.Within.{Within}
use Rattle.walrus_model.proofs.Parsing.{each_in}

module _ (s : wire.Module) (bodies : List Said) (many : length bodies ≡ length s.functions) where
  abbrev M : Abstract
  M = module_of s bodies

  abbrev pub counts : Counts
  counts = counts_of (context_of s)

  abbrev pub W : Item → Type 0
  W y = Within (counts_of (context_of s)) (length s.elements) (length s.data_segments) y

  types_long : length (types_from 0 s.types) ≡ length (context_of s).types
  types_long = as_long (λ (x : TypeDef). x.sub) sub_of (types_from 0 s.types) (context_of s).types (types_look s)

  functions_long : length (functions_of s bodies) ≡ length (context_of s).functions
  functions_long = as_long (λ (f : Function). f.ty) (λ (t : ℕ). t) (functions_of s bodies) (context_of s).functions (functions_look s bodies many)

  tables_long : length (tables_of s) ≡ length (context_of s).tables
  tables_long = as_long (λ (t : Table). t.ty) table_type_of (tables_of s) (context_of s).tables (tables_look s)

  memories_long : length (memories_of s) ≡ length (context_of s).memories
  memories_long = as_long (λ (m : Memory). m.ty) memory_type_of (memories_of s) (context_of s).memories (memories_look s)

  tags_long : length (tags_of s) ≡ length (context_of s).tags
  tags_long = as_long (λ (t : Tag). t.ty) (λ (t : ℕ). t) (tags_of s) (context_of s).tags (tags_look s)

  globals_long : length (globals_of s) ≡ length (context_of s).globals
  globals_long = as_long (λ (g : Global). g.ty) global_type_of (globals_of s) (context_of s).globals (globals_look s)

  -- what is there has an index below the number of its list, and the other way round
  low : {X : Type 0} (xs : List X) (n i : ℕ) → length xs ≡ n → IsSome (slice_get xs i) → i < n
  low xs n i same h = subst (λ (k : ℕ). i < k) same (some_there xs i h)

  high : {X : Type 0} (xs : List X) (n i : ℕ) → length xs ≡ n → i < n → IsSome (slice_get xs i)
  high xs n i same h = there xs i (subst (λ (k : ℕ). i < k) (sym same) h)

  pub live_within : (y : Item) → IsLive M y → W y
  live_within (Types, i) h = low (types_from 0 s.types) (length (context_of s).types) i types_long h
  live_within (Functions, i) h = low (functions_of s bodies) (length (context_of s).functions) i functions_long h
  live_within (Tables, i) h = low (tables_of s) (length (context_of s).tables) i tables_long h
  live_within (Memories, i) h = low (memories_of s) (length (context_of s).memories) i memories_long h
  live_within (Tags, i) h = low (tags_of s) (length (context_of s).tags) i tags_long h
  live_within (Globals, i) h = low (globals_of s) (length (context_of s).globals) i globals_long h
  live_within (Elements, i) h = low (elements_of s) (length s.elements) i (length-map s.elements element_of) h
  live_within (DataSegments, i) h = low (data_segments_of s) (length s.data_segments) i (length-map s.data_segments data_of) h

  pub within_live : (y : Item) → W y → IsLive M y
  within_live (Types, i) h = high (types_from 0 s.types) (length (context_of s).types) i types_long h
  within_live (Functions, i) h = high (functions_of s bodies) (length (context_of s).functions) i functions_long h
  within_live (Tables, i) h = high (tables_of s) (length (context_of s).tables) i tables_long h
  within_live (Memories, i) h = high (memories_of s) (length (context_of s).memories) i memories_long h
  within_live (Tags, i) h = high (tags_of s) (length (context_of s).tags) i tags_long h
  within_live (Globals, i) h = high (globals_of s) (length (context_of s).globals) i globals_long h
  within_live (Elements, i) h = high (elements_of s) (length s.elements) i (length-map s.elements element_of) h
  within_live (DataSegments, i) h = high (data_segments_of s) (length s.data_segments) i (length-map s.data_segments data_of) h

  -- ---- names

  -- all that a list's things name is there
  pub named_within : {X : Type 0} (names : X → List Item) (xs : List X) → ((k : ℕ) (y : Item) → Contains (named_by names (slice_get xs k)) y → IsLive M y) → AllByRecursion (λ x. AllByRecursion W (names x)) xs
  named_within names xs h = all_each (λ x. AllByRecursion W (names x)) xs (λ k x e. all_in W (names x) (λ y at. live_within y (h k y (subst (λ o. Contains (named_by names o) y) (sym e) at))))

  pub named_live : {X : Type 0} (names : X → List Item) (xs : List X) → AllByRecursion (λ x. AllByRecursion W (names x)) xs → (k : ℕ) (x : X) → slice_get xs k ≡ Some x → (y : Item) → Contains (names x) y → IsLive M y
  named_live names xs h k x e y at = within_live y (each_in W (names x) y (all_at (λ x. AllByRecursion W (names x)) xs k x h e) at)
