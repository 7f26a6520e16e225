-- The items of a module, space by space, are those of its fields, and so is what a step does with them.
use Rattle.std.proofs.Common.{◌≡◌, ℕ, refl, sym, subst}
use Rattle.std.specs.Prelude.{IsSome, map, option_map}
use Rattle.walrus_base.specs.Operators.{Space, Types, Functions, Tables, Memories, Tags, Globals, Elements, DataSegments, Item}
use Rattle.walrus_model.specs.Abstract.{Abstract}
use Rattle.walrus_model.specs.Carried.{Carries, KeepsApart, Carried, In}
use Rattle.walrus_model.specs.Kept.{Kept, IsImportOf}
use Rattle.walrus_model.specs.Live.{Has}
use Rattle.walrus_model.specs.Pipeline.{KeepsOnly, Collected}
use Rattle.walrus_model.specs.Refers.{named_by, written_in}
use Rattle.walrus_model.specs.Renaming.{Renaming, renamed_import, renamed_export}
use Rattle.walrus_model.specs.Spaces.{look, names_in_thing, SameThing}

pub written_in_look : (m : Abstract) (s : Space) (i : ℕ) → written_in m (s, i) ≡ named_by (names_in_thing s) (look m s i)
written_in_look m Types i = refl
written_in_look m Functions i = refl
written_in_look m Tables i = refl
written_in_look m Memories i = refl
written_in_look m Tags i = refl
written_in_look m Globals i = refl
written_in_look m Elements i = refl
written_in_look m DataSegments i = refl

pub has_look : (m : Abstract) (s : Space) (i : ℕ) → Has m s i ≡ IsSome (look m s i)
has_look m Types i = refl
has_look m Functions i = refl
has_look m Tables i = refl
has_look m Memories i = refl
has_look m Tags i = refl
has_look m Globals i = refl
has_look m Elements i = refl
has_look m DataSegments i = refl

pub live_to : (m : Abstract) (s : Space) (i : ℕ) → Has m s i → IsSome (look m s i)
live_to m s i h = subst (λ (T : Type 0). T) (has_look m s i) h

pub live_from : (m : Abstract) (s : Space) (i : ℕ) → IsSome (look m s i) → Has m s i
live_from m s i h = subst (λ (T : Type 0). T) (sym (has_look m s i)) h

-- ---- carrying

abbrev pub CarriesIn : (K Added : Item → Type 0) → Renaming → Abstract → Abstract → Space → Type 0
CarriesIn K Added r m n s = Carries (In K s) (In Added s) (r.numbers s) (SameThing r s) (look m s) (look n s)

pub carried_items : (K Added : Item → Type 0) (r : Renaming) (m n : Abstract) → Carried K Added r m n → (s : Space) → CarriesIn K Added r m n s
carried_items K Added r m n c Types = c.types
carried_items K Added r m n c Functions = c.functions
carried_items K Added r m n c Tables = c.tables
carried_items K Added r m n c Memories = c.memories
carried_items K Added r m n c Tags = c.tags
carried_items K Added r m n c Globals = c.globals
carried_items K Added r m n c Elements = c.elements
carried_items K Added r m n c DataSegments = c.data_segments

-- and back: what is carried in each space, and all else, is carried
pub carried_from : (K Added : Item → Type 0) (r : Renaming) (m n : Abstract) → ((s : Space) → CarriesIn K Added r m n s) → Carries (IsImportOf K m) (λ i. ⊥) r.imports (λ i x y. y ≡ renamed_import r x) m.imports n.imports
    → KeepsApart (IsImportOf K m) r.imports → ((s : Space) → (s ≡ Types → ⊥) → KeepsApart (In K s) (r.numbers s)) → n.exports ≡ map (renamed_export r) m.exports → n.start ≡ option_map (r.numbers Functions) m.start → Carried K Added r m n
carried_from K Added r m n items imports imports_apart apart exports start = record {
  types = items Types;
  imports = imports;
  functions = items Functions;
  tables = items Tables;
  memories = items Memories;
  tags = items Tags;
  globals = items Globals;
  elements = items Elements;
  data_segments = items DataSegments;
  imports_apart = imports_apart;
  apart = apart;
  exports = exports;
  start = start;
}

-- ---- gc

pub collected_items : (v w : Abstract) → Collected v w → (s : Space) → KeepsOnly (In (Kept v) s) (look v s) (look w s)
collected_items v w c Types = c.types
collected_items v w c Functions = c.functions
collected_items v w c Tables = c.tables
collected_items v w c Memories = c.memories
collected_items v w c Tags = c.tags
collected_items v w c Globals = c.globals
collected_items v w c Elements = c.elements
collected_items v w c DataSegments = c.data_segments
