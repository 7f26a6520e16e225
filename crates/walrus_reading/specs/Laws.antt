-- What comes of the names of a module.
use Rattle.std.specs.Prelude.{ℕ, ◌+◌, ◌<◌, ◌≤◌, length, List, [], Some, None, IsSome, if◌then◌else◌, ◌≡◌}
use Rattle.std.specs.List.{range_with_len}
use Rattle.wasm_payloads.specs.Names.{Named}
use Rattle.walrus_base.specs.Arena.{item_at}
use Rattle.walrus_base.specs.Locals.{locals}
use Rattle.walrus_base.specs.Operators.{Types, Item}
use Rattle.walrus_items.specs.Functions.{functions}
use Rattle.walrus_model.specs.Abstract.{Abstract, AnItem, ALocal, Body, Subject, TheModule}
use Rattle.walrus_model.specs.Config.{Config}
use Rattle.walrus_model.specs.Live.{IsLive}
use Rattle.walrus_model.specs.Names.{body_of, last_name, or_else, own_name, synthetic_name}
use Rattle.walrus_theorem.specs.Chain.{ParsedAs}
use Rattle.walrus_theorem.specs.Namings.{names_given, names_in_range}
use Rattle.walrus_contents.specs.View.{contents_view, named_of}
use Rattle.walrus_contents.specs.declared.parts.Contents.{Contents}
use Rattle.walrus_reading.specs.Shown.{IsRenamed, shown}
use Rattle.walrus_reading.specs.Synthetic.{named_by, parameters_at, text_of_local}
use Rattle.walrus_reading.specs.TakenNames.{Bounds, place_of, starts_from, that_count}

-- it holds whatever namings lead from one module to another
abbrev pub Whenever : (Bounds → List Named → Contents → Contents → Type 0) → Type 0
Whenever P = (b : Bounds) (namings : List Named) (old new : Contents) → shown new ≡ named_by b namings (shown old) → P b namings old new

-- only names become others
abbrev pub OnlyRenamed : Type 0
OnlyRenamed = Whenever (λ b namings old new. IsRenamed (shown old) (shown new))

-- and so the module is the same but for its names
abbrev pub SameButNamed : Type 0
SameButNamed = (old new : Contents) → IsRenamed (shown old) (shown new) → contents_view new ≡ record (contents_view old) { named = named_of new }

-- where the module had no name, it has the last one that is given to it
abbrev pub ModuleCalled : Type 0
ModuleCalled = Whenever (λ b namings old new. named_of old TheModule ≡ [] → own_name (contents_view new) TheModule ≡ last_name (names_given namings TheModule))

-- An item that was there, and of types one that was read, has the last name that is given to it; where names are to be given, a local function that has
-- none has one made of its index.
abbrev pub ItemsCalled : Type 0
ItemsCalled = Whenever (λ b namings old new. (x : Item) → IsLive (contents_view old) x → (x.0 ≡ Types → x.1 < b.types) → named_of old (AnItem x) ≡ []
    → own_name (contents_view new) (AnItem x) ≡ or_else (last_name (names_given namings (AnItem x))) (if b.synthetic then synthetic_name (contents_view old) (AnItem x) else None))

-- a type behind those that were read has none
abbrev pub AddedUncalled : Type 0
AddedUncalled = Whenever (λ b namings old new. (i : ℕ) → b.types ≤ i → named_of old (AnItem (Types, i)) ≡ [] → own_name (contents_view new) (AnItem (Types, i)) ≡ None)

-- Local x of local function f, which stands at place p, has the last name that is given to it, of those that count; where names are to be given and it
-- has none, one made of its index. The functions have so many locals each, and these stand function by function.
abbrev pub LocalsCalled : Type 0
LocalsCalled = Whenever (λ b namings old new. (many : List ℕ) (f x p g parameters : ℕ) → b.starts ≡ starts_from 0 many → place_of b.starts f x ≡ Some p → parameters_at (item_at (functions old.funcs) f) ≡ Some parameters
    → IsSome (item_at (locals old.locals) p) → named_of old (ALocal g p) ≡ []
    → own_name (contents_view new) (ALocal g p) ≡ or_else (last_name (that_count b.synthetic (names_given namings (ALocal f x)))) (if b.synthetic then Some (text_of_local parameters x) else None))

-- ---- parsing

-- The module m was read, and is in memory with nothing named. So many types were read, and so many locals of each function stand function by
-- function: local x of a function is where parsing puts it. The parameters of a function are its first locals, and those that it declares stand behind
-- them.
pub record IsUnnamed (c : Config) (m : Abstract) (b : Bounds) (old : Contents) : Type 0 where
  pub parsed : ParsedAs c m (contents_view old)
  pub nothing : (x : Subject) → named_of old x ≡ []
  pub types : b.types ≡ length parsed.types
  pub read_types : (i : ℕ) → IsSome (m.types i) → i < length parsed.types
  pub many : List ℕ
  pub starts : b.starts ≡ starts_from 0 many
  pub places : (f : ℕ) (a : Body) (x : ℕ) → body_of m f ≡ Some a → IsSome (a.local_type x) → place_of b.starts f x ≡ Some (parsed.renaming.locals f x)
  pub parameters : (f : ℕ) (a : Body) → body_of m f ≡ Some a → a.parameters ≡ range_with_len 0 (length a.parameters)
  pub within : (f : ℕ) (a : Body) (x : ℕ) → body_of m f ≡ Some a → IsSome (a.local_type x) → x < length a.parameters + a.declared

-- once the names are there, it is the module that was read with all that the namings in range give to it
abbrev pub NamesComeOut : Type 0
NamesComeOut = (before c : Config) (m : Abstract) (b : Bounds) (namings : List Named) (old new : Contents) → IsUnnamed before m b old → b.synthetic ≡ c.synthetic_names → shown new ≡ named_by b namings (shown old)
    → ParsedAs c (record m { named = names_in_range m namings }) (contents_view new)
