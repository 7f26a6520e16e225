-- A custom section that lists functions which are to be kept ("Binary Format > Custom Section"). Its data is their indices, one behind the other,
-- four bytes each, the lowest first.
use Rattle.std.specs.Prelude.{ℕ, List, [], ◌∷◌, ◌++◌, map, flat_map, Option, Some, None, Contains, false, ◌≡◌, ◌≢◌, ◌<◌, ◌^◌}
use Rattle.walrus.specs.Base.Operators.{Functions, function_item}
use Rattle.walrus.specs.Model.Abstract.{Abstract, Custom}
use Rattle.walrus.specs.Model.Customs.{is_debug_name}
use Rattle.walrus.specs.Model.Live.{IsLive}
use Rattle.walrus.specs.Modules.Asked.{is_dylink_name}
use Rattle.walrus.specs.Listed.{found_bytes, list_bytes}
use Rattle.walrus_examples.specs.Metadata.{section_of}

-- ---- the format

-- the bytes list these indices, each of which has 32 bits and is of something that is there
pub record Lists (Is : ℕ → Type 0) (bytes indices : List ℕ) : Type 0 where
  pub spelled : bytes ≡ list_bytes indices
  pub there : (i : ℕ) → Contains indices i → (i < 2 ^ 32) × Is i

-- they are those of functions of v
abbrev pub ListsFunctions : Abstract → (bytes indices : List ℕ) → Type 0
ListsFunctions v bytes indices = Lists (λ i. IsLive v (Functions, i)) bytes indices

-- ---- the section

-- a section of this name that lists these functions by the indices that they come to have
abbrev pub listing : (name functions : List ℕ) → Custom
listing name functions = record { name = name; data_under = λ indices. flat_map (λ f. found_bytes (indices (Functions, f))) functions }

-- among these sections stands the first of this name, which says this, between those
pub record HasFirst (name : List ℕ) (customs before : List Custom) (bytes : List ℕ) (after : List Custom) : Type 0 where
  pub stand : customs ≡ before ++ section_of name bytes ∷ after
  pub others : (s : Custom) → Contains before s → s.name ≢ name

-- none of them is of this name
abbrev pub HasNone : (name : List ℕ) → List Custom → Type 0
HasNone name customs = (s : Custom) → Contains customs s → s.name ≢ name

-- ---- what a module becomes

-- Of v comes w: the first section of this name lists these functions of v; it is gone, and behind the others stands one that lists them by the
-- indices that they come to have, and asks to keep them. Nothing else changed.
pub record AsksToKeep (name : List ℕ) (v w : Abstract) (functions : List ℕ) : Type 0 where
  pub before : List Custom
  pub bytes : List ℕ
  pub after : List Custom
  pub first : HasFirst name v.customs before bytes after
  pub lists : ListsFunctions v bytes functions
  pub becomes : w ≡ record v { customs = before ++ after ++ listing name functions ∷ []; section_roots = map function_item functions }

-- so it does where there is such a section, and v stays where there is none
abbrev pub KeepsListed : (name : List ℕ) → (v w : Abstract) → Option (List ℕ) → Type 0
KeepsListed name v w None = HasNone name v.customs × (w ≡ v)
KeepsListed name v w (Some functions) = AsksToKeep name v w functions

-- v has a section of this name, and the first one lists no functions of it
pub record ListsNone (name : List ℕ) (v : Abstract) : Type 0 where
  pub before : List Custom
  pub bytes : List ℕ
  pub after : List Custom
  pub first : HasFirst name v.customs before bytes after
  pub none : (functions : List ℕ) → ListsFunctions v bytes functions → ⊥

-- ---- what is written

-- Among these sections stands one of this name that lists these indices; but debug information is never written, and dynamic linking is asked for
-- its data before there are indices.
abbrev pub HasListing : (name : List ℕ) → List Custom → (indices : List ℕ) → Type 0
HasListing name customs indices = is_debug_name name ≡ false → is_dylink_name name ≡ false → Contains customs (section_of name (list_bytes indices))
