-- What is asked to be kept: items by index space, each by the place of its id, in the order in which they were asked
-- for. Types, elements and data segments can't be asked for by themselves.
use Rattle.std.specs.Prelude.{ℕ, List, [], ◌∷◌, ◌++◌, map}
use Rattle.walrus_base.specs.declared.id.Id.{Id}
use Rattle.walrus_base.specs.Id.{place}
use Rattle.walrus_base.specs.Operators.{Item, Space, Types, Functions, Tables, Memories, Tags, Globals, Elements, DataSegments}

pub record RootLists : Type 0 where
  pub funcs : List ℕ
  pub tables : List ℕ
  pub memories : List ℕ
  pub globals : List ℕ
  pub tags : List ℕ

-- the places of ids
abbrev pub places : {K : Type 0} → List (Id K) → List ℕ
places ids = map place ids

abbrev pub no_roots : RootLists
no_roots = record { funcs = []; tables = []; memories = []; globals = []; tags = [] }

-- one more root, behind those of its index space
abbrev pub with_place : RootLists → Space → ℕ → RootLists
with_place r Functions n = record r { funcs = r.funcs ++ n ∷ [] }
with_place r Tables n = record r { tables = r.tables ++ n ∷ [] }
with_place r Memories n = record r { memories = r.memories ++ n ∷ [] }
with_place r Globals n = record r { globals = r.globals ++ n ∷ [] }
with_place r Tags n = record r { tags = r.tags ++ n ∷ [] }
with_place r Types n = r
with_place r Elements n = r
with_place r DataSegments n = r

abbrev pub with_root : RootLists → Item → RootLists
with_root r x = with_place r x.0 x.1

-- these roots as well, in order
abbrev pub with_roots : RootLists → List Item → RootLists
with_roots r [] = r
with_roots r (x ∷ xs) = with_roots (with_root r x) xs
