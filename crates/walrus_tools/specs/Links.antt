-- What is told of an item of a module: its names and its cost ("Binary Format > Code Section"), and what makes it a root.
use Rattle.std.specs.Prelude.{ℕ, ◌-◌, List, ◌∷◌, Option, Some, None, Contains, filter, find, map, option_map, string_bytes, ◌≡◌, ⊤}
use Rattle.std.specs.Global.{Vec}
use Rattle.std.specs.Option.{option_to_list}
use Rattle.walrus.specs.Base.Operators.{Elements, DataSegments, Item, function_item}
use Rattle.walrus.specs.Code.Code.{item_of}
use Rattle.walrus.specs.Model.Abstract.{Abstract, AnItem, DataSegment, DeclaredElements, ActiveElements, PassiveElements, Element, ElementKind, Export, Name}
use Rattle.walrus.specs.Model.Roots.{IsRootData}
use Rattle.walrus.specs.Items.Items.{is_item}
use Rattle.walrus.specs.Items.Seen.{text_of}
use Rattle.walrus_tools.specs.declared.links.Link.{Link}
use Rattle.walrus_tools.specs.declared.roots.Root.{Root}
use Rattle.walrus_tools.specs.declared.roots.Root.TheVariants.{Active, Declared, Exported, Start}

-- ---- an item with what is told of it

-- an item, its name, if it has one, the names under which it is exported, and of a function with a body how many bytes that has
pub record LinkTold : Type 0 where
  pub item : Item
  pub name : List Name
  pub exports : List Name
  pub size : Option ℕ

-- that of an answer
abbrev pub link_seen : Link → LinkTold
link_seen l = record { item = item_of l.item; name = option_to_list (text_of l.name); exports = map string_bytes l.exports.items; size = l.size }

abbrev pub links_seen : Vec Link → List LinkTold
links_seen links = map link_seen links.items

-- those of a chain, or none
abbrev pub links_in : Option (Vec Link) → Option (List LinkTold)
links_in links = option_map links_seen links

-- the names under which a module exports an item, in order
abbrev pub exported_as : Abstract → Item → List Name
exported_as m x = map (λ e. e.name) (filter (λ e. is_item e.item x) m.exports)

-- of functions with the starts and the ends of their bodies: how many bytes the body has of the function that an item is, if it is one of them
abbrev pub body_size : (ranges : List (ℕ × (ℕ × ℕ))) → Item → Option ℕ
body_size ranges x = option_map (λ f. f.1.1 - f.1.0) (find (λ f. is_item (function_item f.0) x) ranges)

-- what is told of an item of a module whose functions have these bodies
abbrev pub link_of : Abstract → (ranges : List (ℕ × (ℕ × ℕ))) → Item → LinkTold
link_of m ranges x = record { item = x; name = m.named (AnItem x); exports = exported_as m x; size = body_size ranges x }

-- ---- what makes an item a root

abbrev pub IsExported : Abstract → Item → Type 0
IsExported m x = (e : Export) × Contains m.exports e × (x ≡ e.item)

abbrev pub IsStart : Abstract → Item → Type 0
IsStart m x = (f : ℕ) × (m.start ≡ Some f) × (x ≡ function_item f)

abbrev pub IsActiveKind : ElementKind → Type 0
IsActiveKind (ActiveElements table offset) = ⊤
IsActiveKind PassiveElements = ⊥
IsActiveKind DeclaredElements = ⊥

-- an active segment of these
abbrev pub IsActiveIn : (elements : ℕ → Option Element) (segments : ℕ → Option DataSegment) → Item → Type 0
IsActiveIn elements segments (Elements, i) = (e : Element) × (elements i ≡ Some e) × IsActiveKind e.kind
IsActiveIn elements segments (DataSegments, i) = (d : DataSegment) × (segments i ≡ Some d) × IsRootData d.kind
IsActiveIn elements segments _ = ⊥

abbrev pub IsActive : Abstract → Item → Type 0
IsActive m x = IsActiveIn m.elements m.data_segments x

-- a declared segment of these
abbrev pub IsDeclaredIn : (elements : ℕ → Option Element) → Item → Type 0
IsDeclaredIn elements (Elements, i) = (e : Element) × (elements i ≡ Some e) × (e.kind ≡ DeclaredElements)
IsDeclaredIn elements _ = ⊥

abbrev pub IsDeclared : Abstract → Item → Type 0
IsDeclared m x = IsDeclaredIn m.elements x

-- this makes the item a root, and nothing that stands before it does (segments aren't exported, and an active one isn't declared)
abbrev pub IsRootBy : Abstract → Root → Item → Type 0
IsRootBy m Exported x = IsExported m x
IsRootBy m Start x = (IsExported m x → ⊥) × IsStart m x
IsRootBy m Active x = IsActive m x
IsRootBy m Declared x = IsDeclared m x

-- what makes the first item of a chain a root; where there is no chain, nothing is told
abbrev pub TellsRoot : Abstract → (chain : Option (List Item)) → Option Root → Type 0
TellsRoot m None root = root ≡ None
TellsRoot m (Some (first ∷ others)) (Some root) = IsRootBy m root first
TellsRoot m (Some _) _ = ⊥
