-- What is told of an item and of why it stays, as bytes.
use Rattle.std.specs.Prelude.{ℕ, ◌^◌, ◌≤◌, ◌⊎◌, List, [], ◌∷◌, ◌++◌, Option, Some, None, flat_map, length}
use Rattle.walrus.specs.Base.Operators.{Item}
use Rattle.walrus.specs.Code.Code.{item_of}
use Rattle.walrus.specs.Model.Abstract.{Name}
use Rattle.walrus.specs.Items.Items.{space_number}
use Rattle.walrus_tools.specs.ExportList.{text_bytes}
use Rattle.walrus_tools.specs.Links.{LinkTold, links_in}
use Rattle.walrus_sections.specs.Numbers.{IsLongName, name_bytes, no_name, number_bytes}
use Rattle.walrus_tools.specs.Spelled.{HasLong}
use Rattle.walrus_tools.specs.declared.goers.Alone.{Alone}
use Rattle.walrus_tools.specs.declared.reasons.Reason.{Reason}
use Rattle.walrus_tools.specs.declared.roots.Root.{Root}
use Rattle.walrus_tools.specs.declared.roots.Root.TheVariants.{Active, Declared, Exported, Start}

-- why an item stays: the links of a chain to it, or none; what makes the first one a root; and what the item alone keeps
pub record ReasonTold : Type 0 where
  pub item : Item
  pub links : Option (List LinkTold)
  pub root : Option Root
  pub alone : Option Alone

-- that of an answer
abbrev pub reason_seen : Reason → ReasonTold
reason_seen r = record { item = item_of r.item; links = links_in r.links; root = r.root; alone = r.alone }

-- ---- the bytes

-- a byte of the index space, and the index
abbrev pub item_bytes : Item → List ℕ
item_bytes x = space_number x.0 ∷ number_bytes x.1

-- 2^32 - 1 stands for no size
abbrev pub size_bytes : Option ℕ → List ℕ
size_bytes None = number_bytes no_name
size_bytes (Some n) = number_bytes n

-- an item, its size, its name, and how many export names it has, with these
abbrev pub link_bytes : LinkTold → List ℕ
link_bytes l = item_bytes l.item ++ size_bytes l.size ++ name_bytes l.name ++ number_bytes (length l.exports) ++ flat_map text_bytes l.exports

-- a byte of what makes the first link a root
abbrev pub root_number : Option Root → ℕ
root_number None = 0
root_number (Some Exported) = 1
root_number (Some Start) = 2
root_number (Some Active) = 3
root_number (Some Declared) = 4

-- a byte that is 1 where something is told, and two numbers
abbrev pub alone_bytes : Option Alone → List ℕ
alone_bytes None = 0 ∷ number_bytes 0 ++ number_bytes 0
alone_bytes (Some a) = 1 ∷ number_bytes a.functions ++ number_bytes a.bytes

-- the links of a chain; none where there is no chain
abbrev pub chain_links : Option (List LinkTold) → List LinkTold
chain_links None = []
chain_links (Some links) = links

abbrev pub reason_bytes : ReasonTold → List ℕ
reason_bytes r = item_bytes r.item ++ (root_number r.root ∷ (alone_bytes r.alone ++ flat_map link_bytes (chain_links r.links)))

-- ---- what is too long for them

-- a size has more than 32 bits, or is the number that stands for none
abbrev pub IsLongSize : Option ℕ → Type 0
IsLongSize None = ⊥
IsLongSize (Some n) = no_name ≤ n

-- the length of a text does
abbrev pub IsLongText : Name → Type 0
IsLongText text = no_name ≤ length text

-- an index, a size, a name, the count of export names or one of these is too long
abbrev pub IsLongLink : LinkTold → Type 0
IsLongLink l = (2 ^ 32 ≤ l.item.1) ⊎ (IsLongSize l.size ⊎ (IsLongName l.name ⊎ ((2 ^ 32 ≤ length l.exports) ⊎ HasLong IsLongText l.exports)))

-- one of the two numbers has more than 32 bits
abbrev pub IsLongAlone : Option Alone → Type 0
IsLongAlone None = ⊥
IsLongAlone (Some a) = (2 ^ 32 ≤ a.functions) ⊎ (2 ^ 32 ≤ a.bytes)

abbrev pub IsLongReason : ReasonTold → Type 0
IsLongReason r = (2 ^ 32 ≤ r.item.1) ⊎ (IsLongAlone r.alone ⊎ HasLong IsLongLink (chain_links r.links))
