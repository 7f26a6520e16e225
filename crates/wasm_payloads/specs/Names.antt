-- The payload of the name section (Appendix > Custom Sections > Name Section).
use Rattle.std.specs.Prelude.{◌≡◌, ℕ, Bool, List, [], ◌∷◌, nat_eq, if◌then◌else◌}
use Rattle.wasm_forms.specs.Grammar.{Byte, Block, U32, Where, name, ◌then◌}
use Rattle.wasm_payloads.specs.declared.naming.NameSpace.{NameSpace}
use Rattle.wasm_payloads.specs.declared.naming.NameSpace.TheVariants.{Functions, Types, Tables, Memories, Globals, Elements, DataSegments, Tags}
use Rattle.wasm_payloads.specs.declared.naming.Naming.{Naming}
use Rattle.wasm_payloads.specs.declared.naming.Naming.TheVariants as naming
use Rattle.wasm_payloads.specs.declared.naming.Part.{Part}
use Rattle.wasm_payloads.specs.declared.naming.Part.TheVariants as part
use Rattle.wasm_payloads.specs.Fault.{Telling, Tells, PassesOver, Behind, Counted, Through, Inside, Alone}

-- a name and what it names: the module, an item by its index, a local by its function's index and its own
pub data Named : Type 0 where
  ModuleName : List ℕ → Named
  ItemName : NameSpace → ℕ → List ℕ → Named
  LocalName : ℕ → ℕ → List ℕ → Named

-- a naming without where its name lies in memory
abbrev pub named : Naming → Named
named (naming.Module n) = ModuleName n.now
named (naming.Item space i n) = ItemName space i n.now
named (naming.Local f i n) = LocalName f i n.now

-- what a subsection of this id names (Subsections); labels, fields and all others are passed over
abbrev pub part_of : ℕ → Part
part_of id = if nat_eq id 0 then part.Module
    else if nat_eq id 1 then part.Items Functions
    else if nat_eq id 2 then part.Locals
    else if nat_eq id 4 then part.Items Types
    else if nat_eq id 5 then part.Items Tables
    else if nat_eq id 6 then part.Items Memories
    else if nat_eq id 7 then part.Items Globals
    else if nat_eq id 8 then part.Items Elements
    else if nat_eq id 9 then part.Items DataSegments
    else if nat_eq id 11 then part.Items Tags
    else part.Other

-- a count, and that many indices, each with its name (Name Maps)
abbrev pub NameMap : (ℕ → List ℕ → Named) → Telling Named
NameMap make = Counted (Behind (U32 then name) (λ x. Tells (make x.0 x.1 ∷ [])))

-- a count, and that many functions that are known, each with its locals' names (Local Names)
abbrev pub Locals : (ℕ → Bool) → Telling Named
Locals known = Counted (Behind (Where known U32) (λ f. NameMap (LocalName f)))

-- the content of a subsection
abbrev pub Content : (ℕ → Bool) → Part → Telling Named
Content known part.Module = Behind name (λ n. Alone (ModuleName n ∷ []))
Content known part.Locals = Locals known
Content known (part.Items space) = NameMap (ItemName space)
Content known part.Other = PassesOver

-- an id, the count of the content's bytes, and these
abbrev pub Subsection : (ℕ → Bool) → Telling Named
Subsection known = Behind (Byte then Block) (λ s. Inside (Content known (part_of s.0)) s.1)

-- where these functions are known, the bytes of a payload hold these namings before the first fault
abbrev pub Names : (ℕ → Bool) → List ℕ → List Named → Type 0
Names known bytes names = Through (Subsection known) bytes names

-- no payload has two lists of namings
abbrev pub NamesOnce : Type 0
NamesOnce = (known : ℕ → Bool) (bytes : List ℕ) (names others : List Named) → Names known bytes names → Names known bytes others → names ≡ others
