-- What parsing gives, and when it refuses.
use Rattle.wasm_frames.specs.Record as wire
use Rattle.std.specs.Prelude.{ℕ, ◌+◌, Bool, List, length, Option, Some, None, IsSome, map, sum_by, zip, ◌≡◌, ⊤}
use Rattle.walrus_code.specs.declared.location.InstrLocId.{InstrLocId}
use Rattle.walrus_groups.specs.Groups.{types_from}
use Rattle.walrus_model.specs.Abstract.{Abstract, Body}
use Rattle.walrus_model.specs.Config.{Config}
use Rattle.walrus_theorem.specs.Chain.{ParsedAs}
use Rattle.walrus_theorem.specs.Features.{features_of}
use Rattle.walrus_theorem.specs.Headline.{Accepts, ReadsModule}
use Rattle.walrus_model.specs.Reads.{ReadsBodyWith}
use Rattle.walrus_bodies.specs.declared.features.Features.{Features}
use Rattle.walrus_model.specs.Sections.{Said, custom_of}
use Rattle.walrus_model.specs.Names.{body_of}
use Rattle.walrus_model.specs.Renaming.{Renaming}
use Rattle.walrus_model.specs.Rules.{Holds}
use Rattle.std.specs.List.{AllZip, range_with_len}
use Rattle.walrus_items.specs.Functions.{ModuleFunctions, functions}
use Rattle.walrus_items.specs.Imports.{imports}
use Rattle.walrus_items.specs.Data.{data_segments}
use Rattle.walrus_items.specs.Elements.{elements}
use Rattle.walrus_items.specs.Globals.{globals}
use Rattle.walrus_items.specs.Memories.{memories}
use Rattle.walrus_items.specs.Tables.{tables}
use Rattle.walrus_items.specs.Tags.{tags}
use Rattle.walrus_items.specs.OwnIds.{AtOwnIds, FunctionsAtOwnIds, ExportsAtOwnIds, LocalsAtOwnIds}
use Rattle.walrus_contents.specs.View.{contents_view}
use Rattle.walrus_contents.specs.declared.parts.Contents.{Contents}
use Rattle.walrus_reading.specs.Customs.{kept_customs, section_seen}
use Rattle.walrus_reading.specs.declared.module.ReadModule.{ReadModule}
use Rattle.walrus_reading.specs.Shown.{IsRenamed, shown}
use Rattle.walrus_reading.specs.Taken.{AreLocatedIn, HasTaken}
use Rattle.wasm_frames.specs.Frames.{Frames}
use Rattle.wasm_wire.specs.Rules.{Rules}
use Rattle.walrus_items.specs.declared.error.Error.{Error}
use Rattle.walrus_items.specs.declared.error.Error.TheVariants.{Memory, InvalidWasm}
use Rattle.walrus_items.specs.declared.raw_section.RawCustomSection.{RawCustomSection}

-- a configuration with these features that says whether what has no name is given one
pub record IsReadWith (c : Config) (features : Features) (synthetic : Bool) : Type 0 where
  pub features_are : features ≡ features_of c
  pub synthetic_are : synthetic ≡ c.synthetic_names

-- the module in memory: that of what it holds, with the custom sections that are kept
abbrev pub read_view : ReadModule → Abstract
read_view m = record (contents_view m.contents) { customs = map custom_of (map section_seen m.customs.items) }

-- how many locals a function has: its parameters, and those that its body declares
abbrev pub local_count : Option Body → ℕ
local_count None = 0
local_count (Some b) = length b.parameters + b.declared

-- how many locals the functions in front of f have
abbrev pub locals_before : Abstract → ℕ → ℕ
locals_before m f = sum_by (λ g. local_count (body_of m g)) (range_with_len 0 f)

-- the locals of m stand function by function, each behind all those of the functions in front of its own
abbrev pub LocalsInTurn : (m : Abstract) → Renaming → Type 0
LocalsInTurn m r = (f : ℕ) (b : Body) (x : ℕ) → body_of m f ≡ Some b → IsSome (b.local_type x) → r.locals f x ≡ locals_before m f + x

-- the bytes read as a module that keeps the rules, and v is that module in memory, where the locals stand function by function
pub record IsParsed (c : Config) (bytes : List ℕ) (v : Abstract) : Type 0 where
  pub module_read : Abstract
  pub reads : ReadsModule c bytes module_read
  pub holds : Holds module_read
  pub parsed : ParsedAs c module_read v
  pub in_turn : LocalsInTurn module_read parsed.renaming

-- parsing is refused for want of memory, or since the bytes aren't accepted
abbrev pub RefusesBytes : Config → List ℕ → Error → Type 0
RefusesBytes c bytes (Memory e) = ⊤
RefusesBytes c bytes (InvalidWasm kind) = Accepts c bytes → ⊥
RefusesBytes c bytes _ = ⊥

-- the bytes frame sections, and each operator of the functions that they define is located as is given for where it stands in the bytes
pub record AreLocated (Gives : ℕ → InstrLocId → Type 0) (bytes : List ℕ) (funcs : ModuleFunctions) : Type 0 where
  pub sections : wire.Module
  pub framed : Frames bytes sections
  pub located : AreLocatedIn Gives sections (functions funcs)

-- the bytes frame sections, which list so many types
pub record HasTypesRead (bytes : List ℕ) (count : ℕ) : Type 0 where
  pub sections : wire.Module
  pub framed : Frames bytes sections
  pub counted : count ≡ length (types_from 0 sections.types)

-- The bytes frame sections that keep the rules, some contents without names hold exactly these, and m is the same but for names, which `IsParsed`
-- tells. Beside the view: where each item sits, that nothing is deleted, and which locals there are.
pub record TakenFrom (features : Features) (bytes : List ℕ) (m : Contents) : Type 0 where
  pub sections : wire.Module
  pub framed : Frames bytes sections
  pub rules : Rules sections
  pub unnamed : Contents
  pub taken : HasTaken features sections unnamed
  pub renamed : IsRenamed (shown unnamed) (shown m)

-- the bytes frame sections, and of the custom ones these are kept, in their order
pub record KeepsCustoms (bytes : List ℕ) (customs : List RawCustomSection) : Type 0 where
  pub sections : wire.Module
  pub framed : Frames bytes sections
  pub kept : map section_seen customs ≡ kept_customs sections.customs

-- each item, export and local sits at its own id; types always do
pub record ItemsAtOwnIds (m : Contents) : Type 0 where
  pub functions : FunctionsAtOwnIds m.funcs
  pub exports : ExportsAtOwnIds m.exports
  pub locals : LocalsAtOwnIds m.locals
  pub imports : AtOwnIds (λ x. x.id) (imports m.imports)
  pub tables : AtOwnIds (λ x. x.id) (tables m.tables)
  pub memories : AtOwnIds (λ x. x.id) (memories m.memories)
  pub tags : AtOwnIds (λ x. x.id) (tags m.tags)
  pub globals : AtOwnIds (λ x. x.id) (globals m.globals)
  pub elements : AtOwnIds (λ x. x.id) (elements m.elements)
  pub data_segments : AtOwnIds (λ x. x.id) (data_segments m.data_)

-- ---- for the functions inside

-- the bytes frame sections that keep the rules, and each body is read
pub record AreModule (features : Features) (bytes : List ℕ) : Type 0 where
  pub sections : wire.Module
  pub framed : Frames bytes sections
  pub rules : Rules sections
  pub bodies : List Said
  pub read : AllZip (ReadsBodyWith features sections) (zip sections.functions sections.bodies) bodies

-- refused for want of memory, or since the bytes are no module
abbrev pub RefusesModule : Features → List ℕ → Error → Type 0
RefusesModule features bytes (Memory e) = ⊤
RefusesModule features bytes (InvalidWasm kind) = AreModule features bytes → ⊥
RefusesModule features bytes _ = ⊥
