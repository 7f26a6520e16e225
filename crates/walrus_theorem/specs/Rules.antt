-- The rules on the records of a module, and on the module that they say.
use Rattle.std.specs.Prelude.{ℕ, List, length, zip, ◌≡◌, ◌↔◌}
use Rattle.std.specs.List.{AllZip}
use Rattle.wasm_frames.specs.Frames.{Frames}
use Rattle.wasm_frames.specs.Order.{InOrder}
use Rattle.wasm_frames.specs.Record as wire
use Rattle.wasm_wire.specs.Rules as records
use Rattle.walrus_bodies.specs.declared.features.Features.{Features}
use Rattle.walrus_model.specs.Abstract.{Abstract}
use Rattle.walrus_model.specs.Config.{Config}
use Rattle.walrus_model.specs.Reads.{ReadsBodyWith}
use Rattle.walrus_model.specs.Rules.{Holds}
use Rattle.walrus_model.specs.Sections.{Said, module_of}
use Rattle.walrus_theorem.specs.Headline.{Accepts, DataCountHolds, ReadsBody, ReadsModule}

-- the rules that only records can break: the module that they say has no order of sections, no count, and no function without a body
pub record OnlyRecords (s : wire.Module) : Type 0 where
  pub in_order : InOrder s.order
  pub as_many_bodies : length s.bodies ≡ length s.functions
  pub data_count : DataCountHolds s

-- records whose bodies say this keep the rules exactly where their module does, and they keep the rules that only records can break
abbrev pub RulesAgree : Type 0
RulesAgree = (features : Features) (s : wire.Module) (bodies : List Said) → AllZip (ReadsBodyWith features s) (zip s.functions s.bodies) bodies → records.Rules s ↔ (OnlyRecords s × Holds (module_of s bodies))

-- what bytes read as keeps the rules exactly where its records do
abbrev pub ReadsAgree : Type 0
ReadsAgree = (c : Config) (bytes : List ℕ) (m : Abstract) (r : ReadsModule c bytes m) → records.Rules r.sections ↔ Holds m

-- the bytes frame records that keep the rules, and each of their bodies is read
pub record AreRead (c : Config) (bytes : List ℕ) : Type 0 where
  pub sections : wire.Module
  pub framed : Frames bytes sections
  pub rules : records.Rules sections
  pub bodies : List Said
  pub read : AllZip (ReadsBody c sections) (zip sections.functions sections.bodies) bodies

-- bytes are accepted exactly where they are read so: what names and producers say refuses nothing
abbrev pub AcceptsRead : Type 0
AcceptsRead = (c : Config) (bytes : List ℕ) → Accepts c bytes ↔ AreRead c bytes
