-- What records declare of the functions that ref.func names ("Validation > Modules": the context's references).
use Rattle.std.specs.Prelude.{ℕ, List, [], ◌∷◌, length, Contains, ◌≡◌, ◌⊎◌, ◌↔◌}
use Rattle.wasm_entries.specs.declared.record.RawConst.TheVariants as ops
use Rattle.wasm_entries.specs.declared.record.RawExportKind.TheVariants as kinds
use Rattle.wasm_entries.specs.Record as entries
use Rattle.wasm_frames.specs.Record as wire
use Rattle.walrus_model.specs.Declared.{ref_func, IsUndeclared}
use Rattle.walrus_model.specs.Live.{IsLive}
use Rattle.walrus_model.specs.Sections.{Said, module_of}

-- ref.func names f in a body
abbrev pub BodiesName : List Said → ℕ → Type 0
BodiesName bodies f = (said : Said) × Contains bodies said × Contains said.1 (ref_func f)

-- ref.func names f in the initialiser of a global
abbrev pub GlobalsName : wire.Module → ℕ → Type 0
GlobalsName s f = (g : entries.Global) × Contains s.globals g × Contains g.initial (ops.RefFunc f)

abbrev pub Exports : wire.Module → ℕ → Type 0
Exports s f = (e : entries.Export) × Contains s.exports e × (e.kind ≡ kinds.Function) × (e.index ≡ f)

-- these items list f, or one of them is ref.func f alone
abbrev pub ItemsList : entries.Items → ℕ → Type 0
ItemsList (entries.Functions fs) f = Contains fs f
ItemsList (entries.Expressions ty es) f = Contains es (ops.RefFunc f ∷ [])

abbrev pub SegmentsList : wire.Module → ℕ → Type 0
SegmentsList s f = (e : entries.Element) × Contains s.elements e × ItemsList e.items f

-- f is named so, is not exported, and no element segment lists it
pub record IsUndeclaredIn (s : wire.Module) (bodies : List Said) (f : ℕ) : Type 0 where
  pub named : BodiesName bodies f ⊎ GlobalsName s f
  pub not_exported : Exports s f → ⊥
  pub not_listed : SegmentsList s f → ⊥

-- with a body for each function, undeclared in the module that these records say is what is undeclared in the records
abbrev pub ReferencesAgree : Type 0
ReferencesAgree = (s : wire.Module) (bodies : List Said) → length bodies ≡ length s.functions → (f : ℕ) → IsUndeclared (IsLive (module_of s bodies)) (module_of s bodies) f ↔ IsUndeclaredIn s bodies f
