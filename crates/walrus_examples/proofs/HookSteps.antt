-- An export of a function that was parsed: what was whole is whole, by the laws of edits.
use Rattle.std.proofs.Common.{ℕ, List, [], length, IsSome, refl}
use Rattle.walrus.specs.Base.Arena.{item_at}
use Rattle.walrus.specs.Base.Id.{place}
use Rattle.walrus.specs.Base.IdValue.{Id}
use Rattle.walrus.specs.Base.FunctionKey.{FunctionKey}
use Rattle.walrus.specs.Base.Operators.{Item, Space, function_item}
use Rattle.walrus.specs.Model.Abstract.{Abstract}
use Rattle.walrus.specs.Model.Config.{Config}
use Rattle.walrus.specs.Model.Live.{IsLive}
use Rattle.walrus.specs.Model.Refers.{KeepsToo}
use Rattle.walrus.specs.Items.CustomSection.{Ghosts}
use Rattle.walrus.specs.Items.Exports.{ExportValue, ModuleExports, exports}
use Rattle.walrus.specs.Items.Functions.{functions}
use Rattle.walrus.specs.Contents.View.{export_of, function}
use Rattle.walrus.proofs.Base.Lookups.{still_some}
use Rattle.walrus.specs.Theorem.EditLaws.{LeadsToLive, StaysWhole}
use Rattle.walrus.specs.Theorem.Edits.{GainsExport}
use Rattle.walrus.specs.Theorem.WellMade.{IsWellMade}
use Rattle.walrus.proofs.Theorem.EditKept.{by_space}
use Rattle.walrus.proofs.Theorem.EditTops.{export_gained}
use Rattle.walrus.proofs.Theorem.WritableParsed.{parsed_is_well}
use Rattle.walrus.specs.Modules.Parsed.{IsParsed}
use Rattle.walrus.specs.Modules.View.{contents_of, held_view, view}
use Rattle.walrus.specs.Modules.SectionEntry.{SectionEntry}
use Rattle.walrus.specs.Modules.Module.{Module}
use Rattle.walrus.proofs.Modules.EditedExports.{export_added}
use Rattle.walrus.proofs.Theorem.EditedKeeps.{kept_on}
use Rattle.walrus_examples.proofs.ListedReached.{all_lead, keeps_live}
use Rattle.walrus_examples.proofs.RenameSteps.{no_other}
use Rattle.walrus.specs.Edits.{IsWhole}
use Rattle.walrus_examples.specs.ExportHook.{AddsExport, export_at}

module _ {V : Type 0} {O : V → Type 0} (G : (v : V) → Ghosts (O v)) (c : Config) (bytes : List ℕ) (read : Module (SectionEntry V O)) (parsed : IsParsed c bytes (view G read)) (new : ModuleExports) where
  abbrev before : Abstract
  before = view G read

  abbrev behind : Abstract
  behind = held_view (record read { exports = new })

  live_forth : (s : Space) (i : ℕ) → IsLive before (s, i) → IsLive behind (s, i)
  live_forth = by_space (λ s. (i : ℕ) → IsLive before (s, i) → IsLive behind (s, i)) (λ i h. h) (λ i h. h) (λ i h. h) (λ i h. h) (λ i h. h) (λ i h. h) (λ i h. h) (λ i h. h)

  live_back : (s : Space) (i : ℕ) → IsLive behind (s, i) → IsLive before (s, i)
  live_back = by_space (λ s. (i : ℕ) → IsLive behind (s, i) → IsLive before (s, i)) (λ i h. h) (λ i h. h) (λ i h. h) (λ i h. h) (λ i h. h) (λ i h. h) (λ i h. h) (λ i h. h)

  keeps_there : IsWellMade c before → (x y : Item) → IsLive behind x → KeepsToo behind x y → IsLive behind y
  keeps_there made x y here keeps =
      live_forth y.0 y.1 (keeps_live c bytes before parsed made x y (live_back x.0 x.1 here) (kept_on before behind x y (λ i is. refl) (λ i is. refl) (λ i is. refl) keeps))

  module _ (id : Id FunctionKey) (name : List ℕ) (adds : AddsExport id name (exports read.exports) (exports new)) (there : IsSome (item_at (functions read.funcs) (place id))) where
    abbrev e : ExportValue
    e = export_at (length (exports read.exports)) name id

    gains : GainsExport (export_of e) (held_view read) behind
    gains = export_added (contents_of read) (contents_of (record read { exports = new })) e refl adds.added []

    live : IsLive behind (function_item (place id))
    live = still_some (function read.locals) (item_at (functions read.funcs) (place id)) there

    pub export_whole : IsWhole c read → IsWhole c (record read { exports = new })
    export_whole whole =
        let stays : StaysWhole c (held_view read) behind (LeadsToLive behind (function_item (place id))) =
        export_gained c (held_view read) behind (export_of e) gains whole.made (no_other name (exports read.exports) adds.free) live in
        let made = parsed_is_well c bytes parsed.module_read before parsed.reads parsed.holds parsed.parsed in
        record { made = stays.made; reached = stays.reached (all_lead c behind stays.made (keeps_there made) (function_item (place id)) live) whole.reached }
