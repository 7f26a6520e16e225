-- What the module of parsing holds, and what a hook behind it is handed, of what reading and numbering promise.
use Rattle.std.proofs.Common.{◌≡◌, ℕ, List, sym, subst}
use Rattle.walrus_code.specs.declared.indices.IndicesToIds.{IndicesToIds}
use Rattle.walrus_code.specs.declared.location.InstrLocId.{InstrLocId}
use Rattle.walrus_model.specs.Abstract.{Abstract}
use Rattle.walrus_contents.specs.declared.parts.Contents.{Contents}
use Rattle.walrus_items.specs.declared.custom.CustomSection.{Ghosts}
use Rattle.walrus_reading.specs.Parsed.{AreLocated, HasTypesRead, IsParsed, ItemsAtOwnIds, KeepsCustoms, TakenFrom, read_view}
use Rattle.walrus_reading.specs.declared.module.ReadModule.{ReadModule}
use Rattle.walrus_theorem.specs.Features.{features_of}
use Rattle.walrus_module.specs.Customs.{sections}
use Rattle.walrus_module.specs.Flags.{Flags, config_of}
use Rattle.walrus_module.specs.OnParse.{IsHanded, IsNumbered}
use Rattle.walrus_module.specs.Parsing.{HoldsParsed}
use Rattle.walrus_module.specs.Raws.{raw_sections}
use Rattle.walrus_module.specs.Settings.{settings}
use Rattle.walrus_module.specs.View.{contents_of}
use Rattle.walrus_module.specs.declared.entry.SectionEntry.{SectionEntry}
use Rattle.walrus_module.specs.declared.module.Module.{Module}
use Rattle.walrus_module.proofs.KeptRaw.{raw_view}

module _ {V : Type 0} {O : V → Type 0} (G : (v : V) → Ghosts (O v)) (f : Flags) (Gives : ℕ → InstrLocId → Type 0) (bytes : List ℕ) where
  module _ (found : ReadModule) (m : Module (SectionEntry V O)) (holds : contents_of m ≡ found.contents) (are : sections m.customs ≡ raw_sections found.customs.items) (configured : settings m ≡ f)
      (parsed : IsParsed (config_of f) bytes (read_view found)) (taken : TakenFrom (features_of (config_of f)) bytes found.contents) (own_ids : ItemsAtOwnIds found.contents)
      (located : AreLocated Gives bytes found.contents.funcs) (kept : KeepsCustoms bytes found.customs.items) where
    pub holds_parsed : HoldsParsed G f Gives bytes m
    holds_parsed = record {
      found = subst (λ (v : Abstract). IsParsed (config_of f) bytes v) (sym (raw_view G found m holds are)) parsed;
      configured = configured;
      taken = subst (λ (x : Contents). TakenFrom (features_of (config_of f)) bytes x) (sym holds) taken;
      own_ids = subst ItemsAtOwnIds (sym holds) own_ids;
      located = subst (λ (x : Contents). AreLocated Gives bytes x.funcs) (sym holds) located;
      kept = record { raws = found.customs.items; are = are; kept = kept };
    }

    pub handed : (ids : IndicesToIds) → HasTypesRead bytes found.type_count → IsNumbered found.type_count (contents_of m) ids → IsHanded G f Gives bytes m ids
    handed ids counted numbered = record { read = holds_parsed; types = found.type_count; counted = counted; numbered = numbered }
