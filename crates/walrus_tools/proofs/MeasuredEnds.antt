-- What was parsed, edited, collected and written, with its places: what the whole way comes to, and each refusal.
use Rattle.std.proofs.Common.{◌≡◌, ℕ, Bool, false, List, refl, sym, ap, map, subst}
use Rattle.std.specs.Prelude.{Contains, Err}
use Rattle.std.specs.Global.{Vec}
use Rattle.walrus.specs.Base.Arena.{items}
use Rattle.walrus.specs.Model.Abstract.{Custom}
use Rattle.walrus.specs.Model.Config.{Config}
use Rattle.walrus.specs.Model.Pipeline.{Collected}
use Rattle.walrus.specs.Theorem.Chain.{Leaves}
use Rattle.walrus.specs.Theorem.Refused.{IsSayable, PassesLimits}
use Rattle.walrus.specs.Theorem.WellMade.{IsWellMade}
use Rattle.walrus.proofs.Theorem.WellStays.{collected_well}
use Rattle.walrus.specs.Items.CustomSection.{Ghosts}
use Rattle.walrus.specs.Items.Error.{Error}
use Rattle.walrus.specs.Items.RawCustomSection.{RawCustomSection}
use Rattle.walrus.specs.Items.Transform.{transform_of}
use Rattle.walrus.specs.Items.CodeTransform.{CodeTransform}
use Rattle.walrus.specs.Contents.Contents.{Contents}
use Rattle.walrus.specs.Modules.Answered.{IsWellWritten, WritesUnless}
use Rattle.walrus.specs.Modules.Asked.{OneMayRefuse}
use Rattle.walrus.specs.Modules.Customs.{sections}
use Rattle.walrus.specs.Modules.Emitted.{refusal_of, told}
use Rattle.walrus.specs.Modules.Flags.{Flags, config_of}
use Rattle.walrus.specs.Modules.Following.{OneMayRefuseThen}
use Rattle.walrus.specs.Modules.Left.{LeavesBy, but_customs}
use Rattle.walrus.specs.Modules.Meaning.{meaning}
use Rattle.walrus.specs.Modules.Parsed.{IsParsed}
use Rattle.walrus.specs.Modules.Raws.{raw_sections}
use Rattle.walrus.specs.Modules.Settings.{settings}
use Rattle.walrus.specs.Modules.View.{contents_of, custom_of, locations_of, meanings, view}
use Rattle.walrus.specs.Modules.ModuleCustomSections.{ModuleCustomSections}
use Rattle.walrus.specs.Modules.SectionEntry.{SectionEntry}
use Rattle.walrus.specs.Modules.Module.{Module}
use Rattle.walrus.proofs.Modules.Emission.{left_refused, well_refused_too}
use Rattle.walrus.specs.Modules.Transform.{IsTransformOf}
use Rattle.walrus.specs.Marked.{ReachesUnsound}
use Rattle.walrus.specs.Used.{RefusesSearch}
use Rattle.walrus.proofs.EditEnds.{edit_finishes, edited_live, edited_to, edited_well}
use Rattle.walrus.proofs.FinishLemmas.{finished, search_refused}
use Rattle.walrus.specs.Edits.{AnswersEdited, IsWhole}
use Rattle.walrus_tools.specs.Measures.{IsMeasured}

module _ {V : Type 0} {O : V → Type 0} (G : (v : V) → Ghosts (O v)) (Edits : Contents → Contents → Type 0) (Refuses : Contents → Error → Type 0) (g : Flags) (plain : g.preserve_code_transform ≡ false) (bytes : List ℕ)
    (read : Module (SectionEntry V O)) (parsed : IsParsed (config_of g) bytes (view G read)) where
  abbrev c : Config
  c = config_of g

  module _ (edited : Module (SectionEntry V O)) (edits : Edits (contents_of read) (contents_of edited)) (own : edited.customs ≡ read.customs) (whole : IsWhole c edited)
      (raws : List RawCustomSection) (are : sections read.customs ≡ raw_sections raws) (configured : settings edited ≡ g) where
    -- the search of gc, or for a chain, refuses
    pub search_lacks : (e : Error) → RefusesSearch (ReachesUnsound (view G edited)) (OneMayRefuse (meanings G edited)) e → AnswersEdited Edits Refuses c bytes (Err e)
    search_lacks e h = edit_finishes G Edits Refuses c bytes read parsed edited edits own whole raws are g configured refl plain (Err e) (λ ready. search_refused G edited ready e h)

    module _ (kept : Module (SectionEntry V O)) (collected : Collected (view G edited) (view G kept)) (customs : kept.customs ≡ edited.customs) where
      module _ (left : Module (SectionEntry V O)) (same : left.customs ≡ kept.customs) where
        same_sections : (view G left).customs ≡ (view G kept).customs
        same_sections = ap (λ (cs : ModuleCustomSections (SectionEntry V O)). map custom_of (map (meaning G) (items (sections cs)))) same

        pub made : IsWellMade c (view G kept)
        made = collected_well c (view G edited) (view G kept) (edited_well G Edits Refuses c bytes read parsed edited edits own whole) (edited_live G Edits Refuses c bytes read parsed edited edits own whole) collected

        pub sayable : IsSayable (view G left)
        sayable s at = made.customs s (subst (λ (cs : List Custom). Contains cs s) same_sections at)

        -- emission refuses
        pub emission_lacks : (f : Flags) → f ≡ settings edited → (e : Error) → LeavesBy {X = Vec ℕ × CodeTransform} (view G kept) (view G (but_customs kept left)) (told (Err e))
            → (IsWellMade (config_of f) (view G kept) → WritesUnless {X = Vec ℕ × CodeTransform} (PassesLimits (config_of f) (view G left)) (OneMayRefuseThen G kept.customs left.customs)
            (λ r. IsWellWritten (config_of f) (view G left) r.0.items) (told (Err e))) → AnswersEdited Edits Refuses c bytes (Err e)
        emission_lacks f is e left_so writes =
            edit_finishes G Edits Refuses c bytes read parsed edited edits own whole raws are g configured refl plain (Err e) (λ ready. finished G edited ready kept left collected customs same f is (Err e)
            (left_refused (Vec ℕ × CodeTransform) (Vec ℕ) (view G kept) (view G (but_customs kept left)) (refusal_of e) left_so)
            (λ well. well_refused_too (Vec ℕ × CodeTransform) (Vec ℕ) (PassesLimits (config_of f) (view G left)) (OneMayRefuseThen G kept.customs left.customs)
            (λ r. IsWellWritten (config_of f) (view G left) r.0.items) (λ (b : Vec ℕ). IsWellWritten (config_of f) (view G left) b.items) (refusal_of e) (writes well)))

        -- the whole way
        abbrev pub measured : Leaves (view G kept) (view G (but_customs kept left)) → (f : Flags) → f ≡ g → (output : Vec ℕ) (transform : CodeTransform)
            → (IsWellMade (config_of f) (view G kept) → IsWellWritten (config_of f) (view G left) output.items)
            → (IsSayable (view G left) → IsTransformOf (config_of f) f.preserve_code_transform (locations_of left) (view G left) output.items (transform_of transform))
            → IsMeasured Edits c bytes (view G left) (transform_of transform)
        measured leaves f f_is output transform writes tells = record {
          comes = edited_to G Edits Refuses c bytes read parsed edited edits own whole (view G left) (record {
            module_collected = view G kept;
            collected = collected;
            left = subst (λ (cs : ModuleCustomSections (SectionEntry V O)). Leaves (view G kept) (view G (record left { customs = cs }))) (sym same) leaves;
          });
          output = output.items;
          written = subst (λ (h : Flags). IsWellMade (config_of h) (view G kept) → IsWellWritten (config_of h) (view G left) output.items) f_is writes made;
          locations = locations_of left;
          tells = subst (λ (b : Bool). IsTransformOf c b (locations_of left) (view G left) output.items (transform_of transform)) plain
              (subst (λ (h : Flags). IsTransformOf (config_of h) h.preserve_code_transform (locations_of left) (view G left) output.items (transform_of transform)) f_is (tells sayable));
        }
