-- Whether a section fits is told by its counts; so where not all of them may fail to fit, all fit. And a module in memory has one spelling, whose
-- sections fit or don't.
use Rattle.std.proofs.Common.{◌≡◌, ℕ, ◌<◌, ◌≤◌, ◌^◌, Bool, true, false, List, [], ◌∷◌, length, subst, arith, inl, inr, ⊎_elim}
use Rattle.std.specs.Prelude.{Option, Some, None, All}
use Rattle.std.specs.List.{AllByRecursion}
use Rattle.std.proofs.lemmas.Bool.{cases_lt}
use Rattle.std.proofs.lemmas.List.Elements.{All-from_recursion, recursion_from_All}
use Rattle.wasm_forms.specs.Writing.{FitsLength, EachFits, FitsVector}
use Rattle.wasm_entries.specs.declared.record.RawLimits.{RawLimits}
use Rattle.wasm_entries.specs.declared.record.RawDesc.{RawDesc}
use Rattle.wasm_entries.specs.declared.record.RawDesc.TheVariants as descs
use Rattle.wasm_entries.specs.Record as entries
use Rattle.wasm_entries.specs.TypeSpelling.{CompFits, SubFits, GroupFits, FitsWide, MaximumFits, LimitsFit}
use Rattle.wasm_entries.specs.Spelling.{DescFits, ImportFits, TableFits, ExportFits, ItemsFit, ElementFits, DataFits}
use Rattle.wasm_frames.specs.Frames as frames
use Rattle.wasm_frames.specs.Frames.{Section, CustomSection}
use Rattle.wasm_frames.specs.Record as wire
use Rattle.wasm_writer.specs.Spelling.{content_bytes, EntriesFit, SectionFits}
use Rattle.walrus_model.specs.Abstract.{Abstract}
use Rattle.walrus_model.specs.Config.{Config}
use Rattle.walrus_theorem.specs.Pinned.{IsWrittenAs}
use Rattle.walrus_theorem.specs.Refused.{HasDead, WritesUnfit, Unfit}
use Rattle.walrus_theorem.specs.RefusedLaws.{OkFits}
use Rattle.walrus_theorem.specs.Spelling.{IsSpelling}
use Rattle.walrus_theorem.specs.Text.{Text, sections_of}
use Rattle.walrus_theorem.proofs.BytesOnce.{living_keeps, one_module}
use Rattle.walrus_theorem.proofs.OneSpelling.{spelled_once}
use Rattle.walrus_base.proofs.SameVal.{Told, told_both}

told_below : (n top : ℕ) → Told (n < top)
told_below n top = ⊎_elim (λ (low : n < top). inl low) (λ (high : top ≤ n). inr (λ low. omega (arith, low, high))) (cases_lt n top)

told_length : {X : Type 0} (xs : List X) → Told (FitsLength xs)
told_length xs = told_below (length xs) (2 ^ 32)

told_each : {X : Type 0} (F : X → Type 0) → ((x : X) → Told (F x)) → (xs : List X) → Told (EachFits F xs)
told_each F told [] = inl tt
told_each F told (x ∷ xs) = told_both (told x) (told_each F told xs)

told_vector : {X : Type 0} (F : X → Type 0) → ((x : X) → Told (F x)) → (xs : List X) → Told (FitsVector F xs)
told_vector F told xs = told_both (told_length xs) (told_each F told xs)

-- ---- entries

told_comp : (x : entries.Comp) → Told (CompFits x)
told_comp (entries.Function t) = told_both (told_length t.params) (told_length t.results)
told_comp (entries.Struct fields) = told_length fields
told_comp (entries.Array field) = inl tt

told_sub : (s : entries.Sub) → Told (SubFits s)
told_sub s = told_both (told_length s.supers) (told_comp s.comp)

told_group : (g : entries.Group) → Told (GroupFits g)
told_group g = told_vector SubFits told_sub g

told_wide : (wide : Bool) (n : ℕ) → Told (FitsWide wide n)
told_wide true n = inl tt
told_wide false n = told_below n (2 ^ 32)

told_maximum : (wide : Bool) (o : Option ℕ) → Told (MaximumFits wide o)
told_maximum wide None = inl tt
told_maximum wide (Some n) = told_wide wide n

told_limits : (l : RawLimits) → Told (LimitsFit l)
told_limits l = told_both (told_wide l.wide l.minimum) (told_maximum l.wide l.maximum)

told_desc : (d : RawDesc) → Told (DescFits d)
told_desc (descs.Function ty) = inl tt
told_desc (descs.Table t) = told_limits t.limits
told_desc (descs.Memory l) = told_limits l
told_desc (descs.Global g) = inl tt
told_desc (descs.Tag ty) = inl tt

told_items : (i : entries.Items) → Told (ItemsFit i)
told_items (entries.Functions fs) = told_length fs
told_items (entries.Expressions ty es) = told_length es

told_import : (x : entries.Import) → Told (ImportFits x)
told_import x = ⊎_elim
    (λ from. ⊎_elim
    (λ name. ⊎_elim (λ desc. inl (from, name, desc)) (λ no. inr (λ h. no h.2)) (told_desc x.desc))
    (λ no. inr (λ h. no h.1))
    (told_length x.name))
    (λ no. inr (λ h. no h.0))
    (told_length x.from)

-- ---- sections

told_entries : (s : Section) → Told (EntriesFit s)
told_entries (CustomSection c) = told_length c.name
told_entries (frames.Types gs) = told_vector GroupFits told_group gs
told_entries (frames.Imports is) = told_vector ImportFits told_import is
told_entries (frames.Functions fs) = told_length fs
told_entries (frames.Tables ts) = told_vector TableFits (λ t. told_limits t.ty.limits) ts
told_entries (frames.Memories ms) = told_vector LimitsFit told_limits ms
told_entries (frames.Globals gs) = told_length gs
told_entries (frames.Exports es) = told_vector ExportFits (λ e. told_length e.name) es
told_entries (frames.Start f) = inl tt
told_entries (frames.Elements es) = told_vector ElementFits (λ e. told_items e.items) es
told_entries (frames.Code bs) = told_vector (λ (b : wire.Body). FitsLength b.bytes) (λ b. told_length b.bytes) bs
told_entries (frames.DataSegments ds) = told_vector DataFits (λ d. told_length d.bytes) ds
told_entries (frames.DataCount n) = inl tt
told_entries (frames.Tags ts) = told_length ts

told_section : (s : Section) → Told (SectionFits s)
told_section s = told_both (told_entries s) (told_length (content_bytes s))

told_sections : (ss : List Section) → Told (AllByRecursion SectionFits ss)
told_sections [] = inl tt
told_sections (s ∷ ss) = told_both (told_section s) (told_sections ss)

-- all of them fit, or not all
pub told_fits : (ss : List Section) → Told (All SectionFits ss)
told_fits ss = ⊎_elim
    (λ fit. inl (All-from_recursion SectionFits ss fit))
    (λ no. inr (λ fit. no (recursion_from_All SectionFits ss fit)))
    (told_sections ss)

-- ---- what a module in memory is written as

-- where the sections of the one spelling fit, none of any spelling fails to
pub none_unfit : (c : Config) (v n : Abstract) (t : Text) → (HasDead v → ⊥) → IsWrittenAs c v n → IsSpelling n t → All SectionFits (sections_of t) → WritesUnfit c v → ⊥
none_unfit c v n t alive written spells fits h =
    let other = h.unfit in
    let one : h.module_out ≡ n = one_module c v h.module_out n other.text t (living_keeps v alive) h.written written other.spells spells in
    let same : t ≡ other.text = spelled_once n other.text t (subst (λ z. IsSpelling z other.text) one other.spells) spells in
    other.unfit (subst (λ z. All SectionFits (sections_of z)) same fits)

pub ok_fits : OkFits
ok_fits c v n t none written spells = ⊎_elim
    (λ fit. fit)
    (λ no. absurd (none.fits (Unfit none.all_there (record { module_out = n; written = written; unfit = record { text = t; spells = spells; unfit = no } }))))
    (told_fits (sections_of t))
