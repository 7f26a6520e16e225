-- What may be written isn't too large.
use Rattle.std.proofs.Common.{◌≡◌, ℕ, ◌<◌, ◌≤◌, List, [], ◌∷◌, length, get_or, sym, ap, ◌∙◌, subst, arith, inl, inr}
use Rattle.std.specs.Prelude.{Option, Some, IsSome, Contains, AllPairs, All, ◌≢◌, ◌^◌}
use Rattle.std.proofs.lemmas.List.Elements.{All-contains_itself}
use Rattle.wasm_frames.specs.Frames.{Section}
use Rattle.wasm_writer.specs.Spelling.{SectionFits}
use Rattle.walrus_base.specs.Operators.{Space, Types, Functions, Tables, Memories, Tags, Globals, Elements, DataSegments, Item}
use Rattle.walrus_model.specs.Abstract.{Abstract, Body, Function, Table, Memory}
use Rattle.walrus_model.specs.Config.{Config}
use Rattle.walrus_model.specs.Declared.{AreUndeclared}
use Rattle.walrus_model.specs.Live.{Has, IsLive}
use Rattle.walrus_model.specs.Names.{body_of, body_of_function}
use Rattle.walrus_model.specs.Refers.{IsUsed}
use Rattle.walrus_model.specs.Renaming.{renamed_table, renamed_memory}
use Rattle.walrus_model.specs.Rules.{Holds}
use Rattle.walrus_theorem.specs.Chain.{AddsSegment, HasSegment, BringsTo}
use Rattle.walrus_theorem.specs.Headline.{ReadsModule, NotBoth}
use Rattle.walrus_theorem.specs.Once.{Premises}
use Rattle.walrus_theorem.specs.OneRun.{Fits}
use Rattle.walrus_theorem.specs.Pinned.{IsWrittenAs}
use Rattle.walrus_theorem.specs.Refused.{PassesLimit, PassesLimits, ManyItems, ManyLocals, TableLimit, MemoryLimit, Unfit, WritesUnfit}
use Rattle.walrus_theorem.specs.Spelling.{IsSpelling, IsSpelledAs, written_as}
use Rattle.walrus_theorem.specs.Text.{Text, sections_of}
use Rattle.walrus_theorem.proofs.BroughtWell.{brought_well}
use Rattle.walrus_theorem.proofs.BytesOnce.{one_module}
use Rattle.walrus_base.proofs.Counting.{no_longer}
use Rattle.walrus_theorem.proofs.KeptLives.{kept_lives}
use Rattle.walrus_base.proofs.Lists.{Contains-head}
use Rattle.walrus_model.proofs.Orders.{is_some_by}
use Rattle.walrus_theorem.proofs.ManyItems.{segment_by, too_many, too_many_segments}
use Rattle.walrus_theorem.proofs.ManyLocals.{too_many_locals}
use Rattle.walrus_theorem.proofs.OneOutput.{kept, from_read, one_way}
use Rattle.walrus_theorem.proofs.OneSpelling.{spelled_once}
use Rattle.walrus_theorem.proofs.ReadFits.{read_fits}
use Rattle.walrus_theorem.proofs.SpelledFits.{spelled_fits}
use Rattle.walrus_theorem.proofs.Plain.{there, undeclared_there, plain_premises}
use Rattle.walrus_theorem.proofs.ReadsOnce.{reads_once_lem}
use Rattle.walrus_theorem.proofs.Things.{both_there, some_same}

-- d is brought from m too; n is what m is written as, and fits
module _ (c : Config) (bytes : List ℕ) (m d n : Abstract) (reads : ReadsModule c bytes m) (holds : Holds m) (b : BringsTo c m d) (t : Text) (spells : IsSpelling n t) (premises : Premises (kept c m d b)) (is : IsWrittenAs c (kept c m d b) n) (fits : Fits n) (sections : (s : Section) → Contains (sections_of t) s → SectionFits s) where
  abbrev w : Abstract
  w = b.module_kept

  abbrev u : Abstract
  u = kept c m d b

  live : (x : Item) → IsLive w x → IsLive u x
  live x h = there c m b.module_parsed w b.parsed b.collected holds x h

  positive : 0 < 2 ^ 32
  positive = omega arith

  all_map : (P Q : ℕ → Type 0) (xs : List ℕ) → ((x : ℕ) → P x → Q x) → All P xs → All Q xs
  all_map P Q xs law h k x lt = law _ (h k x lt)

  module _ (numbers : List ℕ) (rise : AllPairs (λ i j. i < j) numbers) (many : 2 ^ 32 ≤ length numbers) where
    of_kept : (space : Space) → All (Has w space) numbers → ⊥
    of_kept space has = too_many c u n is (2 ^ 32) positive fits.items space numbers rise many (all_map (Has w space) (Has u space) numbers (λ i h. live (space, i) h) has)

    with_segment : (f : ℕ) (fs : List ℕ) → AreUndeclared (IsLive w) w (f ∷ fs) → HasSegment w d (f ∷ fs) → All (λ i. IsSome (d.elements i)) numbers → ⊥
    with_segment f fs h seg has =
        let undeclared = undeclared_there c m b.module_parsed w b.parsed b.collected holds f ((h.are f).0 (Contains-head f fs)) in
        let added = segment_by c u n is is.written.declares.functions f ((is.written.declares.undeclared.are f).1 undeclared) is.written.segment is.written.declares.declared in
        too_many_segments c u n is (2 ^ 32) positive fits.items numbers rise many d.elements seg.id seg.others added has

    by_space : (space : Space) (f : ℕ) (fs : List ℕ) → AreUndeclared (IsLive w) w (f ∷ fs) → HasSegment w d (f ∷ fs) → All (Has (record w { elements = d.elements }) space) numbers → ⊥
    by_space Types f fs h seg has = of_kept Types has
    by_space Functions f fs h seg has = of_kept Functions has
    by_space Tables f fs h seg has = of_kept Tables has
    by_space Memories f fs h seg has = of_kept Memories has
    by_space Tags f fs h seg has = of_kept Tags has
    by_space Globals f fs h seg has = of_kept Globals has
    by_space Elements f fs h seg has = with_segment f fs h seg has
    by_space DataSegments f fs h seg has = of_kept DataSegments has

    items_fit : (space : Space) (fs : List ℕ) → AreUndeclared (IsLive w) w fs → AddsSegment w d fs → All (Has d space) numbers → ⊥
    items_fit space [] h e has = of_kept space (subst (λ z. All (Has z space) numbers) e has)
    items_fit space (f ∷ fs) h e has = by_space space f fs h e.0 (subst (λ z. All (Has z space) numbers) e.1 has)

  -- all but element segments is as it was
  abbrev SameBut : Type 0
  SameBut = (d.functions ≡ w.functions) × ((d.tables ≡ w.tables) × (d.memories ≡ w.memories))

  same_but : (fs : List ℕ) → AddsSegment w d fs → SameBut
  same_but [] e = (ap (λ (z : Abstract). z.functions) e, (ap (λ (z : Abstract). z.tables) e, ap (λ (z : Abstract). z.memories) e))
  same_but (f ∷ fs) e = (ap (λ (z : Abstract). z.functions) e.1, (ap (λ (z : Abstract). z.tables) e.1, ap (λ (z : Abstract). z.memories) e.1))

  abbrev same : SameBut
  same = same_but b.leaves.functions b.leaves.added

  table_fits : (i : ℕ) (x : Table) → w.tables i ≡ Some x → PassesLimit x.ty.limits → ⊥
  table_fits i x e h =
      let s = is.written.renaming in
      let both = both_there (λ y z. z ≡ renamed_table s y) (w.tables i) (n.tables (s.numbers Tables i)) (is.written.carried.tables.same i (is_some_by (w.tables i) x e)) in
      let one : both.0 ≡ x = some_same both.0 x (sym both.2 ∙ e) in
      let is_it : n.tables (s.numbers Tables i) ≡ Some (renamed_table s x) = both.3 ∙ ap Some (both.4 ∙ ap (renamed_table s) one) in
      fits.tables (s.numbers Tables i) (renamed_table s x) is_it h

  memory_fits : (i : ℕ) (x : Memory) → w.memories i ≡ Some x → PassesLimit x.ty.limits → ⊥
  memory_fits i x e h =
      let s = is.written.renaming in
      let both = both_there (λ y z. z ≡ renamed_memory s y) (w.memories i) (n.memories (s.numbers Memories i)) (is.written.carried.memories.same i (is_some_by (w.memories i) x e)) in
      let one : both.0 ≡ x = some_same both.0 x (sym both.2 ∙ e) in
      let is_it : n.memories (s.numbers Memories i) ≡ Some (renamed_memory s x) = both.3 ∙ ap Some (both.4 ∙ ap (renamed_memory s) one) in
      fits.memories (s.numbers Memories i) (renamed_memory s x) is_it h

  -- it declares as many locals as its body counts, which the rules bound
  few_locals : (f : ℕ) (body : Body) (further : List ℕ) → body_of d f ≡ Some body → AllPairs (λ (x : ℕ) (y : ℕ). x ≢ y) further → All (IsUsed body) further → All (λ (x : ℕ). Contains body.parameters x → ⊥) further → 2 ^ 32 ≤ length further → ⊥
  few_locals f body further e apart used away many =
      let made = (brought_well c bytes m d reads holds b).made in
      let counted = made.counted f body e in
      let low : length further ≤ length counted.locals = no_longer further counted.locals apart (λ k x lt. (counted.are (get_or further k x)).1 (used k x lt, away k x lt)) in
      let most : body.declared ≤ 50_000 = made.rules.locals f body e in
      less (length further) (length counted.locals) body.declared low counted.count most many
    where
      less : (x y z : ℕ) → x ≤ y → z ≡ y → z ≤ 50_000 → 2 ^ 32 ≤ x → ⊥
      less x y z low is most many = omega (arith, low, is, most, many)

  writes_fit : WritesUnfit c d → ⊥
  writes_fit h =
      let other = h.unfit in
      let written : IsWrittenAs c u h.module_out = from_read c bytes m d h.module_out reads holds b h.written in
      let one : h.module_out ≡ n = one_module c u h.module_out n other.text t premises written is other.spells spells in
      let text : t ≡ other.text = spelled_once n other.text t (subst (λ z. IsSpelling z other.text) one other.spells) spells in
      let fit : All SectionFits (sections_of t) = λ k s lt. sections (get_or (sections_of t) k s) (All-contains_itself (sections_of t) k s lt) in
      other.unfit (subst (λ z. All SectionFits (sections_of z)) text fit)

  pub fits_all : PassesLimits c d → ⊥
  fits_all (ManyItems space numbers rise has many) = items_fit numbers rise many space b.leaves.functions b.leaves.undeclared b.leaves.added has
  fits_all (ManyLocals f body further e apart used away (inl many)) = few_locals f body further e apart used away many
  fits_all (ManyLocals f body further e apart used away (inr many)) = too_many_locals c bytes m b.module_parsed w n reads holds b.parsed b.collected premises t spells is fits f body further (ap (λ (fs : ℕ → Option Function). body_of_function (fs f)) (sym same.0) ∙ e) apart used away many
  fits_all (TableLimit i x e h) = table_fits i x (ap (λ f. f i) (sym same.1.0) ∙ e) h
  fits_all (MemoryLimit i x e h) = memory_fits i x (ap (λ f. f i) (sym same.1.1) ∙ e) h
  fits_all (Unfit there h) = writes_fit h

outputs : (c : Config) (bytes a : List ℕ) (m u d n : Abstract) → ReadsModule c bytes m → Holds m → BringsTo c m u → BringsTo c m d → IsWrittenAs c u n → IsSpelledAs n a → ReadsModule c a n → PassesLimits c d → ⊥
outputs c bytes a m u d n reads holds bu bd wn sa back =
    let is : IsWrittenAs c (kept c m d bd) n = subst (λ z. IsWrittenAs c z n) (one_way c m u d holds bu bd) (from_read c bytes m u n reads holds bu wn) in
    let premises : Premises (kept c m d bd) = plain_premises c m bd.module_parsed bd.module_kept bd.parsed bd.collected holds (kept_lives c bytes m bd.module_parsed bd.module_kept reads holds bd.parsed bd.collected) in
    let again : ReadsModule c (written_as sa.text) n = subst (λ z. ReadsModule c z n) sa.written back in
    fits_all c bytes m d n reads holds bd sa.text sa.spells premises is (read_fits c a n back) (λ s at. spelled_fits c n sa.text s sa.spells again at)

pub not_both : NotBoth
not_both c bytes a ha hb =
    let same : hb.module_read ≡ ha.module_read = reads_once_lem c bytes ha.module_read hb.module_read ha.reads hb.reads in
    let brought : BringsTo c ha.module_read hb.module_left = subst (λ z. BringsTo c z hb.module_left) same hb.brought in
    outputs c bytes a ha.module_read ha.module_left hb.module_left ha.module_written ha.reads ha.holds ha.brought brought ha.written ha.spelled ha.output_reads hb.too_large
