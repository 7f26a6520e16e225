-- What was parsed and edited is written: the whole way.
use Rattle.std.proofs.Common.{◌≡◌, ℕ, ◌+◌, Bool, false, List, [], ◌∷◌, flat_map, filter, map, refl, sym, ap, ap₂, ◌∙◌, subst}
use Rattle.std.specs.Prelude.{Contains, Option, Some, None, Result, Ok, Err}
use Rattle.std.specs.Global.{Vec}
use Rattle.walrus.specs.Base.Arena.{entries_from, items}
use Rattle.walrus.specs.Base.Operators.{Item}
use Rattle.walrus.proofs.Base.Lists.{Contains-map}
use Rattle.walrus_model.proofs.TakingOver.{Contains-map_back}
use Rattle.walrus.specs.Model.Abstract.{Abstract, Custom}
use Rattle.walrus.specs.Model.Config.{Config}
use Rattle.walrus.specs.Model.Sections as wire
use Rattle.walrus.specs.Frames.Record as frames
use Rattle.walrus.specs.Contents.View.{contents_view}
use Rattle.walrus.specs.Contents.Contents.{Contents}
use Rattle.walrus.specs.Items.Errors.{out_of_memory}
use Rattle.walrus.specs.Items.Seen.{seen}
use Rattle.walrus.specs.Items.CustomSection.{Ghosts}
use Rattle.walrus.specs.Items.Error.{Error}
use Rattle.walrus.specs.Items.Error.TheVariants.{InvalidWasm, Memory}
use Rattle.walrus.specs.Items.RawCustomSection.{RawCustomSection}
use Rattle.walrus.proofs.Theorem.SameItems.{with_own}
use Rattle.walrus.proofs.Theorem.WellStays.{well_formed_in}
use Rattle.walrus.proofs.Theorem.WritableParsed.{parsed_is_well}
use Rattle.walrus.specs.Theorem.Features.{features_of}
use Rattle.walrus.specs.Theorem.Sound.{IsFreeName}
use Rattle.walrus.specs.Theorem.WellMade.{IsWellMade}
use Rattle.walrus_edit_list.specs.Check.{BodiesAreFormed}
use Rattle.walrus.specs.Modules.Customs.{sections}
use Rattle.walrus.specs.Modules.Entry.{raw_in}
use Rattle.walrus.specs.Modules.Flags.{Flags, config_of}
use Rattle.walrus.specs.Modules.Meaning.{Meaning, meaning, raw_meaning}
use Rattle.walrus.specs.Modules.Parsed.{IsParsed, RefusesBytes, TakenFrom}
use Rattle.walrus.specs.Modules.Raws.{raw_sections}
use Rattle.walrus.specs.Modules.Settings.{settings}
use Rattle.walrus.specs.Modules.View.{can_be_kept, contents_of, custom_of, held_view, kept_by, view}
use Rattle.walrus.specs.Modules.SectionEntry.{SectionEntry}
use Rattle.walrus_edit_list.specs.Flaw.{Flaw}
use Rattle.walrus.specs.Modules.Module.{Module}
use Rattle.walrus.proofs.Modules.KeptRaw.{none_refuses, raw_means}
use Rattle.walrus.specs.Edits.{with_customs}
use Rattle.walrus_edit_list.specs.Applies.{AppliesEach, RefusesNext}
use Rattle.walrus_edit_list.specs.Fine.{IsFine}
use Rattle.walrus_edit_list.specs.Formed.{AreFormed}
use Rattle.walrus_edit_list.specs.Held.{Held, customs, custom_value}
use Rattle.walrus_edit_list.proofs.FormedStays.{stays_formed}
use Rattle.walrus_edit_list.proofs.Keeping.{keep_fine}
use Rattle.walrus_edit_list.proofs.ParsedFormed.{parsed_formed}
use Rattle.walrus_edits.specs.Edited.{AnswersEdit, IsRead, MakesOf, seen_whole}
use Rattle.walrus_edits.specs.Ending.{Ends, EndsFormed, IsFormed}
use Rattle.walrus_edits.specs.declared.refusal.Refusal.{Refusal}
use Rattle.walrus_edits.specs.declared.refusal.Refusal.TheVariants.{Input, Edit, Whole}

-- ---- refusals

-- the input is refused as it is when it is parsed
pub input_refused : (c : Config) (collects : Bool) (bytes edits : List ℕ) (e : Error) → RefusesBytes c bytes e → AnswersEdit c collects bytes edits (Err (Input e))
input_refused c collects bytes edits (Memory e) h = tt
input_refused c collects bytes edits (InvalidWasm kind) h = h
input_refused c collects bytes edits _ h = absurd h

pub memory_refused : (c : Config) (collects : Bool) (bytes edits : List ℕ) (e : Error) → e ≡ out_of_memory → AnswersEdit c collects bytes edits (Err (Input e))
memory_refused c collects bytes edits e is = subst (λ (x : Error). AnswersEdit c collects bytes edits (Err (Input x))) (sym is) tt

-- ---- custom sections beside

abbrev values_from : {A : Type 0} → ℕ → List (Option A) → List A
values_from k xs = map (λ (e : ℕ × _). e.1) (entries_from k xs)

-- those that are there are seen as they are
seen_from : (k : ℕ) (all : List (Option RawCustomSection)) → values_from k (customs all) ≡ map custom_value (values_from k all)
seen_from k [] = refl
seen_from k (None ∷ all) = seen_from (k + 1) all
seen_from k (Some r ∷ all) = ap (λ (l : List frames.Custom). custom_value r ∷ l) (seen_from (k + 1) all)

-- a section says what it said before
says_same : (raws : List RawCustomSection) → map custom_of (map raw_meaning raws) ≡ map wire.custom_of (map custom_value raws)
says_same [] = refl
says_same (r ∷ raws) = ap (λ (l : List Custom). wire.custom_of (custom_value r) ∷ l) (says_same raws)

asks_nothing : (raws : List RawCustomSection) → ◌≡◌ {A = List Item} (flat_map (λ (s : Meaning). s.roots) (map raw_meaning raws)) []
asks_nothing [] = refl
asks_nothing (r ∷ raws) = asks_nothing raws

module _ (V : Type 0) (O : V → Type 0) where
  taken_from : (k : ℕ) (raws : List RawCustomSection) → values_from k (map raw_in (raw_sections {V = V} {O = O} raws)) ≡ raws
  taken_from k [] = refl
  taken_from k (r ∷ raws) = ap (λ (l : List RawCustomSection). r ∷ l) (taken_from (k + 1) raws)

  all_there : (raws : List RawCustomSection) → customs (map raw_in (raw_sections {V = V} {O = O} raws)) ≡ map Some (map custom_value raws)
  all_there [] = refl
  all_there (r ∷ raws) = ap (λ (l : List (Option frames.Custom)). Some (custom_value r) ∷ l) (all_there raws)

module _ {V : Type 0} {O : V → Type 0} (G : (v : V) → Ghosts (O v)) (m : Module (SectionEntry V O)) (raws : List RawCustomSection) (are : sections m.customs ≡ raw_sections raws) where
  means : map (meaning G) (items (sections m.customs)) ≡ map raw_meaning raws
  means = ap (λ ss. map (meaning G) (items ss)) are ∙ raw_means G raws

  same_customs : (view G m).customs ≡ map wire.custom_of (map custom_value raws)
  same_customs = ap (map custom_of) means ∙ says_same raws

  same_roots : (view G m).section_roots ≡ []
  same_roots = ap kept_by means ∙ ap (λ (l : List Item). filter (λ (x : Item). can_be_kept x.0) l) (asks_nothing raws)

  -- a module that holds raw sections alone is this
  view_raw : view G m ≡ with_customs (map wire.custom_of (map custom_value raws)) (contents_of m)
  view_raw = ap (λ (rs : List Item). with_own (held_view m) (view G m).customs rs) same_roots ∙ ap (λ (cs : List Custom). with_customs cs (contents_of m)) same_customs

  -- the same of what is held with them beside
  pub view_held : (h : Held) → h.contents ≡ contents_of m → items h.customs ≡ map custom_value raws → view G m ≡ seen_whole h
  view_held h holds beside =
      view_raw ∙ ap₂ (λ (cs : List frames.Custom) (k : Contents). with_customs (map wire.custom_of cs) k) (sym beside) (sym holds)

-- ---- what was parsed is fine

module _ (c : Config) (bytes : List ℕ) (read : Held) (p : IsParsed c bytes (seen_whole read)) where
  read_made : IsWellMade c (seen_whole read)
  read_made = parsed_is_well c bytes p.module_read (seen_whole read) p.reads p.holds p.parsed

  read_formed : AreFormed c (seen_whole read)
  read_formed = parsed_formed c bytes p.module_read (seen_whole read) p.reads p.holds p.parsed

  pub read_fine : IsFine c read
  read_fine = record {
    formed = λ i f b at is. stays_formed c (seen_whole read) (contents_view read.contents) f.ty b (λ t. refl) (read_formed i f b at is);
    free = λ s has. read_made.customs (wire.custom_of s) (Contains-map wire.custom_of s (items read.customs) has);
  }

-- ---- the whole way

-- what the end refuses, behind all edits
abbrev pub behind_all : Result (Vec ℕ) Flaw → Result (Vec ℕ) Refusal
behind_all (Ok output) = Ok output
behind_all (Err f) = Err (Whole f)

module _ (f : Flags) (bytes edits : List ℕ) where
  abbrev c : Config
  c = config_of f

  by_result : (collects : Bool) (n : ℕ) (made : Held) (result : Result (Vec ℕ) Flaw) → MakesOf c bytes edits n made → Ends collects c (contents_view made.contents) (seen_whole made) result → AnswersEdit c collects bytes edits (behind_all result)
  by_result collects n made (Ok output) makes ends = record { count = n; made = made; makes = makes; ended = ends }
  by_result collects n made (Err w) makes ends = record { count = n; made = made; makes = makes; refuses = ends }

  -- of what was parsed under flags that come to the same
  module _ (g : Flags) (alike : g ≡ f) {V : Type 0} {O : V → Type 0} (G : (v : V) → Ghosts (O v)) (m : Module (SectionEntry V O)) (parsed : IsParsed (config_of g) bytes (view G m))
      (took : TakenFrom (features_of (config_of g)) bytes (contents_of m)) (raws : List RawCustomSection) (are : sections m.customs ≡ raw_sections raws)
      (taken : List (Option RawCustomSection)) (takes : taken ≡ map raw_in (sections m.customs)) where
    abbrev read : Held
    read = record { contents = contents_of m; customs = customs taken; has_read = false }

    beside : items (customs taken) ≡ map custom_value raws
    beside =
        ap (λ (l : List (Option RawCustomSection)). items (customs l)) (takes ∙ ap (map raw_in) are)
        ∙ seen_from 0 (map raw_in (raw_sections {V = V} {O = O} raws))
        ∙ ap (map custom_value) (taken_from V O 0 raws)

    pub is_read : IsRead c bytes read
    is_read = record {
      parsed = subst (λ (v : Abstract). IsParsed c bytes v) (view_held G m raws are read refl beside) (subst (λ (k : Flags). IsParsed (config_of k) bytes (view G m)) alike parsed);
      taken = subst (λ (k : Flags). TakenFrom (features_of (config_of k)) bytes (contents_of m)) alike took;
      in_place = ap customs (takes ∙ ap (map raw_in) are) ∙ all_there V O raws ∙ ap (map Some) (sym beside);
      fresh = refl;
    }

    pub next_refused : (collects : Bool) (n : ℕ) (e : Error) → RefusesNext (features_of c) edits n read e → AnswersEdit c collects bytes edits (Err (Edit n e))
    next_refused collects n e next = record { read = read; is_read = is_read; next = next }

    module _ (n : ℕ) (made : Held) (each : AppliesEach (features_of c) edits n read made) (all : List (Option RawCustomSection)) (left : List RawCustomSection) (have : made.customs ≡ customs all) (lefts : left ≡ items all)
        (m3 : Module (SectionEntry V O)) (own : sections m3.customs ≡ raw_sections left) (holds : contents_of m3 ≡ made.contents) (configured : settings m3 ≡ f) (plain : f.preserve_code_transform ≡ false) where
      left_beside : items made.customs ≡ map custom_value left
      left_beside = ap items have ∙ seen_from 0 all ∙ ap (map custom_value) (sym lefts)

      same_view : view G m3 ≡ seen_whole made
      same_view = view_held G m3 left own made (sym holds) left_beside

      fine : IsFine c made
      fine = keep_fine c each.all read made each.edits (read_fine c bytes read is_read.parsed)

      bodies : BodiesAreFormed c (seen_whole made)
      bodies i g b at is = well_formed_in c (contents_view made.contents) (seen_whole made) g.ty b refl (λ t has. refl) (fine.formed i g b at is).0

      formed : IsFormed G m3
      formed = record {
        formed = subst (λ (d : Config). BodiesAreFormed d (view G m3)) (sym (ap config_of configured)) (subst (λ (v : Abstract). BodiesAreFormed c v) (sym same_view) bodies);
        free = λ s has.
            let back = Contains-map_back wire.custom_of (items made.customs) s (subst (λ (v : Abstract). Contains v.customs s) same_view has) in
            subst (λ (x : Custom). IsFreeName x.name) back.2 (fine.free back.0 back.1);
        quiet = none_refuses G m3 left own;
        still = ap (λ (g : Flags). g.preserve_code_transform) configured ∙ plain;
      }

      pub whole : (collects : Bool) (result : Result (Vec ℕ) Flaw) → EndsFormed G m3 collects result → AnswersEdit c collects bytes edits (behind_all result)
      whole collects result ends =
          by_result collects n made result (record { read = read; is_read = is_read; each = each })
          (subst (λ (v : Abstract). Ends collects c (contents_view made.contents) v result) same_view
          (subst (λ (k : Contents). Ends collects c (contents_view k) (view G m3) result) holds
          (subst (λ (d : Config). Ends collects d (held_view m3) (view G m3) result) (ap config_of configured) (ends formed))))
