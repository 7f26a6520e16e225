-- What is listed of a module of chosen exports: the module as it was edited, and each refusal.
use Rattle.std.proofs.Common.{◌≡◌, ℕ, false, List, Option, Some, ap, ◌∙◌, flat_map, sym, subst}
use Rattle.std.specs.Prelude.{Err, Ok, map, option_map}
use Rattle.std.specs.Global.{Vec}
use Rattle.walrus.specs.Base.Arena.{item_at, items}
use Rattle.walrus.specs.Base.IdSet.{has_id}
use Rattle.walrus.specs.Base.Operators.{Functions}
use Rattle.walrus.proofs.Base.Standing.{some_inj}
use Rattle.walrus.specs.Model.Abstract.{Abstract, Import}
use Rattle.walrus.specs.Model.Config.{Config}
use Rattle.walrus.specs.Model.Kept.{IsImportOf, Kept}
use Rattle.walrus.specs.Items.Exports.{exports}
use Rattle.walrus.specs.Items.Functions.{functions}
use Rattle.walrus.specs.Items.Imports.{ImportValue, imports}
use Rattle.walrus.specs.Items.Kinds.{imported}
use Rattle.walrus.specs.Items.CustomSection.{Ghosts}
use Rattle.walrus.specs.Items.Error.{Error}
use Rattle.walrus.specs.Items.Error.TheVariants as error
use Rattle.walrus.specs.Items.RawCustomSection.{RawCustomSection}
use Rattle.walrus.specs.Contents.View.{import_of}
use Rattle.walrus.specs.Modules.Asked.{OneMayRefuse}
use Rattle.walrus.specs.Modules.Customs.{sections}
use Rattle.walrus.specs.Modules.Flags.{Flags, config_of}
use Rattle.walrus.specs.Modules.Parsed.{IsParsed, RefusesBytes}
use Rattle.walrus.specs.Modules.Raws.{raw_sections}
use Rattle.walrus.specs.Modules.Settings.{settings}
use Rattle.walrus.specs.Modules.View.{contents_of, meanings, view}
use Rattle.walrus.specs.Modules.SectionEntry.{SectionEntry}
use Rattle.walrus.specs.Modules.Module.{Module}
use Rattle.walrus.specs.Collected.{Collects}
use Rattle.walrus.specs.Marked.{MarksKept, ReachesUnsound}
use Rattle.walrus.specs.Used.{RefusesSearch}
use Rattle.walrus.specs.declared.passes.used.Used.{Used}
use Rattle.walrus_sections.specs.Choice.{Choice}
use Rattle.walrus_tools.specs.ChosenModule.{KeepsChosen, KeepsIn, RefusesChosen, RefusesExports}
use Rattle.walrus_tools.specs.DroppedList.{AnswersDropped, dropped_of, functions_among}
use Rattle.walrus.specs.Edited.{Edited, edited_view}
use Rattle.walrus.specs.Edits.{IsWhole, RefusesEdit, with_customs}
use Rattle.walrus.specs.Ends.{Answers}
use Rattle.walrus_tools.specs.ExportList.{AnswersExports, export_told, exported_seen}
use Rattle.walrus_tools.specs.FunctionList.{listed_seen, names_in}
use Rattle.walrus_tools.specs.ImportList.{AnswersImports, import_told, imported_seen}
use Rattle.walrus_sections.specs.PartList.{AnswersParts}
use Rattle.walrus_sections.specs.Parts.{HasParts, part_record}
use Rattle.walrus.specs.Ready.{IsReady}
use Rattle.walrus_tools.specs.Those.{AreThose}
use Rattle.walrus_sections.specs.declared.parts.Item.{Item}
use Rattle.walrus_sections.specs.declared.parts.Part.{Part as RawPart}
use Rattle.walrus_tools.specs.declared.tool.exports.Exported.{Exported}
use Rattle.walrus_tools.specs.declared.tool.imports.Imported.{Imported}
use Rattle.walrus_tools.specs.declared.tool.list.Listed.{Listed}
use Rattle.walrus_tools.proofs.ChosenEnds.{chosen_held, chosen_whole}
use Rattle.walrus.proofs.EditEnds.{parsed_whole, plain_edited, plain_read, ready}
use Rattle.walrus.proofs.FinishLemmas.{search_refused}
use Rattle.walrus_tools.proofs.ThoseLemmas.{gone_of, those_left}

-- ---- refusals

module _ (X : Type 0) (c : Config) (bytes : List ℕ) (Done : X → Type 0) (Large : Type 0) (Refuses : Error → Type 0) where
  -- bytes that aren't parsed
  pub unread : (e : Error) → RefusesBytes c bytes e → Answers {X = X} c bytes Done Large Refuses (Err e)
  unread (error.Memory m) h = tt
  unread (error.InvalidWasm kind) h = h
  unread _ h = absurd h

  -- bytes whose parts aren't found
  pub unparted : (e : Error) → AnswersParts bytes (Err e) → Answers {X = X} c bytes Done Large Refuses (Err e)
  unparted (error.Memory m) h = tt
  unparted (error.InvalidWasm kind) none = λ accepts. none accepts.1.sections accepts.1.framed
  unparted _ h = absurd h

  -- a search of a module in which nothing is missing and no section may refuse
  module _ {V : Type 0} {O : V → Type 0} (G : (v : V) → Ghosts (O v)) (m : Module (SectionEntry V O)) (whole : IsReady G m) where
    pub unsearched : (e : Error) → RefusesSearch (ReachesUnsound (view G m)) (OneMayRefuse (meanings G m)) e → Answers {X = X} c bytes Done Large Refuses (Err e)
    unsearched (error.Memory memory) h = tt
    unsearched error.DeadItem h = absurd (search_refused G m whole error.DeadItem h)
    unsearched (error.Caller text) h = absurd (search_refused G m whole (error.Caller text) h)
    unsearched _ h = absurd h

module _ {V : Type 0} {O : V → Type 0} (G : (v : V) → Ghosts (O v)) (choices : List Choice) (c : Config) (bytes : List ℕ) (read : Module (SectionEntry V O)) (parsed : IsParsed c bytes (view G read)) where
  read_so : IsParsed c bytes (with_customs (view G read).customs (contents_of read))
  read_so = subst (λ (v : Abstract). IsParsed c bytes v) (plain_read G (KeepsChosen choices) (RefusesChosen choices) c bytes read parsed) parsed

  -- a choice that fits none
  pub unchosen : (X : Type 0) (Done : X → Type 0) (Large : Type 0) (e : Error) → RefusesExports choices (exports read.exports) e → Answers {X = X} c bytes Done Large (RefusesEdit (RefusesChosen choices) c bytes) (Err e)
  unchosen X Done Large (error.Memory m) h = tt
  unchosen X Done Large error.NotFound h = record { customs = (view G read).customs; module_parsed = contents_of read; parsed = read_so; refuses = h }
  unchosen X Done Large _ h = absurd h

  -- ---- the module as it was edited

  module _ (edited : Module (SectionEntry V O)) (kept : KeepsIn choices read edited) where
    abbrev was_edited : Edited (KeepsChosen choices) c bytes
    was_edited = record { customs = (view G read).customs; module_parsed = contents_of read; parsed = read_so; module_edited = contents_of edited; edits = chosen_held choices read edited kept }

    whole : IsWhole c edited
    whole = chosen_whole choices read edited kept c (parsed_whole G (KeepsChosen choices) (RefusesChosen choices) c bytes read parsed)

    seen_so : view G edited ≡ edited_view was_edited
    seen_so = plain_edited G (KeepsChosen choices) (RefusesChosen choices) c bytes read parsed edited (chosen_held choices read edited kept) (ap (λ m. m.customs) kept.others) whole

    -- it is ready for a search
    pub chosen_ready : (raws : List RawCustomSection) → sections read.customs ≡ raw_sections raws → (f : Flags) → settings read ≡ f → config_of f ≡ c → f.preserve_code_transform ≡ false → IsReady G edited
    chosen_ready raws are f configured is plain =
        ready G (KeepsChosen choices) (RefusesChosen choices) c bytes read parsed edited (chosen_held choices read edited kept) (ap (λ m. m.customs) kept.others) whole raws are f (ap settings kept.others ∙ configured) is plain

    -- ---- what is listed

    pub exports_told : (list : Vec Exported) → map exported_seen list.items ≡ map export_told (items (exports edited.exports)) → AnswersExports c bytes choices (Ok list)
    exports_told list is = record { edited = was_edited; is = is }

    -- functions that the search didn't find
    module _ (used : Used) (marks : MarksKept (view G edited) used) (parts : List RawPart) (has : HasParts bytes (map part_record parts)) where
      pub dropped_told : (list : Vec Listed) → map listed_seen list.items ≡ flat_map (dropped_of (has_id used.funcs) (names_in (functions edited.funcs))) (map part_record parts) → AnswersDropped c bytes choices (Ok list)
      dropped_told list is =
          let g = gone_of (has_id used.funcs) (λ f. Kept (view G edited) (Functions, f)) (λ f. marks (Functions, f)) (names_in (functions edited.funcs)) (map part_record parts) in
          record {
            edited = was_edited;
            parts = map part_record parts;
            has = has;
            gone = g.gone;
            are = subst (λ (v : Abstract). AreThose (λ (f : Item). Kept v (Functions, f.index) → ⊥) (functions_among (map part_record parts)) g.gone) seen_so g.are;
            is = is ∙ g.listed;
          }

    -- imports that gc left
    module _ (left : Module (SectionEntry V O)) (ran : Collects G edited left) where
      abbrev was : List (Option ImportValue)
      was = imports edited.imports

      abbrev IsKept : ImportValue → Type 0
      IsKept i = Kept (view G edited) (imported i.kind)

      kept_as : (i : ℕ) (x : ImportValue) → item_at was i ≡ Some x → IsImportOf (Kept (view G edited)) (view G edited) i → IsKept x
      kept_as i x at of =
          let same : import_of x ≡ of.0 = some_inj (import_of x) of.0 (sym (ap (option_map import_of) at) ∙ of.1) in
          subst (λ (y : Import). Kept (view G edited) y.item) (sym same) of.2

      import_left : (i : ℕ) → ((x : ImportValue) → item_at (imports left.imports) i ≡ Some x → IsKept x × (item_at was i ≡ Some x)) × ((x : ImportValue) → item_at was i ≡ Some x → IsKept x → item_at (imports left.imports) i ≡ Some x)
      import_left i = (
        λ x at. let h = ran.items.imports.left i x at in (kept_as i x h.1 h.0, h.1),
        λ x at so. ran.items.imports.kept i (import_of x, ap (option_map import_of) at, so) ∙ at,
      )

      pub imports_told : (list : Vec Imported) → map imported_seen list.items ≡ map import_told (items (imports left.imports)) → AnswersImports c bytes choices (Ok list)
      imports_told list is = record {
        edited = was_edited;
        kept = items (imports left.imports);
        are = subst (λ (v : Abstract). AreThose (λ (i : ImportValue). Kept v (imported i.kind)) (items was) (items (imports left.imports))) seen_so
            (those_left IsKept was (imports left.imports) ran.items.imports.places import_left);
        is = is;
      }
