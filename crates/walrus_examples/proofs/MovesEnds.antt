-- What was parsed, collected and written tells where operators moved, since what gc keeps of a function is as it was read.
use Rattle.std.proofs.Common.{◌≡◌, ℕ, ◌+◌, Bool, true, List, map, refl, sym, ap, ◌∙◌, subst}
use Rattle.std.proofs.lemmas.List.{get_or-drop}
use Rattle.std.specs.Prelude.{Option, Some, None, IsSome, option_and_then, option_map, drop, length, slice_get, Ok}
use Rattle.walrus.specs.Frames.Record as wire
use Rattle.walrus.specs.Frames.Frames.{Frames}
use Rattle.walrus.proofs.Frames.Modules.{one_record_lem}
use Rattle.walrus.specs.Base.Arena.{item_at}
use Rattle.walrus.specs.Base.ModuleLocals.{ModuleLocals}
use Rattle.walrus.specs.Code.Location.{location, location_at}
use Rattle.walrus.specs.Code.Transform.{Transform}
use Rattle.walrus.specs.Items.Function.{locations_of as locations_in_body}
use Rattle.walrus.specs.Model.Config.{Config}
use Rattle.walrus.specs.Model.Names.{body_of_function}
use Rattle.walrus.specs.Model.Pipeline.{Collected}
use Rattle.walrus.specs.Model.Sections.{imported, imported_function}
use Rattle.walrus.specs.Model.Transform.{IsLocalFunction}
use Rattle.walrus.proofs.Base.Standing.{got_in, some_inj, zip_right}
use Rattle.walrus.specs.Theorem.Chain.{Leaves}
use Rattle.walrus.specs.Theorem.Refused.{HasNoCause, IsSayable, RefusesToWrite}
use Rattle.walrus.proofs.Theorem.FitsTold.{ok_fits}
use Rattle.walrus.proofs.Theorem.Runs.{runs_fine}
use Rattle.walrus.proofs.Theorem.WrittenReads.{written_reads}
use Rattle.walrus.specs.Items.Functions.{FunctionValue, functions, local_at}
use Rattle.walrus.specs.Items.CustomSection.{Ghosts}
use Rattle.walrus.specs.Items.FunctionKind.{FunctionKind}
use Rattle.walrus.specs.Contents.View.{function}
use Rattle.walrus.specs.Modules.Parsed.{AreLocated}
use Rattle.walrus.specs.Modules.Taken.{AreLocatedIn, IsLocated}
use Rattle.walrus.specs.Modules.Transform.{IsTransformOf, imported_functions, locations_in}
use Rattle.walrus.specs.Modules.Flags.{Flags, config_of, defaults}
use Rattle.walrus.specs.Modules.Located.{IsPlace}
use Rattle.walrus.specs.Modules.Settings.{settings}
use Rattle.walrus.specs.Modules.Parsed.{IsParsed}
use Rattle.walrus.specs.Modules.View.{held_view, locations_of, view}
use Rattle.walrus.specs.Modules.SectionEntry.{SectionEntry}
use Rattle.walrus.specs.Modules.Module.{Module}
use Rattle.walrus.specs.Collected.{KeepsOnly}
use Rattle.walrus_examples.specs.Moves.{TellsMoves}
use Rattle.walrus_examples.proofs.MovesTrue.{tells_moves}
use Rattle.walrus_tools.proofs.PlacedOps.{RowIn, Text, located_in}

some_slot : (locals : ModuleLocals) (o : Option FunctionValue) → IsSome (body_of_function (option_map (function locals) o)) → (f : FunctionValue) × (o ≡ Some f)
some_slot locals (Some f) h = (f, refl)
some_slot locals None h = absurd (cc)

-- ---- what is left of a function is located where it was read

module _ {S : Type 0} (read kept left : Module S) (K : ℕ → Type 0) (keeps : KeepsOnly K (functions read.funcs) (functions kept.funcs)) (same : left.funcs ≡ kept.funcs)
    (bytes : List ℕ) (s : wire.Module) (framed : Frames bytes s) (are : AreLocated IsPlace bytes read.funcs) where
  in_sections : AreLocatedIn IsPlace s (functions read.funcs)
  in_sections = subst (λ (r : wire.Module). AreLocatedIn IsPlace r (functions read.funcs)) (one_record_lem bytes are.sections s are.framed framed) are.located

  -- the slot of a function holds what was read of its body
  slot_of : (f number : ℕ) (body : wire.Body) → f ≡ imported_functions s + number → slice_get s.bodies number ≡ Some body → (slot : Option FunctionValue) × ((item_at (functions read.funcs) f ≡ slot) × IsLocated IsPlace body slot)
  slot_of f number body index has =
      let slots = functions read.funcs in
      let imports : ℕ = length (imported imported_function 0 s.imports) in
      let found = zip_right (IsLocated IsPlace) s.bodies (drop imports slots) number body in_sections has in
      (found.0, (ap (item_at slots) index ∙ sym (get_or-drop imports slots number None) ∙ (got_in (drop imports slots) number found.0 found.1).1 None, found.2))

  pub located : (f number : ℕ) (body : wire.Body) → IsLocalFunction (held_view left) f → f ≡ imported_functions s + number → slice_get s.bodies number ≡ Some body
      → (ts : List Text) × ((qs : List ℕ) × (RowIn body ts qs × (locations_of left f ≡ map location_at qs)))
  located f number body local index has =
      let slot = slot_of f number body index has in
      let is = slot.1.1 in
      let mine = some_slot left.locals (item_at (functions left.funcs) f) local in
      let stays = keeps.left f mine.0 (ap (λ funcs. item_at (functions funcs) f) (sym same) ∙ mine.1) in
      let one : mine.0 ≡ is.value = some_inj mine.0 is.value (sym stays.1 ∙ slot.1.0 ∙ is.is) in
      let row = located_in body (locations_in_body is.local) is.places in
      let told : locations_of left f ≡ map location (locations_in_body is.local) =
      ap (λ (o : Option FunctionValue). locations_in (option_and_then (λ (g : FunctionValue). local_at f g.kind) o)) (mine.1 ∙ ap (λ (g : FunctionValue). Some g) one) ∙ ap (λ (k : FunctionKind). locations_in (local_at f k)) is.kind in
      (row.0, (row.1.0, (row.1.1.0, told ∙ row.1.1.1)))

-- ---- the whole way

module _ {V : Type 0} {O : V → Type 0} (G : (v : V) → Ghosts (O v)) (c : Config) (bytes : List ℕ) (read kept left : Module (SectionEntry V O)) (K : ℕ → Type 0) where
  pub moves_told : (output : List ℕ) (x : Transform) (places : List (ℕ × ℕ)) → IsParsed c bytes (view G read) → Collected (view G read) (view G kept) → Leaves (view G kept) (view G left)
      → KeepsOnly K (functions read.funcs) (functions kept.funcs) → left.funcs ≡ kept.funcs → AreLocated IsPlace bytes read.funcs
      → RefusesToWrite {X = List ℕ} ⊥ c (view G left) (Ok output) → (IsSayable (view G left) → IsTransformOf c true (locations_of left) (view G left) output x) → places ≡ x.instruction_map → TellsMoves c bytes output places
  moves_told output x places parsed collected leaves keeps same are ok transform told =
      let m = parsed.module_read in
      let fine = runs_fine c bytes m (view G read) (view G kept) (view G left) parsed.reads parsed.holds parsed.parsed collected leaves in
      let t = transform fine.left.sayable in
      let back = written_reads c (view G left) t.module_written output fine.left.made fine.left.declared t.written t.spelled (ok_fits c (view G left) t.module_written t.spelled.text ok t.written t.spelled.spells) in
      tells_moves c bytes m (view G read) (view G kept) (view G left) parsed.reads parsed.holds parsed.parsed collected leaves output (locations_of left) x t back.0 back.1
      (located read kept left K keeps same bytes parsed.reads.sections parsed.reads.framed are) places told

  -- the same as emission says it of the flags that the module keeps
  pub moves_answered : (f : Flags) → config_of f ≡ config_of defaults → f.preserve_code_transform ≡ true → settings kept ≡ f → config_of f ≡ c
      → (output : List ℕ) (x : Transform) (places : List (ℕ × ℕ)) → IsParsed (config_of f) bytes (view G read) → Collected (view G read) (view G kept) → Leaves (view G kept) (view G left)
      → KeepsOnly K (functions read.funcs) (functions kept.funcs) → left.funcs ≡ kept.funcs → AreLocated IsPlace bytes read.funcs
      → HasNoCause (config_of (settings kept)) (view G left) → (IsSayable (view G left) → IsTransformOf (config_of (settings kept)) (settings kept).preserve_code_transform (locations_of left) (view G left) output x)
      → places ≡ x.instruction_map → TellsMoves (config_of defaults) bytes output places
  moves_answered f plain on keeps is output x places parsed collected leaves only same are ok transform told =
      subst (λ (d : Config). TellsMoves d bytes output places) (sym is ∙ plain)
      (moves_told output x places (subst (λ (d : Config). IsParsed d bytes (view G read)) is parsed) collected leaves only same are
      (subst (λ (d : Config). HasNoCause d (view G left)) is (subst (λ (g : Flags). HasNoCause (config_of g) (view G left)) keeps ok))
      (λ sayable. subst (λ (d : Config). IsTransformOf d true (locations_of left) (view G left) output x) is
      (subst (λ (b : Bool). IsTransformOf (config_of f) b (locations_of left) (view G left) output x) on
      (subst (λ (g : Flags). IsTransformOf (config_of g) g.preserve_code_transform (locations_of left) (view G left) output x) keeps (transform sayable)))) told)
