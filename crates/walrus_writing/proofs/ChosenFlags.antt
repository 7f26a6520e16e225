-- An active segment leaves its table out exactly where it may: in the module that is written as in the one in memory.
use Rattle.wasm_entries.specs.Record as entries
use Rattle.std.proofs.Common.{◌≡◌, ℕ, refl, sym, ap, ◌∙◌, subst}
use Rattle.std.specs.Prelude.{Option, Some, None, All}
use Rattle.std.proofs.lemmas.List.Elements.{All-weaker}
use Rattle.walrus_base.specs.Operators.{Tables}
use Rattle.walrus_bodies.specs.declared.features.Features.{Features}
use Rattle.walrus_contents.specs.View.{parts_view}
use Rattle.walrus_contents.specs.declared.parts.Parts.{Parts}
use Rattle.walrus_model.specs.Abstract.{Abstract, Table}
use Rattle.walrus_model.specs.Renaming.{Renaming, renamed_table}
use Rattle.walrus_model.specs.Same.{BothAnd}
use Rattle.walrus_model.proofs.Indices.{planned_live}
use Rattle.walrus_theorem.specs.Spelling.{IsChosen, IsNarrow}
use Rattle.walrus_writing.specs.Elements.{ChoosesFlag, ChoosesTable}
use Rattle.walrus_writing.specs.Records.{Records}
use Rattle.walrus_writing.proofs.CarriedOver.{carried_over}
use Rattle.walrus_writing.proofs.WrittenAs.{module_said, number_is, renaming_of}

-- ---- a table and the same one renamed are 32-bit alike

abbrev AreSame : Renaming → Option Table → Option Table → Type 0
AreSame r x y = BothAnd (λ a b. b ≡ renamed_table r a) x y

narrow_on : (r : Renaming) (x y : Option Table) → AreSame r x y → IsNarrow x → IsNarrow y
narrow_on r (Some a) (Some b) same is = ap (λ (t : Table). t.ty.limits.wide) same ∙ is
narrow_on r (Some a) None same is = absurd same
narrow_on r None y same is = absurd is

narrow_back : (r : Renaming) (x y : Option Table) → AreSame r x y → IsNarrow y → IsNarrow x
narrow_back r (Some a) (Some b) same is = sym (ap (λ (t : Table). t.ty.limits.wide) same) ∙ is
narrow_back r (Some a) None same is = absurd same
narrow_back r None y same is = absurd same

-- ---- the records

module _ {p : Parts} {features : Features} (r : Records p features) where
  abbrev before : Abstract
  before = parts_view p

  abbrev after : Abstract
  after = module_said r

  -- the table of an index
  same_there : (t index : ℕ) → r.names Tables t ≡ Some index → AreSame (renaming_of r) (before.tables t) (after.tables index)
  same_there t index e =
      subst (λ (j : ℕ). AreSame (renaming_of r) (before.tables t) (after.tables j)) (sym (number_is r Tables t index e))
      ((carried_over r).tables.same t (planned_live r.numbered r.is_plan Tables t index e))

  mode_chosen : (m : entries.ElementMode) (items : entries.Items) → ChoosesTable r.names before.tables m items → IsChosen after m items
  mode_chosen (entries.ActiveElements None offset) items h =
      (refl, narrow_on (renaming_of r) (before.tables h.0) (after.tables 0) (same_there h.0 0 h.1) h.2.1, h.2.2)
  mode_chosen (entries.ActiveElements (Some index) offset) items h =
      λ short. h.2 (short.0, narrow_back (renaming_of r) (before.tables h.0) (after.tables index) (same_there h.0 index h.1) short.1, short.2)
  mode_chosen entries.PassiveElements items h = tt
  mode_chosen entries.DeclaredElements items h = tt

  -- each record of a segment has the flag of its one spelling
  pub flags_chosen : All (λ (e : entries.Element). IsChosen after e.mode e.items) r.elements
  flags_chosen = All-weaker (ChoosesFlag r.names before.tables) (λ e. IsChosen after e.mode e.items) (λ e. mode_chosen e.mode e.items) r.elements r.elements_chosen
