-- What emission answers, from the parts of a module and its custom sections: what is left, and each refusal.
use Rattle.std.proofs.Common.{◌≡◌, ℕ, Bool, List, [], ◌∷◌, refl, sym, ap, ◌∙◌, subst, inl}
use Rattle.std.specs.Prelude.{Contains, IfOk, OnOk, Result, Ok, Err, codes, map, ◌≢◌}
use Rattle.walrus_base.specs.Operators.{Item}
use Rattle.walrus_code.specs.Transform.{Transform}
use Rattle.walrus_items.specs.declared.custom.CustomSection.{Ghosts}
use Rattle.walrus_items.specs.declared.error.Error.{Error}
use Rattle.walrus_model.specs.Abstract.{Abstract, Custom}
use Rattle.walrus_model.specs.Config.{Config}
use Rattle.walrus_model.specs.Dead.{HasDead}
use Rattle.walrus_model.specs.Declared.{NothingUndeclared}
use Rattle.walrus_theorem.specs.Chain.{Leaves}
use Rattle.walrus_theorem.specs.Refused.{Refusal, Memory, DeadItem, NoIndex, TwoIndices, TooLarge, NotWritable, Caller, Another, RefusesToWrite}
use Rattle.walrus_theorem.specs.WellMade.{IsWellMade}
use Rattle.walrus_theorem.proofs.EditTops.{customs_stay}
use Rattle.walrus_theorem.proofs.SameItems.{with_own}
use Rattle.walrus_base.proofs.Lists.{Contains-map}
use Rattle.walrus_model.proofs.PipelineOps.{from_map}
use Rattle.walrus_writing.specs.Emitted.{IsEmitted, refusal_of, told}
use Rattle.walrus_module.specs.Answered.{WritesUnless}
use Rattle.walrus_module.specs.Following.{LeavesCustoms}
use Rattle.walrus_module.specs.Left.{ChangesElements, LeavesBy, but_customs}
use Rattle.walrus_module.specs.Meaning.{Meaning}
use Rattle.walrus_module.specs.View.{custom_of, meant, with_sections}
use Rattle.walrus_module.specs.declared.customs.ModuleCustomSections.{ModuleCustomSections}
use Rattle.walrus_module.specs.declared.entry.SectionEntry.{SectionEntry}
use Rattle.walrus_module.specs.declared.module.Module.{Module}
use Rattle.walrus_module.proofs.OwnSections.{undeclared_back}
use Rattle.walrus_module.proofs.WellWritten.{AnswersWell, well_refused, well_written}
use Rattle.walrus_module.proofs.WrittenSections.{same_names}

-- ---- other answers with the same refusal

pub left_refused : (X Y : Type 0) (v u : Abstract) (r : Refusal) → LeavesBy {X = X} v u (Err r) → LeavesBy {X = Y} v u (Err r)
left_refused X Y v u Memory h = h
left_refused X Y v u DeadItem h = h
left_refused X Y v u TwoIndices h = h
left_refused X Y v u NoIndex h = h
left_refused X Y v u NotWritable h = h
left_refused X Y v u TooLarge h = h
left_refused X Y v u Caller h = h
left_refused X Y v u Another h = h

pub well_refused_too : (X Y : Type 0) (Large Asked : Type 0) (P : X → Type 0) (Q : Y → Type 0) (r : Refusal) → WritesUnless Large Asked P (Err r) → WritesUnless Large Asked Q (Err r)
well_refused_too X Y Large Asked P Q Memory h = h
well_refused_too X Y Large Asked P Q TooLarge h = h
well_refused_too X Y Large Asked P Q Caller h = h
well_refused_too X Y Large Asked P Q DeadItem h = h
well_refused_too X Y Large Asked P Q TwoIndices h = h
well_refused_too X Y Large Asked P Q NoIndex h = h
well_refused_too X Y Large Asked P Q NotWritable h = h
well_refused_too X Y Large Asked P Q Another h = h

-- what is written, or refused for another cause, has the segment; w is what is written
pub written_leaves_too : {X : Type 0} (A : Type 0) (c : Config) (v u w : Abstract) (result : Result X Refusal) → Leaves v u → (HasDead w → ⊥) → RefusesToWrite A c w result → LeavesBy v u result
written_leaves_too A c v u w (Ok x) leaves alive r = leaves
written_leaves_too A c v u w (Err Memory) leaves alive r = inl leaves
written_leaves_too A c v u w (Err DeadItem) leaves alive r = absurd (alive r)
written_leaves_too A c v u w (Err TwoIndices) leaves alive r = leaves
written_leaves_too A c v u w (Err NoIndex) leaves alive r = leaves
written_leaves_too A c v u w (Err NotWritable) leaves alive r = leaves
written_leaves_too A c v u w (Err TooLarge) leaves alive r = leaves
written_leaves_too A c v u w (Err Caller) leaves alive r = leaves
written_leaves_too A c v u w (Err Another) leaves alive r = leaves

-- nothing is undeclared with other custom sections
pub nothing_on : (v : Abstract) (customs : List Custom) (roots : List Item) → NothingUndeclared v → NothingUndeclared (with_own v customs roots)
nothing_on v customs roots nothing = λ f u. nothing f (undeclared_back v customs roots f u)

pub on_ok_always : {X E : Type 0} (P : Type 0) (result : Result X E) → P → OnOk result P
on_ok_always P (Ok x) h = h
on_ok_always P (Err e) h = tt

-- ---- but for its custom sections

module _ {V : Type 0} {O : V → Type 0} (old left : Module (SectionEntry V O)) (others : ChangesElements old left) (customs : ModuleCustomSections (SectionEntry V O)) where
  pub stays_but : but_customs old (record left { customs = customs }) ≡ left
  stays_but = ap (λ (m : Module (SectionEntry V O)). record m { customs = old.customs }) others ∙ sym others

  pub others_but : ChangesElements old (but_customs old (record left { customs = customs }))
  others_but = ap (λ (m : Module (SectionEntry V O)). record m { customs = old.customs }) others

-- ---- well made with the sections that are left

by_names : (ms : List Meaning) → map (λ (c : Custom). c.name) (map custom_of ms) ≡ map (λ (s : Meaning). s.name) ms
by_names [] = refl
by_names (s ∷ ms) = ap (λ (l : List (List ℕ)). s.name ∷ l) (by_names ms)

named_so : (P : List ℕ → Type 0) (ss ts : List Meaning) → map (λ (s : Meaning). s.name) ts ≡ map (λ (s : Meaning). s.name) ss → ((s : Custom) → Contains (map custom_of ss) s → P s.name) → (s : Custom) → Contains (map custom_of ts) s → P s.name
named_so P ss ts same h s at =
    let there : Contains (map (λ (c : Custom). c.name) (map custom_of ss)) s.name =
    subst (λ (l : List (List ℕ)). Contains l s.name) (by_names ts ∙ same ∙ sym (by_names ss)) (Contains-map (λ (c : Custom). c.name) s (map custom_of ts) at) in
    let found = from_map (λ (c : Custom). c.name) s.name (map custom_of ss) there in
    subst P found.2 (h found.0 found.1)

module _ {V : Type 0} {O : V → Type 0} (G : (v : V) → Ghosts (O v)) where
  pub customs_keep_well : {X E : Type 0} (hands : Bool) (Tells : X → Transform → Type 0) (Told : Transform → Type 0) (old new : ModuleCustomSections (SectionEntry V O)) (r : Result X E) → LeavesCustoms G hands Tells Told old new r
      → (c : Config) (v : Abstract) → IsWellMade c (with_sections v (meant G old)) → IsWellMade c (with_sections v (meant G new))
  customs_keep_well hands Tells Told old new r leaves c v made =
      (customs_stay c (with_sections v (meant G old)) (with_sections v (meant G new)) made refl
      (named_so (λ name. (name ≢ codes "name") × (name ≢ codes "producers")) (meant G old) (meant G new) (same_names G hands Tells Told old new r leaves) made.customs)
      (λ x at (no : ⊥). absurd no)).made

-- what is answered for a well-made module in which nothing is undeclared
pub answers_made : {X : Type 0} (seen : X → List ℕ) (A : Type 0) (c : Config) (u : Abstract) (result : Result X Error) → IfOk result (λ x. IsEmitted c u (seen x)) → RefusesToWrite A c u (told result) → IsWellMade c u → NothingUndeclared u
    → AnswersWell seen A c u (told result)
answers_made seen A c u (Ok x) emitted refused made nothing = well_written seen A c u (seen x) made nothing emitted
answers_made seen A c u (Err e) emitted refused made nothing = well_refused seen A c u (refusal_of e) made refused
