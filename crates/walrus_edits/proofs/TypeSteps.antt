-- The groups of a module's types, and that those of a module that was parsed are never refused.
use Rattle.std.proofs.Common.{◌≡◌, ℕ, map, sym, ap, subst, ◌∙◌}
use Rattle.std.specs.Prelude.{Contains, Option, None, Some, IsSome, Err}
use Rattle.std.specs.Global.{Vec}
use Rattle.wasm_entries.specs.Record.{group}
use Rattle.wasm_entries.specs.declared.record.RawSub.{RawSub}
use Rattle.walrus.specs.Base.Arena.{item_at, items, live_places}
use Rattle.walrus.specs.Base.ModuleTypes.{type_slots}
use Rattle.walrus.specs.Base.Operators.{Types, type_item}
use Rattle.walrus.specs.Base.TypeDef.{TypeDef}
use Rattle.walrus.specs.Base.Types.{comp_heaps, sub_names}
use Rattle.walrus.specs.Base.ModuleTypesValue.{ModuleTypes}
use Rattle.walrus.proofs.Base.Lists.{Contains-append_2, Contains-map}
use Rattle.walrus_base.proofs.SameVal.{placed}
use Rattle.walrus.specs.Code.Names.{Lookup}
use Rattle.walrus_code.specs.declared.error.IrError.{IrError}
use Rattle.walrus_code.specs.declared.error.IrError.TheVariants as Ir
use Rattle.walrus.specs.Contents.View.{types_of}
use Rattle.walrus_groups.specs.Indexed.{HasExact, IndexesTypes, NumbersTypes}
use Rattle.walrus.specs.Items.Errors.{error_of_ir}
use Rattle.walrus.specs.Model.Abstract.{Abstract}
use Rattle.walrus.specs.Model.Config.{Config}
use Rattle.walrus.specs.Model.Refers.{named_by, type_names}
use Rattle.walrus.specs.Model.WellMade.{heaps_by}
use Rattle.walrus_model.proofs.Orders.{ordered_entries}
use Rattle.walrus.proofs.Model.Slots.{item_seen}
use Rattle.walrus.specs.Theorem.WellMade.{IsWellMade}
use Rattle.walrus.proofs.Theorem.EditSound.{well_made_is_sound}
use Rattle.walrus_edits.specs.TypeRecords.{GroupsTypes, NamesNone}

-- what is answered, by what the types are indexed as
pub ungrouped : (types : ModuleTypes) (names : Lookup) (e : IrError) → NumbersTypes names (type_slots types) → IndexesTypes (λ (raw : Vec (Vec RawSub)). map group raw.items) names (items (type_slots types)) (Err e)
    → GroupsTypes types (Err (error_of_ir e))
ungrouped types names Ir.NoIndex numbered h = record { names = names; numbered = numbered; lacks = h }
ungrouped types names Ir.NotWritable numbered h = h
ungrouped types names (Ir.Memory e) numbered h = tt
ungrouped types names Ir.Malformed numbered h = absurd h
ungrouped types names Ir.TooLarge numbered h = absurd h

-- ---- of a module that is well made

module _ (c : Config) (v : Abstract) (types : ModuleTypes) (same : v.types ≡ types_of types) (made : IsWellMade c v) where
  there : (i : ℕ) (x : TypeDef) → item_at (type_slots types) i ≡ Some x → v.types i ≡ Some x
  there i x at = ap (λ f. f i) same ∙ at

  pub none_exact : HasExact (items (type_slots types)) → ⊥
  none_exact (x, (h, (listed, heap, exact))) =
      let found = item_seen (type_slots types) x listed in
      exact (made.writable.heaps (Types, found.0) h (subst (λ o. Contains (heaps_by (λ (d : TypeDef). comp_heaps d.sub.comp) o) h) (sym (there found.0 x found.1)) heap))

  live : (t : ℕ) → IsSome (v.types t) → IsSome (item_at (type_slots types) t)
  live t h = subst (λ (f : ℕ → Option TypeDef). IsSome (f t)) same h

  pub none_lacks : NamesNone types → ⊥
  none_lacks n =
      let lack = n.lacks in
      let x = lack.0 in
      let t = lack.1.0 in
      let rest = lack.1.1 in
      let found = item_seen (type_slots types) x rest.0 in
      let named : Contains (type_names x) (type_item t) = Contains-append_2 (type_item t) (map type_item x.group) (map type_item (sub_names x.sub)) (Contains-map type_item t (sub_names x.sub) rest.1) in
      let is = ((well_made_is_sound c v).0 made).0.items (Types, found.0) in
      let t_live = live t (is.names (type_item t) (subst (λ (o : Option TypeDef). Contains (named_by type_names o) (type_item t)) (sym (there found.0 x found.1)) named)) in
      let k = placed (live_places (type_slots types)) t ((ordered_entries (type_slots types)).all t t_live) in
      none_some (n.names Types t) k.0 rest.2 (n.numbered t ∙ k.1) where
        none_some : (o : Option ℕ) (k : ℕ) → o ≡ None → o ≡ Some k → ⊥
        none_some None k e h = absurd (cc)
        none_some (Some j) k e h = absurd (cc)
