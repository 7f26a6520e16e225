-- The rules on types are the same on records, and what a type names is there.
use Rattle.std.proofs.Common.{inl, inr, ◌≡◌, ◌⊎◌, ℕ, ◌+◌, ◌-◌, ◌<◌, ◌≤◌, List, length, get_or, take, sym, ap, subst, ◌∙◌, arith}
use Rattle.std.specs.Prelude.{Some, Contains, All, slice_get}
use Rattle.std.specs.List.{range_with_len}
use Rattle.std.proofs.lemmas.Bool.{cases_lt}
use Rattle.std.proofs.lemmas.List.Elements.{Contains-get_or, All-contains, All-append}
use Rattle.std.proofs.lemmas.Option.{slice_get-get_or}
use Rattle.wasm_entries.specs.Record.{Group, Sub}
use Rattle.wasm_frames.specs.Record as wire
use Rattle.wasm_wire.specs.Indices as wire_indices
use Rattle.wasm_wire.specs.Indices.{SubRefers}
use Rattle.walrus_base.specs.Types.{SubType, ValType, comp_names, sub_names, val_names}
use Rattle.walrus_base.specs.TypeDef.{TypeDef, type_params}
use Rattle.walrus_groups.specs.Groups.{comp_of, sub_of, types_from}
use Rattle.walrus_model.specs.Rules.{TypesRefer, IsEarlier}
use Rattle.walrus_model.specs.Sections.{Said, types_of, module_of}
use Rattle.walrus_base.proofs.Standing.{got_in}
use Rattle.walrus_groups.proofs.TypeLists.{IsMember, type_is_member, group_fits, types_count as type_count, count, in_range, member_there}
use Rattle.walrus_theorem.proofs.TypesRefer.{member_refers, comp_below, comp_holds, params_below}
use Rattle.walrus_base.proofs.RangeBounds.{range_in as range_bounds}

-- ---- from records to the module

-- a group of numbers one behind another, and a number before its end
earlier_by : (start n u : ℕ) (group : List ℕ) → group ≡ range_with_len start n → u < start + n → (u < start) ⊎ (start ≤ u) → IsEarlier (λ i j. i < j) group u
earlier_by start n u group is within (inl before) =
    inr (λ t c. let b = range_bounds start n t (subst (λ (l : List ℕ). Contains l t) is c) in omega (arith, before, b.0))
earlier_by start n u group is within (inr behind) =
    let place : start + (u - start) ≡ u = omega (arith, behind) in
    inl (subst (λ (l : List ℕ). Contains l u) (sym is) (subst (λ (p : ℕ). Contains (range_with_len start n) p) place (in_range start n (u - start) (omega (arith, within, behind)))))

module _ (gs : List Group) (refer : wire_indices.TypesRefer gs) (t : ℕ) (x : TypeDef) (e : slice_get (types_from 0 gs) t ≡ Some x) where
  m : IsMember 0 gs t x
  m = type_is_member gs t x e

  start : ℕ
  start = count (take m.number gs)

  end : ℕ
  end = start + length m.group

  is_refering : wire_indices.SubRefers end t m.sub
  unfolding start end
  is_refering = member_refers gs refer t x m

  pub one_at : length x.sub.supertypes ≤ 1
  one_at = subst (λ (s : SubType ℕ). length s.supertypes ≤ 1) (sym m.sub_is) is_refering.one_supertype

  pub supertypes_at : All (λ u. u < t) x.sub.supertypes
  supertypes_at = subst (λ (s : SubType ℕ). All (λ u. u < t) s.supertypes) (sym m.sub_is) is_refering.supertypes

  names_at : All (λ u. u < end) (comp_names x.sub.comp)
  names_at = subst (λ (s : SubType ℕ). All (λ u. u < end) (comp_names s.comp)) (sym m.sub_is) (comp_below end m.sub.comp is_refering.others)

  group_at : x.group ≡ range_with_len start (length m.group)
  unfolding start
  group_at = m.group_is ∙ ap (λ (n : ℕ). range_with_len n (length m.group)) (let p : 0 + count (take m.number gs) ≡ count (take m.number gs) = omega arith in p)

  pub earlier_at : (u : ℕ) → Contains (comp_names x.sub.comp) u → IsEarlier (λ i j. i < j) x.group u
  unfolding end
  earlier_at u c =
      let within : u < start + length m.group = All-contains (λ n. n < end) (comp_names x.sub.comp) u names_at c in
      earlier_by start (length m.group) u x.group group_at within (cases_lt u start)

  end_fits : end ≤ length (types_from 0 gs)
  unfolding start end
  end_fits =
      let fits : count (take m.number gs) + length m.group ≤ count gs = group_fits gs m.number m.group m.group_there in
      omega (arith, fits, type_count 0 gs)

  -- all that a type names is among the types
  pub group_live : All (λ u. u < length (types_from 0 gs)) x.group
  unfolding end
  group_live = subst (λ (l : List ℕ). All (λ u. u < length (types_from 0 gs)) l) (sym group_at) (λ k d lt.
      let b = range_bounds start (length m.group) (get_or (range_with_len start (length m.group)) k d) (Contains-get_or (range_with_len start (length m.group)) k d lt) in
      omega (arith, b.1, end_fits))

  pub subs_live : All (λ u. u < length (types_from 0 gs)) (sub_names x.sub)
  subs_live = All-append (λ u. u < length (types_from 0 gs)) x.sub.supertypes (comp_names x.sub.comp)
      (λ k d lt. let a = supertypes_at k d lt in omega (arith, a, (got_in (types_from 0 gs) t x e).0))
      (λ k d lt. let a = names_at k d lt in omega (arith, a, end_fits))

  pub params_live : (k : ℕ) (v : ValType ℕ) → slice_get (type_params x.sub.comp) k ≡ Some v → All (λ u. u < length (types_from 0 gs)) (val_names v)
  params_live k v g = λ i d lt.
      let a = params_below end x.sub.comp names_at k v g i d lt in
      omega (arith, a, end_fits)

pub types_hold : (s : wire.Module) (bodies : List Said) → wire_indices.TypesRefer s.types → TypesRefer (λ space i j. i < j) (module_of s bodies)
types_hold s bodies refer = record {
  one_supertype = λ t x e. one_at s.types refer t x e;
  supertypes = λ t u x e n. All-contains (λ v. v < t) x.sub.supertypes u (supertypes_at s.types refer t x e) n;
  others = λ t u x e n. earlier_at s.types refer t x e u n;
}

-- ---- and back

-- what is of an earlier group or of the own one stands before the end of it
before_end : (first n i u : ℕ) (group : List ℕ) → group ≡ range_with_len first n → i < n → IsEarlier (λ a b. a < b) group u → u < first + n
before_end first n i u group is lt (inl own) = (range_bounds first n u (subst (λ (l : List ℕ). Contains l u) is own)).1
before_end first n i u group is lt (inr earlier) =
    let before : u < first + i = earlier (first + i) (subst (λ (l : List ℕ). Contains l (first + i)) (sym is) (in_range first n i lt)) in
    omega (arith, before, lt)

module _ (s : wire.Module) (bodies : List Said) (refer : TypesRefer (λ space i j. i < j) (module_of s bodies)) where
  -- a member of a group
  member_at : (number : ℕ) (g : Group) (at : ℕ) (y : Sub) → slice_get s.types number ≡ Some g → slice_get g at ≡ Some y → at < length g → SubRefers (count (take number s.types) + length g) (count (take number s.types) + at) y
  member_at number g at y g_there y_there lt =
      let first : ℕ = count (take number s.types) in
      let index : ℕ = first + at in
      let x : TypeDef = record { group = range_with_len (0 + first) (length g); sub = sub_of y } in
      let is : types_of s index ≡ Some x = member_there 0 s.types number g at y g_there y_there in
      let whole : range_with_len (0 + first) (length g) ≡ range_with_len first (length g) = ap (λ (n : ℕ). range_with_len n (length g)) (let p : 0 + first ≡ first = omega arith in p) in
      record {
        one_supertype = refer.one_supertype index x is;
        supertypes = λ k d l. refer.supertypes index (get_or y.supers k d) x is (Contains-get_or y.supers k d l);
        others = comp_holds (first + length g) y.comp (λ k d l.
            let u : ℕ = get_or (comp_names (comp_of y.comp)) k d in
            before_end first (length g) at u x.group whole lt (refer.others index u x is (Contains-get_or (comp_names (comp_of y.comp)) k d l)));
      }

  pub types_refer : wire_indices.TypesRefer s.types
  types_refer = λ i d lt. λ j e l. member_at i (get_or s.types i d) j (get_or (get_or s.types i d) j e) (slice_get-get_or s.types i d lt) (slice_get-get_or (get_or s.types i d) j e l) l
