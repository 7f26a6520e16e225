-- What looks up to itself as a whole does so in its parts.
use Rattle.std.proofs.Common.{◌≡◌, ◌∙◌, ℕ, Bool, List, Option, Some, None, refl, sym, ap}
use Rattle.std.specs.Prelude.{option_map}
use Rattle.wasm_forms.specs.Reading.{◌>>=◌}
use Rattle.wasm_forms.specs.declared.types.RawRef.{RawRef}
use Rattle.wasm_entries.specs.Record as entries
use Rattle.walrus_base.specs.Types.{HeapType, RefType, Ref}
use Rattle.walrus_base.specs.Operators.{Op}
use Rattle.walrus_code.specs.Names.{Lookup, named_heap, named_val}
use Rattle.walrus_constants.specs.Named.{named_const, named_initialiser, named_ref}
use Rattle.walrus_model.specs.Abstract.{Global, Table}
use Rattle.walrus_model.specs.Constants.{consts_of}
use Rattle.walrus_model.specs.Sections.{global_of, ref_of, table_of}
use Rattle.walrus_reading.specs.Stays.{ConstStays, GlobalStays, RefStays, TableStays, ValStays}
use Rattle.wasm_forms.proofs.Bind.{some_same as same}

-- ---- two steps, and what is made of what both found

pub record Both {X Y Z : Type 0} (o : Option X) (p : Option Y) (make : X → Y → Z) (z : Z) : Type 0 where
  pub first : X
  pub second : Y
  pub found_first : o ≡ Some first
  pub found_second : p ≡ Some second
  pub made : make first second ≡ z

both : {X Y Z : Type 0} (o : Option X) (p : Option Y) (make : X → Y → Z) (z : Z) → (o >>= λ x. p >>= λ y. Some (make x y)) ≡ Some z → Both o p make z
both None p make z e = absurd cc
both (Some x) None make z e = absurd cc
both (Some x) (Some y) make z e = record { first = x; second = y; found_first = refl; found_second = refl; made = same (make x y) z e }

-- ---- references

ref_in : (nullable : Bool) (o : Option (HeapType ℕ)) (r : RefType ℕ) → (o >>= λ heap. Some (let made : RefType ℕ = record { nullable = nullable; heap = heap } in made)) ≡ Some r
    → (o >>= λ heap. Some (Ref (record { nullable = nullable; heap = heap }))) ≡ Some (Ref r)
ref_in nullable None r e = absurd cc
ref_in nullable (Some heap) r e = ap (λ (x : RefType ℕ). Some (Ref x)) (same (record { nullable = nullable; heap = heap }) r e)

module _ (names : Lookup) where
  pub reference_stays : (r : RawRef) → RefStays names r → named_val names (Ref (ref_of r)) ≡ Some (Ref (ref_of r))
  reference_stays r stays = ref_in r.nullable (named_heap names (ref_of r).heap) (ref_of r) stays

  -- ---- initialisers

  const_in : (ops : List Op) (o : Option (List Op)) → (o >>= λ found. Some (Some found)) ≡ Some (Some ops) → o ≡ Some ops
  const_in ops None e = absurd cc
  const_in ops (Some found) e = same (Some found) (Some ops) e

  -- ---- tables

  table_parts : (t : entries.Table) → TableStays names t → RefStays names t.ty.element × (named_initialiser names (table_of t).initialiser ≡ Some (table_of t).initialiser)
  table_parts t stays =
      let x : Table = table_of t in
      let parts = both (named_ref names x.ty.element) (named_initialiser names x.initialiser)
      (λ element initialiser. let made : Table = record { origin = x.origin; ty = record { limits = x.ty.limits; element = element }; initialiser = initialiser } in made) x stays in (
        parts.found_first ∙ ap (λ (y : Table). Some y.ty.element) parts.made,
        parts.found_second ∙ ap (λ (y : Table). Some y.initialiser) parts.made,
      )

  pub element_stays : (t : entries.Table) → TableStays names t → RefStays names t.ty.element
  element_stays t stays = (table_parts t stays).0

  -- the initialiser, if there is one
  pub initial_stays : (t : entries.Table) (e : entries.Expression) → TableStays names t → t.initial ≡ Some e → ConstStays names e
  initial_stays t e stays is =
      let all = (table_parts t stays).1 in
      let own : named_initialiser names (Some (consts_of e)) ≡ Some (Some (consts_of e)) = sym (ap (λ (i : Option entries.Expression). named_initialiser names (option_map consts_of i)) is) ∙ all ∙ ap (λ (i : Option entries.Expression). Some (option_map consts_of i)) is in
      const_in (consts_of e) (named_const names (consts_of e)) own

  -- ---- globals

  global_parts : (g : entries.Global) → GlobalStays names g → ValStays names g.ty.value × (named_initialiser names (global_of g).initialiser ≡ Some (global_of g).initialiser)
  global_parts g stays =
      let x : Global = global_of g in
      let parts = both (named_val names x.ty.value) (named_initialiser names x.initialiser)
      (λ value initialiser. let made : Global = record { origin = x.origin; ty = record { value = value; mutable = x.ty.mutable; shared = x.ty.shared }; initialiser = initialiser } in made) x stays in (
        parts.found_first ∙ ap (λ (y : Global). Some y.ty.value) parts.made,
        parts.found_second ∙ ap (λ (y : Global). Some y.initialiser) parts.made,
      )

  pub value_stays : (g : entries.Global) → GlobalStays names g → ValStays names g.ty.value
  value_stays g stays = (global_parts g stays).0

  pub initialiser_stays : (g : entries.Global) → GlobalStays names g → ConstStays names g.initial
  initialiser_stays g stays = const_in (consts_of g.initial) (named_const names (consts_of g.initial)) (global_parts g stays).1
