-- The rules on types of functions, of tags and of the start function are the same on records.
use Rattle.std.proofs.Common.{◌≡◌, ℕ, List, [], ◌∷◌, map, length, refl, sym, ap, ap₂, subst, ◌∙◌}
use Rattle.std.specs.Prelude.{Option, Some, None, slice_get, option_map}
use Rattle.std.proofs.lemmas.List.Elements.{recursion_from_All, All-from_recursion}
use Rattle.wasm_entries.specs.Record as entries
use Rattle.wasm_entries.specs.Record.{Sub, Comp}
use Rattle.wasm_frames.specs.Record as wire
use Rattle.wasm_wire.specs.Context.{context_of}
use Rattle.wasm_wire.specs.Rules as records
use Rattle.walrus_base.specs.Types.{SubType, Func}
use Rattle.walrus_base.specs.TypeDef.{TypeDef}
use Rattle.walrus_code.specs.FromRaw.{val_of}
use Rattle.walrus_groups.specs.Groups.{comp_of, sub_of, types_from}
use Rattle.walrus_model.specs.Abstract.{Function, Tag}
use Rattle.walrus_model.specs.Rules.{IsFunctionComp, IsFunctionType, IsEmptyFunctionType}
use Rattle.walrus_model.specs.Sections.{Said, types_of, functions_of, tags_of, module_of}
use Rattle.walrus_base.proofs.Standing.{some_inj}
use Rattle.walrus_theorem.proofs.TextShaped.{all_at}
use Rattle.walrus_theorem.proofs.SpelledFits.{all_each}
use Rattle.walrus_theorem.proofs.Images.{types_look, functions_look, tags_look}
use Rattle.walrus_bodies.proofs.Lists.{looked, looked_at}

-- ---- one type

comp_by : (c : Comp) → records.IsFunctionComp c → IsFunctionComp (comp_of c)
comp_by (entries.Function t) h = tt
comp_by (entries.Struct fields) h = absurd h
comp_by (entries.Array field) h = absurd h

comp_was : (c : Comp) → IsFunctionComp (comp_of c) → records.IsFunctionComp c
comp_was (entries.Function t) h = tt
comp_was (entries.Struct fields) h = absurd h
comp_was (entries.Array field) h = absurd h

empty_by : (c : Comp) → records.IsEmptyComp c → comp_of c ≡ Func [] []
empty_by (entries.Function t) h = ap₂ (λ ps rs. Func (map val_of ps) (map val_of rs)) h.0 h.1
empty_by (entries.Struct fields) h = absurd h
empty_by (entries.Array field) h = absurd h

none_mapped : {A B : Type 0} (f : A → B) (xs : List A) → map f xs ≡ [] → xs ≡ []
none_mapped f [] e = refl
none_mapped f (x ∷ xs) e = absurd (cc)

empty_was : (c : Comp) → comp_of c ≡ Func [] [] → records.IsEmptyComp c
empty_was (entries.Function t) e =
    let params : map val_of t.params ≡ [] = cc in
    let results : map val_of t.results ≡ [] = cc in
    (none_mapped val_of t.params params, none_mapped val_of t.results results)
empty_was (entries.Struct fields) e = absurd (cc)
empty_was (entries.Array field) e = absurd (cc)

-- the type of an index in the module, and in the records
abbrev Same : Option TypeDef → Option Sub → Type 0
Same o y = option_map (λ (x : TypeDef). x.sub) o ≡ option_map sub_of y

sub_of_some : (x : TypeDef) (o : Option TypeDef) (y : Sub) → o ≡ Some x → Same o (Some y) → x.sub ≡ sub_of y
sub_of_some x o y is same = some_inj x.sub (sub_of y) (sym (ap (option_map (λ (x : TypeDef). x.sub)) is) ∙ same)

some_is_none : (x : TypeDef) (o : Option TypeDef) → o ≡ Some x → Same o None → ⊥
some_is_none x o is same = let p : Some x.sub ≡ None = sym (ap (option_map (λ (x : TypeDef). x.sub)) is) ∙ same in cc

function_by : (o : Option TypeDef) (y : Option Sub) → Same o y → records.IsFunction y → (x : TypeDef) × (o ≡ Some x) × IsFunctionComp x.sub.comp
function_by o None same h = absurd h
function_by None (Some y) same h = absurd (cc)
function_by (Some x) (Some y) same h = (x, refl, subst (λ (z : SubType ℕ). IsFunctionComp z.comp) (sym (some_inj x.sub (sub_of y) same)) (comp_by y.comp h))

function_was : (o : Option TypeDef) (y : Option Sub) → Same o y → (x : TypeDef) × (o ≡ Some x) × IsFunctionComp x.sub.comp → records.IsFunction y
function_was o None same (x, is, h) = some_is_none x o is same
function_was o (Some y) same (x, is, h) = comp_was y.comp (subst (λ (z : SubType ℕ). IsFunctionComp z.comp) (sub_of_some x o y is same) h)

start_by : (o : Option TypeDef) (y : Option Sub) → Same o y → records.IsEmpty y → (x : TypeDef) × (o ≡ Some x) × (x.sub.comp ≡ Func [] [])
start_by o None same h = absurd h
start_by None (Some y) same h = absurd (cc)
start_by (Some x) (Some y) same h = (x, refl, ap (λ (z : SubType ℕ). z.comp) (some_inj x.sub (sub_of y) same) ∙ empty_by y.comp h)

start_was : (o : Option TypeDef) (y : Option Sub) → Same o y → (x : TypeDef) × (o ≡ Some x) × (x.sub.comp ≡ Func [] []) → records.IsEmpty y
start_was o None same (x, is, h) = some_is_none x o is same
start_was o (Some y) same (x, is, h) = empty_was y.comp (sym (ap (λ (z : SubType ℕ). z.comp) (sub_of_some x o y is same)) ∙ h)

-- ---- all of them

module _ (s : wire.Module) (bodies : List Said) where
  abbrev flat : List Sub
  flat = (context_of s).types

  same_at : (t : ℕ) → Same (types_of s t) (slice_get flat t)
  same_at t = looked_at (λ (x : TypeDef). x.sub) sub_of (types_from 0 s.types) flat (types_look s) t

  abbrev Typed : ℕ → Type 0
  Typed t = IsFunctionType (module_of s bodies) t

  typed_by : (t u : ℕ) → t ≡ u → records.IsFunction (slice_get flat u) → Typed t
  typed_by t u e h = subst Typed (sym e) (function_by (types_of s u) (slice_get flat u) (same_at u) h)

  typed_was : (u t : ℕ) → u ≡ t → Typed t → records.IsFunction (slice_get flat u)
  typed_was u t e h = function_was (types_of s u) (slice_get flat u) (same_at u) (subst Typed (sym e) h)

  pub functions_typed : length bodies ≡ length s.functions → records.AreFunctionTypes flat (context_of s).functions → (i : ℕ) (f : Function) → slice_get (functions_of s bodies) i ≡ Some f → Typed f.ty
  functions_typed many h i f e =
      all_at (λ (x : Function). Typed x.ty) (functions_of s bodies) i f
      (looked (λ (x : Function). x.ty) (λ (t : ℕ). t) (λ t. records.IsFunction (slice_get flat t)) (λ (x : Function). Typed x.ty) (λ x t. typed_by x.ty t) (functions_of s bodies) (context_of s).functions (functions_look s bodies many) (recursion_from_All (λ t. records.IsFunction (slice_get flat t)) (context_of s).functions h)) e

  pub functions_were : length bodies ≡ length s.functions → ((i : ℕ) (f : Function) → slice_get (functions_of s bodies) i ≡ Some f → Typed f.ty) → records.AreFunctionTypes flat (context_of s).functions
  functions_were many h =
      All-from_recursion (λ t. records.IsFunction (slice_get flat t)) (context_of s).functions
      (looked (λ (t : ℕ). t) (λ (x : Function). x.ty) (λ (x : Function). Typed x.ty) (λ t. records.IsFunction (slice_get flat t)) (λ t x. typed_was t x.ty) (context_of s).functions (functions_of s bodies) (sym (functions_look s bodies many)) (all_each (λ (x : Function). Typed x.ty) (functions_of s bodies) h))

  pub tags_typed : records.AreFunctionTypes flat (context_of s).tags → (i : ℕ) (f : Tag) → slice_get (tags_of s) i ≡ Some f → Typed f.ty
  tags_typed h i f e =
      all_at (λ (x : Tag). Typed x.ty) (tags_of s) i f
      (looked (λ (x : Tag). x.ty) (λ (t : ℕ). t) (λ t. records.IsFunction (slice_get flat t)) (λ (x : Tag). Typed x.ty) (λ x t. typed_by x.ty t) (tags_of s) (context_of s).tags (tags_look s) (recursion_from_All (λ t. records.IsFunction (slice_get flat t)) (context_of s).tags h)) e

  pub tags_were : ((i : ℕ) (f : Tag) → slice_get (tags_of s) i ≡ Some f → Typed f.ty) → records.AreFunctionTypes flat (context_of s).tags
  tags_were h =
      All-from_recursion (λ t. records.IsFunction (slice_get flat t)) (context_of s).tags
      (looked (λ (t : ℕ). t) (λ (x : Tag). x.ty) (λ (x : Tag). Typed x.ty) (λ t. records.IsFunction (slice_get flat t)) (λ t x. typed_was t x.ty) (context_of s).tags (tags_of s) (sym (tags_look s)) (all_each (λ (x : Tag). Typed x.ty) (tags_of s) h))

  -- ---- start

  abbrev Starts : ℕ → Type 0
  Starts t = IsEmptyFunctionType (module_of s bodies) t

  type_by : (i : ℕ) (f : Function) (o : Option ℕ) → option_map (λ (x : Function). x.ty) (slice_get (functions_of s bodies) i) ≡ option_map (λ (t : ℕ). t) o → slice_get (functions_of s bodies) i ≡ Some f → records.IsEmptyType flat o → Starts f.ty
  type_by i f None same e h = absurd h
  type_by i f (Some t) same e h =
      let is : f.ty ≡ t = some_inj f.ty t (sym (ap (option_map (λ (x : Function). x.ty)) e) ∙ same) in
      subst Starts (sym is) (start_by (types_of s t) (slice_get flat t) (same_at t) h)

  pub start_holds : length bodies ≡ length s.functions → (start : Option ℕ) → records.StartHolds flat (context_of s).functions start → (i : ℕ) (f : Function) → start ≡ Some i → slice_get (functions_of s bodies) i ≡ Some f → Starts f.ty
  start_holds many None h i f e at = absurd (cc)
  start_holds many (Some j) h i f e at =
      let same : j ≡ i = some_inj j i e in
      type_by i f (slice_get (context_of s).functions i) (looked_at (λ (x : Function). x.ty) (λ (t : ℕ). t) (functions_of s bodies) (context_of s).functions (functions_look s bodies many) i) at
      (subst (λ (k : ℕ). records.IsEmptyType flat (slice_get (context_of s).functions k)) same h)

  type_was : (o : Option Function) (k : Option ℕ) → option_map (λ (x : Function). x.ty) o ≡ option_map (λ (t : ℕ). t) k → (f : Function) → o ≡ Some f → Starts f.ty → records.IsEmptyType flat k
  type_was o None same f e h = let p : Some f.ty ≡ None = sym (ap (option_map (λ (x : Function). x.ty)) e) ∙ same in absurd (cc)
  type_was o (Some t) same f e h =
      let is : f.ty ≡ t = some_inj f.ty t (sym (ap (option_map (λ (x : Function). x.ty)) e) ∙ same) in
      start_was (types_of s t) (slice_get flat t) (same_at t) (subst Starts is h)

  pub start_held : length bodies ≡ length s.functions → (start : Option ℕ) → ((i : ℕ) → start ≡ Some i → (f : Function) × (slice_get (functions_of s bodies) i ≡ Some f) × Starts f.ty) → records.StartHolds flat (context_of s).functions start
  start_held many None h = tt
  start_held many (Some i) h =
      let f = h i refl in
      type_was (slice_get (functions_of s bodies) i) (slice_get (context_of s).functions i) (looked_at (λ (x : Function). x.ty) (λ (t : ℕ). t) (functions_of s bodies) (context_of s).functions (functions_look s bodies many) i) f.0 f.1 f.2
