-- What is known of each function whose body was read.
use Rattle.std.proofs.Common.{inl, inr, ◌≡◌, ◌⊎◌, ⊎_elim, ℕ, zero, suc, ◌+◌, ◌<◌, Bool, true, false, List, [], ◌∷◌, ◌++◌, length, map, refl, sym, ap, subst, ◌∙◌, arith}
use Rattle.std.specs.Prelude.{Option, Some, None, IsSome, Contains, All, slice_get, zip, flat_map, replicate, option_to_list, nat_lt, unwrap_or, if◌then◌else◌}
use Rattle.std.specs.List.{AllByRecursion, AllZip}
use Rattle.std.proofs.lemmas.Bool.{ltb-true}
use Rattle.std.proofs.lemmas.List.{length-append}
use Rattle.std.proofs.lemmas.List.Elements.{Contains-append_cases, All-contains, All-map}
use Rattle.wasm_forms.specs.Reading.{◌>>=◌}
use Rattle.wasm_forms.specs.declared.types.RawVal.{RawVal}
use Rattle.wasm_entries.specs.declared.record.RawDesc.{RawDesc}
use Rattle.wasm_entries.specs.declared.record.RawDesc.TheVariants as descs
use Rattle.wasm_entries.specs.Record as entries
use Rattle.wasm_frames.specs.Record as wire
use Rattle.wasm_wire.specs.Indices as wire_indices
use Rattle.walrus_base.specs.Types.{ValType, Func, val_names}
use Rattle.walrus_base.specs.TypeDef.{TypeDef, type_params}
use Rattle.walrus_base.specs.Operators.{Space, Types, Functions, Tables, Memories, Tags, Globals, Elements, DataSegments, Item, OfType, Block, Op, type_item, names_of, locals_of}
use Rattle.walrus_code.specs.FromRaw.{val_of, ops_of}
use Rattle.walrus_code.specs.Names.{Lookup, named_val, named_ops}
use Rattle.walrus_bodies.specs.Blocks.{block_holds, args_hold}
use Rattle.walrus_bodies.specs.Body.{BodyReads, declared_types}
use Rattle.walrus_bodies.specs.FunctionTypes.{is_function_def}
use Rattle.walrus_bodies.specs.declared.features.Features.{Features}
use Rattle.walrus_functions.specs.Handlers.{params_of}
use Rattle.walrus_functions.specs.ReadFunction.{locals_from}
use Rattle.walrus_bodies.proofs.LawNamed.{each_append}
use Rattle.walrus_groups.specs.Groups.{types_from}
use Rattle.walrus_model.specs.Abstract.{Abstract, Body, ImportedFunction, Function}
use Rattle.walrus_model.specs.Live.{Has, IsLive}
use Rattle.walrus_model.specs.Names.{body_of, body_of_function, body_of_kind}
use Rattle.walrus_model.specs.Reads.{ReadsBodyWith, below, declared, arity, context_with, is_function}
use Rattle.walrus_model.specs.Refers.{named_by, function_names, local_names, IsUsed}
use Rattle.walrus_model.specs.Rules.{IsFunctionComp}
use Rattle.walrus_model.specs.Sections.{Said, types_of, imported, imported_function, function_types, function_with, body_with, functions_of, tables_of, memories_of, tags_of, globals_of, elements_of, module_of}
use Rattle.walrus_base.proofs.Lists.{Contains-uncons, Contains-none}
use Rattle.walrus_base.proofs.Standing.{none_there, some_of, some_inj}
use Rattle.walrus_theorem.proofs.SpelledReads.{all_such}
use Rattle.walrus_theorem.proofs.TextShaped.{all_at}
use Rattle.walrus_base.proofs.Lookups.{there, range_within}
use Rattle.walrus_code.proofs.Named.{val_again, ops_again}
use Rattle.walrus_model.proofs.NamedFound.{val_found, names_found, locals_found}
use Rattle.walrus_theorem.proofs.TypeRules.{params_live}
use Rattle.wasm_forms.proofs.Bind.{bind_some as through}
use Rattle.walrus_groups.proofs.OrderWhole.{each_passes as passes}
use Rattle.walrus_theorem.proofs.EditSound.{comp_said as comp_is}

-- ---- lists

got_append : {A : Type 0} (P : A → Type 0) (xs ys : List A) → ((k : ℕ) (v : A) → slice_get xs k ≡ Some v → P v) → ((k : ℕ) (v : A) → slice_get ys k ≡ Some v → P v) → (k : ℕ) (v : A) → slice_get (xs ++ ys) k ≡ Some v → P v
got_append P [] ys p q k v e = q k v e
got_append P (x ∷ xs) ys p q zero v e = p 0 v e
got_append P (x ∷ xs) ys p q (suc k) v e = got_append P xs ys (λ j w h. p (suc j) w h) q k v e

got_replicate : {A : Type 0} (n : ℕ) (x : A) (k : ℕ) (v : A) → slice_get (replicate n x) k ≡ Some v → x ≡ v
got_replicate zero x k v e = cc
got_replicate (suc n) x zero v e = some_inj x v e
got_replicate (suc n) x (suc k) v e = got_replicate n x k v e

in_flat_map : {A B : Type 0} (f : A → List B) (P : B → Type 0) (xs : List A) → ((x : A) (y : B) → Contains (f x) y → P y) → (y : B) → Contains (flat_map f xs) y → P y
in_flat_map f P [] h y c = absurd (Contains-none y c)
in_flat_map f P (x ∷ xs) h y c = ⊎_elim (h x y) (in_flat_map f P xs h y) (Contains-append_cases (f x) (flat_map f xs) y c)

-- ---- what was declared

none_got : {A : Type 0} (xs : List A) (k : ℕ) (v : A) → [] ≡ xs → slice_get xs k ≡ Some v → ⊥
none_got xs k v e h = let p : None ≡ Some v = ap (λ l. slice_get l k) e ∙ h in cc

-- what holds of each type that was looked up holds of each declared type
types_hold : (names : Lookup) (P : ValType ℕ → Type 0) → ((a v : ValType ℕ) → named_val names a ≡ Some v → P v) → (ds : List (ℕ × RawVal)) (types : List (ValType ℕ)) → declared_types names ds ≡ Some types → (k : ℕ) (v : ValType ℕ) → slice_get types k ≡ Some v → P v
types_hold names P H [] types e k v h = absurd (none_got types k v (some_inj [] types e) h)
types_hold names P H (d ∷ ds) types e k v h =
    let q : (w : ValType ℕ) × (named_val names (val_of d.1) ≡ Some w) × ((declared_types names ds >>= λ others. Some (replicate d.0 w ++ others)) ≡ Some types) =
    through (named_val names (val_of d.1)) (λ w. declared_types names ds >>= λ others. Some (replicate d.0 w ++ others)) types e in
    let s : (others : List (ValType ℕ)) × (declared_types names ds ≡ Some others) × (Some (replicate d.0 q.0 ++ others) ≡ Some types) =
    through (declared_types names ds) (λ others. Some (replicate d.0 q.0 ++ others)) types q.2 in
    got_append P (replicate d.0 q.0) s.0 (λ j w g. subst P (got_replicate d.0 q.0 j w g) (H (val_of d.1) q.0 q.1)) (types_hold names P H ds s.0 s.1) k v
    (ap (λ l. slice_get l k) (some_inj (replicate d.0 q.0 ++ s.0) types s.2) ∙ h)

-- ---- indices that are declared

below_some : (count i : ℕ) (b : Bool) → nat_lt i count ≡ b → IsSome (below count i) → i < count
below_some count i true e h = ltb-true i count e
below_some count i false e h = absurd (none_there (subst (λ (o : Option ℕ). IsSome o) (ap (λ (t : Bool). if t then Some i else None) e) h))

pub low : (count i : ℕ) → IsSome (below count i) → i < count
low count i h = below_some count i (nat_lt i count) refl h

below_same : (count i j : ℕ) (b : Bool) → nat_lt i count ≡ b → below count i ≡ Some j → i ≡ j
below_same count i j true e h = some_inj i j (sym (ap (λ (t : Bool). if t then Some i else None) e) ∙ h)
below_same count i j false e h = absurd (let p : None ≡ Some j = sym (ap (λ (t : Bool). if t then Some i else None) e) ∙ h in cc)

same : (count i j : ℕ) → below count i ≡ Some j → i ≡ j
same count i j h = below_same count i j (nat_lt i count) refl h

-- what an index leads to is that index
declared_same : (s : wire.Module) (space : Space) (p j : ℕ) → declared s space p ≡ Some j → p ≡ j
declared_same s Types p j e = same (length (types_from 0 s.types)) p j e
declared_same s Functions p j e = same (length (function_types s)) p j e
declared_same s Tables p j e = same (length (tables_of s)) p j e
declared_same s Memories p j e = same (length (memories_of s)) p j e
declared_same s Tags p j e = same (length (tags_of s)) p j e
declared_same s Globals p j e = same (length (globals_of s)) p j e
declared_same s Elements p j e = same (length (elements_of s)) p j e
declared_same s DataSegments p j e = same (unwrap_or s.data_count 0) p j e

locals_same : (a n k x : ℕ) → a ≡ 0 → locals_from a n k ≡ Some x → locals_from a n x ≡ locals_from a n k
locals_same a n k x z e =
    let g : k ≡ x = range_is a n k x z e in
    ap (locals_from a n) (sym g)
  where
    range_from : (a n k x : ℕ) → locals_from a n k ≡ Some x → a + k ≡ x
    range_from a zero k x e = absurd (cc)
    range_from a (suc n) zero x e = let p : a ≡ x = some_inj a x e in omega (arith, p)
    range_from a (suc n) (suc k) x e = let p : a + 1 + k ≡ x = range_from (a + 1) n k x e in omega (arith, p)

    range_is : (a n k x : ℕ) → a ≡ 0 → locals_from a n k ≡ Some x → k ≡ x
    range_is a n k x z e = let p : a + k ≡ x = range_from a n k x e in omega (arith, p, z)

pub body_from : (o : Option Function) (b : Body) → body_of_function o ≡ Some b → (f : Function) × (o ≡ Some f) × (body_of_kind f.kind ≡ Some b)
body_from (Some f) b e = (f, refl, e)
body_from None b e = cc

pub named_if : {X : Type 0} (names : X → List Item) (o : Option X) (P : Item → Type 0) → ((v : X) → o ≡ Some v → (y : Item) → Contains (names v) y → P y) → (y : Item) → Contains (named_by names o) y → P y
named_if names None P h y c = absurd (Contains-none y c)
named_if names (Some v) P h y c = h v refl y c

type_is : (o : Option TypeDef) → is_function_def o ≡ true → (x : TypeDef) × (o ≡ Some x) × IsFunctionComp x.sub.comp
type_is None e = absurd (none_there e)
type_is (Some x) e = (x, refl, comp_is x.sub.comp e)

-- parameters are those of a type
params_from : (o : Option TypeDef) (k : ℕ) (v : ValType ℕ) → slice_get (params_of o) k ≡ Some v → (x : TypeDef) × (o ≡ Some x) × (slice_get (type_params x.sub.comp) k ≡ Some v)
params_from None k v e = absurd (cc)
params_from (Some x) k v e = (x, refl, e)

-- ---- functions whose bodies are read

module _ (features : Features) (s : wire.Module) where
  abbrev params_at : ℕ → List (ValType ℕ)
  params_at t = params_of (types_of s t)

  -- a type, what the body says, and that it is read
  pub record IsRead (f : Function) : Type 0 where
    pub ty : ℕ
    pub said : Said
    pub text : List ℕ
    pub is : f ≡ function_with s (ty, said)
    pub reads : BodyReads (context_with features s) (locals_from 0 (arity s ty + length said.0)) text said.0 said.1

  local_read : (fs : List ℕ) (bs : List wire.Body) (saids : List Said) → AllZip (ReadsBodyWith features s) (zip fs bs) saids → AllByRecursion IsRead (map (function_with s) (zip fs saids))
  local_read [] bs saids read = tt
  local_read (f ∷ fs) bs [] read = tt
  local_read (f ∷ fs) [] (said ∷ saids) read = absurd read
  local_read (f ∷ fs) (b ∷ bs) (said ∷ saids) read = (record { ty = f; said = said; text = b.bytes; is = refl; reads = read.0 }, local_read fs bs saids read.1)

  abbrev IsBrought : Function → Type 0
  IsBrought f = (i : ℕ) × (f.kind ≡ ImportedFunction i)

  desc_brings : (i : ℕ) (d : RawDesc) → AllByRecursion IsBrought (option_to_list (imported_function i d))
  desc_brings i (descs.Function ty) = ((i, refl), tt)
  desc_brings i (descs.Table t) = tt
  desc_brings i (descs.Memory l) = tt
  desc_brings i (descs.Global g) = tt
  desc_brings i (descs.Tag ty) = tt

  imports_bring : (i : ℕ) (ws : List entries.Import) → AllByRecursion IsBrought (imported imported_function i ws)
  imports_bring i [] = tt
  imports_bring i (w ∷ ws) = each_append IsBrought (option_to_list (imported_function i w.desc)) (imported imported_function (i + 1) ws) (desc_brings i w.desc) (imports_bring (i + 1) ws)

  -- each function is imported, or its body is read
  abbrev pub Stands : Function → Type 0
  Stands f = IsBrought f ⊎ IsRead f

  stand : (bodies : List Said) → AllZip (ReadsBodyWith features s) (zip s.functions s.bodies) bodies → AllByRecursion Stands (functions_of s bodies)
  stand bodies read =
      each_append Stands (imported imported_function 0 s.imports) (map (function_with s) (zip s.functions bodies))
      (all_such IsBrought Stands (λ f b. inl b) (imported imported_function 0 s.imports) (imports_bring 0 s.imports))
      (all_such IsRead Stands (λ f r. inr r) (map (function_with s) (zip s.functions bodies)) (local_read s.functions s.bodies bodies read))

  pub function_stands : (bodies : List Said) → AllZip (ReadsBodyWith features s) (zip s.functions s.bodies) bodies → (i : ℕ) (f : Function) → slice_get (functions_of s bodies) i ≡ Some f → Stands f
  function_stands bodies read i f e = all_at Stands (functions_of s bodies) i f (stand bodies read) e

  pub record BodyAt (bodies : List Said) (i : ℕ) (b : Body) : Type 0 where
    pub function : Function
    pub there : slice_get (functions_of s bodies) i ≡ Some function
    pub read : IsRead function
    pub is : b ≡ body_with (params_at read.ty) read.said

  body_by : (bodies : List Said) (i : ℕ) (b : Body) (f : Function) → slice_get (functions_of s bodies) i ≡ Some f → body_of_kind f.kind ≡ Some b → Stands f → BodyAt bodies i b
  body_by bodies i b f at k (inl (p, is)) = absurd (let q : None ≡ Some b = sym (ap body_of_kind is) ∙ k in cc)
  body_by bodies i b f at k (inr r) =
      let p : Some (body_with (params_at r.ty) r.said) ≡ Some b = sym (ap (λ (g : Function). body_of_kind g.kind) r.is) ∙ k in
      record { function = f; there = at; read = r; is = sym (some_inj (body_with (params_at r.ty) r.said) b p) }

  pub body_at : (bodies : List Said) → AllZip (ReadsBodyWith features s) (zip s.functions s.bodies) bodies → (i : ℕ) (b : Body) → body_of (module_of s bodies) i ≡ Some b → BodyAt bodies i b
  body_at bodies read i b e =
      let f = body_from (slice_get (functions_of s bodies) i) b e in
      body_by bodies i b f.0 f.1 f.2 (function_stands bodies read i f.0 f.1)

  -- its operators are found as they stand
  operators_found : (f : Function) (r : IsRead f) → named_ops (declared s) (locals_from 0 (arity s r.ty + length r.said.0)) r.said.1 ≡ Some r.said.1
  operators_found f r =
      let d : Lookup = declared s in
      let l : ℕ → Option ℕ = locals_from 0 (arity s r.ty + length r.said.0) in
      ops_again d d d (λ space p j h. ap (d space) (sym (declared_same s space p j h))) l l l (λ k x h. locals_same 0 (arity s r.ty + length r.said.0) k x refl h)
      (ops_of r.reads.operators.texts) r.said.1 r.reads.operators.named
      ∙ r.reads.operators.named

  -- a local that is used is one of the parameters or a declared one
  pub local_typed : (f : Function) (r : IsRead f) (x : ℕ) → IsUsed (body_with (params_at r.ty) r.said) x → IsSome ((body_with (params_at r.ty) r.said).local_type x)
  local_typed f r x u =
      let total : ℕ = arity s r.ty + length r.said.0 in
      let o = some_of (locals_from 0 total x) (locals_found (declared s) (locals_from 0 total) r.said.1 r.said.1 (operators_found f r) x u) in
      let lt : x < total = range_within 0 total x o.0 o.1 in
      there (params_at r.ty ++ r.said.0) x (omega (arith, lt, length-append (params_at r.ty) r.said.0))

  pub block_typed : (f : Function) (r : IsRead f) (o : Op) (t : ℕ) → Contains r.said.1 o → Contains o.args (Block (OfType t)) → (x : TypeDef) × (types_of s t ≡ Some x) × IsFunctionComp x.sub.comp
  block_typed f r o t n m =
      let here : args_hold (is_function s) o.args ≡ true = passes (λ (p : Op). args_hold (is_function s) p.args) r.said.1 o r.reads.operators.blocks n in
      type_is (types_of s t) (passes (block_holds (is_function s)) o.args (Block (OfType t)) here m)

  -- ---- what they name

  module _ (bodies : List Said) (live : (space : Space) (i : ℕ) → IsSome (declared s space i) → Has (module_of s bodies) space i) (refer : wire_indices.TypesRefer s.types) where
    abbrev M : Abstract
    M = module_of s bodies

    -- each type that it declares is there
    declared_found : (f : Function) (r : IsRead f) (k : ℕ) (v : ValType ℕ) → slice_get r.said.0 k ≡ Some v → (y : Item) → Contains (map type_item (val_names v)) y → IsLive M y
    declared_found f r k v e y n =
        let d : Lookup = declared s in
        let again : (u w : ValType ℕ) → named_val d u ≡ Some w → named_val d w ≡ Some w = λ u w h. val_again d d d (λ space p j g. ap (d space) (sym (declared_same s space p j g))) u w h ∙ h in
        let here : named_val d v ≡ Some v = types_hold d (λ w. named_val d w ≡ Some w) again r.reads.declared r.said.0 r.reads.typed k v e in
        live y.0 y.1 (val_found d v v here y n)

    has_type : (t : ℕ) → t < length (types_from 0 s.types) → IsSome (M.types t)
    has_type t lt = there (types_from 0 s.types) t lt

    pub types_live : (ts : List ℕ) → All (λ u. u < length (types_from 0 s.types)) ts → (y : Item) → Contains (map type_item ts) y → IsLive M y
    types_live ts all y c = All-contains (IsLive M) (map type_item ts) y (All-map (IsLive M) type_item ts (λ k d lt. has_type _ (all k d lt))) c

    param_live : (t k : ℕ) (v : ValType ℕ) → slice_get (params_at t) k ≡ Some v → (y : Item) → Contains (map type_item (val_names v)) y → IsLive M y
    param_live t k v e y n =
        let p = params_from (types_of s t) k v e in
        types_live (val_names v) (params_live s.types refer t p.0 p.1 k v p.2) y n

    local_live : (f : Function) (r : IsRead f) (x : ℕ) (y : Item) → Contains (local_names (body_with (params_at r.ty) r.said) x) y → IsLive M y
    local_live f r x y n =
        named_if (λ v. map type_item (val_names v)) (slice_get (params_at r.ty ++ r.said.0) x) (IsLive M)
        (λ v e z m.
        got_append (λ w. (u : Item) → Contains (map type_item (val_names w)) u → IsLive M u) (params_at r.ty) r.said.0
        (param_live r.ty)
        (λ k w g u o. declared_found f r k w g u o) x v e z m) y n

    pub names_live : (f : Function) (r : IsRead f) → IsSome (M.types r.ty) → (y : Item) → Contains (function_names f) y → IsLive M y
    names_live f r typed y n =
        let b = body_with (params_at r.ty) r.said in
        ⊎_elim (λ (e : type_item r.ty ≡ y). subst (IsLive M) e typed)
        (λ (d : Contains (names_of r.said.1 ++ flat_map (local_names b) (locals_of r.said.1)) y).
        ⊎_elim (λ (m : Contains (names_of r.said.1) y). live y.0 y.1 (names_found (declared s) (locals_from 0 (arity s r.ty + length r.said.0)) r.said.1 r.said.1 (operators_found f r) y m))
        (λ (m : Contains (flat_map (local_names b) (locals_of r.said.1)) y). in_flat_map (local_names b) (IsLive M) (locals_of r.said.1) (local_live f r) y m)
        (Contains-append_cases (names_of r.said.1) (flat_map (local_names b) (locals_of r.said.1)) y d))
        (Contains-uncons (type_item r.ty) y (names_of r.said.1 ++ flat_map (local_names b) (locals_of r.said.1)) (subst (λ (g : Function). Contains (function_names g) y) r.is n))
