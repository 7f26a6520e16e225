-- Bodies stay well formed where functions and types come, and where functions are set or brought.
use Rattle.std.proofs.Common.{◌≡◌, ℕ, Bool, true, false, List, [], ◌∷◌, ◌++◌, map, length, append-nil, refl, sym, ap, ap₂, ◌∙◌, subst}
use Rattle.std.specs.Prelude.{Contains, Option, Some, None, IsSome, slice_get, nat_lt, if◌then◌else◌}
use Rattle.std.proofs.Math.ListN.{get_or-append}
use Rattle.walrus_base.specs.Arena.{item_at, items}
use Rattle.walrus_base.specs.Id.{place}
use Rattle.walrus_base.specs.Locals.{locals}
use Rattle.walrus_base.specs.ModuleTypes.{type_slots}
use Rattle.walrus_base.specs.Operators.{Space}
use Rattle.walrus_base.specs.TypeDef.{TypeDef}
use Rattle.walrus_bodies.specs.FunctionTypes.{is_function_def}
use Rattle.walrus_contents.specs.View.{body, contents_view}
use Rattle.walrus_contents.specs.declared.parts.Contents.{Contents}
use Rattle.walrus_functions.specs.BodyRead.{new_locals}
use Rattle.walrus_functions.specs.EmittedBody.{types_of}
use Rattle.walrus_functions.specs.Handlers.{params_of}
use Rattle.walrus_functions.specs.ReadFunction.{StaysInFront}
use Rattle.walrus_items.specs.Function.{function_type}
use Rattle.walrus_items.specs.FunctionKinds.{kind_type}
use Rattle.walrus_items.specs.Functions.{FunctionValue, functions}
use Rattle.walrus_items.specs.LocalFunction.{LocalFunction}
use Rattle.walrus_items.specs.declared.function_kind.FunctionKind.TheVariants as kinds
use Rattle.walrus_model.specs.Abstract as abstract
use Rattle.walrus_model.specs.Config.{Config}
use Rattle.walrus_reading.proofs.Carrying.{item_within}
use Rattle.walrus_reading.proofs.EditedLocals.{stay_typed}
use Rattle.walrus_theorem.specs.Features.{features_of}
use Rattle.walrus_theorem.specs.WellMade.{IsWellFormed}
use Rattle.wasm_entries.specs.Record.{Group}
use Rattle.walrus_edit_list.specs.Bringing.{BringsFunction}
use Rattle.walrus_edit_list.specs.Fine.{IsFine}
use Rattle.walrus_edit_list.specs.Formed.{AreFormed, IsFormed, SetsFormed}
use Rattle.walrus_edit_list.specs.Functions.{AddsFunction, IsReadAs, SetsFunction}
use Rattle.walrus_edit_list.specs.Held.{Held}
use Rattle.walrus_edit_list.specs.Ids.{given, ids_of, tag_types}
use Rattle.walrus_edit_list.specs.Types.{AddsTypes}
use Rattle.walrus_edit_list.proofs.BodiesKept.{Said, added_kept, all_kept, said_of, set_kept}
use Rattle.walrus_edit_list.proofs.ReadFormed.{formed_by, reads_grow}

pub local_is : (l made : LocalFunction) → kinds.Local made ≡ kinds.Local l → made ≡ l
local_is l made same = cc

pub live : {A : Type 0} (o : Option A) (x : A) → o ≡ Some x → IsSome o
live o x is = subst (λ (o : Option _). IsSome o) (sym is) refl

-- what has types has them where more are known
all_typed : {X : Type 0} (T U : ℕ → Option X) → ((l : ℕ) (t : X) → T l ≡ Some t → U l ≡ Some t) → (ls : List ℕ) (ts : List X) → map T ls ≡ map Some ts → map U ls ≡ map Some ts
all_typed T U grows [] [] e = refl
all_typed T U grows [] (t ∷ ts) e = absurd (cc)
all_typed T U grows (l ∷ ls) [] e = absurd (cc)
all_typed {X = X} T U grows (l ∷ ls) (t ∷ ts) e =
    let head : T l ≡ Some t = cc in
    let tail : map T ls ≡ map Some ts = cc in
    ap₂ (λ (x : Option X) (xs : List (Option X)). x ∷ xs) (grows l t head) (all_typed T U grows ls ts tail)

-- ---- types and locals come behind those that were there

pub there_is : (o : Option TypeDef) → is_function_def o ≡ true → IsSome o
there_is None h = absurd (cc)
there_is (Some x) h = refl

module _ (c : Config) (old new : Contents) (types : StaysInFront (type_slots old.types) (type_slots new.types)) (locals_stay : StaysInFront (locals old.locals) (locals new.locals)) where
  abbrev v : abstract.Abstract
  v = contents_view old

  abbrev w : abstract.Abstract
  w = contents_view new

  stays : (t : ℕ) → IsSome (v.types t) → w.types t ≡ v.types t
  stays t is = ap (λ (xs : List (Option TypeDef)). item_at xs t) types.1 ∙ get_or-append (type_slots old.types) types.0 None t (item_within (type_slots old.types) t is)

  is_function_still : (t : ℕ) → is_function_def (v.types t) ≡ true → is_function_def (w.types t) ≡ true
  is_function_still t is = ap is_function_def (stays t (there_is (v.types t) is)) ∙ is

  -- a body that was well formed is so still
  pub carried : (t : ℕ) (l : LocalFunction) → IsWellFormed c v t (body old.locals l) → IsWellFormed c w t (body new.locals l)
  carried t l h =
      let same : w.types t ≡ v.types t = stays t (live (v.types t) h.function_type.0 h.function_type.1) in
      let typed = stay_typed (locals old.locals) (locals new.locals) locals_stay in
      record {
        function_type = (h.function_type.0, same ∙ h.function_type.1, h.function_type.2);
        distinct = h.distinct;
        typed = all_typed (item_at (types_of (locals old.locals))) (item_at (types_of (locals new.locals))) typed (body old.locals l).parameters (params_of (v.types t)) h.typed
            ∙ ap (λ (o : Option TypeDef). map Some (params_of o)) (sym same);
        names = h.names;
        further = h.further;
        types = h.types;
        further_typed = sym (all_typed (item_at (types_of (locals old.locals))) (item_at (types_of (locals new.locals))) typed h.further h.types (sym h.further_typed));
        text = h.text;
        read = reads_grow (λ k. is_function_def (v.types k)) (λ k. is_function_def (w.types k)) is_function_still h.names (features_of c) (slice_get ((body old.locals l).parameters ++ h.further)) h.text h.types (body old.locals l).operators h.read;
      }

  pub still_formed : (t : ℕ) (l : LocalFunction) → IsFormed c v t (body old.locals l) → IsFormed c w t (body new.locals l)
  unfolding carried
  still_formed t l h = (carried t l h.0, h.1)

-- each id is its own number
below_is : (n found : ℕ) (t : Bool) → (if t then Some n else None) ≡ Some found → found ≡ n
below_is n found true is = cc
below_is n found false is = absurd (cc)

pub ids_in_place : (m : Contents) (space : Space) (n found : ℕ) → ids_of m space n ≡ Some found → found ≡ n
ids_in_place m space n found is = below_is n found (nat_lt n (given m space)) is

-- ---- a body that was read

module _ (c : Config) (ty : ℕ) (code : List ℕ) (old new : Contents) (made : LocalFunction) (r : IsReadAs (features_of c) ty code old new made) where
  pub locals_stay : StaysInFront (locals old.locals) (locals new.locals)
  locals_stay = (new_locals r.read.ids (r.read.params ++ r.read.declared), r.read.added.added)

  pub read_formed : IsFormed c (contents_view new) ty (body new.locals made)
  read_formed = formed_by c (contents_view new) old.locals new.locals old.types new.types (ids_of old) (tag_types old.tags) ty code made r.types_stay (λ t. refl) r.typed r.read (ids_in_place old)

  -- of a function with this body it is said
  pub body_formed : (g : FunctionValue) → g.kind ≡ kinds.Local made → Said (IsFormed c (contents_view new)) new.locals (Some g)
  body_formed g is = said_of (IsFormed c (contents_view new)) new.locals g
      (λ l own. subst (λ (m : LocalFunction). IsFormed c (contents_view new) (place (function_type m)) (body new.locals m)) (local_is l made (sym is ∙ own))
      (subst (λ (t : ℕ). IsFormed c (contents_view new) t (body new.locals made)) (sym r.read.own_type) read_formed))

-- ---- edits

pub set_formed : SetsFormed
set_formed c id code old new s was =
    let made = record s.function { kind = kinds.Local s.made } in
    let read = s.read in
    let ty = place (kind_type s.function.kind) in
    subst (λ slots. (i : ℕ) → Said (IsFormed c (contents_view new.contents)) new.contents.locals (item_at slots i)) (sym s.set)
    (set_kept (IsFormed c (contents_view old.contents)) (IsFormed c (contents_view new.contents)) old.contents.locals new.contents.locals
    (still_formed c old.contents new.contents read.types_stay (locals_stay c ty code old.contents new.contents s.made read))
    (functions old.contents.funcs) id made (live (item_at (functions old.contents.funcs) id) s.function s.there)
    (body_formed c ty code old.contents new.contents s.made read made refl)
    was)

pub add_formed : (c : Config) (ty : ℕ) (code : List ℕ) (old new : Held) → AddsFunction (features_of c) ty code old new → AreFormed c (contents_view old.contents) → AreFormed c (contents_view new.contents)
add_formed c ty code old new s was =
    let read = s.read in
    let g : FunctionValue = record { id = length (functions old.contents.funcs); kind = kinds.Local s.made; name = None } in
    subst (λ slots. (i : ℕ) → Said (IsFormed c (contents_view new.contents)) new.contents.locals (item_at slots i)) (sym s.added)
    (added_kept (IsFormed c (contents_view old.contents)) (IsFormed c (contents_view new.contents)) old.contents.locals new.contents.locals
    (still_formed c old.contents new.contents read.types_stay (locals_stay c ty code old.contents new.contents s.made read))
    (functions old.contents.funcs) g
    (body_formed c ty code old.contents new.contents s.made read g refl)
    was)

module _ (c : Config) where
  pub adds_function_fine : (ty : ℕ) (code : List ℕ) (old new : Held) → AddsFunction (features_of c) ty code old new → IsFine c old → IsFine c new
  adds_function_fine ty code old new s fine = record {
    formed = add_formed c ty code old new s fine.formed;
    free = λ x has. fine.free x (subst (λ xs. Contains (items xs) x) (ap (λ (h : Held). h.customs) s.others) has);
  }

  pub sets_function_fine : (id : ℕ) (code : List ℕ) (old new : Held) → SetsFunction (features_of c) id code old new → IsFine c old → IsFine c new
  sets_function_fine id code old new s fine = record {
    formed = set_formed c id code old new s fine.formed;
    free = λ x has. fine.free x (subst (λ xs. Contains (items xs) x) (ap (λ (h : Held). h.customs) s.others) has);
  }

  -- types come, and nothing else
  types_formed : (groups : List Group) (old new : Contents) (more : List (Option TypeDef)) → type_slots new.types ≡ type_slots old.types ++ more → new ≡ record old { types = new.types }
      → AreFormed c (contents_view old) → AreFormed c (contents_view new)
  types_formed groups old new more grown others was =
      let same : new.locals ≡ old.locals = ap (λ (m : Contents). m.locals) others in
      let funcs : functions new.funcs ≡ functions old.funcs = ap (λ (m : Contents). functions m.funcs) others in
      subst (λ slots. (i : ℕ) → Said (IsFormed c (contents_view new)) new.locals (item_at slots i)) (sym funcs)
      (all_kept (IsFormed c (contents_view old)) (IsFormed c (contents_view new)) old.locals new.locals
      (still_formed c old new (more, grown) ([], ap locals same ∙ sym (append-nil (locals old.locals))))
      (functions old.funcs) was)

  pub adds_types_fine : (groups : List Group) (old new : Held) → AddsTypes groups old new → IsFine c old → IsFine c new
  adds_types_fine groups old new s fine = record {
    formed = types_formed groups old.contents new.contents _ s.read.added (ap (λ (h : Held). h.contents) s.others) fine.formed;
    free = λ x has. fine.free x (subst (λ xs. Contains (items xs) x) (ap (λ (h : Held). h.customs) s.others) has);
  }

  pub brings_formed : (id : ℕ) (from name : List ℕ) (old new : Contents) → BringsFunction id from name old new → AreFormed c (contents_view old) → AreFormed c (contents_view new)
  brings_formed id from name old new s was =
      let same : new.locals ≡ old.locals = ap (λ (m : Contents). m.locals) s.others in
      let types : new.types ≡ old.types = ap (λ (m : Contents). m.types) s.others in
      let g = record s.function { kind = kinds.Import (record { ty = kind_type s.function.kind; «import» = s.by }) } in
      subst (λ slots. (i : ℕ) → Said (IsFormed c (contents_view new)) new.locals (item_at slots i)) (sym s.set)
      (set_kept (IsFormed c (contents_view old)) (IsFormed c (contents_view new)) old.locals new.locals
      (still_formed c old new ([], ap type_slots types ∙ sym (append-nil (type_slots old.types))) ([], ap locals same ∙ sym (append-nil (locals old.locals))))
      (functions old.funcs) id g (live (item_at (functions old.funcs) id) s.function s.there)
      (said_of (IsFormed c (contents_view new)) new.locals g (λ l is. absurd (cc)))
      was)
