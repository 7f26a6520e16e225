-- Bodies stay well formed where operators come to stand in front of one.
use Rattle.std.proofs.Common.{◌≡◌, ◌≢◌, ℕ, false, List, [], ◌++◌, map, append-nil, refl, sym, ap, ◌∙◌, subst}
use Rattle.std.specs.Prelude.{AllPairs, Option, Some, slice_get}
use Rattle.walrus_base.specs.Arena.{item_at}
use Rattle.walrus_base.specs.Id.{place}
use Rattle.walrus_base.specs.Locals.{locals}
use Rattle.walrus_base.specs.ModuleTypes.{type_slots}
use Rattle.walrus_base.specs.Operators.{Op}
use Rattle.walrus_bodies.specs.Body.{BodyReads, OperatorsRead, context}
use Rattle.walrus_bodies.specs.FunctionTypes.{is_function_at}
use Rattle.walrus_contents.specs.View.{body, contents_view}
use Rattle.walrus_contents.specs.declared.parts.Contents.{Contents}
use Rattle.walrus_items.specs.Function.{args_of, body_of, function_type}
use Rattle.walrus_items.specs.Functions.{FunctionValue, functions}
use Rattle.walrus_items.specs.LocalFunction.{LocalFunction}
use Rattle.walrus_items.specs.declared.function_kind.FunctionKind.{FunctionKind}
use Rattle.walrus_items.specs.declared.function_kind.FunctionKind.TheVariants as kinds
use Rattle.walrus_model.specs.Abstract as abstract
use Rattle.walrus_model.specs.Config.{Config}
use Rattle.walrus_theorem.specs.Features.{features_of}
use Rattle.walrus_edit_list.specs.Formed.{AreFormed, IsFormed}
use Rattle.walrus_edit_list.specs.Fronts.{FrontsBody, FrontsFunction, FrontsKind, but_last}
use Rattle.walrus_edit_list.specs.Ids.{ids_of}
use Rattle.walrus_edit_list.proofs.BodiesKept.{Said, said_body, said_of, set_kept}
use Rattle.walrus_edit_list.proofs.FineFunctions.{ids_in_place, live, local_is, still_formed}
use Rattle.walrus_edit_list.specs.Joined.{itself}
use Rattle.walrus_edit_list.proofs.FrontFormed.{body_reads, split_last}
use Rattle.walrus_edit_list.proofs.FrontNamed.{itself_is}

module _ (c : Config) (old : Contents) (bytes : List ℕ) where
  abbrev v : abstract.Abstract
  v = contents_view old

  -- a body with operators in front is well formed, if it was
  fronted : (t : ℕ) (own made : LocalFunction) → FrontsBody (ids_of old) old.types (features_of c) bytes own made → IsFormed c v t (body old.locals own) → IsFormed c v t (body old.locals made)
  fronted t own made s (h, in_place) =
      let args : args_of made ≡ args_of own = s.others.head.args in
      let last = split_last s.read s.front.nested in
      let read = body_reads (is_function_at old.types) (features_of c) (args_of own) h.further h.text h.types (body_of own) h.names in_place h.read (ids_of old) (ids_in_place old) _ (but_last s.read) last.0
      (subst (λ (ops : List Op). OperatorsRead (context (ids_of old) (is_function_at old.types) (record (features_of c) { legacy_exceptions = false })) (slice_get (args_of own)) _ ops) last.1 s.front) in (
        record {
          function_type = h.function_type;
          distinct = subst (λ (xs : List ℕ). AllPairs (λ (x : ℕ) (y : ℕ). x ≢ y) xs) (sym args) h.distinct;
          typed = ap (map (body old.locals own).local_type) args ∙ h.typed;
          names = itself;
          further = h.further;
          types = h.types;
          further_typed = h.further_typed;
          text = read.0;
          read = subst (λ (xs : List ℕ). BodyReads (context itself (is_function_at old.types) (features_of c)) (slice_get (xs ++ h.further)) read.0 h.types (body_of made)) (sym args)
              (subst (λ (ops : List Op). BodyReads (context itself (is_function_at old.types) (features_of c)) (slice_get (args_of own ++ h.further)) read.0 h.types ops) (sym s.operators) read.1);
        },
        itself_is,
      )

  -- of a function of this kind it is said then
  of_kind : (was now : FunctionKind) → FrontsKind (ids_of old) old.types (features_of c) bytes was now → ((own : LocalFunction) → was ≡ kinds.Local own → IsFormed c v (place (function_type own)) (body old.locals own))
      → (l : LocalFunction) → now ≡ kinds.Local l → IsFormed c v (place (function_type l)) (body old.locals l)
  of_kind (kinds.Local own) now (made, is, s) formed l at =
      subst (λ (m : LocalFunction). IsFormed c v (place (function_type m)) (body old.locals m)) (local_is l made (sym is ∙ at))
      (subst (λ (t : ℕ). IsFormed c v t (body old.locals made)) (sym (ap place s.others.head.typed)) (fronted (place (function_type own)) own made s (formed own refl)))
  of_kind (kinds.Import i) now s formed l at = absurd s
  of_kind (kinds.Uninitialized ty) now s formed l at = absurd s

pub fronts_formed : (c : Config) (id : ℕ) (bytes : List ℕ) (old new : Contents) → FrontsFunction (features_of c) id bytes old new → AreFormed c (contents_view old) → AreFormed c (contents_view new)
fronts_formed c id bytes old new s was =
    let mid : Contents = record old { funcs = new.funcs } in
    let g : FunctionValue = record s.function { kind = s.kind } in
    let there = live (item_at (functions old.funcs) id) s.function s.there in
    let still = still_formed c old mid ([], sym (append-nil (type_slots old.types))) ([], sym (append-nil (locals old.locals))) in
    let own : Said (IsFormed c (contents_view old)) old.locals (Some s.function) = subst (λ (o : Option FunctionValue). Said (IsFormed c (contents_view old)) old.locals o) s.there (was id) in
    subst (λ (m : Contents). AreFormed c (contents_view m)) (sym s.others)
    (subst (λ slots. (i : ℕ) → Said (IsFormed c (contents_view mid)) old.locals (item_at slots i)) (sym s.set)
    (set_kept (IsFormed c (contents_view old)) (IsFormed c (contents_view mid)) old.locals old.locals still (functions old.funcs) id g there
    (said_of (IsFormed c (contents_view mid)) old.locals g
    (λ l is. still (place (function_type l)) l (of_kind c old bytes s.function.kind s.kind s.fronts (λ l at. said_body (IsFormed c (contents_view old)) old.locals s.function l at own) l is)))
    was))
