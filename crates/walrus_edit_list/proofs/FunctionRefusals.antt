-- What a refusal of a step says of an edit of a function.
use Rattle.std.proofs.Common.{◌≡◌, ℕ, List, Option, Some, None, IsSome, sym, subst}
use Rattle.walrus_base.specs.Id.{place}
use Rattle.walrus_bodies.specs.declared.features.Features.{Features}
use Rattle.walrus_code.specs.Names.{Lookup}
use Rattle.walrus_contents.specs.declared.parts.Contents.{Contents}
use Rattle.walrus_items.specs.FunctionKinds.{kind_type}
use Rattle.walrus_items.specs.Functions.{FunctionValue}
use Rattle.walrus_items.specs.declared.error.Error.{Error}
use Rattle.walrus_items.specs.declared.error.Error.TheVariants.{Caller, DeadItem, InvalidWasm, Memory, NoIndex, NoMemory, NotExported, NotFound, NotImported, NotReplaceable, NotWritable, SeveralFunctionTables, SeveralMemories, TooLarge, TwoIndices}
use Rattle.walrus_items.specs.declared.function_kind.FunctionKind.{FunctionKind}
use Rattle.walrus_items.specs.declared.function_kind.FunctionKind.TheVariants as kinds
use Rattle.walrus_edit_list.specs.Fronts.{RefusesKind, RefusesSlot as RefusesFronted}
use Rattle.walrus_edit_list.specs.Functions.{RefusesBody, RefusesRead, RefusesSlot}
use Rattle.walrus_edit_list.specs.Ids.{HasTooMany, ids_of, tag_types}
use Rattle.walrus_edit_list.specs.Refuses.{Refuses}

module _ (f : Features) (ty : ℕ) (code : List ℕ) (m : Contents) where
  -- the ids can't be told
  pub ids_refuse : (e : Error) → Refuses ⊥ (HasTooMany m) e → RefusesRead f ty code m e
  ids_refuse (Memory e) h = tt
  ids_refuse (InvalidWasm kind) h = absurd h
  ids_refuse DeadItem h = absurd h
  ids_refuse NoIndex h = absurd h
  ids_refuse TwoIndices h = absurd h
  ids_refuse TooLarge h = h
  ids_refuse NotWritable h = absurd h
  ids_refuse NotFound h = absurd h
  ids_refuse SeveralMemories h = absurd h
  ids_refuse NoMemory h = absurd h
  ids_refuse SeveralFunctionTables h = absurd h
  ids_refuse NotExported h = absurd h
  ids_refuse NotImported h = absurd h
  ids_refuse NotReplaceable h = absurd h
  ids_refuse (Caller text) h = absurd h

  refused : (e : Error) → RefusesBody (ids_of m) (tag_types m.tags) f ty code m.types m.locals e → RefusesRead f ty code m e
  refused (Memory e) h = h
  refused (InvalidWasm kind) h = h
  refused DeadItem h = h
  refused NoIndex h = h
  refused TwoIndices h = h
  refused TooLarge h = absurd h
  refused NotWritable h = h
  refused NotFound h = h
  refused SeveralMemories h = h
  refused NoMemory h = h
  refused SeveralFunctionTables h = h
  refused NotExported h = h
  refused NotImported h = h
  refused NotReplaceable h = h
  refused (Caller text) h = h

  -- the body isn't read
  pub body_refuses : (names : Lookup) (tags : ℕ → Option ℕ) → names ≡ ids_of m → tags ≡ tag_types m.tags → (e : Error) → RefusesBody names tags f ty code m.types m.locals e → RefusesRead f ty code m e
  body_refuses names tags is are e h = refused e
      (subst (λ (ns : Lookup). RefusesBody ns (tag_types m.tags) f ty code m.types m.locals e) is
      (subst (λ (ts : ℕ → Option ℕ). RefusesBody names ts f ty code m.types m.locals e) are h))

  pub added_refuses : (names : Lookup) (tags : ℕ → Option ℕ) → names ≡ ids_of m → tags ≡ tag_types m.tags → (own : ℕ) → own ≡ ty → (e : Error) → RefusesBody names tags f own code m.types m.locals e → RefusesRead f ty code m e
  added_refuses names tags is are own at e h = body_refuses names tags is are e (subst (λ (t : ℕ). RefusesBody names tags f t code m.types m.locals e) at h)

-- the function of an id is there, and isn't set
pub slot_refuses : (f : Features) (slot : Option FunctionValue) (g : FunctionValue) (code : List ℕ) (m : Contents) (e : Error) → slot ≡ Some g → RefusesRead f (place (kind_type g.kind)) code m e
    → RefusesSlot f slot code m e
slot_refuses f slot g code m e is h = subst (λ (o : Option FunctionValue). RefusesSlot f o code m e) (sym is) h

-- ---- operators in front

not_large : (f : Features) (bytes : List ℕ) (m : Contents) (kind : FunctionKind) → RefusesKind (ids_of m) m.types f bytes kind TooLarge → ⊥
not_large f bytes m (kinds.Local own) h = h
not_large f bytes m (kinds.Import i) h = cc
not_large f bytes m (kinds.Uninitialized ty) h = cc

module _ (f : Features) (bytes : List ℕ) (m : Contents) (g : FunctionValue) where
  fronted : (e : Error) → RefusesKind (ids_of m) m.types f bytes g.kind e → RefusesFronted f bytes m (Some g) e
  fronted (Memory e) h = tt
  fronted (InvalidWasm kind) h = h
  fronted DeadItem h = h
  fronted NoIndex h = h
  fronted TwoIndices h = h
  fronted TooLarge h = absurd (not_large f bytes m g.kind h)
  fronted NotWritable h = h
  fronted NotFound h = h
  fronted SeveralMemories h = h
  fronted NoMemory h = h
  fronted SeveralFunctionTables h = h
  fronted NotExported h = h
  fronted NotImported h = h
  fronted NotReplaceable h = h
  fronted (Caller text) h = h

  unnumbered : (e : Error) → Refuses ⊥ (HasTooMany m) e → RefusesFronted f bytes m (Some g) e
  unnumbered (Memory e) h = tt
  unnumbered (InvalidWasm kind) h = absurd h
  unnumbered DeadItem h = absurd h
  unnumbered NoIndex h = absurd h
  unnumbered TwoIndices h = absurd h
  unnumbered TooLarge h = h
  unnumbered NotWritable h = absurd h
  unnumbered NotFound h = absurd h
  unnumbered SeveralMemories h = absurd h
  unnumbered NoMemory h = absurd h
  unnumbered SeveralFunctionTables h = absurd h
  unnumbered NotExported h = absurd h
  unnumbered NotImported h = absurd h
  unnumbered NotReplaceable h = absurd h
  unnumbered (Caller text) h = absurd h

  module _ (slot : Option FunctionValue) (is : slot ≡ Some g) where
    pub front_refuses : (names : Lookup) → names ≡ ids_of m → (e : Error) → RefusesKind names m.types f bytes g.kind e → RefusesFronted f bytes m slot e
    front_refuses names are e h =
        subst (λ (o : Option FunctionValue). RefusesFronted f bytes m o e) (sym is)
        (fronted e (subst (λ (ns : Lookup). RefusesKind ns m.types f bytes g.kind e) are h))

    pub front_unnumbered : (e : Error) → Refuses ⊥ (HasTooMany m) e → RefusesFronted f bytes m slot e
    front_unnumbered e h = subst (λ (o : Option FunctionValue). RefusesFronted f bytes m o e) (sym is) (unnumbered e h)

-- whatever stands there
pub front_uncounted : (f : Features) (bytes : List ℕ) (m : Contents) (slot : Option FunctionValue) → IsSome slot → (e : Error) → Refuses ⊥ (HasTooMany m) e → RefusesFronted f bytes m slot e
front_uncounted f bytes m None live e h = absurd (cc)
front_uncounted f bytes m (Some g) live e h = unnumbered f bytes m g e h
