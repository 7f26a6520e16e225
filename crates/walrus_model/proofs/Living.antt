-- A module in which nothing is dead: all that is named in it is there. The one says what the other does.
use Rattle.std.proofs.Common.{◌≡◌, ℕ, true, false, refl}
use Rattle.std.specs.Prelude.{Option, Some, None, IsSome, Contains}
use Rattle.walrus_base.specs.Operators.{Types, Functions, Tables, Memories, Tags, Globals, Elements, DataSegments, Item}
use Rattle.walrus_model.specs.Abstract.{Abstract, Body, Uninitialised, Function, Import, Export}
use Rattle.walrus_model.specs.Dead.{HasDead, DeadName, DeadLocal, DeadExport, DeadStart, DeadImport, NoKind}
use Rattle.walrus_model.specs.Live.{IsLive}
use Rattle.walrus_model.specs.Names.{body_of}
use Rattle.walrus_model.specs.Refers.{IsUsed, written_in}

pub record AllLive (v : Abstract) : Type 0 where
  pub written : (x y : Item) → Contains (written_in v x) y → IsLive v y
  pub locals : (f : ℕ) (b : Body) (x : ℕ) → body_of v f ≡ Some b → IsUsed b x → IsSome (b.local_type x)
  pub exports : (e : Export) → Contains v.exports e → IsLive v e.item
  pub start : (f : ℕ) → v.start ≡ Some f → IsSome (v.functions f)
  pub imports : (i : ℕ) (x : Import) → v.imports i ≡ Some x → IsLive v x.item
  pub made : (i : ℕ) (f : Function) → v.functions i ≡ Some f → f.kind ≡ Uninitialised → ⊥

some_there : {X : Type 0} (o : Option X) → (o ≡ None → ⊥) → IsSome o
some_there (Some x) h = refl
some_there None h = absurd (h refl)

none_there : {X : Type 0} (o : Option X) → o ≡ None → IsSome o → ⊥
none_there (Some x) e h = absurd (cc)
none_there None e h = let no : false ≡ true = h in cc

pub some_stays : {X : Type 0} (o : Option X) → ((IsSome o → ⊥) → ⊥) → IsSome o
some_stays (Some x) h = refl
some_stays None h = absurd (h (λ e. let no : false ≡ true = e in cc))

-- what isn't missing is there
pub living : (v : Abstract) (x : Item) → ((IsLive v x → ⊥) → ⊥) → IsLive v x
living v (Types, i) h = some_stays (v.types i) h
living v (Functions, i) h = some_stays (v.functions i) h
living v (Tables, i) h = some_stays (v.tables i) h
living v (Memories, i) h = some_stays (v.memories i) h
living v (Tags, i) h = some_stays (v.tags i) h
living v (Globals, i) h = some_stays (v.globals i) h
living v (Elements, i) h = some_stays (v.elements i) h
living v (DataSegments, i) h = some_stays (v.data_segments i) h

pub all_live : (v : Abstract) → (HasDead v → ⊥) → AllLive v
all_live v h = record {
  written = λ x y at. living v y (λ dead. h (DeadName x y at dead));
  locals = λ f b x e u. some_there (b.local_type x) (λ none. h (DeadLocal f x b e u none));
  exports = λ e at. living v e.item (λ dead. h (DeadExport e at dead));
  start = λ f e. some_there (v.functions f) (λ none. h (DeadStart f e none));
  imports = λ i x at. living v x.item (λ dead. h (DeadImport i x at dead));
  made = λ i f at un. h (NoKind i f at un);
}

pub none_dead : (v : Abstract) → AllLive v → HasDead v → ⊥
none_dead v l (DeadName x y at dead) = dead (l.written x y at)
none_dead v l (DeadLocal f x b at used none) = none_there (b.local_type x) none (l.locals f b x at used)
none_dead v l (DeadExport e at dead) = dead (l.exports e at)
none_dead v l (DeadStart f at none) = none_there (v.functions f) none (l.start f at)
none_dead v l (DeadImport i x at dead) = dead (l.imports i x at)
none_dead v l (NoKind i f at un) = l.made i f at un
