-- What an edit keeps of a module: what stands at an item's number, but for locals that a function doesn't use, or as much of it as others rest on.
use Rattle.std.proofs.Common.{◌≡◌, ℕ, List, [], ◌∷◌, ◌++◌, map, flat_map, refl, sym, ap, ap₂, ◌∙◌, subst}
use Rattle.std.specs.Prelude.{Option, Some, None, IsSome, Contains}
use Rattle.walrus_base.specs.Types.{HeapType, ValType, val_heaps, val_names}
use Rattle.walrus_base.specs.Operators.{Space, Types, Functions, Tables, Memories, Tags, Globals, Elements, DataSegments, Item, Op, names_of, type_item}
use Rattle.walrus_model.specs.Abstract.{Abstract, Body, FunctionKind, ImportedFunction, LocalFunction, Uninitialised, Function}
use Rattle.walrus_model.specs.Live.{IsLive}
use Rattle.walrus_model.specs.Refers.{IsUsed, body_names, local_names, named_by, used_locals, written_in}
use Rattle.walrus_model.specs.Spaces.{Thing, look, names_in_thing}
use Rattle.walrus_model.specs.WellMade.{body_heaps, consts_by, consts_in, heaps_by, heaps_in, import_in, import_of, kind_import, op_heaps}
use Rattle.walrus_base.proofs.Lists.{Contains-head, Contains-none, Contains-tail}
use Rattle.walrus_model.proofs.Spaces.{live_from, live_to, written_in_look}
use Rattle.walrus_base.proofs.Standing.{some_inj, some_of}
use Rattle.walrus_theorem.specs.Edits.{KeepsBody, KeepsFunction, KeepsKind}
use Rattle.walrus_theorem.specs.Pinned.{DeclaresLocal}
use Rattle.walrus_theorem.specs.Sound.{DeclaresFew}

-- ---- options and lists

pub some_is : {X : Type 0} {x y : X} → ◌≡◌ {A = Option X} (Some x) (Some y) → x ≡ y
some_is e = some_inj _ _ e

pub none_isnt : {X : Type 0} {x : X} → ◌≡◌ {A = Option X} None (Some x) → ⊥
none_isnt e = cc

pub some_there : {X : Type 0} (o : Option X) {x : X} → o ≡ Some x → IsSome o
some_there o at = subst IsSome (sym at) refl

pub same_flat : {X Y : Type 0} (f g : X → List Y) (xs : List X) → ((x : X) → Contains xs x → f x ≡ g x) → flat_map f xs ≡ flat_map g xs
same_flat f g [] h = refl
same_flat {Y = Y} f g (x ∷ xs) h = ap₂ (λ (a b : List Y). a ++ b) (h x (Contains-head x xs)) (same_flat f g xs (λ y at. h y (Contains-tail x y xs at)))

-- ---- a body that is kept

module _ (x y : Body) (same : KeepsBody x y) (typed : (l : ℕ) → IsUsed x l → IsSome (x.local_type l)) where
  pub local_same : (l : ℕ) → IsUsed x l → y.local_type l ≡ x.local_type l
  local_same l used = let t = some_of (x.local_type l) (typed l used) in same.types l t.0 t.1 ∙ sym t.1

  pub same_used : used_locals y ≡ used_locals x
  same_used = ap (λ (ops : List Op). used_locals (record x { operators = ops })) same.operators

  pub same_heaps : body_heaps y ≡ body_heaps x
  same_heaps = ap₂ (λ (a b : List (HeapType ℕ)). a ++ b) (ap (λ (ops : List Op). flat_map op_heaps ops) same.operators)
      (ap (λ (ls : List ℕ). flat_map (λ l. heaps_by val_heaps (y.local_type l)) ls) same_used
      ∙ same_flat (λ l. heaps_by val_heaps (y.local_type l)) (λ l. heaps_by val_heaps (x.local_type l)) (used_locals x) (λ l used. ap (heaps_by val_heaps) (local_same l used)))

  pub same_names : body_names y ≡ body_names x
  same_names = ap₂ (λ (a b : List Item). a ++ b) (ap names_of same.operators)
      (ap (λ (ls : List ℕ). flat_map (local_names y) ls) same_used
      ∙ same_flat (local_names y) (local_names x) (used_locals x) (λ l used. ap (named_by (λ (v : ValType ℕ). map type_item (val_names v))) (local_same l used)))

  -- what it declares it declared
  pub few_still : DeclaresFew x → DeclaresFew y
  few_still few ls apart are = few ls apart (λ l has. let d : DeclaresLocal y l = are l has in
      (subst (λ us. Contains us l) same_used d.0, λ at. d.1 (subst (λ ps. Contains ps l) (sym same.parameters) at)))

  -- and each local that it uses has its type
  pub typed_still : (l : ℕ) → IsUsed y l → IsSome (y.local_type l)
  typed_still l used =
      let before : IsUsed x l = subst (λ (ls : List ℕ). Contains ls l) same_used used in
      subst (λ (o : Option (ValType ℕ)). IsSome o) (sym (local_same l before)) (typed l before)

-- ---- an item that is kept

-- what is shown of each space is shown of all
pub by_space : (P : Space → Type 0) → P Types → P Functions → P Tables → P Memories → P Tags → P Globals → P Elements → P DataSegments → (s : Space) → P s
by_space P a b c d e f g h Types = a
by_space P a b c d e f g h Functions = b
by_space P a b c d e f g h Tables = c
by_space P a b c d e f g h Memories = d
by_space P a b c d e f g h Tags = e
by_space P a b c d e f g h Globals = f
by_space P a b c d e f g h Elements = g
by_space P a b c d e f g h DataSegments = h

-- a function may have more locals
abbrev pub Keeps : (s : Space) → Option (Thing s) → Option (Thing s) → Type 0
Keeps Types a b = b ≡ a
Keeps Functions a b = KeepsFunction a b
Keeps Tables a b = b ≡ a
Keeps Memories a b = b ≡ a
Keeps Tags a b = b ≡ a
Keeps Globals a b = b ≡ a
Keeps Elements a b = b ≡ a
Keeps DataSegments a b = b ≡ a

-- x is in w what it was in v
abbrev pub IsKept : Abstract → Abstract → Item → Type 0
IsKept v w x = Keeps x.0 (look v x.0 x.1) (look w x.0 x.1)

keeps_kind : (k : FunctionKind) → KeepsKind k k
keeps_kind (LocalFunction x) = (x, refl, record { parameters = refl; operators = refl; types = λ l t at. at })
keeps_kind (ImportedFunction i) = refl
keeps_kind Uninitialised = refl

pub keeps_function : (a b : Option Function) → b ≡ a → KeepsFunction a b
keeps_function None b e = e
keeps_function (Some f) b e = (f.kind, e, keeps_kind f.kind)

pub keeps_same : (s : Space) (a b : Option (Thing s)) → b ≡ a → Keeps s a b
keeps_same Types a b e = e
keeps_same Functions a b e = keeps_function a b e
keeps_same Tables a b e = e
keeps_same Memories a b e = e
keeps_same Tags a b e = e
keeps_same Globals a b e = e
keeps_same Elements a b e = e
keeps_same DataSegments a b e = e

-- where nothing was there is nothing
pub kept_none : (s : Space) (a b : Option (Thing s)) → Keeps s a b → a ≡ None → b ≡ None
kept_none Types a b e none = e ∙ none
kept_none Functions a b k none = subst (λ (o : Option Function). KeepsFunction o b) none k
kept_none Tables a b e none = e ∙ none
kept_none Memories a b e none = e ∙ none
kept_none Tags a b e none = e ∙ none
kept_none Globals a b e none = e ∙ none
kept_none Elements a b e none = e ∙ none
kept_none DataSegments a b e none = e ∙ none

-- ---- what others rest on

-- of a type all; of a table or a memory the type of its addresses, of a global its type and what brings it; of the others that they are there
abbrev pub Outline : (s : Space) → Thing s → Thing s → Type 0
Outline Types x y = y ≡ x
Outline Functions x y = Unit {0}
Outline Tables x y = y.ty.limits.wide ≡ x.ty.limits.wide
Outline Memories x y = y.ty.limits.wide ≡ x.ty.limits.wide
Outline Tags x y = Unit {0}
Outline Globals x y = (y.origin ≡ x.origin) × (y.ty.value ≡ x.ty.value)
Outline Elements x y = Unit {0}
Outline DataSegments x y = Unit {0}

-- so much of y stays, where it is there
abbrev pub KeepsOutline : Abstract → Abstract → Item → Type 0
KeepsOutline v w y = (t : Thing y.0) → look v y.0 y.1 ≡ Some t → (u : Thing y.0) × (look w y.0 y.1 ≡ Some u) × Outline y.0 t u

pub outline_kept : (v w : Abstract) (s : Space) (i : ℕ) → IsKept v w (s, i) → KeepsOutline v w (s, i)
outline_kept v w Types i e t at = (t, e ∙ at, refl)
outline_kept v w Functions i k t at = let g : KeepsFunction (Some t) (w.functions i) = subst (λ (o : Option Function). KeepsFunction o (w.functions i)) at k in (_, g.1, tt)
outline_kept v w Tables i e t at = (t, e ∙ at, refl)
outline_kept v w Memories i e t at = (t, e ∙ at, refl)
outline_kept v w Tags i e t at = (t, e ∙ at, tt)
outline_kept v w Globals i e t at = (t, e ∙ at, (refl, refl))
outline_kept v w Elements i e t at = (t, e ∙ at, tt)
outline_kept v w DataSegments i e t at = (t, e ∙ at, tt)

pub live_on : (v w : Abstract) (x : Item) → KeepsOutline v w x → IsLive v x → IsLive w x
live_on v w x stays h =
    let there = some_of (look v x.0 x.1) (live_to v x.0 x.1 h) in
    let now = stays there.0 there.1 in
    live_from w x.0 x.1 (some_there (look w x.0 x.1) now.1)

-- ---- what is read of an item, where the same stands at its number

module _ (v w : Abstract) (i : ℕ) where
  pub written_same : (s : Space) → look w s i ≡ look v s i → written_in w (s, i) ≡ written_in v (s, i)
  written_same s e = written_in_look w s i ∙ ap (named_by (names_in_thing s)) e ∙ sym (written_in_look v s i)

  pub heaps_same : (s : Space) → look w s i ≡ look v s i → heaps_in w (s, i) ≡ heaps_in v (s, i)
  heaps_same = by_space (λ s. look w s i ≡ look v s i → heaps_in w (s, i) ≡ heaps_in v (s, i))
      (λ e. ap (heaps_by _) e) (λ e. ap (heaps_by _) e) (λ e. ap (heaps_by _) e) (λ e. refl) (λ e. refl) (λ e. ap (heaps_by _) e) (λ e. ap (heaps_by _) e) (λ e. refl)

  pub consts_same : (s : Space) → look w s i ≡ look v s i → consts_in w (s, i) ≡ consts_in v (s, i)
  consts_same = by_space (λ s. look w s i ≡ look v s i → consts_in w (s, i) ≡ consts_in v (s, i))
      (λ e. refl) (λ e. refl) (λ e. ap (consts_by _) e) (λ e. refl) (λ e. refl) (λ e. ap (consts_by _) e) (λ e. ap (consts_by _) e) (λ e. ap (consts_by _) e)

-- what stands written in a thing stands written in its item
pub written_there : (m : Abstract) (s : Space) (i : ℕ) (t : Thing s) (y : Item) → look m s i ≡ Some t → Contains (names_in_thing s t) y → Contains (written_in m (s, i)) y
written_there m s i t y at has = subst (λ (l : List Item). Contains l y) (sym (written_in_look m s i ∙ ap (named_by (names_in_thing s)) at)) has

-- and back
pub thing_there : (m : Abstract) (s : Space) (i : ℕ) (y : Item) → Contains (written_in m (s, i)) y → (t : Thing s) × (look m s i ≡ Some t) × Contains (names_in_thing s t) y
thing_there m s i y at = by (look m s i) refl (subst (λ (l : List Item). Contains l y) (written_in_look m s i) at) where
  by : (o : Option (Thing s)) → look m s i ≡ o → Contains (named_by (names_in_thing s) o) y → (t : Thing s) × (look m s i ≡ Some t) × Contains (names_in_thing s t) y
  by (Some t) is has = (t, is, has)
  by None is has = absurd (Contains-none y has)

-- ---- the import that brings a kept item

import_function : (a b : Option Function) → KeepsFunction a b → import_in (λ (f : Function). kind_import f.kind) b ≡ import_in (λ (f : Function). kind_import f.kind) a
import_function None b e = ap (import_in (λ (f : Function). kind_import f.kind)) e
import_function (Some f) b k = ap (import_in (λ (g : Function). kind_import g.kind)) k.1 ∙ by f.kind k.2 where
  by : (l : FunctionKind) → KeepsKind l k.0 → kind_import k.0 ≡ kind_import l
  by (LocalFunction x) h = ap kind_import h.1
  by (ImportedFunction i) h = ap kind_import h
  by Uninitialised h = ap kind_import h

pub import_kept : (v w : Abstract) (s : Space) (i : ℕ) → IsKept v w (s, i) → import_of w (s, i) ≡ import_of v (s, i)
import_kept v w Types i e = refl
import_kept v w Functions i k = import_function (v.functions i) (w.functions i) k
import_kept v w Tables i e = ap (import_in _) e
import_kept v w Memories i e = ap (import_in _) e
import_kept v w Tags i e = ap (import_in _) e
import_kept v w Globals i e = ap (import_in _) e
import_kept v w Elements i e = refl
import_kept v w DataSegments i e = refl
