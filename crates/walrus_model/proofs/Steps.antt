-- A step, and then a step that takes all that there is.
use Rattle.std.proofs.Common.{◌≡◌, ℕ, refl, sym, ap, subst, inl, ⊎_elim}
use Rattle.std.specs.Prelude.{Option, Some, None, Contains}
use Rattle.walrus_base.specs.Operators.{Space, Types, Functions, Tables, Memories, Tags, Globals, Elements, DataSegments, Item, type_item}
use Rattle.walrus_model.specs.Abstract.{Abstract, Import}
use Rattle.walrus_model.specs.Live.{IsLive}
use Rattle.walrus_model.specs.Refers.{named_by, type_names}
use Rattle.walrus_model.specs.Reached.{step}
use Rattle.walrus_model.specs.Kept.{Kept, IsImportOf, IsSpareMemory}
use Rattle.walrus_model.specs.Renaming.{Renaming, joined, renamed_import}
use Rattle.walrus_model.specs.Same.{BothAnd, SameType, SameFunction}
use Rattle.walrus_model.specs.Carried.{Carried}
use Rattle.walrus_model.specs.Closed.{HoldsItsTypes, NamesAreLive}
use Rattle.walrus_model.specs.Laws.{Joins}
use Rattle.walrus_model.proofs.Compose.{second_there, carried_joined}

-- a chosen item is there under its new number
pub live_under : (K A : Item → Type 0) (r : Renaming) (m n : Abstract) → Carried K A r m n → (space : Space) (i : ℕ) → K (space, i) → IsLive n (space, r.numbers space i)
live_under K A r m n c Types i k = second_there (SameType (r.numbers Types) i) (m.types i) (n.types (r.numbers Types i)) (c.types.same i k)
live_under K A r m n c Functions i k = second_there (SameFunction r i) (m.functions i) (n.functions (r.numbers Functions i)) (c.functions.same i k)
live_under K A r m n c Tables i k = second_there _ (m.tables i) (n.tables (r.numbers Tables i)) (c.tables.same i k)
live_under K A r m n c Memories i k = second_there _ (m.memories i) (n.memories (r.numbers Memories i)) (c.memories.same i k)
live_under K A r m n c Tags i k = second_there _ (m.tags i) (n.tags (r.numbers Tags i)) (c.tags.same i k)
live_under K A r m n c Globals i k = second_there _ (m.globals i) (n.globals (r.numbers Globals i)) (c.globals.same i k)
live_under K A r m n c Elements i k = second_there _ (m.elements i) (n.elements (r.numbers Elements i)) (c.elements.same i k)
live_under K A r m n c DataSegments i k = second_there _ (m.data_segments i) (n.data_segments (r.numbers DataSegments i)) (c.data_segments.same i k)

-- what stands at the new number, where it is known what stands at the old one
pub given : {X : Type 0} (S : X → X → Type 0) (a b : Option X) (x : X) → BothAnd S a b → a ≡ Some x → (y : X) × (b ≡ Some y) × S x y
given S (Some z) (Some y) x s e = (y, refl, subst (λ w. S w y) (let p : z ≡ x = cc in p) s)
given S (Some z) None x s e = absurd s
given S None b x s e = absurd s

pub import_under : (K A : Item → Type 0) (r : Renaming) (m n : Abstract) → Carried K A r m n → (i : ℕ) → IsImportOf K m i → IsImportOf (IsLive n) n (r.imports i)
import_under K A r m n c i at =
    let there = given (λ x y. y ≡ renamed_import r x) (m.imports i) (n.imports (r.imports i)) at.0 (c.imports.same i at) at.1 in
    let live = live_under K A r m n c at.0.item.0 at.0.item.1 at.2 in
    (there.0, there.1, subst (λ (y : Import). IsLive n y.item) (sym there.2) live)

-- a step, and then all of what came of it, with what the second step adds
module _ (K Q : Item → Type 0) (r s : Renaming) (a b c : Abstract) where
  joins_all : Carried K (λ x. ⊥) r a b → Joins K (IsLive b) K (λ x. ⊥) Q Q r s a b
  joins_all p = record {
    down = λ space i k. (k, live_under K (λ x. ⊥) r a b p space i k);
    up = λ space i k live. (i, k, refl);
    import_down = λ i k. (k, import_under K (λ x. ⊥) r a b p i k);
    import_up = λ i k live. (i, k, refl);
    before = λ space j none live. absurd none;
    after = λ space j q. q;
  }

  pub then_all : Carried K (λ x. ⊥) r a b → Carried (IsLive b) Q s b c → Carried K Q (joined r s) a c
  then_all p q = carried_joined K (IsLive b) K (λ x. ⊥) Q Q r s a b c (joins_all p) p q

-- ---- choices that hold the types that their types name

no_spare_type : (m : Abstract) (t : ℕ) → IsSpareMemory m (type_item t) → ⊥
no_spare_type m t spare = let same : Types ≡ Memories = ap (λ (x : Item). x.0) spare.is in absurd (cc)

pub kept_holds : (m : Abstract) → HoldsItsTypes (Kept m) m
kept_holds m t u x k e at = ⊎_elim
    (λ h. inl (step (type_item t) (type_item u) h (inl (subst (λ o. Contains (named_by type_names o) (type_item u)) (sym e) at))))
    (λ spare. absurd (no_spare_type m t spare))
    k

pub live_holds : (m : Abstract) → NamesAreLive m → HoldsItsTypes (IsLive m) m
live_holds m live t u x k e at = live (type_item t) (type_item u) (subst (λ o. Contains (named_by type_names o) (type_item u)) (sym e) at)
