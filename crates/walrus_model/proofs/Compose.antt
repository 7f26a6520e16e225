-- Two carried steps as one.
use Rattle.std.proofs.Common.{◌≡◌, ℕ, map, refl, sym, ap, ◌∙◌, subst, inl, inr, ⊎_elim}
use Rattle.std.specs.Prelude.{Option, Some, None, option_map, IsSome, ◌⊎◌}
use Rattle.walrus_base.specs.Operators.{Space, Types, Functions, Tables, Memories, Tags, Globals, Elements, DataSegments, Item}
use Rattle.walrus_model.specs.Abstract.{Abstract}
use Rattle.walrus_model.specs.Renaming.{Renaming, joined, renamed_import, renamed_export}
use Rattle.walrus_model.specs.Same.{BothAnd}
use Rattle.walrus_model.specs.Carried.{Carries, KeepsApart, Carried, In}
use Rattle.walrus_model.specs.Kept.{IsImportOf}
use Rattle.walrus_model.specs.Laws.{Joins}
use Rattle.walrus_base.proofs.Lists.{map-map}
use Rattle.walrus_model.proofs.Joined.{type_joined, function_joined, tables_joined, memories_joined, tags_joined, globals_joined, elements_joined, datas_joined}

both_joined : {X : Type 0} (S T U : X → X → Type 0) → ((x y z : X) → S x y → T y z → U x z) → (a b c : Option X) → BothAnd S a b → BothAnd T b c → BothAnd U a c
both_joined S T U law (Some x) (Some y) (Some z) p q = law x y z p q
both_joined S T U law (Some x) (Some y) None p q = absurd q
both_joined S T U law (Some x) None c p q = absurd p
both_joined S T U law None b c p q = absurd p

pub first_there : {X : Type 0} (S : X → X → Type 0) (a b : Option X) → BothAnd S a b → IsSome a
first_there S (Some x) b p = refl
first_there S None b p = absurd p

pub second_there : {X : Type 0} (S : X → X → Type 0) (a b : Option X) → BothAnd S a b → IsSome b
second_there S (Some x) (Some y) p = refl
second_there S (Some x) None p = absurd p
second_there S None b p = absurd p

-- what joins two steps in one space
record Meets (K L J P Q A : ℕ → Type 0) (r s : ℕ → ℕ) : Type 0 where
  down : (i : ℕ) → J i → K i × L (r i)
  up : (i : ℕ) → K i → L (r i) → (j : ℕ) × J j × (r j ≡ r i)
  before : (j : ℕ) → P j → L j → A (s j)
  after : (j : ℕ) → Q j → A j

module _ {K L J P Q A : ℕ → Type 0} {r s : ℕ → ℕ} where
  onto_first : Meets K L J P Q A r s → (k j : ℕ) → L j → s j ≡ k → ((i : ℕ) × K i × (r i ≡ j)) ⊎ P j → ((i : ℕ) × J i × (s (r i) ≡ k)) ⊎ A k
  onto_first j k at l e from = ⊎_elim
      (λ found. let again = j.up found.0 found.1 (subst L (sym found.2) l) in inl (again.0, again.1, ap s (again.2 ∙ found.2) ∙ e))
      (λ added. inr (subst A e (j.before at added l)))
      from

module _ {X : Type 0} {K L J P Q A : ℕ → Type 0} {r s : ℕ → ℕ} {S T U : ℕ → X → X → Type 0} {xs ys zs : ℕ → Option X} where
  carries_joined : Meets K L J P Q A r s → ((i : ℕ) (x y z : X) → S i x y → T (r i) y z → U i x z) → Carries K P r S xs ys → Carries L Q s T ys zs → Carries J A (λ i. s (r i)) U xs zs
  carries_joined j law c d = record {
    same = λ i at. let both = j.down i at in both_joined (S i) (T (r i)) (U i) (law i) (xs i) (ys (r i)) (zs (s (r i))) (c.same i both.0) (d.same (r i) both.1);
    onto = λ k there. ⊎_elim
        (λ found. onto_first j k found.0 found.1 found.2 (c.onto found.0 (first_there (T found.0) (ys found.0) (zs (s found.0)) (d.same found.0 found.1))))
        (λ added. inr (j.after k added))
        (d.onto k there);
  }

apart_joined : (K L J : ℕ → Type 0) (r s : ℕ → ℕ) → ((i : ℕ) → J i → K i × L (r i)) → KeepsApart K r → KeepsApart L s → KeepsApart J (λ i. s (r i))
apart_joined K L J r s down c d i j at to e = let one = down i at in let other = down j to in c i j one.0 other.0 (d (r i) (r j) one.1 other.1 e)

start_joined : (r s : ℕ → ℕ) (o : Option ℕ) → option_map s (option_map r o) ≡ option_map (λ i. s (r i)) o
start_joined r s None = refl
start_joined r s (Some f) = refl

module _ (K L J P Q A : Item → Type 0) (r s : Renaming) (a b c : Abstract) (j : Joins K L J P Q A r s a b) where
  meets : (space : Space) → Meets (In K space) (In L space) (In J space) (In P space) (In Q space) (In A space) (r.numbers space) (s.numbers space)
  meets space = record { down = j.down space; up = j.up space; before = j.before space; after = j.after space }

  imports_meet : Meets (IsImportOf K a) (IsImportOf L b) (IsImportOf J a) (λ i. ⊥) (λ i. ⊥) (λ i. ⊥) r.imports s.imports
  imports_meet = record { down = j.import_down; up = j.import_up; before = λ i none l. none; after = λ i none. none }

  pub carried_joined : Carried K P r a b → Carried L Q s b c → Carried J A (joined r s) a c
  carried_joined p q = record {
    types = carries_joined (meets Types) (type_joined (s.numbers Types) (r.numbers Types)) p.types q.types;
    imports = carries_joined imports_meet (λ i x y z e f. f ∙ ap (renamed_import s) e) p.imports q.imports;
    functions = carries_joined (meets Functions) (function_joined r s) p.functions q.functions;
    tables = carries_joined (meets Tables) (λ i. tables_joined r s) p.tables q.tables;
    memories = carries_joined (meets Memories) (λ i. memories_joined r s) p.memories q.memories;
    tags = carries_joined (meets Tags) (λ i. tags_joined r s) p.tags q.tags;
    globals = carries_joined (meets Globals) (λ i. globals_joined r s) p.globals q.globals;
    elements = carries_joined (meets Elements) (λ i. elements_joined r s) p.elements q.elements;
    data_segments = carries_joined (meets DataSegments) (λ i. datas_joined r s) p.data_segments q.data_segments;
    imports_apart = apart_joined (IsImportOf K a) (IsImportOf L b) (IsImportOf J a) r.imports s.imports j.import_down p.imports_apart q.imports_apart;
    apart = λ space h. apart_joined (In K space) (In L space) (In J space) (r.numbers space) (s.numbers space) (j.down space) (p.apart space h) (q.apart space h);
    exports = q.exports ∙ ap (map (renamed_export s)) p.exports ∙ map-map (renamed_export s) (renamed_export r) a.exports;
    start = q.start ∙ ap (option_map (s.numbers Functions)) p.start ∙ start_joined (r.numbers Functions) (s.numbers Functions) a.start;
  }
