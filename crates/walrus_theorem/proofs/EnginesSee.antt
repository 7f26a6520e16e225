-- What an engine sees of a kept item is what it sees of the item of its new number.
use Rattle.std.proofs.Common.{◌≡◌, ℕ, suc, Bool, true, false, List, [], ◌∷◌, length, map, refl, sym, ap, ap₂, ◌∙◌, subst, eqb-true, eq-eqb}
use Rattle.std.proofs.lemmas.List.{length-map}
use Rattle.std.specs.Prelude.{Option, Some, None, option_map, Contains, ◌==◌, if◌then◌else◌}
use Rattle.walrus_base.specs.Types.{ValType, map_sub, map_val}
use Rattle.walrus_base.specs.Operators.{Space, Types, Functions, Tables, Memories, Tags, Globals, Elements, DataSegments, Item}
use Rattle.walrus_base.specs.Shape.{place_in, in_its_group, others_through}
use Rattle.walrus_model.specs.Abstract.{Abstract, TypeDef, Body, Origin, ImportedBy, Defined, FunctionKind, ImportedFunction, LocalFunction, Uninitialised, Table, Memory, Tag, Global, Import}
use Rattle.walrus_model.specs.Carried.{Carried}
use Rattle.walrus_model.specs.Kept.{IsImportOf}
use Rattle.walrus_model.specs.Refers.{used_locals}
use Rattle.walrus_model.specs.Renaming.{Renaming, renamed, renamed_ops, renamed_origin, renamed_table, renamed_memory, renamed_tag, renamed_global, renamed_element, renamed_data, renamed_import}
use Rattle.walrus_model.specs.Same.{BothAnd, SameType, SameBody, SameKind, SameFunction}
use Rattle.walrus_model.specs.WellMade.{ImportsMatch, import_in, import_of, kind_import, origin_import}
use Rattle.walrus_base.proofs.Lists.{map-map, map-same_on, Contains-head, Contains-tail}
use Rattle.walrus_base.proofs.TypeMaps.{val-map, sub-map, sub-same}
use Rattle.walrus_model.proofs.Joined.{ops_joined, tables_joined, memories_joined, tags_joined, globals_joined, elements_joined, datas_joined, others_joined}
use Rattle.walrus_model.proofs.Follow.{used_follow}
use Rattle.walrus_theorem.specs.Engines.{nothing, blank, names_of_import, source, local_seen, code_seen, kind_seen, Sight, SeesType, SeesFunction, SeesTable, SeesMemory, SeesTag, SeesGlobal, SeesElement, SeesData, type_sight, function_sight, table_sight, memory_sight, tag_sight, global_sight, seen_by, sight, is_one}

-- ---- tests that agree

bool_same : (a b : Bool) → (a ≡ true → b ≡ true) → (b ≡ true → a ≡ true) → a ≡ b
bool_same true b h k = sym (h refl)
bool_same false true h k = k refl
bool_same false false h k = refl

-- under f as before, where f keeps the two apart
pub tested : (f : ℕ → ℕ) (i j : ℕ) → (f i ≡ f j → i ≡ j) → (f i == f j) ≡ (i == j)
tested f i j apart = bool_same (f i == f j) (i == j)
    (λ h. eq-eqb i j (apart (eqb-true (f i) (f j) h)))
    (λ h. eq-eqb (f i) (f j) (ap f (eqb-true i j h)))

place_map : (f : ℕ → ℕ) (x : ℕ) (xs : List ℕ) → ((y : ℕ) → Contains xs y → f y ≡ f x → y ≡ x) → place_in (map f xs) (f x) ≡ place_in xs x
place_map f x [] apart = refl
place_map f x (y ∷ ys) apart =
    ap₂ (λ (b : Bool) (o : Option ℕ). if b then Some 0 else option_map suc o)
    (tested f y x (apart y (Contains-head y ys)))
    (place_map f x ys (λ z at. apart z (Contains-tail y z ys at)))

-- ---- bodies

module _ (r : Renaming) where
  blank_type : (o : Option (ValType ℕ)) → option_map (map_val nothing) (option_map (map_val (r.numbers Types)) o) ≡ option_map (map_val nothing) o
  blank_type None = refl
  blank_type (Some v) = ap Some (val-map nothing (r.numbers Types) v)

  module _ (i : ℕ) (a b : Body) (s : SameBody r i a b) where
    local_same : (x : ℕ) → Contains (used_locals a) x → local_seen b (r.locals i x) ≡ local_seen a x
    local_same x at =
        ap₂ (λ (o p : Option ℕ). record { first_use = o; parameter = p; ty = option_map (map_val nothing) (b.local_type (r.locals i x)) })
        (ap (λ l. place_in l (r.locals i x)) (used_follow r i a b s) ∙ place_map (r.locals i) x (used_locals a) (λ y has e. s.apart y x has at e))
        (s.parameters x at)
        ∙ ap (λ (t : Option (ValType ℕ)). record { first_use = place_in (used_locals a) x; parameter = place_in a.parameters x; ty = t })
        (ap (option_map (map_val nothing)) (s.types x at) ∙ blank_type (a.local_type x))

    code_same : code_seen b ≡ code_seen a
    code_same =
        ap₂ (λ ops uses. record { operators = ops; uses = uses })
        (ap (renamed_ops blank nothing) s.operators ∙ ops_joined r blank (r.locals i) nothing a.operators)
        (ap (map (local_seen b)) (used_follow r i a b s) ∙ map-map (local_seen b) (r.locals i) (used_locals a)
        ∙ map-same_on (λ x. local_seen b (r.locals i x)) (local_seen a) (used_locals a) local_same)

  kind_same : (i : ℕ) (a b : FunctionKind) → SameKind r i a b → kind_seen b ≡ kind_seen a
  kind_same i (ImportedFunction p) (ImportedFunction q) e = refl
  kind_same i (ImportedFunction p) (LocalFunction b) e = absurd e
  kind_same i (ImportedFunction p) Uninitialised e = absurd e
  kind_same i (LocalFunction a) (LocalFunction b) e = ap Some (code_same i a b e)
  kind_same i (LocalFunction a) (ImportedFunction q) e = absurd e
  kind_same i (LocalFunction a) Uninitialised e = absurd e
  kind_same i Uninitialised b e = absurd e

  kind_import_follows : (i : ℕ) (a b : FunctionKind) → SameKind r i a b → kind_import b ≡ option_map r.imports (kind_import a)
  kind_import_follows i (ImportedFunction p) (ImportedFunction q) e = ap Some e
  kind_import_follows i (ImportedFunction p) (LocalFunction b) e = absurd e
  kind_import_follows i (ImportedFunction p) Uninitialised e = absurd e
  kind_import_follows i (LocalFunction a) (LocalFunction b) e = refl
  kind_import_follows i (LocalFunction a) (ImportedFunction q) e = absurd e
  kind_import_follows i (LocalFunction a) Uninitialised e = absurd e
  kind_import_follows i Uninitialised b e = absurd e

  origin_import_follows : (o : Origin) → origin_import (renamed_origin r o) ≡ option_map r.imports (origin_import o)
  origin_import_follows (ImportedBy p) = refl
  origin_import_follows Defined = refl

  type_same : (i : ℕ) (x y : TypeDef) → SameType (r.numbers Types) i x y → type_sight (r.numbers Types i) y ≡ type_sight i x
  type_same i x y s =
      ap₂ (λ (k : ℕ) (o : Option ℕ). SeesType k o (map_sub (others_through nothing) (in_its_group y)))
      (ap length s.group ∙ length-map x.group (r.numbers Types)) s.position
      ∙ ap (SeesType (length x.group) (place_in x.group i))
      (ap (map_sub (others_through nothing)) s.sub
      ∙ sub-map (others_through nothing) (others_through (r.numbers Types)) (in_its_group x)
      ∙ sub-same (λ t. others_through nothing (others_through (r.numbers Types) t)) (others_through nothing) (in_its_group x) (others_joined nothing (r.numbers Types)))

import_names_follow : (r : Renaming) (a b : Option Import) → BothAnd (λ x y. y ≡ renamed_import r x) a b → option_map names_of_import b ≡ option_map names_of_import a
import_names_follow r (Some x) (Some y) e = ap (λ z. Some (names_of_import z)) e
import_names_follow r (Some x) None e = absurd e
import_names_follow r None b e = absurd e

-- what is seen of what stands there, where S says how the new one is the old one
seen_follows : {X : Type 0} (S : X → X → Type 0) (new old : X → Sight) (a b : Option X) → ((x y : X) → a ≡ Some x → S x y → new y ≡ old x) → BothAnd S a b → seen_by new b ≡ seen_by old a
seen_follows S new old (Some x) (Some y) law s = law x y refl s
seen_follows S new old (Some x) None law s = absurd s
seen_follows S new old None b law s = absurd s

module _ (K A : Item → Type 0) (r : Renaming) (m n : Abstract) (match : ImportsMatch m) (c : Carried K A r m n) where
  source_by : (x : Item) → K x → (p : Option ℕ) → import_of m x ≡ p → source n (option_map r.imports p) ≡ source m p
  source_by x k None e = refl
  source_by x k (Some p) e =
      let found = match.items x p e in
      let chosen : IsImportOf K m p = (found.0, found.1, subst K (sym found.2) k) in
      import_names_follow r (m.imports p) (n.imports (r.imports p)) (c.imports.same p chosen)

  source_follows : (x : Item) → K x → (p q : Option ℕ) → import_of m x ≡ p → q ≡ option_map r.imports p → source n q ≡ source m p
  source_follows x k p q e f = ap (source n) f ∙ source_by x k p e

  pub sight_follows : (x : Item) → K x → sight n (renamed r x) ≡ sight m x
  sight_follows (Types, i) k = seen_follows (SameType (r.numbers Types) i) (type_sight (r.numbers Types i)) (type_sight i) (m.types i) (n.types (r.numbers Types i)) (λ x y at s. type_same r i x y s) (c.types.same i k)
  sight_follows (Functions, i) k = seen_follows (SameFunction r i) (function_sight n) (function_sight m) (m.functions i) (n.functions (r.numbers Functions i))
      (λ x y at s. ap₂ SeesFunction
      (source_follows (Functions, i) k (kind_import x.kind) (kind_import y.kind) (ap (import_in (λ f. kind_import f.kind)) at) (kind_import_follows r i x.kind y.kind s.kind))
      (kind_same r i x.kind y.kind s.kind))
      (c.functions.same i k)
  sight_follows (Tables, i) k = seen_follows (λ x y. y ≡ renamed_table r x) (table_sight n) (table_sight m) (m.tables i) (n.tables (r.numbers Tables i))
      (λ x y at s. ap₂ SeesTable
      (source_follows (Tables, i) k (origin_import x.origin) (origin_import y.origin) (ap (import_in (λ t. origin_import t.origin)) at) (ap (λ (t : Table). origin_import t.origin) s ∙ origin_import_follows r x.origin))
      (tables_joined r blank x y (renamed_table blank y) s refl))
      (c.tables.same i k)
  sight_follows (Memories, i) k = seen_follows (λ x y. y ≡ renamed_memory r x) (memory_sight n) (memory_sight m) (m.memories i) (n.memories (r.numbers Memories i))
      (λ x y at s. ap₂ SeesMemory
      (source_follows (Memories, i) k (origin_import x.origin) (origin_import y.origin) (ap (import_in (λ t. origin_import t.origin)) at) (ap (λ (t : Memory). origin_import t.origin) s ∙ origin_import_follows r x.origin))
      (memories_joined r blank x y (renamed_memory blank y) s refl))
      (c.memories.same i k)
  sight_follows (Tags, i) k = seen_follows (λ x y. y ≡ renamed_tag r x) (tag_sight n) (tag_sight m) (m.tags i) (n.tags (r.numbers Tags i))
      (λ x y at s. ap₂ SeesTag
      (source_follows (Tags, i) k (origin_import x.origin) (origin_import y.origin) (ap (import_in (λ t. origin_import t.origin)) at) (ap (λ (t : Tag). origin_import t.origin) s ∙ origin_import_follows r x.origin))
      (tags_joined r blank x y (renamed_tag blank y) s refl))
      (c.tags.same i k)
  sight_follows (Globals, i) k = seen_follows (λ x y. y ≡ renamed_global r x) (global_sight n) (global_sight m) (m.globals i) (n.globals (r.numbers Globals i))
      (λ x y at s. ap₂ SeesGlobal
      (source_follows (Globals, i) k (origin_import x.origin) (origin_import y.origin) (ap (import_in (λ t. origin_import t.origin)) at) (ap (λ (t : Global). origin_import t.origin) s ∙ origin_import_follows r x.origin))
      (globals_joined r blank x y (renamed_global blank y) s refl))
      (c.globals.same i k)
  sight_follows (Elements, i) k = seen_follows (λ x y. y ≡ renamed_element r x) (λ e. SeesElement (renamed_element blank e)) (λ e. SeesElement (renamed_element blank e)) (m.elements i) (n.elements (r.numbers Elements i))
      (λ x y at s. ap SeesElement (elements_joined r blank x y (renamed_element blank y) s refl))
      (c.elements.same i k)
  sight_follows (DataSegments, i) k = seen_follows (λ x y. y ≡ renamed_data r x) (λ d. SeesData (renamed_data blank d)) (λ d. SeesData (renamed_data blank d)) (m.data_segments i) (n.data_segments (r.numbers DataSegments i))
      (λ x y at s. ap SeesData (datas_joined r blank x y (renamed_data blank y) s refl))
      (c.data_segments.same i k)

  apart : (space : Space) → (space ≡ Types → ⊥) → (i j : ℕ) → K (space, i) → K (space, j) → (r.numbers space i == r.numbers space j) ≡ (i == j)
  apart space other i j k l = tested (r.numbers space) i j (λ e. c.apart space other i j k l e)

  pub one_follows : (x y : Item) → K x → K y → is_one (renamed r x) (renamed r y) ≡ is_one x y
  one_follows (Functions, i) (Functions, j) k l = apart Functions (λ e. absurd (cc)) i j k l
  one_follows (Tables, i) (Tables, j) k l = apart Tables (λ e. absurd (cc)) i j k l
  one_follows (Memories, i) (Memories, j) k l = apart Memories (λ e. absurd (cc)) i j k l
  one_follows (Tags, i) (Tags, j) k l = apart Tags (λ e. absurd (cc)) i j k l
  one_follows (Globals, i) (Globals, j) k l = apart Globals (λ e. absurd (cc)) i j k l
  one_follows (Elements, i) (Elements, j) k l = apart Elements (λ e. absurd (cc)) i j k l
  one_follows (DataSegments, i) (DataSegments, j) k l = apart DataSegments (λ e. absurd (cc)) i j k l
  one_follows (s, i) (t, j) k l = refl
