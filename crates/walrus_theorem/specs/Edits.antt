-- Edits of a module, each as a relation of the module before, v, and the one behind it, w. Of names of items, locals and the module nothing is said.
use Rattle.std.specs.Prelude.{ℕ, Bool, true, List, [], ◌∷◌, ◌++◌, Option, Some, None, Contains, ◌≡◌, ◌≢◌, ◌⊎◌}
use Rattle.walrus_base.specs.Types.{ValType}
use Rattle.walrus_base.specs.Operators.{Space, Types, Functions, Tables, Memories, Tags, Globals, Elements, DataSegments, Item, function_item}
use Rattle.walrus_model.specs.Abstract.{Abstract, Body, FunctionKind, ImportedFunction, LocalFunction, Uninitialised, Function, Import, Export, Custom}
use Rattle.walrus_model.specs.Refers.{KeepsToo}
use Rattle.walrus_model.specs.Spaces.{Thing, look}
use Rattle.walrus_model.specs.WellMade.{import_of}

-- ---- lists

-- of these things this one is gone
pub record Loses {X : Type 0} (x : X) (before after : List X) : Type 0 where
  pub front : List X
  pub back : List X
  pub was : before ≡ front ++ x ∷ back
  pub is : after ≡ front ++ back

-- in place of x stands y
pub record Swaps {X : Type 0} (x y : X) (before after : List X) : Type 0 where
  pub front : List X
  pub back : List X
  pub was : before ≡ front ++ x ∷ back
  pub is : after ≡ front ++ y ∷ back

-- ---- what stands at numbers

-- at number n stood a and stands b, all else is as it was
pub record Sets {X : Type 0} (n : ℕ) (a b : Option X) (before after : ℕ → Option X) : Type 0 where
  pub was : before n ≡ a
  pub is : after n ≡ b
  pub others : (i : ℕ) → i ≢ n → after i ≡ before i

-- a body has the same parameters and operators, and the locals that had a type have it still
pub record KeepsBody (x y : Body) : Type 0 where
  pub parameters : y.parameters ≡ x.parameters
  pub operators : y.operators ≡ x.operators
  pub types : (l : ℕ) (t : ValType ℕ) → x.local_type l ≡ Some t → y.local_type l ≡ Some t

abbrev pub KeepsKind : FunctionKind → FunctionKind → Type 0
KeepsKind (LocalFunction x) kind = (y : Body) × (kind ≡ LocalFunction y) × KeepsBody x y
KeepsKind (ImportedFunction i) kind = kind ≡ ImportedFunction i
KeepsKind Uninitialised kind = kind ≡ Uninitialised

-- a function is what it was, and so is a place where there is none; locals may have come that it doesn't use
abbrev pub KeepsFunction : Option Function → Option Function → Type 0
KeepsFunction None after = after ≡ None
KeepsFunction (Some f) after = (kind : FunctionKind) × (after ≡ Some (record { ty = f.ty; kind = kind })) × KeepsKind f.kind kind

-- function n was a and is b, each other one is what it was
pub record SetsFunction (n : ℕ) (a b : Option Function) (before after : ℕ → Option Function) : Type 0 where
  pub was : before n ≡ a
  pub is : after n ≡ b
  pub others : (i : ℕ) → i ≢ n → KeepsFunction (before i) (after i)

-- ---- but for some parts w is v

-- v with the items of one space as w has them
abbrev pub with_space : Space → Abstract → Abstract → Abstract
with_space Types v w = record v { types = w.types; named = w.named }
with_space Functions v w = record v { functions = w.functions; handler_types = w.handler_types; named = w.named }
with_space Tables v w = record v { tables = w.tables; table_segments = w.table_segments; named = w.named }
with_space Memories v w = record v { memories = w.memories; memory_segments = w.memory_segments; named = w.named }
with_space Tags v w = record v { tags = w.tags; named = w.named }
with_space Globals v w = record v { globals = w.globals; named = w.named }
with_space Elements v w = record v { elements = w.elements; named = w.named }
with_space DataSegments v w = record v { data_segments = w.data_segments; named = w.named }

-- the same, with the imports of w too
abbrev pub with_imported : Space → Abstract → Abstract → Abstract
with_imported s v w = record (with_space s v w) { imports = w.imports }

-- beside what is written in it, an item other than this one keeps what it kept
abbrev pub KeepsNoMore : Item → Abstract → Abstract → Type 0
KeepsNoMore x v w = (y z : Item) → y ≢ x → KeepsToo w y z → KeepsToo v y z

-- ---- custom sections

-- one stands behind the others, and asks to keep these items
pub record GainsCustom (s : Custom) (roots : List Item) (v w : Abstract) : Type 0 where
  pub customs : w.customs ≡ v.customs ++ s ∷ []
  pub roots_left : w.section_roots ≡ v.section_roots ++ roots
  pub others : w ≡ record v { customs = w.customs; section_roots = w.section_roots }

-- one is gone, and nothing more is asked for
pub record LosesCustom (s : Custom) (v w : Abstract) : Type 0 where
  pub customs : Loses s v.customs w.customs
  pub roots_left : (x : Item) → Contains w.section_roots x → Contains v.section_roots x
  pub others : w ≡ record v { customs = w.customs; section_roots = w.section_roots }

-- in the place of one stands another, which asks to keep these items
pub record SwapsCustom (s t : Custom) (roots : List Item) (v w : Abstract) : Type 0 where
  pub customs : Swaps s t v.customs w.customs
  pub roots_left : (x : Item) → Contains w.section_roots x → Contains v.section_roots x ⊎ Contains roots x
  pub others : w ≡ record v { customs = w.customs; section_roots = w.section_roots }

-- ---- exports and imports

-- an export stands behind the others
pub record GainsExport (e : Export) (v w : Abstract) : Type 0 where
  pub exports : w.exports ≡ v.exports ++ e ∷ []
  pub others : w ≡ record v { exports = w.exports; named = w.named }

-- an export is gone
pub record LosesExport (e : Export) (v w : Abstract) : Type 0 where
  pub exports : Loses e v.exports w.exports
  pub others : w ≡ record v { exports = w.exports; named = w.named }

-- an export has another name, or names another item
pub record SwapsExport (d e : Export) (v w : Abstract) : Type 0 where
  pub exports : Swaps d e v.exports w.exports
  pub others : w ≡ record v { exports = w.exports; named = w.named }

-- import i has other names, and brings the same item
pub record RenamesImport (i : ℕ) (x y : Import) (v w : Abstract) : Type 0 where
  pub imports : Sets i (Some x) (Some y) v.imports w.imports
  pub brings : y.item ≡ x.item
  pub others : w ≡ record v { imports = w.imports; named = w.named }

-- ---- functions

-- function j, which import i brought, is local, of the same type and with this body, and that import is gone; locals may have come
pub record MakesLocal (j i : ℕ) (b : Body) (v w : Abstract) : Type 0 where
  pub ty : ℕ
  pub functions : SetsFunction j (Some (record { ty = ty; kind = ImportedFunction i })) (Some (record { ty = ty; kind = LocalFunction b })) v.functions w.functions
  pub gone : w.imports i ≡ None
  pub imports : (k : ℕ) → k ≢ i → w.imports k ≡ v.imports k
  pub keeps : KeepsNoMore (function_item j) v w
  pub others : w ≡ with_imported Functions v w

-- function j, which had a body, is imported, of the same type, by import i, which is new
pub record MakesImported (j i : ℕ) (b : Body) (y : Import) (v w : Abstract) : Type 0 where
  pub ty : ℕ
  pub functions : SetsFunction j (Some (record { ty = ty; kind = LocalFunction b })) (Some (record { ty = ty; kind = ImportedFunction i })) v.functions w.functions
  pub imports : Sets i None (Some y) v.imports w.imports
  pub brings : y.item ≡ function_item j
  pub keeps : KeepsNoMore (function_item j) v w
  pub others : w ≡ with_imported Functions v w

-- a function with a body has another one
pub record SwapsBody (a b : Option Function) : Type 0 where
  pub ty : ℕ
  pub old : Body
  pub new : Body
  pub was : a ≡ Some (record { ty = ty; kind = LocalFunction old })
  pub is : b ≡ Some (record { ty = ty; kind = LocalFunction new })

-- the chosen functions have other bodies, each other function is what it was; locals may have come
pub record SwapsBodies (chosen : ℕ → Bool) (v w : Abstract) : Type 0 where
  pub functions : (i : ℕ) → KeepsFunction (v.functions i) (w.functions i) ⊎ ((chosen i ≡ true) × SwapsBody (v.functions i) (w.functions i))
  pub keeps : (x y : Item) → KeepsToo w x y → KeepsToo v x y ⊎ ((i : ℕ) × (chosen i ≡ true) × (x ≡ function_item i))
  pub others : w ≡ with_space Functions v w

-- ---- items

-- item n of a space is new, and no import brings it
pub record GainsItem (s : Space) (n : ℕ) (x : Thing s) (v w : Abstract) : Type 0 where
  pub item : Sets n None (Some x) (look v s) (look w s)
  pub own : import_of w (s, n) ≡ None
  pub keeps : KeepsNoMore (s, n) v w
  pub others : w ≡ with_space s v w

-- item n of a space is new, and so is import i, which brings it
pub record GainsImported (s : Space) (n i : ℕ) (x : Thing s) (y : Import) (v w : Abstract) : Type 0 where
  pub item : Sets n None (Some x) (look v s) (look w s)
  pub imports : Sets i None (Some y) v.imports w.imports
  pub brings : y.item ≡ (s, n)
  pub brought : import_of w (s, n) ≡ Some i
  pub keeps : KeepsNoMore (s, n) v w
  pub others : w ≡ with_imported s v w

-- item n of a space, which no import brings, is gone
pub record LosesItem (s : Space) (n : ℕ) (x : Thing s) (v w : Abstract) : Type 0 where
  pub item : Sets n (Some x) None (look v s) (look w s)
  pub own : import_of v (s, n) ≡ None
  pub keeps : KeepsNoMore (s, n) v w
  pub others : w ≡ with_space s v w

-- item n of a space is gone, and so is import i, which brought it
pub record LosesImported (s : Space) (n i : ℕ) (x : Thing s) (y : Import) (v w : Abstract) : Type 0 where
  pub item : Sets n (Some x) None (look v s) (look w s)
  pub imports : Sets i (Some y) None v.imports w.imports
  pub brought : import_of v (s, n) ≡ Some i
  pub keeps : KeepsNoMore (s, n) v w
  pub others : w ≡ with_imported s v w
