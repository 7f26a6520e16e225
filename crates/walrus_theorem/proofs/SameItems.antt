-- Modules that differ in custom sections alone: their items, and why these can't be written, are the same.
use Rattle.std.proofs.Common.{◌≡◌, ℕ, List, [], refl, ◌∙◌, subst}
use Rattle.std.specs.Prelude.{Contains, slice_index_or}
use Rattle.walrus_base.specs.Types.{HeapType}
use Rattle.walrus_base.specs.Operators.{Space, Types, Functions, Tables, Memories, Tags, Globals, Elements, DataSegments, Item, Op}
use Rattle.walrus_model.specs.Abstract.{Abstract, Body, Custom}
use Rattle.walrus_model.specs.Config.{Config}
use Rattle.walrus_model.specs.Dead.{HasDead, DeadName, DeadLocal, DeadExport, DeadStart, DeadImport, NoKind}
use Rattle.walrus_model.specs.Live.{IsLive}
use Rattle.walrus_model.specs.Order.{ByImport}
use Rattle.walrus_model.specs.Refers.{written_in}
use Rattle.walrus_model.specs.WellMade.{consts_in, heaps_in, import_of}
use Rattle.walrus_theorem.specs.Refused.{HasKind, HasTwoIndices, LocalImported, ImportedTwice, LacksIndex, NotBrought, LocalGlobalRead, LaterGlobalRead, LaterSupertype, LaterType, HasUnspelled, ExactType, ExactConstant, EmptyConstant, IllFormed, PassesLimits, ManyItems, ManyLocals, TableLimit, MemoryLimit, Unfit, WritesUnfit}
use Rattle.walrus_theorem.specs.WellMade.{IsWellFormed}

-- the same module with these custom sections and these roots
abbrev pub with_own : Abstract → List Custom → List Item → Abstract
with_own v customs roots = record v { customs = customs; section_roots = roots }

-- ---- what is read of an item

module _ (v : Abstract) (customs : List Custom) (roots : List Item) where
  abbrev W : Abstract
  W = with_own v customs roots

  pub live_on : (x : Item) → IsLive v x → IsLive W x
  live_on (Types, i) h = h
  live_on (Functions, i) h = h
  live_on (Tables, i) h = h
  live_on (Memories, i) h = h
  live_on (Tags, i) h = h
  live_on (Globals, i) h = h
  live_on (Elements, i) h = h
  live_on (DataSegments, i) h = h

  pub live_back : (x : Item) → IsLive W x → IsLive v x
  live_back (Types, i) h = h
  live_back (Functions, i) h = h
  live_back (Tables, i) h = h
  live_back (Memories, i) h = h
  live_back (Tags, i) h = h
  live_back (Globals, i) h = h
  live_back (Elements, i) h = h
  live_back (DataSegments, i) h = h

  pub kind_on : (x : Item) → HasKind v x → HasKind W x
  kind_on (Types, i) h = h
  kind_on (Functions, i) h = h
  kind_on (Tables, i) h = h
  kind_on (Memories, i) h = h
  kind_on (Tags, i) h = h
  kind_on (Globals, i) h = h
  kind_on (Elements, i) h = h
  kind_on (DataSegments, i) h = h

  pub before_back : (s : Space) (i j : ℕ) → ByImport W s i j → ByImport v s i j
  before_back Types i j h = h
  before_back Functions i j h = h
  before_back Tables i j h = h
  before_back Memories i j h = h
  before_back Tags i j h = h
  before_back Globals i j h = h
  before_back Elements i j h = h
  before_back DataSegments i j h = h

  pub import_same : (x : Item) → import_of W x ≡ import_of v x
  import_same (Types, i) = refl
  import_same (Functions, i) = refl
  import_same (Tables, i) = refl
  import_same (Memories, i) = refl
  import_same (Tags, i) = refl
  import_same (Globals, i) = refl
  import_same (Elements, i) = refl
  import_same (DataSegments, i) = refl

  written_same : (x : Item) → written_in v x ≡ written_in W x
  written_same (Types, i) = refl
  written_same (Functions, i) = refl
  written_same (Tables, i) = refl
  written_same (Memories, i) = refl
  written_same (Tags, i) = refl
  written_same (Globals, i) = refl
  written_same (Elements, i) = refl
  written_same (DataSegments, i) = refl

  heaps_same : (x : Item) → heaps_in v x ≡ heaps_in W x
  heaps_same (Types, i) = refl
  heaps_same (Functions, i) = refl
  heaps_same (Tables, i) = refl
  heaps_same (Memories, i) = refl
  heaps_same (Tags, i) = refl
  heaps_same (Globals, i) = refl
  heaps_same (Elements, i) = refl
  heaps_same (DataSegments, i) = refl

  consts_same : (x : Item) → consts_in v x ≡ consts_in W x
  consts_same (Types, i) = refl
  consts_same (Functions, i) = refl
  consts_same (Tables, i) = refl
  consts_same (Memories, i) = refl
  consts_same (Tags, i) = refl
  consts_same (Globals, i) = refl
  consts_same (Elements, i) = refl
  consts_same (DataSegments, i) = refl

  -- ---- causes: each of v is one of W

  pub dead_on : HasDead v → HasDead W
  dead_on (DeadName x y at dead) = DeadName x y (subst (λ (l : List Item). Contains l y) (written_same x) at) (λ live. dead (live_back y live))
  dead_on (DeadLocal f x b is used none) = DeadLocal f x b is used none
  dead_on (DeadExport e at dead) = DeadExport e at (λ live. dead (live_back e.item live))
  dead_on (DeadStart f is none) = DeadStart f is none
  dead_on (DeadImport i x is dead) = DeadImport i x is (λ live. dead (live_back x.item live))
  dead_on (NoKind i f is kind) = NoKind i f is kind

  pub two_on : HasTwoIndices v → HasTwoIndices W
  two_on (LocalImported i x is live kind none) = LocalImported i x is (live_on x.item live) (kind_on x.item kind) (import_same x.item ∙ none)
  two_on (ImportedTwice i j x y is at live apart same) = ImportedTwice i j x y is at (live_on x.item live) apart same

  pub lacks_on : LacksIndex v → LacksIndex W
  lacks_on (NotBrought y i is not) = NotBrought y i (import_same y ∙ is) not
  lacks_on (LocalGlobalRead i g reads live not) = LocalGlobalRead i g reads live not
  lacks_on (LaterGlobalRead i g reads live not) = LaterGlobalRead i g reads live not
  lacks_on (LaterSupertype t u x is at live not) = LaterSupertype t u x is at live not
  lacks_on (LaterType t u x is at live not) = LaterType t u x is at live not

  formed_on : (c : Config) (ty : ℕ) (b : Body) → IsWellFormed c v ty b → IsWellFormed c W ty b
  formed_on c ty b f = record {
    function_type = f.function_type;
    distinct = f.distinct;
    typed = f.typed;
    names = f.names;
    further = f.further;
    types = f.types;
    further_typed = f.further_typed;
    text = f.text;
    read = f.read;
  }

-- what holds of W holds of v, since v has custom sections of its own too
module _ (v : Abstract) (customs : List Custom) (roots : List Item) where
  pub dead_back : HasDead (with_own v customs roots) → HasDead v
  dead_back d = dead_on (with_own v customs roots) v.customs v.section_roots d

  pub two_back : HasTwoIndices (with_own v customs roots) → HasTwoIndices v
  two_back d = two_on (with_own v customs roots) v.customs v.section_roots d

  pub lacks_back : LacksIndex (with_own v customs roots) → LacksIndex v
  lacks_back d = lacks_on (with_own v customs roots) v.customs v.section_roots d

  pub unspelled_on : (c : Config) → HasUnspelled c v → HasUnspelled c (with_own v customs roots)
  unspelled_on c (ExactType x h at not) = ExactType x h (subst (λ (l : List (HeapType ℕ)). Contains l h) (heaps_same v customs roots x) at) not
  unspelled_on c (ExactConstant x ops h at has not) = ExactConstant x ops h (subst (λ (l : List (List Op)). Contains l ops) (consts_same v customs roots x) at) has not
  unspelled_on c (EmptyConstant x at) = EmptyConstant x (subst (λ (l : List (List Op)). Contains l []) (consts_same v customs roots x) at)
  unspelled_on c (IllFormed lives i f b at is not) =
      IllFormed (λ dead. lives (dead_back dead)) i f b at is (λ formed. not (formed_on (with_own v customs roots) v.customs v.section_roots c f.ty b formed))

module _ (v : Abstract) (customs : List Custom) (roots : List Item) (c : Config) where
  pub unspelled_back : HasUnspelled c (with_own v customs roots) → HasUnspelled c v
  unspelled_back d = unspelled_on (with_own v customs roots) v.customs v.section_roots c d

  -- a limit that one passes the other passes, or what one is written as doesn't fit
  pub limits_back : ((HasDead (with_own v customs roots) → ⊥) → WritesUnfit c (with_own v customs roots) → PassesLimits c v) → PassesLimits c (with_own v customs roots) → PassesLimits c v
  limits_back unfit (ManyItems space numbers rise has many) = ManyItems space numbers rise (λ k d low. live_back v customs roots (space, slice_index_or numbers k d) (has k d low)) many
  limits_back unfit (ManyLocals f b further is apart used away many) = ManyLocals f b further is apart used away many
  limits_back unfit (TableLimit i t is passes) = TableLimit i t is passes
  limits_back unfit (MemoryLimit i t is passes) = MemoryLimit i t is passes
  limits_back unfit (Unfit lives writes) = unfit lives writes
