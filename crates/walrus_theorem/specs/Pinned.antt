-- What a module in memory is written as: `Written`, and what that leaves open, which emission decides.
use Rattle.std.specs.Prelude.{ℕ, Some, Contains, true, ◌≡◌, ◌<◌, ◌⊎◌}
use Rattle.walrus_base.specs.Types.{ValType}
use Rattle.walrus_base.specs.Operators.{Types}
use Rattle.walrus_model.specs.DeclaredLocals.{rank}
use Rattle.walrus_model.specs.Abstract.{Abstract, AnItem, Body}
use Rattle.walrus_model.specs.Config.{Config}
use Rattle.walrus_model.specs.Live.{IsLive}
use Rattle.walrus_model.specs.Names.{body_of, own_name}
use Rattle.walrus_model.specs.Out.{Written}
use Rattle.walrus_model.specs.Refers.{IsUsed}
use Rattle.walrus_model.specs.Renaming.{Renaming}

-- ---- declared locals go by the rank of their types, references by their lowest locals; those of one type by their numbers

module _ (b : Body) where
  -- x is a local of the body, and has this type
  abbrev pub LocalHasType : ℕ → ValType ℕ → Type 0
  LocalHasType x v = b.local_type x ≡ Some v

  -- a local that is used, and is no parameter
  abbrev pub DeclaresLocal : ℕ → Type 0
  DeclaresLocal x = IsUsed b x × (Contains b.parameters x → ⊥)

  -- a declared local of the first type has a lower number than all those of the second
  abbrev pub LocalTypeBeginsBefore : ValType ℕ → ValType ℕ → Type 0
  LocalTypeBeginsBefore v w = (x : ℕ) × (DeclaresLocal x × LocalHasType x v × ((y : ℕ) → DeclaresLocal y → LocalHasType y w → x < y))

  -- locals of type v are declared in front of those of type w: v has the lower rank, or both have one and v has a declared local below all those of w
  abbrev pub LocalTypeGoesBefore : ValType ℕ → ValType ℕ → Type 0
  LocalTypeGoesBefore v w = (rank v < rank w) ⊎ ((rank v ≡ rank w) × LocalTypeBeginsBefore v w)

  -- local x goes before local y where both are declared: its type goes before that of y, or both have one type and x has the lower number
  abbrev pub LocalGoesBefore : ℕ → ℕ → Type 0
  LocalGoesBefore x y = (v : ValType ℕ) × ((w : ValType ℕ) × (LocalHasType x v × LocalHasType y w × (LocalTypeGoesBefore v w ⊎ ((v ≡ w) × (x < y)))))

-- The order in which emission numbers types, the names of types, and the order of declared locals. With these, what a module in memory is
-- written as is one text.
pub record IsPinned (c : Config) (r : Renaming) (v n : Abstract) : Type 0 where
  pub types_rise : (i j : ℕ) → IsLive v (Types, i) → IsLive v (Types, j) → i < j → r.numbers Types i < r.numbers Types j
  pub type_names : c.writes_names ≡ true → (i : ℕ) → IsLive v (Types, i) → own_name n (AnItem (Types, r.numbers Types i)) ≡ own_name v (AnItem (Types, i))
  pub locals : (f : ℕ) (b : Body) (x y : ℕ) → body_of v f ≡ Some b → DeclaresLocal b x → DeclaresLocal b y → LocalGoesBefore b x y → r.locals f x < r.locals f y

-- n is what the module v in memory is written as, in the order that emission gives
pub record IsWrittenAs (c : Config) (v n : Abstract) : Type 0 where
  pub written : Written c v n
  pub pinned : IsPinned c (written.renaming) v n
