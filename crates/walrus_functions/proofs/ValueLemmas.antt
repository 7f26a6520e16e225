-- Value types of a module that a contract sees as the same.
use Rattle.std.proofs.Common.{◌≡◌, ℕ, Bool, true, false, Option, refl, sym, ap, ap₂, ◌∙◌}
use Rattle.std.proofs.Math.Path.{fun_ext}
use Rattle.std.specs.HashMap.{HashMap, get_by}
use Rattle.walrus_base.specs.Types.{ValType, I32, I64, F32, F64, V128, Ref}
use Rattle.walrus_base.specs.Value.{val_type}
use Rattle.walrus_base.specs.declared.value.ValType.{ValType as DeclaredValType}
use Rattle.walrus_base.specs.declared.value.ValType.TheVariants as declared_value
use Rattle.walrus_base.specs.contracts.value.ValTypePartialEq.TheImpl as equality
use Rattle.walrus_base.proofs.FunctionSame.{val_same}
use Rattle.walrus_functions.specs.Declaring.{number_at, lowest_of}
use Rattle.walrus_functions.specs.declared.lowest.Lowest.{Lowest}

pub equal_itself : (a : DeclaredValType) → (equality.ghosts).eq a a ≡ true
equal_itself a = (val_same a a).1 refl

-- they are equal to the same types
alike_to : (v w : DeclaredValType) → val_type v ≡ val_type w → (z : DeclaredValType) → (equality.ghosts).eq v z ≡ (equality.ghosts).eq w z
alike_to v w h z = go ((equality.ghosts).eq v z) ((equality.ghosts).eq w z) refl refl
  where
    go : (s t : Bool) → (equality.ghosts).eq v z ≡ s → (equality.ghosts).eq w z ≡ t → (equality.ghosts).eq v z ≡ (equality.ghosts).eq w z
    go true true e f = e ∙ sym f
    go false false e f = e ∙ sym f
    go true false e f =
        let there : (equality.ghosts).eq w z ≡ true = (val_same w z).1 (sym h ∙ (val_same v z).0 e) in
        let wrong : true ≡ false = sym there ∙ f in
        absurd cc
    go false true e f =
        let there : (equality.ghosts).eq v z ≡ true = (val_same v z).1 (h ∙ (val_same w z).0 f) in
        let wrong : true ≡ false = sym there ∙ e in
        absurd cc

-- a table has one number for both
number_alike : {S : Type 0} (numbers : HashMap DeclaredValType ℕ S) (v w : DeclaredValType) → val_type v ≡ val_type w → number_at numbers v ≡ number_at numbers w
number_alike numbers v w h = ap (λ (test : DeclaredValType → Bool). get_by test numbers) (fun_ext (alike_to v w h))

-- the lowest local of a type of the standard, where `reference` is that of a reference
abbrev lowest_by : Lowest → Option ℕ → ValType ℕ → Option ℕ
lowest_by lowest reference I32 = lowest.integer_32
lowest_by lowest reference I64 = lowest.integer_64
lowest_by lowest reference F32 = lowest.float_32
lowest_by lowest reference F64 = lowest.float_64
lowest_by lowest reference V128 = lowest.vector
lowest_by lowest reference (Ref r) = reference

told : (lowest : Lowest) (v : DeclaredValType) → lowest_of lowest v ≡ lowest_by lowest (number_at lowest.references v) (val_type v)
told lowest declared_value.I32 = refl
told lowest declared_value.I64 = refl
told lowest declared_value.F32 = refl
told lowest declared_value.F64 = refl
told lowest declared_value.V128 = refl
told lowest (declared_value.Ref r) = refl

-- one lowest local stands for both
pub lowest_alike : (lowest : Lowest) (v w : DeclaredValType) → val_type v ≡ val_type w → lowest_of lowest v ≡ lowest_of lowest w
lowest_alike lowest v w h = told lowest v ∙ ap₂ (lowest_by lowest) (number_alike lowest.references v w h) h ∙ sym (told lowest w)
