-- Operators put through a renaming nest as they did, those that are allowed still are, and types of blocks are function types as before.
use Rattle.std.proofs.Common.{◌≡◌, ℕ, Bool, true, List, [], ◌∷◌, map, refl, ap, ap₂, ◌∙◌, subst}
use Rattle.std.specs.Prelude.{◌&&◌, if◌then◌else◌, Option, Some, None, Contains}
use Rattle.std.specs.List.{list_all}
use Rattle.std.specs.Cmp.Derive.{both_true}
use Rattle.walrus_base.specs.Types.{CompType, Func, Struct, Array, map_comp}
use Rattle.walrus_base.specs.Operators.{Types, NoResult, OneResult, OfType, Arg, Index, Local, Value, Heap, Block, Access, Label, Number, Count, Byte, S32, S64, Bits32, Bits64, Op}
use Rattle.walrus_functions.specs.Opened.{Opened}
use Rattle.walrus_functions.specs.Opened.TheVariants.{Plain}
use Rattle.walrus_functions.specs.Features.{Features}
use Rattle.walrus_functions.specs.Blocks.{label_below, blocks_meant, blocks_behind, blocks_after, nests, are_nested, block_holds, args_hold, blocks_hold}
use Rattle.walrus_functions.specs.AllowedFeatures.{is_allowed, are_allowed}
use Rattle.walrus_functions.specs.FunctionTypes.{is_function_comp, is_function_def}
use Rattle.walrus_model.specs.Abstract.{Abstract}
use Rattle.walrus_model.specs.Renaming.{Renaming, renamed_arg, renamed_ops}
use Rattle.walrus_model.specs.Rules.{IsFunctionComp, IsFunctionType}
use Rattle.walrus_base.proofs.Lists.{Contains-head, Contains-tail}

module _ (r : Renaming) (l : ℕ → ℕ) where
  label_renamed : (count : ℕ) (a : Arg) → label_below count (renamed_arg r l a) ≡ label_below count a
  label_renamed count (Label n) = refl
  label_renamed count (Index x) = refl
  label_renamed count (Local n) = refl
  label_renamed count (Number n) = refl
  label_renamed count (Count n) = refl
  label_renamed count (Byte n) = refl
  label_renamed count (S32 z) = refl
  label_renamed count (S64 z) = refl
  label_renamed count (Bits32 n) = refl
  label_renamed count (Bits64 n) = refl
  label_renamed count (Value v) = refl
  label_renamed count (Heap h) = refl
  label_renamed count (Block b) = refl
  label_renamed count (Access flags memory offset) = refl

  labels_renamed : (count : ℕ) (xs : List Arg) → list_all (label_below count) (map (renamed_arg r l) xs) ≡ list_all (label_below count) xs
  labels_renamed count [] = refl
  labels_renamed count (x ∷ xs) = ap₂ (λ (s t : Bool). s && t) (label_renamed count x) (labels_renamed count xs)

  after_renamed : (op : ℕ) (xs : List Arg) (blocks : List Opened) → blocks_after op (map (renamed_arg r l) xs) blocks ≡ blocks_after op xs blocks
  after_renamed op xs [] = refl
  after_renamed op xs (block ∷ around) =
      ap (λ (t : Bool). if t then blocks_behind op (block ∷ around) else None) (labels_renamed (blocks_meant op (block ∷ around)) xs)

  nests_renamed : (ops : List Op) (open_blocks : Option (List Opened)) → nests open_blocks (renamed_ops r l ops) ≡ nests open_blocks ops
  nests_renamed ops None = refl
  nests_renamed [] (Some blocks) = refl
  nests_renamed (o ∷ ops) (Some blocks) =
      ap (λ (found : Option (List Opened)). nests found (renamed_ops r l ops)) (after_renamed o.op o.args blocks) ∙ nests_renamed ops (blocks_after o.op o.args blocks)

  pub nested_renamed : (ops : List Op) → are_nested (renamed_ops r l ops) ≡ are_nested ops
  nested_renamed ops = nests_renamed ops (Some (Plain ∷ []))

  pub allowed_renamed : (features : Features) (ops : List Op) → are_allowed features (renamed_ops r l ops) ≡ are_allowed features ops
  allowed_renamed features [] = refl
  allowed_renamed features (o ∷ ops) = ap (λ (t : Bool). is_allowed features o.op && t) (allowed_renamed features ops)

  -- blocks hold as those did whose types are put through the renaming
  module _ (p : ℕ → Bool) where
    block_renamed : (a : Arg) → block_holds p (renamed_arg r l a) ≡ block_holds (λ t. p (r.numbers Types t)) a
    block_renamed (Block (OfType t)) = refl
    block_renamed (Block NoResult) = refl
    block_renamed (Block (OneResult v)) = refl
    block_renamed (Label n) = refl
    block_renamed (Index x) = refl
    block_renamed (Local n) = refl
    block_renamed (Number n) = refl
    block_renamed (Count n) = refl
    block_renamed (Byte n) = refl
    block_renamed (S32 z) = refl
    block_renamed (S64 z) = refl
    block_renamed (Bits32 n) = refl
    block_renamed (Bits64 n) = refl
    block_renamed (Value v) = refl
    block_renamed (Heap h) = refl
    block_renamed (Access flags memory offset) = refl

    args_renamed : (xs : List Arg) → args_hold p (map (renamed_arg r l) xs) ≡ args_hold (λ t. p (r.numbers Types t)) xs
    args_renamed [] = refl
    args_renamed (x ∷ xs) = ap₂ (λ (s t : Bool). s && t) (block_renamed x) (args_renamed xs)

    pub blocks_renamed : (ops : List Op) → blocks_hold p (renamed_ops r l ops) ≡ blocks_hold (λ t. p (r.numbers Types t)) ops
    blocks_renamed [] = refl
    blocks_renamed (o ∷ ops) = ap₂ (λ (s t : Bool). s && t) (args_renamed o.args) (blocks_renamed ops)

-- ---- blocks of function types

pub function_comp_stays : (f : ℕ → ℕ) (x : CompType ℕ) → is_function_comp (map_comp f x) ≡ is_function_comp x
function_comp_stays f (Func params results) = refl
function_comp_stays f (Struct fields) = refl
function_comp_stays f (Array element) = refl

function_comp : (x : CompType ℕ) → IsFunctionComp x → is_function_comp x ≡ true
function_comp (Func params results) h = refl
function_comp (Struct fields) h = absurd h
function_comp (Array element) h = absurd h

pub function_def : (m : Abstract) (t : ℕ) → IsFunctionType m t → is_function_def (m.types t) ≡ true
function_def m t h = ap is_function_def h.1 ∙ function_comp h.0.sub.comp h.2

module _ (p : ℕ → Bool) where
  block_fine : (a : Arg) → ((t : ℕ) → a ≡ Block (OfType t) → p t ≡ true) → block_holds p a ≡ true
  block_fine (Block (OfType t)) h = h t refl
  block_fine (Block NoResult) h = refl
  block_fine (Block (OneResult v)) h = refl
  block_fine (Label n) h = refl
  block_fine (Index x) h = refl
  block_fine (Local n) h = refl
  block_fine (Number n) h = refl
  block_fine (Count n) h = refl
  block_fine (Byte n) h = refl
  block_fine (S32 z) h = refl
  block_fine (S64 z) h = refl
  block_fine (Bits32 n) h = refl
  block_fine (Bits64 n) h = refl
  block_fine (Value v) h = refl
  block_fine (Heap k) h = refl
  block_fine (Access flags memory offset) h = refl

  args_fine : (xs : List Arg) → ((t : ℕ) → Contains xs (Block (OfType t)) → p t ≡ true) → args_hold p xs ≡ true
  args_fine [] h = refl
  args_fine (x ∷ xs) h =
      both_true
      (block_fine x (λ t e. h t (subst (Contains (x ∷ xs)) e (Contains-head x xs))))
      (args_fine xs (λ t at. h t (Contains-tail x (Block (OfType t)) xs at)))

  pub blocks_fine : (ops : List Op) → ((t : ℕ) (o : Op) → Contains ops o → Contains o.args (Block (OfType t)) → p t ≡ true) → blocks_hold p ops ≡ true
  blocks_fine [] h = refl
  blocks_fine (o ∷ ops) h =
      both_true
      (args_fine o.args (λ t at. h t o (Contains-head o ops) at))
      (blocks_fine ops (λ t x at has. h t x (Contains-tail o x ops at) has))
