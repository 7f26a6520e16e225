use Rattle.std.proofs.Common.{ℕ, ◌+◌, ◌<◌, ◌≤◌, List, length, subst, take, arith}
use Rattle.std.specs.Prelude.{All, slice_index_or}
use Rattle.std.proofs.lemmas.List.{take_all}
use Rattle.std.proofs.lemmas.List.Elements.{All-more, All-weaker}
use Rattle.walrus_base.specs.Value.{val_type}
use Rattle.walrus_base.specs.declared.value.ValType.{ValType as DeclaredValType}
use Rattle.walrus_functions.specs.DeclaredLocals.{rank}
use Rattle.walrus_functions.proofs.ranked.highest_rank.Goals as goal

abbrev UpTo : ℕ → ℕ × DeclaredValType → Type 0
UpTo highest e = rank (val_type e.1) ≤ highest

no_higher : (es : List (ℕ × DeclaredValType)) (i : ℕ) (d : ℕ × DeclaredValType) (had now : ℕ) → i < length es → had ≤ now → UpTo now (slice_index_or es i d) → All (UpTo had) (take i es) → All (UpTo now) (take (i + 1) es)
no_higher es i d had now low grown here so_far = All-more (UpTo now) es i d low (All-weaker (UpTo had) (UpTo now) (λ e h. omega (arith, h, grown)) (take i es) so_far) here

pub found-preserved : goal.found-preserved
found-preserved c = no_higher c.args.found.now c.found.ty-index _ c.found.highest c.higher-highest.result c.found-test.true c.higher-highest.ensures.0 c.higher-highest.ensures.1 c.found.invariant

pub returns : goal.returns
returns c =
    let past : length c.args.found.now ≤ c.found.ty-index = omega arith in
    subst (λ (es : List (ℕ × DeclaredValType)). All (UpTo c.found.highest) es) (take_all c.found.ty-index c.args.found.now past) c.found.invariant
