-- The function at a place has a trap in place of its body, or a body again.
use Rattle.std.proofs.Common.{◌≡◌, ℕ, false, Option, None, Some, option_map, slice_set, refl, sym, ap, ◌∙◌, Result, Ok, Err, MatchResult}
use Rattle.std.proofs.lemmas.List.{map-set, set-get_or}
use Rattle.walrus.specs.Base.Arena.{item_at}
use Rattle.walrus.specs.Items.Errors.{out_of_memory}
use Rattle.walrus.specs.Items.Functions.{FunctionValue, function_value, functions}
use Rattle.walrus.specs.Items.LendsItem.{with_held}
use Rattle.walrus.specs.Items.LocalFunction.{LocalFunction}
use Rattle.walrus.specs.Items.Error.{Error}
use Rattle.walrus.specs.Items.FunctionKind.{FunctionKind}
use Rattle.walrus.specs.Items.FunctionKind.TheVariants.{Import, Local, Uninitialized}
use Rattle.walrus.specs.Items.FunctionValue.{Function}
use Rattle.walrus.specs.Modules.Module.{Module}
use Rattle.walrus_tools.specs.AloneSteps.{HasBodyAgain, HasNone, TradesIfAny, TradesKind}
use Rattle.walrus_tools.specs.FunctionMeaning.{has_body}

module _ {S : Type 0} (old : Module S) (p : ℕ) (was : Function) where
  -- with this function at the place
  abbrev pub put : Function → Module S
  put f = record old { funcs = with_held old.funcs p f }

  put_is : (kind : FunctionKind) → functions ((put (record was { kind = kind })).funcs) ≡ slice_set (functions old.funcs) p (Some (record (function_value was) { kind = kind }))
  put_is kind = map-set (option_map function_value) old.funcs.arena.places.items p (Some (record was { kind = kind }))

  no_body : (kind : FunctionKind) → was.kind ≡ kind → HasNone kind → has_body (Some (function_value was)) ≡ false
  no_body (Local body) is none = absurd (none body refl)
  no_body (Import i) is none = ap (λ (k : FunctionKind). has_body (Some (record (function_value was) { kind = k }))) is
  no_body (Uninitialized ty) is none = ap (λ (k : FunctionKind). has_body (Some (record (function_value was) { kind = k }))) is

  module _ (kind : FunctionKind) (there : item_at (functions old.funcs) p ≡ Some (function_value was)) where
    traded : (body : Option LocalFunction) → TradesKind was.kind kind body → TradesIfAny p old (put (record was { kind = kind })) body
    traded None (same, none) = (
      record {
        same = put_is kind ∙ ap (λ (k : FunctionKind). slice_set (functions old.funcs) p (Some (record (function_value was) { kind = k }))) same
            ∙ ap (λ (o : Option FunctionValue). slice_set (functions old.funcs) p o) (sym there) ∙ set-get_or (functions old.funcs) p None;
        others = refl;
      },
      ap has_body there ∙ no_body was.kind refl none,
    )
    traded (Some body) (had, (trap, is, traps)) = record {
      function = function_value was;
      was = there;
      had = had;
      trap = trap;
      traps = traps;
      is = put_is kind ∙ ap (λ (k : FunctionKind). slice_set (functions old.funcs) p (Some (record (function_value was) { kind = k }))) is;
      others = refl;
    }

    pub trade_told : (r : Result (Option LocalFunction) Error) → MatchResult r (TradesKind was.kind kind) (λ e. e ≡ out_of_memory) → MatchResult r (TradesIfAny p old (put (record was { kind = kind }))) (λ e. e ≡ out_of_memory)
    trade_told (Ok body) h = traded body h
    trade_told (Err e) h = h

  pub body_put : (body : LocalFunction) → item_at (functions old.funcs) p ≡ Some (function_value was) → HasBodyAgain p body old (put (record was { kind = Local body }))
  body_put body there = record { function = function_value was; was = there; is = put_is (Local body); others = refl }
