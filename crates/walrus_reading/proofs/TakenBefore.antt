-- A function that is taken in under types that grew is taken in under those that were there first.
use Rattle.std.proofs.Common.{◌≡◌, ℕ, ◌+◌, List, ◌++◌, length, sym, ap, subst, ◌∙◌}
use Rattle.std.specs.Prelude.{Option, Some, Err}
use Rattle.std.specs.List.{range_with_len}
use Rattle.walrus_base.specs.Arena.{item_at}
use Rattle.walrus_base.specs.Operators.{Types}
use Rattle.walrus_base.specs.TypeDef.{TypeDef}
use Rattle.walrus_base.specs.declared.locals.Local.{Local}
use Rattle.walrus_code.specs.FromRaw.{ops_of}
use Rattle.walrus_code.specs.Names.{Lookup}
use Rattle.walrus_bodies.specs.Body.{BodyReads, Context, context}
use Rattle.walrus_bodies.specs.FunctionTypes.{is_function_def}
use Rattle.walrus_bodies.specs.declared.features.Features.{Features}
use Rattle.walrus_functions.specs.Handlers.{params_of}
use Rattle.walrus_functions.specs.ReadFunction.{AddsTypes, Slots, StaysInFront, locals_from}
use Rattle.walrus_items.specs.Functions.{FunctionValue}
use Rattle.walrus_model.specs.Sections.{Said}
use Rattle.walrus_contents.specs.View.{handlers_at}
use Rattle.walrus_items.specs.declared.error.Error.TheVariants as Parts
use Rattle.walrus_reading.specs.Taken.{AddsLocalsOf, AreThere, IsTaken, SaysUnder, TakesFunction}
use Rattle.walrus_reading.specs.declared.unread.Unread.{Unread}
use Rattle.walrus_reading.specs.declared.unread.Unread.TheVariants.{Body, Fails}
use Rattle.walrus_reading.proofs.Grown.{handlers_same, read_after, read_before, same_there}
use Rattle.wasm_frames.specs.Record as wire

module _ (names : Lookup) (features : Features) (tags : ℕ → Option ℕ) (first now next : Slots) (there : AreThere names tags first.types) (stays : StaysInFront first.types now.types) where
  abbrev under : Slots → Context
  under s = context names (λ t. is_function_def (item_at s.types t)) features

  abbrev locals_after : Option TypeDef → Said → ℕ → Option ℕ
  locals_after def said = locals_from 0 (length (params_of def) + length said.0)

  module _ (f : ℕ × wire.Body) (declared : names Types f.0 ≡ Some f.0) where
    same : item_at now.types f.0 ≡ item_at first.types f.0
    same = same_there first.types now.types stays f.0 (there.indexed f.0 f.0 declared)

    says_after : (said : Said) → SaysUnder (under first) (item_at first.types) f said → SaysUnder (under now) (item_at now.types) f said
    says_after said read =
        subst (λ (def : Option TypeDef). BodyReads (under now) (locals_after def said) f.1.bytes said.0 said.1) (sym same)
        (read_after names tags first.types now.types there stays (locals_after (item_at first.types f.0) said) features f.1.bytes said.0 said.1 read)

    says_before : (said : Said) → SaysUnder (under now) (item_at now.types) f said → SaysUnder (under first) (item_at first.types) f said
    says_before said read =
        read_before names tags first.types now.types there stays (locals_after (item_at first.types f.0) said) features f.1.bytes said.0 said.1
        (subst (λ (def : Option TypeDef). BodyReads (under now) (locals_after def said) f.1.bytes said.0 said.1) same read)

    module _ (old new : List (Option Local)) where
      pub taken_before : (id : ℕ) (slot : Option FunctionValue) → IsTaken (under now) (item_at now.types) tags id now next old new f slot → IsTaken (under first) (item_at first.types) tags id now next old new f slot
      taken_before id slot t = record {
        said = t.said;
        read = says_before t.said t.read;
        held = record {
          local = t.held.local;
          is = t.held.is;
          body = record {
            typed = t.held.body.typed;
            parameters = t.held.body.parameters ∙ ap (λ (def : Option TypeDef). range_with_len (length old) (length (params_of def))) same;
            operators = t.held.body.operators;
            unnamed = t.held.body.unnamed;
          };
        };
        added = subst (λ (def : Option TypeDef). AddsLocalsOf (params_of def ++ t.said.0) old new) same t.added;
        handlers = subst (λ fs. AddsTypes fs now next (handlers_at slot))
            (handlers_same names tags first.types now.types there stays (locals_after (item_at now.types f.0) t.said) (ops_of t.read.operators.texts) t.said.1 t.read.operators.named) t.handlers;
      }

      pub refused_before : (before after : List (Option FunctionValue)) (e : Unread) → TakesFunction (under now) (item_at now.types) tags f now next old new before after (Err e) → TakesFunction (under first) (item_at first.types) tags f now next old new before after (Err e)
      refused_before before after (Body index) h = (h.0, λ said read. h.1 said (says_after said read))
      refused_before before after (Fails (Parts.Memory m)) h = tt
      refused_before before after (Fails _) h = absurd h
