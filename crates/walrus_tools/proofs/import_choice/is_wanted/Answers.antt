use Rattle.std.proofs.Common.{IsSome, List, ℕ, refl, subst, sym}
use Rattle.walrus.specs.Items.Imports.{imported_function}
use Rattle.walrus.specs.Items.ImportKind.{ImportKind}
use Rattle.walrus_sections.specs.Choice.{Goes, choices_seen}
use Rattle.walrus_tools.specs.StubMatching.{NameGoes}
use Rattle.walrus_tools.proofs.import_choice.is_wanted.Goals as goal

pub returns-then-goes : goal.returns-then-goes
returns-then-goes c = (
  λ yes. record {
    function = subst (λ (k : ImportKind). IsSome (imported_function k)) (sym c.in-Function.is) refl;
    from = subst (λ (t : List ℕ). Goes (choices_seen c.args.modules.now) t) c.as_bytes.ensures.value (c.goes.ensures.0 c.if-goes.true);
    named = subst (λ (t : List ℕ). NameGoes (choices_seen c.args.names.now) t) c.as_bytes-then-goes.ensures.value (c.name_goes.ensures.0 yes);
  },
  λ wanted. c.name_goes.ensures.1 (subst (λ (t : List ℕ). NameGoes (choices_seen c.args.names.now) t) (sym c.as_bytes-then-goes.ensures.value) wanted.named),
)
