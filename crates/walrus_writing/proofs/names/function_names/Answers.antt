use Rattle.std.proofs.Common.{ℕ, ◌<◌, ◌^◌, List, length, map, sym, ap, ◌∙◌, subst}
use Rattle.walrus_base.specs.Arena.{entries}
use Rattle.walrus_base.specs.Operators.{Functions}
use Rattle.walrus_writing.specs.Names.{item_name}
use Rattle.walrus_writing.proofs.NamesLemmas.{along, few_of}
use Rattle.walrus_writing.proofs.names.function_names.Goals as goal

pub names_along-requires : goal.names_along-requires
names_along-requires c = record {
  few = few_of _ _ c.as_slice.ensures.value (subst (λ (l : List ℕ). length l < 2 ^ 32) (sym c.in_ok-ids.ensures.value) c.requires.few);
}

pub returns-clause-value : goal.returns-clause-value
returns-clause-value c =
    along (item_name c.args.parts Functions) _ _ _ c.as_slice.ensures.value c.in_ok-names.ensures.value
    ∙ ap (λ (l : List ℕ). entries (map (item_name c.args.parts Functions) l)) c.in_ok-ids.ensures.value
