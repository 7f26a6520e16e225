use Rattle.std.proofs.Common.{◌++◌, map, option_map, sym, ap, ◌∙◌}
use Rattle.std.proofs.lemmas.List.{length-map}
use Rattle.walrus_base.specs.Value.{val_type}
use Rattle.walrus_code.specs.FromRaw.{val_of}
use Rattle.walrus_code.specs.Indices.{ids_at}
use Rattle.walrus_groups.specs.Named.{named_vals}
use Rattle.walrus_groups.proofs.OneVector.{function_read}
use Rattle.walrus_groups.proofs.read.name_function.Goals as goal

pub returns : goal.returns
returns c =
    let names = ids_at c.args.indices.now in
    let raw = c.args.raw.now in
    let start = c.in_ok-values.values.items in
    let taken = c.push_values.new.values.items in
    let long = c.len-param_count.ensures ∙ raw.params.ok.0 ∙ sym (length-map raw.params.items val_of) in
    let first = ap (λ vs. option_map (λ more. map val_type start ++ more) (named_vals names (map val_of vs))) (sym c.as_slice.ensures.value) ∙ c.in_ok-push_values.ensures in
    let second = ap (λ vs. option_map (λ more. map val_type taken ++ more) (named_vals names (map val_of vs))) (sym c.as_slice-2.ensures.value) ∙ c.in_ok-push_values-2.ensures in
    function_read names (map val_of raw.params.items) (map val_of raw.results.items) start taken c.push_values-2.new.values.items c.len-param_count.result c.of.result c.in_ok-values.ensures.items long first second c.of.ensures
