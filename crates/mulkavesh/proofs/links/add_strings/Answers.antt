use Rattle.std.proofs.Common.{List, ℕ, ◌++◌, codes, ap, ◌∙◌}
use Rattle.std.specs.Prelude.{string_bytes}
use Rattle.mulkavesh.specs.Json.{string_json}
use Rattle.mulkavesh.proofs.JsonLists.{text_more}
use Rattle.mulkavesh.proofs.links.add_strings.Goals as goal

pub names-preserved : goal.names-preserved
names-preserved c =
    let put = c.in_ok-add_string.ensures ∙ ap (λ (t : List ℕ). c.add_comma.new.to.items ++ string_json t) c.as_bytes.ensures.value in
    text_more (codes ",") string_json string_bytes c.args.names.now c.names.place _ _ c.names-test.true c.index-names-place.is _ _ _ _ c.names.invariant c.in_ok-add_comma.ensures put
