use Rattle.std.proofs.Common.{List, ℕ, ◌++◌, codes, ap, ◌∙◌}
use Rattle.std.specs.Prelude.{string_bytes}
use Rattle.mulkavesh.specs.Links.{quoted}
use Rattle.mulkavesh.proofs.JsonLists.{text_more}
use Rattle.mulkavesh.proofs.links.add_all_quoted.Goals as goal

pub names-preserved : goal.names-preserved
names-preserved c =
    let put = c.in_ok-add_quoted.ensures ∙ ap (λ (t : List ℕ). c.add_comma.new.to.items ++ quoted t) c.as_str.ensures.value in
    text_more (codes ", ") quoted string_bytes c.args.names.now c.names.place _ _ c.names-test.true c.index-names-place.is _ _ _ _ c.names.invariant c.in_ok-add_comma.ensures put
