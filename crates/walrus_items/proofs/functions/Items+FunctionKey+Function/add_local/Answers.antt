use Rattle.std.proofs.Common.{ℕ, List, [], ◌∷◌, ◌++◌, Option, Some, sym, ap, ap₂, ◌∙◌, map}
use Rattle.std.specs.Prelude.{option_map}
use Rattle.std.proofs.lemmas.List.{length-map, map-append}
use Rattle.walrus_base.specs.Arena.{slots}
use Rattle.walrus_items.specs.declared.function_kind.FunctionKind.TheVariants.{Local}
use Rattle.walrus_items.specs.Functions.{FunctionValue, function_value}
use Rattle.walrus_items.proofs.functions.«Items+FunctionKey+Function».add_local.Goals as goal

pub returns : goal.returns
returns c =
    let old = slots c.args.self.now.arena in
    let added = c.in_ok-alloc.ensures.added in
    let at = added.0 ∙ sym (length-map old (option_map function_value)) in
    let own = c.next_id-id.ensures ∙ sym added.0 in (
      at,
      ap (map (option_map function_value)) added.1
          ∙ map-append (option_map function_value) old _
          ∙ ap₂ (λ (i : ℕ) (n : Option (List ℕ)). let f : FunctionValue = record { id = i; kind = Local c.args.local; name = n } in map (option_map function_value) old ++ Some f ∷ []) own (c.in_ok-name.ensures ∙ c.name.ensures),
    )
