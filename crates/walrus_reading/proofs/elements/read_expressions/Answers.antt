use Rattle.std.proofs.Common.{rules, ◌≡◌, ◌∙◌, List, [], ◌∷◌, map, refl, sym, ap}
use Rattle.std.specs.Prelude.{All, Option, Some}
use Rattle.std.proofs.lemmas.List.Elements.{All-head, All-tail}
use Rattle.wasm_forms.specs.Reading.{◌>>=◌}
use Rattle.wasm_entries.specs.Record.{Expression, expression}
use Rattle.walrus_base.specs.Operators.{Op}
use Rattle.walrus_code.specs.Indices.{ids_at}
use Rattle.walrus_code.specs.Names.{Lookup}
use Rattle.walrus_groups.specs.Named.{each}
use Rattle.walrus_constants.specs.Named.{named_const}
use Rattle.walrus_model.specs.Constants.{consts_of}
use Rattle.walrus_reading.specs.Stays.{ConstStays}
use Rattle.walrus_reading.proofs.elements.read_expressions.Goals as goal

-- expressions whose indices stay are found as they are
all_found : (names : Lookup) (es : List Expression) → All (ConstStays names) es → each (named_const names) (map consts_of es) ≡ Some (map consts_of es)
all_found names [] h = refl
all_found names (e ∷ es) h =
    ap (λ (o : Option (List Op)). o >>= λ found. each (named_const names) (map consts_of es) >>= λ others. Some (found ∷ others)) (All-head (ConstStays names) e es h)
    ∙ ap (λ (o : Option (List (List Op))). o >>= λ others. Some (consts_of e ∷ others)) (all_found names es (All-tail (ConstStays names) e es h))

same_lists : {X : Type 0} (a b : List X) → Some a ≡ Some b → a ≡ b
same_lists a b e = cc

pub unreachable-requires : goal.unreachable-requires
unreachable-requires c = let all = all_found (ids_at c.args.indices.now) (map expression c.args.raw.now) c.requires.stay in search rules

pub returns-in-Ok-clause-value : goal.returns-in-Ok-clause-value
returns-in-Ok-clause-value c = sym (same_lists _ _ (sym (all_found (ids_at c.args.indices.now) (map expression c.args.raw.now) c.requires.stay) ∙ c.in-Ok.ensures.named))
