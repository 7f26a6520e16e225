use Rattle.std.proofs.Common.{◌≡◌, List, ◌∷◌, codes, map, string_bytes, sym, ap, ◌∙◌, subst}
use Rattle.std.specs.Prelude.{Err}
use Rattle.std.specs.Vec.Iter.{into_iter_items}
use Rattle.mulkavesh.specs.declared.mistakes.Mistake.TheVariants.{UnknownSubcommand}
use Rattle.mulkavesh.specs.Mistakes.{IsTold}
use Rattle.mulkavesh.specs.Order.{work_word}
use Rattle.mulkavesh.specs.Words.{IsNoWork, IsUnhelped, Word}
use Rattle.mulkavesh.proofs.Itself.{told_help_alone, told_help_of, told_named}
use Rattle.mulkavesh.proofs.words.help_asked.Goals as goal

pub returns-in-None : goal.returns-in-None
returns-in-None c = λ none. told_help_alone _ c.in-None.ensures

pub returns-in-Some-work_of : goal.returns-in-Some-work_of
returns-in-Some-work_of c =
    let w = c.in-Some-work_of.work in
    let left = map string_bytes (into_iter_items c.in-Some.left) in
    let are : map string_bytes (into_iter_items c.args.rest) ≡ work_word w ∷ left = c.in-Some.ensures ∙ ap (λ (v : Word). v ∷ left) (sym c.as_str.ensures.value ∙ c.in-Some-work_of.ensures) in
    λ none. subst (λ (l : List Word). IsTold (codes "help" ∷ l) c.alone.result) (sym are)
    (told_help_of w left c.alone.result c.alone.ensures (subst (λ (l : List Word). IsUnhelped (codes "help" ∷ l)) are none))

pub returns-in-None-work_of : goal.returns-in-None-work_of
returns-in-None-work_of c =
    let left = map string_bytes (into_iter_items c.in-Some.left) in
    let are : map string_bytes (into_iter_items c.args.rest) ≡ string_bytes c.in-Some.name ∷ left = c.in-Some.ensures in
    let never : IsNoWork (string_bytes c.in-Some.name) = λ w is. c.in-None-work_of.ensures w (c.as_str.ensures.value ∙ is) in
    λ none. subst (λ (l : List Word). IsTold (codes "help" ∷ l) (Err (UnknownSubcommand c.in-Some.name))) (sym are)
    (told_named c.in-Some.name left never (subst (λ (l : List Word). IsUnhelped (codes "help" ∷ l)) are none))
