use Rattle.std.proofs.Common.{◌≡◌, true, false, List, ◌∷◌, map, string_bytes, sym, ap, ◌∙◌, subst}
use Rattle.std.specs.Prelude.{Ok, String}
use Rattle.std.specs.Vec.Iter.{into_iter_items}
use Rattle.std.specs.declared.alloc.Global.{Global}
use Rattle.mulkavesh.specs.declared.order.Asked.TheVariants.{Help, HelpOf}
use Rattle.mulkavesh.specs.Mistakes.{IsTold}
use Rattle.mulkavesh.specs.Order.{work_word}
use Rattle.mulkavesh.specs.Steps.{asks_help}
use Rattle.mulkavesh.specs.Words.{AsksHelp, IsNoWork, IsUnhelped, Word}
use Rattle.mulkavesh.proofs.Help.{asking, unhelped}
use Rattle.mulkavesh.proofs.Itself.{told_help, told_help_behind}
use Rattle.mulkavesh.proofs.words.asked_by.Goals as goal

pub returns-in-Some-work_of : goal.returns-in-Some-work_of
returns-in-Some-work_of c =
    let w = c.in-Some-work_of.work in
    let left = map string_bytes (into_iter_items c.next.new.self) in
    let are : map string_bytes c.args.words.items ≡ work_word w ∷ left = ap (λ (l : List (String Global)). map string_bytes l) (sym c.into_iter-rest.ensures.rest ∙ c.in-Some.ensures.items) ∙ ap (λ (v : Word). v ∷ left) (sym c.as_str.ensures.value ∙ c.in-Some-work_of.ensures) in
    let helped : asks_help (map string_bytes c.args.words.items) ≡ true = ap (λ (l : List (String Global)). asks_help (map string_bytes l)) (sym c.deref.ensures.value) ∙ sym c.asks_help-is_help.ensures ∙ c.if-is_help.true in
    subst (λ (l : List Word). IsTold l (Ok (HelpOf w))) (sym are) (told_help_behind w left (subst AsksHelp are (asking _ helped)))

pub returns-in-Some-2 : goal.returns-in-Some-2
returns-in-Some-2 c =
    let w = c.in-Some-work_of.work in
    let left = map string_bytes (into_iter_items c.next.new.self) in
    let are : map string_bytes c.args.words.items ≡ work_word w ∷ left = ap (λ (l : List (String Global)). map string_bytes l) (sym c.into_iter-rest.ensures.rest ∙ c.in-Some.ensures.items) ∙ ap (λ (v : Word). v ∷ left) (sym c.as_str.ensures.value ∙ c.in-Some-work_of.ensures) in
    let unasked : asks_help (map string_bytes c.args.words.items) ≡ false = ap (λ (l : List (String Global)). asks_help (map string_bytes l)) (sym c.deref.ensures.value) ∙ sym c.asks_help-is_help.ensures ∙ c.if-is_help.false in
    subst (λ (l : List Word). IsTold l c.asked_of.result) (sym are) (c.asked_of.ensures (subst IsUnhelped are (unhelped _ unasked)))

pub returns-in-None-work_of : goal.returns-in-None-work_of
returns-in-None-work_of c =
    let left = map string_bytes (into_iter_items c.next.new.self) in
    let are : map string_bytes c.args.words.items ≡ string_bytes c.in-Some.first ∷ left = ap (λ (l : List (String Global)). map string_bytes l) (sym c.into_iter-rest.ensures.rest ∙ c.in-Some.ensures.items) in
    let never : IsNoWork (string_bytes c.in-Some.first) = λ w is. c.in-None-work_of.ensures w (c.as_str.ensures.value ∙ is) in
    let helped : asks_help (map string_bytes c.args.words.items) ≡ true = ap (λ (l : List (String Global)). asks_help (map string_bytes l)) (sym c.deref.ensures.value) ∙ sym c.asks_help-is_help.ensures ∙ c.if-is_help-2.true in
    subst (λ (l : List Word). IsTold l (Ok Help)) (sym are) (told_help (string_bytes c.in-Some.first) left never (subst AsksHelp are (asking _ helped)))

pub returns-in-None-2 : goal.returns-in-None-2
returns-in-None-2 c =
    let left = map string_bytes (into_iter_items c.next.new.self) in
    let are : map string_bytes c.args.words.items ≡ string_bytes c.in-Some.first ∷ left = ap (λ (l : List (String Global)). map string_bytes l) (sym c.into_iter-rest.ensures.rest ∙ c.in-Some.ensures.items) in
    let unasked : asks_help (map string_bytes c.args.words.items) ≡ false = ap (λ (l : List (String Global)). asks_help (map string_bytes l)) (sym c.deref.ensures.value) ∙ sym c.asks_help-is_help.ensures ∙ c.if-is_help-2.false in
    subst (λ (l : List Word). IsTold l c.asked_itself.result) (sym are) (c.asked_itself.ensures (subst IsUnhelped are (unhelped _ unasked)))
