-- Which NAME is told as one that fits no export.
use Rattle.std.proofs.Common.{◌≡◌, ◌<◌, ℕ, List, length, sym, ap, ◌∙◌, subst}
use Rattle.std.specs.Prelude.{Option, Some, None, option_map, slice_get, slice_index_or}
use Rattle.std.proofs.lemmas.Option.{slice_get-get_or, slice_get-map}
use Rattle.walrus_sections.specs.Choice.{Choice, choice_seen, choices_seen}
use Rattle.walrus_tools.specs.ChosenModule.{TellsOfParsed}
use Rattle.walrus_tools.specs.Facade.{Config}
use Rattle.walrus_sections.specs.declared.choice.Choice.{Choice as HeldChoice}
use Rattle.mulkavesh.specs.Cause.{SaysUnfit, unfit_text}

-- the name of a choice, if there is one
abbrev name_of : Option Choice → List ℕ → List ℕ
name_of (Some choice) other = choice.name
name_of None other = other

-- what stands at a place of a list
pub stands : {A : Type 0} (xs : List A) (i : ℕ) (x : A) → x ≡ slice_index_or xs i x → i < length xs → slice_get xs i ≡ Some x
stands xs i x is within = slice_get-get_or xs i x within ∙ ap Some (sym is)

-- the text names the choice of this number
pub says_unfit : (c : Config) (bytes : List ℕ) (held : List HeldChoice) (roots : List Choice) (number : ℕ) (found : HeldChoice) (text : List ℕ) → choices_seen held ≡ roots
    → TellsOfParsed c bytes (choices_seen held) (Some number) → slice_get held number ≡ Some found → text ≡ unfit_text found.name.now → SaysUnfit c bytes roots text
says_unfit c bytes held roots number found text same tells there says =
    let told : TellsOfParsed c bytes roots (Some number) = subst (λ (choices : List Choice). TellsOfParsed c bytes choices (Some number)) same tells in
    let seen : slice_get roots number ≡ Some (choice_seen found) = ap (λ (choices : List Choice). slice_get choices number) (sym same) ∙ slice_get-map choice_seen held number ∙ ap (option_map choice_seen) there in
    let named : found.name.now ≡ told.tells.choice.name = ap (λ (o : Option Choice). name_of o found.name.now) (sym seen ∙ told.tells.there) in
    record { number = number; tells = told; says = says ∙ ap unfit_text named }
