-- The functions that stay, from bytes to the list: what the whole way comes to, and each refusal.
use Rattle.std.proofs.Common.{◌≡◌, ℕ, List, map, ap, ◌∙◌}
use Rattle.std.specs.Prelude.{Ok, Err}
use Rattle.std.specs.Global.{Vec}
use Rattle.walrus.specs.Code.Transform.{Transform}
use Rattle.walrus.specs.Model.Abstract.{Abstract, Name}
use Rattle.walrus.specs.Model.Config.{Config}
use Rattle.walrus.specs.Items.Error.{Error}
use Rattle.walrus.specs.Items.Error.TheVariants as error
use Rattle.walrus_sections.specs.Choice.{Choice}
use Rattle.walrus_tools.specs.ChosenModule.{KeepsChosen, RefusesChosen}
use Rattle.walrus.specs.Edits.{AnswersEdited}
use Rattle.walrus_tools.specs.FunctionList.{AnswersListed, function_names, listed_of, listed_seen}
use Rattle.walrus_tools.specs.Measures.{IsMeasured}
use Rattle.walrus_tools.specs.declared.tool.list.Listed.{Listed}

module _ (c : Config) (bytes : List ℕ) (choices : List Choice) where
  -- a refusal before the list is made
  pub way_refused : (e : Error) → AnswersEdited (KeepsChosen choices) (RefusesChosen choices) c bytes (Err e) → AnswersListed c bytes choices (Err e)
  way_refused (error.Memory m) h = tt
  way_refused (error.InvalidWasm k) h = h
  way_refused error.TooLarge h = h
  way_refused _ h = h

  -- what was listed, of the functions that the transform tells
  pub list_told : (u : Abstract) (x : Transform) → IsMeasured (KeepsChosen choices) c bytes u x → (names : ℕ → List Name) → names ≡ function_names u → (ranges : List (ℕ × (ℕ × ℕ))) → ranges ≡ x.function_ranges
      → (list : Vec Listed) → map listed_seen list.items ≡ map (listed_of names) ranges → AnswersListed c bytes choices (Ok list)
  list_told u x m names same ranges are list is = record {
    module_left = u;
    transform = x;
    measured = m;
    is = is ∙ ap (map (listed_of names)) are ∙ ap (λ (n : ℕ → List Name). map (listed_of n) x.function_ranges) same;
  }
