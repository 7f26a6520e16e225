-- Chosen imports of which the functions trap, in a whole module.
use Rattle.std.proofs.Common.{◌≡◌, ℕ, ◌+◌, ◌≤◌, Bool, true, false, List, length, Option, None, Result, Ok, Err, MatchResult, refl, sym, ap, ◌∙◌, subst, arith}
use Rattle.std.proofs.lemmas.List.{get_or_past}
use Rattle.walrus.specs.Base.Arena.{item_at}
use Rattle.walrus.specs.Base.Id.{place}
use Rattle.walrus.specs.Base.Marks.{is_marked}
use Rattle.walrus.specs.Base.IdValue.{Id}
use Rattle.walrus.specs.Base.FunctionKey.{FunctionKey}
use Rattle.walrus.specs.Base.ImportKey.{ImportKey}
use Rattle.walrus.specs.Base.MarksValue.{Marks}
use Rattle.walrus.specs.Model.Config.{Config}
use Rattle.walrus.specs.Items.Errors.{out_of_memory}
use Rattle.walrus.specs.Items.Imports.{ImportValue, imports}
use Rattle.walrus.specs.Items.Error.{Error}
use Rattle.walrus.proofs.Theorem.EditKept.{none_isnt}
use Rattle.walrus.specs.Modules.Replaced.{ReplacesImport}
use Rattle.walrus.specs.Modules.View.{contents_of}
use Rattle.walrus.specs.Modules.Module.{Module}
use Rattle.walrus_sections.specs.Choice.{Choice}
use Rattle.walrus.specs.Edits.{IsWhole}
use Rattle.walrus_tools.specs.Stub.{BringsFunction}
use Rattle.walrus_tools.specs.StubMatching.{AreChosen, HitFunctions, RefusesChosen, StubsChosen, StubsHits, StubsMatching, StubsThose}
use Rattle.walrus_tools.specs.StubAnswers.{PutsTrap, StubsSome}
use Rattle.walrus_tools.proofs.ChosenImports.{chosen_bring}
use Rattle.walrus_tools.proofs.StubCall.{stubs_next, untouched}

-- one call more
pub hit_next : {S : Type 0} (c : Config) (hits : ℕ → Bool) (n : ℕ) (begun old new : Module S) → IsWhole c begun → HitFunctions hits (imports begun.imports) → StubsSome c hits n begun old → hits n ≡ true
    → (at : Id ImportKey) → place at ≡ n → (result : Result (Id FunctionKey) Error) → ReplacesImport PutsTrap at old new result → MatchResult result (λ done. StubsSome c hits (n + 1) begun new) (λ e. e ≡ out_of_memory)
hit_next c hits n begun old new whole bring some hit at at_n result replaced =
    stubs_next c hits n begun old new whole some hit (subst BringsFunction (sym (untouched c hits n begun old old whole some)) (bring n hit)) at at_n result replaced

-- behind the last place none is hit
pub none_past : (hits : ℕ → Bool) (slots : List (Option ImportValue)) → HitFunctions hits slots → (n : ℕ) → length slots ≤ n → (p : ℕ) → n ≤ p → hits p ≡ false
none_past hits slots bring n end p le = by (hits p) refl where
  past : item_at slots p ≡ None
  past = get_or_past slots p None (omega (arith, end, le))

  by : (b : Bool) → hits p ≡ b → hits p ≡ false
  by true is = absurd (none_isnt (sym past ∙ (bring p is).there))
  by false is = is

-- the call
pub stubs_those : {S : Type 0} (modules names : List Choice) (old new : Module S) (marks : Marks ImportKey) → AreChosen modules names (imports old.imports) (is_marked marks) → (p : ℕ) × (is_marked marks p ≡ true)
    → (result : Result (Unit {0}) Error) → StubsHits (is_marked marks) old new result → StubsChosen modules names old new result
stubs_those modules names old new marks are some (Ok done) hits = λ c whole.
    let all = hits c whole (chosen_bring modules names (imports old.imports) (is_marked marks) are) in
    (record { hits = is_marked marks; are = are; some = some; stubs = all.0 }, all.1)
stubs_those modules names old new marks are some (Err e) hits = λ c whole.
    let is = hits c whole (chosen_bring modules names (imports old.imports) (is_marked marks) are) in
    subst (RefusesChosen modules names (imports old.imports)) (sym is) tt

pub matching_held : {S : Type 0} (modules names : List Choice) (old new : Module S) → StubsThose modules names old new → StubsMatching modules names (contents_of old) (contents_of new)
matching_held modules names old new t = record { hits = t.hits; are = t.are; some = t.some; items = t.stubs.items; locals = t.stubs.locals; others = ap contents_of t.stubs.others }
