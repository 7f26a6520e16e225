use Rattle.std.proofs.Common.{◌≡◌, ℕ, List, Bool, true, false, not, sym, ap₂, ◌∙◌, subst}
use Rattle.std.specs.Prelude.{Option, Result, String}
use Rattle.std.specs.declared.alloc.Global.{Global}
use Rattle.walrus_module.specs.Flags.{Flags, config_of, defaults}
use Rattle.walrus.specs.Command.{asks_for_report, flags_for}
use Rattle.walrus.specs.Reported.{ReportsOrRuns}
use Rattle.walrus.specs.declared.tool.ToolError.{ToolError}
use Rattle.walrus.proofs.command.run_or_report.Goals as goal

-- the setters, one after another
set : (f g h i : Flags) (names producers legacy names_off producers_off legacy_off : Bool) → f ≡ defaults → g ≡ record f { generate_name_section = not names } → h ≡ record g { generate_producers_section = not producers }
    → i ≡ record h { legacy_exceptions = not legacy } → names ≡ names_off → producers ≡ producers_off → legacy ≡ legacy_off
    → i ≡ record defaults { generate_name_section = not names_off; generate_producers_section = not producers_off; legacy_exceptions = not legacy_off }
set f g h i names producers legacy names_off producers_off legacy_off begun named produced taken n p l =
    taken
    ∙ ap₂ (λ (x : Flags) (b : Bool). record x { legacy_exceptions = not b })
    (produced ∙ ap₂ (λ (x : Flags) (b : Bool). record x { generate_producers_section = not b }) (named ∙ ap₂ (λ (x : Flags) (b : Bool). record x { generate_name_section = not b }) begun n) p) l

-- what is said under the flags that were set is said under those that the words ask for
by_words : {X : Type 0} (from_old from_new to_old to_new : Option (List ℕ)) (result : Result X ToolError) (is_report : Bool) (words : List (String Global)) (f : Flags)
    → f ≡ flags_for words → asks_for_report words ≡ is_report → ReportsOrRuns is_report (config_of f) from_old from_new to_old to_new result
    → ReportsOrRuns (asks_for_report words) (config_of (flags_for words)) from_old from_new to_old to_new result
by_words from_old from_new to_old to_new result is_report words f is asks ran =
    subst (λ (b : Bool). ReportsOrRuns b (config_of (flags_for words)) from_old from_new to_old to_new result) (sym asks)
    (subst (λ (g : Flags). ReportsOrRuns is_report (config_of g) from_old from_new to_old to_new result) is ran)

pub returns-then-has-clause-headline : goal.returns-then-has-clause-headline
returns-then-has-clause-headline g c =
    by_words _ _ _ _ _ true c.args.words.now _
    (set _ _ _ _ _ _ _ _ _ _ c.new-made.ensures.value c.generate_name_section.ensures.value c.generate_producers_section.ensures.value c.legacy_exceptions-config.ensures.value c.has.ensures c.has-2.ensures c.has-3.ensures)
    (sym c.has-4.ensures ∙ c.if-has.true) c.report.ensures.headline

pub returns-clause-headline : goal.returns-clause-headline
returns-clause-headline g c =
    by_words _ _ _ _ _ false c.args.words.now _
    (set _ _ _ _ _ _ _ _ _ _ c.new-made.ensures.value c.generate_name_section.ensures.value c.generate_producers_section.ensures.value c.legacy_exceptions-config.ensures.value c.has.ensures c.has-2.ensures c.has-3.ensures)
    (sym c.has-4.ensures ∙ c.if-has.false) c.run_last.ensures.headline
