use denote.Param.Object.{read_made}
use Rattle.std.proofs.Common.{rules, ◌≡◌, ℕ, List, ap, ap₂, sym, ◌∙◌, subst}
use Rattle.std.specs.Prelude.{Err, None, Ok}
use Rattle.std.specs.String.{string_bytes}
use Rattle.std.proofs.lemmas.Result.{err_from_is_err_and}
use Rattle.walrus.specs.Items.Functions.{functions}
use Rattle.walrus.specs.Items.Roots.{places}
use Rattle.walrus.specs.Modules.Flags.{Flags, config_of, defaults}
use Rattle.walrus.specs.Modules.Meaning.{Meaning}
use Rattle.walrus.specs.Modules.SectionEntry.TheVariants.{Boxed}
use Rattle.walrus_examples.proofs.ListedEnds.{edited_answers, edited_ready, list_refused, listed_meaning, passed_answers, passed_ready}
use Rattle.walrus_examples.specs.ListSteps.{FindsListed}
use Rattle.walrus.specs.Listed.{listed_functions, listed_name}
use Rattle.walrus_examples.proofs.examples.keep_listed.keep_listed.OwnLists as own
use Rattle.walrus_examples.proofs.examples.keep_listed.keep_listed.Goals as goal

pub returns-in_default : goal.returns-in_default
returns-in_default c =
    let m = c.in_ok-module in
    let none : c.remove_raw.result ≡ None = search rules in
    let is = ap config_of m.ensures.configured in
    let still = ap (λ (f : Flags). f.preserve_code_transform) m.ensures.configured in
    let ready = passed_ready _ (config_of defaults) c.args.bytes.now c.args.name.now m.module m.ensures.found m.ensures.kept.raws m.ensures.kept.are is still c.remove_raw.new.self c.remove_raw.ensures.left (sym none ∙ c.remove_raw.ensures.value) in
    passed_answers _ (config_of defaults) c.args.bytes.now c.args.name.now m.module m.ensures.found m.ensures.kept.raws m.ensures.kept.are is still c.remove_raw.new.self c.remove_raw.ensures.left (sym none ∙ c.remove_raw.ensures.value)
    c.finished.result (c.finished.ensures ready)

pub returns-in_err-ids : goal.returns-in_err-ids
returns-in_err-ids c =
    let m = c.in_ok-module in
    let is = ap config_of m.ensures.configured in
    let still = ap (λ (f : Flags). f.preserve_code_transform) m.ensures.configured in
    let p = err_from_is_err_and c.from_residual-in_err-ids.result c.from_residual-in_err-ids.ensures.1 in
    rw (p.1, p.2) (list_refused _ (config_of defaults) c.args.bytes.now c.args.name.now m.module m.ensures.found m.ensures.kept.raws m.ensures.kept.are is still c.remove_raw.new.self c.remove_raw.ensures.left c.in-Some.section c.in-Some.ensures.value
    _ (subst (λ (bytes : List ℕ). FindsListed (functions m.module.funcs) bytes (Err c.in_err-ids.field-0.0)) c.deref.ensures.value c.in_err-ids.ensures))

pub returns : goal.returns
returns c =
    let m = c.in_ok-module in
    let is = ap config_of m.ensures.configured in
    let still = ap (λ (f : Flags). f.preserve_code_transform) m.ensures.configured in
    let fs = places c.in_ok-ids.ids.items in
    let lists = subst (λ (bytes : List ℕ). FindsListed (functions m.module.funcs) bytes (Ok c.in_ok-ids.ids)) c.deref.ensures.value c.in_ok-ids.ensures in
    let named : listed_name c.in_ok-own.own.value ≡ string_bytes c.in-Some.section.name = search rules in
    let listed : listed_functions c.in_ok-own.own.value ≡ fs = search rules in
    let means = read_made own.own-1 own.entry-1-1 own.at-1-1 own.same-1-1 Meaning (λ j y. record { name = j.1.section_name y; state = j.1.state y; roots = j.1.own_roots y; may_refuse = j.1.may_refuse y; contents = j.1.contents y; state_after = j.1.state_after y }) _ _ _ c.into_dyn_box.ensures.1 ∙ ap₂ (λ (n gs : List ℕ). listed_meaning n gs) named listed in
    edited_answers _ (config_of defaults) c.args.bytes.now c.args.name.now m.module m.ensures.found m.ensures.kept.raws m.ensures.kept.are is still c.remove_raw.new.self c.remove_raw.ensures.left c.in-Some.section c.in-Some.ensures.value
    fs lists (Boxed c.into_dyn_box.result) means c.add.new.self c.in_ok-add.ensures.1
    c.finished-2.result (c.finished-2.ensures
    (edited_ready _ (config_of defaults) c.args.bytes.now c.args.name.now m.module m.ensures.found m.ensures.kept.raws m.ensures.kept.are is still c.remove_raw.new.self c.remove_raw.ensures.left c.in-Some.section c.in-Some.ensures.value
    fs lists (Boxed c.into_dyn_box.result) means c.add.new.self c.in_ok-add.ensures.1))
