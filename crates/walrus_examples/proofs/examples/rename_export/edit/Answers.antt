use Rattle.std.proofs.Common.{◌≡◌, ◌∙◌, ap, false, inl, inr, rules, sym, true}
use Rattle.walrus.specs.Items.Exports.{export_value, exports}
use Rattle.walrus.proofs.Base.SearchFound.{is_found}
use Rattle.walrus.proofs.Base.Standing.{some_of}
use Rattle.walrus.proofs.Modules.ReplacedLemmas.{found_lives, put_seen}
use Rattle.walrus_examples.proofs.RenameSteps.{drops, names, none_found, renames, untaken}
use Rattle.walrus_tools.specs.ExportNames.{with_name}
use Rattle.walrus_examples.proofs.examples.rename_export.edit.Goals as goal

pub returns-in_default : goal.returns-in_default
returns-in_default c = inl (none_found _ c.in_default.ensures)

pub remove_root-requires : goal.remove_root-requires
remove_root-requires c = found_lives _ _ _ (is_found (names c.args.dropped.now) (exports c.args.all.now) _ c.in-Some.ensures)

pub returns-in_default-find : goal.returns-in_default-find
returns-in_default-find c =
    let gone = drops c.args.dropped.now _ _ _ (is_found (names c.args.dropped.now) (exports c.args.all.now) _ c.in-Some.ensures) c.remove_root.ensures in
    inr (exports c.remove_root.new.self, gone, none_found _ c.in_default-find.ensures)

pub returns-then-is_taken : goal.returns-then-is_taken
returns-then-is_taken c =
    let gone = drops c.args.dropped.now _ _ _ (is_found (names c.args.dropped.now) (exports c.args.all.now) _ c.in-Some.ensures) c.remove_root.ensures in
    let yes : c.is_taken.result ≡ true = search rules in
    (exports c.remove_root.new.self, gone, some_of _ (sym c.is_taken.ensures ∙ yes))

pub get_mut-requires : goal.get_mut-requires
get_mut-requires c = found_lives _ _ _ (is_found (names c.args.from.now) (exports c.remove_root.new.self) _ c.in-Some-find.ensures)

pub returns : goal.returns
returns c =
    let no : c.is_taken.result ≡ false = search rules in
    let left = c.remove_root.new.self in
    let set = put_seen export_value (with_name c.args.to.now) left.arena.places.items _ _ (export_value c.get_mut.result.now) c.get_mut.ensures.value (ap (λ n. with_name n (export_value c.get_mut.result.now)) c.in_ok-name.ensures.ok) in
    record {
      left = left;
      drops = drops c.args.dropped.now _ _ _ (is_found (names c.args.dropped.now) (exports c.args.all.now) _ c.in-Some.ensures) c.remove_root.ensures;
      renames = renames c.args.from.now _ _ _ (is_found (names c.args.from.now) (exports left) _ c.in-Some-find.ensures) c.args.to.now (untaken _ (sym c.is_taken.ensures ∙ no)) set;
    }
