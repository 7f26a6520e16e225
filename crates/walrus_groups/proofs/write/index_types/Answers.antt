use Rattle.std.proofs.Common.{map, ap, ◌∙◌, sym, subst}
use Rattle.wasm_entries.specs.Record.{group}
use Rattle.walrus_base.specs.Arena.{entries}
use Rattle.walrus_base.proofs.Entries.{AllThere, entries_there}
use Rattle.walrus_base.specs.ModuleTypes.{type_slots}
use Rattle.walrus_base.specs.TypesLeft.{types_left}
use Rattle.walrus_code.specs.Indices.{index_of}
use Rattle.walrus_groups.specs.Written.{GroupStandsFor, firsts}
use Rattle.walrus_groups.proofs.WrittenTurns.{completes_first, completes_last}
use Rattle.walrus_groups.proofs.WrittenWhole.{written}
use Rattle.walrus_groups.proofs.write.index_types.Goals as goal

pub loop-ty-init : goal.loop-ty-init
loop-ty-init c =
    let same = ap types_left c.into_iter-ty-iterator.ensures.into_iter_gives ∙ c.iter-ty-items.ensures in
    let slots = type_slots c.args.types.now in (
      tt,
      tt,
      subst (AllThere slots) (sym same) (entries_there slots),
      completes_first (GroupStandsFor (index_of c.args.indices.now) slots) (firsts (entries slots)) _ group c.new-groups.result.items (ap firsts same) c.new-groups.ensures.items,
    )

pub returns : goal.returns
returns c =
    let slots = type_slots c.args.types.now in
    let zip = completes_last (GroupStandsFor (index_of c.args.indices.now) slots) (firsts (entries slots)) _ group c.loop-ty.groups.items (ap firsts c.in-None.ensures.steps.0) c.loop-ty.invariant.3 in
    record { indexed = written (index_of c.args.indices.now) _ (map group c.loop-ty.groups.items) c.groups_are_whole.ensures c.requires.numbered zip }
