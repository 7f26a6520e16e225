use Rattle.walrus_base.specs.Operators.{Types, Functions, Tables, Memories, Tags, Globals, Elements, DataSegments}
use Rattle.walrus_writing.specs.Names.{item_name}
use Rattle.walrus_writing.proofs.NamesLemmas.{along, few_of, spaces_same, text_same}
use Rattle.walrus_writing.proofs.names.raw_names.Goals as goal

pub function_names-requires : goal.function_names-requires
function_names-requires c = record { few = c.requires.few Functions }

pub names_along-requires : goal.names_along-requires
names_along-requires c = record { few = few_of _ _ c.as_slice.ensures.value (c.requires.few Types) }

pub names_along-requires-2 : goal.names_along-requires-2
names_along-requires-2 c = record { few = few_of _ _ c.as_slice-2.ensures.value (c.requires.few Tables) }

pub names_along-requires-3 : goal.names_along-requires-3
names_along-requires-3 c = record { few = few_of _ _ c.as_slice-3.ensures.value (c.requires.few Memories) }

pub names_along-requires-4 : goal.names_along-requires-4
names_along-requires-4 c = record { few = few_of _ _ c.as_slice-4.ensures.value (c.requires.few Globals) }

pub names_along-requires-5 : goal.names_along-requires-5
names_along-requires-5 c = record { few = few_of _ _ c.as_slice-5.ensures.value (c.requires.few Elements) }

pub names_along-requires-6 : goal.names_along-requires-6
names_along-requires-6 c = record { few = few_of _ _ c.as_slice-6.ensures.value (c.requires.few DataSegments) }

pub names_along-requires-7 : goal.names_along-requires-7
names_along-requires-7 c = record { few = few_of _ _ c.as_slice-7.ensures.value (c.requires.few Tags) }

pub returns-clause-value : goal.returns-clause-value
returns-clause-value c = λ used named.
    let p = c.args.parts in
    text_same _ _ _ _ _ _ c.lent.ensures
    (spaces_same _ _
    c.in_ok-function_names.ensures.value
    (along (item_name p Types) _ _ _ c.as_slice.ensures.value c.in_ok-names_along.ensures.value)
    (along (item_name p Tables) _ _ _ c.as_slice-2.ensures.value c.in_ok-names_along-2.ensures.value)
    (along (item_name p Memories) _ _ _ c.as_slice-3.ensures.value c.in_ok-names_along-3.ensures.value)
    (along (item_name p Globals) _ _ _ c.as_slice-4.ensures.value c.in_ok-names_along-4.ensures.value)
    (along (item_name p Elements) _ _ _ c.as_slice-5.ensures.value c.in_ok-names_along-5.ensures.value)
    (along (item_name p DataSegments) _ _ _ c.as_slice-6.ensures.value c.in_ok-names_along-6.ensures.value)
    (along (item_name p Tags) _ _ _ c.as_slice-7.ensures.value c.in_ok-names_along-7.ensures.value))
    named
