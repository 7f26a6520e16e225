-- What imports bring and exports export, as items ("Structure > Modules").
use Rattle.walrus_base.specs.Id.{place}
use Rattle.walrus_base.specs.Operators.{Tables, Memories, Globals, Tags, Item, function_item}
use Rattle.walrus_items.specs.declared.kinds.ExportItem.{ExportItem}
use Rattle.walrus_items.specs.declared.kinds.ExportItem.TheVariants as exports
use Rattle.walrus_items.specs.declared.kinds.ImportKind.{ImportKind}
use Rattle.walrus_items.specs.declared.kinds.ImportKind.TheVariants as imports

-- what is imported, by its index space and place
abbrev pub imported : ImportKind → Item
imported (imports.Function f) = function_item (place f)
imported (imports.Table t) = (Tables, place t)
imported (imports.Memory m) = (Memories, place m)
imported (imports.Global g) = (Globals, place g)
imported (imports.Tag t) = (Tags, place t)

-- what is exported, by its index space and place
abbrev pub exported : ExportItem → Item
exported (exports.Function f) = function_item (place f)
exported (exports.Table t) = (Tables, place t)
exported (exports.Memory m) = (Memories, place m)
exported (exports.Global g) = (Globals, place g)
exported (exports.Tag t) = (Tags, place t)
