use Rattle.std.proofs.Common.{ap, ap₂, ◌∙◌, ◌++◌, map, flat_map}
use Rattle.std.proofs.lemmas.Result.{on_ok_weaker}
use Rattle.wasm_text.specs.Marks.{args_at}
use Rattle.walrus_code.specs.Code.{item_of}
use Rattle.walrus_bodies.specs.Names.{items_named, memory_if}
use Rattle.walrus_bodies.specs.declared.plain_code.LeftOut.{LeftOut}
use Rattle.walrus_bodies.proofs.OrderLemmas.{in_order}
use Rattle.walrus_bodies.proofs.NamesShown.{names_shown}
use Rattle.walrus_bodies.proofs.text.Text.push_names.Goals as goal

pub push_items-requires : goal.push_items-requires
push_items-requires c = rw (c.bytes.ensures, c.marks.ensures) (in_order c.args.self.now)

pub returns : goal.returns
returns c =
    let same = ap₂ (λ b m. flat_map items_named (args_at b m)) c.bytes.ensures c.marks.ensures in
    let first = c.in_ok-push_memory.ensures ∙ ap (λ (o : LeftOut). map item_of c.args.to.now.items ++ memory_if o.accessed) c.left_out.ensures in
    on_ok_weaker c.push_items.result
    (λ put. names_shown c.args.self.now c.args.to.now.items c.push_memory.new.to.items c.push_items.new.to.items first (put ∙ ap (λ x. map item_of c.push_memory.new.to.items ++ x) same))
    c.push_items.ensures
