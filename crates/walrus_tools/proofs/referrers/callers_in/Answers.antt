use Rattle.std.proofs.Common.{refl}
use Rattle.walrus.specs.Base.Operators.{Types, Functions, Tables, Memories, Tags, Globals, Elements, DataSegments}
use Rattle.walrus.specs.Code.Code.{item_of}
use Rattle.walrus.specs.Contents.View.{parts_view}
use Rattle.walrus_tools.proofs.CallersTurn.{callers_all, callers_turn}
use Rattle.walrus_tools.proofs.referrers.callers_in.Goals as goal

pub add_kind-requires-2 : goal.add_kind-requires-2
add_kind-requires-2 c = callers_turn (parts_view c.args.parts) (item_of c.args.item) Types Functions _ refl c.in_ok-add_kind.ensures

pub add_kind-requires-3 : goal.add_kind-requires-3
add_kind-requires-3 c = callers_turn (parts_view c.args.parts) (item_of c.args.item) Functions Tables _ refl c.in_ok-add_kind-2.ensures

pub add_kind-requires-4 : goal.add_kind-requires-4
add_kind-requires-4 c = callers_turn (parts_view c.args.parts) (item_of c.args.item) Tables Memories _ refl c.in_ok-add_kind-3.ensures

pub add_kind-requires-5 : goal.add_kind-requires-5
add_kind-requires-5 c = callers_turn (parts_view c.args.parts) (item_of c.args.item) Memories Tags _ refl c.in_ok-add_kind-4.ensures

pub add_kind-requires-6 : goal.add_kind-requires-6
add_kind-requires-6 c = callers_turn (parts_view c.args.parts) (item_of c.args.item) Tags Globals _ refl c.in_ok-add_kind-5.ensures

pub add_kind-requires-7 : goal.add_kind-requires-7
add_kind-requires-7 c = callers_turn (parts_view c.args.parts) (item_of c.args.item) Globals Elements _ refl c.in_ok-add_kind-6.ensures

pub add_kind-requires-8 : goal.add_kind-requires-8
add_kind-requires-8 c = callers_turn (parts_view c.args.parts) (item_of c.args.item) Elements DataSegments _ refl c.in_ok-add_kind-7.ensures

pub returns : goal.returns
returns c = callers_all (parts_view c.args.parts) (item_of c.args.item) _ c.in_ok-add_kind-8.ensures
