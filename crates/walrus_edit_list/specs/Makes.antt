-- What an edit makes of what is held, and why it is refused.
use Rattle.std.specs.Prelude.{ℕ, List, Option, Some, None, nat_eq, if◌then◌else◌, ◌≡◌, ⊤}
use Rattle.wasm_frames.specs.Frames as frames
use Rattle.wasm_frames.specs.Frames.{Section}
use Rattle.wasm_frames.specs.Record.{Custom}
use Rattle.walrus_bodies.specs.declared.features.Features.{Features}
use Rattle.walrus_contents.specs.declared.parts.Contents.{Contents}
use Rattle.walrus_items.specs.declared.error.Error.{Error}
use Rattle.walrus_items.specs.declared.error.Error.TheVariants.{InvalidWasm, Memory}
use Rattle.walrus_edit_list.specs.Bringing as bringing
use Rattle.walrus_edit_list.specs.Customs as customs
use Rattle.walrus_edit_list.specs.Data as datas
use Rattle.walrus_edit_list.specs.Edits as edits
use Rattle.walrus_edit_list.specs.Edits.{Said, Setting}
use Rattle.walrus_edit_list.specs.Elements as elements
use Rattle.walrus_edit_list.specs.Exports as exports
use Rattle.walrus_edit_list.specs.Fronts as fronts
use Rattle.walrus_edit_list.specs.Functions as functions
use Rattle.walrus_edit_list.specs.Globals as globals
use Rattle.walrus_edit_list.specs.Held.{Held}
use Rattle.walrus_edit_list.specs.Imports as imports
use Rattle.walrus_edit_list.specs.Memories as memories
use Rattle.walrus_edit_list.specs.Naming as naming
use Rattle.walrus_edit_list.specs.Producing as producing
use Rattle.walrus_edit_list.specs.Start as start
use Rattle.walrus_edit_list.specs.Types as types
use Rattle.walrus_edit_list.specs.declared.numbers.TheConstants.{OF_CUSTOM, OF_DATA, OF_ELEMENT, OF_EXPORT}

-- so the contents changed, and nothing else that is held
abbrev pub InContents : (Contents → Contents → Type 0) → (old new : Held) → Type 0
InContents Changes old new = Changes old.contents new.contents × (new ≡ record old { contents = new.contents })

-- so the custom sections changed, and nothing else that is held
abbrev pub InCustoms : (List (Option Custom) → List (Option Custom) → Type 0) → (old new : Held) → Type 0
InCustoms Changes old new = Changes old.customs new.customs × (new ≡ record old { customs = new.customs })

-- want of memory, or bytes that aren't of the form
abbrev pub IsMalformed : Error → Type 0
IsMalformed (Memory e) = ⊤
IsMalformed (InvalidWasm kind) = ⊤
IsMalformed _ = ⊥

-- ---- sections that come

-- what a section lists came; sections that aren't named here list no edits
abbrev pub AddsSection : Section → (old new : Held) → Type 0
AddsSection (frames.CustomSection c) old new = InCustoms (customs.AddsCustom c) old new
AddsSection (frames.Types gs) old new = types.AddsTypes gs old new
AddsSection (frames.Imports is) old new = InContents (imports.AddsImports is) old new
AddsSection (frames.Globals gs) old new = InContents (globals.AddsGlobals gs) old new
AddsSection (frames.Exports es) old new = InContents (exports.AddsExports es) old new
AddsSection (frames.Start f) old new = InContents (start.SetsStart f) old new
AddsSection (frames.Elements es) old new = InContents (elements.AddsElements es) old new
AddsSection (frames.DataSegments ds) old new = InContents (datas.AddsData ds) old new
AddsSection _ old new = ⊥

abbrev pub RefusesSection : Section → Held → Error → Type 0
RefusesSection (frames.CustomSection c) old e = customs.RefusesCustom c e
RefusesSection (frames.Types gs) old e = types.RefusesTypes gs old e
RefusesSection (frames.Imports is) old e = imports.RefusesImports is old.contents e
RefusesSection (frames.Globals gs) old e = globals.RefusesGlobals gs old.contents e
RefusesSection (frames.Exports es) old e = exports.RefusesExports es old.contents e
RefusesSection (frames.Start f) old e = start.RefusesStart f old.contents e
RefusesSection (frames.Elements es) old e = elements.RefusesElements es old.contents e
RefusesSection (frames.DataSegments ds) old e = datas.RefusesData ds old.contents e
RefusesSection _ old e = IsMalformed e

-- ---- what is written anew

abbrev pub SetsItem : Features → Setting → (old new : Held) → Type 0
SetsItem f (edits.SetsCustom i bytes) old new = InCustoms (customs.SetsCustom i bytes) old new
SetsItem f (edits.SetsImport i from name) old new = InContents (imports.SetsImport i from name) old new
SetsItem f (edits.SetsExport i e) old new = InContents (exports.SetsExport i e) old new
SetsItem f (edits.SetsFunction i code) old new = functions.SetsFunction f i code old new
SetsItem f (edits.SetsGlobal i g) old new = InContents (globals.SetsGlobal i g) old new
SetsItem f (edits.SetsMemory i l) old new = InContents (memories.SetsMemory i l) old new
SetsItem f (edits.SetsData i d) old new = InContents (datas.SetsData i d) old new

abbrev pub RefusesSet : Features → Setting → Held → Error → Type 0
RefusesSet f (edits.SetsCustom i bytes) old e = customs.LacksCustom i old.customs e
RefusesSet f (edits.SetsImport i from name) old e = imports.RefusesSetImport i old.contents e
RefusesSet f (edits.SetsExport i x) old e = exports.RefusesSetExport i x old.contents e
RefusesSet f (edits.SetsFunction i code) old e = functions.RefusesSetFunction f i code old e
RefusesSet f (edits.SetsGlobal i g) old e = globals.RefusesSetGlobal i g old.contents e
RefusesSet f (edits.SetsMemory i l) old e = memories.RefusesSetMemory i old.contents e
RefusesSet f (edits.SetsData i d) old e = datas.RefusesSetData i d old.contents e

-- ---- what goes

-- what can go by its id
pub data Deleted : Type 0 where
  ACustom : Deleted
  AnExport : Deleted
  AnElement : Deleted
  SomeData : Deleted

-- what goes by the id of its section
abbrev pub deleted : ℕ → Option Deleted
deleted what = if nat_eq what OF_CUSTOM then Some ACustom
    else if nat_eq what OF_EXPORT then Some AnExport
    else if nat_eq what OF_ELEMENT then Some AnElement
    else if nat_eq what OF_DATA then Some SomeData
    else None

abbrev pub DeletesItem : Option Deleted → ℕ → (old new : Held) → Type 0
DeletesItem (Some ACustom) i old new = InCustoms (customs.DeletesCustom i) old new
DeletesItem (Some AnExport) i old new = InContents (exports.DeletesExport i) old new
DeletesItem (Some AnElement) i old new = InContents (elements.DeletesElement i) old new
DeletesItem (Some SomeData) i old new = InContents (datas.DeletesData i) old new
DeletesItem None i old new = ⊥

abbrev pub RefusesDelete : Option Deleted → ℕ → Held → Error → Type 0
RefusesDelete (Some ACustom) i old e = customs.LacksCustom i old.customs e
RefusesDelete (Some AnExport) i old e = exports.RefusesDeleteExport i old.contents e
RefusesDelete (Some AnElement) i old e = elements.RefusesDeleteElement i old.contents e
RefusesDelete (Some SomeData) i old e = datas.RefusesDeleteData i old.contents e
RefusesDelete None i old e = IsMalformed e

-- ---- an edit, where bodies may use these proposals

abbrev pub Makes : Features → Said → (old new : Held) → Type 0
Makes f (edits.Adds section) old new = AddsSection section old new
Makes f (edits.AddsFunction ty code) old new = functions.AddsFunction f ty code old new
Makes f (edits.Sets setting) old new = SetsItem f setting old new
Makes f (edits.Deletes what i) old new = DeletesItem (deleted what) i old new
Makes f edits.DeletesStart old new = InContents start.DeletesStart old new
Makes f (edits.BringsFunction i from name) old new = InContents (bringing.BringsFunction i from name) old new
Makes f (edits.Names what n) old new = InContents (naming.GivesName what n) old new
Makes f (edits.AddsProducer field name version) old new = InContents (producing.AddsProducer field name version) old new
Makes f edits.ClearsProducers old new = InContents producing.ClearsProducers old new
Makes f (edits.Fronts i operators) old new = InContents (fronts.FrontsFunction f i operators) old new

abbrev pub RefusesMake : Features → Said → Held → Error → Type 0
RefusesMake f (edits.Adds section) old e = RefusesSection section old e
RefusesMake f (edits.AddsFunction ty code) old e = functions.RefusesFunction f ty code old e
RefusesMake f (edits.Sets setting) old e = RefusesSet f setting old e
RefusesMake f (edits.Deletes what i) old e = RefusesDelete (deleted what) i old e
RefusesMake f edits.DeletesStart old e = ⊥
RefusesMake f (edits.BringsFunction i from name) old e = bringing.RefusesBring i old.contents e
RefusesMake f (edits.Names what n) old e = naming.RefusesName what old.contents e
RefusesMake f (edits.AddsProducer field name version) old e = producing.RefusesProducer field e
RefusesMake f edits.ClearsProducers old e = ⊥
RefusesMake f (edits.Fronts i operators) old e = fronts.RefusesFront f i operators old.contents e
