-- An engine at work: an interpreter as a value of `Engine`, and what it makes of a module. It takes a module whose values are i32, whose types
-- stand alone, and whose segments fit their tables, does operator by operator as the standard says ("Execution"), and stops at what it doesn't know.
-- It has no numbers of items, only the order in which it came to them: it looks at the function that runs again for each operator, and keeps what is
-- stored with the item that it is stored to, which it tells from others by asking whether two are one.
use Rattle.std.specs.Prelude.{ℕ, zero, suc, ◌+◌, ◌-◌, ◌*◌, ◌%◌, ◌^◌, ℤ, pos, negsuc, Bool, true, false, ◌&&◌, ◌||◌, if◌then◌else◌, ◌==◌, nat_lt, List, [], ◌∷◌, ◌++◌, map, filter, flat_map, reverse, length, take, drop, get_or, slice_get, Option, Some, None, bytes_eq, codes, ◌≡◌}
use Rattle.wasm_opcodes.specs.declared.one_byte.TheConstants.{NOP, IF, ELSE, END, CALL, CALL_INDIRECT, DROP, LOCAL_GET, GLOBAL_GET, I32_CONST, I32_ADD, I32_SUB, I32_MUL}
use Rattle.walrus_base.specs.Types.{ValType, I32, CompType, Func, FuncHeap, OfHeap, sub_names, val_names}
use Rattle.walrus_base.specs.Operators.{Types, Functions, Tables, Globals, OneResult, Arg, Index, Local, Block, S32, Op, type_item, names_of, locals_of}
use Rattle.walrus_base.specs.Shape.{Seen}
use Rattle.walrus_model.specs.Abstract.{Abstract, LocalFunction, Function, Defined, ElementKind, ActiveElements, ElementItems, ListedFunctions, Element}
use Rattle.walrus_model.specs.Examples.{alone, function_type, two_functions}
use Rattle.walrus_model.specs.Refers.{named_by, global_names, element_names}
use Rattle.walrus_model.specs.Sections.{body_with}
use Rattle.walrus_theorem.specs.Engines.{LocalSeen, CodeSeen, Sight, SeesType, SeesFunction, SeesGlobal, SeesElement, Segments, Face, Ask, LookAt, AreOne, Engine, walked, at_face}

-- ---- lists of numbers as one: each number one higher, and 0 behind each list

abbrev pub joined : List (List ℕ) → List ℕ
joined lists = flat_map (λ list. map suc list ++ 0 ∷ []) lists

abbrev pub put_first : ℕ → List (List ℕ) → List (List ℕ)
put_first n [] = (n ∷ []) ∷ []
put_first n (list ∷ lists) = (n ∷ list) ∷ lists

abbrev pub parted : List ℕ → List (List ℕ)
parted [] = []
parted (zero ∷ notes) = [] ∷ parted notes
parted (suc n ∷ notes) = put_first n (parted notes)

-- ---- the machine ("Execution > Runtime Structure"); it names items by the order in which it came to them

-- what it does next
pub data Task : Type 0 where
  -- put an active element segment, and so many behind it, into their tables
  Fill : (segment left : ℕ) → Task
  -- do the next operator
  Run : Task
  -- look at a function that is called, and then at its type; an indirect call asks for so many parameters and results
  Call : (function : ℕ) (asked : List ℕ) → Task
  Enter : (function type : ℕ) (asked : List ℕ) → Task
  -- look for what is stored to a global, from this entry on
  Load : (global entry : ℕ) → Task
  -- look for the function in a place of a table, from this entry on, and then at the type that it is to have
  Pick : (table place type entry : ℕ) → Task
  Expect : (type function : ℕ) → Task
  -- the first call returned
  Done : Task
  -- it traps, or met what it doesn't know
  Stopped : Task

pub record Machine : Type 0 where
  pub task : Task
  -- how many items it came to
  pub items : ℕ
  -- the function that runs, the place of its next operator, and the number of this call
  pub function : ℕ
  pub at : ℕ
  pub frame : ℕ
  -- the stack, the top first, and the calls that wait, each as these three numbers
  pub values : List ℕ
  pub calls : List (List ℕ)
  -- what was stored, the latest first: to a local, as the number of the call, which local, and the value; to a global or a table, as the
  -- item, the place in it, and the value or the function
  pub locals : List (List ℕ)
  pub stored : List (List ℕ)

abbrev pub task_notes : Task → List ℕ
task_notes (Fill segment left) = 0 ∷ segment ∷ left ∷ []
task_notes Run = 1 ∷ []
task_notes (Call function asked) = 2 ∷ function ∷ 0 ∷ asked
task_notes (Enter function type asked) = 3 ∷ function ∷ type ∷ asked
task_notes (Load global entry) = 4 ∷ global ∷ entry ∷ []
task_notes (Pick table place type entry) = 5 ∷ table ∷ place ∷ type ∷ entry ∷ []
task_notes (Expect type function) = 6 ∷ type ∷ function ∷ []
task_notes Done = 7 ∷ []
task_notes Stopped = 8 ∷ []

abbrev pub number : List ℕ → ℕ → ℕ
number list k = get_or list k 0

abbrev pub task_of : List ℕ → Task
task_of list =
    let a : ℕ = number list 1 in
    let b : ℕ = number list 2 in
    get_or (Fill a b ∷ Run ∷ Call a (drop 3 list) ∷ Enter a b (drop 3 list) ∷ Load a b ∷ Pick a b (number list 3) (number list 4) ∷ Expect a b ∷ Done ∷ []) (number list 0) Stopped

abbrev pub notes_of : Machine → List ℕ
notes_of s = joined (task_notes s.task ∷ (s.items ∷ s.function ∷ s.at ∷ s.frame ∷ []) ∷ s.values ∷ joined s.calls ∷ joined s.locals ∷ joined s.stored ∷ [])

abbrev pub machine_in : List (List ℕ) → Machine
machine_in lists =
    let at : ℕ → ℕ = number (get_or lists 1 []) in
    record { task = task_of (get_or lists 0 []); items = at 0; function = at 1; at = at 2; frame = at 3; values = get_or lists 2 []; calls = parted (get_or lists 3 []); locals = parted (get_or lists 4 []); stored = parted (get_or lists 5 []) }

abbrev pub machine_of : List ℕ → Machine
machine_of notes = machine_in (parted notes)

abbrev pub stopped : Machine → Machine
stopped s = record s { task = Stopped }

-- with this stack it goes on
abbrev pub goes_on : Machine → List ℕ → Machine
goes_on s values = record s { values = values; task = Run }

-- ---- "Execution > Numerics", of 32 bits

abbrev pub word : ℕ → ℕ
word n = n % (2 ^ 32)

abbrev pub word_of : ℤ → ℕ
word_of (pos n) = word n
word_of (negsuc n) = 2 ^ 32 - suc n

abbrev pub flag : Bool → ℕ
flag true = 1
flag false = 0

abbrev pub LOCAL_SET : ℕ
LOCAL_SET = 0x21

abbrev pub GLOBAL_SET : ℕ
GLOBAL_SET = 0x24

abbrev pub I32_EQZ : ℕ
I32_EQZ = 0x45

abbrev pub I32_LT_U : ℕ
I32_LT_U = 0x49

-- b stands on top of a
abbrev pub computed : ℕ → (b a : ℕ) → Option ℕ
computed op b a =
    if op == I32_LT_U then Some (flag (nat_lt a b))
    else if op == I32_ADD then Some (word (a + b))
    else if op == I32_SUB then Some (word (a + 2 ^ 32 - b))
    else if op == I32_MUL then Some (word (a * b))
    else None

abbrev pub pushes : Machine → List ℕ → Option ℕ → Machine
pushes s rest None = stopped s
pushes s rest (Some value) = goes_on s (value ∷ rest)

-- ---- "Execution > Instructions"

abbrev pub on_two : Machine → (op b : ℕ) → List ℕ → Machine
on_two s op b [] = stopped s
on_two s op b (a ∷ rest) = pushes s rest (computed op b a)

abbrev pub on_values : Machine → (op : ℕ) → List ℕ → Machine
on_values s op [] = stopped s
on_values s op (b ∷ rest) = if op == DROP then goes_on s rest else if op == I32_EQZ then goes_on s (flag (b == 0) ∷ rest) else on_two s op b rest

-- how many operators there are up to the end of a block, or up to its `else`, where that counts
abbrev pub up_to : (by_else : Bool) → List Op → (inner : ℕ) → ℕ
up_to by_else [] inner = 0
up_to by_else (o ∷ ops) inner =
    let stops : Bool = (inner == 0) && ((o.op == END) || (by_else && (o.op == ELSE))) in
    suc (if stops then 0 else up_to by_else ops (if o.op == IF then suc inner else if o.op == END then inner - 1 else inner))

-- behind the next `else` or `end` of the block that it is in
abbrev pub jumps : Machine → CodeSeen → (by_else : Bool) → Machine
jumps s code by_else = record s { at = s.at + up_to by_else (drop s.at code.operators) 0 }

abbrev pub chooses : Machine → CodeSeen → List ℕ → Machine
chooses s code [] = stopped s
chooses s code (c ∷ rest) = if c == 0 then jumps (goes_on s rest) code true else goes_on s rest

abbrev pub returns : Machine → List (List ℕ) → Machine
returns s [] = stopped s
returns s (call ∷ calls) = record s { function = number call 0; at = number call 1; frame = number call 2; calls = calls; task = if length calls == 0 then Done else Run }

-- an operator without arguments; the last `end` returns
abbrev pub plain : Machine → CodeSeen → ℕ → Machine
plain s code op =
    if op == NOP then s
    else if op == ELSE then jumps s code false
    else if op == END then (if s.at == length code.operators then returns s s.calls else s)
    else on_values s op s.values

-- a local is known by its place among the parameters, or else by its first use
abbrev pub local_key : Option ℕ → Option ℕ → List ℕ
local_key (Some place) first = 0 ∷ place ∷ []
local_key None (Some first) = 1 ∷ first ∷ []
local_key None None = []

-- the latest value under a key, or 0
abbrev pub latest : List ℕ → List (List ℕ) → ℕ
latest key [] = 0
latest key (entry ∷ entries) = if bytes_eq (take (length key) entry) key then number entry (length key) else latest key entries

abbrev pub sets : Machine → (key : List ℕ) → List ℕ → Machine
sets s key [] = stopped s
sets s key (a ∷ rest) = record s { values = rest; locals = (key ++ a ∷ []) ∷ s.locals }

abbrev pub on_local : Machine → ℕ → Option LocalSeen → Machine
on_local s op None = stopped s
on_local s op (Some l) =
    let key : List ℕ = s.frame ∷ local_key l.parameter l.first_use in
    if op == LOCAL_GET then goes_on s (latest key s.locals ∷ s.values) else if op == LOCAL_SET then sets s key s.values else stopped s

abbrev pub stores : Machine → (global : ℕ) → List ℕ → Machine
stores s global [] = stopped s
stores s global (a ∷ rest) = record s { values = rest; stored = (global ∷ 0 ∷ a ∷ []) ∷ s.stored }

abbrev pub on_item : Machine → (op item : ℕ) → Machine
on_item s op item =
    if op == CALL then record s { task = Call item [] }
    else if op == GLOBAL_GET then record s { task = Load item 0 }
    else if op == GLOBAL_SET then stores s item s.values
    else stopped s

abbrev pub picks : Machine → (op type table : ℕ) → List ℕ → Machine
picks s op type table [] = stopped s
picks s op type table (place ∷ rest) = if op == CALL_INDIRECT then record s { values = rest; task = Pick table place type 0 } else stopped s

-- an operator, the first item that it names, and the local
abbrev pub does : Machine → CodeSeen → (op item : ℕ) → Option LocalSeen → List Arg → Machine
does s code op item local [] = plain s code op
does s code op item local (S32 n ∷ []) = goes_on s (word_of n ∷ s.values)
does s code op item local (Local x ∷ []) = on_local s op local
does s code op item local (Index x ∷ []) = on_item s op item
does s code op item local (Index x ∷ Index y ∷ []) = picks s op item (suc item) s.values
does s code op item local (Block b ∷ []) = if op == IF then chooses s code s.values else stopped s
does s code op item local args = stopped s

abbrev pub steps_on : Machine → CodeSeen → Option Op → Machine
steps_on s code None = stopped s
steps_on s code (Some o) =
    let before : List Op = take s.at code.operators in
    does (record s { at = suc s.at }) code o.op (s.items + suc (length (names_of before))) (slice_get code.uses (length (locals_of before))) o.args

-- ---- what it makes of what it sees

abbrev pub constant_in : List Arg → Option ℕ
constant_in (S32 n ∷ []) = Some (word_of n)
constant_in args = None

abbrev pub constant : Option (List Op) → Option ℕ
constant (Some (o ∷ [])) = constant_in o.args
constant ops = None

abbrev pub entries : (table place item : ℕ) → List ℕ → List (List ℕ)
entries table place item [] = []
entries table place item (f ∷ fs) = (table ∷ place ∷ item ∷ []) ∷ entries table (suc place) (suc item) fs

-- the items that a segment names are its table and then its functions, where its place is a constant
abbrev pub filled : Machine → Option ℕ → ElementItems → Machine
filled s (Some place) (ListedFunctions fs) = record s { stored = entries s.items place (suc s.items) fs ++ s.stored }
filled s place items = stopped s

abbrev pub fills : Machine → ElementKind → ElementItems → Machine
fills s (ActiveElements table offset) items = filled s (constant (Some offset)) items
fills s kind items = stopped s

abbrev pub is_i32 : ValType Seen → Bool
is_i32 I32 = true
is_i32 v = false

-- how many parameters and results, where all are i32
abbrev pub signature : CompType Seen → List ℕ
signature (Func params results) = if length (filter is_i32 (params ++ results)) == length params + length results then length params ∷ length results ∷ [] else []
signature comp = []

abbrev pub expects : Machine → (function : ℕ) → (asked : List ℕ) → Machine
expects s function [] = stopped s
expects s function (params ∷ results) = record s { task = Call function (params ∷ results) }

abbrev pub arguments : (frame place : ℕ) → List ℕ → List (List ℕ)
arguments frame place [] = []
arguments frame place (a ∷ rest) = (frame ∷ 0 ∷ place ∷ a ∷ []) ∷ arguments frame (suc place) rest

-- the number of the call is that of the items so far, which no other call has
abbrev pub enters : Machine → (function : ℕ) → (asked signature : List ℕ) → Machine
enters s function asked [] = stopped s
enters s function asked (params ∷ results) =
    if (length asked == 0) || bytes_eq asked (params ∷ results)
    then record s { task = Run; function = function; at = 0; frame = s.items; values = drop params s.values; calls = (s.function ∷ s.at ∷ s.frame ∷ []) ∷ s.calls; locals = arguments s.items 0 (reverse (take params s.values)) ++ s.locals }
    else stopped s

abbrev pub sees : Machine → Task → Sight → Machine
sees s (Fill segment left) (SeesElement e) = fills (record s { task = if left == 0 then Call 0 [] else Fill (suc segment) (left - 1) }) e.kind e.items
sees s Run (SeesFunction source (Some code)) = steps_on s code (slice_get code.operators s.at)
sees s (Call function asked) (SeesFunction source (Some code)) = record s { task = Enter function s.items asked }
sees s (Enter function type asked) (SeesType members position sub) = enters s function asked (signature sub.comp)
sees s (Load global entry) (SeesGlobal source g) = pushes s s.values (constant g.initialiser)
sees s (Expect type function) (SeesType members position sub) = expects s function (signature sub.comp)
sees s task sight = stopped s

-- how many items it comes to by looking there
abbrev pub come : Sight → ℕ
come (SeesType members position sub) = members + length (sub_names sub)
come (SeesFunction source None) = 1
come (SeesFunction source (Some code)) = suc (length (names_of code.operators ++ flat_map (λ (l : LocalSeen). named_by (λ v. map type_item (val_names v)) l.ty) code.uses))
come (SeesGlobal source g) = length (global_names g)
come (SeesElement e) = length (element_names e)
come sight = 0

abbrev pub looks : Machine → (item : ℕ) → Ask
looks s item = LookAt item (λ sight. notes_of (record (sees s s.task sight) { items = s.items + come sight }))

abbrev pub rests : Machine → Ask
rests s = AreOne 0 0 (λ one. notes_of s)

-- the first entry of a global counts, or else its initialiser; the first one of a place in a table
abbrev pub loads : Machine → (global entry : ℕ) → Option (List ℕ) → Ask
loads s global entry None = looks s global
loads s global entry (Some e) = AreOne global (number e 0) (λ one. notes_of (if one then goes_on s (number e 2 ∷ s.values) else record s { task = Load global (suc entry) }))

abbrev pub finds : Machine → (table place type entry : ℕ) → Option (List ℕ) → Ask
finds s table place type entry None = rests (stopped s)
finds s table place type entry (Some e) = AreOne table (number e 0) (λ one. notes_of (record s { task = if one && (place == number e 1) then Expect type (number e 2) else Pick table place type (suc entry) }))

abbrev pub asks : Machine → Task → Ask
asks s (Fill segment left) = looks s segment
asks s Run = looks s s.function
asks s (Call function asked) = looks s function
asks s (Enter function type asked) = looks s type
asks s (Load global entry) = loads s global entry (slice_get s.stored entry)
asks s (Pick table place type entry) = finds s table place type entry (slice_get s.stored entry)
asks s (Expect type function) = looks s type
asks s Done = rests s
asks s Stopped = rests s

-- "Execution > Modules": it fills the tables, and calls the first export; it knows no start function and no active data
abbrev pub begins : Face → Machine
begins f =
    let first : Task = if f.starts || nat_lt 0 f.data_segments then Stopped else if f.elements == 0 then Call 0 [] else Fill (length f.exports) (f.elements - 1) in
    record { task = first; items = length f.exports + f.elements; function = 0; at = 0; frame = 0; values = []; calls = []; locals = []; stored = [] }

abbrev pub interpreter : Engine
interpreter = record { first = λ face. notes_of (begins face); next = λ notes. asks (machine_of notes) (machine_of notes).task }

-- what the first call returned, by the notes
abbrev pub returned : Machine → Task → Option (List ℕ)
returned s Done = Some s.values
returned s task = None

-- after so many steps the first export of the module has returned these values
abbrev pub Returns : Abstract → (steps : ℕ) → List ℕ → Type 0
Returns m steps values = (segments : Segments m) × (let s : Machine = machine_of (walked interpreter m (at_face interpreter m segments) steps).notes in returned s s.task ≡ Some values)

-- ---- a module of three functions

abbrev pub op : ℕ → List Arg → Op
op byte args = record { op = byte; args = args }

abbrev pub const : ℕ → Op
const n = op I32_CONST (S32 (pos n) ∷ [])

abbrev pub get : ℕ → Op
get local = op LOCAL_GET (Local local ∷ [])

abbrev pub double : Function
double = record { ty = 0; kind = LocalFunction (body_with (I32 ∷ []) ([], get 0 ∷ get 0 ∷ op I32_ADD [] ∷ op END [] ∷ [])) }

-- one more than a number, or than the double of one below 5
abbrev pub increase : (double : ℕ) → Function
increase d = record {
  ty = 0;
  kind = LocalFunction (body_with (I32 ∷ []) (
    [],
    get 0 ∷ const 5 ∷ op I32_LT_U [] ∷ op IF (Block (OneResult I32) ∷ [])
        ∷ get 0 ∷ op CALL (Index (Functions, d) ∷ []) ∷ op ELSE [] ∷ get 0 ∷ op END []
        ∷ const 1 ∷ op I32_ADD [] ∷ op END [] ∷ [],
  ));
}

-- 1 goes through the function of the table in place 1, the global, and that through the one in place 0, one less
abbrev pub run : Function
run = record {
  ty = 1;
  kind = LocalFunction (body_with [] (
    I32 ∷ [],
    const 1 ∷ op GLOBAL_GET (Index (Globals, 0) ∷ []) ∷ op CALL_INDIRECT (Index (Types, 0) ∷ Index (Tables, 0) ∷ []) ∷ op LOCAL_SET (Local 0 ∷ [])
        ∷ op GLOBAL_GET (Index (Globals, 0) ∷ []) ∷ const 1 ∷ op I32_SUB [] ∷ op GLOBAL_SET (Index (Globals, 0) ∷ [])
        ∷ get 0 ∷ op GLOBAL_GET (Index (Globals, 0) ∷ []) ∷ op CALL_INDIRECT (Index (Types, 0) ∷ Index (Tables, 0) ∷ []) ∷ op END [] ∷ [],
  ));
}

abbrev pub filling : (first second : ℕ) → Element
filling first second = record { kind = ActiveElements 0 (const 0 ∷ []); items = ListedFunctions (first ∷ second ∷ []) }

-- these under any numbers, with a table of the first two and a global that is 1 at first; the third is exported
abbrev pub module_with : (double increase run : ℕ) → List Function → Abstract
module_with d i r functions = record two_functions {
  types = slice_get (alone 0 (function_type (I32 ∷ []) (I32 ∷ [])) ∷ alone 1 (function_type [] (I32 ∷ [])) ∷ []);
  functions = slice_get functions;
  tables = slice_get (record { origin = Defined; ty = record { limits = record { wide = false; minimum = 2; maximum = None }; element = record { nullable = true; heap = OfHeap FuncHeap } }; initialiser = None } ∷ []);
  globals = slice_get (record { origin = Defined; ty = record { value = I32; mutable = true; shared = false }; initialiser = Some (const 1 ∷ []) } ∷ []);
  elements = slice_get (filling d i ∷ []);
  exports = record { name = codes "run"; item = (Functions, r) } ∷ [];
}

-- the double of 1 is 2, one more 3, and the double of that 6, whatever the order of the functions
pub record EngineRuns : Type 0 where
  pub forward : Returns (module_with 0 1 2 (double ∷ increase 0 ∷ run ∷ [])) 52 (6 ∷ [])
  pub backward : Returns (module_with 2 1 0 (run ∷ increase 2 ∷ double ∷ [])) 52 (6 ∷ [])
