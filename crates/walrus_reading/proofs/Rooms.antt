-- A module has fewer than 2 ^ 32 items of each kind: each takes a byte or more of a section of fewer bytes, two or more where imports bring some too.
use Rattle.std.proofs.Common.{◌≡◌, ℕ, ◌+◌, ◌≤◌, ◌<◌, ◌^◌, List, [], ◌∷◌, ◌++◌, length, map, ap, arith, length-append}
use Rattle.std.specs.Prelude.{Option, option_to_list, zip}
use Rattle.std.specs.List.{AllZip}
use Rattle.std.proofs.lemmas.List.{length-map}
use Rattle.wasm_forms.specs.Grammar.{◌then◌, U32}
use Rattle.wasm_forms.specs.Types.{value_type}
use Rattle.wasm_entries.specs.declared.record.RawDesc.{RawDesc}
use Rattle.wasm_entries.specs.Record.{Import}
use Rattle.wasm_frames.specs.Frames.{AreBodies, Frames}
use Rattle.wasm_frames.specs.Order.{InOrder}
use Rattle.wasm_frames.specs.Record.{Body, Module}
use Rattle.walrus_bodies.specs.Body.{declarations}
use Rattle.walrus_bodies.specs.declared.features.Features.{Features}
use Rattle.walrus_model.specs.Reads.{ReadsBodyWith}
use Rattle.walrus_model.specs.Sections.{Said, element_of, global_of, imported, imported_global, imported_memory, imported_table, imported_tag, imported_type, memory_of, table_of, tag_of}
use Rattle.walrus_model.proofs.LeastLengths.{few_elements, few_globals, few_imports, few_memories, few_tables, few_tags, number_long, vector_long}
use Rattle.wasm_frames.proofs.SectionRows.{rows}
use Rattle.walrus_reading.specs.Numbers.{FitsIndices, HasRoomFor}
use Rattle.walrus_theorem.proofs.ReadFits.{one_long}

-- ---- imports bring at most one item each

imported_long : {X : Type 0} (get : ℕ → RawDesc → Option X) (i : ℕ) (xs : List Import) → length (imported get i xs) ≤ length xs
imported_long get i [] = omega arith
imported_long get i (x ∷ xs) = omega (arith, length-append (option_to_list (get i x.desc)) (imported get (i + 1) xs), one_long (get i x.desc), imported_long get (i + 1) xs)

both_few : {X Y : Type 0} (get : ℕ → RawDesc → Option X) (is : List Import) (make : Y → X) (ys : List Y) (top : ℕ) → length is + length is < top → length ys + length ys < top → length (imported get 0 is ++ map make ys) < top
both_few get is make ys top a b = omega (arith, length-append (imported get 0 is) (map make ys), length-map ys make, imported_long get 0 is, a, b)

-- those of a module whose sections stand in order
pub fits_indices : (bytes : List ℕ) (m : Module) → Frames bytes m → InOrder m.order → HasRoomFor m → FitsIndices m
fits_indices bytes m f h room =
    let r = rows bytes m f h in
    let imports : length m.imports + length m.imports < 2 ^ 32 = few_imports m.imports r.imports in
    record {
      functions = omega (arith, length-append (imported imported_type 0 m.imports) m.functions, imported_long imported_type 0 m.imports, room);
      tables = both_few imported_table m.imports table_of m.tables (2 ^ 32) imports (few_tables m.tables r.tables);
      memories = both_few imported_memory m.imports memory_of m.memories (2 ^ 32) imports (few_memories m.memories r.memories);
      tags = both_few imported_tag m.imports tag_of m.tags (2 ^ 32) imports (few_tags m.tags r.tags);
      globals = both_few imported_global m.imports global_of m.globals (2 ^ 32) imports (few_globals m.globals r.globals);
      elements = omega (arith, length-map m.elements element_of, few_elements m.elements r.elements);
    }

-- ---- a function whose body is read takes two bytes or more

body_long : (c : Features) (s : Module) (f : ℕ × Body) (said : Said) → ReadsBodyWith c s f said → 1 ≤ length f.1.bytes
unfolding declarations
body_long c s f said h = omega (arith, ap length h.parts, length-append h.front h.back, vector_long (U32 then value_type) h.front h.declared h.declares)

bodies_long : (c : Features) (s : Module) (fs : List ℕ) (bs : List Body) (saids : List Said) (place : ℕ) (bytes : List ℕ) → length bs ≡ length fs → AreBodies place bytes bs → AllZip (ReadsBodyWith c s) (zip fs bs) saids → length bs + length bs ≤ length bytes
bodies_long c s fs [] saids place bytes many are read = omega arith
bodies_long c s [] (b ∷ bs) saids place bytes many are read = absurd (omega (arith, many))
bodies_long c s (f ∷ fs) (b ∷ bs) [] place bytes many are read = absurd read
bodies_long c s (f ∷ fs) (b ∷ bs) (said ∷ saids) place bytes many are read =
    let one = are.1.1.1 in
    let first : 2 ≤ length are.0 = omega (arith, ap length one.spelled, length-append one.size b.bytes, number_long 5 (2 ^ 32) one.size (length b.bytes) one.sized, body_long c s (f, b) said read.0) in
    omega (arith, ap length are.1.1.0, length-append are.0 are.1.0, first, bodies_long c s fs bs saids (place + length are.0) are.1.0 (omega (arith, many)) are.1.1.2 read.1)

-- where all bodies are read, there is room for the functions
pub has_room : (c : Features) (bytes : List ℕ) (m : Module) (saids : List Said) → Frames bytes m → InOrder m.order → length m.bodies ≡ length m.functions → AllZip (ReadsBodyWith c m) (zip m.functions m.bodies) saids → HasRoomFor m
has_room c bytes m saids f h many read =
    let r = rows bytes m f h in
    omega (arith, many, few_imports m.imports r.imports, bodies_long c m m.functions m.bodies saids r.bodies.0 r.bodies.1.0 many r.bodies.1.1.1 read, r.bodies.1.1.0)
