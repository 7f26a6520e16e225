-- Lengths of a module's sections, added up as far as a `usize` tells them.
use Rattle.std.proofs.Common.{◌≡◌, ℕ, ◌+◌, ◌-◌, ◌<◌, ◌^◌, List, [], ◌∷◌, ◌++◌, length, get_or, take, map, refl, sym, ap, ◌∙◌, subst, arith, length-append}
use Rattle.std.specs.Prelude.{Result, Ok, Err, IsErrAnd, min, sum}
use Rattle.std.proofs.lemmas.List.{append-nil, take_more}
use Rattle.std.proofs.lemmas.List.Elements.{All-nil}
use Rattle.std.proofs.lemmas.List.Sums.{sum_by_more}
use Rattle.std.proofs.lemmas.Result.{err_from_is_err_and}
use Rattle.wasm_forms.specs.declared.error.WireError.{WireError}
use Rattle.wasm_forms.specs.declared.error.WireError.TheVariants.{Malformed, Memory, TooLarge}
use Rattle.wasm_frames.specs.declared.record.RawCustom.{RawCustom}
use Rattle.wasm_frames.specs.Record.{Body, Custom, Module, custom_record}
use Rattle.wasm_frames.specs.Spelling.{body_bytes}
use Rattle.wasm_frames.specs.Frames.{Section, CustomSection, Code, DataSegments}
use Rattle.wasm_entries.specs.Spelling.{data_bytes, DataFits}
use Rattle.wasm_forms.specs.Writing.{FitsLength}
use Rattle.wasm_writer.specs.declared.places.CodePlaces.{CodePlaces}
use Rattle.wasm_writer.specs.Measuring as writer
use Rattle.wasm_writer.specs.Measuring.{Tells, appended}
use Rattle.wasm_writer.specs.Spelling.{spelled, all_spelled, listed, SectionFits}
use Rattle.wasm_wire.specs.declared.written.CustomGroup.{CustomGroup}
use Rattle.wasm_wire.specs.ModuleSpelling.{if_any, ModuleFits, TellsPlaces, code_place}
use Rattle.wasm_wire.specs.ModuleWriting.{front_of, IsUnlessHuge, Tried, TellsLen, group_spelled}
use Rattle.wasm_writer.proofs.Listed.{fits_none}
use Rattle.wasm_wire.proofs.ModuleFramed.{spelled-append}
use Rattle.wasm_wire.proofs.ModuleWritten.{tried, tried_err, listed_is, group-append}

-- ---- sums

pub sum_told : (told a b len more : ℕ) → told ≡ min (a + b) (2 ^ 64 - 1) → IsUnlessHuge a len → IsUnlessHuge b more → IsUnlessHuge told (len + more)
sum_told told a b len more e h k low =
    let s : told ≡ a + b = omega (arith, e, low) in
    let one : a ≡ len = h (omega (arith, s, low)) in
    let two : b ≡ more = k (omega (arith, s, low)) in
    omega (arith, s, one, two)

pub sum_more : (told total d : ℕ) (xs : List ℕ) (i : ℕ) → i < length xs → IsUnlessHuge total (sum (take i xs)) → told ≡ min (total + get_or xs i d) (2 ^ 64 - 1) → IsUnlessHuge told (sum (take (i + 1) xs))
sum_more told total d xs i within h e = subst (IsUnlessHuge told) (sym (sum_by_more (λ (x : ℕ). x) xs i d within)) (sum_told told total (get_or xs i d) (sum (take i xs)) (get_or xs i d) e h (λ _. refl))

-- ---- sections

pub told_len : {A : Type 0} (n : ℕ) (make : List A → Section) (xs : List A) → n ≡ length (listed make xs) → n ≡ length (all_spelled (if_any make xs))
told_len n make xs e = e ∙ ap length (listed_is make xs)

-- a section that is written also where it lists nothing
pub given_told : (r : Result ℕ WireError) (s : Section) → appended s ≡ spelled s → Tells r s → TellsLen r (length (all_spelled (s ∷ []))) (SectionFits s)
given_told (Ok n) s e h = (λ _. h.0 ∙ ap length (e ∙ sym (append-nil (spelled s))), h.1)
given_told (Err Malformed) s e h = h
given_told (Err (Memory m)) s e h = h
given_told (Err TooLarge) s e h = h

-- a section more
pub more_len : (total n : ℕ) (done more : List Section) → total ≡ length (all_spelled done) → n ≡ length (all_spelled more) → total + n ≡ length (all_spelled (done ++ more))
more_len total n done more h k = omega (arith, h, k, ap length (spelled-append done more), length-append (all_spelled done) (all_spelled more))

-- ---- refusals

untold : (e : WireError) (len : ℕ) (part fits : Type 0) → (fits → part) → Tried (Err e) part → TellsLen (Err e) len fits
untold Malformed len part fits f h = h
untold (Memory m) len part fits f h = h
untold TooLarge len part fits f h = λ k. h (f k)

pub told_tried : (r : Result ℕ WireError) (len : ℕ) (fits : Type 0) → TellsLen r len fits → Tried r fits
told_tried (Ok n) len fits h = h.1
told_tried (Err Malformed) len fits h = h
told_tried (Err (Memory e)) len fits h = h
told_tried (Err TooLarge) len fits h = h

pub part_untold : (r : Result ℕ WireError) (e : WireError) (len len' : ℕ) (part fits : Type 0) → (fits → part) → TellsLen (Err e) len part → IsErrAnd r (λ y. y ≡ e) → TellsLen r len' fits
part_untold r e len len' part fits f h given = let p = err_from_is_err_and r given in rw (p.1, p.2) (untold e len' part fits f (told_tried (Err e) len part h))

pub section_untold : (r : Result ℕ WireError) (e : WireError) (s : Section) (len : ℕ) (fits : Type 0) → (fits → SectionFits s) → Tells (Err e) s → IsErrAnd r (λ y. y ≡ e) → TellsLen r len fits
section_untold r e s len fits f h given = let p = err_from_is_err_and r given in rw (p.1, p.2) (untold e len (SectionFits s) fits f (tried (Err e) s h))

pub part_too_large : (r : Result ℕ WireError) (e : WireError) (len : ℕ) (part fits : Type 0) → (fits → part) → TellsLen (Err e) len part → IsErrAnd r (λ y. y ≡ e) → Tried r fits
part_too_large r e len part fits f h given = let p = err_from_is_err_and r given in rw (p.1, p.2) (tried_err e part fits f (told_tried (Err e) len part h))

-- of the list itself
pub told_of : {X : Type 0} (r : Result ℕ WireError) (make : List X → Section) (xs ys : List X) → xs ≡ ys → Tells r (make xs) → Tells r (make ys)
told_of r make xs ys e h = subst (λ (l : List _). Tells r (make l)) e h

-- ---- custom sections of dynamic linking

-- one more
pub group_len : (told total n : ℕ) (g : CustomGroup) (xs : List RawCustom) (i : ℕ) (d : RawCustom) → i < length xs → IsUnlessHuge total (length (group_spelled g (map custom_record (take i xs))))
    → IsUnlessHuge n (length (group_spelled g (custom_record (get_or xs i d) ∷ []))) → told ≡ min (total + n) (2 ^ 64 - 1) → IsUnlessHuge told (length (group_spelled g (map custom_record (take (i + 1) xs))))
group_len told total n g xs i d within h k e =
    let x : RawCustom = get_or xs i d in
    let all : length (group_spelled g (map custom_record (take (i + 1) xs))) ≡ length (group_spelled g (map custom_record (take i xs))) + length (group_spelled g (custom_record x ∷ [])) =
    ap (λ (l : List RawCustom). length (group_spelled g (map custom_record l))) (take_more xs i d within) ∙ ap length (group-append g (take i xs) (x ∷ [])) ∙ length-append (group_spelled g (map custom_record (take i xs))) (group_spelled g (custom_record x ∷ [])) in
    subst (IsUnlessHuge told) (sym all) (sum_told told total n _ _ e h k)

-- ---- the module without its code, its data segments and its custom sections

pub code_fits : SectionFits (Code [])
code_fits = fits_none (λ (b : Body). FitsLength b.bytes) body_bytes

pub data_fits : SectionFits (DataSegments [])
data_fits = fits_none DataFits data_bytes

pub front_fits : (m : Module) → ModuleFits m → ModuleFits (front_of m)
front_fits m f = record {
  types = f.types;
  imports = f.imports;
  functions = f.functions;
  tables = f.tables;
  memories = f.memories;
  tags = f.tags;
  globals = f.globals;
  exports = f.exports;
  start = f.start;
  elements = f.elements;
  data_count = f.data_count;
  bodies = code_fits;
  data_segments = data_fits;
  customs = All-nil (λ (c : Custom). SectionFits (CustomSection c));
}

-- ---- places

no_places : (e : WireError) (m : Module) → Tried (Err e) (ModuleFits m) → TellsPlaces (Err e) m
no_places Malformed m h = h
no_places (Memory a) m h = absurd h
no_places TooLarge m h = h

pub places_untold : (r : Result CodePlaces WireError) (e : WireError) (m : Module) → Tried (Err e) (ModuleFits m) → IsErrAnd r (λ y. y ≡ e) → TellsPlaces r m
places_untold r e m h given = let p = err_from_is_err_and r given in rw (p.1, p.2) (no_places e m h)

pub part_unplaced : (r : Result CodePlaces WireError) (e : WireError) (len : ℕ) (part : Type 0) (m : Module) → (ModuleFits m → part) → TellsLen (Err e) len part → IsErrAnd r (λ y. y ≡ e) → TellsPlaces r m
part_unplaced r e len part m f h given = places_untold r e m (tried_err e part (ModuleFits m) f (told_tried (Err e) len part h)) given

-- of the section that begins there
pub places_in : (r : Result CodePlaces WireError) (start : ℕ) (bs : List Body) (m : Module) → start ≡ code_place m → bs ≡ m.bodies → ModuleFits m → writer.TellsPlaces r start bs → TellsPlaces r m
places_in (Ok p) start bs m e same f h =
    let there = subst (λ (l : List Body). writer.TellsPlaces (Ok p) (code_place m) l) same (subst (λ (n : ℕ). writer.TellsPlaces (Ok p) n bs) e h) in
    (there.0, there.1, f)
places_in (Err Malformed) start bs m e same f h = h
places_in (Err (Memory a)) start bs m e same f h = f
places_in (Err TooLarge) start bs m e same f h = λ fits. h (subst (λ (l : List Body). SectionFits (Code l)) (sym same) fits.bodies)
