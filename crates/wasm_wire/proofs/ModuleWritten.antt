-- The parts of a module's writer, one behind the other.
use Rattle.std.proofs.Common.{◌≡◌, ℕ, ◌+◌, ◌<◌, Bool, true, false, cond, List, [], ◌∷◌, ◌++◌, length, get_or, take, map, refl, sym, ap, ◌∙◌, subst, append_assoc}
use Rattle.std.specs.Prelude.{Result, Ok, Err, IsErrAnd, All}
use Rattle.std.proofs.lemmas.List.{append-nil, map-append, take_more}
use Rattle.std.proofs.lemmas.List.Elements.{filter-append}
use Rattle.std.proofs.lemmas.Result.{err_from_is_err_and}
use Rattle.wasm_forms.specs.declared.error.WireError.{WireError}
use Rattle.wasm_forms.specs.declared.error.WireError.TheVariants.{Malformed, Memory, TooLarge}
use Rattle.wasm_forms.specs.Writing.{Wrote}
use Rattle.wasm_frames.specs.declared.record.RawCustom.{RawCustom}
use Rattle.wasm_frames.specs.Record.{Custom, custom_record}
use Rattle.wasm_frames.specs.Frames.{Section, CustomSection}
use Rattle.wasm_writer.specs.Measuring.{Tells}
use Rattle.wasm_writer.specs.Spelling.{spelled, all_spelled, listed, SectionFits}
use Rattle.wasm_wire.specs.declared.written.CustomGroup.{CustomGroup}
use Rattle.wasm_wire.specs.ModuleSpelling.{is_in, group_of, if_any}
use Rattle.wasm_wire.specs.ModuleWriting.{Tried, Appends}
use Rattle.wasm_wire.proofs.Checked.{all_unmapped}
use Rattle.wasm_wire.proofs.ModuleFramed.{spelled-append}

-- ---- measuring

pub tried : (r : Result ℕ WireError) (s : Section) → Tells r s → Tried r (SectionFits s)
tried (Ok n) s h = h.1
tried (Err Malformed) s h = h
tried (Err (Memory e)) s h = h
tried (Err TooLarge) s h = h

pub tried_err : (e : WireError) (part fits : Type 0) → (fits → part) → Tried (Err e) part → Tried (Err e) fits
tried_err Malformed part fits f h = h
tried_err (Memory m) part fits f h = h
tried_err TooLarge part fits f h = λ k. h (f k)

-- a section that doesn't fit, at the exit of a `?`
pub section_too_large : (r : Result ℕ WireError) (e : WireError) (s : Section) (fits : Type 0) → (fits → SectionFits s) → Tells (Err e) s → IsErrAnd r (λ y. y ≡ e) → Tried r fits
section_too_large r e s fits f h given = let p = err_from_is_err_and r given in rw (p.1, p.2) (tried_err e (SectionFits s) fits f (tried (Err e) s h))

-- ---- writing

-- the section that lists these, as one of some sections
pub listed_is : {A : Type 0} (make : List A → Section) (xs : List A) → listed make xs ≡ all_spelled (if_any make xs)
listed_is make [] = refl
listed_is make (x ∷ xs) = sym (append-nil (spelled (make (x ∷ xs))))

pub listed_first : {A : Type 0} (old new : List ℕ) (make : List A → Section) (xs ys : List A) → xs ≡ ys → new ≡ old ++ listed make xs → new ≡ old ++ all_spelled (if_any make ys)
listed_first old new make xs ys e k = k ∙ ap (λ l. old ++ listed make l) e ∙ ap (λ l. old ++ l) (listed_is make ys)

wrote_these : (r : Result Unit WireError) (old new bytes : List ℕ) (fits : Type 0) (ss : List Section) → bytes ≡ all_spelled ss → fits → Wrote r old new bytes fits → Appends r old new ss
wrote_these (Ok u) old new bytes fits ss e f w = w.0 ∙ ap (λ l. old ++ l) e
wrote_these (Err Malformed) old new bytes fits ss e f w = w
wrote_these (Err (Memory m)) old new bytes fits ss e f w = tt
wrote_these (Err TooLarge) old new bytes fits ss e f w = w.1 f

-- further sections behind those that were written
pub grown : (old now new : List ℕ) (done more : List Section) → now ≡ old ++ all_spelled done → new ≡ now ++ all_spelled more → new ≡ old ++ all_spelled (done ++ more)
grown old now new done more h k =
    k ∙ ap (λ l. l ++ all_spelled more) h ∙ append_assoc old (all_spelled done) (all_spelled more) ∙ ap (λ l. old ++ l) (sym (spelled-append done more))

pub listed_grown : {A : Type 0} (old now new : List ℕ) (done : List Section) (make : List A → Section) (xs ys : List A) → xs ≡ ys → now ≡ old ++ all_spelled done → new ≡ now ++ listed make xs → new ≡ old ++ all_spelled (done ++ if_any make ys)
listed_grown old now new done make xs ys e h k = grown old now new done (if_any make ys) h (listed_first now new make xs ys e k)

-- the last ones
pub at_last : (r : Result Unit WireError) (old now new : List ℕ) (done more : List Section) → now ≡ old ++ all_spelled done → Appends r now new more → Appends r old new (done ++ more)
at_last (Ok u) old now new done more h k = grown old now new done more h k
at_last (Err Malformed) old now new done more h k = k
at_last (Err (Memory m)) old now new done more h k = k
at_last (Err TooLarge) old now new done more h k = k

pub listed_last : {A : Type 0} (r : Result Unit WireError) (old now new : List ℕ) (done : List Section) (make : List A → Section) (xs ys : List A) → xs ≡ ys → now ≡ old ++ all_spelled done → SectionFits (make ys)
    → Wrote r now new (listed make xs) (SectionFits (make xs)) → Appends r old new (done ++ if_any make ys)
listed_last r old now new done make xs ys e h f w =
    at_last r old now new done (if_any make ys) h
    (wrote_these r now new (listed make xs) (SectionFits (make xs)) (if_any make ys) (ap (listed make) e ∙ listed_is make ys) (subst (λ l. SectionFits (make l)) (sym e) f) w)

-- ---- custom sections

abbrev Fits : Custom → Type 0
Fits c = SectionFits (CustomSection c)

-- one of them doesn't fit
pub custom_too_large : (r : Result ℕ WireError) (e : WireError) (xs : List RawCustom) (i : ℕ) (d : RawCustom) → i < length xs → Tells (Err e) (CustomSection (custom_record (get_or xs i d))) → IsErrAnd r (λ y. y ≡ e)
    → Tried r (All Fits (map custom_record xs))
custom_too_large r e xs i d within h given =
    section_too_large r e (CustomSection (custom_record (get_or xs i d))) (All Fits (map custom_record xs)) (λ f. all_unmapped Fits custom_record xs f i d within) h given

stopped : (e : WireError) (old new bytes old' new' : List ℕ) (fits : Type 0) (ss : List Section) → fits → Wrote {X = Unit {0}} (Err e) old new bytes fits → Appends (Err e) old' new' ss
stopped Malformed old new bytes old' new' fits ss f w = w
stopped (Memory m) old new bytes old' new' fits ss f w = tt
stopped TooLarge old new bytes old' new' fits ss f w = w.1 f

-- one of them isn't written
pub custom_stopped : (r : Result Unit WireError) (e : WireError) (xs : List RawCustom) (i : ℕ) (d : RawCustom) (old new bytes old' new' : List ℕ) (ss : List Section) → i < length xs → All Fits (map custom_record xs)
    → Wrote {X = Unit {0}} (Err e) old new bytes (Fits (custom_record (get_or xs i d))) → IsErrAnd r (λ y. y ≡ e) → Appends r old' new' ss
custom_stopped r e xs i d old new bytes old' new' ss within f w given =
    let p = err_from_is_err_and r given in
    rw (p.1, p.2) (stopped e old new bytes old' new' (Fits (custom_record (get_or xs i d))) ss (all_unmapped Fits custom_record xs f i d within) w)

-- those of a group, as they are written
abbrev pub group_bytes : CustomGroup → List RawCustom → List ℕ
group_bytes g xs = all_spelled (map CustomSection (group_of g (map custom_record xs)))

pub group-append : (g : CustomGroup) (xs ys : List RawCustom) → group_bytes g (xs ++ ys) ≡ group_bytes g xs ++ group_bytes g ys
group-append g xs ys =
    ap (λ (l : List Custom). all_spelled (map CustomSection (group_of g l))) (map-append custom_record xs ys)
    ∙ ap (λ (l : List Custom). all_spelled (map CustomSection l)) (filter-append (λ (c : Custom). is_in g c.name) (map custom_record xs) (map custom_record ys))
    ∙ ap all_spelled (map-append CustomSection (group_of g (map custom_record xs)) (group_of g (map custom_record ys)))
    ∙ spelled-append (map CustomSection (group_of g (map custom_record xs))) (map CustomSection (group_of g (map custom_record ys)))

one_or_none : (c : Custom) (t : Bool) → all_spelled (map CustomSection (cond t (c ∷ []) [])) ≡ cond t (spelled (CustomSection c)) []
one_or_none c true = append-nil (spelled (CustomSection c))
one_or_none c false = refl

-- one more, which is of the group or isn't
pub group_more : (g : CustomGroup) (xs : List RawCustom) (i : ℕ) (d : RawCustom) (t : Bool) (old now new : List ℕ) → i < length xs → is_in g (custom_record (get_or xs i d)).name ≡ t → now ≡ old ++ group_bytes g (take i xs)
    → new ≡ now ++ cond t (spelled (CustomSection (custom_record (get_or xs i d)))) [] → new ≡ old ++ group_bytes g (take (i + 1) xs)
group_more g xs i d t old now new within e h k =
    let x : RawCustom = get_or xs i d in
    let last : group_bytes g (x ∷ []) ≡ cond t (spelled (CustomSection (custom_record x))) [] = ap (λ (b : Bool). all_spelled (map CustomSection (cond b (custom_record x ∷ []) []))) e ∙ one_or_none (custom_record x) t in
    let all : group_bytes g (take (i + 1) xs) ≡ group_bytes g (take i xs) ++ group_bytes g (x ∷ []) = ap (group_bytes g) (take_more xs i d within) ∙ group-append g (take i xs) (x ∷ []) in
    k ∙ ap (λ (l : List ℕ). l ++ cond t (spelled (CustomSection (custom_record x))) []) h ∙ append_assoc old (group_bytes g (take i xs)) (cond t (spelled (CustomSection (custom_record x))) [])
    ∙ ap (λ (l : List ℕ). old ++ (group_bytes g (take i xs) ++ l)) (sym last) ∙ ap (λ (l : List ℕ). old ++ l) (sym all)
