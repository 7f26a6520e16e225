-- Sections, each of which knows its place: what is read of one in front is what is spelled, and every such front is read.
use Rattle.std.proofs.Common.{◌≡◌, ℕ, ◌+◌, ◌-◌, Bool, true, false, List, [], ◌∷◌, ◌++◌, length, refl, sym, ap, subst, ◌∙◌, arith, length-append, eqb-true}
use Rattle.std.proofs.lemmas.List.{append-nil}
use Rattle.std.specs.Prelude.{Option, Some, None, nat_eq, if◌then◌else◌}
use Rattle.wasm_forms.specs.Reading.{◌>>=◌, byte_at}
use Rattle.wasm_forms.specs.Grammar.{Form, Block, Vector, U32, name, Is, at, IsExact}
use Rattle.wasm_forms.proofs.Bind.{some_same, bind_some, bind_at, byte_takes}
use Rattle.wasm_forms.proofs.Exact.{exact}
use Rattle.wasm_entries.specs.TypeForms.{group_form, memory_type, tag_type}
use Rattle.wasm_entries.specs.Forms.{import_form, table_form, global_form, export_form, element_form, data_form}
use Rattle.wasm_frames.specs.Record.{Body, Custom}
use Rattle.wasm_frames.specs.Frames.{Section, CustomSection, Types, Imports, Functions, Tables, Memories, Globals, Exports, Start, Elements, Code, DataSegments, DataCount, Tags, id_of, IsCustom, IsCode, IsContent, IsSection}
use Rattle.wasm_frames.specs.Steps.{used_up, whole, whole_code, custom_at, code_at, content_of, content_at, section_at}
use Rattle.wasm_frames.proofs.Bodies.{code_exact}

-- nothing is left
used_some : {A : Type 0} (x : A × List ℕ) (a : A) → used_up x ≡ Some a → x ≡ (a, [])
used_some (b, []) a e = ap (λ v. (v, [])) (some_same b a e)
used_some (b, c ∷ cs) a e = cc

-- a reader that is exact, and whose text is all of the bytes
all_of : {A : Type 0} (F : List ℕ → A → Type 0) (f : List ℕ → Option (A × List ℕ)) → IsExact F f → (bytes : List ℕ) (a : A) → (f bytes >>= used_up) ≡ Some a → F bytes a
all_of {A} F f ef bytes a e =
    let p = bind_some (f bytes) used_up a e in
    let q = used_some p.0 a p.2 in
    let u = ef.takes bytes (a, []) (p.1 ∙ ap Some q) in
    subst (λ (l : List ℕ). F l a) (sym (u.1.0 ∙ append-nil u.0)) u.1.1

all_again : {A : Type 0} (F : List ℕ → A → Type 0) (f : List ℕ → Option (A × List ℕ)) → IsExact F f → (bytes : List ℕ) (a : A) → F bytes a → (f bytes >>= used_up) ≡ Some a
all_again F f ef bytes a h = bind_at (f bytes) used_up (a, []) (ap f (sym (append-nil bytes)) ∙ ef.again bytes [] a h)

whole_takes : {A : Type 0} (g : Form A) (bytes : List ℕ) (a : A) → whole g bytes ≡ Some a → Is g bytes a
unfolding whole
whole_takes g bytes a e = all_of (Is g) (at g) (exact g) bytes a e

whole_again : {A : Type 0} (g : Form A) (bytes : List ℕ) (a : A) → Is g bytes a → whole g bytes ≡ Some a
unfolding whole
whole_again g bytes a h = all_again (Is g) (at g) (exact g) bytes a h

code_takes : (place : ℕ) (bytes : List ℕ) (bs : List Body) → whole_code place bytes ≡ Some bs → IsCode place bytes bs
unfolding whole_code
code_takes place bytes bs e = all_of (IsCode place) (code_at place) (code_exact place) bytes bs e

code_again : (place : ℕ) (bytes : List ℕ) (bs : List Body) → IsCode place bytes bs → whole_code place bytes ≡ Some bs
unfolding whole_code
code_again place bytes bs h = all_again (IsCode place) (code_at place) (code_exact place) bytes bs h

-- a custom section

abbrev custom_from : List ℕ × List ℕ → Custom
custom_from n = record { name = n.0; bytes = n.1 }

abbrev custom_of : List ℕ × List ℕ → Option Custom
custom_of n = Some (custom_from n)

custom_takes : (bytes : List ℕ) (c : Custom) → custom_at bytes ≡ Some c → IsCustom bytes c
unfolding custom_at
custom_takes bytes c e =
    let p = bind_some (at name bytes) custom_of c e in
    let u = (exact name).takes bytes p.0 p.1 in
    subst (IsCustom bytes) (some_same (custom_from p.0) c p.2) (record { front = u.0; spelled = u.1.0; named = u.1.1 })

custom_again : (bytes : List ℕ) (c : Custom) → IsCustom bytes c → custom_at bytes ≡ Some c
unfolding custom_at
custom_again bytes c h = bind_at (at name bytes) custom_of (c.name, c.bytes) (ap (at name) h.spelled ∙ (exact name).again h.front c.bytes c.name h.named)

-- what content_at gives is of the kind that the id names, and stands there
record Content (id place : ℕ) (bytes : List ℕ) (s : Section) : Type 0 where
  named : id ≡ id_of s
  stands : IsContent place bytes s

custom_content : (id place : ℕ) (bytes : List ℕ) (s : Section) → id ≡ 0 → (custom_at bytes >>= λ c. Some (CustomSection c)) ≡ Some s → Content id place bytes s
custom_content id place bytes s i e =
    let p = bind_some (custom_at bytes) (λ (c : Custom). Some (CustomSection c)) s e in
    subst (Content id place bytes) (some_same (CustomSection p.0) s p.2) (record { named = i; stands = custom_takes bytes p.0 p.1 })

code_content : (id place : ℕ) (bytes : List ℕ) (s : Section) → id ≡ 10 → (whole_code place bytes >>= λ bs. Some (Code bs)) ≡ Some s → Content id place bytes s
code_content id place bytes s i e =
    let p = bind_some (whole_code place bytes) (λ (bs : List Body). Some (Code bs)) s e in
    subst (Content id place bytes) (some_same (Code p.0) s p.2) (record { named = i; stands = code_takes place bytes p.0 p.1 })

-- a section whose content is the text of a form
of_form : {A : Type 0} (f : Form A) (make : A → Section) (id place : ℕ) (bytes : List ℕ) (s : Section)
    → ((a : A) → id ≡ id_of (make a)) → ((a : A) → Is f bytes a → IsContent place bytes (make a))
    → content_of f make bytes ≡ Some s → Content id place bytes s
unfolding content_of
of_form {A} f make id place bytes s named stands e =
    let p = bind_some (whole f bytes) (λ (a : A). Some (make a)) s e in
    subst (Content id place bytes) (some_same (make p.0) s p.2) (record { named = named p.0; stands = stands p.0 (whole_takes f bytes p.0 p.1) })

form_again : {A : Type 0} (f : Form A) (make : A → Section) (bytes : List ℕ) (a : A) → Is f bytes a → content_of f make bytes ≡ Some (make a)
unfolding content_of
form_again {A} f make bytes a h = bind_at (whole f bytes) (λ (a : A). Some (make a)) a (whole_again f bytes a h)

-- one number that the id may be
if_id : {C : Type 0} (id n : ℕ) (test : Bool) (x y : Option Section) (s : Section) → nat_eq id n ≡ test
    → (id ≡ n → x ≡ Some s → C) → (y ≡ Some s → C) → (if test then x else y) ≡ Some s → C
if_id id n true x y s t here on e = here (eqb-true id n t) e
if_id id n false x y s t here on e = on e

not_none : {C : Type 0} (s : Section) → None ≡ Some s → C
not_none s e = cc

content_takes : (id place : ℕ) (bytes : List ℕ) (s : Section) → content_at id place bytes ≡ Some s → Content id place bytes s
unfolding content_at
content_takes id place bytes s e =
    if_id id 0 (nat_eq id 0) _ _ s refl (custom_content id place bytes s)
    (if_id id 1 (nat_eq id 1) _ _ s refl (λ i. of_form (Vector group_form) Types id place bytes s (λ a. i) (λ a h. h))
    (if_id id 2 (nat_eq id 2) _ _ s refl (λ i. of_form (Vector import_form) Imports id place bytes s (λ a. i) (λ a h. h))
    (if_id id 3 (nat_eq id 3) _ _ s refl (λ i. of_form (Vector U32) Functions id place bytes s (λ a. i) (λ a h. h))
    (if_id id 4 (nat_eq id 4) _ _ s refl (λ i. of_form (Vector table_form) Tables id place bytes s (λ a. i) (λ a h. h))
    (if_id id 5 (nat_eq id 5) _ _ s refl (λ i. of_form (Vector memory_type) Memories id place bytes s (λ a. i) (λ a h. h))
    (if_id id 6 (nat_eq id 6) _ _ s refl (λ i. of_form (Vector global_form) Globals id place bytes s (λ a. i) (λ a h. h))
    (if_id id 7 (nat_eq id 7) _ _ s refl (λ i. of_form (Vector export_form) Exports id place bytes s (λ a. i) (λ a h. h))
    (if_id id 8 (nat_eq id 8) _ _ s refl (λ i. of_form U32 Start id place bytes s (λ a. i) (λ a h. h))
    (if_id id 9 (nat_eq id 9) _ _ s refl (λ i. of_form (Vector element_form) Elements id place bytes s (λ a. i) (λ a h. h))
    (if_id id 10 (nat_eq id 10) _ _ s refl (code_content id place bytes s)
    (if_id id 11 (nat_eq id 11) _ _ s refl (λ i. of_form (Vector data_form) DataSegments id place bytes s (λ a. i) (λ a h. h))
    (if_id id 12 (nat_eq id 12) _ _ s refl (λ i. of_form U32 DataCount id place bytes s (λ a. i) (λ a h. h))
    (if_id id 13 (nat_eq id 13) _ _ s refl (λ i. of_form (Vector tag_type) Tags id place bytes s (λ a. i) (λ a h. h))
    (not_none s)))))))))))))) e

content_again : (place : ℕ) (bytes : List ℕ) (s : Section) → IsContent place bytes s → content_at (id_of s) place bytes ≡ Some s
unfolding content_at
content_again place bytes (CustomSection c) h = bind_at (custom_at bytes) (λ c. Some (CustomSection c)) c (custom_again bytes c h)
content_again place bytes (Types gs) h = form_again (Vector group_form) Types bytes gs h
content_again place bytes (Imports is) h = form_again (Vector import_form) Imports bytes is h
content_again place bytes (Functions fs) h = form_again (Vector U32) Functions bytes fs h
content_again place bytes (Tables ts) h = form_again (Vector table_form) Tables bytes ts h
content_again place bytes (Memories ms) h = form_again (Vector memory_type) Memories bytes ms h
content_again place bytes (Globals gs) h = form_again (Vector global_form) Globals bytes gs h
content_again place bytes (Exports es) h = form_again (Vector export_form) Exports bytes es h
content_again place bytes (Start f) h = form_again U32 Start bytes f h
content_again place bytes (Elements es) h = form_again (Vector element_form) Elements bytes es h
content_again place bytes (Code bs) h = bind_at (whole_code place bytes) (λ bs. Some (Code bs)) bs (code_again place bytes bs h)
content_again place bytes (DataSegments ds) h = form_again (Vector data_form) DataSegments bytes ds h
content_again place bytes (DataCount n) h = form_again U32 DataCount bytes n h
content_again place bytes (Tags ts) h = form_again (Vector tag_type) Tags bytes ts h

abbrev with_rest : List ℕ → Section → Option (Section × List ℕ)
with_rest rest s = Some (s, rest)

abbrev sized_section : ℕ → ℕ → List ℕ → List ℕ × List ℕ → Option (Section × List ℕ)
sized_section id place bytes c = content_at id (place + (length bytes - length c.1 - length c.0)) c.0 >>= with_rest c.1

abbrev led_section : ℕ → List ℕ → ℕ × List ℕ → Option (Section × List ℕ)
led_section place bytes i = at Block i.1 >>= sized_section i.0 place bytes

-- how many bytes stand before the content of a section
before_content : (bytes size content rest : List ℕ) (id : ℕ) → bytes ≡ id ∷ ((size ++ content) ++ rest) → length bytes - length rest - length content ≡ 1 + length size
before_content bytes size content rest id e = omega (arith, ap length e, length-append (size ++ content) rest, length-append size content)

pub section_exact : (place : ℕ) → IsExact (IsSection place) (section_at place)
unfolding section_at
section_exact place = record {
  takes = λ bytes x e.
      let i = bind_some (byte_at bytes) (led_section place bytes) x e in
      let c = bind_some (at Block i.0.1) (sized_section i.0.0 place bytes) x i.2 in
      let start : ℕ = place + (length bytes - length c.0.1 - length c.0.0) in
      let s = bind_some (content_at i.0.0 start c.0.0) (with_rest c.0.1) x c.2 in
      let u = (exact Block).takes i.0.1 c.0 c.1 in
      let k = content_takes i.0.0 start c.0.0 s.0 s.1 in
      let size : List ℕ = u.1.1.0 in
      let read : bytes ≡ i.0.0 ∷ (u.0 ++ c.0.1) = byte_takes bytes i.0 i.1 ∙ ap (λ l. i.0.0 ∷ l) u.1.0 in
      let far : length bytes - length c.0.1 - length c.0.0 ≡ 1 + length size = before_content bytes size c.0.0 c.0.1 i.0.0 (read ∙ ap (λ l. i.0.0 ∷ (l ++ c.0.1)) u.1.1.1.0) in
      let there : start ≡ place + 1 + length size = omega arith in
      let H : Section × List ℕ → Type 0 = λ y. (bytes ≡ (i.0.0 ∷ u.0) ++ y.1) × IsSection place (i.0.0 ∷ u.0) y.0 in (
        i.0.0 ∷ u.0,
        subst H (some_same (s.0, c.0.1) x s.2) (
          read,
          record {
            size = size;
            content = c.0.0;
            spelled = ap (λ n. n ∷ u.0) k.named ∙ ap (λ l. id_of s.0 ∷ l) u.1.1.1.0;
            sized = u.1.1.1.1;
            used = subst (λ (q : ℕ). IsContent q c.0.0 s.0) there k.stands;
          },
        ),
      );
  again = λ front rest s h.
      let bytes : List ℕ = front ++ rest in
      let read : bytes ≡ id_of s ∷ ((h.size ++ h.content) ++ rest) = ap (λ l. l ++ rest) h.spelled in
      let far : length bytes - length rest - length h.content ≡ 1 + length h.size = before_content bytes h.size h.content rest (id_of s) read in
      let there : place + (length bytes - length rest - length h.content) ≡ place + 1 + length h.size = omega arith in
      bind_at (byte_at bytes) (led_section place bytes) (id_of s, (h.size ++ h.content) ++ rest) (ap byte_at read)
      ∙ bind_at (at Block ((h.size ++ h.content) ++ rest)) (sized_section (id_of s) place bytes) (h.content, rest) ((exact Block).again (h.size ++ h.content) rest h.content (h.size, (refl, h.sized)))
      ∙ ap (λ q. content_at (id_of s) q h.content >>= with_rest rest) there
      ∙ bind_at (content_at (id_of s) (place + 1 + length h.size) h.content) (with_rest rest) s (content_again (place + 1 + length h.size) h.content s h.used);
}
