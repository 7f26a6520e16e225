-- The sections of a text, kind by kind: once for all kinds.
use Rattle.std.proofs.Common.{◌≡◌, ℕ, Bool, true, false, List, [], ◌∷◌, ◌++◌, map, refl, sym, ap, ap₂, append_assoc, subst, ◌∙◌}
use Rattle.std.specs.Prelude.{All, Option, Some, None, IfSome, bytes_eq, codes, cond, filter, not, ◌||◌}
use Rattle.std.proofs.lemmas.List.{append-nil}
use Rattle.std.proofs.lemmas.List.Elements.{All-nil, All-cons, All-append, All-head, All-map, All-tail, All-weaker, filter-append}
use Rattle.std.proofs.lemmas.Slice.Eq.{bytes_eq-Decides}
use Rattle.wasm_forms.specs.Spelling.{vector_bytes}
use Rattle.wasm_frames.specs.Record as wire
use Rattle.wasm_frames.specs.Frames as frames
use Rattle.wasm_frames.specs.Frames.{Section, CustomSection, header}
use Rattle.wasm_wire.specs.declared.written.CustomGroup.{CustomGroup}
use Rattle.wasm_wire.specs.declared.written.CustomGroup.TheVariants.{Dylink, Names, Producers, Others}
use Rattle.wasm_wire.specs.ModuleSpelling.{EachSection, group_of, if_any, if_given, is_in, module_bytes, sections_in_order, standard_sections}
use Rattle.wasm_writer.specs.Spelling.{all_spelled}
use Rattle.walrus_model.specs.Abstract.{ProducerField}
use Rattle.walrus_theorem.specs.Examples.{empty_text}
use Rattle.walrus_model.specs.Customs.{is_debug_name}
use Rattle.walrus_model.specs.Sections.{is_apart}
use Rattle.walrus_theorem.specs.Spelling.{is_dylink, is_other, written_as}
use Rattle.walrus_theorem.specs.Text.{Text, custom, field_bytes, if_some, listed, names_bytes, sections_of, unplaced}
use Rattle.walrus_groups.proofs.OneList.{All-front, All-back, filter_all}
use Rattle.walrus_theorem.proofs.OneSections.{laid, later}
use Rattle.walrus_writing.proofs.NamesSpelled.{named_by_bytes}
use Rattle.walrus_writing.proofs.ProducersSpelled.{producers_more}
use Rattle.std.proofs.lemmas.Bool.{or_parts as or_false}
use Rattle.walrus_theorem.proofs.SpelledReads.{not_either as neither}

-- the module of its sections, with these custom ones
abbrev pub placed : Text → List wire.Custom → wire.Module
placed t customs = record (laid t) { customs = customs }

-- ---- one kind

listed_is : {A : Type 0} (make : List A → Section) (xs : List A) → listed make xs ≡ if_any make xs
listed_is make [] = refl
listed_is make (x ∷ xs) = refl

given_is : (make : ℕ → Section) (o : Option ℕ) → if_some make o ≡ if_given make (later o None)
given_is make None = refl
given_is make (Some n) = refl

all_listed : {A : Type 0} (P : Section → Type 0) (make : List A → Section) (xs : List A) → P (make xs) → All P (listed make xs)
all_listed P make [] h = All-nil P
all_listed P make (x ∷ xs) h = All-cons P (make (x ∷ xs)) [] h (All-nil P)

all_given : (P : Section → Type 0) (make : ℕ → Section) (o : Option ℕ) → IfSome (later o None) (λ n. P (make n)) → All P (if_some make o)
all_given P make None h = All-nil P
all_given P make (Some n) h = All-cons P (make n) [] h (All-nil P)

of_listed : {A : Type 0} (P : Section → Type 0) (make : List A → Section) (xs : List A) → P (make []) → All P (listed make xs) → P (make xs)
of_listed P make [] none h = none
of_listed P make (x ∷ xs) none h = All-head P (make (x ∷ xs)) [] h

of_given : (P : Section → Type 0) (make : ℕ → Section) (o : Option ℕ) → All P (if_some make o) → IfSome (later o None) (λ n. P (make n))
of_given P make None h = tt
of_given P make (Some n) h = All-head P (make n) [] h

beside : {xs ys us vs : List Section} → xs ≡ ys → us ≡ vs → xs ++ us ≡ ys ++ vs
beside p q = ap₂ (λ (a b : List Section). a ++ b) p q

-- ---- custom sections by their groups

abbrev names_made : List ℕ → Section
names_made bytes = custom (codes "name") bytes

abbrev producers_made : List ProducerField → Section
producers_made fields = custom (codes "producers") (vector_bytes field_bytes fields)

of_map : {A : Type 0} (P : Section → Type 0) (make : A → Section) (xs : List A) → All P (map make xs) → All (λ x. P (make x)) xs
of_map P make [] h = All-nil _
of_map P make (x ∷ xs) h = All-cons (λ y. P (make y)) x xs (All-head P (make x) (map make xs) h) (of_map P make xs (All-tail P (make x) (map make xs) h))

names_hold : (P : Section → Type 0) (bytes : List ℕ) → All (λ (c : wire.Custom). P (CustomSection c)) (named_by_bytes bytes) → All P (listed names_made bytes)
names_hold P [] h = All-nil P
names_hold P (b ∷ bs) h = All-cons P (names_made (b ∷ bs)) [] (All-head (λ (c : wire.Custom). P (CustomSection c)) (record { name = codes "name"; bytes = b ∷ bs }) [] h) (All-nil P)

names_hold_back : (P : Section → Type 0) (bytes : List ℕ) → All P (listed names_made bytes) → All (λ (c : wire.Custom). P (CustomSection c)) (named_by_bytes bytes)
names_hold_back P [] h = All-nil _
names_hold_back P (b ∷ bs) h = All-cons (λ (c : wire.Custom). P (CustomSection c)) (record { name = codes "name"; bytes = b ∷ bs }) [] (All-head P (names_made (b ∷ bs)) [] h) (All-nil _)

producers_hold : (P : Section → Type 0) (fields : List ProducerField) → All (λ (c : wire.Custom). P (CustomSection c)) (producers_more fields) → All P (listed producers_made fields)
producers_hold P [] h = All-nil P
producers_hold P (f ∷ fs) h = All-cons P (producers_made (f ∷ fs)) [] (All-head (λ (c : wire.Custom). P (CustomSection c)) (record { name = codes "producers"; bytes = vector_bytes field_bytes (f ∷ fs) }) [] h) (All-nil P)

customs_hold : (P : Section → Type 0) (fields : List ProducerField) → All P (listed producers_made fields) → All (λ (c : wire.Custom). P (CustomSection c)) (producers_more fields)
customs_hold P [] h = All-nil _
customs_hold P (f ∷ fs) h = All-cons (λ (c : wire.Custom). P (CustomSection c)) (record { name = codes "producers"; bytes = vector_bytes field_bytes (f ∷ fs) }) [] (All-head P (producers_made (f ∷ fs)) [] h) (All-nil _)

none_passes : {A : Type 0} (test : A → Bool) (xs : List A) → All (λ x. test x ≡ false) xs → filter test xs ≡ []
none_passes test [] h = refl
none_passes test (x ∷ xs) h = ap (λ (b : Bool). cond b (x ∷ filter test xs) (filter test xs)) (All-head (λ y. test y ≡ false) x xs h) ∙ none_passes test xs (All-tail (λ y. test y ≡ false) x xs h)

-- what is told by the name of a section of dynamic linking
by_first : (f : List ℕ → Bool) (b : Bool) → f (codes "dylink") ≡ b → f (codes "dylink.0") ≡ b → (c : wire.Custom) (t : Bool) → bytes_eq c.name (codes "dylink") ≡ t → (t || bytes_eq c.name (codes "dylink.0")) ≡ true → f c.name ≡ b
by_first f b first second c true is h = ap f ((bytes_eq-Decides c.name (codes "dylink")).0 is) ∙ first
by_first f b first second c false is h = ap f ((bytes_eq-Decides c.name (codes "dylink.0")).0 h) ∙ second

pub by_dylink : (f : List ℕ → Bool) (b : Bool) → f (codes "dylink") ≡ b → f (codes "dylink.0") ≡ b → (c : wire.Custom) → is_dylink c ≡ true → f c.name ≡ b
by_dylink f b first second c h = by_first f b first second c (bytes_eq c.name (codes "dylink")) refl h

-- another one is in none of the first groups
module _ (c : wire.Custom) (h : is_other c ≡ true) where
  pub apart_parts : (is_dylink c ≡ false) × (is_apart c.name ≡ false)
  apart_parts = neither (is_dylink c) (is_apart c.name) h

  no_name : bytes_eq c.name (codes "name") ≡ false
  no_name = (or_false (bytes_eq c.name (codes "name")) (bytes_eq c.name (codes "producers") || is_debug_name c.name) apart_parts.1).0

  no_producers : bytes_eq c.name (codes "producers") ≡ false
  no_producers = (or_false (bytes_eq c.name (codes "producers")) (is_debug_name c.name) (or_false (bytes_eq c.name (codes "name")) (bytes_eq c.name (codes "producers") || is_debug_name c.name) apart_parts.1).1).0

  in_others : is_in Others c.name ≡ true
  in_others =
      ap (λ (b : Bool). not (b || (bytes_eq c.name (codes "name") || bytes_eq c.name (codes "producers")))) apart_parts.0
      ∙ ap (λ (b : Bool). not (b || bytes_eq c.name (codes "producers"))) no_name
      ∙ ap not no_producers

-- the groups of both sections that are made
abbrev made_by : List ℕ → List ProducerField → List wire.Custom
made_by bytes fields = named_by_bytes bytes ++ producers_more fields

made_dylink : (bytes : List ℕ) (fields : List ProducerField) → group_of Dylink (made_by bytes fields) ≡ []
made_dylink [] [] = refl
made_dylink [] (f ∷ fs) = refl
made_dylink (b ∷ bs) [] = refl
made_dylink (b ∷ bs) (f ∷ fs) = refl

made_names : (bytes : List ℕ) (fields : List ProducerField) → map CustomSection (group_of Names (made_by bytes fields)) ≡ listed names_made bytes
made_names [] [] = refl
made_names [] (f ∷ fs) = refl
made_names (b ∷ bs) [] = refl
made_names (b ∷ bs) (f ∷ fs) = refl

made_producers : (bytes : List ℕ) (fields : List ProducerField) → map CustomSection (group_of Producers (made_by bytes fields)) ≡ listed producers_made fields
made_producers [] [] = refl
made_producers [] (f ∷ fs) = refl
made_producers (b ∷ bs) [] = refl
made_producers (b ∷ bs) (f ∷ fs) = refl

made_others : (bytes : List ℕ) (fields : List ProducerField) → group_of Others (made_by bytes fields) ≡ []
made_others [] [] = refl
made_others [] (f ∷ fs) = refl
made_others (b ∷ bs) [] = refl
made_others (b ∷ bs) (f ∷ fs) = refl

in_three : (g : CustomGroup) (ds os qs xs ys zs : List wire.Custom) → group_of g ds ≡ xs → group_of g os ≡ ys → group_of g qs ≡ zs → group_of g ((ds ++ os) ++ qs) ≡ (xs ++ ys) ++ zs
in_three g ds os qs xs ys zs a b c =
    filter-append (λ (x : wire.Custom). is_in g x.name) (ds ++ os) qs
    ∙ ap₂ ◌++◌ (filter-append (λ (x : wire.Custom). is_in g x.name) ds os ∙ ap₂ ◌++◌ a b) c

-- ---- all kinds

module _ (front : List Section) (t : Text) where
  -- what stands in front of each kind, the kind with it
  abbrev to_types : List Section
  to_types = front ++ listed frames.Types t.types

  abbrev to_imports : List Section
  to_imports = to_types ++ listed frames.Imports t.imports

  abbrev to_functions : List Section
  to_functions = to_imports ++ listed frames.Functions t.functions

  abbrev to_tables : List Section
  to_tables = to_functions ++ listed frames.Tables t.tables

  abbrev to_memories : List Section
  to_memories = to_tables ++ listed frames.Memories t.memories

  abbrev to_tags : List Section
  to_tags = to_memories ++ listed frames.Tags t.tags

  abbrev to_globals : List Section
  to_globals = to_tags ++ listed frames.Globals t.globals

  abbrev to_exports : List Section
  to_exports = to_globals ++ listed frames.Exports t.exports

  abbrev to_start : List Section
  to_start = to_exports ++ if_some frames.Start t.start

  abbrev to_elements : List Section
  to_elements = to_start ++ listed frames.Elements t.elements

  abbrev to_data_count : List Section
  to_data_count = to_elements ++ if_some frames.DataCount t.data_count

  abbrev to_bodies : List Section
  to_bodies = to_data_count ++ listed frames.Code (map unplaced t.bodies)

  abbrev to_data_segments : List Section
  to_data_segments = to_bodies ++ listed frames.DataSegments t.data_segments

to_front : (front : List Section) (t : Text) → to_data_segments front t ≡ front ++ to_data_segments [] t
to_front [] t = refl
to_front (s ∷ ss) t = ap (λ (l : List Section). s ∷ l) (to_front ss t)

module _ (t : Text) (sections : List wire.Custom) (split : sections ≡ t.dylinks ++ t.others) (dylinks : All (λ c. is_dylink c ≡ true) t.dylinks) (others : All (λ c. is_other c ≡ true) t.others) where
  -- the sections that are made
  abbrev made_both : List wire.Custom
  made_both = made_by (names_bytes t.names) t.producers

  -- the custom sections of the module: those of its own, and then names and producers
  abbrev pub customs : List wire.Custom
  customs = sections ++ made_both

  abbrev in_parts : List wire.Custom
  in_parts = (t.dylinks ++ t.others) ++ made_both

  parts_same : customs ≡ in_parts
  parts_same = ap (λ (l : List wire.Custom). l ++ made_both) split

  each_dylink : (f : List ℕ → Bool) (b : Bool) → f (codes "dylink") ≡ b → f (codes "dylink.0") ≡ b → All (λ (c : wire.Custom). f c.name ≡ b) t.dylinks
  each_dylink f b first second = All-weaker (λ (c : wire.Custom). is_dylink c ≡ true) (λ (c : wire.Custom). f c.name ≡ b) (by_dylink f b first second) t.dylinks dylinks

  each_other : (f : List ℕ → Bool) (b : Bool) → ((c : wire.Custom) → is_other c ≡ true → f c.name ≡ b) → All (λ (c : wire.Custom). f c.name ≡ b) t.others
  each_other f b so = All-weaker (λ (c : wire.Custom). is_other c ≡ true) (λ (c : wire.Custom). f c.name ≡ b) so t.others others

  of_dylink : group_of Dylink customs ≡ t.dylinks
  of_dylink =
      ap (group_of Dylink) parts_same
      ∙ in_three Dylink t.dylinks t.others made_both t.dylinks [] []
      (filter_all (λ (c : wire.Custom). is_in Dylink c.name) t.dylinks (each_dylink (is_in Dylink) true refl refl))
      (none_passes (λ (c : wire.Custom). is_in Dylink c.name) t.others (each_other (is_in Dylink) false (λ c h. (apart_parts c h).0)))
      (made_dylink (names_bytes t.names) t.producers)
      ∙ append-nil (t.dylinks ++ []) ∙ append-nil t.dylinks

  of_names : map CustomSection (group_of Names customs) ≡ listed names_made (names_bytes t.names)
  of_names =
      ap (λ (l : List wire.Custom). map CustomSection l)
      (ap (group_of Names) parts_same
      ∙ in_three Names t.dylinks t.others made_both [] [] (group_of Names made_both)
      (none_passes (λ (c : wire.Custom). is_in Names c.name) t.dylinks (each_dylink (is_in Names) false refl refl))
      (none_passes (λ (c : wire.Custom). is_in Names c.name) t.others (each_other (is_in Names) false no_name))
      refl)
      ∙ made_names (names_bytes t.names) t.producers

  of_producers : map CustomSection (group_of Producers customs) ≡ listed producers_made t.producers
  of_producers =
      ap (λ (l : List wire.Custom). map CustomSection l)
      (ap (group_of Producers) parts_same
      ∙ in_three Producers t.dylinks t.others made_both [] [] (group_of Producers made_both)
      (none_passes (λ (c : wire.Custom). is_in Producers c.name) t.dylinks (each_dylink (is_in Producers) false refl refl))
      (none_passes (λ (c : wire.Custom). is_in Producers c.name) t.others (each_other (is_in Producers) false no_producers))
      refl)
      ∙ made_producers (names_bytes t.names) t.producers

  of_others : group_of Others customs ≡ t.others
  of_others =
      ap (group_of Others) parts_same
      ∙ in_three Others t.dylinks t.others made_both [] t.others []
      (none_passes (λ (c : wire.Custom). is_in Others c.name) t.dylinks (each_dylink (is_in Others) false refl refl))
      (filter_all (λ (c : wire.Custom). is_in Others c.name) t.others (each_other (is_in Others) true in_others))
      (made_others (names_bytes t.names) t.producers)
      ∙ append-nil t.others

  same_types : to_types [] t ≡ if_any frames.Types t.types
  same_types = listed_is frames.Types t.types

  standard_same : to_data_segments [] t ≡ standard_sections (placed t customs)
  standard_same =
      beside (beside (beside (beside (beside (beside (beside (beside (beside (beside (beside (beside (same_types)
      (listed_is frames.Imports t.imports))
      (listed_is frames.Functions t.functions))
      (listed_is frames.Tables t.tables))
      (listed_is frames.Memories t.memories))
      (listed_is frames.Tags t.tags))
      (listed_is frames.Globals t.globals))
      (listed_is frames.Exports t.exports))
      (given_is frames.Start t.start))
      (listed_is frames.Elements t.elements))
      (given_is frames.DataCount t.data_count))
      (listed_is frames.Code (map unplaced t.bodies)))
      (listed_is frames.DataSegments t.data_segments)

  abbrev first : List Section
  first = map CustomSection t.dylinks

  abbrev last : List Section
  last = map CustomSection t.others

  abbrev named : List Section
  named = listed names_made (names_bytes t.names)

  abbrev made : List Section
  made = listed producers_made t.producers

  abbrev to_named : List Section
  to_named = to_data_segments first t ++ named

  abbrev to_all : List Section
  to_all = (to_named ++ made) ++ last

  -- they are those of the module
  sections_same : sections_of t ≡ sections_in_order (placed t customs)
  sections_same =
      append_assoc to_named made last
      ∙ append_assoc (to_data_segments first t) named (made ++ last)
      ∙ ap (λ (ss : List Section). to_data_segments first t ++ ss) (sym (append_assoc named made last))
      ∙ beside (to_front first t ∙ ap (λ (ss : List Section). first ++ ss) standard_same) refl
      ∙ sym (beside (ap (λ (l : List wire.Custom). map CustomSection l ++ standard_sections (placed t customs)) of_dylink)
      (beside (beside of_names of_producers) (ap (λ (l : List wire.Custom). map CustomSection l) of_others)))

  pub bytes_same : module_bytes (placed t customs) ≡ written_as t
  bytes_same = ap (λ (ss : List Section). header ++ all_spelled ss) (sym sections_same)

  module _ (P : Section → Type 0) where
    -- what holds of each kind holds of all
    pub all_sections : EachSection P (placed t customs) → All P (sections_of t)
    all_sections e =
        let own : All (λ (c : wire.Custom). P (CustomSection c)) in_parts = subst (λ (l : List wire.Custom). All (λ (c : wire.Custom). P (CustomSection c)) l) parts_same e.customs in
        let both : All (λ (c : wire.Custom). P (CustomSection c)) (t.dylinks ++ t.others) = All-front (λ (c : wire.Custom). P (CustomSection c)) (t.dylinks ++ t.others) made_both own in
        let hold_first : All P first = All-map P CustomSection t.dylinks (All-front (λ (c : wire.Custom). P (CustomSection c)) t.dylinks t.others both) in
        let hold_last : All P last = All-map P CustomSection t.others (All-back (λ (c : wire.Custom). P (CustomSection c)) t.dylinks t.others both) in
        let hold_types : All P (to_types first t) = All-append P first (listed frames.Types t.types) hold_first (all_listed P frames.Types t.types e.types) in
        let hold_imports : All P (to_imports first t) = All-append P (to_types first t) (listed frames.Imports t.imports) hold_types (all_listed P frames.Imports t.imports e.imports) in
        let hold_functions : All P (to_functions first t) = All-append P (to_imports first t) (listed frames.Functions t.functions) hold_imports (all_listed P frames.Functions t.functions e.functions) in
        let hold_tables : All P (to_tables first t) = All-append P (to_functions first t) (listed frames.Tables t.tables) hold_functions (all_listed P frames.Tables t.tables e.tables) in
        let hold_memories : All P (to_memories first t) = All-append P (to_tables first t) (listed frames.Memories t.memories) hold_tables (all_listed P frames.Memories t.memories e.memories) in
        let hold_tags : All P (to_tags first t) = All-append P (to_memories first t) (listed frames.Tags t.tags) hold_memories (all_listed P frames.Tags t.tags e.tags) in
        let hold_globals : All P (to_globals first t) = All-append P (to_tags first t) (listed frames.Globals t.globals) hold_tags (all_listed P frames.Globals t.globals e.globals) in
        let hold_exports : All P (to_exports first t) = All-append P (to_globals first t) (listed frames.Exports t.exports) hold_globals (all_listed P frames.Exports t.exports e.exports) in
        let hold_start : All P (to_start first t) = All-append P (to_exports first t) (if_some frames.Start t.start) hold_exports (all_given P frames.Start t.start e.start) in
        let hold_elements : All P (to_elements first t) = All-append P (to_start first t) (listed frames.Elements t.elements) hold_start (all_listed P frames.Elements t.elements e.elements) in
        let hold_data_count : All P (to_data_count first t) = All-append P (to_elements first t) (if_some frames.DataCount t.data_count) hold_elements (all_given P frames.DataCount t.data_count e.data_count) in
        let hold_bodies : All P (to_bodies first t) = All-append P (to_data_count first t) (listed frames.Code (map unplaced t.bodies)) hold_data_count (all_listed P frames.Code (map unplaced t.bodies) e.bodies) in
        let hold_data_segments : All P (to_data_segments first t) = All-append P (to_bodies first t) (listed frames.DataSegments t.data_segments) hold_bodies (all_listed P frames.DataSegments t.data_segments e.data_segments) in
        let hold_both : All (λ (c : wire.Custom). P (CustomSection c)) made_both = All-back (λ (c : wire.Custom). P (CustomSection c)) (t.dylinks ++ t.others) made_both own in
        let hold_named : All P to_named = All-append P (to_data_segments first t) named hold_data_segments (names_hold P (names_bytes t.names) (All-front (λ (c : wire.Custom). P (CustomSection c)) (named_by_bytes (names_bytes t.names)) (producers_more t.producers) hold_both)) in
        let hold_made : All P (to_named ++ made) = All-append P to_named made hold_named (producers_hold P t.producers (All-back (λ (c : wire.Custom). P (CustomSection c)) (named_by_bytes (names_bytes t.names)) (producers_more t.producers) hold_both)) in
        All-append P (to_named ++ made) last hold_made hold_last

    -- and back, where it holds of sections that list nothing
    pub each_section : EachSection P (laid empty_text) → All P (sections_of t) → EachSection P (placed t customs)
    each_section none all =
        let hold_all : All P to_all = all in
        let hold_made : All P (to_named ++ made) = All-front P (to_named ++ made) last hold_all in
        let hold_named : All P to_named = All-front P to_named made hold_made in
        let hold_data_segments : All P (to_data_segments first t) = All-front P (to_data_segments first t) named hold_named in
        let hold_bodies : All P (to_bodies first t) = All-front P (to_bodies first t) (listed frames.DataSegments t.data_segments) hold_data_segments in
        let hold_data_count : All P (to_data_count first t) = All-front P (to_data_count first t) (listed frames.Code (map unplaced t.bodies)) hold_bodies in
        let hold_elements : All P (to_elements first t) = All-front P (to_elements first t) (if_some frames.DataCount t.data_count) hold_data_count in
        let hold_start : All P (to_start first t) = All-front P (to_start first t) (listed frames.Elements t.elements) hold_elements in
        let hold_exports : All P (to_exports first t) = All-front P (to_exports first t) (if_some frames.Start t.start) hold_start in
        let hold_globals : All P (to_globals first t) = All-front P (to_globals first t) (listed frames.Exports t.exports) hold_exports in
        let hold_tags : All P (to_tags first t) = All-front P (to_tags first t) (listed frames.Globals t.globals) hold_globals in
        let hold_memories : All P (to_memories first t) = All-front P (to_memories first t) (listed frames.Tags t.tags) hold_tags in
        let hold_tables : All P (to_tables first t) = All-front P (to_tables first t) (listed frames.Memories t.memories) hold_memories in
        let hold_functions : All P (to_functions first t) = All-front P (to_functions first t) (listed frames.Tables t.tables) hold_tables in
        let hold_imports : All P (to_imports first t) = All-front P (to_imports first t) (listed frames.Functions t.functions) hold_functions in
        let hold_types : All P (to_types first t) = All-front P (to_types first t) (listed frames.Imports t.imports) hold_imports in
        record {
          types = of_listed P frames.Types t.types none.types (All-back P first (listed frames.Types t.types) hold_types);
          imports = of_listed P frames.Imports t.imports none.imports (All-back P (to_types first t) (listed frames.Imports t.imports) hold_imports);
          functions = of_listed P frames.Functions t.functions none.functions (All-back P (to_imports first t) (listed frames.Functions t.functions) hold_functions);
          tables = of_listed P frames.Tables t.tables none.tables (All-back P (to_functions first t) (listed frames.Tables t.tables) hold_tables);
          memories = of_listed P frames.Memories t.memories none.memories (All-back P (to_tables first t) (listed frames.Memories t.memories) hold_memories);
          tags = of_listed P frames.Tags t.tags none.tags (All-back P (to_memories first t) (listed frames.Tags t.tags) hold_tags);
          globals = of_listed P frames.Globals t.globals none.globals (All-back P (to_tags first t) (listed frames.Globals t.globals) hold_globals);
          exports = of_listed P frames.Exports t.exports none.exports (All-back P (to_globals first t) (listed frames.Exports t.exports) hold_exports);
          start = of_given P frames.Start t.start (All-back P (to_exports first t) (if_some frames.Start t.start) hold_start);
          elements = of_listed P frames.Elements t.elements none.elements (All-back P (to_start first t) (listed frames.Elements t.elements) hold_elements);
          data_count = of_given P frames.DataCount t.data_count (All-back P (to_elements first t) (if_some frames.DataCount t.data_count) hold_data_count);
          bodies = of_listed P frames.Code (map unplaced t.bodies) none.bodies (All-back P (to_data_count first t) (listed frames.Code (map unplaced t.bodies)) hold_bodies);
          data_segments = of_listed P frames.DataSegments t.data_segments none.data_segments (All-back P (to_bodies first t) (listed frames.DataSegments t.data_segments) hold_data_segments);
          customs =
              subst (λ (l : List wire.Custom). All (λ (c : wire.Custom). P (CustomSection c)) l) (sym parts_same)
              (All-append (λ (c : wire.Custom). P (CustomSection c)) (t.dylinks ++ t.others) made_both
              (All-append (λ (c : wire.Custom). P (CustomSection c)) t.dylinks t.others
              (of_map P CustomSection t.dylinks (All-front P first (listed frames.Types t.types) hold_types))
              (of_map P CustomSection t.others (All-back P (to_named ++ made) last hold_all)))
              (All-append (λ (c : wire.Custom). P (CustomSection c)) (named_by_bytes (names_bytes t.names)) (producers_more t.producers)
              (names_hold_back P (names_bytes t.names) (All-back P (to_data_segments first t) named hold_named))
              (customs_hold P t.producers (All-back P to_named made hold_made))));
        }
