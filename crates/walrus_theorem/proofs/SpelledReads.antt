-- The one spelling of a module reads as the module.
use Rattle.std.proofs.Common.{◌≡◌, ℕ, ◌+◌, ◌≤◌, ◌<◌, ◌^◌, Bool, true, false, List, [], ◌∷◌, ◌++◌, length, map, zip, refl, sym, ap, ap₂, subst, ◌∙◌, arith, length-append, inl, lt-ltb, ltb, ltb-true, ltb-false, ⊎_elim}
use Rattle.std.specs.Prelude.{Option, Some, None, IsSome, All, codes, bytes_eq, cond, filter, flat_map, not, ◌||◌}
use Rattle.std.specs.List.{AllByRecursion, AllZip}
use Rattle.std.proofs.lemmas.List.{append-nil}
use Rattle.std.proofs.lemmas.List.Elements.{All-head, All-tail, recursion_from_All, filter-append}
use Rattle.std.proofs.lemmas.Slice.Eq.{bytes_eq-Decides}
use Rattle.std.specs.Str.{IsUtf8}
use Rattle.wasm_forms.specs.Spelling.{block_bytes, vector_bytes}
use Rattle.wasm_frames.specs.Record as wire
use Rattle.wasm_frames.specs.Frames as frames
use Rattle.wasm_frames.specs.Frames.{Section, CustomSection}
use Rattle.wasm_payloads.specs.declared.naming.NameSpace.{NameSpace}
use Rattle.wasm_payloads.specs.declared.naming.NameSpace.TheVariants as spaces
use Rattle.wasm_payloads.specs.Names.{Named, ItemName, LocalName, Names}
use Rattle.wasm_payloads.specs.Producers.{Fields}
use Rattle.wasm_payloads.proofs.Agreed.{names_once_lem}
use Rattle.wasm_writer.specs.Spelling.{SectionFits}
use Rattle.walrus_base.specs.Operators.{Types, Functions, Tables, Memories, Tags, Globals, Elements, DataSegments}
use Rattle.walrus_base.proofs.Noted.{or_cases}
use Rattle.walrus_model.specs.Abstract.{Abstract, Name, Body, Function, ProducerValue, ProducerField}
use Rattle.walrus_model.specs.Config.{Config}
use Rattle.walrus_model.specs.Names.{body_of, body_of_function}
use Rattle.walrus_theorem.specs.Headline.{ReadsBody, ReadsModule, has_function, value_of, field_of}
use Rattle.walrus_theorem.specs.Namings.{naming_of, space_of, has, has_local, is_in_range}
use Rattle.walrus_theorem.specs.OneRun.{Fits}
use Rattle.walrus_model.specs.Sections.{function_types, is_apart}
use Rattle.walrus_theorem.specs.SpelledLaws.{BodiesNest, SpelledReads}
use Rattle.walrus_theorem.specs.Spelling.{MapStands, IsSpelling, IsSpelledAs, is_dylink, is_other, written_as}
use Rattle.walrus_theorem.specs.Text.{Text, NameMap, NameText, listed, if_some, custom, sections_of, said, said_by, unplaced, names_bytes, field_bytes, namings_of, raw_value, raw_field, module_naming, space_namings, function_namings, further_spaces}
use Rattle.walrus_theorem.proofs.BodiesBack.{function_below, BodiesHold, bodies_hold, bodies_back}
use Rattle.walrus_theorem.proofs.NamesBack.{fields_back, EntryStands, FunctionStands, names_back}
use Rattle.walrus_model.proofs.OneList.{All-front, All-back}
use Rattle.walrus_theorem.proofs.OneSections.{laid, more, customs_in}
use Rattle.walrus_theorem.proofs.OneSpelling.{told, as_told}
use Rattle.walrus_theorem.proofs.ReadsBack.{reads_back}
use Rattle.walrus_theorem.proofs.SpelledFits.{all_front, all_back}
use Rattle.walrus_theorem.proofs.TextFits.{text_fits}
use Rattle.std.proofs.lemmas.Bool.{or_parts as neither}

-- ---- what is named is there, so its numbers are those that 32 bits hold

in_count : (x params further : ℕ) → x < params + further → params ≤ 2 ^ 32 → (params ≤ x → x < 2 ^ 32) → x < 2 ^ 32
in_count x params further lt few late = by_test (ltb x params) refl
  where
    by_test : (t : Bool) → ltb x params ≡ t → x < 2 ^ 32
    by_test true e = omega (arith, ltb-true x params e, few)
    by_test false e = late (ltb-false x params e)

module _ (c : Config) (t : Text) (spells : IsSpelling (told t) t) (fits : Fits (told t)) where
  abbrev m : Abstract
  m = told t

  item_small : (space : NameSpace) (i : ℕ) → has m (space_of space, i) ≡ true → i < 2 ^ 32
  item_small spaces.Functions i h = omega (arith, fits.items Functions i h)
  item_small spaces.Types i h = omega (arith, fits.items Types i h)
  item_small spaces.Tables i h = omega (arith, fits.items Tables i h)
  item_small spaces.Memories i h = omega (arith, fits.items Memories i h)
  item_small spaces.Globals i h = omega (arith, fits.items Globals i h)
  item_small spaces.Elements i h = omega (arith, fits.items Elements i h)
  item_small spaces.DataSegments i h = omega (arith, fits.items DataSegments i h)
  item_small spaces.Tags i h = omega (arith, fits.items Tags i h)

  local_small : (f x : ℕ) (o : Option Body) → body_of m f ≡ o → has_local x o ≡ true → x < 2 ^ 32
  local_small f x None e h = absurd cc
  local_small f x (Some b) e h =
      let lt : x < length b.parameters + b.declared = ltb-true x (length b.parameters + b.declared) h in
      in_count x (length b.parameters) b.declared lt (fits.parameters f b e) (λ late. fits.used f b x e (spells.used f b e x late lt))

  some_body : (o : Option Function) (x : ℕ) → has_local x (body_of_function o) ≡ true → IsSome o
  some_body None x h = absurd cc
  some_body (Some g) x h = refl

  some_function : (f x : ℕ) → has_local x (body_of m f) ≡ true → IsSome (m.functions f)
  some_function f x h = some_body (m.functions f) x h

  known_function : (f : ℕ) → IsSome (m.functions f) → has_function (laid t) f ≡ true
  known_function f h = lt-ltb f (length (function_types (laid t))) (function_below c t spells f h)

  abbrev There : Named → Type 0
  There x = is_in_range m (naming_of x).0 ≡ true

  items_stand : (space : NameSpace) (es : NameMap) → AllByRecursion There (map (λ e. ItemName space e.0 e.1) es) → AllByRecursion (λ (e : ℕ × Name). IsUtf8 e.1) es → AllByRecursion EntryStands es
  items_stand space [] h k = tt
  items_stand space (e ∷ es) h k = ((item_small space e.0 h.0, k.0), items_stand space es h.1 k.1)

  locals_stand : (f : ℕ) (es : NameMap) → AllByRecursion There (map (λ e. LocalName f e.0 e.1) es) → AllByRecursion (λ (e : ℕ × Name). IsUtf8 e.1) es → AllByRecursion EntryStands es
  locals_stand f [] h k = tt
  locals_stand f (e ∷ es) h k = ((local_small f e.0 (body_of m f) refl h.0, k.0), locals_stand f es h.1 k.1)

  in_function : (f : ℕ) (es : NameMap) → (es ≡ [] → ⊥) → AllByRecursion There (map (λ e. LocalName f e.0 e.1) es) → IsSome (m.functions f)
  in_function f [] some h = absurd (some refl)
  in_function f (e ∷ es) some h = some_function f e.0 h.0

  function_stands : (f : ℕ × NameMap) → (f.1 ≡ [] → ⊥) → MapStands f.1 → AllByRecursion There (function_namings f) → FunctionStands (has_function (laid t)) f
  function_stands f some stands h =
      let there = in_function f.0 f.1 some h in
      (omega (arith, fits.items Functions f.0 there), (known_function f.0 there, locals_stand f.0 f.1 h (recursion_from_All (λ (e : ℕ × Name). IsUtf8 e.1) f.1 stands.1)))

  functions_stand : (fs : List (ℕ × NameMap)) → All (λ (f : ℕ × NameMap). (f.1 ≡ [] → ⊥) × MapStands f.1) fs → AllByRecursion There (flat_map function_namings fs) → AllByRecursion (FunctionStands (has_function (laid t))) fs
  functions_stand [] h k = tt
  functions_stand (f ∷ fs) h k =
      let one = All-head (λ (g : ℕ × NameMap). (g.1 ≡ [] → ⊥) × MapStands g.1) f fs h in (
        function_stands f one.0 one.1 (all_front There (function_namings f) (flat_map function_namings fs) k),
        functions_stand fs (All-tail (λ (g : ℕ × NameMap). (g.1 ≡ [] → ⊥) × MapStands g.1) f fs h) (all_back There (function_namings f) (flat_map function_namings fs) k),
      )

  abbrev names : NameText
  names = t.names

  there : AllByRecursion There (namings_of names)
  there = recursion_from_All There (namings_of names) spells.names.are_there

  abbrev first_three : List Named
  first_three = module_naming names.module_name ++ space_namings names spaces.Functions ++ flat_map function_namings names.locals

  -- behind so many of the further spaces
  after : (ss : List NameSpace) → AllByRecursion There (flat_map (space_namings names) ss) → AllByRecursion (λ s. AllByRecursion There (space_namings names s)) ss
  after [] h = tt
  after (s ∷ ss) h = (all_front There (space_namings names s) (flat_map (space_namings names) ss) h, after ss (all_back There (space_namings names s) (flat_map (space_namings names) ss) h))

  further : AllByRecursion (λ s. AllByRecursion There (space_namings names s)) further_spaces
  further = after further_spaces (all_back There first_three (flat_map (space_namings names) further_spaces) there)

  space_there : (space : NameSpace) → AllByRecursion There (space_namings names space)
  space_there spaces.Functions =
      all_back There (module_naming names.module_name) (space_namings names spaces.Functions)
      (all_front There (module_naming names.module_name ++ space_namings names spaces.Functions) (flat_map function_namings names.locals) (all_front There first_three (flat_map (space_namings names) further_spaces) there))
  space_there spaces.Types = further.0
  space_there spaces.Tables = further.1.0
  space_there spaces.Memories = further.1.1.0
  space_there spaces.Globals = further.1.1.1.0
  space_there spaces.Elements = further.1.1.1.1.0
  space_there spaces.DataSegments = further.1.1.1.1.1.0
  space_there spaces.Tags = further.1.1.1.1.1.1.0

  pub named_back : length (names_bytes names) < 2 ^ 32 → Names (has_function (laid t)) (names_bytes names) (namings_of names)
  named_back lt =
      names_back (has_function (laid t)) names spells.names.module_name
      (λ space. items_stand space (names.items space) (space_there space) (recursion_from_All (λ (e : ℕ × Name). IsUtf8 e.1) (names.items space) (spells.names.items space).1))
      (functions_stand names.locals spells.names.locals
      (all_back There (module_naming names.module_name ++ space_namings names spaces.Functions) (flat_map function_namings names.locals) (all_front There first_three (flat_map (space_namings names) further_spaces) there)))
      lt

-- ---- which custom sections are the name and the producers section

abbrev called : Name → wire.Custom → Bool
called name c = bytes_eq c.name name

filter_none : {A : Type 0} (test : A → Bool) (xs : List A) → AllByRecursion (λ x. test x ≡ false) xs → filter test xs ≡ []
filter_none test [] h = refl
filter_none test (x ∷ xs) h = ap (λ b. cond b (x ∷ filter test xs) (filter test xs)) h.0 ∙ filter_none test xs h.1

other_name : (c : wire.Custom) (own name : Name) → bytes_eq own name ≡ false → bytes_eq c.name own ≡ true → called name c ≡ false
other_name c own name differ same = ap (λ n. bytes_eq n name) ((bytes_eq-Decides c.name own).0 same) ∙ differ

dylink_not : (name : Name) → bytes_eq (codes "dylink") name ≡ false → bytes_eq (codes "dylink.0") name ≡ false → (c : wire.Custom) → is_dylink c ≡ true → called name c ≡ false
dylink_not name a b c h = ⊎_elim (λ e. other_name c (codes "dylink") name a e) (λ e. other_name c (codes "dylink.0") name b e) (or_cases (bytes_eq c.name (codes "dylink")) (bytes_eq c.name (codes "dylink.0")) h)

pub not_either : (a b : Bool) → not (a || b) ≡ true → (a ≡ false) × (b ≡ false)
not_either true b h = absurd cc
not_either false true h = absurd cc
not_either false false h = (refl, refl)

-- it is called neither `name` nor `producers`
other_not : (c : wire.Custom) → is_other c ≡ true → (called (codes "name") c ≡ false) × (called (codes "producers") c ≡ false)
other_not c h =
    let apart = neither (bytes_eq c.name (codes "name")) _ (not_either (is_dylink c) (is_apart c.name) h).1 in
    (apart.0, (neither (bytes_eq c.name (codes "producers")) _ apart.1).0)

pub all_such : {A : Type 0} (P Q : A → Type 0) → ((x : A) → P x → Q x) → (xs : List A) → AllByRecursion P xs → AllByRecursion Q xs
all_such P Q law [] h = tt
all_such P Q law (x ∷ xs) h = (law x h.0, all_such P Q law xs h.1)

more_called : {A : Type 0} (name own : Name) (spell : List A → List ℕ) (xs : List A) → bytes_eq own name ≡ true → filter (called name) (more own spell xs) ≡ more own spell xs
more_called name own spell [] e = refl
more_called name own spell (x ∷ xs) e = ap (λ b. cond b (record { name = own; bytes = spell (x ∷ xs) } ∷ []) []) e

more_not : {A : Type 0} (name own : Name) (spell : List A → List ℕ) (xs : List A) → bytes_eq own name ≡ false → filter (called name) (more own spell xs) ≡ []
more_not name own spell [] e = refl
more_not name own spell (x ∷ xs) e = ap (λ b. cond b (record { name = own; bytes = spell (x ∷ xs) } ∷ []) []) e

module _ (t : Text) (dylinks : AllByRecursion (λ c. is_dylink c ≡ true) t.dylinks) (others : AllByRecursion (λ c. is_other c ≡ true) t.others) where
  abbrev own_names : List wire.Custom
  own_names = more (codes "name") (λ bytes. bytes) (names_bytes t.names)

  abbrev own_producers : List wire.Custom
  own_producers = more (codes "producers") (vector_bytes field_bytes) t.producers

  split : (name : Name) → filter (called name) (customs_in t) ≡ filter (called name) t.dylinks ++ filter (called name) own_names ++ filter (called name) own_producers ++ filter (called name) t.others
  split name =
      filter-append (called name) (t.dylinks ++ own_names ++ own_producers) t.others
      ∙ ap (λ l. l ++ filter (called name) t.others) (filter-append (called name) (t.dylinks ++ own_names) own_producers
      ∙ ap (λ l. l ++ filter (called name) own_producers) (filter-append (called name) t.dylinks own_names))

  names_alone : filter (called (codes "name")) (customs_in t) ≡ own_names
  names_alone =
      split (codes "name")
      ∙ ap₂ ◌++◌ (ap₂ ◌++◌ (ap₂ ◌++◌ (filter_none (called (codes "name")) t.dylinks (all_such (λ c. is_dylink c ≡ true) (λ c. called (codes "name") c ≡ false) (dylink_not (codes "name") refl refl) t.dylinks dylinks))
      (more_called (codes "name") (codes "name") (λ bytes. bytes) (names_bytes t.names) refl))
      (more_not (codes "name") (codes "producers") (vector_bytes field_bytes) t.producers refl))
      (filter_none (called (codes "name")) t.others (all_such (λ c. is_other c ≡ true) (λ c. called (codes "name") c ≡ false) (λ c h. (other_not c h).0) t.others others))
      ∙ append-nil (own_names ++ []) ∙ append-nil own_names

  producers_alone : filter (called (codes "producers")) (customs_in t) ≡ own_producers
  producers_alone =
      split (codes "producers")
      ∙ ap₂ ◌++◌ (ap₂ ◌++◌ (ap₂ ◌++◌ (filter_none (called (codes "producers")) t.dylinks (all_such (λ c. is_dylink c ≡ true) (λ c. called (codes "producers") c ≡ false) (dylink_not (codes "producers") refl refl) t.dylinks dylinks))
      (more_not (codes "producers") (codes "name") (λ bytes. bytes) (names_bytes t.names) refl))
      (more_called (codes "producers") (codes "producers") (vector_bytes field_bytes) t.producers refl))
      (filter_none (called (codes "producers")) t.others (all_such (λ c. is_other c ≡ true) (λ c. called (codes "producers") c ≡ false) (λ c h. (other_not c h).1) t.others others))
      ∙ append-nil own_producers

-- ---- the payloads of these: one, or none where there is nothing

bytes_in : List wire.Custom → List (List ℕ)
bytes_in cs = map (λ (c : wire.Custom). c.bytes) cs

abbrev if_any : {A B : Type 0} → List A → B → List B
if_any [] b = []
if_any (x ∷ xs) b = b ∷ []

name_zip : (known : ℕ → Bool) (bytes : List ℕ) (names : List Named) → Names known bytes names → AllZip (Names known) (bytes_in (more (codes "name") (λ b. b) bytes)) (if_any bytes names)
unfolding bytes_in
name_zip known [] ns h = tt
name_zip known (b ∷ bytes) ns h = (h, tt)

name_all : (known : ℕ → Bool) (bytes : List ℕ) (names : List Named) → Names known bytes names → flat_map (λ xs. xs) (if_any bytes names) ≡ names
name_all known [] ns h = names_once_lem known [] [] ns (0, inl (refl, refl)) h
name_all known (b ∷ bytes) ns h = append-nil ns

field_zip : (fs : List ProducerField) → ((0 < length fs) → Fields (vector_bytes field_bytes fs) (map raw_field fs)) → AllZip Fields (bytes_in (more (codes "producers") (vector_bytes field_bytes) fs)) (if_any fs (map raw_field fs))
unfolding bytes_in
field_zip [] h = tt
field_zip (f ∷ fs) h = (h (omega arith), tt)

values_again : (vs : List ProducerValue) → map value_of (map raw_value vs) ≡ vs
values_again [] = refl
values_again (v ∷ vs) = ap (λ l. v ∷ l) (values_again vs)

fields_again : (fs : List ProducerField) → map field_of (map raw_field fs) ≡ fs
fields_again [] = refl
fields_again (f ∷ fs) = ap₂ (λ (vs : List ProducerValue) (l : List ProducerField). record { name = f.name; values = vs } ∷ l) (values_again f.values) (fields_again fs)

field_all : (fs : List ProducerField) → flat_map (map field_of) (if_any fs (map raw_field fs)) ≡ fs
field_all [] = refl
field_all (f ∷ fs) = append-nil (map field_of (map raw_field (f ∷ fs))) ∙ fields_again (f ∷ fs)

-- ---- sizes of these payloads

payload_small : (name payload : List ℕ) → length (block_bytes name ++ payload) < 2 ^ 32 → length payload < 2 ^ 32
payload_small name payload lt = omega (arith, lt, length-append (block_bytes name) payload)

names_small : (bytes : List ℕ) → All SectionFits (listed (λ b. custom (codes "name") b) bytes) → length bytes < 2 ^ 32
names_small [] h = omega arith
names_small (b ∷ bytes) h = payload_small (codes "name") (b ∷ bytes) (All-head SectionFits (custom (codes "name") (b ∷ bytes)) [] h).1

fields_small : (fs : List ProducerField) → All SectionFits (listed (λ fields. custom (codes "producers") (vector_bytes field_bytes fields)) fs) → 0 < length fs → length (vector_bytes field_bytes fs) < 2 ^ 32
fields_small [] h lt = absurd (omega (arith, lt))
fields_small (f ∷ fs) h lt = payload_small (codes "producers") (vector_bytes field_bytes (f ∷ fs)) (All-head SectionFits (custom (codes "producers") (vector_bytes field_bytes (f ∷ fs))) [] h).1

-- ---- all of it

module _ (c : Config) (t : Text) (spells : IsSpelling (said_by t) t) (fits : All SectionFits (sections_of t)) (nest : BodiesNest c (said_by t)) (holds : BodiesHold (said_by t)) where
  own : IsSpelling (told t) t
  own = subst (λ z. IsSpelling z t) (as_told t) spells

  bodies : AllZip (ReadsBody c (laid t)) (zip t.functions (map unplaced t.bodies)) (map said t.bodies)
  bodies = bodies_back c t own (subst BodiesHold (as_told t) holds) (subst (BodiesNest c) (as_told t) nest)

  small : Fits (told t)
  small = text_fits t own fits

  abbrev with_names : List Section
  with_names = listed (λ b. custom (codes "name") b) (names_bytes t.names)

  abbrev with_producers : List Section
  with_producers = listed (λ fields. custom (codes "producers") (vector_bytes field_bytes fields)) t.producers

  abbrev before_names : List Section
  before_names = map CustomSection t.dylinks ++ listed frames.Types t.types ++ listed frames.Imports t.imports ++ listed frames.Functions t.functions ++ listed frames.Tables t.tables ++ listed frames.Memories t.memories
      ++ listed frames.Tags t.tags ++ listed frames.Globals t.globals ++ listed frames.Exports t.exports ++ if_some frames.Start t.start ++ listed frames.Elements t.elements
      ++ if_some frames.DataCount t.data_count ++ listed frames.Code (map unplaced t.bodies) ++ listed frames.DataSegments t.data_segments

  up_to_producers : All SectionFits (before_names ++ with_names ++ with_producers)
  up_to_producers = All-front SectionFits (before_names ++ with_names ++ with_producers) (map CustomSection t.others) fits

  names_read : Names (has_function (laid t)) (names_bytes t.names) (namings_of t.names)
  names_read = named_back c t own small (names_small (names_bytes t.names) (All-back SectionFits before_names with_names (All-front SectionFits (before_names ++ with_names) with_producers up_to_producers)))

  dylinks : AllByRecursion (λ d. is_dylink d ≡ true) t.dylinks
  dylinks = recursion_from_All (λ d. is_dylink d ≡ true) t.dylinks spells.dylinks

  others : AllByRecursion (λ d. is_other d ≡ true) t.others
  others = recursion_from_All (λ d. is_other d ≡ true) t.others spells.others

  pub all_back_again : ReadsModule c (written_as t) (said_by t)
  unfolding bytes_in
  all_back_again =
      reads_back c t spells fits bodies
      (if_any (names_bytes t.names) (namings_of t.names))
      (subst (λ cs. AllZip (Names (has_function (laid t))) (bytes_in cs) (if_any (names_bytes t.names) (namings_of t.names))) (sym (names_alone t dylinks others)) (name_zip (has_function (laid t)) (names_bytes t.names) (namings_of t.names) names_read))
      (name_all (has_function (laid t)) (names_bytes t.names) (namings_of t.names) names_read)
      (if_any t.producers (map raw_field t.producers))
      (subst (λ cs. AllZip Fields (bytes_in cs) (if_any t.producers (map raw_field t.producers))) (sym (producers_alone t dylinks others))
      (field_zip t.producers (λ lt. fields_back t.producers spells.producers (fields_small t.producers (All-back SectionFits (before_names ++ with_names) with_producers up_to_producers) lt))))
      (field_all t.producers)

pub nested_reads : (c : Config) (n : Abstract) (bytes : List ℕ) (spelled : IsSpelledAs n bytes) → All SectionFits (sections_of spelled.text) → BodiesNest c n → BodiesHold n → ReadsModule c bytes n
nested_reads c n bytes sp fits nest holds =
    let is = sp.spells.says in
    let back : ReadsModule c (written_as sp.text) (said_by sp.text) = all_back_again c sp.text (subst (λ z. IsSpelling z sp.text) is sp.spells) fits (subst (BodiesNest c) is nest) (subst BodiesHold is holds) in
    subst (λ z. ReadsModule c bytes z) (sym is) (subst (λ l. ReadsModule c l (said_by sp.text)) (sym sp.written) back)

pub spelled_reads : SpelledReads
spelled_reads c n bytes sp fits formed holds =
    nested_reads c n bytes sp fits (λ f g b at is. let r = (formed f g b at is).read.operators in (r.nested, r.allowed)) (bodies_hold n holds)
