-- What is spelled of names and producers reads back.
use Rattle.std.proofs.Common.{◌≡◌, ℕ, zero, suc, ◌+◌, ◌≤◌, ◌<◌, ◌^◌, Bool, true, List, [], ◌∷◌, ◌++◌, length, map, refl, sym, ap, ap₂, subst, ◌∙◌, arith, length-append, append_assoc, inl, inr}
use Rattle.std.specs.Prelude.{Option, Some, None, All, flat_map}
use Rattle.std.specs.List.{AllByRecursion}
use Rattle.std.specs.Str.{IsUtf8}
use Rattle.std.proofs.lemmas.List.{append-nil, length-map}
use Rattle.std.proofs.lemmas.List.Elements.{recursion_from_All}
use Rattle.wasm_forms.specs.Grammar.{Form, Is, U32, Where, name, ◌then◌}
use Rattle.wasm_forms.specs.Spelling.{number_bytes, block_bytes, row_bytes, vector_bytes}
use Rattle.wasm_forms.specs.Writing.{EachFits, FitsVector}
use Rattle.wasm_forms.proofs.Bind.{some_same, some_not_none}
use Rattle.wasm_forms.proofs.Spelled.{number_stands, block_stands, name_stands, vector_stands}
use Rattle.wasm_payloads.specs.declared.naming.NameSpace.{NameSpace}
use Rattle.wasm_payloads.specs.declared.naming.NameSpace.TheVariants as spaces
use Rattle.wasm_payloads.specs.Fault.{Telling, Tells, Behind, Times, Counted}
use Rattle.wasm_payloads.specs.Names as payload
use Rattle.wasm_payloads.specs.Names.{Named, ModuleName, ItemName, LocalName, Content, Subsection, Names, part_of}
use Rattle.wasm_payloads.specs.Producers.{Fields, field, value}
use Rattle.wasm_payloads.specs.Spelling as spelled
use Rattle.walrus_model.specs.Abstract.{Name, ProducerValue, ProducerField}
use Rattle.walrus_theorem.specs.Spelling.{NameStands, ValueIsText, FieldIsText}
use Rattle.walrus_theorem.specs.Text.{NameMap, NameText, entry_bytes, map_bytes, function_bytes, part_bytes, module_name_bytes, space_bytes, further_spaces, names_bytes, module_naming, space_namings, function_namings, namings_of, raw_value, raw_field, field_bytes}
use Rattle.walrus_theorem.proofs.SpelledFits.{number_long, block_long, vector_fits, small, behind_less}

-- ---- lengths of parts

left_less : (xs ys : List ℕ) (top : ℕ) → length (xs ++ ys) < top → length xs < top
left_less xs ys top lt = omega (arith, length-append xs ys, lt)

inner_less : (xs : List ℕ) (top : ℕ) → length (block_bytes xs) < top → length xs < top
inner_less xs top lt = omega (arith, block_long xs, lt)

both_long : (xs ys : List ℕ) → 1 ≤ length xs → 1 ≤ length (xs ++ ys)
both_long xs ys one = omega (arith, one, length-append xs ys)

blocks_long : (xs : List ℕ) → 1 ≤ length (block_bytes xs)
blocks_long xs = omega (arith, block_long xs)

-- ---- a count, and entries that each tell one thing

module _ {A B X : Type 0} (f : Form A) (make : A → B) (spell : X → List ℕ) (val : X → A) where
  abbrev Each : Telling B
  Each = Behind f (λ a. Tells (make a ∷ []))

  times_row : (rest : List ℕ) (xs : List X) → EachFits (λ x. Is f (spell x) (val x)) xs → Times Each (length xs) (row_bytes spell xs ++ rest) (map (λ x. make (val x)) xs) (Some rest)
  times_row rest [] h = (refl, refl)
  times_row rest (x ∷ xs) h =
      inl (
        make (val x) ∷ [],
        (
          map (λ y. make (val y)) xs,
          (
            row_bytes spell xs ++ rest,
            (
              refl,
              inl (val x, (spell x, (row_bytes spell xs ++ rest, (append_assoc (spell x) (row_bytes spell xs) rest, h.0, (refl, refl))))),
              times_row rest xs h.1,
            ),
          ),
        ),
      )

  counted_row : (rest : List ℕ) (xs : List X) → FitsVector (λ x. Is f (spell x) (val x)) xs → Counted Each (vector_bytes spell xs ++ rest) (map (λ x. make (val x)) xs) (Some rest)
  counted_row rest xs h = inl (length xs, (number_bytes (length xs), (row_bytes spell xs ++ rest, (append_assoc (number_bytes (length xs)) (row_bytes spell xs) rest, number_stands (length xs) h.0, times_row rest xs h.1))))

-- ---- producers

abbrev value_bytes : ProducerValue → List ℕ
value_bytes v = spelled.value_bytes (raw_value v)

abbrev said_bytes : ProducerField → List ℕ
said_bytes f = block_bytes f.name ++ vector_bytes value_bytes f.values

-- values are spelled one by one
values_said : (vs : List ProducerValue) → row_bytes value_bytes vs ≡ row_bytes spelled.value_bytes (map raw_value vs)
values_said [] = refl
values_said (v ∷ vs) = ap (λ r. value_bytes v ++ r) (values_said vs)

field_said : (f : ProducerField) → said_bytes f ≡ field_bytes f
field_said f = ap (λ vs. block_bytes f.name ++ vs) (ap₂ (λ n vs. number_bytes n ++ vs) (sym (length-map f.values raw_value)) (values_said f.values))

value_long : (v : ProducerValue) → 1 ≤ length (value_bytes v)
value_long v = both_long (block_bytes v.name) (block_bytes v.version) (blocks_long v.name)

value_is : (v : ProducerValue) → ValueIsText v → length (value_bytes v) < 2 ^ 32 → Is value (value_bytes v) (raw_value v)
value_is v h lt = (
  block_bytes v.name,
  (
    block_bytes v.version,
    (
      refl,
      name_stands v.name h.0 (inner_less v.name (2 ^ 32) (left_less (block_bytes v.name) (block_bytes v.version) (2 ^ 32) lt)),
      name_stands v.version h.1 (inner_less v.version (2 ^ 32) (behind_less (block_bytes v.name) (block_bytes v.version) (2 ^ 32) lt)),
    ),
  ),
)

field_long : (f : ProducerField) → 1 ≤ length (field_bytes f)
field_long f = both_long (block_bytes f.name) (vector_bytes spelled.value_bytes (map raw_value f.values)) (blocks_long f.name)

said_is : (f : ProducerField) → FieldIsText f → length (said_bytes f) < 2 ^ 32 → Is field (said_bytes f) (raw_field f)
said_is f h lt = (
  block_bytes f.name,
  (
    vector_bytes value_bytes f.values,
    (
      refl,
      name_stands f.name h.0 (inner_less f.name (2 ^ 32) (left_less (block_bytes f.name) (vector_bytes value_bytes f.values) (2 ^ 32) lt)),
      vector_stands value value_bytes raw_value (λ v. Is value (value_bytes v) (raw_value v)) (λ v is. is) f.values
          (vector_fits value_bytes value_long ValueIsText (λ v. Is value (value_bytes v) (raw_value v)) (2 ^ 32) value_is f.values small (recursion_from_All ValueIsText f.values h.1) (behind_less (block_bytes f.name) (vector_bytes value_bytes f.values) (2 ^ 32) lt)),
    ),
  ),
)

field_is : (f : ProducerField) → FieldIsText f → length (field_bytes f) < 2 ^ 32 → Is field (field_bytes f) (raw_field f)
field_is f h lt = subst (λ bytes. Is field bytes (raw_field f)) (field_said f) (said_is f h (subst (λ bytes. length bytes < 2 ^ 32) (sym (field_said f)) lt))

pub fields_back : (fs : List ProducerField) → All FieldIsText fs → length (vector_bytes field_bytes fs) < 2 ^ 32 → Fields (vector_bytes field_bytes fs) (map raw_field fs)
fields_back fs h lt = (
  Some [],
  subst (λ bytes. Counted (Behind field (λ x. Tells (x ∷ []))) bytes (map raw_field fs) (Some [])) (append-nil (vector_bytes field_bytes fs))
      (counted_row field (λ x. x) field_bytes raw_field [] fs
      (vector_fits field_bytes field_long FieldIsText (λ f. Is field (field_bytes f) (raw_field f)) (2 ^ 32) field_is fs small (recursion_from_All FieldIsText fs h) lt)),
)

-- ---- maps of names

entry_long : (e : ℕ × Name) → 1 ≤ length (entry_bytes e)
entry_long e = both_long (number_bytes e.0) (block_bytes e.1) (number_long e.0)

-- an index that 32 bits hold, and a name
abbrev pub EntryStands : ℕ × Name → Type 0
EntryStands e = (e.0 < 2 ^ 32) × IsUtf8 e.1

entry_is : (e : ℕ × Name) → EntryStands e → length (entry_bytes e) < 2 ^ 32 → Is (U32 then name) (entry_bytes e) e
entry_is e h lt =
    (number_bytes e.0, (block_bytes e.1, (refl, number_stands e.0 h.0, name_stands e.1 h.1 (inner_less e.1 (2 ^ 32) (behind_less (number_bytes e.0) (block_bytes e.1) (2 ^ 32) lt)))))

map_back : (make : ℕ → List ℕ → Named) (rest : List ℕ) (es : NameMap) → AllByRecursion EntryStands es → length (map_bytes es) < 2 ^ 32 → payload.NameMap make (map_bytes es ++ rest) (map (λ e. make e.0 e.1) es) (Some rest)
map_back make rest es h lt =
    counted_row (U32 then name) (λ x. make x.0 x.1) entry_bytes (λ e. e) rest es
    (vector_fits entry_bytes entry_long EntryStands (λ e. Is (U32 then name) (entry_bytes e) e) (2 ^ 32) entry_is es small h lt)

-- ---- subsections

module _ (known : ℕ → Bool) where
  abbrev T : Telling Named
  T = Subsection known

  -- in front of any rest, this piece tells this
  abbrev Piece : List ℕ → List Named → Type 0
  Piece piece told = (rest : List ℕ) → (n : ℕ) × Times T n (piece ++ rest) told (Some rest)

  no_piece : Piece [] []
  no_piece rest = (0, (refl, refl))

  one_piece : (id : ℕ) (content : List ℕ) (told : List Named) → length content < 2 ^ 32 → Content known (part_of id) content told (Some []) → Piece (id ∷ block_bytes content) told
  one_piece id content told lt tells rest = (
    1,
    inl (
      told,
      (
        [],
        (
          rest,
          (
            sym (append-nil told),
            inl ((id, content), (id ∷ block_bytes content, (rest, (refl, (id ∷ [], (block_bytes content, (refl, refl, block_stands content lt))), (Some [], (tells, refl)))))),
            (refl, refl),
          ),
        ),
      ),
    ),
  )

  times_join : (j k m : ℕ) → m ≡ j + k → (bytes rest : List ℕ) (told more : List Named) → Times T j bytes told (Some rest) → Times T k rest more (Some []) → Times T m bytes (told ++ more) (Some [])
  times_join zero k m e bytes rest told more a b =
      let same : m ≡ k = omega (arith, e) in
      let here : rest ≡ bytes = some_same rest bytes a.1 in
      subst (λ n. Times T n bytes (told ++ more) (Some [])) (sym same) (subst (λ l. Times T k l (told ++ more) (Some [])) here (subst (λ l. Times T k rest (l ++ more) (Some [])) (sym a.0) b))
  times_join (suc j) k zero e bytes rest told more a b = absurd (omega (arith, e))
  times_join (suc j) k (suc m) e bytes rest told more (inl (first, (later, (left, (is, here, onward))))) b =
      inl (first, (later ++ more, (left, (ap (λ l. l ++ more) is ∙ append_assoc first later more, here, times_join j k m (omega (arith, e)) left rest later more onward b))))
  times_join (suc j) k (suc m) e bytes rest told more (inr (tells, none)) b = absurd (some_not_none rest none)

  -- the pieces that follow, up to the end
  abbrev Ends : List ℕ → List Named → Type 0
  Ends bytes told = (n : ℕ) × Times T n bytes told (Some [])

  in_front : (piece bytes : List ℕ) (told more : List Named) → Piece piece told → Ends bytes more → Ends (piece ++ bytes) (told ++ more)
  in_front piece bytes told more p e = let a = p bytes in (a.0 + e.0, times_join a.0 e.0 (a.0 + e.0) refl (piece ++ bytes) bytes told more a.1 e.1)

  module_piece : (o : Option Name) → NameStands o → length (module_name_bytes o) < 2 ^ 32 → Piece (module_name_bytes o) (module_naming o)
  module_piece None h lt = no_piece
  module_piece (Some n) h lt =
      let inside : length (block_bytes n) < 2 ^ 32 = inner_less (block_bytes n) (2 ^ 32) (omega (arith, lt)) in
      one_piece 0 (block_bytes n) (ModuleName n ∷ []) inside
      (inl (n, (block_bytes n, ([], (sym (append-nil (block_bytes n)), name_stands n h (inner_less n (2 ^ 32) inside), (refl, refl))))))

  content_is : (space : NameSpace) (bytes : List ℕ) (told : List Named) (end : Option (List ℕ)) → payload.NameMap (ItemName space) bytes told end → Content known (part_of (spelled.subsection_of space)) bytes told end
  content_is spaces.Functions bytes told end h = h
  content_is spaces.Types bytes told end h = h
  content_is spaces.Tables bytes told end h = h
  content_is spaces.Memories bytes told end h = h
  content_is spaces.Globals bytes told end h = h
  content_is spaces.Elements bytes told end h = h
  content_is spaces.DataSegments bytes told end h = h
  content_is spaces.Tags bytes told end h = h

  items_piece : (space : NameSpace) (es : NameMap) → AllByRecursion EntryStands es → length (part_bytes (spelled.subsection_of space) entry_bytes es) < 2 ^ 32 → Piece (part_bytes (spelled.subsection_of space) entry_bytes es) (map (λ e. ItemName space e.0 e.1) es)
  items_piece space [] h lt = no_piece
  items_piece space (e ∷ es) h lt =
      let inside : length (map_bytes (e ∷ es)) < 2 ^ 32 = inner_less (map_bytes (e ∷ es)) (2 ^ 32) (omega (arith, lt)) in
      let tells = map_back (ItemName space) [] (e ∷ es) h inside in
      one_piece (spelled.subsection_of space) (map_bytes (e ∷ es)) (map (λ x. ItemName space x.0 x.1) (e ∷ es)) inside
      (content_is space (map_bytes (e ∷ es)) (map (λ x. ItemName space x.0 x.1) (e ∷ es)) (Some [])
      (subst (λ l. payload.NameMap (ItemName space) l (map (λ x. ItemName space x.0 x.1) (e ∷ es)) (Some [])) (append-nil (map_bytes (e ∷ es))) tells))

  -- a function that is known, and the names of its locals
  abbrev pub FunctionStands : ℕ × NameMap → Type 0
  FunctionStands f = (f.0 < 2 ^ 32) × ((known f.0 ≡ true) × AllByRecursion EntryStands f.1)

  abbrev F : Telling Named
  F = Behind (Where known U32) (λ f. payload.NameMap (LocalName f))

  times_functions : (rest : List ℕ) (fs : List (ℕ × NameMap)) → AllByRecursion FunctionStands fs → length (row_bytes function_bytes fs) < 2 ^ 32 → Times F (length fs) (row_bytes function_bytes fs ++ rest) (flat_map function_namings fs) (Some rest)
  times_functions rest [] h lt = (refl, refl)
  times_functions rest (f ∷ fs) h lt =
      let more : List ℕ = row_bytes function_bytes fs ++ rest in
      let head : length (function_bytes f) < 2 ^ 32 = left_less (function_bytes f) (row_bytes function_bytes fs) (2 ^ 32) lt in
      let parts = append_assoc (function_bytes f) (row_bytes function_bytes fs) rest ∙ append_assoc (number_bytes f.0) (map_bytes f.1) more in
      inl (
        function_namings f,
        (
          flat_map function_namings fs,
          (
            more,
            (
              refl,
              inl (f.0, (number_bytes f.0, (map_bytes f.1 ++ more, (parts, (number_stands f.0 h.0.0, h.0.1.0), map_back (LocalName f.0) more f.1 h.0.1.1 (behind_less (number_bytes f.0) (map_bytes f.1) (2 ^ 32) head))))),
              times_functions rest fs h.1 (behind_less (function_bytes f) (row_bytes function_bytes fs) (2 ^ 32) lt),
            ),
          ),
        ),
      )

  function_long : (f : ℕ × NameMap) → 1 ≤ length (function_bytes f)
  function_long f = both_long (number_bytes f.0) (map_bytes f.1) (number_long f.0)

  anything : (fs : List (ℕ × NameMap)) → AllByRecursion (λ f. Unit {0}) fs
  anything [] = tt
  anything (f ∷ fs) = (tt, anything fs)

  functions_piece : (fs : List (ℕ × NameMap)) → AllByRecursion FunctionStands fs → length (part_bytes 2 function_bytes fs) < 2 ^ 32 → Piece (part_bytes 2 function_bytes fs) (flat_map function_namings fs)
  functions_piece [] h lt = no_piece
  functions_piece (f ∷ fs) h lt =
      let all : List (ℕ × NameMap) = f ∷ fs in
      let inside : length (vector_bytes function_bytes all) < 2 ^ 32 = inner_less (vector_bytes function_bytes all) (2 ^ 32) (omega (arith, lt)) in
      let few = vector_fits function_bytes function_long (λ x. Unit {0}) (λ x. Unit {0}) (2 ^ 32) (λ x u l. tt) all small (anything all) inside in
      let row = behind_less (number_bytes (length all)) (row_bytes function_bytes all) (2 ^ 32) inside in
      one_piece 2 (vector_bytes function_bytes all) (flat_map function_namings all) inside
      (inl (
        length all,
        (
          number_bytes (length all),
          (
            row_bytes function_bytes all,
            (
              refl,
              number_stands (length all) few.0,
              subst (λ l. Times F (length all) l (flat_map function_namings all) (Some [])) (append-nil (row_bytes function_bytes all)) (times_functions [] all h row),
            ),
          ),
        ),
      ))

  -- ---- all of them

  module _ (t : NameText) (named : NameStands t.module_name) (items : (space : NameSpace) → AllByRecursion EntryStands (t.items space)) (locals : AllByRecursion FunctionStands t.locals) (fits : length (names_bytes t) < 2 ^ 32) where
    spaces_end : (ss : List NameSpace) → length (row_bytes (space_bytes t) ss) < 2 ^ 32 → Ends (row_bytes (space_bytes t) ss) (flat_map (space_namings t) ss)
    spaces_end [] lt = (0, (refl, refl))
    spaces_end (s ∷ ss) lt =
        in_front (space_bytes t s) (row_bytes (space_bytes t) ss) (space_namings t s) (flat_map (space_namings t) ss)
        (items_piece s (t.items s) (items s) (left_less (space_bytes t s) (row_bytes (space_bytes t) ss) (2 ^ 32) lt))
        (spaces_end ss (behind_less (space_bytes t s) (row_bytes (space_bytes t) ss) (2 ^ 32) lt))

    pub names_back : Names known (names_bytes t) (namings_of t)
    names_back =
        let a : List ℕ = module_name_bytes t.module_name in
        let b : List ℕ = space_bytes t spaces.Functions in
        let c : List ℕ = part_bytes 2 function_bytes t.locals in
        let d : List ℕ = row_bytes (space_bytes t) further_spaces in
        let abc = left_less (a ++ b ++ c) d (2 ^ 32) fits in
        let ab = left_less (a ++ b) c (2 ^ 32) abc in
        let na : List Named = module_naming t.module_name in
        let nb : List Named = space_namings t spaces.Functions in
        let nc : List Named = flat_map function_namings t.locals in
        let nd : List Named = flat_map (space_namings t) further_spaces in
        let last = spaces_end further_spaces (behind_less (a ++ b ++ c) d (2 ^ 32) fits) in
        let third = in_front c d nc nd (functions_piece t.locals locals (behind_less (a ++ b) c (2 ^ 32) abc)) last in
        let second = in_front b (c ++ d) nb (nc ++ nd) (items_piece spaces.Functions (t.items spaces.Functions) (items spaces.Functions) (behind_less a b (2 ^ 32) ab)) third in
        let first = in_front a (b ++ (c ++ d)) na (nb ++ (nc ++ nd)) (module_piece t.module_name named (left_less a b (2 ^ 32) ab)) second in
        let bytes : names_bytes t ≡ a ++ (b ++ (c ++ d)) = append_assoc (a ++ b) c d ∙ append_assoc a b (c ++ d) in
        let namings : namings_of t ≡ na ++ (nb ++ (nc ++ nd)) = append_assoc (na ++ nb) nc nd ∙ append_assoc na nb (nc ++ nd) in
        subst (λ l. Names known l (namings_of t)) (sym bytes) (subst (λ l. Names known (a ++ (b ++ (c ++ d))) l) (sym namings) (first.0, inl first.1))
