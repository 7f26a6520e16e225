-- A text that stands names each subject once, or not at all.
use Rattle.std.proofs.Common.{◌≡◌, ℕ, ◌+◌, ◌<◌, ◌≤◌, Bool, true, false, List, [], ◌∷◌, ◌++◌, length, map, refl, sym, ap, ap₂, ◌∙◌, arith, append_assoc, length-append}
use Rattle.std.specs.Prelude.{Option, Some, None, flat_map, ◌==◌, ◌&&◌, if◌then◌else◌}
use Rattle.std.specs.List.{AllByRecursion}
use Rattle.std.proofs.lemmas.Bool.{eqb-true, and_parts as and_both}
use Rattle.std.proofs.lemmas.List.Elements.{recursion_from_All}
use Rattle.wasm_payloads.specs.declared.naming.NameSpace.{NameSpace}
use Rattle.wasm_payloads.specs.declared.naming.NameSpace.TheVariants as spaces
use Rattle.wasm_payloads.specs.Names.{Named, ItemName, LocalName}
use Rattle.walrus_base.specs.Operators.{Space, Types, Functions, Tables, Memories, Tags, Globals, Elements, DataSegments, Item}
use Rattle.walrus_model.proofs.LawOrder.{Sorted, sorted_of}
use Rattle.walrus_model.specs.Abstract.{Abstract, Name, Subject, TheModule, AnItem, ALocal}
use Rattle.walrus_theorem.specs.Namings.{space_of, naming_of, subsection, is_same, names_given}
use Rattle.walrus_theorem.specs.Spelling.{MapStands, NamesStand}
use Rattle.walrus_theorem.specs.Text.{NameMap, NameText, module_naming, space_namings, function_namings, further_spaces, namings_of}

pub given_append : (xs ys : List Named) (x : Subject) → names_given (xs ++ ys) x ≡ names_given xs x ++ names_given ys x
given_append [] ys x = refl
given_append (n ∷ ns) ys x =
    let here : List Name = if is_same (naming_of n).0 x then (naming_of n).1 ∷ [] else [] in
    ap (λ l. here ++ l) (given_append ns ys x) ∙ sym (append_assoc here (names_given ns x) (names_given ys x))

-- how many names these namings give to x
abbrev count : List Named → Subject → ℕ
count ns x = length (names_given ns x)

count_append : (xs ys : List Named) (x : Subject) → count (xs ++ ys) x ≡ count xs x + count ys x
count_append xs ys x = ap length (given_append xs ys x) ∙ length-append (names_given xs x) (names_given ys x)

-- ---- a map of names that rises

module _ (make : ℕ → Name → Named) (x : Subject) where
  abbrev Here : ℕ × Name → Bool
  Here e = is_same (naming_of (make e.0 e.1)).0 x

  abbrev made : NameMap → List Named
  made es = map (λ e. make e.0 e.1) es

  count_next : (b : Bool) (e : ℕ × Name) (es : NameMap) → Here e ≡ b → count (made (e ∷ es)) x ≡ length (if b then (naming_of (make e.0 e.1)).1 ∷ [] else []) + count (made es) x
  count_next b e es h =
      ap (λ (t : Bool). length ((if t then (naming_of (make e.0 e.1)).1 ∷ [] else []) ++ names_given (made es) x)) h
      ∙ length-append (if b then (naming_of (make e.0 e.1)).1 ∷ [] else []) (names_given (made es) x)

  none_from : (es : NameMap) → ((e : ℕ × Name) → Here e ≡ false) → count (made es) x ≡ 0
  none_from [] h = refl
  none_from (e ∷ es) h =
      let next : count (made (e ∷ es)) x ≡ 0 + count (made es) x = count_next false e es (h e) in
      let rest : count (made es) x ≡ 0 = none_from es h in
      omega (arith, next, rest)

  module _ (one : (d e : ℕ × Name) → Here d ≡ true → Here e ≡ true → d.0 ≡ e.0) where
    none_behind : (d : ℕ × Name) (es : NameMap) → Here d ≡ true → AllByRecursion (λ (e : ℕ × Name). d.0 < e.0) es → count (made es) x ≡ 0
    none_behind d [] h all = refl
    none_behind d (e ∷ es) h all = by (Here e) refl (none_behind d es h all.1)
      where
        by : (b : Bool) → Here e ≡ b → count (made es) x ≡ 0 → count (made (e ∷ es)) x ≡ 0
        by true k rest = let same : d.0 ≡ e.0 = one d e h k in absurd (omega (arith, same, all.0))
        by false k rest = let next : count (made (e ∷ es)) x ≡ 0 + count (made es) x = count_next false e es k in omega (arith, next, rest)

    once_in : (es : NameMap) → Sorted (λ (d : ℕ × Name) (e : ℕ × Name). d.0 < e.0) es → count (made es) x ≤ 1
    once_in [] s = omega arith
    once_in (e ∷ es) s = by (Here e) refl (once_in es s.1)
      where
        by : (b : Bool) → Here e ≡ b → count (made es) x ≤ 1 → count (made (e ∷ es)) x ≤ 1
        by true k after = let next : count (made (e ∷ es)) x ≡ 1 + count (made es) x = count_next true e es k in let rest : count (made es) x ≡ 0 = none_behind e es k s.0 in omega (arith, next, rest)
        by false k after = let next : count (made (e ∷ es)) x ≡ 0 + count (made es) x = count_next false e es k in omega (arith, next, after)

rising : (es : NameMap) → MapStands es → Sorted (λ (d : ℕ × Name) (e : ℕ × Name). d.0 < e.0) es
rising es h = sorted_of (λ (d : ℕ × Name) (e : ℕ × Name). d.0 < e.0) es h.0

-- ---- items

one_item : (space : NameSpace) (sp : Space) (i : ℕ) (d e : ℕ × Name) → (subsection (space_of space) == subsection sp && d.0 == i) ≡ true → (subsection (space_of space) == subsection sp && e.0 == i) ≡ true → d.0 ≡ e.0
one_item space sp i d e h k = eqb-true d.0 i (and_both (subsection (space_of space) == subsection sp) (d.0 == i) h).1 ∙ sym (eqb-true e.0 i (and_both (subsection (space_of space) == subsection sp) (e.0 == i) k).1)

module _ (t : NameText) (n : Abstract) (stand : NamesStand n t) where
  in_space : (space : NameSpace) (sp : Space) (i : ℕ) → count (space_namings t space) (AnItem (sp, i)) ≤ 1
  in_space space sp i = once_in (λ k name. ItemName space k name) (AnItem (sp, i)) (one_item space sp i) (t.items space) (rising (t.items space) (stand.items space))

  not_in_space : (space : NameSpace) (sp : Space) (i : ℕ) → (subsection (space_of space) == subsection sp) ≡ false → count (space_namings t space) (AnItem (sp, i)) ≡ 0
  not_in_space space sp i h = none_from (λ k name. ItemName space k name) (AnItem (sp, i)) (t.items space) (λ e. ap (λ (b : Bool). b && e.0 == i) h)

  no_module : (space : NameSpace) → count (space_namings t space) TheModule ≡ 0
  no_module space = none_from (λ k name. ItemName space k name) TheModule (t.items space) (λ e. refl)

  no_local : (space : NameSpace) (f y : ℕ) → count (space_namings t space) (ALocal f y) ≡ 0
  no_local space f y = none_from (λ k name. ItemName space k name) (ALocal f y) (t.items space) (λ e. refl)

-- ---- locals

one_local : (f g y : ℕ) (d e : ℕ × Name) → (f == g && d.0 == y) ≡ true → (f == g && e.0 == y) ≡ true → d.0 ≡ e.0
one_local f g y d e h k = eqb-true d.0 y (and_both (f == g) (d.0 == y) h).1 ∙ sym (eqb-true e.0 y (and_both (f == g) (e.0 == y) k).1)

abbrev FunctionStands : ℕ × NameMap → Type 0
FunctionStands f = MapStands f.1

abbrev Later : ℕ × NameMap → ℕ × NameMap → Type 0
Later f g = f.0 < g.0

locals_none : (fs : List (ℕ × NameMap)) (x : Subject) → ((f : ℕ × NameMap) → count (function_namings f) x ≡ 0) → count (flat_map function_namings fs) x ≡ 0
locals_none [] x h = refl
locals_none (f ∷ fs) x h = count_append (function_namings f) (flat_map function_namings fs) x ∙ ap₂ (λ (a b : ℕ). a + b) (h f) (locals_none fs x h)

module _ (g y : ℕ) where
  of_function : (f : ℕ × NameMap) → MapStands f.1 → count (function_namings f) (ALocal g y) ≤ 1
  of_function f h = once_in (λ k name. LocalName f.0 k name) (ALocal g y) (one_local f.0 g y) f.1 (rising f.1 h)

  of_other : (f : ℕ × NameMap) → (f.0 == g) ≡ false → count (function_namings f) (ALocal g y) ≡ 0
  of_other f h = none_from (λ k name. LocalName f.0 k name) (ALocal g y) f.1 (λ e. ap (λ (b : Bool). b && e.0 == y) h)

  behind : (f : ℕ × NameMap) (fs : List (ℕ × NameMap)) → (f.0 == g) ≡ true → AllByRecursion (Later f) fs → count (flat_map function_namings fs) (ALocal g y) ≡ 0
  behind f [] h all = refl
  behind f (e ∷ es) h all = by (e.0 == g) refl (behind f es h all.1)
    where
      by : (b : Bool) → (e.0 == g) ≡ b → count (flat_map function_namings es) (ALocal g y) ≡ 0 → count (flat_map function_namings (e ∷ es)) (ALocal g y) ≡ 0
      by true k rest = let same : f.0 ≡ e.0 = eqb-true f.0 g h ∙ sym (eqb-true e.0 g k) in absurd (omega (arith, same, all.0))
      by false k rest = count_append (function_namings e) (flat_map function_namings es) (ALocal g y) ∙ ap₂ (λ (a b : ℕ). a + b) (of_other e k) rest

  in_functions : (fs : List (ℕ × NameMap)) → Sorted Later fs → AllByRecursion FunctionStands fs → count (flat_map function_namings fs) (ALocal g y) ≤ 1
  in_functions [] s all = omega arith
  in_functions (f ∷ fs) s all = by (f.0 == g) refl (in_functions fs s.1 all.1)
    where
      cut : count (flat_map function_namings (f ∷ fs)) (ALocal g y) ≡ count (function_namings f) (ALocal g y) + count (flat_map function_namings fs) (ALocal g y)
      cut = count_append (function_namings f) (flat_map function_namings fs) (ALocal g y)

      by : (b : Bool) → (f.0 == g) ≡ b → count (flat_map function_namings fs) (ALocal g y) ≤ 1 → count (flat_map function_namings (f ∷ fs)) (ALocal g y) ≤ 1
      by true k after = let here = of_function f all.0 in let rest = behind f fs k s.0 in omega (arith, cut, here, rest)
      by false k after = let here = of_other f k in omega (arith, cut, here, after)

-- ---- all of them

module _ (t : NameText) (n : Abstract) (stand : NamesStand n t) where
  abbrev part : NameSpace → Subject → ℕ
  part space x = count (space_namings t space) x

  abbrev sum_of : Subject → List NameSpace → ℕ
  sum_of x [] = 0
  sum_of x (s ∷ ss) = part s x + sum_of x ss

  flat_count : (x : Subject) (ss : List NameSpace) → count (flat_map (space_namings t) ss) x ≡ sum_of x ss
  flat_count x [] = refl
  flat_count x (s ∷ ss) = count_append (space_namings t s) (flat_map (space_namings t) ss) x ∙ ap (λ k. part s x + k) (flat_count x ss)

  further : (x : Subject) → count (flat_map (space_namings t) further_spaces) x ≡ part spaces.Types x + (part spaces.Tables x + (part spaces.Memories x + (part spaces.Globals x + (part spaces.Elements x + (part spaces.DataSegments x + (part spaces.Tags x + 0))))))
  further x = flat_count x further_spaces

  whole : (x : Subject) → count (namings_of t) x ≡ count (module_naming t.module_name) x + part spaces.Functions x + count (flat_map function_namings t.locals) x + count (flat_map (space_namings t) further_spaces) x
  whole x =
      let a : List Named = module_naming t.module_name in
      let b : List Named = space_namings t spaces.Functions in
      let d : List Named = flat_map function_namings t.locals in
      let e : List Named = flat_map (space_namings t) further_spaces in
      let p : count (a ++ b ++ d ++ e) x ≡ count (a ++ b ++ d) x + count e x = count_append (a ++ b ++ d) e x in
      let q : count (a ++ b ++ d) x ≡ count (a ++ b) x + count d x = count_append (a ++ b) d x in
      let r : count (a ++ b) x ≡ count a x + count b x = count_append a b x in
      p ∙ ap (λ k. k + count e x) (q ∙ ap (λ k. k + count d x) r)

  module_one : (o : Option Name) → count (module_naming o) TheModule ≤ 1
  module_one None = omega arith
  module_one (Some name) = omega arith

  module_no_item : (o : Option Name) (y : Item) → count (module_naming o) (AnItem y) ≡ 0
  module_no_item None y = refl
  module_no_item (Some name) y = refl

  module_no_local : (o : Option Name) (f y : ℕ) → count (module_naming o) (ALocal f y) ≡ 0
  module_no_local None f y = refl
  module_no_local (Some name) f y = refl

  locals_no_module : (f : ℕ × NameMap) → count (function_namings f) TheModule ≡ 0
  locals_no_module f = none_from (λ k name. LocalName f.0 k name) TheModule f.1 (λ e. refl)

  locals_no_item : (y : Item) (f : ℕ × NameMap) → count (function_namings f) (AnItem y) ≡ 0
  locals_no_item y f = none_from (λ k name. LocalName f.0 k name) (AnItem y) f.1 (λ e. refl)

  abbrev out : (space : NameSpace) (sp : Space) (i : ℕ) → (subsection (space_of space) == subsection sp) ≡ false → part space (AnItem (sp, i)) ≡ 0
  out space sp i h = not_in_space t n stand space sp i h

  abbrev within : (space : NameSpace) (sp : Space) (i : ℕ) → part space (AnItem (sp, i)) ≤ 1
  within space sp i = in_space t n stand space sp i

  items : (sp : Space) (i : ℕ) → part spaces.Functions (AnItem (sp, i)) + count (flat_map (space_namings t) further_spaces) (AnItem (sp, i)) ≤ 1
  items Functions i = omega (arith, further (AnItem (Functions, i)), within spaces.Functions Functions i, out spaces.Types Functions i refl, out spaces.Tables Functions i refl, out spaces.Memories Functions i refl, out spaces.Globals Functions i refl, out spaces.Elements Functions i refl, out spaces.DataSegments Functions i refl, out spaces.Tags Functions i refl)
  items Types i = omega (arith, further (AnItem (Types, i)), out spaces.Functions Types i refl, within spaces.Types Types i, out spaces.Tables Types i refl, out spaces.Memories Types i refl, out spaces.Globals Types i refl, out spaces.Elements Types i refl, out spaces.DataSegments Types i refl, out spaces.Tags Types i refl)
  items Tables i = omega (arith, further (AnItem (Tables, i)), out spaces.Functions Tables i refl, out spaces.Types Tables i refl, within spaces.Tables Tables i, out spaces.Memories Tables i refl, out spaces.Globals Tables i refl, out spaces.Elements Tables i refl, out spaces.DataSegments Tables i refl, out spaces.Tags Tables i refl)
  items Memories i = omega (arith, further (AnItem (Memories, i)), out spaces.Functions Memories i refl, out spaces.Types Memories i refl, out spaces.Tables Memories i refl, within spaces.Memories Memories i, out spaces.Globals Memories i refl, out spaces.Elements Memories i refl, out spaces.DataSegments Memories i refl, out spaces.Tags Memories i refl)
  items Globals i = omega (arith, further (AnItem (Globals, i)), out spaces.Functions Globals i refl, out spaces.Types Globals i refl, out spaces.Tables Globals i refl, out spaces.Memories Globals i refl, within spaces.Globals Globals i, out spaces.Elements Globals i refl, out spaces.DataSegments Globals i refl, out spaces.Tags Globals i refl)
  items Elements i = omega (arith, further (AnItem (Elements, i)), out spaces.Functions Elements i refl, out spaces.Types Elements i refl, out spaces.Tables Elements i refl, out spaces.Memories Elements i refl, out spaces.Globals Elements i refl, within spaces.Elements Elements i, out spaces.DataSegments Elements i refl, out spaces.Tags Elements i refl)
  items DataSegments i = omega (arith, further (AnItem (DataSegments, i)), out spaces.Functions DataSegments i refl, out spaces.Types DataSegments i refl, out spaces.Tables DataSegments i refl, out spaces.Memories DataSegments i refl, out spaces.Globals DataSegments i refl, out spaces.Elements DataSegments i refl, within spaces.DataSegments DataSegments i, out spaces.Tags DataSegments i refl)
  items Tags i = omega (arith, further (AnItem (Tags, i)), out spaces.Functions Tags i refl, out spaces.Types Tags i refl, out spaces.Tables Tags i refl, out spaces.Memories Tags i refl, out spaces.Globals Tags i refl, out spaces.Elements Tags i refl, out spaces.DataSegments Tags i refl, within spaces.Tags Tags i)

  further_no : (x : Subject) → ((space : NameSpace) → part space x ≡ 0) → count (flat_map (space_namings t) further_spaces) x ≡ 0
  further_no x h = omega (arith, further x, h spaces.Types, h spaces.Tables, h spaces.Memories, h spaces.Globals, h spaces.Elements, h spaces.DataSegments, h spaces.Tags)

  pub named_once : (x : Subject) → length (names_given (namings_of t) x) ≤ 1
  named_once TheModule =
      let f = no_module t n stand spaces.Functions in
      let l = locals_none t.locals TheModule locals_no_module in
      let r = further_no TheModule (no_module t n stand) in
      let m = module_one t.module_name in
      omega (arith, whole TheModule, m, f, l, r)
  named_once (AnItem (sp, i)) =
      let m = module_no_item t.module_name (sp, i) in
      let l = locals_none t.locals (AnItem (sp, i)) (locals_no_item (sp, i)) in
      let r = items sp i in
      omega (arith, whole (AnItem (sp, i)), m, l, r)
  named_once (ALocal g y) =
      let m = module_no_local t.module_name g y in
      let f = no_local t n stand spaces.Functions g y in
      let r = further_no (ALocal g y) (λ space. no_local t n stand space g y) in
      let all = recursion_from_All (λ (h : ℕ × NameMap). (h.1 ≡ [] → ⊥) × MapStands h.1) t.locals stand.locals in
      let l = in_functions g y t.locals (sorted_of Later t.locals stand.functions) (weaker t.locals all) in
      omega (arith, whole (ALocal g y), m, f, r, l)
    where
      weaker : (fs : List (ℕ × NameMap)) → AllByRecursion (λ (h : ℕ × NameMap). (h.1 ≡ [] → ⊥) × MapStands h.1) fs → AllByRecursion FunctionStands fs
      weaker [] all = tt
      weaker (h ∷ hs) all = (all.0.1, weaker hs all.1)
