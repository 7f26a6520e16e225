-- Custom sections that were asked for their data: those of dynamic linking first, and then others, none of which is a name, producers or
-- debug section, where a module of indices can say them.
use Rattle.std.proofs.Common.{◌≡◌, ℕ, Bool, true, false, List, [], ◌∷◌, ◌++◌, map, refl, sym, ap, ap₂, subst, ◌∙◌}
use Rattle.std.specs.Prelude.{All, ◌≢◌, codes, bytes_eq, cond, filter, not, ◌||◌, slice_index_or}
use Rattle.std.specs.List.{AllByRecursion}
use Rattle.std.specs.Str.{IsUtf8}
use Rattle.std.proofs.lemmas.List.Elements.{All-filter, All-nil, All-from_recursion, recursion_from_All}
use Rattle.std.proofs.lemmas.Slice.Eq.{bytes_eq-Decides}
use Rattle.std.proofs.lemmas.List.{get_or_default}
use Rattle.wasm_frames.specs.Record as wire
use Rattle.walrus_contents.specs.declared.parts.Parts.{Parts}
use Rattle.walrus_model.specs.Abstract.{Abstract, Custom, Indices, Name, ProducerField}
use Rattle.walrus_model.specs.Customs as model
use Rattle.walrus_model.specs.Customs.{fixed, is_debug_name, no_indices, written_customs}
use Rattle.walrus_model.specs.Sections.{custom_of, customs_of, is_apart}
use Rattle.walrus_theorem.specs.Refused.{IsSayable}
use Rattle.walrus_theorem.specs.Spelling.{is_dylink, is_other}
use Rattle.walrus_theorem.specs.Text.{NameText, Text}
use Rattle.walrus_writing.specs.Customs.{chosen_producers}
use Rattle.walrus_writing.specs.declared.write.Choices.{Choices}
use Rattle.wasm_operators.proofs.OneStands.{bit_down_at as not_true}
use Rattle.walrus_theorem.proofs.SpelledFits.{all_back as behind_all}

-- ---- lists

-- what maps to two parts has two parts
pub record Split {A B : Type 0} (f : A → B) (xs : List A) (ys zs : List B) : Type 0 where
  pub front : List A
  pub behind : List A
  pub is : xs ≡ front ++ behind
  pub front_is : map f front ≡ ys
  pub behind_is : map f behind ≡ zs

split_more : {A B : Type 0} (f : A → B) (x : A) (xs : List A) (y : B) (ys zs : List B) → f x ≡ y → Split f xs ys zs → Split f (x ∷ xs) (y ∷ ys) zs
split_more f x xs y ys zs head s = record { front = x ∷ s.front; behind = s.behind; is = ap (λ l. x ∷ l) s.is; front_is = ap₂ ◌∷◌ head s.front_is; behind_is = s.behind_is }

pub split_map : {A B : Type 0} (f : A → B) (xs : List A) (ys zs : List B) → map f xs ≡ ys ++ zs → Split f xs ys zs
split_map f xs [] zs e = record { front = []; behind = xs; is = refl; front_is = refl; behind_is = e }
split_map f [] (y ∷ ys) zs e = absurd cc
split_map f (x ∷ xs) (y ∷ ys) zs e =
    let head : f x ≡ y = cc in
    let tail : map f xs ≡ ys ++ zs = cc in
    split_more f x xs y ys zs head (split_map f xs ys zs tail)

passed : {A : Type 0} (test : A → Bool) (b : Bool) (x : A) (xs : List A) → test x ≡ b → AllByRecursion (λ y. test y ≡ true) xs → AllByRecursion (λ y. test y ≡ true) (cond b (x ∷ xs) xs)
passed test true x xs e h = (e, h)
passed test false x xs e h = h

filter_passes : {A : Type 0} (test : A → Bool) (xs : List A) → AllByRecursion (λ y. test y ≡ true) (filter test xs)
filter_passes test [] = tt
filter_passes test (x ∷ xs) = passed test (test x) x (filter test xs) refl (filter_passes test xs)

-- ---- names

-- sections have the names of those that they are
named_as : (indices : Indices) (P : Name → Type 0) (sections : List wire.Custom) (all : List Custom) → map custom_of sections ≡ map (fixed indices) all → AllByRecursion (λ (s : Custom). P s.name) all → AllByRecursion (λ (c : wire.Custom). P c.name) sections
named_as indices P [] all e h = tt
named_as indices P (c ∷ cs) [] e h = absurd cc
named_as indices P (c ∷ cs) (s ∷ ss) e h =
    let head : custom_of c ≡ fixed indices s = cc in
    let tail : map custom_of cs ≡ map (fixed indices) ss = cc in
    (subst P (sym (ap (λ (x : Custom). x.name) head)) h.0, named_as indices P cs ss tail h.1)

abbrev IsOwn : Name → Type 0
IsOwn name = (name ≢ codes "name") × (name ≢ codes "producers")

differs : (b : Bool) (xs ys : List ℕ) → bytes_eq xs ys ≡ b → xs ≢ ys → b ≡ false
differs false xs ys e apart = refl
differs true xs ys e apart = absurd (apart ((bytes_eq-Decides xs ys).0 e))

not_equal : (xs ys : List ℕ) → xs ≢ ys → bytes_eq xs ys ≡ false
not_equal xs ys apart = differs (bytes_eq xs ys) xs ys refl apart

other_named : (c : wire.Custom) → not (is_dylink c || is_debug_name c.name) ≡ true → IsOwn c.name → is_other c ≡ true
other_named c other own =
    ap (λ (b : Bool). not (is_dylink c || (b || (bytes_eq c.name (codes "producers") || is_debug_name c.name)))) (not_equal c.name (codes "name") own.0)
    ∙ ap (λ (b : Bool). not (is_dylink c || (b || is_debug_name c.name))) (not_equal c.name (codes "producers") own.1)
    ∙ other

both_named : (all : List wire.Custom) → AllByRecursion (λ (c : wire.Custom). not (is_dylink c || is_debug_name c.name) ≡ true) all → AllByRecursion (λ (c : wire.Custom). IsOwn c.name) all → AllByRecursion (λ (c : wire.Custom). is_other c ≡ true) all
both_named [] h k = tt
both_named (c ∷ cs) h k = (other_named c h.0 k.0, both_named cs h.1 k.1)

each_own : (v : Abstract) → IsSayable v → All (λ (s : Custom). IsOwn s.name) v.customs
each_own v sayable k d low = let s = slice_index_or v.customs k d in sayable s (k, low, get_or_default v.customs k s d low)

-- ---- the parts of the sections

abbrev is_left : Custom → Bool
is_left s = not (model.is_dylink s || is_debug_name s.name)

module _ (v : Abstract) (indices : Indices) (sections : List wire.Custom) (asked : map custom_of sections ≡ written_customs indices v.customs) (sayable : IsSayable v) where
  abbrev pub parts : Split custom_of sections (map (fixed no_indices) (filter model.is_dylink v.customs)) (map (fixed indices) (filter is_left v.customs))
  parts = split_map custom_of sections (map (fixed no_indices) (filter model.is_dylink v.customs)) (map (fixed indices) (filter is_left v.customs)) asked

  pub front_dylinks : All (λ c. is_dylink c ≡ true) parts.front
  front_dylinks =
      All-from_recursion (λ c. is_dylink c ≡ true) parts.front
      (named_as no_indices (λ name. (bytes_eq name (codes "dylink") || bytes_eq name (codes "dylink.0")) ≡ true) parts.front (filter model.is_dylink v.customs) parts.front_is (filter_passes model.is_dylink v.customs))

  pub behind_others : All (λ c. is_other c ≡ true) parts.behind
  behind_others =
      All-from_recursion (λ c. is_other c ≡ true) parts.behind
      (both_named parts.behind
      (named_as indices (λ name. not ((bytes_eq name (codes "dylink") || bytes_eq name (codes "dylink.0")) || is_debug_name name) ≡ true) parts.behind (filter is_left v.customs) parts.behind_is (filter_passes is_left v.customs))
      (named_as indices IsOwn parts.behind (filter is_left v.customs) parts.behind_is
      (recursion_from_All (λ (s : Custom). IsOwn s.name) (filter is_left v.customs) (All-filter is_left (λ (s : Custom). IsOwn s.name) v.customs (each_own v sayable)))))

-- ---- what the custom sections say

pub record CustomText : Type 0 where
  pub dylinks : List wire.Custom
  pub names : NameText
  pub producers : List ProducerField
  pub others : List wire.Custom

abbrev pub with_customs : Text → CustomText → Text
with_customs t e = record t { dylinks = e.dylinks; names = e.names; producers = e.producers; others = e.others }

-- these sections, a section of these names, and the producers section of these parts, say it
pub record Say (p : Parts) (choices : Choices) (names : NameText) (sections : List wire.Custom) (e : CustomText) : Type 0 where
  pub split : sections ≡ e.dylinks ++ e.others
  pub dylinks : All (λ c. is_dylink c ≡ true) e.dylinks
  pub others : All (λ c. is_other c ≡ true) e.others
  pub texts : All (λ (c : wire.Custom). IsUtf8 c.name) sections
  pub names_are : e.names ≡ names
  pub producers_are : e.producers ≡ chosen_producers p choices

module _ (p : Parts) (choices : Choices) (names : NameText) (v : Abstract) (indices : Indices) (sections : List wire.Custom) (asked : map custom_of sections ≡ written_customs indices v.customs) (texts : All (λ (c : wire.Custom). IsUtf8 c.name) sections) (sayable : IsSayable v) where
  abbrev pub said_of : CustomText
  said_of = record { dylinks = (parts v indices sections asked sayable).front; names = names; producers = chosen_producers p choices; others = (parts v indices sections asked sayable).behind }

  pub says_so : Say p choices names sections said_of
  says_so = record {
    split = (parts v indices sections asked sayable).is;
    dylinks = front_dylinks v indices sections asked sayable;
    others = behind_others v indices sections asked sayable;
    texts = texts;
    names_are = refl;
    producers_are = refl;
  }

-- names and producers alone
abbrev pub only_made : Parts → Choices → NameText → CustomText
only_made p choices names = record { dylinks = []; names = names; producers = chosen_producers p choices; others = [] }

pub only_so : (p : Parts) (choices : Choices) (names : NameText) → Say p choices names [] (only_made p choices names)
only_so p choices names = record { split = refl; dylinks = All-nil _; others = All-nil _; texts = All-nil _; names_are = refl; producers_are = refl }

-- ---- what a module of indices says can be said

kept : (c : wire.Custom) (b : Bool) (cs : List wire.Custom) → not (is_apart c.name) ≡ b → AllByRecursion (λ (s : Custom). is_apart s.name ≡ false) (map custom_of cs) → AllByRecursion (λ (s : Custom). is_apart s.name ≡ false) (map custom_of (cond b (c ∷ cs) cs))
kept c true cs e h = (not_true (is_apart c.name) e, h)
kept c false cs e h = h

none_apart : (cs : List wire.Custom) → AllByRecursion (λ (s : Custom). is_apart s.name ≡ false) (customs_of cs)
none_apart [] = tt
none_apart (c ∷ cs) = kept c (not (is_apart c.name)) (filter (λ (x : wire.Custom). not (is_apart x.name)) cs) refl (none_apart cs)

module _ (indices : Indices) where
  abbrev IsSaid : Custom → Type 0
  IsSaid s = is_left s ≡ true → is_apart s.name ≡ false

  one_said : (s : Custom) (b : Bool) (cs : List Custom) → is_left s ≡ b → AllByRecursion (λ (x : Custom). is_apart x.name ≡ false) (map (fixed indices) (cond b (s ∷ cs) cs)) → IsSaid s × AllByRecursion (λ (x : Custom). is_apart x.name ≡ false) (map (fixed indices) cs)
  one_said s true cs e h = ((λ left. h.0), h.1)
  one_said s false cs e h = ((λ left. absurd cc), h)

  each_said : (cs : List Custom) → AllByRecursion (λ (x : Custom). is_apart x.name ≡ false) (map (fixed indices) (filter is_left cs)) → AllByRecursion IsSaid cs
  each_said [] h = tt
  each_said (s ∷ ss) h = let one = one_said s (is_left s) (filter is_left ss) refl h in (one.0, each_said ss one.1)

  left_named : (s : Custom) (name : Name) → not ((bytes_eq name (codes "dylink") || bytes_eq name (codes "dylink.0")) || is_debug_name name) ≡ true → s.name ≡ name → is_left s ≡ true
  left_named s name is same = ap (λ (x : Name). not ((bytes_eq x (codes "dylink") || bytes_eq x (codes "dylink.0")) || is_debug_name x)) same ∙ is

  clash : (s : Custom) (name : Name) → IsSaid s → not ((bytes_eq name (codes "dylink") || bytes_eq name (codes "dylink.0")) || is_debug_name name) ≡ true → is_apart name ≡ true → s.name ≡ name → ⊥
  clash s name said is apart same =
      let shown : is_apart s.name ≡ false = said (left_named s name is same) in
      let hidden : is_apart s.name ≡ true = ap is_apart same ∙ apart in
      absurd cc

  -- so the sections that are written as one says them are sayable
  pub sayable_by : (v : Abstract) (n : List Custom) (cs : List wire.Custom) → n ≡ written_customs indices v.customs → n ≡ customs_of cs → IsSayable v
  sayable_by v n cs written said s (k, low, at) =
      let all : AllByRecursion (λ (x : Custom). is_apart x.name ≡ false) (written_customs indices v.customs) = subst (λ (l : List Custom). AllByRecursion (λ (x : Custom). is_apart x.name ≡ false) l) (sym said ∙ written) (none_apart cs) in
      let each : All IsSaid v.customs = All-from_recursion IsSaid v.customs (each_said v.customs (behind_all (λ (x : Custom). is_apart x.name ≡ false) (map (fixed no_indices) (filter model.is_dylink v.customs)) (map (fixed indices) (filter is_left v.customs)) all)) in
      let own : IsSaid s = subst IsSaid at (each k s low) in
      (clash s (codes "name") own refl refl, clash s (codes "producers") own refl refl)
