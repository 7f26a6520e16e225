-- Custom sections that follow the code and are written: which stand where, what stays of them, and what is refused.
use Rattle.std.proofs.Common.{◌≡◌, ℕ, ◌+◌, suc, Bool, true, false, cond, append-nil, List, [], ◌∷◌, ◌++◌, map, length, filter, None, Some, refl, sym, ap, ap₂, ◌∙◌, subst, inl, inr, arith, ⊎_elim}
use Rattle.std.specs.Prelude.{All, Option, IfErr, IfOk, Result, Ok, Err}
use Rattle.std.specs.List.{AllZip}
use Rattle.std.specs.Str.{IsUtf8}
use Rattle.std.proofs.lemmas.List.Elements.{All-append, All-filter, All-head, All-map, All-tail, All-weaker, filter-append, filter_passes}
use Rattle.wasm_frames.specs.Record.{Custom}
use Rattle.wasm_wire.specs.ModuleSpelling.{group_of, is_in}
use Rattle.wasm_wire.specs.declared.written.CustomGroup.TheVariants.{Dylink}
use Rattle.walrus_base.specs.Arena.{entries_from, item_at}
use Rattle.walrus_code.specs.Indices.{index_of}
use Rattle.walrus_code.specs.Names.{Lookup}
use Rattle.walrus_code.specs.Transform.{Transform}
use Rattle.walrus_contents.specs.View.{lent, parts_view}
use Rattle.walrus_contents.specs.declared.parts.Parts.{Parts}
use Rattle.walrus_model.specs.Abstract.{Abstract}
use Rattle.walrus_model.specs.Config.{Config}
use Rattle.walrus_model.specs.Customs.{is_debug_name}
use Rattle.walrus_items.specs.declared.custom.CustomSection.{Ghosts}
use Rattle.walrus_items.specs.Transform.{transform_of}
use Rattle.walrus_items.specs.declared.error.Error.{Error}
use Rattle.walrus_items.specs.declared.transform.CodeTransform.{CodeTransform}
use Rattle.walrus_plan.specs.Prepared.{IsPrepared}
use Rattle.walrus_plan.specs.declared.prepared.Prepared.{Prepared}
use Rattle.walrus_theorem.specs.Refused.{Refusal, Memory, DeadItem, NoIndex, TwoIndices, TooLarge, NotWritable, Caller, Another, RefusesToWrite}
use Rattle.walrus_writing.specs.Customs.{IsAsked, task}
use Rattle.walrus_writing.specs.Records.{Spells}
use Rattle.walrus_writing.specs.Emitted.{IsWrittenWith, refusal_of, told}
use Rattle.walrus_writing.specs.Transform.{RefusesTransform, TellsTransform}
use Rattle.walrus_writing.specs.declared.write.Choices.{Choices}
use Rattle.walrus_writing.proofs.TransformAnswers.{cause_asked}
use Rattle.walrus_module.specs.Asked.{all_asked, asked_first, in_turn, is_dylink_name, is_in_turn, no_index, section_under}
use Rattle.walrus_module.specs.Customs.{sections}
use Rattle.walrus_module.specs.Flags.{choices_of}
use Rattle.walrus_module.specs.Following.{EachComes, Follows, FollowsBy, IsToldOf, LeavesCustoms, MayFollow, SlotComes}
use Rattle.walrus_module.specs.Meaning.{Meaning, meaning}
use Rattle.walrus_module.specs.View.{meant, with_sections}
use Rattle.walrus_module.specs.declared.customs.ModuleCustomSections.{ModuleCustomSections}
use Rattle.walrus_module.specs.declared.entry.SectionEntry.{SectionEntry}
use Rattle.walrus_module.proofs.Asking.{written_so}
use Rattle.walrus_model.proofs.AgainSame.{other_not as neither}

-- ---- filters that all or none pass

module _ {X : Type 0} (p : X → Bool) where
  all_pass : (xs : List X) → All (λ x. p x ≡ true) xs → filter p xs ≡ xs
  all_pass [] h = refl
  all_pass (x ∷ xs) h =
      ap (λ (b : Bool). cond b (x ∷ filter p xs) (filter p xs)) (All-head (λ y. p y ≡ true) x xs h) ∙ ap (λ l. x ∷ l) (all_pass xs (All-tail (λ y. p y ≡ true) x xs h))

  none_pass : (xs : List X) → All (λ x. p x ≡ false) xs → filter p xs ≡ []
  none_pass [] h = refl
  none_pass (x ∷ xs) h =
      ap (λ (b : Bool). cond b (x ∷ filter p xs) (filter p xs)) (All-head (λ y. p y ≡ false) x xs h) ∙ none_pass xs (All-tail (λ y. p y ≡ false) x xs h)

-- ---- those of dynamic linking among all that are asked

pub group_asked : (names : Lookup) (ms : List Meaning) → group_of Dylink (all_asked names ms) ≡ asked_first ms
group_asked names ms =
    filter-append (λ (c : Custom). is_in Dylink c.name) (asked_first ms) (map (section_under names) (in_turn false ms))
    ∙ ap₂ (λ (a b : List Custom). a ++ b)
    (all_pass (λ (c : Custom). is_in Dylink c.name) (asked_first ms)
    (All-map (λ (c : Custom). is_in Dylink c.name ≡ true) (section_under no_index) (in_turn true ms) (filter_passes (λ (s : Meaning). is_in_turn true s.name) ms)))
    (none_pass (λ (c : Custom). is_in Dylink c.name) (map (section_under names) (in_turn false ms))
    (All-map (λ (c : Custom). is_in Dylink c.name ≡ false) (section_under names) (in_turn false ms)
    (All-weaker (λ (s : Meaning). is_in_turn false s.name ≡ true) (λ (s : Meaning). is_dylink_name s.name ≡ false) (λ s h. neither (is_dylink_name s.name) (is_debug_name s.name) h) (in_turn false ms)
    (filter_passes (λ (s : Meaning). is_in_turn false s.name) ms))))
    ∙ append-nil (asked_first ms)

pub texts_asked : (names : Lookup) (ms : List Meaning) → All (λ (s : Meaning). IsUtf8 s.name) ms → All (λ (c : Custom). IsUtf8 c.name) (all_asked names ms)
texts_asked names ms texts =
    All-append (λ (c : Custom). IsUtf8 c.name) (asked_first ms) (map (section_under names) (in_turn false ms))
    (All-map (λ (c : Custom). IsUtf8 c.name) (section_under no_index) (in_turn true ms) (All-filter (λ (s : Meaning). is_in_turn true s.name) (λ (s : Meaning). IsUtf8 s.name) ms texts))
    (All-map (λ (c : Custom). IsUtf8 c.name) (section_under names) (in_turn false ms) (All-filter (λ (s : Meaning). is_in_turn false s.name) (λ (s : Meaning). IsUtf8 s.name) ms texts))

pub asks : (p : Parts) (names : Lookup) (ms : List Meaning) (cs : List Custom) → cs ≡ all_asked names ms → All (λ (c : Custom). IsUtf8 c.name) cs → IsAsked p names cs (with_sections (parts_view p) ms)
asks p names ms cs same texts = record {
  parts = refl;
  asked = ap (map _) same ∙ written_so no_index names ms refl;
  texts = texts;
}

-- ---- refusals

module _ (A B : Type 0) (through : A → B) (c : Config) (v : Abstract) where
  pub refused_then : (X Y : Type 0) (r : Refusal) → RefusesToWrite {X = X} A c v (Err r) → RefusesToWrite {X = Y} B c v (Err r)
  refused_then X Y Memory h = tt
  refused_then X Y DeadItem h = h
  refused_then X Y TwoIndices h = h
  refused_then X Y NoIndex h = h
  refused_then X Y NotWritable h = h
  refused_then X Y TooLarge h = h
  refused_then X Y Caller h = through h
  refused_then X Y Another h = absurd h

pub transform_refused : {X : Type 0} (A : Type 0) (c : Config) (choices : Choices) (p : Parts) (names : Lookup) (ms : List Meaning) (dylinks : List Custom) (result : Result X Error) → IfErr result (RefusesTransform p choices names dylinks)
    → IsWrittenWith c choices → dylinks ≡ asked_first ms → All (λ (s : Meaning). IsUtf8 s.name) ms → IfErr result (λ e. RefusesToWrite {X = Unit {0}} A c (with_sections (parts_view p) ms) (Err (refusal_of e)))
transform_refused A c choices p names ms dylinks (Ok x) h chosen same texts = tt
transform_refused A c choices p names ms dylinks (Err e) h chosen same texts =
    cause_asked (Unit {0}) A c (with_sections (parts_view p) ms) (refusal_of e)
    (h c (with_sections (parts_view p) ms) (all_asked names ms) chosen (asks p names ms (all_asked names ms) refl (texts_asked names ms texts)) (group_asked names ms ∙ sym same))

pub spells_as : {X E : Type 0} (view : X → List ℕ) (p : Parts) (names : Lookup) (ch ds : Choices) (cs es : List Custom) → ch ≡ ds → cs ≡ es → (result : Result X E)
    → IfOk result (λ x. Spells p (task ch names cs) (view x)) → IfOk result (λ x. Spells p (task ds names es) (view x))
spells_as view p names ch ds cs es choices same result h =
    subst (λ (c : Choices). IfOk result (λ x. Spells p (task c names es) (view x))) choices (subst (λ (l : List Custom). IfOk result (λ x. Spells p (task ch names l) (view x))) same h)

pub if_ok_always : {X E : Type 0} (P : Type 0) (result : Result X E) → P → IfOk result (λ _. P)
if_ok_always P (Ok x) h = h
if_ok_always P (Err e) h = tt

-- ---- sections that followed

-- under the plan by which it was told
pub told_so : (p : Parts) (c : Config) (prepared : Prepared) (dylinks : List Custom) (t : CodeTransform) → IsPrepared p prepared
    → TellsTransform p (choices_of c) (index_of prepared.indices) dylinks true t → IsToldOf c (lent p) dylinks (transform_of t)
told_so p c prepared dylinks t planned tells = record { parts = p; holds = refl; prepared = prepared; planned = planned; transform = t; is = refl; tells = tells }

module _ {V : Type 0} {O : V → Type 0} (G : (v : V) → Ghosts (O v)) where
  -- where none was handed the transform
  pub unfollowed : {X E : Type 0} (hands : Bool) (Tells : X → Transform → Type 0) (Told : Transform → Type 0) (customs : ModuleCustomSections (SectionEntry V O)) (e : E) → LeavesCustoms G hands Tells Told customs customs (Err e)
  unfollowed false Tells Told customs e = refl
  unfollowed true Tells Told customs e = inl refl

  pub unfollowed_same : {X E : Type 0} (hands : Bool) (Tells : X → Transform → Type 0) (Told : Transform → Type 0) (old new : ModuleCustomSections (SectionEntry V O)) (e : E) → new ≡ old → LeavesCustoms G hands Tells Told old new (Err e)
  unfollowed_same hands Tells Told old new e same = subst (λ customs. LeavesCustoms G hands Tells Told old customs (Err e)) (sym same) (unfollowed hands Tells Told old e)

  -- of a module with the same custom sections
  pub left_so : {X E : Type 0} (hands handed : Bool) (Tells : X → Transform → Type 0) (Told : Transform → Type 0) (old middle new : ModuleCustomSections (SectionEntry V O)) (r : Result X E) → handed ≡ hands → middle ≡ old
      → LeavesCustoms G handed Tells Told middle new r → LeavesCustoms G hands Tells Told old new r
  left_so hands handed Tells Told old middle new r flag same h = subst (λ (b : Bool). LeavesCustoms G b Tells Told old new r) flag (subst (λ customs. LeavesCustoms G handed Tells Told customs new r) same h)

  -- where less is said of the transform that was handed on
  pub left_of : {X E : Type 0} (hands : Bool) (Tells : X → Transform → Type 0) (Told Other : Transform → Type 0) (old new : ModuleCustomSections (SectionEntry V O)) (r : Result X E) → ((x : Transform) → Told x → Other x)
      → LeavesCustoms G hands Tells Told old new r → LeavesCustoms G hands Tells Other old new r
  left_of false Tells Told Other old new r through h = h
  left_of true Tells Told Other old new (Ok r) through h = h
  left_of true Tells Told Other old new (Err e) through (inl same) = inl same
  left_of true Tells Told Other old new (Err e) through (inr (x, (told, all))) = inr (x, (through x told, all))

  followed_or_not : (x : Transform) (s t : Option (SectionEntry V O)) → SlotComes G (Follows x) s t → SlotComes G (MayFollow x) s t
  followed_or_not x None None h = tt
  followed_or_not x None (Some t) h = absurd h
  followed_or_not x (Some s) None h = absurd h
  followed_or_not x (Some s) (Some t) h = (h.0, inl h.1)

  -- where what comes behind it is refused
  pub left_anyway : {X : Type 0} (E : Type 0) (Tells : X → Transform → Type 0) (Told : Transform → Type 0) (old new : ModuleCustomSections (SectionEntry V O)) (r : X) (e : E)
      → ((x : Transform) → Tells r x → Told x) → LeavesCustoms G {E = E} true Tells Told old new (Ok r) → LeavesCustoms G {E = E} true Tells Told old new (Err e)
  left_anyway E Tells Told old new r e through (x, (is, all)) = inr (x, (through x is, record { places = all.places; comes = λ i. followed_or_not x _ _ (all.comes i) }))

  pub left_err : {X Y E : Type 0} (hands : Bool) (Tells : X → Transform → Type 0) (Other : Y → Transform → Type 0) (Told : Transform → Type 0) (old new : ModuleCustomSections (SectionEntry V O)) (e : E)
      → LeavesCustoms G hands Tells Told old new (Err e) → LeavesCustoms G hands Other Told old new (Err e)
  left_err false Tells Other Told old new e h = h
  left_err true Tells Other Told old new e h = h

  pub left_told : {X Y : Type 0} (E : Type 0) (hands : Bool) (Tells : X → Transform → Type 0) (Other : Y → Transform → Type 0) (Told : Transform → Type 0) (old new : ModuleCustomSections (SectionEntry V O)) (r : X) (s : Y)
      → (hands ≡ true → (x : Transform) → Tells r x → Other s x) → LeavesCustoms G {E = E} hands Tells Told old new (Ok r) → LeavesCustoms G {E = E} hands Other Told old new (Ok s)
  left_told E false Tells Other Told old new r s through h = h
  left_told E true Tells Other Told old new r s through (x, (is, all)) = (x, (through refl x is, all))

  -- meanings side by side
  abbrev pub means : (k : ℕ) → List (Option (SectionEntry V O)) → List Meaning
  means k slots = map (meaning G) (map (λ (e : ℕ × SectionEntry V O). e.1) (entries_from k slots))

  meant_zip : (R : Meaning → Meaning → Type 0) (k : ℕ) (old new : List (Option (SectionEntry V O))) → length new ≡ length old → ((i : ℕ) → SlotComes G R (item_at old i) (item_at new i)) → AllZip R (means k old) (means k new)
  meant_zip R k [] [] many comes = tt
  meant_zip R k [] (t ∷ new) many comes = absurd (omega (arith, many))
  meant_zip R k (s ∷ old) [] many comes = absurd (omega (arith, many))
  meant_zip R k (None ∷ old) (None ∷ new) many comes = meant_zip R (k + 1) old new (omega (arith, many)) (λ i. comes (suc i))
  meant_zip R k (None ∷ old) (Some t ∷ new) many comes = absurd (comes 0)
  meant_zip R k (Some s ∷ old) (None ∷ new) many comes = absurd (comes 0)
  meant_zip R k (Some s ∷ old) (Some t ∷ new) many comes = ((comes 0).1, meant_zip R (k + 1) old new (omega (arith, many)) (λ i. comes (suc i)))

  pub comes_zip : (R : Meaning → Meaning → Type 0) (old new : ModuleCustomSections (SectionEntry V O)) → EachComes G R (sections old) (sections new) → AllZip R (meant G old) (meant G new)
  comes_zip R old new h = meant_zip R 0 (sections old) (sections new) h.places h.comes

first_of_both : (name : List ℕ) → is_in_turn false name ≡ true → is_in_turn true name ≡ false
first_of_both name h = neither (is_dylink_name name) (is_debug_name name) h

again : (s : Meaning) (ss ts : List Meaning) (b : Bool) → asked_first ts ≡ asked_first ss
    → map (section_under no_index) (cond b (s ∷ in_turn true ts) (in_turn true ts)) ≡ map (section_under no_index) (cond b (s ∷ in_turn true ss) (in_turn true ss))
again s ss ts true rest = ap (λ (l : List Custom). section_under no_index s ∷ l) rest
again s ss ts false rest = rest

one_first : (s t : Meaning) (x : Transform) (ss ts : List Meaning) (b : Bool) → is_in_turn false s.name ≡ b → FollowsBy b x s t → asked_first ts ≡ asked_first ss → asked_first (t ∷ ts) ≡ asked_first (s ∷ ss)
one_first s t x ss ts true is (name, state) rest =
    ap (λ (b : Bool). map (section_under no_index) (cond b (t ∷ in_turn true ts) (in_turn true ts))) (ap (is_in_turn true) name ∙ first_of_both s.name is)
    ∙ rest
    ∙ sym (ap (λ (b : Bool). map (section_under no_index) (cond b (s ∷ in_turn true ss) (in_turn true ss))) (first_of_both s.name is))
one_first s t x ss ts false is same rest =
    ap (λ (m : Meaning). asked_first (m ∷ ts)) same ∙ again s ss ts (is_in_turn true s.name) rest

firsts_stay : (x : Transform) (ss ts : List Meaning) → AllZip (Follows x) ss ts → asked_first ts ≡ asked_first ss
firsts_stay x [] [] h = refl
firsts_stay x [] (t ∷ ts) h = absurd h
firsts_stay x (s ∷ ss) [] h = absurd h
firsts_stay x (s ∷ ss) (t ∷ ts) (h, rest) = one_first s t x ss ts (is_in_turn false s.name) refl h (firsts_stay x ss ts rest)

pub one_name : (x : Transform) (s t : Meaning) (b : Bool) → FollowsBy b x s t → t.name ≡ s.name
one_name x s t true (name, state) = name
one_name x s t false same = ap (λ (m : Meaning). m.name) same

names_stay : (R : Meaning → Meaning → Type 0) → ((s t : Meaning) → R s t → t.name ≡ s.name) → (ss ts : List Meaning) → AllZip R ss ts → map (λ (s : Meaning). s.name) ts ≡ map (λ (s : Meaning). s.name) ss
names_stay R same [] [] h = refl
names_stay R same [] (t ∷ ts) h = absurd h
names_stay R same (s ∷ ss) [] h = absurd h
names_stay R same (s ∷ ss) (t ∷ ts) (h, rest) = ap₂ (λ (a : List ℕ) (l : List (List ℕ)). a ∷ l) (same s t h) (names_stay R same ss ts rest)

module _ {V : Type 0} {O : V → Type 0} (G : (v : V) → Ghosts (O v)) where
  -- those of dynamic linking say what they said
  pub dylinks_stay : {X : Type 0} (E : Type 0) (hands : Bool) (Tells : X → Transform → Type 0) (Told : Transform → Type 0) (old new : ModuleCustomSections (SectionEntry V O)) (r : X)
      → LeavesCustoms G {E = E} hands Tells Told old new (Ok r) → asked_first (meant G new) ≡ asked_first (meant G old)
  dylinks_stay E false Tells Told old new r h = ap (λ customs. asked_first (meant G customs)) h
  dylinks_stay E true Tells Told old new r (x, (is, all)) = firsts_stay x (meant G old) (meant G new) (comes_zip G (Follows x) old new all)

  -- whatever is answered, they have the names that they had
  pub same_names : {X E : Type 0} (hands : Bool) (Tells : X → Transform → Type 0) (Told : Transform → Type 0) (old new : ModuleCustomSections (SectionEntry V O)) (r : Result X E) → LeavesCustoms G hands Tells Told old new r
      → map (λ (s : Meaning). s.name) (meant G new) ≡ map (λ (s : Meaning). s.name) (meant G old)
  same_names false Tells Told old new r h = ap (λ customs. map (λ (s : Meaning). s.name) (meant G customs)) h
  same_names true Tells Told old new (Ok r) (x, (is, all)) = names_stay (Follows x) (λ s t h. one_name x s t (is_in_turn false s.name) h) (meant G old) (meant G new) (comes_zip G (Follows x) old new all)
  same_names true Tells Told old new (Err e) (inl same) = ap (λ customs. map (λ (s : Meaning). s.name) (meant G customs)) same
  same_names true Tells Told old new (Err e) (inr (x, (told, all))) =
      names_stay (MayFollow x) (λ s t h. ⊎_elim (λ f. one_name x s t (is_in_turn false s.name) f) (λ same. ap (λ (m : Meaning). m.name) same) h) (meant G old) (meant G new) (comes_zip G (MayFollow x) old new all)
