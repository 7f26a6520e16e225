-- The names of choices as texts, one by one.
use Rattle.std.proofs.Common.{◌≡◌, ◌≤◌, ◌<◌, ◌+◌, ◌++◌, ℕ, List, [], ◌∷◌, All, get_or, length, map, take, refl, sym, ap, ◌∙◌, subst, take_all, arith}
use Rattle.std.specs.Prelude.{Contains, IsUtf8}
use Rattle.std.proofs.lemmas.List.{get_or-map, length-map, map-append, map_more}
use Rattle.std.proofs.lemmas.List.Elements.{All-contains, Contains-get_or}
use Rattle.walrus_sections.specs.Choice.{choices_seen}
use Rattle.walrus_tools.specs.FunctionMeaning.{texts}
use Rattle.walrus_sections.specs.declared.choice.Choice.{Choice as HeldChoice}
use Rattle.walrus_tools.specs.declared.function_meaning.Meant.{Meant}
use Rattle.mulkavesh_c.specs.Names.{names_of}

abbrev pub name_at : HeldChoice → List ℕ
name_at choice = choice.name.now

same_names : (choices : List HeldChoice) → names_of (choices_seen choices) ≡ map name_at choices
same_names [] = refl
same_names (choice ∷ choices) = ap (λ (names : List (List ℕ)). choice.name.now ∷ names) (same_names choices)

pub text_more : (choices : List HeldChoice) (i : ℕ) (d : HeldChoice) → i < length choices → (done new : List Meant) (m : Meant) → new ≡ done ++ m ∷ [] → m.name.now ≡ name_at (get_or choices i d)
    → texts done ≡ map name_at (take i choices) → texts new ≡ map name_at (take (i + 1) choices)
text_more choices i d lt done new m is same so =
    ap texts is
    ∙ map-append (λ (m : Meant). m.name.now) done (m ∷ [])
    ∙ ap (λ (names : List (List ℕ)). names ++ m.name.now ∷ []) so
    ∙ ap (λ (name : List ℕ). map name_at (take i choices) ++ name ∷ []) same
    ∙ sym (map_more name_at choices i d lt)

pub texts_end : (choices : List HeldChoice) (i : ℕ) (done : List Meant) → length choices ≤ i → texts done ≡ map name_at (take i choices) → texts done ≡ names_of (choices_seen choices)
texts_end choices i done past so = so ∙ ap (λ (cs : List HeldChoice). map name_at cs) (take_all i choices past) ∙ sym (same_names choices)

pub not_texts : (choices : List HeldChoice) (i : ℕ) (d : HeldChoice) → i < length choices → (IsUtf8 (name_at (get_or choices i d)) → ⊥) → All IsUtf8 (names_of (choices_seen choices)) → ⊥
not_texts choices i d lt no_text all =
    let at : get_or (map name_at choices) i (name_at d) ≡ name_at (get_or choices i d) = get_or-map name_at choices i d (name_at d) lt in
    let long : length (map name_at choices) ≡ length choices = length-map choices name_at in
    let there : Contains (map name_at choices) (name_at (get_or choices i d)) = subst (Contains (map name_at choices)) at (Contains-get_or (map name_at choices) i (name_at d) (omega (arith, long, lt))) in
    no_text (All-contains IsUtf8 (map name_at choices) (name_at (get_or choices i d)) (subst (λ (names : List (List ℕ)). All IsUtf8 names) (same_names choices) all) there)
