-- The custom sections of its own that a text says.
use Rattle.std.proofs.Common.{◌≡◌, ℕ, Bool, true, List, [], ◌∷◌, ◌++◌, map, refl, ap, ap₂, ◌∙◌}
use Rattle.std.specs.Prelude.{All, filter, not}
use Rattle.std.proofs.lemmas.List.{append-nil}
use Rattle.std.proofs.lemmas.List.Elements.{All-weaker, filter-append}
use Rattle.wasm_frames.specs.Record as wire
use Rattle.walrus_model.specs.Abstract.{ProducerField}
use Rattle.walrus_model.specs.Sections.{custom_of, customs_of, is_apart}
use Rattle.walrus_theorem.specs.Spelling.{is_dylink, is_other}
use Rattle.walrus_theorem.specs.Text.{Text, names_bytes}
use Rattle.walrus_groups.proofs.OneList.{filter_all}
use Rattle.walrus_theorem.proofs.OneSections.{customs_in}
use Rattle.walrus_writing.proofs.NamesSpelled.{named_by_bytes, names_more}
use Rattle.walrus_writing.proofs.ProducersSpelled.{producers_more}
use Rattle.walrus_writing.proofs.Sections.{apart_parts, by_dylink}

abbrev kept : wire.Custom → Bool
kept c = not (is_apart c.name)

no_names_kept : (bytes : List ℕ) → filter kept (named_by_bytes bytes) ≡ []
no_names_kept [] = refl
no_names_kept (b ∷ bs) = refl

none_kept : (fields : List ProducerField) → filter kept (producers_more fields) ≡ []
none_kept [] = refl
none_kept (f ∷ fs) = refl

pub own_said : (t : Text) → All (λ c. is_dylink c ≡ true) t.dylinks → All (λ c. is_other c ≡ true) t.others → customs_of (customs_in t) ≡ map custom_of (t.dylinks ++ t.others)
own_said t dylinks others =
    let first : filter kept t.dylinks ≡ t.dylinks = filter_all kept t.dylinks (All-weaker (λ (c : wire.Custom). is_dylink c ≡ true) (λ (c : wire.Custom). kept c ≡ true) (by_dylink (λ name. not (is_apart name)) true refl refl) t.dylinks dylinks) in
    let last : filter kept t.others ≡ t.others = filter_all kept t.others (All-weaker (λ (c : wire.Custom). is_other c ≡ true) (λ (c : wire.Custom). kept c ≡ true) (λ c h. ap not (apart_parts c h).1) t.others others) in
    ap (map custom_of)
    (filter-append kept ((t.dylinks ++ names_more t.names) ++ producers_more t.producers) t.others
    ∙ ap₂ ◌++◌
    (filter-append kept (t.dylinks ++ names_more t.names) (producers_more t.producers)
    ∙ ap₂ ◌++◌ (filter-append kept t.dylinks (names_more t.names) ∙ ap₂ ◌++◌ first (no_names_kept (names_bytes t.names)) ∙ append-nil t.dylinks) (none_kept t.producers))
    last
    ∙ ap (λ (l : List wire.Custom). l ++ t.others) (append-nil t.dylinks))
