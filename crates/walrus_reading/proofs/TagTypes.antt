-- The types of tags by their places, and that they are among the types that were read.
use Rattle.std.proofs.Common.{◌≡◌, ℕ, ◌+◌, ◌<◌, Bool, true, false, List, [], ◌∷◌, length, map, refl, sym, ap, ap₂, subst, ◌∙◌, arith}
use Rattle.std.specs.Prelude.{Option, Some, None, option_map, option_to_list, nat_lt, slice_get, if◌then◌else◌}
use Rattle.std.specs.List.{AllByRecursion}
use Rattle.std.proofs.lemmas.List.{length-map}
use Rattle.std.proofs.lemmas.List.Elements.{recursion_from_All}
use Rattle.std.proofs.lemmas.Option.{slice_get-map}
use mathlib.Core.Path.{fun_ext}
use borrow.Author.Tests.{ltb-true}
use Rattle.wasm_entries.specs.declared.record.RawDesc.{RawDesc}
use Rattle.wasm_entries.specs.declared.record.RawDesc.TheVariants as descs
use Rattle.wasm_entries.specs.Record as entries
use Rattle.wasm_frames.specs.Record as wire
use Rattle.walrus_base.specs.Arena.{entries_from, items}
use Rattle.walrus_base.specs.Id.{place}
use Rattle.walrus_base.specs.declared.id.Id.{Id}
use Rattle.walrus_base.specs.declared.keys.TypeKey.{TypeKey}
use Rattle.walrus_base.specs.Operators.{Types}
use Rattle.walrus_base.specs.TypeDef.{TypeDef}
use Rattle.walrus_code.specs.Names.{Lookup}
use Rattle.walrus_functions.specs.Signatures.{tag_places}
use Rattle.walrus_bodies.proofs.LawNamed.{each_append}
use Rattle.walrus_groups.specs.Groups.{types_from}
use Rattle.walrus_items.specs.Tags.{TagValue}
use Rattle.walrus_model.specs.Abstract.{Tag}
use Rattle.walrus_model.specs.Reads.{below, declared}
use Rattle.walrus_model.specs.Sections.{imported, imported_tag, tag_of, tags_of}
use Rattle.walrus_base.proofs.Standing.{some_inj}
use Rattle.walrus_reading.specs.Held.{HoldsTag}
use Rattle.walrus_reading.specs.Placed.{AllPlaced}
use Rattle.walrus_reading.specs.Stays.{AllStay, DescStays, TypeStays}
use Rattle.walrus_reading.specs.Taken.{AreThere, tag_types_of}
use Rattle.walrus_theorem.proofs.TextShaped.{all_at as each_at}

-- ---- those that are held are those that were read

tags_seen : (k n : ℕ) (ts : List Tag) (slots : List (Option TagValue)) → AllPlaced HoldsTag k ts slots → map (λ (v : TagValue). v.ty) (map (λ (e : ℕ × TagValue). e.1) (entries_from n slots)) ≡ map (λ (t : Tag). t.ty) ts
tags_seen k n [] [] h = refl
tags_seen k n [] (s ∷ slots) h = absurd h
tags_seen k n (t ∷ ts) [] h = absurd h
tags_seen k n (t ∷ ts) (s ∷ slots) h =
    ap (λ (o : Option TagValue). map (λ (v : TagValue). v.ty) (map (λ (e : ℕ × TagValue). e.1) (entries_from n (o ∷ slots)))) h.0.is
    ∙ ap₂ (λ (x : ℕ) (l : List ℕ). x ∷ l) (ap (λ (tag : Tag). tag.ty) h.0.read) (tags_seen (k + 1) (n + 1) ts slots h.1)

pub same_tag_types : (r : wire.Module) (ids : List (Id TypeKey)) (slots : List (Option TagValue)) → map place ids ≡ map (λ (v : TagValue). v.ty) (items slots) → AllPlaced HoldsTag 0 (tags_of r) slots → tag_places ids ≡ tag_types_of r
same_tag_types r ids slots listed held = fun_ext (λ (tag : ℕ).
    sym (slice_get-map place ids tag)
    ∙ ap (λ (l : List ℕ). slice_get l tag) (listed ∙ tags_seen 0 0 (tags_of r) slots held)
    ∙ slice_get-map (λ (t : Tag). t.ty) (tags_of r) tag)

-- ---- they are there

below_count : (count i found : ℕ) (t : Bool) → nat_lt i count ≡ t → (if t then Some i else None) ≡ Some found → found < count
below_count count i found true lt e = subst (λ (n : ℕ). n < count) (some_inj i found e) (ltb-true i count lt)
below_count count i found false ge e = absurd (cc)

module _ (names : Lookup) where
  abbrev OfThere : Tag → Type 0
  OfThere t = TypeStays names t.ty

  one_imported : (i : ℕ) (d : RawDesc) → DescStays names d → AllByRecursion OfThere (option_to_list (imported_tag i d))
  one_imported i (descs.Function ty) h = tt
  one_imported i (descs.Table t) h = tt
  one_imported i (descs.Memory l) h = tt
  one_imported i (descs.Global g) h = tt
  one_imported i (descs.Tag ty) h = (h, tt)

  all_imported : (i : ℕ) (xs : List entries.Import) → AllByRecursion (λ (x : entries.Import). DescStays names x.desc) xs → AllByRecursion OfThere (imported imported_tag i xs)
  all_imported i [] h = tt
  all_imported i (x ∷ xs) h = each_append OfThere (option_to_list (imported_tag i x.desc)) (imported imported_tag (i + 1) xs) (one_imported i x.desc h.0) (all_imported (i + 1) xs h.1)

  all_own : (tys : List ℕ) → AllByRecursion (TypeStays names) tys → AllByRecursion OfThere (map tag_of tys)
  all_own [] h = tt
  all_own (ty ∷ tys) h = (h.0, all_own tys h.1)

  module _ (r : wire.Module) (stay : AllStay names r) where
    all_there : AllByRecursion OfThere (tags_of r)
    all_there =
        each_append OfThere (imported imported_tag 0 r.imports) (map tag_of r.tags)
        (all_imported 0 r.imports (recursion_from_All (λ (x : entries.Import). DescStays names x.desc) r.imports stay.imports)) (all_own r.tags (recursion_from_All (TypeStays names) r.tags stay.tags))

    tag_there : (tag ty : ℕ) (o : Option Tag) → slice_get (tags_of r) tag ≡ o → option_map (λ (t : Tag). t.ty) o ≡ Some ty → TypeStays names ty
    tag_there tag ty None at e = absurd (cc)
    tag_there tag ty (Some t) at e = subst (λ (n : ℕ). TypeStays names n) (some_inj t.ty ty e) (each_at OfThere (tags_of r) tag t all_there at)

    pub are_there : (slots : List (Option TypeDef)) (tags : ℕ → Option ℕ) → names ≡ declared r → slots ≡ map Some (types_from 0 r.types) → tags ≡ tag_types_of r → AreThere names tags slots
    are_there slots tags same typed same_tags =
        let count : ℕ = length (types_from 0 r.types) in
        let long : length slots ≡ count = ap length typed ∙ length-map (types_from 0 r.types) Some in
        let indexed : (t found : ℕ) → names Types t ≡ Some found → found < length slots =
        λ t found e.
        let declared_there : below count t ≡ Some found = sym (ap (λ (l : Lookup). l Types t) same) ∙ e in
        let lt : found < count = below_count count t found (nat_lt t count) refl declared_there in
        omega (arith, long, lt) in
        record {
          indexed = indexed;
          of_tags = λ tag ty e. indexed ty ty (tag_there tag ty (slice_get (tags_of r) tag) refl (sym (ap (λ (f : ℕ → Option ℕ). f tag) same_tags) ∙ e));
        }
