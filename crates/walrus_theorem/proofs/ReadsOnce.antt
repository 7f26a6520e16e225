-- No bytes read as two modules.
use Rattle.std.proofs.Common.{◌≡◌, List, [], ◌∷◌, map, zip, sym, ap, ap₂, ◌∙◌, subst, refl}
use Rattle.std.specs.Prelude.{codes, flat_map}
use Rattle.std.specs.List.{AllZip}
use Rattle.wasm_frames.specs.Record as wire
use Rattle.wasm_frames.proofs.Modules.{one_record_lem}
use Rattle.wasm_payloads.specs.Names.{Named, Names}
use Rattle.wasm_payloads.specs.Producers.{Field, Fields}
use Rattle.wasm_payloads.proofs.Agreed.{names_once_lem, fields_once_lem}
use Rattle.walrus_model.specs.Abstract.{ProducerField}
use Rattle.walrus_model.specs.Sections.{Said}
use Rattle.walrus_model.proofs.ReadOnce.{bodies_once}
use Rattle.walrus_theorem.specs.Features.{features_of}
use Rattle.walrus_theorem.specs.Headline.{ReadsBody, has_function, payloads, field_of}
use Rattle.walrus_theorem.specs.OneRun.{ReadsOnce}
use Rattle.walrus_theorem.specs.Sections.{module_of}

-- what is one for each is one for all
zip_once : {A B : Type 0} (R : A → B → Type 0) → ((a : A) (x y : B) → R a x → R a y → x ≡ y) → (ks : List A) (xs ys : List B) → AllZip R ks xs → AllZip R ks ys → xs ≡ ys
zip_once R once [] [] [] p q = refl
zip_once R once [] [] (y ∷ ys) p q = absurd q
zip_once R once [] (x ∷ xs) ys p q = absurd p
zip_once R once (a ∷ ks) [] ys p q = absurd p
zip_once R once (a ∷ ks) (x ∷ xs) [] p q = absurd q
zip_once R once (a ∷ ks) (x ∷ xs) (y ∷ ys) p q = ap₂ ◌∷◌ (once a x y p.0 q.0) (zip_once R once ks xs ys p.1 q.1)

pub reads_once_lem : ReadsOnce
reads_once_lem c bytes m n x y =
    let s : wire.Module = x.sections in
    let one : y.sections ≡ s = sym (one_record_lem bytes s y.sections x.framed y.framed) in
    let bodies : y.bodies ≡ x.bodies =
    bodies_once (features_of c) s (zip s.functions s.bodies) y.bodies x.bodies
    (subst (λ (z : wire.Module). AllZip (ReadsBody c z) (zip z.functions z.bodies) y.bodies) one y.read) x.read in
    let namings : y.namings ≡ x.namings =
    zip_once (Names (has_function s)) (names_once_lem (has_function s)) (payloads (codes "name") s) y.namings x.namings
    (subst (λ (z : wire.Module). AllZip (Names (has_function z)) (payloads (codes "name") z) y.namings) one y.named) x.named in
    let fields : y.fields ≡ x.fields =
    zip_once Fields fields_once_lem (payloads (codes "producers") s) y.fields x.fields
    (subst (λ (z : wire.Module). AllZip Fields (payloads (codes "producers") z) y.fields) one y.produced) x.produced in
    let produced : List (List Field) → List ProducerField = λ fs. flat_map (map field_of) fs in
    let named : List (List Named) → List Named = λ ns. flat_map (λ xs. xs) ns in
    y.is
    ∙ ap (λ (z : wire.Module). module_of z y.bodies (produced y.fields) (named y.namings)) one
    ∙ ap (λ (b : List Said). module_of s b (produced y.fields) (named y.namings)) bodies
    ∙ ap (λ (f : List (List Field)). module_of s x.bodies (produced f) (named y.namings)) fields
    ∙ ap (λ (l : List (List Named)). module_of s x.bodies (produced x.fields) (named l)) namings
    ∙ sym x.is
