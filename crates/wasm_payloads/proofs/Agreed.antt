-- What is told by the steps is what is said by the relations: names and producers.
use Rattle.std.proofs.Common.{◌≡◌, ℕ, ◌<◌, Bool, List, [], ◌∷◌, ◌++◌, length, refl, sym, ap, ◌∙◌, arith, length-append}
use Rattle.std.specs.Prelude.{Option, Some, None}
use Rattle.wasm_forms.specs.Grammar.{Byte, Block, U32, Where, name, ◌then◌, at}
use Rattle.wasm_forms.proofs.Bind.{some_same}
use Rattle.wasm_forms.proofs.Exact.{exact}
use Rattle.wasm_payloads.specs.declared.naming.Part.{Part}
use Rattle.wasm_payloads.specs.declared.naming.Part.TheVariants as part
use Rattle.wasm_payloads.specs.Fault.{Tells, Behind, Counted, Inside, Alone, closed}
use Rattle.wasm_payloads.specs.Names.{Named, ModuleName, ItemName, LocalName, NameMap, Locals, Content, Subsection, NamesOnce, part_of}
use Rattle.wasm_payloads.specs.Producers.{FieldsOnce, field}
use Rattle.wasm_payloads.specs.Steps.{led, behind_at, inside_at, one, alone, entry_at, map_at, function_at, locals_at, module_at, content_at, subsection_at, fields_at}
use Rattle.wasm_payloads.proofs.Agree.{Agrees, Ends, one_agrees, alone_agrees, behind_agrees, counted_agrees, inside_agrees, through_once}

map_agrees : (make : ℕ → List ℕ → Named) → Agrees (NameMap make) (map_at make)
unfolding map_at entry_at
map_agrees make = counted_agrees (Behind (U32 then name) (λ x. Tells (make x.0 x.1 ∷ []))) (λ bytes. behind_at (at (U32 then name)) (λ x. one (make x.0 x.1)) bytes)
    (behind_agrees (U32 then name) (λ x. Tells (make x.0 x.1 ∷ [])) (λ x. one (make x.0 x.1)) (λ x. one_agrees (make x.0 x.1)))

locals_agrees : (known : ℕ → Bool) → Agrees (Locals known) (locals_at known)
unfolding locals_at function_at
locals_agrees known = counted_agrees (Behind (Where known U32) (λ f. NameMap (LocalName f))) (λ bytes. behind_at (at (Where known U32)) (λ f. map_at (LocalName f)) bytes)
    (behind_agrees (Where known U32) (λ f. NameMap (LocalName f)) (λ f. map_at (LocalName f)) (λ f. map_agrees (LocalName f)))

module_agrees : Agrees (Behind name (λ n. Alone (ModuleName n ∷ []))) module_at
unfolding module_at
module_agrees = behind_agrees name (λ n. Alone (ModuleName n ∷ [])) (λ n. alone (ModuleName n)) (λ n. alone_agrees (ModuleName n))

content_agrees : (known : ℕ → Bool) (p : Part) → Agrees (Content known p) (content_at known p)
unfolding content_at
content_agrees known part.Module = module_agrees
content_agrees known part.Locals = locals_agrees known
content_agrees known (part.Items space) = map_agrees (ItemName space)
content_agrees known part.Other = record { holds = λ bytes. (refl, refl); only = λ bytes told end h. (sym h.0, sym h.1) }

pub subsection_agrees : (known : ℕ → Bool) → Agrees (Subsection known) (subsection_at known)
unfolding subsection_at
subsection_agrees known = behind_agrees (Byte then Block) (λ s. Inside (Content known (part_of s.0)) s.1) (λ s. inside_at (content_at known (part_of s.0)) s.1)
    (λ s. inside_agrees (Content known (part_of s.0)) (content_at known (part_of s.0)) (content_agrees known (part_of s.0)) s.1)

-- ---- each subsection uses bytes

closed_some : (left : Option (List ℕ)) (bytes rest : List ℕ) → closed left bytes ≡ Some rest → bytes ≡ rest
closed_some None bytes rest e = cc
closed_some (Some []) bytes rest e = some_same bytes rest e
closed_some (Some (b ∷ l)) bytes rest e = cc

led_shorter : (known : ℕ → Bool) (bytes rest : List ℕ) (o : Option ((ℕ × List ℕ) × List ℕ)) → at (Byte then Block) bytes ≡ o
    → (led (λ s. inside_at (content_at known (part_of s.0)) s.1) o).1 ≡ Some rest → length rest < length bytes
unfolding inside_at
led_shorter known bytes rest None e h = cc
led_shorter known bytes rest (Some x) e h =
    let same : x.1 ≡ rest = closed_some (content_at known (part_of x.0.0) x.0.1).1 x.1 rest h in
    let q = (exact (Byte then Block)).takes bytes x e in
    let w = q.1.1 in
    let a : length bytes ≡ length (q.0 ++ x.1) = ap length q.1.0 in
    let b : length q.0 ≡ length ((x.0.0 ∷ []) ++ w.1.0) = ap length (w.1.1.0 ∙ ap (λ l. l ++ w.1.0) w.1.1.1) in
    let c : length x.1 ≡ length rest = ap length same in
    omega (arith, a, b, c, length-append q.0 x.1, length-append (x.0.0 ∷ []) w.1.0)

pub subsection_ends : (known : ℕ → Bool) → Ends (subsection_at known)
unfolding subsection_at behind_at
subsection_ends known = record {
  empty = (refl, refl);
  shorter = λ bytes rest e. led_shorter known bytes rest (at (Byte then Block) bytes) refl e;
}

pub names_once_lem : NamesOnce
names_once_lem = λ known bytes names others h k. through_once (Subsection known) (subsection_at known) (subsection_agrees known) (subsection_ends known) bytes names others h k

-- ---- producers

pub fields_agree : Agrees (Counted (Behind field (λ x. Tells (x ∷ [])))) fields_at
unfolding fields_at
fields_agree = counted_agrees (Behind field (λ x. Tells (x ∷ []))) (behind_at (at field) one) (behind_agrees field (λ x. Tells (x ∷ [])) one one_agrees)

pub fields_once_lem : FieldsOnce
fields_once_lem = λ bytes fields others h k. sym (fields_agree.only bytes fields h.0 h.1).0 ∙ (fields_agree.only bytes others k.0 k.1).0
