-- What is spelled of composite types, subtypes and groups stands in their forms.
use Rattle.std.proofs.Common.{◌≡◌, ℕ, ◌<◌, ◌≤◌, ◌^◌, Bool, true, false, List, [], ◌∷◌, ◌++◌, refl, arith, inl, inr}
use Rattle.std.specs.Prelude.{All, nat_eq}
use Rattle.std.proofs.lemmas.Bool.{ne_eqb}
use Rattle.std.proofs.lemmas.List.Elements.{All-head}
use Rattle.wasm_forms.specs.declared.types.RawVal.{RawVal}
use Rattle.wasm_forms.specs.Grammar.{Is, Gives, Made, U32, Vector}
use Rattle.wasm_forms.specs.Spelling.{number_bytes, vector_bytes}
use Rattle.wasm_forms.specs.Writing.{FitsLength, FitsVector}
use Rattle.wasm_forms.specs.Types.{value_bytes, value_type, value_from, ValueStands}
use Rattle.wasm_forms.proofs.Adding.{fits_free}
use Rattle.wasm_forms.proofs.Spelled.{number_stands}
use Rattle.wasm_forms.proofs.Stands.{list_stands, second_stands, LedBy, led_stands, LeadsValue, value_led, value_stands}
use Rattle.wasm_entries.specs.declared.record.RawStorage.{RawStorage}
use Rattle.wasm_entries.specs.declared.record.RawStorage.TheVariants as storages
use Rattle.wasm_entries.specs.declared.record.RawFieldType.{RawFieldType}
use Rattle.wasm_entries.specs.Record.{FuncType, Comp, Function, Struct, Array, Sub, Group}
use Rattle.wasm_entries.specs.TypeForms.{storage_from, storage_type, flag, field_type, signature, comp_from, composite_type, sub_with, sub_from, sub_type, group_from, group_form}
use Rattle.wasm_entries.specs.TypeSpelling.{storage_bytes, flag_byte, field_bytes, func_type_bytes, comp_bytes, sub_spelled, sub_bytes, group_bytes, FuncTypeFits, CompFits, SubFits, GroupFits, StorageStands, FieldStands, CompStands, SubStands, GroupStands}

not_packed : (b : ℕ) → LeadsValue b → (nat_eq b 0x78 ≡ false) × (nat_eq b 0x77 ≡ false)
not_packed b (inl h) = (ne_eqb b 0x78 (λ e. omega (arith, e, h)), ne_eqb b 0x77 (λ e. omega (arith, e, h)))
not_packed b (inr h) = (ne_eqb b 0x78 (λ e. omega (arith, e, h)), ne_eqb b 0x77 (λ e. omega (arith, e, h)))

-- any first byte
abbrev Leads : ℕ → Type 0
Leads b = Unit {0}

storage_led : (s : RawStorage) → StorageStands s → LedBy Leads storage_from (storage_bytes s) s
unfolding storage_from
storage_led (storages.Val v) k =
    let l = value_led v k in
    let b = l.0 in
    let back = l.1.0 in
    let n = not_packed b l.1.1.1 in
    let here : Is (Made storages.Val (value_from b)) back (storages.Val v) = (v, (refl, l.1.1.2)) in
    (b, (back, (l.1.1.0, tt, second_stands (nat_eq b 0x78) (Gives storages.I8) _ back (storages.Val v) n.0 (second_stands (nat_eq b 0x77) (Gives storages.I16) _ back (storages.Val v) n.1 here))))
storage_led storages.I8 k = (0x78, ([], (refl, tt, (refl, refl))))
storage_led storages.I16 k = (0x77, ([], (refl, tt, (refl, refl))))

storage_stands : (s : RawStorage) → StorageStands s → Is storage_type (storage_bytes s) s
unfolding storage_type
storage_stands s k = led_stands Leads storage_from (storage_bytes s) s (storage_led s k)

flag_stands : (m : Bool) → Is flag (flag_byte m ∷ []) m
unfolding flag
flag_stands true = (1, (refl, (refl, refl)))
flag_stands false = (0, (refl, (refl, refl)))

pub field_stands : (f : RawFieldType) → FieldStands f → Is field_type (field_bytes f) f
unfolding field_type
field_stands f k = ((f.storage, f.mutable), (refl, (storage_bytes f.storage, (flag_byte f.mutable ∷ [], (refl, storage_stands f.storage k, flag_stands f.mutable)))))

values_stand : (vs : List RawVal) → FitsLength vs → All ValueStands vs → Is (Vector value_type) (vector_bytes value_bytes vs) vs
values_stand vs h k = list_stands value_type value_bytes (λ v. Unit {0}) ValueStands (λ v f s. value_stands v s) vs (fits_free vs h) k

signature_stands : (t : FuncType) → FuncTypeFits t → All ValueStands t.params → All ValueStands t.results → Is signature (func_type_bytes t) t
unfolding signature
signature_stands t h p r =
    ((t.params, t.results), (refl, (vector_bytes value_bytes t.params, (vector_bytes value_bytes t.results, (refl, values_stand t.params h.0 p, values_stand t.results h.1 r)))))

-- the first byte of a composite type
abbrev LeadsComp : ℕ → Type 0
LeadsComp b = 0x5E ≤ b

pub comp_led : (c : Comp) → CompFits c → CompStands c → LedBy LeadsComp comp_from (comp_bytes c) c
unfolding comp_from
comp_led (Function t) h k = (0x60, (func_type_bytes t, (refl, omega arith, (t, (refl, signature_stands t h k.0 k.1)))))
comp_led (Struct fields) h k =
    (0x5F, (vector_bytes field_bytes fields, (refl, omega arith, (fields, (refl, list_stands field_type field_bytes (λ f. Unit {0}) FieldStands (λ f u s. field_stands f s) fields (fits_free fields h) k)))))
comp_led (Array field) h k = (0x5E, (field_bytes field, (refl, omega arith, (field, (refl, field_stands field k)))))

comp_stands : (c : Comp) → CompFits c → CompStands c → Is composite_type (comp_bytes c) c
unfolding composite_type
comp_stands c h k = led_stands LeadsComp comp_from (comp_bytes c) c (comp_led c h k)

abbrev sub_of : Bool → List ℕ → Comp → Sub
sub_of is_final supers comp = record { is_final = is_final; supers = supers; comp = comp }

sub_with_stands : (is_final : Bool) (supers : List ℕ) (c : Comp) → FitsLength supers → CompFits c → All (λ n. n < 2 ^ 32) supers → CompStands c → Is (sub_with is_final) (vector_bytes number_bytes supers ++ comp_bytes c) (sub_of is_final supers c)
unfolding sub_with
sub_with_stands is_final supers c h f a k =
    ((supers, c), (refl, (vector_bytes number_bytes supers, (comp_bytes c, (refl, list_stands U32 number_bytes (λ n. Unit {0}) (λ n. n < 2 ^ 32) (λ n u s. number_stands n s) supers (fits_free supers h) a, comp_stands c f k)))))

-- the first byte of a subtype
abbrev LeadsSub : ℕ → Type 0
LeadsSub b = (0x4F ≤ b)

sub_led_at : (is_final : Bool) (supers : List ℕ) (c : Comp) → FitsLength supers → CompFits c → All (λ n. n < 2 ^ 32) supers → CompStands c → LedBy LeadsSub sub_from (sub_spelled is_final supers c) (sub_of is_final supers c)
unfolding sub_from
sub_led_at true [] c h f a k =
    let l = comp_led c f k in
    let b = l.0 in
    let back = l.1.0 in
    let least : 0x5E ≤ b = l.1.1.1 in
    let here : Is (Made (sub_of true []) (comp_from b)) back (sub_of true [] c) = (c, (refl, l.1.1.2)) in (
      b,
      (
        back,
        (
          l.1.1.0,
          omega (arith, least),
          second_stands (nat_eq b 0x50) (sub_with false) _ back (sub_of true [] c) (ne_eqb b 0x50 (λ e. omega (arith, e, least)))
              (second_stands (nat_eq b 0x4F) (sub_with true) _ back (sub_of true [] c) (ne_eqb b 0x4F (λ e. omega (arith, e, least))) here),
        ),
      ),
    )
sub_led_at true (x ∷ xs) c h f a k = (0x4F, (vector_bytes number_bytes (x ∷ xs) ++ comp_bytes c, (refl, omega arith, sub_with_stands true (x ∷ xs) c h f a k)))
sub_led_at false supers c h f a k = (0x50, (vector_bytes number_bytes supers ++ comp_bytes c, (refl, omega arith, sub_with_stands false supers c h f a k)))

sub_led : (s : Sub) → SubFits s → SubStands s → LedBy LeadsSub sub_from (sub_bytes s) s
sub_led s h k = sub_led_at s.is_final s.supers s.comp h.0 h.1 k.0 k.1

pub sub_stands : (s : Sub) → SubFits s → SubStands s → Is sub_type (sub_bytes s) s
unfolding sub_type
sub_stands s h k = led_stands LeadsSub sub_from (sub_bytes s) s (sub_led s h k)

subs_stand : (g : Group) → GroupFits g → GroupStands g → Is (Vector sub_type) (vector_bytes sub_bytes g) g
subs_stand g h k = list_stands sub_type sub_bytes SubFits SubStands sub_stands g h k

group_led : (g : Group) → GroupFits g → GroupStands g → LedBy Leads group_from (group_bytes g) g
unfolding group_from
group_led [] h k = (0x4E, (vector_bytes sub_bytes [], (refl, tt, subs_stand [] h k)))
group_led (s ∷ []) h k =
    let l = sub_led s h.1.0 (All-head SubStands s [] k) in
    let b = l.0 in
    let back = l.1.0 in
    let least : 0x4F ≤ b = l.1.1.1 in
    let here : Is (Made (λ (x : Sub). x ∷ []) (sub_from b)) back (s ∷ []) = (s, (refl, l.1.1.2)) in
    (b, (back, (l.1.1.0, tt, second_stands (nat_eq b 0x4E) (Vector sub_type) _ back (s ∷ []) (ne_eqb b 0x4E (λ e. omega (arith, e, least))) here)))
group_led (s ∷ t ∷ rest) h k = (0x4E, (vector_bytes sub_bytes (s ∷ t ∷ rest), (refl, tt, subs_stand (s ∷ t ∷ rest) h k)))

pub group_stands : (g : Group) → GroupFits g → GroupStands g → Is group_form (group_bytes g) g
unfolding group_form
group_stands g h k = led_stands Leads group_from (group_bytes g) g (group_led g h k)

-- the groups of a type section
pub groups_stand : (gs : List Group) → FitsVector GroupFits gs → All GroupStands gs → Is (Vector group_form) (vector_bytes group_bytes gs) gs
groups_stand gs h k = list_stands group_form group_bytes GroupFits GroupStands group_stands gs h k
