-- What is spelled of limits and of the types of memories, tables, globals and tags stands in their forms.
use Rattle.std.proofs.Common.{◌≡◌, ℕ, ◌<◌, ◌^◌, Bool, true, false, List, [], ◌∷◌, ◌++◌, refl, ap, subst, append_assoc}
use Rattle.std.specs.Prelude.{Option, Some, None, nat_lt, not, ◌&&◌}
use Rattle.wasm_forms.specs.declared.types.RawVal.{RawVal}
use Rattle.wasm_forms.specs.Grammar.{Form, Is, Made, ◌then◌, U32}
use Rattle.wasm_forms.specs.Spelling.{number_bytes}
use Rattle.wasm_forms.specs.Types.{value_bytes}
use Rattle.wasm_forms.proofs.Spelled.{number_stands, long_number_stands}
use Rattle.wasm_forms.proofs.Stands.{reference_led, value_stands}
use Rattle.wasm_entries.specs.declared.record.RawLimits.{RawLimits}
use Rattle.wasm_entries.specs.declared.record.RawTableType.{RawTableType}
use Rattle.wasm_entries.specs.declared.record.RawGlobalType.{RawGlobalType}
use Rattle.wasm_entries.specs.TypeForms.{has, optional, size_form, limits_of, memory_type, table_limits, table_type_from, table_type, global_type, tag_type}
use Rattle.wasm_entries.specs.TypeSpelling.{limits_flags, number_if, limits_bytes, table_type_bytes, global_flags, global_type_bytes, FitsWide, MaximumFits, LimitsFit, IsBelow, LimitsStand, TableTypeStands, GlobalTypeStands}

abbrev is_there : {A : Type 0} → Option A → Bool
is_there None = false
is_there (Some x) = true

-- ---- flags

abbrev limits_by : ℕ → Option ℕ → Bool → Bool → Option ℕ → RawLimits
limits_by minimum maximum shared wide page = record { minimum = minimum; maximum = maximum; shared = shared; wide = wide; page = page }

-- what the flags tell of limits
record Tells (l : RawLimits) : Type 0 where
  some : is_there l.maximum ≡ has (limits_flags l) 1
  shared : l.shared ≡ has (limits_flags l) 2
  wide : l.wide ≡ has (limits_flags l) 4
  paged : is_there l.page ≡ has (limits_flags l) 8
  small : nat_lt (limits_flags l) 16 ≡ true

tells_at : (n : ℕ) (maximum : Option ℕ) (shared wide : Bool) (page : Option ℕ) → Tells (limits_by n maximum shared wide page)
tells_at n None false false None = record { some = refl; shared = refl; wide = refl; paged = refl; small = refl }
tells_at n None false false (Some p) = record { some = refl; shared = refl; wide = refl; paged = refl; small = refl }
tells_at n None false true None = record { some = refl; shared = refl; wide = refl; paged = refl; small = refl }
tells_at n None false true (Some p) = record { some = refl; shared = refl; wide = refl; paged = refl; small = refl }
tells_at n None true false None = record { some = refl; shared = refl; wide = refl; paged = refl; small = refl }
tells_at n None true false (Some p) = record { some = refl; shared = refl; wide = refl; paged = refl; small = refl }
tells_at n None true true None = record { some = refl; shared = refl; wide = refl; paged = refl; small = refl }
tells_at n None true true (Some p) = record { some = refl; shared = refl; wide = refl; paged = refl; small = refl }
tells_at n (Some m) false false None = record { some = refl; shared = refl; wide = refl; paged = refl; small = refl }
tells_at n (Some m) false false (Some p) = record { some = refl; shared = refl; wide = refl; paged = refl; small = refl }
tells_at n (Some m) false true None = record { some = refl; shared = refl; wide = refl; paged = refl; small = refl }
tells_at n (Some m) false true (Some p) = record { some = refl; shared = refl; wide = refl; paged = refl; small = refl }
tells_at n (Some m) true false None = record { some = refl; shared = refl; wide = refl; paged = refl; small = refl }
tells_at n (Some m) true false (Some p) = record { some = refl; shared = refl; wide = refl; paged = refl; small = refl }
tells_at n (Some m) true true None = record { some = refl; shared = refl; wide = refl; paged = refl; small = refl }
tells_at n (Some m) true true (Some p) = record { some = refl; shared = refl; wide = refl; paged = refl; small = refl }

tells : (l : RawLimits) → Tells l
tells l = tells_at l.minimum l.maximum l.shared l.wide l.page

-- a table's flags
plain_at : (n : ℕ) (maximum : Option ℕ) (shared wide : Bool) (page : Option ℕ) → shared ≡ false → page ≡ None
    → (nat_lt (limits_flags (limits_by n maximum shared wide page)) 8 && not (has (limits_flags (limits_by n maximum shared wide page)) 2)) ≡ true
plain_at n None false false None e f = refl
plain_at n None false true None e f = refl
plain_at n (Some m) false false None e f = refl
plain_at n (Some m) false true None e f = refl
plain_at n maximum true wide page e f = cc
plain_at n maximum false wide (Some p) e f = cc

plain : (l : RawLimits) → l.shared ≡ false → l.page ≡ None → (nat_lt (limits_flags l) 8 && not (has (limits_flags l) 2)) ≡ true
plain l e f = plain_at l.minimum l.maximum l.shared l.wide l.page e f

-- ---- sizes

size_stands : (wide : Bool) (n : ℕ) → FitsWide wide n → n < 2 ^ 64 → Is (size_form wide) (number_bytes n) n
unfolding size_form
size_stands true n f h = long_number_stands n h
size_stands false n f h = number_stands n f

maximum_stands : (wide : Bool) (o : Option ℕ) → MaximumFits wide o → IsBelow (2 ^ 64) o → Is (optional (is_there o) (size_form wide)) (number_if o) o
unfolding optional
maximum_stands wide None f h = (refl, refl)
maximum_stands wide (Some n) f h = (n, (refl, size_stands wide n f h))

page_stands : (o : Option ℕ) → IsBelow (2 ^ 32) o → Is (optional (is_there o) U32) (number_if o) o
unfolding optional
page_stands None h = (refl, refl)
page_stands (Some n) h = (n, (refl, number_stands n h))

-- ---- limits

-- what stands behind flags that tell this
abbrev behind_flags : Bool → Bool → Bool → Bool → Form RawLimits
behind_flags some shared wide paged =
    Made (λ x. record { minimum = x.0; maximum = x.1.0; shared = shared; wide = wide; page = x.1.1 }) (size_form wide then optional some (size_form wide) then optional paged U32)

four_same : (P : Bool → Bool → Bool → Bool → Type 0) (a a' b b' c c' d d' : Bool) → a ≡ a' → b ≡ b' → c ≡ c' → d ≡ d' → P a b c d → P a' b' c' d'
four_same P a a' b b' c c' d d' e f g h p = subst (λ t. P a' b' c' t) h (subst (λ t. P a' b' t d) g (subst (λ t. P a' t c d) f (subst (λ t. P t b c d) e p)))

abbrev sizes : RawLimits → List ℕ
sizes l = number_bytes l.minimum ++ number_if l.maximum ++ number_if l.page

sizes_stand : (l : RawLimits) → LimitsFit l → LimitsStand l → Is (behind_flags (is_there l.maximum) l.shared l.wide (is_there l.page)) (sizes l) l
sizes_stand l h k = (
  (l.minimum, (l.maximum, l.page)),
  (
    refl,
    (
      number_bytes l.minimum,
      (
        number_if l.maximum ++ number_if l.page,
        (
          append_assoc (number_bytes l.minimum) (number_if l.maximum) (number_if l.page),
          size_stands l.wide l.minimum h.0 k.minimum,
          (number_if l.maximum, (number_if l.page, (refl, maximum_stands l.wide l.maximum h.1 k.maximum, page_stands l.page k.page))),
        ),
      ),
    ),
  ),
)

limits_stand : (l : RawLimits) → LimitsFit l → LimitsStand l → Is (limits_of (limits_flags l)) (sizes l) l
unfolding limits_of
limits_stand l h k =
    let t = tells l in
    four_same (λ some shared wide paged. Is (behind_flags some shared wide paged) (sizes l) l) _ _ _ _ _ _ _ _ t.some t.shared t.wide t.paged (sizes_stand l h k)

pub memory_stands : (l : RawLimits) → LimitsFit l → LimitsStand l → Is memory_type (limits_bytes l) l
unfolding memory_type
memory_stands l h k = let t = tells l in (limits_flags l, (limits_flags l ∷ [], (sizes l, (refl, (refl, t.small), limits_stand l h k))))

table_limits_stand : (l : RawLimits) → LimitsFit l → LimitsStand l → l.shared ≡ false → l.page ≡ None → Is table_limits (limits_bytes l) l
unfolding table_limits
table_limits_stand l h k e f = (limits_flags l, (limits_flags l ∷ [], (sizes l, (refl, (refl, plain l e f), limits_stand l h k))))

-- ---- tables, globals, tags

pub table_stands : (t : RawTableType) → LimitsFit t.limits → TableTypeStands t → Is table_type (table_type_bytes t) t
unfolding table_type table_type_from
table_stands t h k =
    let r = reference_led t.element k.element in
    let b = r.0 in
    let back = r.1.0 in (
      b,
      (
        b ∷ [],
        (
          back ++ limits_bytes t.limits,
          (
            ap (λ bytes. bytes ++ limits_bytes t.limits) r.1.1.0,
            refl,
            ((t.element, t.limits), (refl, (back, (limits_bytes t.limits, (refl, r.1.1.2, table_limits_stand t.limits h k.limits k.not_shared k.no_page))))),
          ),
        ),
      ),
    )

abbrev global_by : RawVal → Bool → Bool → RawGlobalType
global_by value mutable shared = record { value = value; mutable = mutable; shared = shared }

abbrev GlobalTells : RawGlobalType → Type 0
GlobalTells g = (g ≡ global_by g.value (has (global_flags g) 1) (has (global_flags g) 2)) × (nat_lt (global_flags g) 4 ≡ true)

global_tells_at : (value : RawVal) (mutable shared : Bool) → GlobalTells (global_by value mutable shared)
global_tells_at value false false = (refl, refl)
global_tells_at value false true = (refl, refl)
global_tells_at value true false = (refl, refl)
global_tells_at value true true = (refl, refl)

pub global_stands : (g : RawGlobalType) → GlobalTypeStands g → Is global_type (global_type_bytes g) g
unfolding global_type
global_stands g k =
    let t : GlobalTells g = global_tells_at g.value g.mutable g.shared in
    ((g.value, global_flags g), (t.0, (value_bytes g.value, (global_flags g ∷ [], (refl, value_stands g.value k, (refl, t.1))))))

pub tag_stands : (n : ℕ) → n < 2 ^ 32 → Is tag_type (0 ∷ number_bytes n) n
unfolding tag_type
tag_stands n h = (0, (0 ∷ [], (number_bytes n, (refl, (refl, refl), number_stands n h))))
