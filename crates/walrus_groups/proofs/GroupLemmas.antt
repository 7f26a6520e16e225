-- Groups of types behind others.
use Rattle.std.proofs.Common.{◌≡◌, ℕ, suc, ◌+◌, ◌<◌, ◌≤◌, ◌^◌, List, [], ◌∷◌, ◌++◌, length, map, drop, drop-cons, get_or, Option, Some, None, Result, Ok, Err, append_assoc, refl, sym, ap, ap₂, ◌∙◌, subst, arith}
use Rattle.std.specs.Prelude.{All}
use Rattle.std.specs.Global.{Vec}
use Rattle.std.specs.List.{range_with_len}
use Rattle.std.proofs.lemmas.List.{drop_all, append-nil, length-map, length-append, map-append}
use Rattle.std.proofs.lemmas.List.FromFn.{length-range_with_len}
use Rattle.wasm_forms.specs.Reading.{◌>>=◌}
use Rattle.wasm_entries.specs.Record.{Sub, Group, sub, group}
use Rattle.wasm_entries.specs.declared.record.RawSub.{RawSub}
use Rattle.walrus_base.specs.Id.{place}
use Rattle.walrus_base.specs.Types.{SubType}
use Rattle.walrus_base.specs.declared.id.Id.{Id}
use Rattle.walrus_base.specs.declared.keys.TypeKey.{TypeKey}
use Rattle.walrus_base.specs.Composite.{new_sub}
use Rattle.walrus_base.specs.Operators.{Types}
use Rattle.walrus_base.specs.TypeDef.{TypeDef}
use Rattle.walrus_base.specs.TypeSlots.{new_group}
use Rattle.walrus_base.specs.declared.composite.NewType.{NewType}
use Rattle.walrus_code.specs.Indices.{places_in, ids_at}
use Rattle.walrus_code.specs.Results.{Finds}
use Rattle.walrus_code.specs.declared.error.IrError.{IrError}
use Rattle.walrus_code.specs.declared.error.IrError.TheVariants.{Malformed, Memory, NoIndex, NotWritable, TooLarge}
use Rattle.walrus_code.specs.declared.indices.IndicesToIds.{IndicesToIds}
use Rattle.walrus_groups.specs.Groups.{sub_of, members_of, types_from, NamesBelow, AreDeclared, AreRead, ReadsTypes}
use Rattle.walrus_groups.specs.Named.{each}
use Rattle.walrus_groups.specs.Reading.{read_sub, RefusedAsTooMany}
use Rattle.walrus_groups.proofs.Kept.{kept-subs, range-here, range-none}
use Rattle.wasm_forms.proofs.Bind.{some_same as some_inside}

-- ---- where the ids of a group lie

-- numbers one behind another from 0 on are told by how many they are
pub counted : (ps : List ℕ) (n : ℕ) → ps ≡ range_with_len 0 n → ps ≡ range_with_len 0 (length ps)
counted ps n h = h ∙ ap (λ k. range_with_len 0 k) (sym (ap length h ∙ length-range_with_len 0 n))

pub known : (ps : List ℕ) (n : ℕ) → ps ≡ range_with_len 0 n → length ps ≡ n
known ps n h = ap length h ∙ length-range_with_len 0 n

long : (ids : List (Id TypeKey)) (first count : ℕ) → map (λ id. place id) ids ≡ range_with_len first count → length ids ≡ count
long ids first count h = sym (length-map ids (λ id. place id)) ∙ ap length h ∙ length-range_with_len first count

pub ids-behind-types : (ps : List ℕ) (slots : List (Option TypeDef)) (ids : List (Id TypeKey)) (count : ℕ) → ps ≡ range_with_len 0 (length slots) → map (λ id. place id) ids ≡ range_with_len (length slots) count → map (λ id. place id) ids ≡ range_with_len (length ps) (length ids)
ids-behind-types ps slots ids count in_place h = h ∙ ap₂ (λ a b. range_with_len a b) (sym (known ps (length slots) in_place)) (sym (long ids (length slots) count h))

-- the places after a group
pub places-after : (ps qs : List ℕ) (old : List (Option TypeDef)) (ids : List (Id TypeKey)) (raw : List RawSub) → ps ≡ range_with_len 0 (length old) → map (λ id. place id) ids ≡ range_with_len (length old) (length raw) → qs ≡ range_with_len 0 (length ps + length ids) → qs ≡ range_with_len 0 (length old + length (map sub raw))
places-after ps qs old ids raw in_place behind h =
    h ∙ ap₂ (λ a b. range_with_len 0 (a + b)) (known ps (length old) in_place) (long ids (length old) (length raw) behind ∙ sym (length-map raw sub))

-- ---- a group

-- members that have the places from the first on
abbrev stood : ℕ → List (SubType ℕ) → List (Option TypeDef)
stood first subs = map (λ s. Some (record { group = range_with_len first (length subs); sub = s })) subs

new_stood : (first : ℕ) (members : List NewType) → new_group first members ≡ stood first (map new_sub members)
new_stood first members = at first (length members) (length (map new_sub members)) (sym (length-map members new_sub)) members
  where
    at : (first n m : ℕ) → n ≡ m → (members : List NewType) → map {B = Option TypeDef} (λ member. Some (record { group = range_with_len first n; sub = new_sub member })) members ≡ map {B = Option TypeDef} (λ s. Some (record { group = range_with_len first m; sub = s })) (map new_sub members)
    at first n m h [] = refl
    at first n m h (member ∷ members) = ap₂ (λ x xs. x ∷ xs) (ap (λ (k : ℕ). Some (record { group = range_with_len first k; sub = new_sub member })) h) (at first n m h members)

members_stood : (first : ℕ) (g : Group) → map Some (members_of first g) ≡ stood first (map sub_of g)
members_stood first g = at first (length g) (length (map sub_of g)) (sym (length-map g sub_of)) g
  where
    at : (first n m : ℕ) → n ≡ m → (g : Group) → map {B = Option TypeDef} (λ x. Some x) (map (λ s. record { group = range_with_len first n; sub = sub_of s }) g) ≡ map {B = Option TypeDef} (λ s. Some (record { group = range_with_len first m; sub = s })) (map sub_of g)
    at first n m h [] = refl
    at first n m h (s ∷ g) = ap₂ (λ x xs. x ∷ xs) (ap (λ (k : ℕ). Some (record { group = range_with_len first k; sub = sub_of s })) h) (at first n m h g)

-- the members that were found are those of the group
same_subs : (indices : IndicesToIds) (end : ℕ) (g : Group) (members : List NewType) → places_in indices Types ≡ range_with_len 0 end → each (read_sub (ids_at indices)) (map sub_of g) ≡ Some (map new_sub members) → All (λ s. NamesBelow end (sub_of s)) g × (map new_sub members ≡ map sub_of g)
same_subs indices end g members in_place found =
    let kept = kept-subs (ids_at indices) end (range-here (places_in indices Types) end in_place) (range-none (places_in indices Types) end in_place) g in
    let declared = kept.holds (map new_sub members) found in
    (declared, some_inside (map new_sub members) (map sub_of g) (sym found ∙ kept.stays declared))

pub group-read : (indices : IndicesToIds) (g : Group) (old new : List (Option TypeDef)) (members : List NewType) → places_in indices Types ≡ range_with_len 0 (length old + length g) → each (read_sub (ids_at indices)) (map sub_of g) ≡ Some (map new_sub members) → new ≡ old ++ new_group (length old) members → AreRead (g ∷ []) old new
group-read indices g old new members in_place found added =
    let same = same_subs indices (length old + length g) g members in_place found in
    record {
      declared = (same.0, tt);
      added =
          added
          ∙ ap (λ slots. old ++ slots) (new_stood (length old) members ∙ ap (λ subs. stood (length old) subs) same.1 ∙ sym (members_stood (length old) g) ∙ ap (λ xs. map Some xs) (sym (append-nil (members_of (length old) g))));
    }

-- as many types as members are added
pub group-long : (g : Group) (old new : List (Option TypeDef)) → AreRead (g ∷ []) old new → length new ≡ length old + length g
group-long g old new r =
    ap length r.added ∙ length-append old (map Some (types_from (length old) (g ∷ [])))
    ∙ ap (λ n. length old + n) (length-map (types_from (length old) (g ∷ [])) (λ x. Some x) ∙ ap length (append-nil (members_of (length old) g)) ∙ length-map g _)

group-malformed : (indices : IndicesToIds) (g : Group) (first : ℕ) → places_in indices Types ≡ range_with_len 0 (first + length g) → each (read_sub (ids_at indices)) (map sub_of g) ≡ None → AreDeclared first (g ∷ []) → ⊥
group-malformed indices g first in_place found declared =
    let kept = kept-subs (ids_at indices) (first + length g) (range-here (places_in indices Types) (first + length g) in_place) (range-none (places_in indices Types) (first + length g) in_place) g in
    let here = kept.stays declared.0 in
    cc

-- more types than 32 bits can number
pub group-refused : (raw : List RawSub) (ps : List ℕ) (old new : List (Option TypeDef)) (ids : List (Id TypeKey)) (e : IrError) → ps ≡ range_with_len 0 (length old) → map (λ id. place id) ids ≡ range_with_len (length old) (length raw) → RefusedAsTooMany (Err e) (2 ^ 32 < length ps + length ids) → ReadsTypes (map sub raw ∷ []) old new (Err e)
group-refused raw ps old new ids TooLarge in_place behind many =
    let count : length (types_from (length old) (map sub raw ∷ [])) ≡ length raw = ap length (append-nil (members_of (length old) (map sub raw))) ∙ length-map (map sub raw) _ ∙ length-map raw sub in
    let all = known ps (length old) in_place in
    let more = long ids (length old) (length raw) behind in
    omega (arith, many, count, all, more)
group-refused raw ps old new ids (Memory e) in_place behind many = tt
group-refused raw ps old new ids Malformed in_place behind many = absurd many
group-refused raw ps old new ids NoIndex in_place behind many = absurd many
group-refused raw ps old new ids NotWritable in_place behind many = absurd many

-- what is refused for fewer types is refused for more
pub refused-sooner : (e : IrError) (few many : Type 0) → (few → many) → RefusedAsTooMany (Err e) few → RefusedAsTooMany (Err e) many
refused-sooner TooLarge few many more refused = more refused
refused-sooner (Memory e) few many more refused = tt
refused-sooner Malformed few many more refused = absurd refused
refused-sooner NoIndex few many more refused = absurd refused
refused-sooner NotWritable few many more refused = absurd refused

-- a member that isn't declared
pub members-refused : (indices : IndicesToIds) (g : Group) (old new : List (Option TypeDef)) (e : IrError) → places_in indices Types ≡ range_with_len 0 (length old + length g) → Finds (λ (members : Vec NewType). map new_sub members.items) (Err e) (each (read_sub (ids_at indices)) (map sub_of g)) → ReadsTypes (g ∷ []) old new (Err e)
members-refused indices g old new Malformed in_place found = group-malformed indices g (length old) in_place found
members-refused indices g old new (Memory e) in_place found = tt
members-refused indices g old new TooLarge in_place found = absurd found
members-refused indices g old new NoIndex in_place found = absurd found
members-refused indices g old new NotWritable in_place found = absurd found

-- ---- a group of one member

-- what is found for one is found for a list of it alone
pub alone-found : (indices : IndicesToIds) (s : Sub) (member : NewType) → read_sub (ids_at indices) (sub_of s) ≡ Some (new_sub member) → each (read_sub (ids_at indices)) (map sub_of (s ∷ [])) ≡ Some (map new_sub (member ∷ []))
alone-found indices s member found = ap (λ o. o >>= λ first. Some (first ∷ [])) found

alone-malformed : (indices : IndicesToIds) (s : Sub) → read_sub (ids_at indices) (sub_of s) ≡ None → each (read_sub (ids_at indices)) (map sub_of (s ∷ [])) ≡ None
alone-malformed indices s found = ap (λ o. o >>= λ first. Some (first ∷ [])) found

-- the member isn't declared
pub member-refused : (indices : IndicesToIds) (s : Sub) (old new : List (Option TypeDef)) (e : IrError) → places_in indices Types ≡ range_with_len 0 (length old + length (s ∷ [])) → Finds new_sub (Err e) (read_sub (ids_at indices) (sub_of s)) → ReadsTypes ((s ∷ []) ∷ []) old new (Err e)
member-refused indices s old new Malformed in_place found = group-malformed indices (s ∷ []) (length old) in_place (alone-malformed indices s found)
member-refused indices s old new (Memory e) in_place found = tt
member-refused indices s old new TooLarge in_place found = absurd found
member-refused indices s old new NoIndex in_place found = absurd found
member-refused indices s old new NotWritable in_place found = absurd found

-- a list of one is its first
pub one-alone : (raws : List RawSub) (only : RawSub) → 1 ≤ length raws → length raws < 2 → only ≡ get_or raws 0 only → raws ≡ only ∷ []
one-alone [] only some few is = absurd (omega (arith, some))
one-alone (raw ∷ []) only some few is = ap (λ x. x ∷ []) (sym is)
one-alone (raw ∷ next ∷ raws) only some few is = absurd (omega (arith, few))

-- ---- groups behind a group

pub none-read : (old : List (Option TypeDef)) → ReadsTypes [] old old (Ok tt)
none-read old = record { declared = tt; added = sym (append-nil old) }

-- the types of a group and those of the others
both_long : (first : ℕ) (g : Group) (gs : List Group) → length (types_from first (g ∷ gs)) ≡ length g + length (types_from (first + length g) gs)
both_long first g gs = length-append (members_of first g) (types_from (first + length g) gs) ∙ ap (λ n. n + length (types_from (first + length g) gs)) (length-map g _)

pub group-then : (g : Group) (gs : List Group) (old middle new : List (Option TypeDef)) (r : Result Unit IrError) → AreRead (g ∷ []) old middle → ReadsTypes gs middle new r → ReadsTypes (g ∷ gs) old new r
group-then g gs old middle new (Ok u) first rest =
    let m = group-long g old middle first in
    let short : middle ≡ old ++ map Some (members_of (length old) g) = first.added ∙ ap (λ xs. old ++ map Some xs) (append-nil (members_of (length old) g)) in
    record {
      declared = (first.declared.0, subst (λ (n : ℕ). AreDeclared n gs) m rest.declared);
      added =
          rest.added ∙ ap₂ (λ a n. a ++ map Some (types_from n gs)) short m
          ∙ append_assoc old (map Some (members_of (length old) g)) (map Some (types_from (length old + length g) gs))
          ∙ ap (λ xs. old ++ xs) (sym (map-append (λ x. Some x) (members_of (length old) g) (types_from (length old + length g) gs)));
    }
group-then g gs old middle new (Err Malformed) first rest = λ declared. rest (subst (λ (n : ℕ). AreDeclared n gs) (sym (group-long g old middle first)) declared.1)
group-then g gs old middle new (Err TooLarge) first rest =
    let many : 2 ^ 32 < (length old + length g) + length (types_from (length old + length g) gs) = subst (λ (n : ℕ). 2 ^ 32 < n + length (types_from n gs)) (group-long g old middle first) rest in
    let all = both_long (length old) g gs in
    omega (arith, many, all)
group-then g gs old middle new (Err (Memory e)) first rest = tt
group-then g gs old middle new (Err NoIndex) first rest = absurd rest
group-then g gs old middle new (Err NotWritable) first rest = absurd rest

pub group-ends : (g : Group) (gs : List Group) (old new later : List (Option TypeDef)) (e : IrError) → ReadsTypes (g ∷ []) old new (Err e) → ReadsTypes (g ∷ gs) old later (Err e)
group-ends g gs old new later Malformed h = λ declared. h (declared.0, tt)
group-ends g gs old new later TooLarge h =
    let alone = both_long (length old) g [] in
    let all = both_long (length old) g gs in
    omega (arith, h, alone, all)
group-ends g gs old new later (Memory e) h = tt
group-ends g gs old new later NoIndex h = absurd h
group-ends g gs old new later NotWritable h = absurd h

-- the groups that are left begin with the next one
pub groups-next : (raws : List (Vec RawSub)) (i : ℕ) (item : Vec RawSub) (members : List RawSub) → i < length raws → item ≡ get_or raws i item → members ≡ item.items → map group (drop i raws) ≡ map sub members ∷ map group (drop (i + 1) raws)
groups-next raws i item members l is value =
    let one_more : suc i ≡ i + 1 = omega arith in
    let next : group (get_or raws i item) ≡ map sub members = ap group (sym is) ∙ ap (map sub) (sym value) in
    ap (λ rs. map group rs) (drop-cons raws i item l) ∙ ap₂ (λ g k. g ∷ map group (drop k raws)) next one_more

-- none is left
pub groups-end : (raws : List (Vec RawSub)) (i : ℕ) → length raws ≤ i → map group (drop i raws) ≡ []
groups-end raws i l = ap (λ rs. map group rs) (drop_all i raws l)
