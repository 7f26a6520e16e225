-- Places one behind another.
use Rattle.std.proofs.Common.{◌≡◌, ℕ, ◌+◌, List, [], ◌∷◌, ◌++◌, length, map, refl, ap, ◌∙◌, sym}
use Rattle.std.proofs.lemmas.List.{map-append}
use Rattle.std.proofs.lemmas.List.FromFn.{length-range_with_len}
use Rattle.std.specs.Prelude.{IfSome}
use Rattle.std.specs.List.{range_with_len}
use Rattle.walrus_base.specs.Id.{place}
use Rattle.walrus_base.specs.declared.id.Id.{Id}
use Rattle.walrus_base.specs.declared.keys.LocalKey.{LocalKey}
use Rattle.walrus_bodies.specs.Function.{as_text, args_of, arg_count_of, args_in, text_in}
use Rattle.walrus_bodies.specs.Text.{first_local_of}
use Rattle.walrus_bodies.specs.declared.function.Body.{Body}
use Rattle.walrus_bodies.specs.declared.function.Body.TheVariants as bodies
use Rattle.walrus_bodies.specs.declared.function.LocalFunction.{LocalFunction}
use Rattle.walrus_base.proofs.Ranges.{range-more as range_more}

map_same : (ns : List ℕ) → map (λ k. k) ns ≡ ns
map_same [] = refl
map_same (m ∷ ns) = ap (λ (xs : List ℕ). m ∷ xs) (map_same ns)

-- one more place behind so many
pub one_more : (first n : ℕ) (ids new : List (Id LocalKey)) (id : Id LocalKey) → new ≡ ids ++ id ∷ [] → map place ids ≡ range_with_len first n → place id ≡ first + n → map place new ≡ range_with_len first (n + 1)
one_more first n ids new id is so_far at =
    ap (map place) is ∙ map-append place ids (id ∷ []) ∙ ap (λ (ns : List ℕ). ns ++ place id ∷ []) so_far ∙ ap (λ (p : ℕ). range_with_len first n ++ p ∷ []) at ∙ sym (range_more first n)

pub as_many : (first count : ℕ) → count ≡ length (range_with_len first count)
as_many first count = sym (length-range_with_len first count)

-- the parameters of a body that stands as in the input are its first locals
first_in : (b : Body) → IfSome (text_in b) (λ text. args_in b ≡ range_with_len (first_local_of text) (length (args_in b)))
first_in (bodies.Text params text) = ap (range_with_len (first_local_of text)) (as_many (first_local_of text) params)
first_in (bodies.List listed) = tt

pub args_first : (f : LocalFunction) → IfSome (as_text f) (λ text. args_of f ≡ range_with_len (first_local_of text) (arg_count_of f))
unfolding as_text args_of
args_first f = first_in f.body
