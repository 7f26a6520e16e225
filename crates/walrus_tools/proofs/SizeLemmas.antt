-- The list of the functions that stay: what is so of each is so of all.
use Rattle.std.proofs.Common.{◌≡◌, ℕ, ◌+◌, ◌<◌, List, [], ◌∷◌, ◌++◌, length, map, get_or, take, sym, ap, ◌∙◌}
use Rattle.std.proofs.lemmas.List.{map-append, map_more}
use Rattle.std.specs.declared.ops.Range.{Range}
use Rattle.walrus.specs.Base.IdValue.{Id}
use Rattle.walrus.specs.Base.FunctionKey.{FunctionKey}
use Rattle.walrus.specs.Model.Abstract.{Name}
use Rattle.walrus.specs.Items.Transform.{range_of}
use Rattle.walrus_tools.specs.FunctionList.{ListedFunction, listed_of, listed_seen}
use Rattle.walrus_tools.specs.declared.tool.list.Listed.{Listed}

-- behind the functions before stands the next one
pub listed_more : (names : ℕ → List Name) (bodies : List (Id FunctionKey × Range ℕ)) (i : ℕ) (d : Id FunctionKey × Range ℕ) → i < length bodies → (old new : List Listed) (f : Listed) → new ≡ old ++ f ∷ []
    → map listed_seen old ≡ map (listed_of names) (map range_of (take i bodies)) → listed_seen f ≡ listed_of names (range_of (get_or bodies i d))
    → map listed_seen new ≡ map (listed_of names) (map range_of (take (i + 1) bodies))
listed_more names bodies i d lt old new f is were same =
    let before : List (ℕ × (ℕ × ℕ)) = map range_of (take i bodies) in
    let next : ℕ × (ℕ × ℕ) = range_of (get_or bodies i d) in
    ap (map listed_seen) is
    ∙ map-append listed_seen old (f ∷ [])
    ∙ ap (λ (fs : List ListedFunction). fs ++ listed_seen f ∷ []) were
    ∙ ap (λ (g : ListedFunction). map (listed_of names) before ++ g ∷ []) same
    ∙ sym (map-append (listed_of names) before (next ∷ []))
    ∙ sym (ap (map (listed_of names)) (map_more range_of bodies i d lt))
