-- What the loop keeps that appends groups.
use Rattle.std.proofs.Common.{◌≡◌, ℕ, ◌+◌, List, [], ◌∷◌, ◌++◌, length, map, refl, sym, ap, ◌∙◌, subst, arith, append_assoc, append-nil}
use Rattle.std.specs.List.{AllZip}
use Rattle.std.proofs.lemmas.List.{length-append}
use Rattle.wasm_entries.specs.Record.{Group}
use Rattle.wasm_entries.specs.TypeSpelling.{GroupFits, group_bytes}
use Rattle.wasm_forms.specs.Spelling.{row_bytes}
use Rattle.wasm_forms.specs.Writing.{EachFits}
use Rattle.walrus_groups.specs.Appended.{AppendsGroup, AppendsGroups}
use Rattle.walrus_groups.proofs.WrittenTurns.{Completes, completes_first, completes_last, completes_next}

row_snoc : {X : Type 0} (spell : X → List ℕ) (xs : List X) (x : X) → row_bytes spell (xs ++ x ∷ []) ≡ row_bytes spell xs ++ spell x
row_snoc spell [] x = append-nil (spell x)
row_snoc spell (y ∷ ys) x = ap (λ (l : List ℕ). spell y ++ l) (row_snoc spell ys x) ∙ sym (append_assoc (spell y) (row_bytes spell ys) (spell x))

each_snoc : {X : Type 0} (F : X → Type 0) (xs : List X) (x : X) → EachFits F xs → F x → EachFits F (xs ++ x ∷ [])
each_snoc F [] x all one = (one, tt)
each_snoc F (y ∷ ys) x all one = (all.0, each_snoc F ys x all.1 one)

map_same : {X : Type 0} (xs : List X) → map (λ (x : X). x) xs ≡ xs
map_same [] = refl
map_same (x ∷ xs) = ap (λ l. x ∷ l) (map_same xs)

module _ {A : Type 0} (R : A → Group → Type 0) (all : List A) where
  -- the groups complete those of what is left
  abbrev pub Complete : List A → List Group → Type 0
  Complete left groups = Completes R all left (λ (g : Group). g) groups

  pub none_appended : (left : List A) (old : List ℕ) → left ≡ all → AppendsGroups (Complete left) 0 old old
  none_appended left old same = record {
    groups = [];
    said = completes_first R all left (λ (g : Group). g) [] same refl;
    appends = sym (append-nil old);
    counted = refl;
    fit = tt;
  }

  pub one_appended : (left after : List A) (e : A) (count more : ℕ) (old now new : List ℕ) → left ≡ e ∷ after → AppendsGroups (Complete left) count old now → AppendsGroup (R e) count more now new → AppendsGroups (Complete after) more old new
  one_appended left after e count more old now new step a b = record {
    groups = a.groups ++ b.one ∷ [];
    said = completes_next R all left after e (λ (g : Group). g) a.groups (a.groups ++ b.one ∷ []) b.one step refl b.said a.said;
    appends = b.appends ∙ ap (λ (l : List ℕ). l ++ group_bytes b.one) a.appends ∙ append_assoc old (row_bytes group_bytes a.groups) (group_bytes b.one) ∙ ap (λ (l : List ℕ). old ++ l) (sym (row_snoc group_bytes a.groups b.one));
    counted = omega (arith, b.counted, a.counted, length-append a.groups (b.one ∷ []));
    fit = each_snoc GroupFits a.groups b.one a.fit b.fits;
  }

  pub none_left : (left : List A) (count : ℕ) (old new : List ℕ) → left ≡ [] → AppendsGroups (Complete left) count old new → AppendsGroups (AllZip R all) count old new
  none_left left count old new none a = record {
    groups = a.groups;
    said = subst (AllZip R all) (map_same a.groups) (completes_last R all left (λ (g : Group). g) a.groups none a.said);
    appends = a.appends;
    counted = a.counted;
    fit = a.fit;
  }

  pub as_many_left : (left after : List A) (count : ℕ) (old new : List ℕ) → left ≡ after → AppendsGroups (Complete left) count old new → AppendsGroups (Complete after) count old new
  as_many_left left after count old new same a = subst (λ (l : List A). AppendsGroups (Complete l) count old new) same a

-- of groups of which that is said, this is said
pub said_else : (Said Else : List Group → Type 0) (count : ℕ) (old new : List ℕ) → ((groups : List Group) → Said groups → Else groups) → AppendsGroups Said count old new → AppendsGroups Else count old new
said_else Said Else count old new so a = record {
  groups = a.groups;
  said = so a.groups a.said;
  appends = a.appends;
  counted = a.counted;
  fit = a.fit;
}
