-- How a search goes on that notes who named each item.
use Rattle.std.proofs.Common.{◌≡◌, ℕ, ◌<◌, ◌≤◌, inl, inr, List, [], ◌++◌, get_or, length, map, Some, None, sym, ap, ◌∙◌, subst, arith}
use Rattle.std.specs.Prelude.{◌↔◌, Contains, vec_len}
use Rattle.std.proofs.lemmas.List.{get_or_default}
use Rattle.walrus_base.specs.Operators.{Item, Types}
use Rattle.walrus_code.specs.Code.{item_of}
use Rattle.walrus_model.specs.Abstract.{Abstract}
use Rattle.walrus_model.specs.Refers.{Refers}
use Rattle.walrus_model.specs.Roots.{IsRoot}
use Rattle.walrus_contents.specs.Named.{NamesItself, root_names}
use Rattle.walrus_contents.specs.There.{IsSound}
use Rattle.walrus_contents.specs.View.{contents_view}
use Rattle.walrus_contents.specs.declared.parts.Contents.{Contents}
use Rattle.walrus_contents.proofs.Groups.{own_refers}
use Rattle.walrus_theorem.proofs.SameItems.{with_own}
use Rattle.walrus.specs.Marked.{ReachesUnsound}
use Rattle.walrus.specs.Traced.{IsTraced, MayName, Names, Traces, item_in}
use Rattle.walrus.specs.Used.{Enters, Follows, NamesDead}
use Rattle.walrus.specs.Worklist.{Takes, entered_items}
use Rattle.walrus.specs.declared.passes.why.Traced.{Traced}
use Rattle.walrus.specs.declared.passes.worklist.Worklist.{Worklist}
use Rattle.walrus.proofs.Followed.{entered_all, follows_init, follows_more, none_taken, unsound_by, unsound_root}
use Rattle.walrus.proofs.ReachedLemmas.{roots_are}
use Rattle.walrus.proofs.SameRoots.{refers_on}
use Rattle.walrus.proofs.SameSearch.{enters_all_on, enters_on, names_dead_on, sound_on, unfit_on}
use Rattle.walrus.proofs.Tracing.{traces_map, traces_none}

module _ (held : Contents) (asked : List Item) where
  abbrev v : Abstract
  v = contents_view held

  abbrev w : Abstract
  w = with_own v [] asked

  abbrev roots : List Item
  roots = root_names held ++ asked

  to_parts : (items : List Item) (places : List ℕ) → Traces (IsRoot w) w items places → Traces (Contains roots) v items places
  to_parts items places t = traces_map (IsRoot w) (Contains roots) w v (λ x r. (roots_are held asked x).0 r) (λ x y r. refers_on w v.customs v.section_roots x y r) items places t

  to_whole : (items : List Item) (places : List ℕ) → Traces (Contains roots) v items places → Traces (IsRoot w) w items places
  to_whole items places t = traces_map (Contains roots) (IsRoot w) v w (λ x c. (roots_are held asked x).1 c) (λ x y r. refers_on v [] asked x y r) items places t

  -- ---- the roots

  module _ (named : List Item) (are : named ≡ roots) where
    pub root_dead : NamesDead v named → ReachesUnsound w
    root_dead dead = unsound_root w roots (roots_are held asked) (names_dead_on v [] asked roots (subst (λ (xs : List Item). NamesDead v xs) are dead))

    module _ (t new : Traced) (nothing : entered_items t.list ≡ []) (names : Names v None named t new) where
      entered : Enters w roots t.list new.list
      entered = enters_on v [] asked roots t.list new.list (subst (λ (xs : List Item). Enters v xs t.list new.list) are names.enters)

      pub none_taken_yet : new.list.taken ≡ 0
      none_taken_yet = entered.taken ∙ none_taken t.list nothing

      pub roots_follow : Follows w new.list
      roots_follow = follows_init w t.list new.list roots nothing none_taken_yet entered (roots_are held asked)

      pub roots_traced : t.namers.items ≡ [] → Traces (IsRoot w) w (entered_items new.list) new.namers.items
      roots_traced no_places = to_whole (entered_items new.list) new.namers.items (names.traces roots (λ x c. subst (λ (xs : List Item). Contains xs x) are c) first) where
        first : Traces (Contains roots) v (entered_items t.list) t.namers.items
        first = subst (λ (xs : List Item). Traces (Contains roots) v xs t.namers.items) (sym nothing) (subst (λ (ps : List ℕ). Traces (Contains roots) v [] ps) (sym no_places) (traces_none (Contains roots) v))

  -- ---- a turn

  module _ (x : Item) (old : Worklist) (follows : Follows w old) (mid : Worklist) (takes : Takes x old mid) where
    pub not_sound : (IsSound v x → ⊥) → ReachesUnsound w
    not_sound unsound = unsound_by w old follows x mid takes (unfit_on v [] asked x (inl unsound))

    module _ (put added : List Item) (same : put ≡ added) (all : (y : Item) → Contains added y ↔ NamesItself v x y) where
      are : (y : Item) → Contains put y ↔ NamesItself v x y
      are y = subst (λ (xs : List Item). Contains xs y ↔ NamesItself v x y) (sym same) (all y)

      pub name_dead : NamesDead v put → ReachesUnsound w
      name_dead dead = unsound_by w old follows x mid takes (unfit_on v [] asked x (inr (dead.0, (are dead.0).0 dead.1, dead.2)))

      module _ (turn : ℕ) (counted : old.taken ≡ turn) (t new : Traced) (here : t.list ≡ mid) (names : Names v (Some turn) put t new) where
        enters : Enters v put mid new.list
        enters = subst (λ (l : Worklist). Enters v put l new.list) here names.enters

        pub turn_follows : IsSound v x → Follows w new.list
        turn_follows sound = follows_more w old follows x mid takes new.list (sound_on v [] asked x sound) (enters_all_on v [] asked x mid new.list (record { named = put; are = are; enters = enters }))

        pub turn_traced : Traces (IsRoot w) w (entered_items old) t.namers.items → Traces (IsRoot w) w (entered_items new.list) new.namers.items
        turn_traced traced = to_whole (entered_items new.list) new.namers.items (names.traces roots may (subst (λ (xs : List Item). Traces (Contains roots) v xs t.namers.items) (sym items) (to_parts (entered_items old) t.namers.items traced))) where
          items : entered_items t.list ≡ entered_items old
          items = ap entered_items here ∙ ap (λ ids. map item_of ids.items) takes.entered

          waits : turn < length (entered_items old)
          waits = (let before : old.taken < length (entered_items old) = takes.waits in omega (arith, before, counted))

          its : item_in (entered_items old) turn ≡ x
          its = get_or_default (entered_items old) turn (Types, 0) x waits ∙ subst (λ (n : ℕ). get_or (entered_items old) n x ≡ x) counted takes.is

          may : (y : Item) → Contains put y → MayName roots v (entered_items t.list) (Some turn) y
          may y c = subst (λ (xs : List Item). (turn < length xs) × Refers v (item_in xs turn) y) (sym items)
              (waits, subst (λ (z : Item). Refers v z y) (sym its) (own_refers v x y ((are y).0 c)))

  -- ---- the end

  pub traced_all : (t : Traced) → Follows w t.list → vec_len t.list.entered ≤ t.list.taken → Traces (IsRoot w) w (entered_items t.list) t.namers.items → IsTraced w t
  traced_all t follows all traces = record { reached = entered_all w t.list follows all; traces = traces }
