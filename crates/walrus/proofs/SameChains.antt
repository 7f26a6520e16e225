-- Modules that differ in custom sections alone, where these ask to keep the same items: their chains of references are the same.
use Rattle.std.proofs.Common.{◌≡◌, List, [], ◌∷◌, flat_map, Option, Some, None, subst}
use Rattle.std.specs.Prelude.{option_map, Result, Ok, Err, MatchResult}
use Rattle.std.specs.Global.{Vec}
use Rattle.walrus_base.specs.Operators.{Item}
use Rattle.walrus_code.specs.declared.items.ItemId.{ItemId}
use Rattle.walrus_model.specs.Abstract.{Abstract, Custom}
use Rattle.walrus_items.specs.Roots.{RootLists, no_roots, with_roots}
use Rattle.walrus_items.specs.declared.custom.CustomSection.{Ghosts}
use Rattle.walrus_items.specs.declared.error.Error.{Error}
use Rattle.walrus_contents.specs.Named.{items_in}
use Rattle.walrus_contents.specs.There.{IsRefusal}
use Rattle.walrus_contents.proofs.NamedLemmas.{refusal_map}
use Rattle.walrus_module.specs.Meaning.{Meaning}
use Rattle.walrus_module.specs.View.{held_view, meanings, view}
use Rattle.walrus_module.specs.declared.entry.SectionEntry.{SectionEntry}
use Rattle.walrus_module.specs.declared.module.Module.{Module}
use Rattle.walrus_theorem.proofs.SameItems.{with_own}
use Rattle.walrus.specs.Asked.{asked_items}
use Rattle.walrus.specs.Marked.{ReachesUnsound}
use Rattle.walrus.specs.Why.{Explains, IsChain, IsWay}
use Rattle.walrus.proofs.AskedItems.{asked_are_kept}
use Rattle.walrus.proofs.SameRoots.{SameMembers, back, refers_on, root_on, unsound_still}

-- what a search for a chain answers
abbrev pub IsExplained : Abstract → Item → Result (Option (Vec ItemId)) Error → Type 0
IsExplained v x r = MatchResult r (λ chain. Explains v x (option_map items_in chain)) (IsRefusal (ReachesUnsound v))

module _ (v : Abstract) (customs : List Custom) (roots : List Item) (same : SameMembers v.section_roots roots) where
  abbrev other : Abstract
  other = with_own v customs roots

  leads_on : (first : Item) (others : List Item) (x : Item) → IsWay v first others x → IsWay other first others x
  leads_on first [] x h = h
  leads_on first (next ∷ others) x h = (refers_on v customs roots first next h.0, leads_on next others x h.1)

  chain_on : (chain : List Item) (x : Item) → IsChain v chain x → IsChain other chain x
  chain_on chain x c = record {
    first = c.first;
    others = c.others;
    is = c.is;
    rooted = root_on v customs roots same c.first c.rooted;
    leads = leads_on c.first c.others x c.leads;
    once = c.once;
  }

  explains_on : (x : Item) (answer : Option (List Item)) → Explains v x answer → Explains other x answer
  explains_on x None not_reached = λ reached. not_reached (back v customs roots same x reached)
  explains_on x (Some chain) is = chain_on chain x is

  explained_on : (x : Item) (r : Result (Option (Vec ItemId)) Error) → IsExplained v x r → IsExplained other x r
  explained_on x (Ok answer) h = explains_on x (option_map items_in answer) h
  explained_on x (Err e) h = refusal_map (ReachesUnsound v) (ReachesUnsound other) (unsound_still v customs roots same) e h

-- what is found where just that is asked for which custom sections ask to keep is found of their module
pub explained_of : {V : Type 0} {O : V → Type 0} (G : (v : V) → Ghosts (O v)) (m : Module (SectionEntry V O)) (asked : RootLists)
    → asked ≡ with_roots no_roots (flat_map (λ (s : Meaning). s.roots) (meanings G m)) → (parts : Abstract) → parts ≡ held_view m
    → (x : Item) (r : Result (Option (Vec ItemId)) Error) → IsExplained (with_own parts [] (asked_items asked)) x r → IsExplained (view G m) x r
explained_of G m asked is parts are x r found =
    explained_on (with_own (held_view m) [] (asked_items asked)) (view G m).customs (view G m).section_roots
    (asked_are_kept asked (flat_map (λ (s : Meaning). s.roots) (meanings G m)) is) x r
    (subst (λ (p : Abstract). IsExplained (with_own p [] (asked_items asked)) x r) are found)
