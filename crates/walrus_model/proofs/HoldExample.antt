-- The rules hold of the worked module with two functions.
use Rattle.std.proofs.Common.{◌≡◌, ℕ, zero, suc, ◌≤◌, [], ◌∷◌, length, refl, sym, subst, arith, true}
use Rattle.std.specs.Prelude.{Some, Contains, ◌≢◌}
use Rattle.std.proofs.lemmas.List.Elements.{All-nil}
use Rattle.std.proofs.lemmas.List.Kept.{AllPairs-cons}
use Rattle.walrus_base.specs.Types.{Func, comp_names}
use Rattle.walrus_base.specs.Operators.{Types, Functions, Tables, Memories, Tags, Globals, Elements, DataSegments, Item, Block, OfType, Op}
use Rattle.walrus_model.specs.Abstract.{TypeDef, Function, Body, Export}
use Rattle.walrus_model.specs.Live.{IsLive}
use Rattle.walrus_model.specs.Refers.{written_in, IsUsed}
use Rattle.walrus_model.specs.Names.{body_of}
use Rattle.walrus_model.specs.Rules.{IsFunctionType, Holds}
use Rattle.walrus_model.specs.Sections.{function_with, body_with, export_of}
use Rattle.walrus_model.specs.Examples.{two_functions_sections, two_functions, just_end, export_f}
use Rattle.walrus_base.proofs.Lists.{Contains-none}
use Rattle.walrus_model.proofs.Examples.{only_one}

-- the type of functions with no parameters and no results, alone in its group
abbrev empty_type : TypeDef
empty_type = record { group = 0 ∷ []; sub = record { is_final = true; supertypes = []; comp = Func [] [] } }

type_is : (t : ℕ) (x : TypeDef) → two_functions.types t ≡ Some x → empty_type ≡ x
type_is zero x e = cc
type_is (suc t) x e = absurd (cc)

function_is : (i : ℕ) (f : Function) → two_functions.functions i ≡ Some f → function_with two_functions_sections (0, ([], just_end)) ≡ f
function_is zero f e = cc
function_is (suc zero) f e = cc
function_is (suc (suc i)) f e = absurd (cc)

body_is : (i : ℕ) (b : Body) → body_of two_functions i ≡ Some b → body_with [] ([], just_end) ≡ b
body_is zero b e = cc
body_is (suc zero) b e = cc
body_is (suc (suc i)) b e = absurd (cc)

type_live : (y : Item) → Contains ((Types, 0) ∷ []) y → IsLive two_functions y
type_live y at = subst (IsLive two_functions) (only_one (Types, 0) y at) refl

written_live : (x y : Item) → Contains (written_in two_functions x) y → IsLive two_functions y
written_live (Types, zero) y at = type_live y at
written_live (Types, suc i) y at = absurd (Contains-none y at)
written_live (Functions, zero) y at = type_live y at
written_live (Functions, suc zero) y at = type_live y at
written_live (Functions, suc (suc i)) y at = absurd (Contains-none y at)
written_live (Tables, i) y at = absurd (Contains-none y at)
written_live (Memories, i) y at = absurd (Contains-none y at)
written_live (Tags, i) y at = absurd (Contains-none y at)
written_live (Globals, i) y at = absurd (Contains-none y at)
written_live (Elements, i) y at = absurd (Contains-none y at)
written_live (DataSegments, i) y at = absurd (Contains-none y at)

function_type_holds : (i : ℕ) (f : Function) → two_functions.functions i ≡ Some f → IsFunctionType two_functions f.ty
function_type_holds i f e = subst (λ (g : Function). IsFunctionType two_functions g.ty) (function_is i f e) (empty_type, refl, tt)

no_block : (f t : ℕ) (b : Body) (o : Op) → body_of two_functions f ≡ Some b → Contains b.operators o → Contains o.args (Block (OfType t)) → IsFunctionType two_functions t
no_block f t b o e at block =
    let last = only_one (record { op = 0x0B; args = [] }) o (subst (λ (c : Body). Contains c.operators o) (sym (body_is f b e)) at) in
    absurd (Contains-none (Block (OfType t)) (subst (λ (p : Op). Contains p.args (Block (OfType t))) (sym last) block))

no_local : (f x : ℕ) (b : Body) → body_of two_functions f ≡ Some b → IsUsed b x → ⊥
no_local f x b e at = Contains-none x (subst (λ (c : Body). IsUsed c x) (sym (body_is f b e)) at)

abbrev DifferentNames : Export → Export → Type 0
DifferentNames d e = d.name ≢ e.name

pub two_functions_hold : Holds two_functions
two_functions_hold = record {
  types = record {
    one_supertype = λ t x e. subst (λ (y : TypeDef). length y.sub.supertypes ≤ 1) (type_is t x e) (omega arith);
    supertypes = λ t u x e at. absurd (Contains-none u (subst (λ (y : TypeDef). Contains y.sub.supertypes u) (sym (type_is t x e)) at));
    others = λ t u x e at. absurd (Contains-none u (subst (λ (y : TypeDef). Contains (comp_names y.sub.comp) u) (sym (type_is t x e)) at));
  };
  indices = record {
    written = written_live;
    locals = λ f b x e at. absurd (no_local f x b e at);
    exports = λ e at. subst (λ (d : Export). IsLive two_functions d.item) (only_one (export_of (export_f 1)) e at) refl;
    start = λ f e. absurd (cc);
    tables = λ i g t ops e is at. absurd (cc);
    globals = λ i g x ops e is at. absurd (cc);
  };
  function_types = record { functions = function_type_holds; tags = λ i t e. absurd (cc); blocks = no_block };
  limits = record { tables = λ i t e. absurd (cc); memories = λ i x e. absurd (cc) };
  exports = record { distinct = AllPairs-cons DifferentNames (export_of (export_f 1)) [] (All-nil (DifferentNames (export_of (export_f 1)))) (λ i j d less at. absurd (omega arith)); start = λ i f e is. absurd (cc) };
  offsets = record { elements = λ i table e t offset is kind at. absurd (cc); data_segments = λ i memory d x offset is kind at. absurd (cc) };
  locals = λ f b e. subst (λ (c : Body). c.declared ≤ 50_000) (body_is f b e) (omega arith);
}
