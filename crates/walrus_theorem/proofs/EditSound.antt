-- A module is well made just where it is sound throughout, and each body counts the locals that it declares.
use Rattle.std.proofs.Common.{◌≡◌, ℕ, ◌≤◌, Bool, true, List, [], ◌∷◌, length, refl, sym, ap, ◌∙◌, subst, ⊎_elim, get_or, arith}
use Rattle.std.proofs.lemmas.Grind.{get_or_default_zero}
use Rattle.std.specs.List.{list_all}
use Rattle.std.specs.Prelude.{Option, Some, None, IsSome, All, Contains}
use Rattle.walrus_base.specs.Types.{CompType, Func, Struct, Array}
use Rattle.walrus_base.specs.Operators.{Space, Types, Functions, Tables, Memories, Tags, Globals, Elements, DataSegments, Item, Block, OfType, Op}
use Rattle.walrus_bodies.specs.Blocks.{args_hold, block_holds}
use Rattle.walrus_bodies.specs.FunctionTypes.{is_function_comp, is_function_def}
use Rattle.walrus_model.specs.Abstract.{Abstract, TypeDef, Body, FunctionKind, ImportedFunction, LocalFunction, Uninitialised, Function}
use Rattle.walrus_model.specs.Config.{Config}
use Rattle.walrus_model.specs.Names.{body_of, body_of_function, body_of_kind}
use Rattle.walrus_model.specs.Refers.{IsUsed}
use Rattle.walrus_model.specs.Rules.{IsFunctionComp, IsFunctionType}
use Rattle.walrus_model.specs.Spaces.{Thing, look}
use Rattle.walrus_base.proofs.Lists.{Contains-none, Contains-uncons}
use Rattle.walrus_theorem.specs.OkLaws.{AreCounted}
use Rattle.walrus_theorem.specs.Sound.{BodyHolds, DeclaresFew, IsSound, IsSoundThroughout, KindHolds, ThingHolds, WellMadeIsSound}
use Rattle.walrus_theorem.specs.WellMade.{IsCounted, IsWellFormed, IsWellMade}
use Rattle.walrus_base.proofs.Counting.{no_longer}
use Rattle.walrus_theorem.proofs.Things.{body_at}
use Rattle.std.proofs.lemmas.Bool.{and_parts as and_both}

-- what stands in a list stands at a place of it
pub all_in : (P : ℕ → Type 0) (xs : List ℕ) → ((x : ℕ) → Contains xs x → P x) → All P xs
all_in P xs h = λ i d lt. h (get_or xs i d) (i, lt, get_or_default_zero xs i (get_or xs i d) lt ∙ sym (get_or_default_zero xs i d lt))

-- ---- the types of blocks

all_said : {X : Type 0} (f : X → Bool) (xs : List X) (x : X) → list_all f xs ≡ true → Contains xs x → f x ≡ true
all_said f [] x h at = absurd (Contains-none x at)
all_said f (y ∷ ys) x h at =
    let both = and_both (f y) (list_all f ys) h in
    ⊎_elim (λ (is : y ≡ x). ap f (sym is) ∙ both.0) (λ later. all_said f ys x both.1 later) (Contains-uncons y x ys at)

pub comp_said : (t : CompType ℕ) → is_function_comp t ≡ true → IsFunctionComp t
comp_said (Func params results) h = tt
comp_said (Struct fields) h = absurd cc
comp_said (Array element) h = absurd cc

def_said : (o : Option TypeDef) → is_function_def o ≡ true → (x : TypeDef) × (o ≡ Some x) × IsFunctionComp x.sub.comp
def_said None h = absurd cc
def_said (Some x) h = (x, refl, comp_said x.sub.comp h)

-- a body that reads has blocks of function types alone
pub blocks_typed : (c : Config) (m : Abstract) (ty t : ℕ) (b : Body) (o : Op) → IsWellFormed c m ty b → Contains b.operators o → Contains o.args (Block (OfType t)) → IsFunctionType m t
blocks_typed c m ty t b o well has block =
    let p : ℕ → Bool = λ n. is_function_def (m.types n) in
    def_said (m.types t) (all_said (block_holds p) o.args (Block (OfType t)) (all_said (λ (q : Op). args_hold p q.args) b.operators o well.read.operators.blocks has) block)

-- ---- of a well-made module each item is sound

module _ (c : Config) (m : Abstract) (made : IsWellMade c m) where
  few_declared : (i : ℕ) (b : Body) → body_of m i ≡ Some b → DeclaresFew b
  few_declared i b at ls apart are =
      let counted : IsCounted b = made.counted i b at in
      let least : length ls ≤ length counted.locals = no_longer ls counted.locals apart (all_in (Contains counted.locals) ls (λ x has. (counted.are x).1 (are x has))) in
      let most : b.declared ≤ 50_000 = made.rules.locals i b at in
      let count : b.declared ≡ length counted.locals = counted.count in
      omega (arith, least, most, count)

  kind_holds : (i : ℕ) (f : Function) (k : FunctionKind) → m.functions i ≡ Some f → f.kind ≡ k → KindHolds c m f.ty k
  kind_holds i f (ImportedFunction p) at is = tt
  kind_holds i f (LocalFunction b) at is =
      let here : body_of m i ≡ Some b = ap body_of_function at ∙ ap body_of_kind is in
      record { well = made.bodies i f b at is; typed = λ x used. made.rules.indices.locals i b x here used; few = few_declared i b here }
  kind_holds i f Uninitialised at is = made.writable.initialised i f at is

  thing_holds : (s : Space) (i : ℕ) (t : Thing s) → look m s i ≡ Some t → ThingHolds c m s i t
  thing_holds Types i x at = record {
    one_supertype = made.rules.types.one_supertype i x at;
    supertypes = λ u has. made.rules.types.supertypes i u x at has;
    others = λ u has. made.rules.types.others i u x at has;
  }
  thing_holds Functions i f at = record { typed = made.rules.function_types.functions i f at; kind = kind_holds i f f.kind at refl }
  thing_holds Tables i t at = record { limits = made.rules.limits.tables i t at; initialiser = λ g ops is has. made.rules.indices.tables i g t ops at is has }
  thing_holds Memories i x at = made.rules.limits.memories i x at
  thing_holds Tags i t at = made.rules.function_types.tags i t at
  thing_holds Globals i x at = λ g ops is has. made.rules.indices.globals i g x ops at is has
  thing_holds Elements i e at = λ table t offset kind there. made.rules.offsets.elements i table e t offset at kind there
  thing_holds DataSegments i d at = λ memory x offset kind there. made.rules.offsets.data_segments i memory d x offset at kind there

  pub item_sound : (x : Item) → IsSound c m x
  item_sound x = record {
    names = λ y at. made.rules.indices.written x y at;
    heaps = λ h at. made.writable.heaps x h at;
    consts = λ ops at. made.writable.consts x ops at;
    const_heaps = λ ops h at has. made.writable.const_heaps x ops h at has;
    holds = λ t at. thing_holds x.0 x.1 t at;
  }

  pub sound_throughout : IsSoundThroughout c m
  sound_throughout = record {
    imports = made.imports;
    items = item_sound;
    distinct = made.rules.exports.distinct;
    exports = made.rules.indices.exports;
    start = made.rules.indices.start;
    starts_empty = made.rules.exports.start;
    customs = made.customs;
  }

-- ---- and back

module _ (c : Config) (m : Abstract) (sound : IsSoundThroughout c m) where
  body_holds : (i : ℕ) (f : Function) (b : Body) → m.functions i ≡ Some f → f.kind ≡ LocalFunction b → BodyHolds c m f.ty b
  body_holds i f b at is = subst (λ (k : FunctionKind). KindHolds c m f.ty k) is ((sound.items (Functions, i)).holds f at).kind

  -- the same by a function's number
  body_there : (i : ℕ) (b : Body) → body_of m i ≡ Some b → (ty : ℕ) × BodyHolds c m ty b
  body_there i b at = let g = body_at (m.functions i) b at in ((g.0).ty, body_holds i g.0 b g.1 g.2)

  pub used_typed : (i : ℕ) (b : Body) (x : ℕ) → body_of m i ≡ Some b → IsUsed b x → IsSome (b.local_type x)
  used_typed i b x at used = (body_there i b at).1.typed x used

  module _ (counts : AreCounted m) where
    pub well_made : IsWellMade c m
    well_made = record {
      imports = sound.imports;
      writable = record {
        heaps = λ x h at. (sound.items x).heaps h at;
        const_heaps = λ x ops h at has. (sound.items x).const_heaps ops h at has;
        consts = λ x ops at. (sound.items x).consts ops at;
        initialised = λ i f at bare. subst (λ (k : FunctionKind). KindHolds c m f.ty k) bare ((sound.items (Functions, i)).holds f at).kind;
      };
      bodies = λ i f b at is. (body_holds i f b at is).well;
      rules = record {
        types = record {
          one_supertype = λ i x at. ((sound.items (Types, i)).holds x at).one_supertype;
          supertypes = λ i u x at has. ((sound.items (Types, i)).holds x at).supertypes u has;
          others = λ i u x at has. ((sound.items (Types, i)).holds x at).others u has;
        };
        indices = record {
          written = λ x y at. (sound.items x).names y at;
          locals = used_typed;
          exports = sound.exports;
          start = sound.start;
          tables = λ i g t ops at is has. ((sound.items (Tables, i)).holds t at).initialiser g ops is has;
          globals = λ i g x ops at is has. (sound.items (Globals, i)).holds x at g ops is has;
        };
        function_types = record {
          functions = λ i f at. ((sound.items (Functions, i)).holds f at).typed;
          tags = λ i t at. (sound.items (Tags, i)).holds t at;
          blocks = λ f t b o at has block. let there = body_there f b at in blocks_typed c m there.0 t b o there.1.well has block;
        };
        limits = record { tables = λ i t at. ((sound.items (Tables, i)).holds t at).limits; memories = λ i x at. (sound.items (Memories, i)).holds x at };
        exports = record { distinct = sound.distinct; start = sound.starts_empty };
        offsets = record {
          elements = λ i table e t offset at kind there. (sound.items (Elements, i)).holds e at table t offset kind there;
          data_segments = λ i memory d x offset at kind there. (sound.items (DataSegments, i)).holds d at memory x offset kind there;
        };
        locals = λ f b at.
            let counted = counts f b at in
            let few : length counted.locals ≤ 50_000 = (body_there f b at).1.few counted.locals counted.distinct (λ x has. (counted.are x).0 has) in
            subst (λ (n : ℕ). n ≤ 50_000) (sym counted.count) few;
      };
      customs = sound.customs;
      counted = counts;
    }

pub well_made_is_sound : WellMadeIsSound
well_made_is_sound c m = (λ made. (sound_throughout c m made, made.counted), λ both. well_made c m both.0 both.1)
