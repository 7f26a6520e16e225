-- Why a function stays, of what was parsed: what the whole way comes to, and each refusal.
use Rattle.std.proofs.Common.{◌≡◌, ℕ, List, Option, sym, ap, ◌∙◌, subst}
use Rattle.std.specs.Prelude.{IsSome, Ok, Err, String, string_bytes}
use Rattle.std.specs.declared.alloc.Global.{Global}
use Rattle.walrus.specs.Base.Arena.{item_at}
use Rattle.walrus.specs.Base.Operators.{Item, function_item}
use Rattle.walrus.specs.Model.Abstract.{Abstract, Custom}
use Rattle.walrus.specs.Model.Config.{Config}
use Rattle.walrus.specs.Items.CustomSection.{Ghosts}
use Rattle.walrus.specs.Items.Error.{Error}
use Rattle.walrus.specs.Items.Error.TheVariants as error
use Rattle.walrus.specs.Items.Functions.{functions}
use Rattle.walrus.specs.Code.Transform.{Transform}
use Rattle.walrus.specs.Contents.Contents.{Contents}
use Rattle.walrus.specs.Modules.Parsed.{IsParsed}
use Rattle.walrus.specs.Modules.View.{contents_of, view}
use Rattle.walrus.specs.Modules.SectionEntry.{SectionEntry}
use Rattle.walrus.specs.Modules.Module.{Module}
use Rattle.walrus.specs.Why.{Explains}
use Rattle.walrus.proofs.EditEnds.{edit_refused, plain_read}
use Rattle.walrus.specs.Edits.{with_customs}
use Rattle.walrus_tools.specs.Measures.{IsMeasured, IsSame}
use Rattle.walrus_tools.specs.Reasons.{AnswersReason, FindsFunction, LacksFunction, report_text}

module _ {V : Type 0} {O : V → Type 0} (G : (v : V) → Ghosts (O v)) (c : Config) (bytes : List ℕ) (read : Module (SectionEntry V O)) (parsed : IsParsed c bytes (view G read)) where
  module _ (function : ℕ) where
    abbrev Lacks : Contents → Error → Type 0
    Lacks = LacksFunction function

    -- there is no such function
    pub function_lacks : (e : Error) → FindsFunction (functions read.funcs) function (Err e) → AnswersReason c bytes function (Err e)
    function_lacks error.NotFound h = edit_refused G IsSame Lacks c bytes read parsed (λ k d. d) (λ d. d) error.NotFound h
    function_lacks _ h = absurd h

    module _ (n : ℕ) (n_is : n ≡ function) (there : IsSome (item_at (functions read.funcs) function)) where
      -- a chain leads to it, or none does
      module _ (chain : Option (List Item)) (found : Explains (view G read) (function_item n) chain) where
        pub explains : Explains (with_customs (view G read).customs (contents_of read)) (function_item function) chain
        explains = subst (λ (v : Abstract). Explains v (function_item function) chain) (plain_read G IsSame Lacks c bytes read parsed) (subst (λ (k : ℕ). Explains (view G read) (function_item k) chain) n_is found)

        pub reason_told : (u : Abstract) (x : Transform) (m : IsMeasured IsSame c bytes u x) → m.comes.module_parsed ≡ contents_of read → m.comes.customs ≡ (view G read).customs
            → (text : String Global) → string_bytes text ≡ report_text (function_item n) chain x → AnswersReason c bytes function (Ok text)
        reason_told u x m held same text says = record {
          module_left = u;
          transform = x;
          measured = m;
          there = subst (λ (h : Contents). IsSome (item_at (functions h.funcs) function)) (sym held) there;
          chain = chain;
          explains = subst (λ (h : Contents). Explains (with_customs m.comes.customs h) (function_item function) chain) (sym held)
              (subst (λ (cs : List Custom). Explains (with_customs cs (contents_of read)) (function_item function) chain) (sym same) explains);
          is = says ∙ ap (λ (k : ℕ). report_text (function_item k) chain x) n_is;
        }
